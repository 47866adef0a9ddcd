use Rattle.std.proofs.Common.{◌≡◌, ℤ, ◌+ℤ◌, rules, arith, w32, w64}
use Rattle.std.proofs.lemmas.Int.{ints, to_z-of_z}
use mir.Val.{SFits}
use Rattle.loc_base.specs.Bits.{width_of, value_of}
use Rattle.design_core.specs.Operator.{integer_of}
use Rattle.design_core.specs.Valuation.{place_within, distance_of}
use Rattle.plain_values.proofs.EvaluateSelect.{near_bounds}
use Rattle.net_values.proofs.Picked.{near-position}
use Rattle.net_values.proofs.select.Ranged.position.Goals as goal

pub returns : goal.returns
returns c =
    let z : ℤ = integer_of c.args.index.signed (width_of c.args.index.word) (value_of c.args.index.word) in
    let bounds = near_bounds z c.in-Some.near c.in-Some.ensures in
    let left : SFits w32 c.args.self.left = search rules in
    let right : SFits w32 c.args.self.right = search rules in
    let offset : SFits w32 c.args.offset = search rules in
    let from : c.from.result ≡ c.args.offset = simp to_z-of_z at c.from.ensures in
    let offset' : SFits w64 c.from.result = search rules in
    let near : SFits w64 c.in-Some.near = omega (arith, ints, bounds) in
    let sum : SFits w64 (c.in-Some.near +ℤ c.from.result) = omega (arith, ints, bounds, from) in
    let distance : SFits w64 c.distance_of.result = search rules in
    let first : c.distance_of.result ≡ distance_of c.args.self.left c.args.self.right (c.in-Some.near +ℤ c.from.result) = simp to_z-of_z at c.distance_of.ensures in
    let second : c.place_within.result ≡ place_within c.width-width.result c.distance_of.result = simp to_z-of_z at c.place_within.ensures in
    let third = near-position (width_of c.args.self.word) c.args.self.left c.args.self.right z c.in-Some.near c.args.offset c.in-Some.ensures in
    cc (first, second, third, from, c.width-width.ensures)

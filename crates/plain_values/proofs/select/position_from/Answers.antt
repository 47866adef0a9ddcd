use Rattle.std.proofs.Common.{◌≡◌, ◌∙◌, sym, ℤ, ◌+ℤ◌, None, rules, arith, w32, w64}
use Rattle.std.proofs.lemmas.Int.{ints, to_z-of_z}
use mir.Val.{SFits}
use Rattle.loc_base.specs.Bits.{width_of, value_of}
use Rattle.design_core.specs.Operator.{integer_of}
use Rattle.design_core.specs.Valuation.{place_within, distance_of}
use Rattle.plain_values.proofs.EvaluateSelect.{near_bounds, near_within, near_position, far_position}
use Rattle.plain_values.specs.Evaluate.{near_of}
use Rattle.plain_values.proofs.select.position_from.Goals as goal

pub returns : goal.returns
returns c =
    let z : ℤ = integer_of c.args.signed (width_of c.args.index) (value_of c.args.index) in
    let bounds = near_bounds z c.in-Some.near c.in-Some.ensures in
    let left : SFits w32 c.args.signal.now.left = search rules in
    let right : SFits w32 c.args.signal.now.right = search rules in
    let offset : SFits w32 c.args.offset = search rules in
    let from : c.from.result ≡ c.args.offset = simp to_z-of_z at c.from.ensures in
    let offset' : SFits w64 c.from.result = search rules in
    let near : SFits w64 c.in-Some.near = omega (arith, ints, bounds) in
    let sum : SFits w64 (c.in-Some.near +ℤ c.from.result) = omega (arith, ints, bounds, from) in
    let distance : SFits w64 c.distance_of.result = search rules in
    let first : c.distance_of.result ≡ distance_of c.args.signal.now.left c.args.signal.now.right (c.in-Some.near +ℤ c.from.result) =
    simp to_z-of_z at c.distance_of.ensures in
    let second : c.place_within.result ≡ place_within c.from-width.result c.distance_of.result = simp to_z-of_z at c.place_within.ensures in
    let third = near_position c.args.signal.now z c.in-Some.near c.args.offset c.in-Some.ensures in
    cc (first, second, third, from, c.from-width.ensures)

pub returns-in_default : goal.returns-in_default
returns-in_default c =
    let z : ℤ = integer_of c.args.signed (width_of c.args.index) (value_of c.args.index) in
    let none : None ≡ near_of z = sym c.in_default.is ∙ c.near_index.ensures in
    sym (far_position c.args.signal.now z c.args.offset none (search rules) (search rules) (search rules) (search rules))

pub overflow_add-near : goal.overflow_add-near
overflow_add-near c =
    let z : ℤ = integer_of c.args.signed (width_of c.args.index) (value_of c.args.index) in
    let offset : SFits w32 c.args.offset = search rules in
    let within = near_within z c.in-Some.near c.args.offset c.in-Some.ensures offset in
    let near : SFits w64 c.in-Some.near = within.0 in
    let from : c.from.result ≡ c.args.offset = simp to_z-of_z at c.from.ensures in
    let offset' : SFits w64 c.from.result = search rules in
    let sum : SFits w64 (c.in-Some.near +ℤ c.from.result) = rw from within.1.0 in
    simp to_z-of_z sum

pub distance_of-requires : goal.distance_of-requires
distance_of-requires c =
    let z : ℤ = integer_of c.args.signed (width_of c.args.index) (value_of c.args.index) in
    let offset : SFits w32 c.args.offset = search rules in
    let within = near_within z c.in-Some.near c.args.offset c.in-Some.ensures offset in
    let near : SFits w64 c.in-Some.near = within.0 in
    let from : c.from.result ≡ c.args.offset = simp to_z-of_z at c.from.ensures in
    let offset' : SFits w64 c.from.result = search rules in
    let sum : SFits w64 (c.in-Some.near +ℤ c.from.result) = rw from within.1.0 in
    record { low = simp to_z-of_z (rw from within.1.1.0); high = simp to_z-of_z (rw from within.1.1.1) }

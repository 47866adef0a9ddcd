use Rattle.std.proofs.Common.{◌≡◌, ◌+ℤ◌, ℤ, Some, arith, rules, sym, w32}
use Rattle.std.proofs.lemmas.Int.{to_z-of_z}
use mir.Val.{SFits}
use Rattle.loc_base.specs.Bits.{width_of, value_of}
use Rattle.design_core.specs.Operator.{integer_of}
use Rattle.word_net.specs.Selects.{Range, position_in}
use Rattle.net_values.proofs.Picked.{position-within}
use Rattle.net_values.proofs.select.Ranged.with_bit.Goals as goal

pub replaced-requires : goal.replaced-requires
replaced-requires c =
    let range : Range = record { width = width_of c.args.self.word; left = c.args.self.left; right = c.args.self.right } in
    let index : ℤ = integer_of c.args.index.signed (width_of c.args.index.word) (value_of c.args.index.word) in
    let fits : SFits w32 c.args.offset = search rules in
    let found : Some c.in-Some.position ≡ position_in range (index +ℤ c.args.offset) = simp to_z-of_z at c.in-Some.ensures in
    omega (arith, position-within range (index +ℤ c.args.offset) c.in-Some.position (sym found), c.requires)

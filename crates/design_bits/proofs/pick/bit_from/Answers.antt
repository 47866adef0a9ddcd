use Rattle.std.proofs.Common.{◌∙◌, sym, ◌+ℤ◌, ℤ, rules, w32}
use Rattle.std.proofs.lemmas.Bool.{ltb-true}
use Rattle.std.proofs.lemmas.Int.{to_z-of_z}
use mir.Val.{SFits}
use Rattle.loc_base.specs.Bits.{width_of, value_of}
use Rattle.loc_base.proofs.ShelfLists.{slice_get-at}
use Rattle.design_core.specs.Operator.{integer_of}
use Rattle.design_bits.proofs.Picks.{at-none, at-position, slice_get-past}
use Rattle.design_bits.proofs.pick.bit_from.Goals as goal

pub returns-in-Some : goal.returns-in-Some
returns-in-Some c = λ b below.
    let S = c.args.signals.now in
    let offset : SFits w32 c.args.offset = search rules in
    let known = c.in-Some.ensures.lookup in
    let at : ℤ = integer_of c.args.signed (width_of c.args.at) (value_of c.args.at) +ℤ c.args.offset in
    c.bit_at.ensures b below
    ∙ at-position b S c.args.signal c.in-Some.declared.now at c.position_from.result
    (slice_get-at S c.args.signal c.in-Some.declared.now (ltb-true _ _ (sym known.0)) known.1) (simp to_z-of_z at c.position_from.ensures)

pub returns-in-None : goal.returns-in-None
returns-in-None c = λ b below.
    at-none b c.args.signals.now c.args.signal (integer_of c.args.signed (width_of c.args.at) (value_of c.args.at) +ℤ c.args.offset)
    (slice_get-past c.args.signals.now c.args.signal c.in-None.ensures.lookup.3)

use Rattle.std.proofs.Common.{sym, ◌+ℤ◌, ℤ, None, refl, rules, w32}
use Rattle.std.proofs.lemmas.Bool.{ltb-true}
use Rattle.std.proofs.lemmas.Int.{to_z-of_z}
use mir.Val.{SFits}
use Rattle.loc_base.specs.Bits.{width_of, value_of}
use Rattle.loc_base.proofs.ShelfLists.{slice_get-at}
use Rattle.design_core.specs.Operator.{integer_of}
use Rattle.design_bits.proofs.Picks.{slice_get-past}
use Rattle.place_functions.proofs.NoteSteps.{position-there, position-none}
use Rattle.place_functions.proofs.note.position_at.Goals as goal

pub returns-in-Some : goal.returns-in-Some
returns-in-Some c =
    let S = c.args.signals.now in
    let fixed = c.args.fixed in
    let fits : SFits w32 c.args.offset = search rules in
    let known = c.in-Some.ensures.lookup in
    let at : ℤ = integer_of fixed.signed (width_of fixed.index) (value_of fixed.index) +ℤ c.args.offset in
    position-there S fixed.signal c.in-Some.declared.now at c.position_from.result
    (slice_get-at S fixed.signal c.in-Some.declared.now (ltb-true _ _ (sym known.0)) known.1) (simp to_z-of_z at c.position_from.ensures)

pub returns-in-None : goal.returns-in-None
returns-in-None c =
    let fixed = c.args.fixed in
    position-none c.args.signals.now fixed.signal (integer_of fixed.signed (width_of fixed.index) (value_of fixed.index) +ℤ c.args.offset) None
    (slice_get-past c.args.signals.now fixed.signal c.in-None.ensures.lookup.3) refl

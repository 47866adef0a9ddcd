use Rattle.std.proofs.Common.{◌∙◌, ap, sym, ◌+ℤ◌, ℤ, rules, w32}
use Rattle.std.proofs.lemmas.Int.{to_z-of_z}
use mir.Val.{SFits}
use Rattle.std.specs.Prelude.{◌==◌, ◌&&◌}
use Rattle.loc_base.specs.Bits.{width_of, value_of}
use Rattle.loc_base.proofs.ShelfBools.{and-false}
use Rattle.design_core.specs.Operator.{integer_of}
use Rattle.design_core.specs.Pick.{is_at}
use Rattle.design_core.specs.Valuation.{position_at}
use Rattle.design_bits.proofs.Picks.{one-bit}
use Rattle.place_functions.specs.Notes.{note_has, of_place}
use Rattle.place_functions.proofs.NoteSteps.{on-ok, notes-same, place-none}
use Rattle.place_functions.proofs.note.note_at.Goals as goal

pub returns-in-Some : goal.returns-in-Some
returns-in-Some c =
    let fixed = c.args.fixed in
    let fits : SFits w32 c.args.offset = search rules in
    let found = simp to_z-of_z at c.position_at.ensures in
    let at : ℤ = integer_of fixed.signed (width_of fixed.index) (value_of fixed.index) +ℤ c.args.offset in
    let wanted = of_place fixed.place (λ s b. s == fixed.signal && is_at b (position_at c.args.signals.now fixed.signal at)) in
    on-ok c.push.result _ _
    (λ a.
    notes-same _ _ (λ p s b. note_has p s b c.of.result) wanted a
    (λ p s b.
    c.of.ensures p s b
    ∙ ap (λ x. (fixed.place == p) && (s == fixed.signal && x)) (one-bit c.in-Some.position b ∙ ap (is_at b) (sym c.in-Some.is ∙ found))))
    c.push.ensures

pub returns-in-None : goal.returns-in-None
returns-in-None c =
    let fixed = c.args.fixed in
    let fits : SFits w32 c.args.offset = search rules in
    let found = simp to_z-of_z at c.position_at.ensures in
    let at : ℤ = integer_of fixed.signed (width_of fixed.index) (value_of fixed.index) +ℤ c.args.offset in
    place-none _ fixed.place (λ s b. s == fixed.signal && is_at b (position_at c.args.signals.now fixed.signal at))
    (λ s b. ap (λ o. s == fixed.signal && is_at b o) (sym found ∙ c.in-None.is) ∙ and-false (s == fixed.signal))

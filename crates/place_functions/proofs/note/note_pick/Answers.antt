use Rattle.std.proofs.Common.{◌∙◌, ap}
use Rattle.std.specs.Prelude.{◌==◌, ◌&&◌, nat_lt}
use Rattle.loc_base.specs.Bits.{width_of, value_of}
use Rattle.design_core.specs.Operator.{integer_of}
use Rattle.design_core.specs.Pick.{has_bit, may_pick}
use Rattle.design_core.specs.Drives.{is_among}
use Rattle.place_functions.specs.Notes.{note_has, of_place}
use Rattle.place_functions.proofs.NoteSteps.{on-ok, notes-same, place-named, whole-among, pick-constant, pick-other}
use Rattle.place_functions.proofs.note.note_pick.Goals as goal

pub returns-in-Some : goal.returns-in-Some
returns-in-Some c =
    let S = c.args.signals.now in
    let picked = c.args.picked in
    let index = c.args.index.now in
    let offsets = c.args.offsets.now in
    let word = c.in-Some.word in
    on-ok c.note_fixed.result _ _
    (λ a.
    place-named _ _ picked.place
    (λ s b. s == picked.signal && has_bit S picked.signal (integer_of index.signed (width_of word) (value_of word)) offsets b)
    (λ s b. s == picked.signal && may_pick S picked.signal index.width index.signed index.node offsets b) a
    (λ s b.
    ap (λ x. s == picked.signal && x)
    (pick-constant S picked.signal index offsets b word c.constant_of.result c.in-Some.is c.constant_of.ensures.value c.constant_of.ensures.width)))
    c.note_fixed.ensures

pub returns-in-None : goal.returns-in-None
returns-in-None c =
    let S = c.args.signals.now in
    let picked = c.args.picked in
    let index = c.args.index.now in
    let offsets = c.args.offsets.now in
    on-ok c.push.result _ _
    (λ a.
    notes-same _ _ (λ p s b. note_has p s b c.of.result) (of_place picked.place (λ s b. s == picked.signal && may_pick S picked.signal index.width index.signed index.node offsets b)) a
    (λ p s b.
    c.of.ensures p s b
    ∙ ap (λ n. (picked.place == p) && (s == picked.signal && is_among 0 n b)) c.from.ensures
    ∙ ap (λ x. (picked.place == p) && (s == picked.signal && x))
    (whole-among c.width_at.result b ∙ ap (λ w. nat_lt b w) c.width_at.ensures
    ∙ pick-other S picked.signal index offsets b c.constant_of.result c.in-None.is c.constant_of.ensures.value)))
    c.push.ensures

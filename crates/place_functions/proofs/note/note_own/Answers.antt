use Rattle.std.proofs.Common.{◌∙◌, ap, ap₂, sym}
use Rattle.std.specs.Prelude.{◌==◌, ◌&&◌}
use Rattle.loc_base.proofs.ShelfBools.{and-assoc}
use Rattle.place_functions.specs.declared.note.Note.{Note}
use Rattle.place_functions.specs.declared.note.Picked.{Picked}
use Rattle.design_core.specs.Pick.{may_pick}
use Rattle.design_core.specs.Drives.{is_among}
use Rattle.design_bits.specs.Operands.{own_reads}
use Rattle.design_bits.proofs.ReadSteps.{own_pick}
use Rattle.place_functions.specs.Notes.{note_has, of_place}
use Rattle.place_functions.proofs.NoteSteps.{on-ok, notes-same, of-picked, whole-among, own_word}
use Rattle.place_functions.proofs.note.note_own.Goals as goal

pub returns-in-Whole : goal.returns-in-Whole
returns-in-Whole c =
    let S = c.args.signals.now in
    let read = c.args.read.now in
    let signal = c.in-Whole.signal in
    of-picked _ _ c.of.result.place c.args.place (λ s b. s == c.of.result.signal && is_among 0 c.from.result b) (λ s b. own_reads S s b read.width read.node)
    c.note_bits.result (ap (λ (q : Picked). q.place) c.of.ensures)
    (λ s b.
    ap (λ (q : Picked). s == q.signal && is_among 0 c.from.result b) c.of.ensures
    ∙ ap (λ n. s == signal && is_among 0 n b) c.from.ensures
    ∙ ap (λ x. s == signal && x) (whole-among read.width b)
    ∙ ap (own_reads S s b read.width) (sym c.in-Whole.is))
    c.note_bits.ensures

pub returns-in-Slice : goal.returns-in-Slice
returns-in-Slice c =
    let S = c.args.signals.now in
    let read = c.args.read.now in
    let e = c.in-Slice in
    let from = c.from-in-Slice in
    let width = c.from-in-Slice-2 in
    of-picked _ _ c.of-in-Slice.result.place c.args.place (λ s b. s == c.of-in-Slice.result.signal && is_among from.result width.result b)
    (λ s b. own_reads S s b read.width read.node) c.note_bits-in-Slice.result (ap (λ (q : Picked). q.place) c.of-in-Slice.ensures)
    (λ s b.
    ap (λ (q : Picked). s == q.signal && is_among from.result width.result b) c.of-in-Slice.ensures
    ∙ ap₂ (λ n m. s == e.signal && is_among n m b) from.ensures width.ensures
    ∙ ap (own_reads S s b read.width) (sym e.is))
    c.note_bits-in-Slice.ensures

pub returns-in-Pick : goal.returns-in-Pick
returns-in-Pick c =
    let S = c.args.signals.now in
    let read = c.args.read.now in
    let e = c.in-Pick in
    let index = c.deref.result.now in
    let offsets = c.deref-in-Pick.result.now in
    of-picked _ _ c.of-in-Pick.result.place c.args.place
    (λ s b. s == c.of-in-Pick.result.signal && may_pick S c.of-in-Pick.result.signal index.width index.signed index.node offsets b)
    (λ s b. own_reads S s b read.width read.node) c.note_pick.result (ap (λ (q : Picked). q.place) c.of-in-Pick.ensures)
    (λ s b.
    ap (λ (q : Picked). s == q.signal && may_pick S q.signal index.width index.signed index.node offsets b) c.of-in-Pick.ensures
    ∙ ap (λ x. s == e.signal && x) (ap₂ (λ i o. may_pick S e.signal i.width i.signed i.node o b) c.deref.ensures c.deref-in-Pick.ensures)
    ∙ sym (own_pick S s b read.width e.signal e.index e.offsets) ∙ ap (own_reads S s b read.width) (sym e.is))
    c.note_pick.ensures

pub returns-in-Word : goal.returns-in-Word
returns-in-Word c =
    let S = c.args.signals.now in
    let read = c.args.read.now in
    let place = c.args.place in
    let w = c.in-Word in
    let note : Note = record { place = place; first = w.first; count = w.count; from = c.from-in-Word.result; width = c.from-in-Word-2.result } in
    on-ok c.push.result _ _
    (λ a.
    notes-same _ _ (λ p s b. note_has p s b note) (of_place place (λ s b. own_reads S s b read.width read.node)) a
    (λ p s b.
    ap₂ (λ n m. ((place == p) && is_among w.first w.count s) && is_among n m b) c.from-in-Word.ensures c.from-in-Word-2.ensures
    ∙ and-assoc (place == p) (is_among w.first w.count s) (is_among w.from w.width b)
    ∙ ap (λ x. (place == p) && x) (sym (own_word S s b read.width w.first w.count w.low w.index w.from w.width) ∙ ap (own_reads S s b read.width) (sym w.is))))
    c.push.ensures

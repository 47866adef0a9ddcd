use Rattle.std.proofs.Common.{◌≡◌, ◌<◌, length, get_or, ◌∷◌, sym}
use Rattle.std.proofs.lemmas.List.{get_or_read}
use Rattle.loc_base.proofs.Cut.{length-cut, start-le}
use Rattle.report_doc.proofs.Texts.{length-row}
use Rattle.report_doc.proofs.cycle_texts.CycleTexts.count.Goals as goal

pub overflow_sub-result : goal.overflow_sub-result
overflow_sub-result c =
    let within : c.args.cycle < length c.self.inside.ends.items = rw (← length-cut c.self.inside.texts 0 c.self.inside.ends.items, c.self.view_is) c.requires in
    let start : c.start_of.result ≡ get_or (0 ∷ c.self.inside.ends.items) c.args.cycle 0 = rw (← c.deref.ensures.value) c.start_of.ensures in
    let end : c.index.result.now ≡ get_or c.self.inside.ends.items c.args.cycle 0 = get_or_read _ _ _ within c.index.ensures 0 in
    rw (start, end) (start-le 0 c.self.inside.ends.items _ c.args.cycle c.self.invariant within)

pub returns : goal.returns
returns c =
    let within : c.args.cycle < length c.self.inside.ends.items = rw (← length-cut c.self.inside.texts 0 c.self.inside.ends.items, c.self.view_is) c.requires in
    let start : c.start_of.result ≡ get_or (0 ∷ c.self.inside.ends.items) c.args.cycle 0 = rw (← c.deref.ensures.value) c.start_of.ensures in
    let end : c.index.result.now ≡ get_or c.self.inside.ends.items c.args.cycle 0 = get_or_read _ _ _ within c.index.ensures 0 in
    rw (start, end, ← c.self.view_is) (sym (length-row c.self.inside.texts c.self.inside.ends.items c.args.cycle c.self.invariant within))

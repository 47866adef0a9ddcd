use Rattle.std.proofs.Common.{◌≡◌, ◌<◌, ◌+◌, ◌-◌, length, get_or, ◌∷◌, [], ap, sym, ◌∙◌, arith}
use Rattle.std.proofs.lemmas.List.{get_or_read}
use Rattle.loc_base.specs.Rows.{cut}
use Rattle.loc_base.proofs.Cut.{length-cut, start-le, end-le}
use Rattle.report_doc.proofs.Texts.{length-row, get_or-row}
use Rattle.report_doc.proofs.cycle_texts.CycleTexts.text.Goals as goal

pub overflow_sub-index : goal.overflow_sub-index
overflow_sub-index c =
    let ends = c.self.inside.ends.items in
    let within : c.args.cycle < length ends = rw (← length-cut c.self.inside.texts 0 ends, c.self.view_is) c.requires.cycle in
    let end : c.index.result.now ≡ get_or ends c.args.cycle 0 = get_or_read _ _ _ within c.index.ensures 0 in
    let size = length-row c.self.inside.texts ends c.args.cycle c.self.invariant within in
    let count : c.count.result ≡ length (get_or (cut c.self.inside.texts 0 ends) c.args.cycle []) = rw (c.self.view_is) c.count.ensures in
    omega (arith, end, size, count)

pub row-requires : goal.row-requires
row-requires c =
    let ends = c.self.inside.ends.items in
    let within : c.args.cycle < length ends = rw (← length-cut c.self.inside.texts 0 ends, c.self.view_is) c.requires.cycle in
    let end : c.index.result.now ≡ get_or ends c.args.cycle 0 = get_or_read _ _ _ within c.index.ensures 0 in
    let size = length-row c.self.inside.texts ends c.args.cycle c.self.invariant within in
    let most = end-le 0 ends (length c.self.inside.texts) c.args.cycle c.self.invariant within in
    let start = start-le 0 ends (length c.self.inside.texts) c.args.cycle c.self.invariant within in
    let count : c.count.result ≡ length (get_or (cut c.self.inside.texts 0 ends) c.args.cycle []) = rw (c.self.view_is) c.count.ensures in
    let place : c.args.place < length (get_or (cut c.self.inside.texts 0 ends) c.args.cycle []) = rw (c.self.view_is) c.requires.place in
    omega (arith, end, size, most, start, count, place)

pub returns : goal.returns
returns c =
    let ends = c.self.inside.ends.items in
    let within : c.args.cycle < length ends = rw (← length-cut c.self.inside.texts 0 ends, c.self.view_is) c.requires.cycle in
    let end : c.index.result.now ≡ get_or ends c.args.cycle 0 = get_or_read _ _ _ within c.index.ensures 0 in
    let size = length-row c.self.inside.texts ends c.args.cycle c.self.invariant within in
    let start = start-le 0 ends (length c.self.inside.texts) c.args.cycle c.self.invariant within in
    let count : c.count.result ≡ length (get_or (cut c.self.inside.texts 0 ends) c.args.cycle []) = rw (c.self.view_is) c.count.ensures in
    let place : c.args.place < length (get_or (cut c.self.inside.texts 0 ends) c.args.cycle []) = rw (c.self.view_is) c.requires.place in
    let at : c.index.result.now - (c.count.result - c.args.place) ≡ get_or (0 ∷ ends) c.args.cycle 0 + c.args.place = omega (arith, end, size, start, count, place) in
    let found = get_or-row c.self.inside.texts ends c.args.cycle c.args.place [] c.self.invariant within place in
    rw (← c.self.view_is) (c.row.ensures ∙ ap (λ n. get_or c.self.inside.texts n []) at ∙ sym found)

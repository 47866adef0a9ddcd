use Rattle.std.proofs.Common.{◌≡◌, ◌<◌, length, get_or, ◌∷◌}
use Rattle.std.proofs.lemmas.List.{get_or_read}
use Rattle.loc_base.proofs.Cut.{length-cut, start-le}
use Rattle.loc_base.proofs.rows.Rows.row.Goals as goal

pub slice_bounds-result-count : goal.slice_bounds-result-count
slice_bounds-result-count g c =
    let within : c.args.number < length c.self.inside.ends.items = rw (← length-cut c.self.inside.items.items 0 c.self.inside.ends.items, c.self.view_is) c.requires in
    let start : c.start_of-from.result ≡ get_or (0 ∷ c.self.inside.ends.items) c.args.number 0 = rw (← c.deref.ensures.value) c.start_of-from.ensures in
    let end : c.index-end.result.now ≡ get_or c.self.inside.ends.items c.args.number 0 = get_or_read _ _ _ within c.index-end.ensures 0 in
    rw (start, end) (start-le 0 c.self.inside.ends.items _ c.args.number c.self.invariant within)

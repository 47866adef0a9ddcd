use Rattle.std.proofs.Common.{◌<◌, length}
use Rattle.loc_base.proofs.ShelfLists.{All-member}
use Rattle.design_order.proofs.SourceLaws.{row-done}
use Rattle.design_order.proofs.needs.row_of.Goals as goal

pub returns : goal.returns
returns c =
    let xs = c.signals-signal-items.result.now in
    row-done c.args.sources.now c.args.reads.now c.loop-signal.row.items xs c.loop-signal.signal-index c.loop-signal-test.false c.signals-signal-items.ensures.all
    (λ s member. All-member (λ k. k < length c.args.reads.now) xs s c.signals-signal-items.ensures.within member) c.loop-signal.invariant

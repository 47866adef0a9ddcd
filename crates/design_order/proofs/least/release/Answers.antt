use Rattle.std.proofs.Common.{◌<◌, arith, slice_index, get_or, length}
use Rattle.std.proofs.lemmas.List.{get_or_read}
use Rattle.design_order.proofs.Counting.{enough-left}
use Rattle.design_order.proofs.least.release.Goals as goal

pub overflow_sub-count : goal.overflow_sub-count
overflow_sub-count c =
    let u = get_or c.args.users.now c.loop-user.user-index 0 in
    let below : u < length c.loop-user.counts.items = omega (arith, c.requires.within c.loop-user.user-index 0 c.loop-user-test.true, c.loop-user.invariant.0, c.loop-user.counts.ok) in
    let here = enough-left c.args.users.now c.loop-user.user-index (slice_index c.loop-user.counts.items u) (slice_index c.args.counts.now.items u)
    c.loop-user-test.true (c.loop-user.invariant.1 u) (c.requires.enough u) in
    omega (arith, here, get_or_read c.loop-user.counts.items u c.index.result.now below c.index.ensures 0)

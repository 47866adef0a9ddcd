use Rattle.std.proofs.Common.{arith}
use Rattle.std.proofs.lemmas.List.{length_push}
use Rattle.trail_core.proofs.Entering.{empty_push}
use Rattle.trail_core.proofs.shorts.empty_lists.Goals as goal

pub loop-preserved : goal.loop-preserved
loop-preserved c = record {
  size = rw c.in_ok-push.ensures.items (omega (arith, length_push c.loop.lists.items c.new.result, c.loop.invariant.size));
  empty = rw c.in_ok-push.ensures.items (empty_push c.loop.lists.items c.new.result c.new.ensures c.loop.invariant.empty);
}

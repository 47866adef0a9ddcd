use Rattle.std.proofs.Common.{length, ap, arith}
use Rattle.trail_core.proofs.Propagating.{Propagates-then}
use Rattle.trail_core.proofs.Due.{due_all}
use Rattle.trail_core.proofs.Going.{done_at, well_counted}
use Rattle.trail_core.proofs.Calls.{shorts_propagate}
use Rattle.trail_core.proofs.propagation.sweep_all.Goals as goal

pub sweep_next-requires-clause-due : goal.sweep_next-requires-clause-due
sweep_next-requires-clause-due c = due_all c.loop-watches.trail c.args.shorts.now.fixed (length c.loop-watches.watches.pairs.items) (length c.loop-watches.trail.clauses) c.loop-watches.watches.gone_over c.loop-watches.invariant.all c.loop-watches.invariant.due

pub sweep_next-requires-clause-next : goal.sweep_next-requires-clause-next
sweep_next-requires-clause-next c = omega (arith, c.len.ensures, c.loop-watches-test.true)

pub loop-watches-preserved : goal.loop-watches-preserved
loop-watches-preserved c = record {
  trail = c.sweep_next.ensures.trail;
  appends = Propagates-then c.args.trail.now c.loop-watches.trail c.sweep_next.new.trail c.loop-watches.invariant.appends c.sweep_next.ensures.appends;
  well = well_counted c.sweep_next.new.trail c.sweep_next.new.watches c.args.shorts.now.fixed _ _ c.in-Rests.ensures.gives;
  shorts = shorts_propagate c.loop-watches.trail c.sweep_next.new.trail c.args.shorts.now c.sweep_next.ensures.appends c.loop-watches.invariant.shorts;
  marked = c.sweep_next.ensures.marked;
  due = due_all c.sweep_next.new.trail c.args.shorts.now.fixed (length c.sweep_next.new.trail.clauses) (length c.sweep_next.new.watches.pairs.items) _ (omega arith) c.in-Rests.ensures.due;
  all = omega (arith, c.loop-watches.invariant.all, ap length c.sweep_next.ensures.appends.clauses, c.sweep_next.ensures.size);
}

pub returns-in-Falsified-clause-due : goal.returns-in-Falsified-clause-due
returns-in-Falsified-clause-due c = due_all c.sweep_next.new.trail c.args.shorts.now.fixed (length c.sweep_next.new.trail.clauses) (length c.sweep_next.new.watches.pairs.items) c.sweep_next.new.watches.gone_over (omega arith) c.in-Falsified.ensures.due

pub returns-clause-gives : goal.returns-clause-gives
returns-clause-gives c = (
  c.loop-watches.invariant.well,
  done_at c.loop-watches.trail c.args.shorts.now.fixed c.loop-watches.watches c.loop-watches.invariant.well c.loop-watches.invariant.all (omega (arith, c.len.ensures, c.loop-watches-test.false)) c.loop-watches.invariant.marked c.loop-watches.invariant.due,
)

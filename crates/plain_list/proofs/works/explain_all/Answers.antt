use Rattle.std.proofs.Common.{ap, Ok}
use Rattle.loc_base.proofs.ShelfLists.{slice_get-at}
use Rattle.design_core.specs.Explained.{is_one_of}
use Rattle.plain_list.proofs.Working.{nothing-explained, one_more-explained, one-wrong}
use Rattle.plain_list.proofs.works.explain_all.Goals as goal

pub loop-trace-init : goal.loop-trace-init
loop-trace-init c = (
  c.requires.words,
  c.requires.numbers,
  nothing-explained c.args.d.now c.args.order.now c.args.traces.now c.args.places.now c.new-rows.result.items c.new-rows.ensures.items,
)

pub returns-then-not-branch-clause-none : goal.returns-then-not-branch-clause-none
returns-then-not-branch-clause-none c _ =
    one-wrong c.args.d.now c.args.traces.now (is_one_of c.args.places.now) c.loop-trace.trace-index c.trace-item.result c.loop-trace-test.true c.trace-item.is
    (c.in_ok-explain.ensures.none (ap Ok c.if-not-branch.true))

pub loop-trace-preserved : goal.loop-trace-preserved
loop-trace-preserved c = (
  c.in_ok-explain.ensures.words,
  c.in_ok-explain.ensures.numbers,
  one_more-explained c.args.d.now c.args.order.now c.args.traces.now c.args.places.now c.loop-trace.rows.items c.explain.new.rows.items c.loop-trace.trace-index c.trace-item.result
      (slice_get-at c.args.traces.now c.loop-trace.trace-index c.trace-item.result c.loop-trace-test.true c.trace-item.is)
      c.loop-trace.invariant.2
      (c.in_ok-explain.ensures.right (ap Ok c.if-not-branch.false)),
)

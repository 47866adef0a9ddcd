use Rattle.std.proofs.Common.{◌++◌, ◌∙◌, ap, refl}
use Rattle.plain_list.proofs.Rowing.{one_more-added}
use Rattle.plain_list.proofs.Explaining.{none-explained}
use Rattle.plain_list.proofs.explain.explain.Goals as goal

pub returns-then-not-explain_cycle-clause-none : goal.returns-then-not-explain_cycle-clause-none
returns-then-not-explain_cycle-clause-none c _ =
    none-explained c.args.d.now c.args.order.now c.args.trace.now c.args.places.now c.loop-cycle.cycle c.requires.network c.loop-cycle-test.true c.requires.places
    (c.if-not-explain_cycle.ensures.none refl)

pub loop-cycle-preserved : goal.loop-cycle-preserved
loop-cycle-preserved c = (
  c.explain_cycle.ensures.words,
  c.explain_cycle.ensures.numbers,
  λ first rows. one_more-added c.args.d.now c.args.order.now c.args.trace.now c.args.places.now c.explain_cycle.new.numbers c.args.rows.now.items c.loop-cycle.rows.items
      c.in_ok-row.row.items c.extend_from_slice.new.self.items first c.loop-cycle.cycle (c.loop-cycle.invariant.2 first rows)
      c.in_ok-row.ensures.row c.in_ok-row.ensures.value
      (c.in_ok-extend_from_slice.ensures.items ∙ ap (λ xs. c.loop-cycle.rows.items ++ xs) c.deref.ensures.value)
      (c.if-not-explain_cycle.ensures.right refl),
)

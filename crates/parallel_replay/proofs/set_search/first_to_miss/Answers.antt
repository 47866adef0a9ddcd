use Rattle.std.proofs.Common.{◌<◌, ◌+◌, length, arith, sym, subst, ap, ◌∙◌, Some, None, All}
use Rattle.design_core.specs.declared.design.Design.{Design}
use Rattle.design_core.specs.TraceFits.{IsTraceOf}
use Rattle.cycle_sim.specs.Simulated.{Simulated}
use Rattle.cycle_sim.specs.Simulator.{held_by}
use Rattle.cycle_sim.specs.Misses.{AreValuesFor}
use Rattle.parallel_replay.proofs.SetLaws.{all-none, all-next, all-ended, replied, values-of}
use Rattle.parallel_replay.proofs.set_search.first_to_miss.Goals as goal

pub loop-k-init : goal.loop-k-init
loop-k-init c =
    record {
      sim = c.in_ok-sim.ensures.sim;
      design = ap (λ (s : Simulated). s.design) c.in_ok-sim.ensures.start;
      order = ap (λ (s : Simulated). s.order) c.in_ok-sim.ensures.start;
      before = λ k. all-none c.args.trial.now.design.now c.args.trial.now.traces.now c.args.sets.now c.args.piece.from;
    }

pub replay-requires-clause-sim : goal.replay-requires-clause-sim
replay-requires-clause-sim c = c.loop-k.invariant.sim

pub replay-requires-clause-traces : goal.replay-requires-clause-traces
replay-requires-clause-traces c = subst (λ (D : Design). All (IsTraceOf D) c.args.trial.now.traces.now) (sym c.loop-k.invariant.design) c.requires.trial.traces

pub replay-requires-clause-few : goal.replay-requires-clause-few
replay-requires-clause-few c = subst (λ (D : Design). length D.outputs.items < 4294967296) (sym c.loop-k.invariant.design) c.requires.trial.few

pub replay-requires-clause-values : goal.replay-requires-clause-values
replay-requires-clause-values c =
    subst (λ (D : Design). AreValuesFor D c.args.trial.now.traces.now c.set_at-set.result.now.values) (sym c.loop-k.invariant.design)
    (values-of c.args.trial.now.design.now c.args.trial.now.traces.now c.args.sets.now c.loop-k.k c.set_at-set.result.now c.requires.values.values c.set_at-set.ensures)

pub returns-in-Some : goal.returns-in-Some
returns-in-Some c k =
    record {
      set = c.set_at-set.result.now;
      is_set = c.set_at-set.ensures;
      misses = replied c.args.trial.now.design.now (held_by c.loop-k.sim).design c.args.trial.now.order.now (held_by c.loop-k.sim).order c.args.trial.now.traces.now c.set_at-set.result.now.values (Some c.in-Some.miss)
          c.loop-k.invariant.design c.loop-k.invariant.order c.in-Some.ensures.answer k;
      first = c.loop-k.invariant.before k;
    }

pub loop-k-preserved : goal.loop-k-preserved
loop-k-preserved c =
    record {
      sim = c.replay.ensures.sim;
      design = c.replay.ensures.design ∙ c.loop-k.invariant.design;
      order = c.replay.ensures.order ∙ c.loop-k.invariant.order;
      before = λ k.
          all-next c.args.trial.now.design.now c.args.trial.now.traces.now c.args.sets.now c.args.piece.from c.loop-k.k c.set_at-set.result.now c.set_at-set.ensures (c.loop-k.invariant.before k)
          (replied c.args.trial.now.design.now (held_by c.loop-k.sim).design c.args.trial.now.order.now (held_by c.loop-k.sim).order c.args.trial.now.traces.now c.set_at-set.result.now.values None
          c.loop-k.invariant.design c.loop-k.invariant.order c.in_default.ensures.answer k);
    }

pub returns : goal.returns
returns c k =
    all-ended c.args.trial.now.design.now c.args.trial.now.traces.now c.args.sets.now c.args.piece.from c.loop-k.k (c.args.piece.from + c.args.piece.many)
    (omega (arith, c.loop-k-test.false, c.min-k-end.ensures)) (c.loop-k.invariant.before k)

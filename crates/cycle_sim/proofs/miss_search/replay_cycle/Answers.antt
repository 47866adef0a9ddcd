use Rattle.std.proofs.Common.{◌≡◌, List, subst}
use Rattle.loc_base.specs.declared.bits.Bits.{Bits}
use Rattle.design_core.specs.declared.design.Design.{Design}
use Rattle.design_core.specs.declared.trace.Checked.{Checked}
use Rattle.design_core.specs.declared.values.Values.{Values}
use Rattle.design_core.specs.Valuation.{Valuation}
use Rattle.design_core.specs.After.{Choice}
use Rattle.design_core.specs.Cycle.{Cycle}
use Rattle.design_core.specs.Run.{samples_at, expected_at, choice_at}
use Rattle.design_core.specs.Words.{choice_of}
use Rattle.design_core.specs.Explained.{is_one_of}
use Rattle.cycle_sim.specs.Holding.{simulated_of}
use Rattle.cycle_sim.specs.Replaying.{FirstWrong, choices_from}
use Rattle.cycle_sim.proofs.Chosen.{chosen-is, choice-is}
use Rattle.cycle_sim.proofs.miss_search.replay_cycle.Goals as goal

pub returns-clause-answer : goal.returns-clause-answer
returns-clause-answer c k =
    let d : Design = c.args.machine.now.design.now in
    let values : Values = c.args.values.now in
    let V : Valuation = (simulated_of c.step.new.self).values in
    let state : Valuation = (simulated_of c.args.machine.now).state in
    let next : Valuation = (simulated_of c.step.new.self).state in
    let samples : c.row-samples.result.now ≡ samples_at d c.args.trace.now c.args.t =
    rw (c.deref-3.ensures.value, c.len-2.ensures, d.inputs.ok.0) at c.row-samples.ensures in
    let expected : c.row-expected.result.now ≡ expected_at d c.args.trace.now c.args.t =
    rw (c.deref-4.ensures.value, c.len-3.ensures, d.outputs.ok.0) at c.row-expected.ensures in
    let choice : choice_of c.args.freed.now c.choose.new.choice ≡ choice_at (is_one_of values.places.items)
    (choices_from values c.args.first) c.args.t =
    choice-is values c.args.freed.now c.choose.new.choice c.args.first c.args.t c.requires.ready.freed
    (chosen-is values c.args.choice.now c.choose.new.choice c.args.freed.now c.args.first c.args.t c.row-chosen.result.now c.requires.ready
    (rw (c.deref.ensures.value, c.len.ensures, values.places.ok.0) at c.row-chosen.ensures)
    (rw c.deref-2.ensures.value at c.choose.ensures.choice)) in
    record {
      now = V;
      cycle =
          subst (λ (S : List Bits). Cycle d S state
          (choice_at (is_one_of values.places.items) (choices_from values c.args.first) c.args.t) V next) samples
          (subst (λ (C : Choice). Cycle d c.row-samples.result.now state C V next) choice (c.step.ensures.step.cycle k));
      wrong = subst (λ (e : List Checked). FirstWrong d e V c.first_wrong.result) expected
          (rw c.values.ensures.value at c.first_wrong.ensures);
    }

use Rattle.std.proofs.Common.{◌≡◌, ◌∙◌, ap, sym, List, subst}
use Rattle.std.proofs.lemmas.Bool.{both_ways}
use Rattle.loc_base.specs.declared.bits.Bits.{Bits}
use Rattle.design_core.specs.declared.design.Design.{Design}
use Rattle.design_core.specs.Valuation.{Valuation}
use Rattle.design_core.specs.After.{Choice}
use Rattle.design_core.specs.Words.{valuation_of, choice_of}
use Rattle.design_core.specs.Cycle.{Cycle}
use Rattle.design_core.specs.Steps.{computed_now, computed_next}
use Rattle.design_core.proofs.CycleExists.{cycle-exists}
use Rattle.plain_sim.proofs.EvaluateUnique.{now-computed, next-computed}
use Rattle.plain_sim.proofs.cycle.compute.compute_cycle.Goals as goal

pub returns-else-branch-clause-none : goal.returns-else-branch-clause-none
returns-else-branch-clause-none c well h V next is =
    let d : Design = c.args.design.now in
    let samples : List Bits = c.args.samples.now in
    let state : Valuation = valuation_of c.args.state.now in
    let choice : Choice = choice_of c.args.freed.now c.args.chosen.now in
    let now_is : valuation_of c.in_ok-now.now.items ≡ V = c.in_ok-now.ensures.value ∙ now-computed d c.args.order.now samples state choice V next well h is in
    let next_is : valuation_of c.in_ok-next.next.items ≡ next =
    c.in_ok-next.ensures.value ∙ ap (computed_next d state choice) (ap valuation_of c.deref.ensures.value ∙ now_is) ∙ next-computed d samples state choice V next is in
    both_ways c.in_ok-is_cycle.field-0 c.if-branch.false
    (c.in_ok-is_cycle.ensures.1
    (subst (λ W. Cycle d samples state choice W (valuation_of c.deref-3.result.now)) (sym (ap valuation_of c.deref-2.ensures.value ∙ now_is))
    (subst (λ N. Cycle d samples state choice V N) (sym (ap valuation_of c.deref-3.ensures.value ∙ next_is)) is)))

-- where each bit gets its value once, there would be one
pub returns-else-branch-clause-always : goal.returns-else-branch-clause-always
returns-else-branch-clause-always c well once h =
    let d : Design = c.args.design.now in
    let state : Valuation = valuation_of c.args.state.now in
    let choice : Choice = choice_of c.args.freed.now c.args.chosen.now in
    let V : Valuation = computed_now d c.args.order.now c.args.samples.now state choice in
    returns-else-branch-clause-none c well h V (computed_next d state choice V) (cycle-exists d c.args.order.now well once h c.args.samples.now state choice)

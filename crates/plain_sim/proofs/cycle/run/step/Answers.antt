use Rattle.std.proofs.Common.{◌≡◌, ◌∙◌, ap, sym, length, subst, refl}
use Rattle.std.proofs.lemmas.Bool.{both_ways}
use Rattle.design_core.specs.declared.design.Design.{Design}
use Rattle.design_core.specs.declared.trace.Trace.{Trace}
use Rattle.design_core.specs.Valuation.{Valuation}
use Rattle.design_core.specs.Words.{valuation_of}
use Rattle.design_core.specs.Cycle.{Cycle}
use Rattle.design_core.specs.Run.{samples_at, expected_at, choice_at, IsRight}
use Rattle.design_core.specs.Given.{row, freed_of, choices_of}
use Rattle.plain_sim.proofs.EvaluateRun.{row-is, step-cycle, cycle-step, meets-next, first-right, first-of, First}
use Rattle.plain_sim.proofs.cycle.run.step.Goals as goal

pub returns-then-are_right-clause-right : goal.returns-then-are_right-clause-right
returns-then-are_right-clause-right c =
    let d : Design = c.args.design.now in
    let trace : Trace = c.args.trace.now in
    let state : Valuation = valuation_of c.args.state.now in
    let samples_is : c.row-samples.result.now ≡ samples_at d trace c.args.t =
    row-is c.row-samples.result.now c.deref.result.now trace.inputs.items c.len.result (length d.inputs.items) c.args.t c.row-samples.ensures c.deref.ensures.value (c.len.ensures ∙ d.inputs.ok.0) in
    let values_is : c.row-values.result.now ≡ row c.args.chosen.now (length d.places.items) c.args.t =
    row-is c.row-values.result.now c.args.chosen.now c.args.chosen.now c.len-3.result (length d.places.items) c.args.t c.row-values.ensures refl (c.len-3.ensures ∙ d.places.ok.0) in
    let expected_is : c.row-expected.result.now ≡ expected_at d trace c.args.t =
    row-is c.row-expected.result.now c.deref-2.result.now trace.expected.items c.len-2.result (length d.outputs.items) c.args.t c.row-expected.ensures c.deref-2.ensures.value (c.len-2.ensures ∙ d.outputs.ok.0) in
    let V : Valuation = valuation_of c.in-Some.field-0.now.items in
    let next : Valuation = valuation_of c.in-Some.field-0.next.items in
    let cycle : Cycle d (samples_at d trace c.args.t) state (choice_at (freed_of c.args.freed.now) (choices_of d c.args.chosen.now) c.args.t) V next =
    step-cycle d trace c.args.freed.now c.args.chosen.now c.row-samples.result.now c.row-values.result.now c.args.t state V next samples_is values_is (rw c.in-Some.is at c.in_ok-now.ensures.some) in
    let now_is : valuation_of c.deref-in-Some.result.now ≡ V = ap valuation_of c.deref-in-Some.ensures.value in
    let right : IsRight d (expected_at d trace c.args.t) V =
    subst (λ es. IsRight d es V) expected_is (subst (λ W. IsRight d c.row-expected.result.now W) now_is (c.are_right.ensures.0 c.if-are_right.true)) in
    meets-next d trace (freed_of c.args.freed.now) (choices_of d c.args.chosen.now) c.args.t state V next c.requires.time cycle right

pub returns-then-are_right-clause-only : goal.returns-then-are_right-clause-only
returns-then-are_right-clause-only c well h meets =
    let d : Design = c.args.design.now in
    let trace : Trace = c.args.trace.now in
    let state : Valuation = valuation_of c.args.state.now in
    let samples_is : c.row-samples.result.now ≡ samples_at d trace c.args.t =
    row-is c.row-samples.result.now c.deref.result.now trace.inputs.items c.len.result (length d.inputs.items) c.args.t c.row-samples.ensures c.deref.ensures.value (c.len.ensures ∙ d.inputs.ok.0) in
    let values_is : c.row-values.result.now ≡ row c.args.chosen.now (length d.places.items) c.args.t =
    row-is c.row-values.result.now c.args.chosen.now c.args.chosen.now c.len-3.result (length d.places.items) c.args.t c.row-values.ensures refl (c.len-3.ensures ∙ d.places.ok.0) in
    let expected_is : c.row-expected.result.now ≡ expected_at d trace c.args.t =
    row-is c.row-expected.result.now c.deref-2.result.now trace.expected.items c.len-2.result (length d.outputs.items) c.args.t c.row-expected.ensures c.deref-2.ensures.value (c.len-2.ensures ∙ d.outputs.ok.0) in
    let V : Valuation = valuation_of c.in-Some.field-0.now.items in
    let next : Valuation = valuation_of c.in-Some.field-0.next.items in
    let cycle : Cycle d (samples_at d trace c.args.t) state (choice_at (freed_of c.args.freed.now) (choices_of d c.args.chosen.now) c.args.t) V next =
    step-cycle d trace c.args.freed.now c.args.chosen.now c.row-samples.result.now c.row-values.result.now c.args.t state V next samples_is values_is (rw c.in-Some.is at c.in_ok-now.ensures.some) in
    let now_is : valuation_of c.deref-in-Some.result.now ≡ V = ap valuation_of c.deref-in-Some.ensures.value in
    (first-right d c.args.order.now trace (freed_of c.args.freed.now) (choices_of d c.args.chosen.now) c.args.t state V next well h c.requires.time cycle meets).1

pub returns-in-Some-clause-none : goal.returns-in-Some-clause-none
returns-in-Some-clause-none c well h meets =
    let d : Design = c.args.design.now in
    let trace : Trace = c.args.trace.now in
    let state : Valuation = valuation_of c.args.state.now in
    let samples_is : c.row-samples.result.now ≡ samples_at d trace c.args.t =
    row-is c.row-samples.result.now c.deref.result.now trace.inputs.items c.len.result (length d.inputs.items) c.args.t c.row-samples.ensures c.deref.ensures.value (c.len.ensures ∙ d.inputs.ok.0) in
    let values_is : c.row-values.result.now ≡ row c.args.chosen.now (length d.places.items) c.args.t =
    row-is c.row-values.result.now c.args.chosen.now c.args.chosen.now c.len-3.result (length d.places.items) c.args.t c.row-values.ensures refl (c.len-3.ensures ∙ d.places.ok.0) in
    let expected_is : c.row-expected.result.now ≡ expected_at d trace c.args.t =
    row-is c.row-expected.result.now c.deref-2.result.now trace.expected.items c.len-2.result (length d.outputs.items) c.args.t c.row-expected.ensures c.deref-2.ensures.value (c.len-2.ensures ∙ d.outputs.ok.0) in
    let V : Valuation = valuation_of c.in-Some.field-0.now.items in
    let next : Valuation = valuation_of c.in-Some.field-0.next.items in
    let cycle : Cycle d (samples_at d trace c.args.t) state (choice_at (freed_of c.args.freed.now) (choices_of d c.args.chosen.now) c.args.t) V next =
    step-cycle d trace c.args.freed.now c.args.chosen.now c.row-samples.result.now c.row-values.result.now c.args.t state V next samples_is values_is (rw c.in-Some.is at c.in_ok-now.ensures.some) in
    let now_is : valuation_of c.deref-in-Some.result.now ≡ V = ap valuation_of c.deref-in-Some.ensures.value in
    let right : IsRight d (expected_at d trace c.args.t) V =
    (first-right d c.args.order.now trace (freed_of c.args.freed.now) (choices_of d c.args.chosen.now) c.args.t state V next well h c.requires.time cycle meets).0 in
    both_ways c.are_right.result c.if-are_right.false
    (c.are_right.ensures.1 (subst (λ W. IsRight d c.row-expected.result.now W) (sym now_is) (subst (λ es. IsRight d es V) (sym expected_is) right)))

pub returns-clause-none : goal.returns-clause-none
returns-clause-none c well h meets =
    let d : Design = c.args.design.now in
    let trace : Trace = c.args.trace.now in
    let state : Valuation = valuation_of c.args.state.now in
    let samples_is : c.row-samples.result.now ≡ samples_at d trace c.args.t =
    row-is c.row-samples.result.now c.deref.result.now trace.inputs.items c.len.result (length d.inputs.items) c.args.t c.row-samples.ensures c.deref.ensures.value (c.len.ensures ∙ d.inputs.ok.0) in
    let values_is : c.row-values.result.now ≡ row c.args.chosen.now (length d.places.items) c.args.t =
    row-is c.row-values.result.now c.args.chosen.now c.args.chosen.now c.len-3.result (length d.places.items) c.args.t c.row-values.ensures refl (c.len-3.ensures ∙ d.places.ok.0) in
    let first : First d trace (freed_of c.args.freed.now) (choices_of d c.args.chosen.now) c.args.t state =
    first-of d trace (freed_of c.args.freed.now) (choices_of d c.args.chosen.now) c.args.t state c.requires.time meets in
    (rw c.in-None.is at c.in_ok-now.ensures.none) well h first.V first.next
    (cycle-step d trace c.args.freed.now c.args.chosen.now c.row-samples.result.now c.row-values.result.now c.args.t state first.V first.next samples_is values_is first.cycle)

use Rattle.std.proofs.Common.{◌+◌, ◌*◌, ◌<◌, ◌≤◌, ℕ, [], ◌∷◌, ◌∙◌, refl, ap, ap₂, sym, subst, length, get_or, arith}
use Rattle.std.specs.Prelude.{slice_range}
use Rattle.std.proofs.lemmas.Grind.{common_steps}
use Rattle.std.proofs.lemmas.Result.{on_ok_weaker, IfErr-weaker}
use Rattle.gate_base.specs.Nodes.{AreOrderedFrom}
use Rattle.design_core.specs.Given.{row}
use Rattle.clause_form.specs.Limits.{IsRefused}
use Rattle.clause_form.specs.Clauses.{nodes_clauses, words_clauses, cycle_clauses}
use Rattle.clause_form.specs.Fields.{after, sunk_of}
use Rattle.clause_form.specs.Variables.{HaveVariables}
use Rattle.clause_form.proofs.WalkSteps.{refused-more, from-end, end-there, ordered-cycle, have-outputs, slice-ends}
use Rattle.clause_form.proofs.CycleSteps.{parts-of, cycle-done, cycle-count-one, cycle-count-two}
use Rattle.clause_form.proofs.sink.Sink.cycle.Goals as goal

pub part-definitions-requires-clause-order : goal.part-definitions-requires-clause-order
part-definitions-requires-clause-order c =
    let start = c.start_of-from.ensures ∙ ap (λ es. get_or (0 ∷ es) c.args.t 0) c.ends.ensures in
    let stop = ap (λ es. get_or es c.args.t 0) c.ends-2.ensures in
    omega (arith, start, stop, from-end c.args.u.now c.definitions.ensures.kept c.args.t c.requires.cycle)

pub part-definitions-requires-clause-within : goal.part-definitions-requires-clause-within
part-definitions-requires-clause-within c =
    let stop = ap (λ es. get_or es c.args.t 0) c.ends-2.ensures in
    omega (arith, stop, ap length c.definitions.ensures.value, end-there c.args.u.now c.definitions.ensures.kept c.args.t c.requires.cycle)

pub nodes-requires-clause-fits : goal.nodes-requires-clause-fits
nodes-requires-clause-fits c =
    let u = c.args.u.now in
    let start = c.start_of-from.ensures ∙ ap (λ es. get_or (0 ∷ es) c.args.t 0) c.ends.ensures in
    let stop = ap (λ es. get_or es c.args.t 0) c.ends-2.ensures in
    let nodes = c.part-definitions.ensures
    ∙ ap (λ ds. slice_range ds c.start_of-from.result (get_or c.ends-2.result.now c.args.t 0)) c.definitions.ensures.value
    ∙ ap₂ (λ a b. slice_range u.definitions a b) start stop in
    subst (λ ns. AreOrderedFrom c.start_of-from.result ns) (sym nodes)
    (subst (λ f. AreOrderedFrom f (slice_range u.definitions (get_or (0 ∷ u.ends) c.args.t 0) (get_or u.ends c.args.t 0))) (sym start)
    (ordered-cycle u c.definitions.ensures.kept c.args.t c.requires.cycle))

pub nodes-requires-clause-variables : goal.nodes-requires-clause-variables
nodes-requires-clause-variables c =
    let u = c.args.u.now in
    let start = c.start_of-from.ensures ∙ ap (λ es. get_or (0 ∷ es) c.args.t 0) c.ends.ensures in
    let stop = ap (λ es. get_or es c.args.t 0) c.ends-2.ensures in
    let order = from-end u c.definitions.ensures.kept c.args.t c.requires.cycle in
    let there = end-there u c.definitions.ensures.kept c.args.t c.requires.cycle in
    let size = ap length c.definitions.ensures.value in
    let long = slice-ends c.definitions.result.now c.start_of-from.result (get_or c.ends-2.result.now c.args.t 0) (omega (arith, start, stop, order))
    (omega (arith, stop, there, size)) in
    omega (
      arith,
      ap length c.part-definitions.ensures,
      long,
      stop,
      there,
      size,
      c.requires.base,
      c.definitions.ensures.kept.some,
      c.definitions.ensures.kept.within,
    )

pub returns-in_err-nodes-clause-err : goal.returns-in_err-nodes-clause-err
returns-in_err-nodes-clause-err c =
    let u = c.args.u.now in
    let t = c.args.t in
    let selectors = λ (place : ℕ). get_or c.args.selectors.now place [] in
    let s0 = sunk_of c.args.self.now in
    let start = c.start_of-from.ensures ∙ ap (λ es. get_or (0 ∷ es) c.args.t 0) c.ends.ensures in
    let stop = ap (λ es. get_or es c.args.t 0) c.ends-2.ensures in
    let nodes = c.part-definitions.ensures
    ∙ ap (λ ds. slice_range ds c.start_of-from.result (get_or c.ends-2.result.now c.args.t 0)) c.definitions.ensures.value
    ∙ ap₂ (λ a b. slice_range u.definitions a b) start stop in
    let parts = parts-of s0 u selectors t c.start_of-from.result (t * u.each) c.part-definitions.result.now (row u.expected u.each t) u.outputs
    c.definitions.ensures.kept c.requires.cycle c.requires.base start nodes refl refl refl in
    let whole = (after s0 (cycle_clauses u selectors t (get_or (0 ∷ u.ends) t 0) (get_or u.ends t 0))).count in
    let part = (after s0 (nodes_clauses s0.base selectors c.start_of-from.result c.part-definitions.result.now)).count in
    let le : part ≤ whole = cycle-count-one s0 u selectors t c.start_of-from.result (t * u.each) c.part-definitions.result.now
    (row u.expected u.each t) u.outputs parts in
    let more : IsRefused c.in_err-nodes.field-0.0 (64000000 < whole) =
    refused-more c.in_err-nodes.field-0.0 part whole le c.in_err-nodes.ensures.err in
    grind (arith, common_steps, more)

pub words-requires-clause-variables : goal.words-requires-clause-variables
words-requires-clause-variables c = λ i.
    subst (λ b. HaveVariables b (get_or c.outputs.result.now i [])) (sym (ap (λ s. s.base) c.in_ok-nodes.ensures.ok ∙ c.requires.base))
    (subst (λ os. HaveVariables c.args.u.now.base (get_or os i [])) (sym c.outputs.ensures)
    (have-outputs c.args.u.now c.definitions.ensures.kept i))

pub returns-clause-ok : goal.returns-clause-ok
returns-clause-ok c =
    let u = c.args.u.now in
    let t = c.args.t in
    let selectors = λ (place : ℕ). get_or c.args.selectors.now place [] in
    let s0 = sunk_of c.args.self.now in
    let start = c.start_of-from.ensures ∙ ap (λ es. get_or (0 ∷ es) c.args.t 0) c.ends.ensures in
    let stop = ap (λ es. get_or es c.args.t 0) c.ends-2.ensures in
    let nodes = c.part-definitions.ensures
    ∙ ap (λ ds. slice_range ds c.start_of-from.result (get_or c.ends-2.result.now c.args.t 0)) c.definitions.ensures.value
    ∙ ap₂ (λ a b. slice_range u.definitions a b) start stop in
    let wanted = c.row-expected.ensures ∙ ap₂ (λ xs w. row xs w c.args.t) c.expected.ensures c.each.ensures in
    let parts = parts-of s0 u selectors t c.start_of-from.result (t * c.each-2.result) c.part-definitions.result.now c.row-expected.result.now
    c.outputs.result.now c.definitions.ensures.kept c.requires.cycle c.requires.base start nodes wanted c.outputs.ensures
    (ap (λ w. c.args.t * w) c.each-2.ensures) in
    on_ok_weaker c.words.result
    (cycle-done s0 u selectors t c.start_of-from.result (t * c.each-2.result) c.part-definitions.result.now c.row-expected.result.now
    c.outputs.result.now parts (sunk_of c.nodes.new.self) (sunk_of c.words.new.self) c.in_ok-nodes.ensures.ok)
    c.words.ensures.ok

pub returns-clause-err : goal.returns-clause-err
returns-clause-err c =
    let u = c.args.u.now in
    let t = c.args.t in
    let selectors = λ (place : ℕ). get_or c.args.selectors.now place [] in
    let s0 = sunk_of c.args.self.now in
    let s1 = sunk_of c.nodes.new.self in
    let start = c.start_of-from.ensures ∙ ap (λ es. get_or (0 ∷ es) c.args.t 0) c.ends.ensures in
    let stop = ap (λ es. get_or es c.args.t 0) c.ends-2.ensures in
    let nodes = c.part-definitions.ensures
    ∙ ap (λ ds. slice_range ds c.start_of-from.result (get_or c.ends-2.result.now c.args.t 0)) c.definitions.ensures.value
    ∙ ap₂ (λ a b. slice_range u.definitions a b) start stop in
    let wanted = c.row-expected.ensures ∙ ap₂ (λ xs w. row xs w c.args.t) c.expected.ensures c.each.ensures in
    let parts = parts-of s0 u selectors t c.start_of-from.result (t * c.each-2.result) c.part-definitions.result.now c.row-expected.result.now
    c.outputs.result.now c.definitions.ensures.kept c.requires.cycle c.requires.base start nodes wanted c.outputs.ensures
    (ap (λ w. c.args.t * w) c.each-2.ensures) in
    let first = t * c.each-2.result in
    let whole = (after s0 (cycle_clauses u selectors t (get_or (0 ∷ u.ends) t 0) (get_or u.ends t 0))).count in
    let part = (after s1 (words_clauses s1.base c.row-expected.result.now
    (slice_range c.outputs.result.now first (first + length c.row-expected.result.now)))).count in
    IfErr-weaker c.words.result (λ e. IsRefused e (64000000 < part)) (λ e. IsRefused e (64000000 < whole))
    (λ e. refused-more e part whole
    (cycle-count-two s0 u selectors t c.start_of-from.result first c.part-definitions.result.now c.row-expected.result.now c.outputs.result.now
    parts s1 c.in_ok-nodes.ensures.ok))
    c.words.ensures.err

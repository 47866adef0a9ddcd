use Rattle.std.proofs.Common.{◌≡◌, ◌∙◌, ◌++◌, ◌∷◌, ◌+◌, [], ap, sym, arith}
use Rattle.sat_core.specs.SolverState.{assignment_of}
use Rattle.set_enum.specs.Sets.{selected}
use Rattle.set_enum.proofs.Certifying.{left_out, left_out-no, left_out-yes, passed_over_are}
use Rattle.set_enum.proofs.selections.passed_over.Goals as goal
use Rattle.set_enum.proofs.selections.passed_over.Goals.{then-not-model-before+in_ok-push, else-not-model-before}

pub loop-before-preserved : goal.loop-before-preserved
loop-before-preserved c = elim c.if-not-model-before.branch [
  | then-not-model-before+in_ok-push w ↦
      ap (λ v. v.items) w.passed-is ∙ (w.in_ok-push.ensures.items ∙ (ap (λ xs. xs ++ (c.loop-before.before + 1) ∷ []) c.loop-before.invariant
      ∙ sym (left_out-yes c.args.model.now c.loop-before.before w.if-not-model-before.true)))
  | else-not-model-before w ↦
      ap (λ v. v.items) w.passed-is ∙ (c.loop-before.invariant ∙ sym (left_out-no c.args.model.now c.loop-before.before w.if-not-model-before.false))
]

pub returns : goal.returns
returns c =
    let same : c.loop-before.before ≡ c.last_selected-last.result = omega (arith, c.loop-before-test.false, c.loop-before.auto.before-end) in
    passed_over_are c.args.n c.last_selected-last.result (assignment_of c.args.model.now) c.loop-before.passed.items c.last_selected-last.ensures
    (c.loop-before.invariant ∙ ap (λ m. selected m (left_out (assignment_of c.args.model.now))) same)

use Rattle.std.proofs.Common.{◌∙◌, ap, sym, ◌++◌, ◌∷◌, [], ◌+◌, subst, ◌≡◌, true}
use Rattle.clause_base.specs.Literal.{has_distinct_variables, negative}
use Rattle.sat_core.specs.SolverState.{assignment_of}
use Rattle.set_enum.specs.Sets.{block_of, selected}
use Rattle.set_enum.proofs.Selecting.{selected-yes, selected-no, block-push, block-distinct}
use Rattle.set_enum.proofs.selections.block_of.Goals as goal
use Rattle.set_enum.proofs.selections.block_of.Goals.{then-model-before+in_ok-push, else-model-before}

pub loop-before-preserved : goal.loop-before-preserved
loop-before-preserved c = elim c.if-model-before.branch [
  | then-model-before+in_ok-push w ↦
      ap (λ v. v.items) w.literals-is ∙ (w.in_ok-push.ensures.items ∙
      (ap (λ xs. xs ++ negative (c.loop-before.before + 1) ∷ []) c.loop-before.invariant
      ∙ (sym (block-push (selected c.loop-before.before (assignment_of c.args.model.now)) (c.loop-before.before + 1))
      ∙ ap block_of (sym (selected-yes c.args.model.now c.loop-before.before w.if-model-before.true)))))
  | else-model-before w ↦ ap (λ v. v.items) w.literals-is ∙ (c.loop-before.invariant ∙ ap block_of
      (sym (selected-no c.args.model.now c.loop-before.before w.if-model-before.false)))
]

pub new-requires : goal.new-requires
new-requires c =
    subst (λ ls. has_distinct_variables ls ≡ true) (sym (c.as_slice.ensures.value ∙ c.loop-before.invariant))
    (block-distinct c.loop-before.before (assignment_of c.args.model.now))

use Rattle.std.proofs.Common.{◌≡◌, ◌+◌, ◌++◌, ◌∷◌, take, drop, Bool, Some, arith}
use Rattle.std.proofs.lemmas.List.{take_all}
use Rattle.clause_base.specs.declared.literal.Lit.{Lit}
use Rattle.proof_check.specs.Marks.{marked}
use Rattle.proof_check.specs.Merging.{HasNoResolvent}
use Rattle.proof_check.proofs.Merged.{Merging, merging-taken, merging-refused, merging-some}
use Rattle.proof_check.proofs.Struck.{literal_at, split_at, take_literal, new_variable, marked-IsConsistent}
use Rattle.proof_check.proofs.resolve.resolve.Goals as goal

pub returns-in_err-merge-clause-resolves : goal.returns-in_err-merge-clause-resolves
returns-in_err-merge-clause-resolves c =
    let i = c.loop-literal.literal-index in
    let l = literal_at c.args.clause.now i in
    let a : Lit → Bool = marked c.args.stamp c.args.marks.now in
    let refused : HasNoResolvent a (take i c.args.clause.now ++ l ∷ drop (i + 1) c.args.clause.now) =
    merging-refused a (take i c.args.clause.now) c.loop-literal.merge.clash (marked c.args.stamp c.loop-literal.marks) l (drop (i + 1) c.args.clause.now) c.loop-literal.invariant.merging
    (new_variable c.args.clause.now i c.requires.distinct (omega arith)) c.in_err-merge.ensures.takes.0 c.in_err-merge.ensures.takes.1 in
    let whole : HasNoResolvent a c.args.clause.now = rw (split_at c.args.clause.now i (omega arith)) refused in
    rw c.from_residual.ensures whole

pub loop-literal-preserved : goal.loop-literal-preserved
loop-literal-preserved c =
    let i = c.loop-literal.literal-index in
    let l = literal_at c.args.clause.now i in
    record {
      merging = rw (take_literal c.args.clause.now i (omega arith)) (merging-taken (marked c.args.stamp c.args.marks.now) (take i c.args.clause.now) c.loop-literal.merge.clash (marked c.args.stamp c.loop-literal.marks) l
          (marked c.args.stamp c.take_in.new.marks) c.in_ok-merge.merge.clash (marked-IsConsistent c.args.stamp c.args.marks.now) c.loop-literal.invariant.merging
          (new_variable c.args.clause.now i c.requires.distinct (omega arith)) c.in_ok-merge.ensures.takes);
      count = c.in_ok-merge.ensures.held;
      stamps = λ earlier. c.take_in.ensures.stamps (c.loop-literal.invariant.stamps earlier);
    }

pub returns-clause-resolves : goal.returns-clause-resolves
returns-clause-resolves c =
    let all : take c.loop-literal.literal-index c.args.clause.now ≡ c.args.clause.now = take_all c.loop-literal.literal-index c.args.clause.now c.loop-literal-test.false in
    let a : Lit → Bool = marked c.args.stamp c.args.marks.now in
    let clash : c.loop-literal.merge.clash ≡ Some c.in_ok-pivot.pivot = c.in_ok-pivot.was in
    let merged : Merging a c.args.clause.now (Some c.in_ok-pivot.pivot) (marked c.args.stamp c.loop-literal.marks) = rw (← clash, ← all) c.loop-literal.invariant.merging in
    merging-some a c.args.clause.now c.in_ok-pivot.pivot (marked c.args.stamp c.loop-literal.marks) (marked c.args.stamp c.remove.new.marks) merged c.remove.ensures.removes

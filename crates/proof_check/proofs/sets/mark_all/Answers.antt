use Rattle.std.proofs.Common.{◌||◌, take, sym, ap, ◌∙◌, arith}
use Rattle.clause_base.specs.Literal.{has, same_lit, opposite}
use Rattle.clause_base.proofs.Sets.{absent, has-push}
use Rattle.proof_check.proofs.Struck.{literal_at, take_literal, new_variable, earlier-none, earlier-held}
use Rattle.proof_check.proofs.sets.mark_all.Goals as goal

pub loop-literal-init : goal.loop-literal-init
loop-literal-init c = record {
  marks = λ m. earlier-none c.args.stamp c.args.marks.now m c.requires.stamp c.requires.clear;
  count = earlier-held c.args.stamp c.args.marks.now c.requires.stamp c.requires.clear;
  stamps = λ k d within. omega (arith, c.requires.clear k d within);
}

pub insert-requires-clause-absent : goal.insert-requires-clause-absent
insert-requires-clause-absent c =
    let i = c.loop-literal.literal-index in
    let l = literal_at c.args.clause.now i in
    c.loop-literal.invariant.marks l ∙ absent (take i c.args.clause.now) l (new_variable c.args.clause.now i c.requires.distinct (omega arith))

pub insert-requires-clause-open : goal.insert-requires-clause-open
insert-requires-clause-open c =
    let i = c.loop-literal.literal-index in
    let l = opposite (literal_at c.args.clause.now i) in
    c.loop-literal.invariant.marks l ∙ absent (take i c.args.clause.now) l (new_variable c.args.clause.now i c.requires.distinct (omega arith))

pub loop-literal-preserved : goal.loop-literal-preserved
loop-literal-preserved c =
    let i = c.loop-literal.literal-index in
    let l = literal_at c.args.clause.now i in
    record {
      marks = λ m. c.insert.ensures.adds.adds m
          ∙ ap (λ b. b || same_lit l m) (c.loop-literal.invariant.marks m)
          ∙ sym (has-push (take i c.args.clause.now) l m)
          ∙ ap (λ s. has s m) (sym (take_literal c.args.clause.now i (omega arith)));
      count = omega arith;
      stamps = c.insert.ensures.stamps c.loop-literal.invariant.stamps;
    }

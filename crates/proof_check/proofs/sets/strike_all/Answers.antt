use Rattle.std.proofs.Common.{◌≡◌, ◌+◌, take, drop, sym, ◌∙◌, subst, Bool, List, arith}
use Rattle.std.proofs.lemmas.List.{take_all}
use Rattle.std.proofs.lemmas.Bool.{false≢true}
use Rattle.clause_base.specs.declared.literal.Lit.{Lit}
use Rattle.proof_check.specs.Marks.{marked}
use Rattle.proof_check.proofs.Struck.{literal_at, split_at, take_literal, new_variable, Striking, striking-more, striking-refused, striking-decides}
use Rattle.proof_check.proofs.sets.strike_all.Goals as goal

pub returns-then-not-is_listed-clause-same : goal.returns-then-not-is_listed-clause-same
returns-then-not-is_listed-clause-same c =
    let i = c.loop-literal.literal-index in
    let l = literal_at c.args.clause.now i in
    let a : Lit → Bool = marked c.args.stamp c.args.marks.now in (
      λ no. absurd (false≢true no),
      λ same. absurd (striking-refused a (take i c.args.clause.now) (marked c.args.stamp c.loop-literal.marks) l (drop (i + 1) c.args.clause.now) c.loop-literal.invariant.striking
          (new_variable c.args.clause.now i c.requires.distinct (omega arith)) (sym c.is_listed.ensures ∙ c.if-not-is_listed.true) (rw (← split_at c.args.clause.now i (omega arith)) same)),
    )

pub loop-literal-preserved : goal.loop-literal-preserved
loop-literal-preserved c =
    let i = c.loop-literal.literal-index in
    let l = literal_at c.args.clause.now i in
    record {
      striking = rw (take_literal c.args.clause.now i (omega arith)) (striking-more (marked c.args.stamp c.args.marks.now) (take i c.args.clause.now) (marked c.args.stamp c.loop-literal.marks) l
          (marked c.args.stamp c.remove.new.marks) c.loop-literal.invariant.striking (sym c.is_listed.ensures ∙ c.if-not-is_listed.false) c.remove.ensures.removes);
      count = omega (arith, c.remove.ensures.held, c.loop-literal.invariant.count);
      stamps = λ earlier. c.remove.ensures.stamps (c.loop-literal.invariant.stamps earlier);
    }

pub returns-clause-same : goal.returns-clause-same
returns-clause-same c =
    let all : take c.loop-literal.literal-index c.args.clause.now ≡ c.args.clause.now = take_all c.loop-literal.literal-index c.args.clause.now c.loop-literal-test.false in
    striking-decides c.args.stamp c.args.marks.now c.loop-literal.marks c.args.clause.now c.loop-literal.left c.requires.stamp
    (subst (λ (seen : List Lit). Striking (marked c.args.stamp c.args.marks.now) seen (marked c.args.stamp c.loop-literal.marks)) all c.loop-literal.invariant.striking) c.loop-literal.invariant.count

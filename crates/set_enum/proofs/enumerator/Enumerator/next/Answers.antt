use Rattle.std.proofs.Common.{inl, refl, subst}
use Rattle.set_enum.specs.EnumState.{IsEnum}
use Rattle.set_enum.specs.Outcome.{IsOpen}
use Rattle.set_enum.specs.Standing.{Advances}
use Rattle.set_enum.proofs.Adding.{Adds-none, Adds-trans, IsOpen-trans, answers, closed_gives, closed_stays, few_seen, moves, on_err}
use Rattle.set_enum.proofs.Adding.{open_seen, open_stays, search_fits, shut_seen, smaller}
use Rattle.set_enum.proofs.enumerator.Enumerator.next.Goals as goal

pub loop-self-init : goal.loop-self-init
loop-self-init c = record { adds = Adds-none c.args.self.now c.args.budget.now; moved = inl refl }

pub advance-requires-clause-clauses_fit : goal.advance-requires-clause-clauses_fit
advance-requires-clause-clauses_fit c =
    search_fits _ _ _ _ c.loop-self.invariant.adds (open_seen _ _ c.self.view_is c.loop-self-test.true)
    (few_seen _ _ c.self.view_is c.self.invariant.holds.few) c.requires.clauses_fit

pub returns-in_err-answer-clause-adds : goal.returns-in_err-answer-clause-adds
returns-in_err-answer-clause-adds c =
    Adds-trans _ _ _ _ _ _ c.loop-self.invariant.adds c.advance.ensures.adds

pub returns-in_err-answer-clause-err : goal.returns-in_err-answer-clause-err
returns-in_err-answer-clause-err c =
    on_err c.from_residual.result (IsOpen c.args.self.now c.advance.new.self)
    (IsOpen-trans _ _ c.advance.new.self _ _ c.loop-self.invariant.adds c.in_err-answer.ensures.err)

pub returns-in_err-answer-clause-ended : goal.returns-in_err-answer-clause-ended
returns-in_err-answer-clause-ended c =
    open_stays _ _ c.advance.new.self _ _ c.from_residual.result c.loop-self.invariant.adds
    (open_seen _ _ c.self.view_is c.loop-self-test.true)

pub returns-in-Some-clause-adds : goal.returns-in-Some-clause-adds
returns-in-Some-clause-adds c =
    Adds-trans _ _ _ _ _ _ c.loop-self.invariant.adds c.advance.ensures.adds

pub returns-in-Some-clause-gives : goal.returns-in-Some-clause-gives
returns-in-Some-clause-gives c =
    answers _ _ c.advance.new.self _ _ c.advance.new.budget c.in-Some.answer c.loop-self.invariant.adds
    (subst (Advances c.loop-self.self c.advance.new.self c.advance.new.budget) c.in-Some.is c.in_ok-answer.ensures.gives)
    (open_seen _ _ c.self.view_is c.loop-self-test.true)

pub returns-in-Some-clause-ended : goal.returns-in-Some-clause-ended
returns-in-Some-clause-ended c =
    open_stays _ _ c.advance.new.self _ _ _ c.loop-self.invariant.adds (open_seen _ _ c.self.view_is c.loop-self-test.true)

pub loop-self-smaller : goal.loop-self-smaller
loop-self-smaller c =
    smaller _ _ _ _ c.advance.ensures.adds (open_seen _ _ c.self.view_is c.loop-self-test.true)
    (subst (Advances c.loop-self.self c.advance.new.self c.advance.new.budget) c.in_default.is c.in_ok-answer.ensures.gives)

pub loop-self-preserved : goal.loop-self-preserved
loop-self-preserved c = record {
  adds = Adds-trans _ _ _ _ _ _ c.loop-self.invariant.adds c.advance.ensures.adds;
  moved = moves _ _ c.advance.new.self _ _ c.advance.new.budget c.loop-self.invariant.adds
      (open_seen _ _ c.self.view_is c.loop-self-test.true)
      (subst (Advances c.loop-self.self c.advance.new.self c.advance.new.budget) c.in_default.is c.in_ok-answer.ensures.gives);
}

pub returns-clause-gives : goal.returns-clause-gives
returns-clause-gives c =
    closed_gives _ _ _ _ c.loop-self.invariant.adds (subst IsEnum c.self.view_is c.self.invariant.holds)
    (shut_seen _ _ c.self.view_is c.loop-self-test.false) c.loop-self.invariant.moved

pub returns-clause-ended : goal.returns-clause-ended
returns-clause-ended c = closed_stays c.args.self.now c.loop-self.self c.loop-self.budget c.loop-self.invariant.moved

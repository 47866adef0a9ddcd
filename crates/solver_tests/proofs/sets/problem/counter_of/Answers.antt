use Rattle.std.proofs.Common.{◌∙◌, ◌+◌, ap, sym, subst, length, arith}
use Rattle.card_counter.specs.Places.{starts}
use Rattle.card_counter.specs.Means.{AreBefore}
use Rattle.card_counter.proofs.InForms.{selectors-before}
use Rattle.solver_tests.proofs.CounterLaws.{literals_length}
use Rattle.solver_tests.proofs.sets.problem.counter_of.Goals as goal

pub counter-requires-clause-before : goal.counter-requires-clause-before
counter-requires-clause-before c = subst (AreBefore (c.args.n + 1)) (sym (c.as_slice.ensures.value ∙ c.in_ok-selectors.ensures))
    (selectors-before c.args.n)

pub counter-requires-clause-variables_fit : goal.counter-requires-clause-variables_fit
counter-requires-clause-variables_fit c =
    omega (
      arith,
      ap (λ ls. starts c.args.k (length ls + 1)) (c.as_slice.ensures.value ∙ c.in_ok-selectors.ensures),
      ap (λ m. starts c.args.k (m + 1)) (literals_length 1 c.args.n),
      c.requires.small,
      c.requires.few,
    )

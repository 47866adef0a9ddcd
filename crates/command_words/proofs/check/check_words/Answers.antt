use Rattle.std.proofs.Common.{rules, ◌≡◌, true, subst, sym}
use Rattle.command_words.specs.Check.{IsCheckAsked, are_check_names}
use Rattle.command_words.specs.Views.{check_values}
use Rattle.command_words.proofs.CheckHolding.{check-holds}
use Rattle.command_words.proofs.check.check_words.Goals as goal

pub returns-clause-holds : goal.returns-clause-holds
returns-clause-holds c =
    let names : are_check_names (check_values c.in_ok-values.values) ≡ true = search rules in
    subst IsCheckAsked (sym c.in_ok-copied.ensures)
    (check-holds (check_values c.in_ok-values.values) names c.in_ok-values.ensures.workers)

use Rattle.std.proofs.Common.{rules, ◌≡◌, true, map, subst, sym}
use Rattle.word_values.specs.Values.{are_kinds}
use Rattle.word_values.proofs.Holding.{kinds-some}
use Rattle.command_words.specs.Find.{IsFindAsked, are_find_names}
use Rattle.command_words.specs.Views.{find_values}
use Rattle.command_words.proofs.FindHolding.{find-holds}
use Rattle.command_words.proofs.find.find_words.Goals as goal

pub returns-clause-holds : goal.returns-clause-holds
returns-clause-holds c =
    let asked = find_values c.in_ok-values.values in
    let known = map (λ w. w.now) c.args.known.now in
    let names : are_find_names asked ≡ true = search rules in
    let kinds : are_kinds known asked.listing.suspects ≡ true = search rules in
    subst (IsFindAsked known) (sym c.in_ok-copied.ensures)
    (find-holds known asked names kinds (kinds-some c.in_ok-values.values.listing.suspects.now) c.in_ok-values.ensures.numbers)

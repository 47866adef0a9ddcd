use Rattle.std.proofs.Common.{rules, ◌≡◌, true, map, subst, sym}
use Rattle.word_values.specs.Values.{are_kinds}
use Rattle.word_values.proofs.Holding.{kinds-some}
use Rattle.command_words.specs.Make.{IsMakeAsked, are_make_names}
use Rattle.command_words.specs.Views.{make_values}
use Rattle.command_words.proofs.MakeHolding.{make-holds}
use Rattle.command_words.proofs.make.make_words.Goals as goal

pub returns-clause-holds : goal.returns-clause-holds
returns-clause-holds c =
    let asked = make_values c.in_ok-values.values in
    let known = map (λ w. w.now) c.args.known.now in
    let names : are_make_names asked ≡ true = search rules in
    let kinds : are_kinds known asked.listing.suspects ≡ true = search rules in
    subst (IsMakeAsked known) (sym c.in_ok-copied.ensures)
    (make-holds known asked names kinds (kinds-some c.in_ok-values.values.listing.suspects.now) c.in_ok-values.ensures.number
    c.in_ok-values.ensures.numbers)

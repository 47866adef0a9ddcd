use Rattle.std.proofs.Common.{◌≡◌, refl, sym, ◌∙◌}
use Rattle.std.specs.Prelude.{true, false}
use Rattle.std.specs.List.{list_any}
use Rattle.cycle_compile.specs.Carrying.{has_wild}
use Rattle.cycle_compile.proofs.Labelling.{items-suit}
use Rattle.cycle_compile.proofs.case.compared.Goals as goal

pub returns-then-have_wild-clause-suits : goal.returns-then-have_wild-clause-suits
returns-then-have_wild-clause-suits c signals places =
    items-suit signals places c.args.subject.now.width c.args.subject.now.width c.args.items.now (λ some. refl)

pub returns-clause-suits : goal.returns-clause-suits
returns-clause-suits c signals places =
    let none : list_any has_wild c.args.items.now ≡ false = sym c.have_wild.ensures ∙ c.if-have_wild.false in
    items-suit signals places c.args.subject.now.width c.bare.result.now.width c.args.items.now (λ some. absurd (differ (sym some ∙ none)))
  where
    differ : true ≡ false → ⊥
    differ same = absurd cc

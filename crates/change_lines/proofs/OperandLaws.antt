-- The operands below one number more.
use Rattle.std.proofs.Common.{◌≡◌, ◌+◌, ℕ, true, false, List, [], ◌∷◌, ◌++◌, ap, ◌∙◌, add-one, refl}
use Rattle.std.specs.Prelude.{if◌then◌else◌}
use Rattle.std.proofs.lemmas.List.{append-nil}
use Rattle.design_core.specs.declared.expression.Typed.{Typed}
use Rattle.change_lines.specs.Operands.{named_below, names}

pub named_below-none : (e : Typed) → named_below 0 e ≡ []
unfolding named_below
named_below-none e = refl

next : (n : ℕ) (e : Typed) → named_below (n + 1) e ≡ named_below n e ++ (if names n e then n ∷ [] else [])
unfolding named_below
next n e = rw (add-one n) refl

pub named_below-more : (n : ℕ) (e : Typed) → names n e ≡ true → named_below (n + 1) e ≡ named_below n e ++ n ∷ []
named_below-more n e is = next n e ∙ ap (λ t. named_below n e ++ (if t then n ∷ [] else [])) is

pub named_below-past : (n : ℕ) (e : Typed) → names n e ≡ false → named_below (n + 1) e ≡ named_below n e
named_below-past n e is = next n e ∙ ap (λ t. named_below n e ++ (if t then n ∷ [] else [])) is ∙ append-nil (named_below n e)

pub ruleset operand_rules = (named_below-none, named_below-more, named_below-past)

-- One name more in a table.
use Rattle.std.proofs.Common.{◌≡◌, ℕ, suc, ◌<◌, Bool, true, false, ◌||◌, List, ◌∷◌, length, get_or, drop, drop-cons, Option, Some, None, is_some, refl, sym, ap, ◌∙◌}
use Rattle.std.specs.Prelude.{if◌then◌else◌}
use Rattle.v_hierarchy.specs.Names.{same_name}
use Rattle.bind_signals.proofs.LoopLaws.{same-back}

pub put-one : (before after : List ℕ → Option ℕ) (name q : List ℕ) (n : ℕ) → after q ≡ (if same_name name q then Some n else before q)
    → is_some (after q) ≡ (same_name name q || is_some (before q))
put-one before after name q n is = ap is_some is ∙ step (same_name name q)
  where
    step : (same : Bool) → is_some (if same then Some n else before q) ≡ (same || is_some (before q))
    step true = refl
    step false = refl

pub put-next : (name q : List ℕ) (before after rest : Bool) → after ≡ (same_name name q || before) → (after || rest) ≡ (before || (same_name q name || rest))
put-next name q before after rest is = ap (λ b. b || rest) is ∙ step (same_name name q) before ∙ ap (λ b. before || (b || rest)) (same-back name q)
  where
    step : (same old : Bool) → ((same || old) || rest) ≡ (old || (same || rest))
    step true true = refl
    step true false = refl
    step false old = refl

-- what is left of a list
pub drop-next : {X : Type 0} (xs : List X) (at next : ℕ) (x : X) → suc at ≡ next → at < length xs → x ≡ get_or xs at x → drop at xs ≡ x ∷ drop next xs
drop-next xs at next x one within is = drop-cons xs at x within ∙ ap (λ y. y ∷ drop (suc at) xs) (sym is) ∙ ap (λ k. x ∷ drop k xs) one

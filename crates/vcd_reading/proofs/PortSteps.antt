-- The place of the first element that passes a test, step by step.
use Rattle.std.proofs.Common.{◌≡◌, ℕ, ◌+◌, ◌<◌, Bool, true, false, not, List, length, get_or, drop, ◌∙◌, ap, arith}
use Rattle.std.specs.List.{position_or_len}
use Rattle.std.proofs.lemmas.Bool.{cond-true, cond-false}
use Rattle.std.proofs.lemmas.List.{drop_more, drop_all}

-- it is here
pub place_here : {X : Type 0} (p : X → Bool) (xs : List X) (i : ℕ) (d : X) → i < length xs → p (get_or xs i d) ≡ true → position_or_len p (drop i xs) ≡ 0
place_here p xs i d within passes = ap (position_or_len p) (drop_more xs i d within) ∙ cond-false _ _ _ (ap not passes)

-- it is behind this one
pub place_later : {X : Type 0} (p : X → Bool) (xs : List X) (i : ℕ) (d : X) → i < length xs → p (get_or xs i d) ≡ false
    → position_or_len p (drop i xs) ≡ 1 + position_or_len p (drop (i + 1) xs)
place_later p xs i d within fails = ap (position_or_len p) (drop_more xs i d within) ∙ cond-true _ _ _ (ap not fails)

pub place_none : {X : Type 0} (p : X → Bool) (xs : List X) → position_or_len p (drop (length xs) xs) ≡ 0
place_none p xs = ap (position_or_len p) (drop_all (length xs) xs (omega arith))

pub ruleset signal_steps = (place_here, place_later, place_none)

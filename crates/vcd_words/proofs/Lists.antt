-- Tests that fail at one element of a list.
use Rattle.std.proofs.Common.{◌≡◌, ℕ, zero, suc, ◌<◌, Bool, true, false, ◌&&◌, List, [], ◌∷◌, length, get_or, refl, ap, arith}
use Rattle.std.specs.List.{list_all}

-- one element that fails
pub all_breaks : {X : Type 0} (p : X → Bool) (xs : List X) (i : ℕ) (d : X) → i < length xs → p (get_or xs i d) ≡ false → list_all p xs ≡ false
all_breaks p [] i d within fails = absurd (omega (arith, within))
all_breaks p (x ∷ xs) zero d within fails = ap (λ b. b && list_all p xs) fails
all_breaks p (x ∷ xs) (suc i) d within fails = and_false (p x) (list_all p xs) (all_breaks p xs i d (omega (arith, within)) fails)
  where
    and_false : (a b : Bool) → b ≡ false → (a && b) ≡ false
    and_false true b e = e
    and_false false b e = refl

-- Steps of loops over two words, as far as both have bits.
use Rattle.std.proofs.Common.{◌≡◌, ℕ, ◌≤◌, min, List, [], length, drop, ◌⊎◌, inl, inr, arith}
use Rattle.std.proofs.lemmas.List.{drop_all}
use Rattle.std.proofs.lemmas.Grind.{common_steps}

min-one : (m n : ℕ) → (min m n ≡ m) ⊎ (min m n ≡ n)
min-one m n = grind (arith, common_steps)

-- past the end of the shorter of two lists one of them has no more
pub ended : {A : Type 0} (xs ys : List A) (i : ℕ) → min (length xs) (length ys) ≤ i → (drop i xs ≡ []) ⊎ (drop i ys ≡ [])
ended xs ys i end =
    elim (min-one (length xs) (length ys)) [ inl is ↦ inl (drop_all i xs (omega (arith, end, is))) | inr is ↦ inr (drop_all i ys (omega (arith, end, is))) ]

-- Words of bytes that are the same.
use Rattle.std.proofs.Common.{◌≡◌, ◌≢◌, ℕ, ◌==◌, true, false, List, [], ◌∷◌, refl, inl, inr, arith}
use Rattle.std.proofs.lemmas.Bool.{cases_Bool, and_parts, and_from, false≢true}
use Rattle.std.proofs.lemmas.Grind.{common_steps}
use Rattle.loc_base.proofs.ShelfBools.{equal-true}
use Rattle.vcd_reading.specs.Commands.{same_bytes}

pub same_means : (one other : List ℕ) → same_bytes one other ≡ true → one ≡ other
same_means [] [] same = refl
same_means [] (y ∷ ys) same = absurd (false≢true same)
same_means (x ∷ xs) [] same = absurd (false≢true same)
same_means (x ∷ xs) (y ∷ ys) same =
    let parts = and_parts (x == y) (same_bytes xs ys) same in
    let first = equal-true x y parts.0 in
    let rest = same_means xs ys parts.1 in cc

pub differ : (one other : List ℕ) → one ≢ other → same_bytes one other ≡ false
differ one other apart =
    elim (cases_Bool (same_bytes one other)) [
      | inl same ↦ absurd (apart (same_means one other same))
      | inr away ↦ away
    ]

pub same_self : (bytes : List ℕ) → same_bytes bytes bytes ≡ true
same_self [] = refl
same_self (byte ∷ bytes) = and_from (byte == byte) (same_bytes bytes bytes) (same_number byte) (same_self bytes)
  where
    same_number : (n : ℕ) → (n == n) ≡ true
    same_number n = grind (arith, common_steps)

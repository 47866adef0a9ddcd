-- The search for the number of a place.
use Rattle.std.proofs.Common.{◌≡◌, ◌≢◌, ℕ, zero, suc, ◌<◌, true, false, ◌==◌, List, [], ◌∷◌, length, refl, arith}
use Rattle.std.specs.Prelude.{slice_index}
use Rattle.std.proofs.lemmas.Grind.{common_steps}
use Rattle.loc_base.proofs.ShelfBools.{equal-false}
use Rattle.design_core.specs.Explained.{number_for, is_one_of}

-- none of the first `count` places is the one
abbrev pub IsNotBefore : List ℕ → ℕ → ℕ → Type 0
IsNotBefore places count place = (i : ℕ) → i < count → slice_index places i ≢ place

pub IsNotBefore-later : (first : ℕ) (places : List ℕ) (count place : ℕ) → IsNotBefore (first ∷ places) (suc count) place → IsNotBefore places count place
IsNotBefore-later first places count place h i l = h (suc i) (omega (arith, l))

pub found_at : (places numbers : List ℕ) (i place : ℕ) → i < length places → length places ≡ length numbers → IsNotBefore places i place → slice_index places i ≡ place
    → (is_one_of places place ≡ true) × (slice_index numbers i ≡ number_for places numbers place)
found_at [] numbers i place l e h at = absurd (omega (arith, l))
found_at (first ∷ places) [] i place l e h at = absurd (omega (arith, e))
found_at (first ∷ places) (number ∷ numbers) zero place l e h at = (grind (arith, common_steps, at), grind (arith, common_steps, at))
found_at (first ∷ places) (number ∷ numbers) (suc i) place l e h at =
    later (found_at places numbers i place (omega (arith, l)) (omega (arith, e)) (IsNotBefore-later first places i place h) at)
  where
    apart : (first == place) ≡ false
    apart = equal-false first place (h 0 (omega arith))

    later : (is_one_of places place ≡ true) × (slice_index numbers i ≡ number_for places numbers place)
        → (is_one_of (first ∷ places) place ≡ true) × (slice_index (number ∷ numbers) (suc i) ≡ number_for (first ∷ places) (number ∷ numbers) place)
    later r = (rw apart r.0, rw apart r.1)

pub found_none : (places : List ℕ) (place : ℕ) → IsNotBefore places (length places) place → is_one_of places place ≡ false
found_none [] place h = refl
found_none (first ∷ places) place h = rw (equal-false first place (h 0 (omega arith))) (found_none places place (IsNotBefore-later first places (length places) place h))

pub ruleset search_rules = (found_at, found_none)

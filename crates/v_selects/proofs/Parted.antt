-- A distance that is cut tells as much of a word's bits as the whole one; the bits of a part, one by one.
use Rattle.std.proofs.Common.{◌≡◌, ℕ, suc, ◌+◌, ◌-◌, ◌^◌, ◌<◌, ◌≤◌, ap, arith, ◌∙◌, sym, refl, inl, inr, List, ◌++◌, ◌∷◌, [], add-one}
use Rattle.std.specs.Prelude.{Bool, true, false, if◌then◌else◌, min, Option, Some, None, ℤ, pos, negsuc, ◌≤ℤ◌}
use Rattle.std.proofs.lemmas.Bool.{cases_lt, le-ltb, lt-leb}
use Rattle.std.proofs.lemmas.Int.{ints, to_z-of_z}
use Rattle.design_core.specs.Valuation.{number, place_within, bit_or_zero}
use Rattle.design_core.proofs.NumberLaws.{number-one_more, number-zero, number-below}
use Rattle.v_selects.specs.Capped.{capped}
use Rattle.v_sizes.specs.Selected.{bits_below, bits_within, start_within}
use Rattle.v_sizes.specs.Sized.{start_of, offsets_to}
use Rattle.v_sizes.proofs.Selects.{offsets-suc}

pub place-capped : (width : ℕ) (d : ℤ) → width ≤ 255 → place_within width (capped d) ≡ place_within width d
place-capped width (pos n) small =
    elim (cases_lt n 1000) [
      | inl low ↦ let e : min n 1000 ≡ n = omega (arith, low) in ap (λ k. place_within width (pos k)) e
      | inr high ↦
          let e : min n 1000 ≡ 1000 = omega (arith, high) in
          ap (λ k. place_within width (pos k)) e
          ∙ ap (λ b. if b then Some 1000 else None) (le-ltb 1000 width (omega (arith, small)))
          ∙ sym (ap (λ b. if b then Some n else None) (le-ltb n width (omega (arith, small, high))))
    ]
place-capped width (negsuc n) small = refl

pub start-capped : (width count : ℕ) (d : ℤ) → width ≤ 255 → start_of width count (capped d) ≡ start_of width count d
start-capped width count (pos n) small =
    elim (cases_lt n 1000) [
      | inl low ↦ let e : min n 1000 ≡ n = omega (arith, low) in ap (λ k. start_of width count (pos k)) e
      | inr high ↦
          let e : min n 1000 ≡ 1000 = omega (arith, high) in
          ap (λ k. start_of width count (pos k)) e
          ∙ ap (λ b. if b then Some 1000 else None) (lt-leb (1000 + count) width (omega (arith, small)))
          ∙ sym (ap (λ b. if b then Some n else None) (lt-leb (n + count) width (omega (arith, small, high))))
    ]
start-capped width count (negsuc n) small = refl

pub within-capped : (width count : ℕ) (d : ℤ) → width ≤ 255 → count ≤ 255 → bits_within width count (capped d) ≡ bits_within width count d
within-capped width count (pos n) small few = let e : min count (width - min n 1000) ≡ min count (width - n) = omega (arith, small, few) in e
within-capped width count (negsuc n) small few = let e : min width (count - suc (min n 1000)) ≡ min width (count - suc n) = omega (arith, small, few) in e

pub below-capped : (count : ℕ) (d : ℤ) → count ≤ 255 → bits_below count (capped d) ≡ bits_below count d
below-capped count (pos n) few = refl
below-capped count (negsuc n) few = let e : min count (suc (min n 1000)) ≡ min count (suc n) = omega (arith, few) in e

-- where some bits lie within, the first of them isn't far
pub near-within : (width count : ℕ) (d : ℤ) → width ≤ 255 → 1 ≤ bits_within width count d → capped d ≤ℤ pos 255
near-within width count (pos n) small some = omega (arith, ints, small, some)
near-within width count (negsuc n) small some = omega (arith, ints)

pub from-capped : (width count : ℕ) (d : ℤ) → width ≤ 255 → 1 ≤ bits_within width count d → start_within (capped d) ≡ start_within d
from-capped width count (pos n) small some = omega (arith, small, some)
from-capped width count (negsuc n) small some = refl

pub few-within : (width count : ℕ) (d : ℤ) → bits_below count d + bits_within width count d ≤ count
few-within width count (pos n) = omega arith
few-within width count (negsuc n) = omega arith

-- what a count of bits is, where it is computed of a distance that is cut
pub below-cut : (count n bits : ℕ) (d f : ℤ) → count ≡ n → count ≤ 255 → d ≡ capped f → bits ≡ bits_below count d → bits ≡ bits_below n f
below-cut count n bits d f same few cut is = is ∙ ap (bits_below count) cut ∙ below-capped count f few ∙ ap (λ k. bits_below k f) same

pub within-cut : (width count n bits : ℕ) (d f : ℤ) → count ≡ n → width ≤ 255 → count ≤ 255 → d ≡ capped f
    → bits ≡ bits_within width count d → bits ≡ bits_within width n f
within-cut width count n bits d f same small few cut is =
    is ∙ ap (bits_within width count) cut ∙ within-capped width count f small few ∙ ap (λ k. bits_within width k f) same

pub bit-capped : (bits : ℕ → Bool) (width : ℕ) (d : ℤ) → width ≤ 255 → bit_or_zero bits (place_within width (capped d)) ≡ bit_or_zero bits (place_within width d)
bit-capped bits width d small = ap (bit_or_zero bits) (place-capped width d small)

pub offsets-none : (offset : ℕ → ℤ) → offsets_to offset 0 ≡ []
unfolding offsets_to
offsets-none offset = refl

pub offsets-one_more : (offset : ℕ → ℤ) (count : ℕ) → offsets_to offset (count + 1) ≡ offsets_to offset count ++ offset count ∷ []
offsets-one_more offset count = ap (offsets_to offset) (add-one count) ∙ offsets-suc offset count

pub ruleset listed = (offsets-one_more, offsets-none)

pub ruleset cut_bits = (bit-capped, to_z-of_z)

pub ruleset numbers = (number-one_more, number-zero, number-below)

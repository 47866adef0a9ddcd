-- Where the bits of a select lie.
use Rattle.std.proofs.Common.{◌≡◌, ℕ, zero, suc, ◌-◌, ◌<◌, ◌≤◌, subst, arith, refl, sym, ◌⊎◌, inl, inr}
use Rattle.std.specs.Prelude.{Bool, true, false, not, if◌then◌else◌, min, ℤ, pos, negsuc, ◌≤ℤ◌, ◌+ℤ◌, ◌-ℤ◌, ◌<ℤ◌, None, nat_lt, int_lt}
use Rattle.std.proofs.lemmas.Bool.{le-ltb}
use Rattle.std.proofs.lemmas.Int.{ints}
use Rattle.std.proofs.Math.Nat.{le-min}
use Rattle.v_syntax.specs.declared.expression.PartKind.{PartKind}
use Rattle.v_syntax.specs.declared.expression.PartKind.TheVariants as kind
use Rattle.design_core.specs.Valuation.{distance_of, place_within}
use Rattle.v_sizes.specs.Selected.{base_index, part_offset, part_distance, bits_within, descends}

-- a distance by whether indexes ascend
abbrev by_direction : Bool → ℤ → ℤ → ℤ
by_direction up right index = if up then right -ℤ index else index -ℤ right

step : (up : Bool) (k : PartKind) (right base : ℤ) (count b : ℕ) → b < count
    → by_direction up right (base +ℤ part_offset k (not up) count b) ≡ by_direction up right (base +ℤ part_offset k (not up) count 0) +ℤ pos b
step true kind.Range right base count b below = omega (arith, ints)
step false kind.Range right base count b below = omega (arith, ints)
step true kind.Up right base count b below = omega (arith, ints)
step false kind.Up right base count b below = omega (arith, ints)
step true kind.Down right base count b below = omega (arith, ints)
step false kind.Down right base count b below = omega (arith, ints)

-- bits that stand side by side in the text do so in the word
pub distance-step : (left right : ℤ) (k : PartKind) (one other : ℤ) (count b : ℕ) → b < count
    → distance_of left right (base_index k one other +ℤ part_offset k (descends left right) count b) ≡ part_distance left right k one other count +ℤ pos b
distance-step left right k one other count b below = step (int_lt left right) k right (base_index k one other) count b below

-- no place is below 0, or at the number of places or above
pub place-none : (places : ℕ) (d : ℤ) → (d <ℤ pos 0) ⊎ (pos places ≤ℤ d) → place_within places d ≡ None
place-none places (pos d) h =
    let test : nat_lt d places ≡ false = le-ltb d places (elim h [ inl low ↦ absurd (omega (arith, ints, low)) | inr high ↦ omega (arith, ints, high) ]) in
    rw test
place-none places (negsuc d) h = refl

min-zero : (a b : ℕ) → min a b ≡ 0 → (a ≡ 0) ⊎ (b ≡ 0)
min-zero zero b h = inl refl
min-zero (suc a) zero h = inr refl
min-zero (suc a) (suc b) h =
    let some : 1 ≤ min (suc a) (suc b) = le-min (omega arith) (omega arith) in
    absurd (omega (arith, some, h))

-- where none of some bits lies within a word, none of them has a place in it
pub none-within : (width count : ℕ) (d : ℤ) → bits_within width count d ≡ 0 → (b : ℕ) → b < count → place_within width (d +ℤ pos b) ≡ None
none-within width count (pos from) h b below =
    place-none width (pos from +ℤ pos b) (inr (elim (min-zero count (width - from) h) [ inl none ↦ absurd (omega (arith, none, below)) | inr past ↦ omega (arith, ints, past) ]))
none-within width count (negsuc n) h b below =
    elim (min-zero width (count - suc n) h) [
      | inl empty ↦ subst (λ w. place_within w (negsuc n +ℤ pos b) ≡ None) (sym empty) (no_places (negsuc n +ℤ pos b))
      | inr past ↦ place-none width (negsuc n +ℤ pos b) (inl (omega (arith, ints, past, below)))
    ]
  where
    no_places : (d : ℤ) → place_within 0 d ≡ None
    no_places (pos m) = place-none 0 (pos m) (inr (omega (arith, ints)))
    no_places (negsuc m) = refl

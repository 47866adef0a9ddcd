-- Whole numbers that indexes and bounds are.
use Rattle.std.proofs.Common.{◌≡◌, ℕ, suc, ◌+◌, ◌-◌, ◌^◌, ◌<◌, ◌≤◌, ap, arith, ◌∙◌, sym, refl, inl, inr}
use Rattle.std.specs.Prelude.{Bool, true, false, if◌then◌else◌, min, Option, Some, None, ℤ, pos, negsuc, int_lt, ◌+ℤ◌, ◌-ℤ◌, ◌≤ℤ◌, ◌<ℤ◌}
use Rattle.std.proofs.lemmas.Int.{ints}
use Rattle.std.proofs.lemmas.Bool.{cases_lt, le-leb, lt-leb, le-ltb}
use Rattle.loc_base.specs.Word.{is_negative, signed_value}
use Rattle.loc_base.proofs.WordLaws.{signed_value-low, signed_value-high}
use Rattle.design_core.specs.Operator.{integer_of}
use Rattle.design_core.specs.Valuation.{distance_of, place_within}
use Rattle.v_selects.specs.Capped.{capped, near}
use Rattle.v_sizes.specs.Operations.{is_below_0}
use Rattle.v_sizes.proofs.Integers.{below_0-signed, below_0-unsigned}

signed-word : (w v : ℕ) → v < 2 ^ w → (negative : Bool) → is_negative w v ≡ negative
    → signed_value w v ≡ elim negative [ true ↦ negsuc (2 ^ w - 1 - v) | false ↦ pos v ]
signed-word w v below negative is =
    elim (cases_lt v (2 ^ (w - 1))) [
      | inl low ↦
          let test : false ≡ negative = sym (lt-leb (2 ^ (w - 1)) v low) ∙ is in
          signed_value-low w v low ∙ ap (λ b. elim b [ true ↦ negsuc (2 ^ w - 1 - v) | false ↦ pos v ]) test
      | inr high ↦
          let test : true ≡ negative = sym (le-leb (2 ^ (w - 1)) v high) ∙ is in
          signed_value-high w v below high ∙ ap (λ b. elim b [ true ↦ negsuc (2 ^ w - 1 - v) | false ↦ pos v ]) test
    ]

pub word-below : (signed : Bool) (w v : ℕ) → v < 2 ^ w → is_below_0 (integer_of signed w v) ≡ true → integer_of signed w v ≡ negsuc (2 ^ w - 1 - v)
word-below true w v below is = signed-word w v below true (sym (below_0-signed w v below) ∙ is)
word-below false w v below is = let e : false ≡ true = sym (below_0-unsigned w v) ∙ is in cc

pub word-natural : (signed : Bool) (w v : ℕ) → v < 2 ^ w → is_below_0 (integer_of signed w v) ≡ false → integer_of signed w v ≡ pos v
word-natural true w v below is = signed-word w v below false (sym (below_0-signed w v below) ∙ is)
word-natural false w v below is = refl

pub ruleset words = (word-below, word-natural)

-- distances beyond each word's bits
pub capped-high : (z : ℤ) → pos 1000 ≤ℤ z → capped z ≡ pos 1000
capped-high (pos n) far = let e : min n 1000 ≡ 1000 = omega (arith, ints, far) in ap pos e
capped-high (negsuc n) far = omega (arith, ints, far)

pub capped-low : (z : ℤ) → z ≤ℤ negsuc 1000 → capped z ≡ negsuc 1000
capped-low (pos n) far = omega (arith, ints, far)
capped-low (negsuc n) far = let e : min n 1000 ≡ 1000 = omega (arith, ints, far) in ap negsuc e

-- a number of 32 bits, and an offset
record IsBound (z : ℤ) : Type 0 where
  least : negsuc 2147483647 ≤ℤ z
  most : z ≤ℤ pos 2147483647

record IsOffset (z : ℤ) : Type 0 where
  least : negsuc 254 ≤ℤ z
  most : z ≤ℤ pos 255

-- where a number beyond every range stands for one that lies farther, a distance is cut to the same
near-ahead : (right index offset : ℤ) → IsBound right → IsOffset offset → capped ((near index +ℤ offset) -ℤ right) ≡ capped ((index +ℤ offset) -ℤ right)
near-ahead right (pos n) offset bound o =
    elim (cases_lt n 1099511627776) [
      | inl low ↦ let e : min n 1099511627776 ≡ n = omega (arith, low) in ap (λ k. capped ((pos k +ℤ offset) -ℤ right)) e
      | inr high ↦
          let e : min n 1099511627776 ≡ 1099511627776 = omega (arith, high) in
          let one : pos 1000 ≤ℤ ((pos 1099511627776 +ℤ offset) -ℤ right) = omega (arith, ints, bound.most, o.least) in
          let other : pos 1000 ≤ℤ ((pos n +ℤ offset) -ℤ right) = omega (arith, ints, high, bound.most, o.least) in
          ap (λ k. capped ((pos k +ℤ offset) -ℤ right)) e ∙ capped-high ((pos 1099511627776 +ℤ offset) -ℤ right) one ∙ sym (capped-high ((pos n +ℤ offset) -ℤ right) other)
    ]
near-ahead right (negsuc n) offset bound o =
    elim (cases_lt n 1099511627776) [
      | inl low ↦ let e : min n 1099511627776 ≡ n = omega (arith, low) in ap (λ k. capped ((negsuc k +ℤ offset) -ℤ right)) e
      | inr high ↦
          let e : min n 1099511627776 ≡ 1099511627776 = omega (arith, high) in
          let one : ((negsuc 1099511627776 +ℤ offset) -ℤ right) ≤ℤ negsuc 1000 = omega (arith, ints, bound.least, o.most) in
          let other : ((negsuc n +ℤ offset) -ℤ right) ≤ℤ negsuc 1000 = omega (arith, ints, high, bound.least, o.most) in
          ap (λ k. capped ((negsuc k +ℤ offset) -ℤ right)) e ∙ capped-low ((negsuc 1099511627776 +ℤ offset) -ℤ right) one ∙ sym (capped-low ((negsuc n +ℤ offset) -ℤ right) other)
    ]

near-back : (right index offset : ℤ) → IsBound right → IsOffset offset → capped (right -ℤ (near index +ℤ offset)) ≡ capped (right -ℤ (index +ℤ offset))
near-back right (pos n) offset bound o =
    elim (cases_lt n 1099511627776) [
      | inl low ↦ let e : min n 1099511627776 ≡ n = omega (arith, low) in ap (λ k. capped (right -ℤ (pos k +ℤ offset))) e
      | inr high ↦
          let e : min n 1099511627776 ≡ 1099511627776 = omega (arith, high) in
          let one : (right -ℤ (pos 1099511627776 +ℤ offset)) ≤ℤ negsuc 1000 = omega (arith, ints, bound.most, o.least) in
          let other : (right -ℤ (pos n +ℤ offset)) ≤ℤ negsuc 1000 = omega (arith, ints, high, bound.most, o.least) in
          ap (λ k. capped (right -ℤ (pos k +ℤ offset))) e ∙ capped-low (right -ℤ (pos 1099511627776 +ℤ offset)) one ∙ sym (capped-low (right -ℤ (pos n +ℤ offset)) other)
    ]
near-back right (negsuc n) offset bound o =
    elim (cases_lt n 1099511627776) [
      | inl low ↦ let e : min n 1099511627776 ≡ n = omega (arith, low) in ap (λ k. capped (right -ℤ (negsuc k +ℤ offset))) e
      | inr high ↦
          let e : min n 1099511627776 ≡ 1099511627776 = omega (arith, high) in
          let one : pos 1000 ≤ℤ (right -ℤ (negsuc 1099511627776 +ℤ offset)) = omega (arith, ints, bound.least, o.most) in
          let other : pos 1000 ≤ℤ (right -ℤ (negsuc n +ℤ offset)) = omega (arith, ints, high, bound.least, o.most) in
          ap (λ k. capped (right -ℤ (negsuc k +ℤ offset))) e ∙ capped-high (right -ℤ (negsuc 1099511627776 +ℤ offset)) one ∙ sym (capped-high (right -ℤ (negsuc n +ℤ offset)) other)
    ]

pub capped-distance : (left right index offset : ℤ) → negsuc 2147483647 ≤ℤ right → right ≤ℤ pos 2147483647 → negsuc 254 ≤ℤ offset → offset ≤ℤ pos 255
    → capped (distance_of left right (near index +ℤ offset)) ≡ capped (distance_of left right (index +ℤ offset))
capped-distance left right index offset a b c d = by (int_lt left right)
  where
    by : (down : Bool) → capped (if down then right -ℤ (near index +ℤ offset) else (near index +ℤ offset) -ℤ right) ≡ capped (if down then right -ℤ (index +ℤ offset) else (index +ℤ offset) -ℤ right)
    by true = near-back right index offset (record { least = a; most = b }) (record { least = c; most = d })
    by false = near-ahead right index offset (record { least = a; most = b }) (record { least = c; most = d })

pub ruleset near_enough = (capped-distance)

-- ---- addresses
place-far : (places d : ℕ) → places ≤ d → place_within places (pos d) ≡ None
place-far places d far = ap (λ b. if b then Some d else None) (le-ltb d places far)

place-ahead : (places : ℕ) (z : ℤ) → pos places ≤ℤ z → place_within places z ≡ None
place-ahead places (pos d) far = place-far places d (omega (arith, ints, far))
place-ahead places (negsuc d) far = refl

place-behind : (places : ℕ) (z : ℤ) → z ≤ℤ negsuc 0 → place_within places z ≡ None
place-behind places (pos d) far = let e : pos d ≤ℤ negsuc 0 → ⊥ = omega (arith, ints) in absurd (e far)
place-behind places (negsuc d) far = refl

pub near-place : (places : ℕ) (index low : ℤ) → places ≤ 4294967295 → negsuc 2147483647 ≤ℤ low → low ≤ℤ pos 2147483647
    → place_within places (near index -ℤ low) ≡ place_within places (index -ℤ low)
near-place places (pos n) low most least high =
    elim (cases_lt n 1099511627776) [
      | inl below ↦ let e : min n 1099511627776 ≡ n = omega (arith, below) in ap (λ k. place_within places (pos k -ℤ low)) e
      | inr above ↦
          let e : min n 1099511627776 ≡ 1099511627776 = omega (arith, above) in
          ap (λ k. place_within places (pos k -ℤ low)) e
          ∙ place-ahead places (pos 1099511627776 -ℤ low) (omega (arith, ints, most, high))
          ∙ sym (place-ahead places (pos n -ℤ low) (omega (arith, ints, above, most, high)))
    ]
near-place places (negsuc n) low most least high =
    elim (cases_lt n 1099511627776) [
      | inl below ↦ let e : min n 1099511627776 ≡ n = omega (arith, below) in ap (λ k. place_within places (negsuc k -ℤ low)) e
      | inr above ↦
          let e : min n 1099511627776 ≡ 1099511627776 = omega (arith, above) in
          ap (λ k. place_within places (negsuc k -ℤ low)) e
          ∙ place-behind places (negsuc 1099511627776 -ℤ low) (omega (arith, ints, least))
          ∙ sym (place-behind places (negsuc n -ℤ low) (omega (arith, ints, above, least)))
    ]

pub ruleset near_words = (near-place)

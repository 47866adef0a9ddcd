-- The whole numbers that words mean: below 0 or not, and how far from it.
use Rattle.std.proofs.Common.{◌≡◌, ℕ, suc, ◌+◌, ◌-◌, ◌^◌, ◌<◌, ◌/◌, ◌%◌, ap, arith, ◌∙◌, sym, refl, inl, inr}
use Rattle.std.specs.Prelude.{Bool, true, false, pos}
use Rattle.std.proofs.lemmas.Bool.{cases_lt, le-leb, lt-leb}
use Rattle.std.proofs.Math.Nat.{div-zero, mod-zero}
use Rattle.loc_base.specs.Word.{is_negative, signed_value}
use Rattle.loc_base.proofs.WordLaws.{signed_value-low, signed_value-high}
use Rattle.design_core.specs.Operator.{integer_of}
use Rattle.v_sizes.specs.Operations.{is_below_0, magnitude}

natural-not_below : (n : ℕ) → is_below_0 (pos n) ≡ false
natural-not_below n = lt-leb (suc n) 0 (omega arith)

pub below_0-unsigned : (w v : ℕ) → is_below_0 (integer_of false w v) ≡ false
below_0-unsigned w v = natural-not_below v

pub below_0-signed : (w v : ℕ) → v < 2 ^ w → is_below_0 (integer_of true w v) ≡ is_negative w v
below_0-signed w v below =
    elim (cases_lt v (2 ^ (w - 1))) [
      | inl low ↦ ap is_below_0 (signed_value-low w v low) ∙ natural-not_below v ∙ sym (lt-leb (2 ^ (w - 1)) v low)
      | inr high ↦ ap is_below_0 (signed_value-high w v below high) ∙ sym (le-leb (2 ^ (w - 1)) v high)
    ]

-- the word of a number below 0, by its distance
signed-distance : (w v : ℕ) → v < 2 ^ w → (negative : Bool) → is_negative w v ≡ negative
    → magnitude (signed_value w v) ≡ elim negative [ true ↦ (2 ^ w - 1 - v) + 1 | false ↦ v ]
signed-distance w v below negative is =
    elim (cases_lt v (2 ^ (w - 1))) [
      | inl low ↦
          let test : false ≡ negative = sym (lt-leb (2 ^ (w - 1)) v low) ∙ is in
          ap magnitude (signed_value-low w v low) ∙ ap (λ b. elim b [ true ↦ (2 ^ w - 1 - v) + 1 | false ↦ v ]) test
      | inr high ↦
          let test : true ≡ negative = sym (le-leb (2 ^ (w - 1)) v high) ∙ is in
          let next : suc (2 ^ w - 1 - v) ≡ (2 ^ w - 1 - v) + 1 = omega arith in
          ap magnitude (signed_value-high w v below high) ∙ next ∙ ap (λ b. elim b [ true ↦ (2 ^ w - 1 - v) + 1 | false ↦ v ]) test
    ]

pub distance-below : (signed : Bool) (w v : ℕ) → v < 2 ^ w → is_below_0 (integer_of signed w v) ≡ true
    → magnitude (integer_of signed w v) ≡ (2 ^ w - 1 - v) + 1
distance-below true w v below is = signed-distance w v below true (sym (below_0-signed w v below) ∙ is)
distance-below false w v below is = let e : false ≡ true = sym (below_0-unsigned w v) ∙ is in cc

pub distance-above : (signed : Bool) (w v : ℕ) → v < 2 ^ w → is_below_0 (integer_of signed w v) ≡ false
    → magnitude (integer_of signed w v) ≡ v
distance-above true w v below is = signed-distance w v below false (sym (below_0-signed w v below) ∙ is)
distance-above false w v below is = refl

-- a division by 0
pub divided-by_zero : (n d : ℕ) → d ≡ 0 → n / d ≡ 0
divided-by_zero n d none = ap (λ k. n / k) none ∙ div-zero n

pub rest-by_zero : (n d : ℕ) → d ≡ 0 → n % d ≡ n
rest-by_zero n d none = ap (λ k. n % k) none ∙ mod-zero n

pub ruleset by_zero = (divided-by_zero, rest-by_zero)

-- the two's complement of a number modulo 2 ^ w
pub opposite : (w d : ℕ) → (0 + (2 ^ w - d % 2 ^ w)) % 2 ^ w ≡ (2 ^ w - d % 2 ^ w) % 2 ^ w
opposite w d = ap (λ n. n % 2 ^ w) (let e : 0 + (2 ^ w - d % 2 ^ w) ≡ 2 ^ w - d % 2 ^ w = omega arith in e)

pub ruleset signs = (below_0-signed, below_0-unsigned)

pub ruleset distances = (distance-below, distance-above)

pub ruleset opposites = (opposite)

-- What an index names.
use Rattle.std.proofs.Common.{◌≡◌, ℕ, ◌+◌, ◌-◌, ◌^◌, ◌<◌, ◌≤◌, ap, ◌∙◌, arith, refl, w32, w64, ◌⊎◌, inl, inr}
use Rattle.std.specs.Prelude.{Bool, true, false, ◌&&◌, if◌then◌else◌, ℤ, pos, negsuc, neg_ℤ, ◌≤ℤ◌, ◌+ℤ◌, ◌-ℤ◌, ◌<ℤ◌, FitsSigned, Option, Some, None, nat_lt, int_lt}
use Rattle.std.specs.Option.{option_and_then}
use Rattle.std.proofs.lemmas.Bool.{leb-true, ltb-true, ltb-false, le-ltb}
use Rattle.std.proofs.lemmas.Int.{ints}
use Rattle.loc_base.specs.Word.{is_negative}
use Rattle.loc_base.proofs.WordLaws.{signed_value-high}
use Rattle.design_core.specs.declared.signal.Signal.{Signal}
use Rattle.design_core.specs.Valuation.{place_within, distance_of, position_of, word_at}
use Rattle.plain_values.specs.Evaluate.{near_of}
use Rattle.design_core.specs.Operator.{integer_of}

pub integer-pos : (signed : Bool) (w a : ℕ) → (signed && is_negative w a) ≡ false → integer_of signed w a ≡ pos a
integer-pos true w a h = rw h
integer-pos false w a h = refl

pub integer-neg : (signed : Bool) (w a : ℕ) → a < 2 ^ w → (signed && is_negative w a) ≡ true → integer_of signed w a ≡ negsuc ((2 ^ w - 1) - a)
integer-neg true w a below h = signed_value-high w a below (leb-true (2 ^ (w - 1)) a h)
integer-neg false w a below h = cc

pub ruleset near_index = (integer-pos, integer-neg)

-- an index that is near
near_some : (b : Bool) (z n : ℤ) → Some n ≡ (if b then Some z else None) → (b ≡ true) × (n ≡ z)
near_some true z n h = (refl, cc)
near_some false z n h = absurd cc

near_none : (b : Bool) (z : ℤ) → None ≡ (if b then Some z else None) → b ≡ false
near_none true z h = absurd cc
near_none false z h = refl

pub near_bounds : (z n : ℤ) → Some n ≡ near_of z → (n ≡ z) × (neg_ℤ (pos (2 ^ 40)) ≤ℤ n) × (n ≤ℤ pos (2 ^ 40))
near_bounds (pos m) n h =
    let split : (nat_lt m (2 ^ 40) ≡ true) × (n ≡ pos m) = near_some (nat_lt m (2 ^ 40)) (pos m) n h in
    let less : m < 2 ^ 40 = ltb-true m (2 ^ 40) split.0 in
    (split.1, omega (arith, ints), omega (arith, ints))
near_bounds (negsuc m) n h =
    let split : (nat_lt m (2 ^ 40) ≡ true) × (n ≡ negsuc m) = near_some (nat_lt m (2 ^ 40)) (negsuc m) n h in
    let less : m < 2 ^ 40 = ltb-true m (2 ^ 40) split.0 in
    (split.1, omega (arith, ints), omega (arith, ints))

-- and the index that lies from there by an offset of 32 bits
pub near_within : (z n k : ℤ) → Some n ≡ near_of z → FitsSigned w32 k
    → FitsSigned w64 n × (FitsSigned w64 (n +ℤ k) × ((neg_ℤ (pos (2 ^ 41)) ≤ℤ (n +ℤ k)) × ((n +ℤ k) ≤ℤ pos (2 ^ 41))))
near_within z n k h fits =
    let bounds = near_bounds z n h in
    (omega (arith, ints, bounds), (omega (arith, ints, bounds), (omega (arith, ints, bounds), omega (arith, ints, bounds))))

pub near_less : (z n k : ℤ) → Some n ≡ near_of z → FitsSigned w32 k → FitsSigned w64 n × FitsSigned w64 (n -ℤ k)
near_less z n k h fits =
    let bounds = near_bounds z n h in
    (omega (arith, ints, bounds), omega (arith, ints, bounds))

-- no place is below 0, or at the number of places or above
place-none : (places : ℕ) (d : ℤ) → (d <ℤ pos 0) ⊎ (pos places ≤ℤ d) → place_within places d ≡ None
place-none places (pos d) h =
    let test : nat_lt d places ≡ false = le-ltb d places (elim h [ inl low ↦ absurd (omega (arith, ints, low)) | inr high ↦ omega (arith, ints, high) ]) in
    rw test
place-none places (negsuc d) h = refl

-- an index that isn't near
pub far_position : (signal : Signal) (z k : ℤ) → None ≡ near_of z → FitsSigned w32 k → FitsSigned w32 signal.left → FitsSigned w32 signal.right
    → signal.width < 2 ^ 8 → position_of signal (z +ℤ k) ≡ None
far_position signal (pos m) k h k-fits left-fits right-fits width-fits =
    let far : 2 ^ 40 ≤ m = ltb-false m (2 ^ 40) (near_none (nat_lt m (2 ^ 40)) (pos m) h) in
    elim (int_lt signal.left signal.right)
    as (λ b. place_within signal.width (if b then signal.right -ℤ (pos m +ℤ k) else (pos m +ℤ k) -ℤ signal.right) ≡ None) [
      | true ↦ place-none signal.width (signal.right -ℤ (pos m +ℤ k)) (inl (omega (arith, ints)))
      | false ↦ place-none signal.width ((pos m +ℤ k) -ℤ signal.right) (inr (omega (arith, ints)))
    ]
far_position signal (negsuc m) k h k-fits left-fits right-fits width-fits =
    let far : 2 ^ 40 ≤ m = ltb-false m (2 ^ 40) (near_none (nat_lt m (2 ^ 40)) (negsuc m) h) in
    elim (int_lt signal.left signal.right)
    as (λ b. place_within signal.width (if b then signal.right -ℤ (negsuc m +ℤ k) else (negsuc m +ℤ k) -ℤ signal.right) ≡ None) [
      | true ↦ place-none signal.width (signal.right -ℤ (negsuc m +ℤ k)) (inr (omega (arith, ints)))
      | false ↦ place-none signal.width ((negsuc m +ℤ k) -ℤ signal.right) (inl (omega (arith, ints)))
    ]

pub near_position : (signal : Signal) (z n k : ℤ) → Some n ≡ near_of z → place_within signal.width (distance_of signal.left signal.right (n +ℤ k)) ≡ position_of signal (z +ℤ k)
near_position signal z n k h = ap (λ m. position_of signal (m +ℤ k)) (near_bounds z n h).0

-- the word that an index names
abbrev pub behind : ℕ → Option ℕ → Option ℕ
behind first place = option_and_then (λ k. Some (first + k)) place

pub far_word : (first count : ℕ) (z low : ℤ) → None ≡ near_of z → FitsSigned w32 low → count < 2 ^ 32
    → word_at first count low z ≡ None
far_word first count (pos m) low h fits few =
    let far : 2 ^ 40 ≤ m = ltb-false m (2 ^ 40) (near_none (nat_lt m (2 ^ 40)) (pos m) h) in
    ap (behind first) (place-none count (pos m -ℤ low) (inr (omega (arith, ints))))
far_word first count (negsuc m) low h fits few =
    let far : 2 ^ 40 ≤ m = ltb-false m (2 ^ 40) (near_none (nat_lt m (2 ^ 40)) (negsuc m) h) in
    ap (behind first) (place-none count (negsuc m -ℤ low) (inl (omega (arith, ints))))

pub near_word : (first count : ℕ) (z n low from : ℤ) (place : Option ℕ) → Some n ≡ near_of z → from ≡ low
    → place ≡ place_within count (n -ℤ from) → behind first place ≡ word_at first count low z
near_word first count z n low from place h same is =
    ap (behind first) (is ∙ ap (λ l. place_within count (n -ℤ l)) same) ∙ ap (word_at first count low) (near_bounds z n h).0

-- Bits by a variable index.
use Rattle.std.proofs.Common.{◌≡◌, ℕ, ◌+◌, ◌-◌, ◌/◌, ◌<◌, ◌≤◌, ◌^◌, Bool, true, false, List, [], ◌∷◌, length, get_or, drop, Option, Some, None, refl, sym, ◌∙◌, ap, subst, arith, w32, ◌⊎◌, inl, inr}
use Rattle.std.specs.Prelude.{◌&&◌, nat_le, nat_lt, int_lt, if◌then◌else◌, slice_get, ℤ, pos, negsuc, ◌+ℤ◌, ◌-ℤ◌, ◌<ℤ◌, ◌≤ℤ◌, FitsSigned}
use Rattle.std.specs.Option.{option_and_then}
use Rattle.std.proofs.lemmas.Bool.{leb-true, ltb-true, ltb-false, le-ltb}
use Rattle.std.proofs.lemmas.Int.{ints}
use Rattle.std.proofs.lemmas.List.{drop_all}
use Rattle.loc_base.proofs.ShelfLists.{drop-at}
use Rattle.loc_base.proofs.ShelfOptions.{Some-same}
use Rattle.design_core.specs.Operator.{integer_of}
use Rattle.design_core.specs.Valuation.{bit, bit_or_zero, place_within, distance_of, number}
use Rattle.word_net.specs.Selects.{Range, position_in, picked_bit, put_bits, put_bit, put_picked}
use Rattle.plain_values.specs.Evaluate.{near_of}
use Rattle.plain_values.proofs.EvaluateSelect.{near_bounds}
use Rattle.plain_values.proofs.EvaluateWrite.{bit-shr}
use Rattle.net_values.proofs.Replaced.{number-is}

-- ---- positions

near_none : (b : Bool) (z : ℤ) → None ≡ (if b then Some z else None) → b ≡ false
near_none true z h = absurd cc
near_none false z h = refl

-- no place is below 0, or at the number of places or above
place-none : (places : ℕ) (d : ℤ) → (d <ℤ pos 0) ⊎ (pos places ≤ℤ d) → place_within places d ≡ None
place-none places (pos d) h =
    let test : nat_lt d places ≡ false = le-ltb d places (elim h [ inl low ↦ absurd (omega (arith, ints, low)) | inr high ↦ omega (arith, ints, high) ]) in rw test
place-none places (negsuc d) h = refl

-- an index that isn't near names no bit
pub far-position : (width : ℕ) (left right z k : ℤ) → None ≡ near_of z → FitsSigned w32 k → FitsSigned w32 left → FitsSigned w32 right → width < 2 ^ 8
    → place_within width (distance_of left right (z +ℤ k)) ≡ None
far-position width left right (pos m) k h k-fits left-fits right-fits width-fits =
    let far : 2 ^ 40 ≤ m = ltb-false m (2 ^ 40) (near_none (nat_lt m (2 ^ 40)) (pos m) h) in
    elim (int_lt left right) as (λ b. place_within width (if b then right -ℤ (pos m +ℤ k) else (pos m +ℤ k) -ℤ right) ≡ None) [
      | true ↦ place-none width (right -ℤ (pos m +ℤ k)) (inl (omega (arith, ints)))
      | false ↦ place-none width ((pos m +ℤ k) -ℤ right) (inr (omega (arith, ints)))
    ]
far-position width left right (negsuc m) k h k-fits left-fits right-fits width-fits =
    let far : 2 ^ 40 ≤ m = ltb-false m (2 ^ 40) (near_none (nat_lt m (2 ^ 40)) (negsuc m) h) in
    elim (int_lt left right) as (λ b. place_within width (if b then right -ℤ (negsuc m +ℤ k) else (negsuc m +ℤ k) -ℤ right) ≡ None) [
      | true ↦ place-none width (right -ℤ (negsuc m +ℤ k)) (inr (omega (arith, ints)))
      | false ↦ place-none width ((negsuc m +ℤ k) -ℤ right) (inl (omega (arith, ints)))
    ]

pub near-position : (width : ℕ) (left right z n k : ℤ) → Some n ≡ near_of z → place_within width (distance_of left right (n +ℤ k)) ≡ place_within width (distance_of left right (z +ℤ k))
near-position width left right z n k h = ap (λ m. place_within width (distance_of left right (m +ℤ k))) (near_bounds z n h).0

-- a position is below the width
pub place-below : (places p : ℕ) (d : ℤ) → place_within places d ≡ Some p → p < places
place-below places p (pos d) is = at (nat_lt d places) refl is
  where
    at : (t : Bool) → nat_lt d places ≡ t → (if t then Some d else None) ≡ Some p → p < places
    at true low e = subst (λ n. n < places) (Some-same e) (ltb-true d places low)
    at false low e = cc
place-below places p (negsuc d) is = cc

-- ---- bits that are picked

pub picked-at : (range : Range) (bits : ℕ → Bool) (index : ℤ) (offsets : List ℤ) (b : ℕ) (offset : ℤ) → slice_get offsets b ≡ Some offset
    → picked_bit range bits index offsets b ≡ bit_or_zero bits (position_in range (index +ℤ offset))
picked-at range bits index offsets b offset at = ap (λ o. bit_or_zero bits (option_and_then (λ k. position_in range (index +ℤ k)) o)) at

-- ---- bits that are put

put-same : (f g : ℕ → Bool) (from size : ℕ) (bits : ℕ → Bool) (p : ℕ) → f p ≡ g p → put_bits f from size bits p ≡ put_bits g from size bits p
put-same f g from size bits p same = ap (λ b. if nat_le from p && nat_lt p (from + size) then bits (p - from) else b) same

put_bit-same : (f g : ℕ → Bool) (o : Option ℕ) (b : Bool) (p : ℕ) → f p ≡ g p → put_bit f o b p ≡ put_bit g o b p
put_bit-same f g None b p same = same
put_bit-same f g (Some q) b p same = put-same f g q 1 (λ _. b) p same

-- what is put depends on the position's own bit alone
put_picked-same : (range : Range) (f g : ℕ → Bool) (index : ℤ) (b : ℕ) (offsets : List ℤ) (bits : ℕ → Bool) (p : ℕ) → f p ≡ g p
    → put_picked range f index b offsets bits p ≡ put_picked range g index b offsets bits p
put_picked-same range f g index b [] bits p same = same
put_picked-same range f g index b (k ∷ offsets) bits p same =
    put_picked-same range (put_bit f (position_in range (index +ℤ k)) (bits b)) (put_bit g (position_in range (index +ℤ k)) (bits b)) index (b + 1) offsets bits p
    (put_bit-same f g (position_in range (index +ℤ k)) (bits b) p same)

-- what is left to be put into the word so far is what is to be put into the first one
abbrev pub PutSoFar : Range → (ℕ → Bool) → (ℕ → Bool) → ℤ → ℕ → List ℤ → (ℕ → Bool) → Type 0
PutSoFar range so_far first index b offsets bits =
    (p : ℕ) → p < range.width → put_picked range so_far index b (drop b offsets) bits p ≡ put_picked range first index 0 offsets bits p

pub put-next : (range : Range) (so_far after first : ℕ → Bool) (index : ℤ) (b : ℕ) (offsets : List ℤ) (bits : ℕ → Bool) (offset : ℤ) (o : Option ℕ) → b < length offsets → offset ≡ get_or offsets b offset
    → position_in range (index +ℤ offset) ≡ o → ((p : ℕ) → p < range.width → after p ≡ put_bit so_far o (bits b) p) → PutSoFar range so_far first index b offsets bits
    → PutSoFar range after first index (b + 1) offsets bits
put-next range so_far after first index b offsets bits offset o within is at same before p low =
    put_picked-same range after (put_bit so_far (position_in range (index +ℤ offset)) (bits b)) index (b + 1) (drop (b + 1) offsets) bits p
    (same p low ∙ ap (λ x. put_bit so_far x (bits b) p) (sym at))
    ∙ sym (ap (λ xs. put_picked range so_far index b xs bits p) (drop-at offsets b offset within is)) ∙ before p low

pub put-end : (range : Range) (so_far first : ℕ → Bool) (index : ℤ) (b : ℕ) (offsets : List ℤ) (bits : ℕ → Bool) → length offsets ≤ b → PutSoFar range so_far first index b offsets bits
    → (p : ℕ) → p < range.width → so_far p ≡ put_picked range first index 0 offsets bits p
put-end range so_far first index b offsets bits past before p low =
    sym (ap (λ xs. put_picked range so_far index b xs bits p) (drop_all b offsets past)) ∙ before p low

-- one bit of a value is put where there is one
pub put-one : (old bits : ℕ → Bool) (position p : ℕ) → put_bits old position 1 bits p ≡ put_bits old position 1 (λ _. bits 0) p
put-one old bits position p = at (nat_le position p) (nat_lt p (position + 1)) refl refl
  where
    at : (a b : Bool) → nat_le position p ≡ a → nat_lt p (position + 1) ≡ b
        → (if nat_le position p && nat_lt p (position + 1) then bits (p - position) else old p) ≡ (if nat_le position p && nat_lt p (position + 1) then bits 0 else old p)
    at true true low high =
        let from : position ≤ p = leb-true position p low in
        let to : p < position + 1 = ltb-true p (position + 1) high in
        let none : p - position ≡ 0 = omega arith in
        ap (λ k. if nat_le position p && nat_lt p (position + 1) then bits k else old p) none
    at true false low high = rw (low, high) refl
    at false b low high = rw low refl

-- the lowest bit of a value, shifted
pub shifted-bit : (v k : ℕ) → bit (v / 2 ^ k) 0 ≡ bit v k
shifted-bit v k = bit-shr v k 0 ∙ ap (bit v) (omega arith)

pub position-within : (range : Range) (index : ℤ) (p : ℕ) → position_in range index ≡ Some p → p + 1 ≤ range.width
position-within range index p is = omega (arith, place-below range.width p (distance_of range.left range.right index) is)

pub ruleset bit_steps = (put-one, position-within)

-- what is put depends on the numbers alone
pub put-known : (v w w' old old' width width' index index' : ℕ) (left left' right right' : ℤ) (signed signed' : Bool) (offsets offsets' : List ℤ) (bits bits' : ℕ → Bool)
    → w ≡ w' → left ≡ left' → right ≡ right' → old ≡ old' → signed ≡ signed' → width ≡ width' → index ≡ index' → offsets ≡ offsets' → bits ≡ bits'
    → v ≡ number w (put_picked (record { width = w; left = left; right = right }) (bit old) (integer_of signed width index) 0 offsets bits)
    → v ≡ number w' (put_picked (record { width = w'; left = left'; right = right' }) (bit old') (integer_of signed' width' index') 0 offsets' bits')
put-known v w w' old old' width width' index index' left left' right right' signed signed' offsets offsets' bits bits' wide from_left from_right from_old by_sign by_width by_index by_offsets by_bits is =
    let range : ℕ → ℤ → ℤ → Range = λ a b c. record { width = a; left = b; right = c } in
    is
    ∙ ap (λ k. number k (put_picked (range k left right) (bit old) (integer_of signed width index) 0 offsets bits)) wide
    ∙ ap (λ k. number w' (put_picked (range w' k right) (bit old) (integer_of signed width index) 0 offsets bits)) from_left
    ∙ ap (λ k. number w' (put_picked (range w' left' k) (bit old) (integer_of signed width index) 0 offsets bits)) from_right
    ∙ ap (λ k. number w' (put_picked (range w' left' right') (bit k) (integer_of signed width index) 0 offsets bits)) from_old
    ∙ ap (λ k. number w' (put_picked (range w' left' right') (bit old') (integer_of k width index) 0 offsets bits)) by_sign
    ∙ ap (λ k. number w' (put_picked (range w' left' right') (bit old') (integer_of signed' k index) 0 offsets bits)) by_width
    ∙ ap (λ k. number w' (put_picked (range w' left' right') (bit old') (integer_of signed' width' k) 0 offsets bits)) by_index
    ∙ ap (λ k. number w' (put_picked (range w' left' right') (bit old') (integer_of signed' width' index') 0 k bits)) by_offsets
    ∙ ap (λ k. number w' (put_picked (range w' left' right') (bit old') (integer_of signed' width' index') 0 offsets' k)) by_bits

pub ruleset position_steps = (near_bounds, near-position, far-position)

pub ruleset picked_steps = (picked-at)

pub ruleset put_steps = (number-is)

-- What bits by a variable index mean: a number of the index names the bit that the index has by its sign.
use Rattle.std.proofs.Common.{◌≡◌, ℕ, zero, suc, ◌+◌, ◌-◌, ◌^◌, ◌==◌, ◌≤◌, ◌<◌, Bool, true, false, ◌&&◌, ◌||◌, if◌then◌else◌, leb, ltb, List, [], ◌∷◌, length, map, refl, sym, ◌∙◌, ap, ap₂, arith, add-zero, zero-add, inl, inr}
use Rattle.std.specs.Prelude.{ℤ, pos, negsuc, ◌+ℤ◌, ◌-ℤ◌, int_lt}
use Rattle.std.specs.Ordering.{int_eq}
use Rattle.std.specs.Bool.{Decides, one_answer}
use Rattle.std.proofs.lemmas.Int.{ints}
use Rattle.std.proofs.lemmas.Grind.{common_steps}
use Rattle.std.proofs.lemmas.Bool.{cases_lt, true≢false}
use Rattle.std.proofs.lemmas.Bool.Decides.{Decides-int_eq, Decides-eqb, Decides-like}
use Rattle.loc_base.proofs.BitLaws.{double_of}
use Rattle.loc_base.proofs.WordLaws.{signed_value-low, signed_value-high}
use Rattle.loc_base.proofs.ShelfBools.{or-assoc, or-false}
use Rattle.design_core.specs.Valuation.{place_within, distance_of, bit_or_zero}
use Rattle.bit_words.specs.Bits.{integer_of}
use Rattle.bit_words.specs.Index.{is_named, picked, put, NameFits, NamesFit}
use Rattle.word_net.specs.declared.node.Select.{Select}
use Rattle.word_net.specs.Selects.{put_bits, put_bit, put_picked}
use Rattle.bit_circuit.specs.Indexes.{name_of, index_at, name_at, names_from}
use Rattle.bit_circuit.proofs.Bits.{bits_from}

-- ---- names

eq-is : (x y : ℤ) (s : Bool) → Decides s (x ≡ y) → int_eq x y ≡ s
eq-is x y s d = one_answer (int_eq x y) s (Decides-int_eq x y) d

eq-never : (x y : ℤ) → (x ≡ y → ⊥) → int_eq x y ≡ false
eq-never x y never = eq-is x y false (λ e. absurd (true≢false (sym e)), λ p. absurd (never p))

never-equal : (m n : ℕ) → (m ≡ n → ⊥) → (m == n) ≡ false
never-equal m n never = one_answer (m == n) false (Decides-eqb m n) (λ e. absurd (true≢false (sym e)), λ p. absurd (never p))

eq-when : (x y : ℤ) (m n : ℕ) → (m ≡ n → x ≡ y) → (x ≡ y → m ≡ n) → int_eq x y ≡ (m == n)
eq-when x y m n to from = eq-is x y (m == n) (Decides-like (m == n) to from (Decides-eqb m n))

is-less : (m n : ℕ) → m < n → ltb m n ≡ true
is-less m n less = grind (arith, common_steps)

is-past : (m n : ℕ) → n ≤ m → ltb m n ≡ false
is-past m n past = grind (arith, common_steps)

pos-same : (m n : ℕ) → pos m ≡ pos n → m ≡ n
pos-same m n is = omega (arith, ints, is)

pos-never : (m n : ℕ) → pos m ≡ negsuc n → ⊥
pos-never m n is = absurd (omega (arith, ints, is))

negsuc-same : (m n : ℕ) → negsuc m ≡ negsuc n → m ≡ n
negsuc-same m n is = omega (arith, ints, is)

negsuc-never : (m n : ℕ) → negsuc m ≡ pos n → ⊥
negsuc-never m n is = absurd (omega (arith, ints, is))

-- a word is the number that names a whole number exactly where it means that
pub name-means : (signed : Bool) (width v : ℕ) (m : ℤ) → 1 ≤ width → v < 2 ^ width
    → is_named v (name_of signed width m) ≡ int_eq (integer_of signed width v) m
name-means false width v (pos m) some below = elim (cases_lt m (2 ^ width)) [
  | inl less ↦ rw (is-less m (2 ^ width) less) (sym (eq-when (pos v) (pos m) v m (ap pos) (pos-same v m)))
  | inr past ↦ rw (is-past m (2 ^ width) past) (sym (eq-never (pos v) (pos m) (λ is. absurd (omega (arith, below, past, pos-same v m is)))))
]
name-means false width v (negsuc m) some below = sym (eq-never (pos v) (negsuc m) (pos-never v m))
name-means true width v (pos m) some below = elim (cases_lt m (2 ^ (width - 1))) [
  | inl less ↦ rw (is-less m (2 ^ (width - 1)) less) (elim (cases_lt v (2 ^ (width - 1))) [
    | inl low ↦ rw (signed_value-low width v low) (sym (eq-when (pos v) (pos m) v m (ap pos) (pos-same v m)))
    | inr high ↦ rw (signed_value-high width v below high)
        (never-equal v m (λ is. absurd (omega (arith, is, less, high)))
        ∙ sym (eq-never (negsuc ((2 ^ width - 1) - v)) (pos m) (negsuc-never ((2 ^ width - 1) - v) m)))
  ])
  | inr past ↦ rw (is-past m (2 ^ (width - 1)) past) (elim (cases_lt v (2 ^ (width - 1))) [
    | inl low ↦ rw (signed_value-low width v low) (sym (eq-never (pos v) (pos m) (λ is. absurd (omega (arith, low, past, pos-same v m is)))))
    | inr high ↦ rw (signed_value-high width v below high) (sym (eq-never (negsuc ((2 ^ width - 1) - v)) (pos m) (negsuc-never ((2 ^ width - 1) - v) m)))
  ])
]
name-means true width v (negsuc m) some below =
    let whole = double_of width some in
    elim (cases_lt m (2 ^ (width - 1))) [
      | inl less ↦ rw (is-less m (2 ^ (width - 1)) less) (elim (cases_lt v (2 ^ (width - 1))) [
        | inl low ↦ rw (signed_value-low width v low)
            (never-equal v (2 ^ width - (m + 1)) (λ is. absurd (omega (arith, is, less, low, whole)))
            ∙ sym (eq-never (pos v) (negsuc m) (pos-never v m)))
        | inr high ↦ rw (signed_value-high width v below high)
            (sym (eq-when (negsuc ((2 ^ width - 1) - v)) (negsuc m) v (2 ^ width - (m + 1))
            (λ is. ap negsuc (omega (arith, is, less, below, whole)))
            (λ is. omega (arith, negsuc-same ((2 ^ width - 1) - v) m is, less, below, whole))))
      ])
      | inr past ↦ rw (is-past m (2 ^ (width - 1)) past) (elim (cases_lt v (2 ^ (width - 1))) [
        | inl low ↦ rw (signed_value-low width v low) (sym (eq-never (pos v) (negsuc m) (pos-never v m)))
        | inr high ↦ rw (signed_value-high width v below high)
            (sym (eq-never (negsuc ((2 ^ width - 1) - v)) (negsuc m) (λ is. absurd (omega (arith, negsuc-same ((2 ^ width - 1) - v) m is, past, high, below, whole)))))
      ])
    ]

-- and it has the width of the index
pub name-fits : (signed : Bool) (width : ℕ) (m : ℤ) → 1 ≤ width → NameFits width (name_of signed width m)
name-fits false width (pos m) some = elim (cases_lt m (2 ^ width)) [
  | inl less ↦ rw (is-less m (2 ^ width) less) less
  | inr past ↦ rw (is-past m (2 ^ width) past) tt
]
name-fits false width (negsuc m) some = tt
name-fits true width (pos m) some = elim (cases_lt m (2 ^ (width - 1))) [
  | inl less ↦ rw (is-less m (2 ^ (width - 1)) less) (omega (arith, less, double_of width some))
  | inr past ↦ rw (is-past m (2 ^ (width - 1)) past) tt
]
name-fits true width (negsuc m) some = elim (cases_lt m (2 ^ (width - 1))) [
  | inl less ↦ rw (is-less m (2 ^ (width - 1)) less) (omega (arith, less, double_of width some))
  | inr past ↦ rw (is-past m (2 ^ (width - 1)) past) tt
]

-- ---- which bit of a word has an index

-- the index of a position less an offset is the index at hand exactly where that with the offset lies there
to-place : (left right index offset : ℤ) (p : ℕ) → index ≡ index_at left right p -ℤ offset → distance_of left right (index +ℤ offset) ≡ pos p
to-place left right index offset p is = by_order (int_lt left right) is
  where
    by_order : (b : Bool) → index ≡ (if b then right -ℤ pos p else right +ℤ pos p) -ℤ offset → (if b then right -ℤ (index +ℤ offset) else (index +ℤ offset) -ℤ right) ≡ pos p
    by_order true is = omega (arith, ints, is)
    by_order false is = omega (arith, ints, is)

from-place : (left right index offset : ℤ) (p : ℕ) → distance_of left right (index +ℤ offset) ≡ pos p → index ≡ index_at left right p -ℤ offset
from-place left right index offset p is = by_order (int_lt left right) is
  where
    by_order : (b : Bool) → (if b then right -ℤ (index +ℤ offset) else (index +ℤ offset) -ℤ right) ≡ pos p → index ≡ (if b then right -ℤ pos p else right +ℤ pos p) -ℤ offset
    by_order true is = omega (arith, ints, is)
    by_order false is = omega (arith, ints, is)

-- the distance with an offset
abbrev pub away : Select → ℕ → ℤ → ℤ
away select v offset = distance_of select.left select.right (integer_of select.index.signed select.index.width v +ℤ offset)

pub name-at : (select : Select) (v p : ℕ) (offset : ℤ) → 1 ≤ select.index.width → v < 2 ^ select.index.width
    → is_named v (name_at select p offset) ≡ int_eq (away select v offset) (pos p)
name-at select v p offset some below =
    let index = integer_of select.index.signed select.index.width v in
    let named = index_at select.left select.right p -ℤ offset in
    name-means select.index.signed select.index.width v named some below
    ∙ eq-is index named (int_eq (away select v offset) (pos p))
    (Decides-like (int_eq (away select v offset) (pos p))
    (from-place select.left select.right index offset p) (to-place select.left select.right index offset p)
    (Decides-int_eq (away select v offset) (pos p)))

-- ---- reads

-- the bit at a distance, among those of some positions
unfoldable bit_within : (ℕ → Bool) → ℤ → ℕ → ℕ → Bool
bit_within f d p zero = false
bit_within f d p (suc n) = (f p && int_eq d (pos p)) || bit_within f d (p + 1) n

picked-within : (select : Select) (v : ℕ) (offset : ℤ) (f : ℕ → Bool) (n p : ℕ) (so_far : Bool) → 1 ≤ select.index.width → v < 2 ^ select.index.width
    → picked v so_far (bits_from f p n) (names_from select offset p n) ≡ (so_far || bit_within f (away select v offset) p n)
unfolding bit_within bits_from names_from
picked-within select v offset f zero p so_far some below = sym (or-false so_far)
picked-within select v offset f (suc n) p so_far some below =
    let d = away select v offset in
    picked-within select v offset f n (p + 1) (so_far || (f p && is_named v (name_at select p offset))) some below
    ∙ ap (λ b. (so_far || (f p && b)) || bit_within f d (p + 1) n) (name-at select v p offset some below)
    ∙ or-assoc so_far (f p && int_eq d (pos p)) (bit_within f d (p + 1) n)

none-within : (f : ℕ → Bool) (d : ℤ) (n p : ℕ) → ((i : ℕ) → i < n → d ≡ pos (p + i) → ⊥) → bit_within f d p n ≡ false
unfolding bit_within
none-within f d zero p never = refl
none-within f d (suc n) p never =
    ap₂ (λ b c. (f p && b) || c) (eq-never d (pos p) (λ is. never 0 (omega arith) (is ∙ ap pos (sym (add-zero p)))))
    (none-within f d n (p + 1) (λ i less is. never (suc i) (omega (arith, less)) (is ∙ ap pos (next i))))
    ∙ nothing (f p)
  where
    next : (i : ℕ) → p + 1 + i ≡ p + suc i
    next i = omega arith

    nothing : (b : Bool) → ((b && false) || false) ≡ false
    nothing true = refl
    nothing false = refl

one-within : (f : ℕ → Bool) (q n p i : ℕ) → i < n → q ≡ p + i → bit_within f (pos q) p n ≡ f q
unfolding bit_within
one-within f q zero p i less is = absurd (omega (arith, less))
one-within f q (suc n) p zero less is =
    let here : q ≡ p = is ∙ add-zero p in
    ap₂ (λ b c. (f p && b) || c) (eq-is (pos q) (pos p) true (λ _. ap pos here, λ _. refl))
    (none-within f (pos q) n (p + 1) (λ i less is. absurd (omega (arith, here, pos-same q (p + 1 + i) is))))
    ∙ whole (f p) ∙ ap f (sym here)
  where
    whole : (b : Bool) → ((b && true) || false) ≡ b
    whole true = refl
    whole false = refl
one-within f q (suc n) p (suc i) less is =
    ap (λ b. (f p && b) || bit_within f (pos q) (p + 1) n) (eq-never (pos q) (pos p) (λ e. absurd (omega (arith, is, pos-same q p e))))
    ∙ nothing (f p) (bit_within f (pos q) (p + 1) n)
    ∙ one-within f q n (p + 1) i (omega (arith, less)) (is ∙ sym (next p i))
  where
    next : (p i : ℕ) → p + 1 + i ≡ p + suc i
    next p i = omega arith

    nothing : (b c : Bool) → ((b && false) || c) ≡ c
    nothing true c = refl
    nothing false c = refl

all-within : (f : ℕ → Bool) (d : ℤ) (n : ℕ) → bit_within f d 0 n ≡ bit_or_zero f (place_within n d)
all-within f (pos q) n = elim (cases_lt q n) [
  | inl less ↦ rw (is-less q n less) (one-within f q n 0 q less (sym (zero-add q)))
  | inr past ↦ rw (is-past q n past) (none-within f (pos q) n 0 (λ i less is. absurd (omega (arith, less, past, pos-same q (0 + i) is))))
]
all-within f (negsuc q) n = none-within f (negsuc q) n 0 (λ i less is. negsuc-never q (0 + i) is)

-- the bit that the index names, of a word of a width
pub picked-is : (select : Select) (v : ℕ) (offset : ℤ) (f : ℕ → Bool) (width : ℕ) → 1 ≤ select.index.width → v < 2 ^ select.index.width
    → picked v false (bits_from f 0 width) (names_from select offset 0 width) ≡ bit_or_zero f (place_within width (away select v offset))
picked-is select v offset f width some below =
    picked-within select v offset f width 0 false some below ∙ all-within f (away select v offset) width

pub names-fit : (select : Select) (offset : ℤ) (n p : ℕ) → 1 ≤ select.index.width → NamesFit select.index.width (names_from select offset p n)
unfolding names_from
names-fit select offset zero p some = tt
names-fit select offset (suc n) p some =
    (name-fits select.index.signed select.index.width (index_at select.left select.right p -ℤ offset) some, names-fit select offset n (p + 1) some)

-- ---- stores

put-here : (old : ℕ → Bool) (d : ℤ) (width p : ℕ) (b : Bool) → p < width
    → put_bit old (place_within width d) b p ≡ (if int_eq d (pos p) then b else old p)
put-here old (pos q) width p b within = elim (cases_lt q width) [
  | inl less ↦ rw (is-less q width less) (at q p)
  | inr past ↦ rw (is-past q width past) (ap (λ c. if c then b else old p) (sym (eq-never (pos q) (pos p) (λ is. absurd (omega (arith, past, within, pos-same q p is))))))
]
  where
    span : (q p : ℕ) → (leb q p && ltb p (q + 1)) ≡ (q == p)
    span q p = grind (arith, common_steps)

    at : (q p : ℕ) → put_bits old q 1 (λ _. b) p ≡ (if int_eq (pos q) (pos p) then b else old p)
    at q p = ap (λ c. if c then b else old p) (span q p ∙ sym (eq-when (pos q) (pos p) q p (ap pos) (pos-same q p)))
put-here old (negsuc q) width p b within = ap (λ c. if c then b else old p) (sym (eq-never (negsuc q) (pos p) (negsuc-never q p)))

-- the bit at a position after a store
pub put-is : (select : Select) (v width : ℕ) (g : ℕ → Bool) (p : ℕ) (offsets : List ℤ) (old : ℕ → Bool) (b n : ℕ) (so_far : Bool)
    → 1 ≤ select.index.width → v < 2 ^ select.index.width → p < width → length offsets ≤ n → so_far ≡ old p
    → put v so_far (bits_from g b n) (map (name_at select p) offsets)
    ≡ put_picked (record { width = width; left = select.left; right = select.right }) old (integer_of select.index.signed select.index.width v) b offsets g p
unfolding bits_from
put-is select v width g p [] old b zero so_far some below within long is = is
put-is select v width g p [] old b (suc n) so_far some below within long is = is
put-is select v width g p (offset ∷ offsets) old b zero so_far some below within long is = absurd (omega (arith, long))
put-is select v width g p (offset ∷ offsets) old b (suc n) so_far some below within long is =
    let d = away select v offset in
    put-is select v width g p offsets (put_bit old (place_within width d) (g b)) (b + 1) n (if is_named v (name_at select p offset) then g b else so_far) some below within (omega (arith, long))
    (ap₂ (λ c x. if c then g b else x) (name-at select v p offset some below) is ∙ sym (put-here old d width p (g b) within))

pub put-names-fit : (select : Select) (p : ℕ) (offsets : List ℤ) → 1 ≤ select.index.width → NamesFit select.index.width (map (name_at select p) offsets)
put-names-fit select p [] some = tt
put-names-fit select p (offset ∷ offsets) some =
    (name-fits select.index.signed select.index.width (index_at select.left select.right p -ℤ offset) some, put-names-fit select p offsets some)

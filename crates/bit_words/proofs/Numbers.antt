-- The whole numbers that the operators' bits mean.
use Rattle.std.proofs.Common.{◌≡◌, ℕ, zero, suc, ◌+◌, ◌-◌, ◌*◌, ◌%◌, ◌^◌, ◌≤◌, ◌<◌, Bool, true, false, not, ◌&&◌, ◌||◌, ◌==◌, ltb, leb, if◌then◌else◌, List, [], ◌∷◌, length, map, replicate, refl, sym, ◌∙◌, ap, ap₂, subst, pow-suc, mul_comm, arith, ◌⊎◌, inl, inr}
use Rattle.std.proofs.lemmas.Grind.{common_steps}
use Rattle.std.proofs.lemmas.List.{length-map}
use Rattle.std.proofs.Math.Nat.{add-mul-mod_self_right, mod-eq_of_lt}
use Rattle.std.specs.Prelude.{int_lt}
use Rattle.loc_base.specs.Word.{signed_value}
use Rattle.loc_base.proofs.WordLaws.{signed_value-low, signed_value-high}
use Rattle.loc_base.proofs.BitLaws.{double_of}
use Rattle.gate_base.specs.Meaning.{differ}
use Rattle.std.specs.Prelude.{bit_and, bit_or, bit_xor}
use Rattle.std.proofs.lemmas.Nat.{and_block, or_block, xor_block}
use Rattle.bit_words.specs.declared.bitwise.Bitwise.{Bitwise}
use Rattle.bit_words.specs.declared.bitwise.Bitwise.TheVariants as bitwise
use Rattle.bit_words.specs.Bitwise.{bits_of, bitwise_number}
use Rattle.bit_words.specs.Bits.{one_if, number_of, integer_of}
use Rattle.bit_words.specs.Equal.{same_bits}
use Rattle.bit_words.specs.Choose.{chosen_bits}
use Rattle.bit_words.specs.Add.{carry_of, sum_bits, last_carry}
use Rattle.bit_words.specs.Less.{topped}

pub double : (n : ℕ) → 2 ^ suc n ≡ 2 * 2 ^ n
double n = omega (arith, pow-suc 2 n)

pub one_if-below : (b : Bool) → one_if b ≤ 1
one_if-below true = omega arith
one_if-below false = omega arith

-- a number has no bit above its width
pub number_of-below : (bs : List Bool) → number_of bs < 2 ^ length bs
number_of-below [] = omega arith
number_of-below (b ∷ bs) = omega (arith, double (length bs), number_of-below bs, one_if-below b)

-- the opposite bits are what a number lacks to the largest of its width
pub number_of-not : (bs : List Bool) → number_of (map not bs) + number_of bs + 1 ≡ 2 ^ length bs
number_of-not [] = refl
number_of-not (true ∷ bs) = omega (arith, double (length bs), number_of-not bs)
number_of-not (false ∷ bs) = omega (arith, double (length bs), number_of-not bs)

pub number_of-zeros : (width : ℕ) → number_of (replicate width false) ≡ 0
number_of-zeros zero = refl
number_of-zeros (suc width) = omega (arith, number_of-zeros width)

-- ---- sums

full-adder : (a b k : Bool) → one_if (differ (differ a b) k) + 2 * one_if (carry_of a b k) ≡ one_if a + one_if b + one_if k
full-adder true true true = refl
full-adder true true false = refl
full-adder true false true = refl
full-adder true false false = refl
full-adder false true true = refl
full-adder false true false = refl
full-adder false false true = refl
full-adder false false false = refl

column-number : (s a b k n A B S P Q : ℕ) → s + 2 * n ≡ a + b + k → S + P ≡ A + B + n → Q ≡ 2 * P → s + 2 * S + Q ≡ (a + 2 * A) + (b + 2 * B) + k
column-number s a b k n A B S P Q column rest twice = omega arith

carried : (n : ℕ) (c : Bool) → 2 ^ suc n * one_if c ≡ 2 * (2 ^ n * one_if c)
carried n true = omega (arith, double n)
carried n false = omega arith

-- the sum's bits and the last carry are the sum of the numbers
pub sum-number : (ks bs : List Bool) (k : Bool) → length ks ≡ length bs
    → number_of (sum_bits ks bs k) + 2 ^ length ks * one_if (last_carry ks bs k) ≡ number_of ks + number_of bs + one_if k
sum-number [] [] k same = omega arith
sum-number [] (b ∷ bs) k same = absurd (omega arith)
sum-number (a ∷ ks) [] k same = absurd (omega arith)
sum-number (a ∷ ks) (b ∷ bs) k same =
    let n = carry_of a b k in
    column-number (one_if (differ (differ a b) k)) (one_if a) (one_if b) (one_if k) (one_if n) (number_of ks) (number_of bs) (number_of (sum_bits ks bs n))
    (2 ^ length ks * one_if (last_carry ks bs n)) (2 ^ suc (length ks) * one_if (last_carry ks bs n))
    (full-adder a b k) (sum-number ks bs n (omega arith)) (carried (length ks) (last_carry ks bs n))

pub length-sum_bits : (ks bs : List Bool) (k : Bool) → length ks ≡ length bs → length (sum_bits ks bs k) ≡ length ks
length-sum_bits [] bs k same = refl
length-sum_bits (a ∷ ks) [] k same = absurd (omega arith)
length-sum_bits (a ∷ ks) (b ∷ bs) k same = ap suc (length-sum_bits ks bs (carry_of a b k) (omega arith))

low-part : (m n q s : ℕ) → n < m → n + m * q ≡ s → n ≡ s % m
low-part m n q s below is =
    sym (ap (λ x. x % m) (sym is ∙ ap (λ y. n + y) (mul_comm m q)) ∙ add-mul-mod_self_right n q m ∙ mod-eq_of_lt below)

-- a sum is that of the numbers, as far as its width reaches
pub sum-mod : (ks bs : List Bool) (k : Bool) → length ks ≡ length bs
    → number_of (sum_bits ks bs k) ≡ (number_of ks + number_of bs + one_if k) % 2 ^ length ks
sum-mod ks bs k same =
    let below : number_of (sum_bits ks bs k) < 2 ^ length ks = subst (λ n. number_of (sum_bits ks bs k) < 2 ^ n) (length-sum_bits ks bs k same) (number_of-below (sum_bits ks bs k)) in
    low-part (2 ^ length ks) (number_of (sum_bits ks bs k)) (one_if (last_carry ks bs k)) (number_of ks + number_of bs + one_if k) below (sum-number ks bs k same)

-- ---- comparisons

-- the last carry of a difference says that nothing is borrowed
borrow : (S P a b b' : ℕ) (c : Bool) → S + P * one_if c ≡ a + b' + 1 → b' + b + 1 ≡ P → S < P → a < P → b < P → c ≡ leb b a
borrow S P a b b' true sum opposite s_below a_below b_below = grind (arith, common_steps)
borrow S P a b b' false sum opposite s_below a_below b_below = grind (arith, common_steps)

length-not : (bs : List Bool) → length (map not bs) ≡ length bs
length-not bs = length-map bs not

pub carry-at_most : (ks bs : List Bool) → length ks ≡ length bs → last_carry ks (map not bs) true ≡ leb (number_of bs) (number_of ks)
carry-at_most ks bs same =
    let equal : length ks ≡ length (map not bs) = same ∙ sym (length-not bs) in
    let width : 2 ^ length ks ≡ 2 ^ length bs = ap (λ n. 2 ^ n) same in
    let sum_below : number_of (sum_bits ks (map not bs) true) < 2 ^ length ks =
    subst (λ n. number_of (sum_bits ks (map not bs) true) < 2 ^ n) (length-sum_bits ks (map not bs) true equal) (number_of-below (sum_bits ks (map not bs) true)) in
    borrow (number_of (sum_bits ks (map not bs) true)) (2 ^ length ks) (number_of ks) (number_of bs) (number_of (map not bs)) (last_carry ks (map not bs) true)
    (sum-number ks (map not bs) true equal) (number_of-not bs ∙ sym width) sum_below (number_of-below ks) (omega (arith, width, number_of-below bs))

same-double : (a b m n : ℕ) → a ≤ 1 → b ≤ 1 → (a + 2 * m == b + 2 * n) ≡ ((a == b) && (m == n))
same-double a b m n a_low b_low = grind (arith, common_steps)

same-one : (a b : Bool) → not (differ a b) ≡ (one_if a == one_if b)
same-one true true = refl
same-one true false = refl
same-one false true = refl
same-one false false = refl

-- two words of one width are equal where all their bits are
pub same-number : (ks bs : List Bool) → length ks ≡ length bs → same_bits ks bs ≡ (number_of ks == number_of bs)
same-number [] [] same = refl
same-number [] (b ∷ bs) same = absurd (omega arith)
same-number (a ∷ ks) [] same = absurd (omega arith)
same-number (a ∷ ks) (b ∷ bs) same =
    ap₂ (λ p q. p && q) (same-one a b) (same-number ks bs (omega arith))
    ∙ sym (same-double (one_if a) (one_if b) (number_of ks) (number_of bs) (one_if-below a) (one_if-below b))

-- a choice of words is the chosen number
pub chosen-number : (c : Bool) (ks bs : List Bool) → length ks ≡ length bs → number_of (chosen_bits c ks bs) ≡ (if c then number_of ks else number_of bs)
chosen-number true [] [] same = refl
chosen-number false [] [] same = refl
chosen-number c [] (b ∷ bs) same = absurd (omega arith)
chosen-number c (a ∷ ks) [] same = absurd (omega arith)
chosen-number true (a ∷ ks) (b ∷ bs) same = ap (λ n. one_if a + 2 * n) (chosen-number true ks bs (omega arith))
chosen-number false (a ∷ ks) (b ∷ bs) same = ap (λ n. one_if b + 2 * n) (chosen-number false ks bs (omega arith))

-- ---- words of two's complement

-- a top bit that is turned adds or takes half of the numbers of a width
record IsTurned (half value turned : ℕ) : Type 0 where
  is : ((half ≤ value) × (turned + half ≡ value)) ⊎ ((value < half) × (turned ≡ value + half))

turned-more : (b h v t : ℕ) → b ≤ 1 → IsTurned h v t → IsTurned (2 * h) (b + 2 * v) (b + 2 * t)
turned-more b h v t low turned =
    elim turned.is [ inl p ↦ record { is = inl (omega (arith, low, p.0), omega (arith, p.1)) } | inr p ↦ record { is = inr (omega (arith, low, p.0), omega (arith, p.1)) } ]

topped-number : (b : Bool) (bs : List Bool) → IsTurned (2 ^ length bs) (number_of (b ∷ bs)) (number_of (topped true (b ∷ bs)))
topped-number true [] = record { is = inl (omega arith, omega arith) }
topped-number false [] = record { is = inr (omega arith, omega arith) }
topped-number b (c ∷ cs) =
    subst (λ h. IsTurned h (number_of (b ∷ c ∷ cs)) (number_of (topped true (b ∷ c ∷ cs)))) (sym (double (length cs)))
    (turned-more (one_if b) (2 ^ length cs) (number_of (c ∷ cs)) (number_of (topped true (c ∷ cs))) (one_if-below b) (topped-number c cs))

signed-order : (w a b s t : ℕ) → 1 ≤ w → a < 2 ^ w → b < 2 ^ w → IsTurned (2 ^ (w - 1)) a s → IsTurned (2 ^ (w - 1)) b t
    → int_lt (signed_value w a) (signed_value w b) ≡ ltb s t
signed-order w a b s t some a_below b_below a_turned b_turned =
    let whole = double_of w some in
    elim a_turned.is [
      | inl p ↦ elim b_turned.is [
        | inl q ↦ ap₂ int_lt (signed_value-high w a a_below p.0) (signed_value-high w b b_below q.0) ∙ both_high (2 ^ w) (2 ^ (w - 1)) a b s t a_below b_below p.1 q.1
        | inr q ↦ ap₂ int_lt (signed_value-high w a a_below p.0) (signed_value-low w b q.0) ∙ high_low (2 ^ w) (2 ^ (w - 1)) a b s t whole a_below p.1 q.1
      ]
      | inr p ↦ elim b_turned.is [
        | inl q ↦ ap₂ int_lt (signed_value-low w a p.0) (signed_value-high w b b_below q.0) ∙ low_high (2 ^ w) (2 ^ (w - 1)) a b s t whole b_below p.1 q.1
        | inr q ↦ ap₂ int_lt (signed_value-low w a p.0) (signed_value-low w b q.0) ∙ both_low (2 ^ (w - 1)) a b s t p.1 q.1
      ]
    ]
  where
    both_high : (whole half a b s t : ℕ) → a < whole → b < whole → s + half ≡ a → t + half ≡ b → ltb (whole - 1 - b) (whole - 1 - a) ≡ ltb s t
    both_high whole half a b s t a_below b_below a_is b_is = grind (arith, common_steps)

    high_low : (whole half a b s t : ℕ) → whole ≡ 2 * half → a < whole → s + half ≡ a → t ≡ b + half → true ≡ ltb s t
    high_low whole half a b s t double_is a_below a_is b_is = grind (arith, common_steps)

    low_high : (whole half a b s t : ℕ) → whole ≡ 2 * half → b < whole → s ≡ a + half → t + half ≡ b → false ≡ ltb s t
    low_high whole half a b s t double_is b_below a_is b_is = grind (arith, common_steps)

    both_low : (half a b s t : ℕ) → s ≡ a + half → t ≡ b + half → ltb a b ≡ ltb s t
    both_low half a b s t a_is b_is = grind (arith, common_steps)

length-topped : (signed : Bool) (bs : List Bool) → length (topped signed bs) ≡ length bs
length-topped signed [] = refl
length-topped signed (b ∷ []) = refl
length-topped signed (b ∷ c ∷ cs) = ap suc (length-topped signed (c ∷ cs))

topped-false : (bs : List Bool) → topped false bs ≡ bs
topped-false [] = refl
topped-false (b ∷ []) = refl
topped-false (b ∷ c ∷ cs) = ap (λ ds. b ∷ ds) (topped-false (c ∷ cs))

not-at_most : (m n : ℕ) → not (leb n m) ≡ ltb m n
not-at_most m n = grind (arith, common_steps)

signed-less : (ks bs : List Bool) → length ks ≡ length bs → 1 ≤ length ks
    → ltb (number_of (topped true ks)) (number_of (topped true bs)) ≡ int_lt (signed_value (length ks) (number_of ks)) (signed_value (length ks) (number_of bs))
signed-less [] bs same some = absurd (omega (arith, some))
signed-less (a ∷ ks) [] same some = absurd (omega arith)
signed-less (a ∷ ks) (b ∷ bs) same some =
    let w = suc (length ks) in
    let width : length ks ≡ length bs = omega (arith, same) in
    let lower : length ks ≡ w - 1 = omega arith in
    sym (signed-order w (number_of (a ∷ ks)) (number_of (b ∷ bs)) (number_of (topped true (a ∷ ks))) (number_of (topped true (b ∷ bs))) some
    (number_of-below (a ∷ ks)) (subst (λ n. number_of (b ∷ bs) < 2 ^ suc n) (sym width) (number_of-below (b ∷ bs)))
    (subst (λ n. IsTurned (2 ^ n) (number_of (a ∷ ks)) (number_of (topped true (a ∷ ks)))) lower (topped-number a ks))
    (subst (λ n. IsTurned (2 ^ n) (number_of (b ∷ bs)) (number_of (topped true (b ∷ bs)))) (sym width ∙ lower) (topped-number b bs)))

-- a word is less than another by the whole numbers that they mean
pub less-number : (signed : Bool) (ks bs : List Bool) → length ks ≡ length bs → 1 ≤ length ks
    → not (last_carry (topped signed ks) (map not (topped signed bs)) true) ≡ int_lt (integer_of signed (length ks) (number_of ks)) (integer_of signed (length ks) (number_of bs))
less-number signed ks bs same some =
    ap not (carry-at_most (topped signed ks) (topped signed bs) (length-topped signed ks ∙ same ∙ sym (length-topped signed bs)))
    ∙ not-at_most (number_of (topped signed ks)) (number_of (topped signed bs))
    ∙ by_sign signed ks bs same some
  where
    by_sign : (signed : Bool) (ks bs : List Bool) → length ks ≡ length bs → 1 ≤ length ks
        → ltb (number_of (topped signed ks)) (number_of (topped signed bs)) ≡ int_lt (integer_of signed (length ks) (number_of ks)) (integer_of signed (length ks) (number_of bs))
    by_sign true ks bs same some = signed-less ks bs same some
    by_sign false ks bs same some = ap₂ (λ p q. ltb (number_of p) (number_of q)) (topped-false ks) (topped-false bs)

-- ---- bit by bit

lowest : (r n : ℕ) → r + 2 * n ≡ n * 2 ^ 1 + r
lowest r n = omega arith

and-one : (a b : Bool) → bit_and (one_if a) (one_if b) ≡ one_if (a && b)
and-one true true = refl
and-one true false = refl
and-one false true = refl
and-one false false = refl

or-one : (a b : Bool) → bit_or (one_if a) (one_if b) ≡ one_if (a || b)
or-one true true = refl
or-one true false = refl
or-one false true = refl
or-one false false = refl

xor-one : (a b : Bool) → bit_xor (one_if a) (one_if b) ≡ one_if (differ a b)
xor-one true true = refl
xor-one true false = refl
xor-one false true = refl
xor-one false false = refl

one-bit : (b : Bool) → one_if b < 2 ^ 1
one-bit b = omega (arith, one_if-below b)

module _ (op : ℕ → ℕ → ℕ) (bit : Bool → Bool → Bool) (none_is : op 0 0 ≡ 0) (one_is : (a b : Bool) → op (one_if a) (one_if b) ≡ one_if (bit a b))
    (block : (a b r s : ℕ) → r < 2 ^ 1 → s < 2 ^ 1 → op (a * 2 ^ 1 + r) (b * 2 ^ 1 + s) ≡ op a b * 2 ^ 1 + op r s) where
  block-number : (a b : Bool) (m n k : ℕ) → k ≡ op m n → one_if (bit a b) + 2 * k ≡ op (one_if a + 2 * m) (one_if b + 2 * n)
  block-number a b m n k is =
      lowest (one_if (bit a b)) k
      ∙ ap₂ (λ x y. x * 2 ^ 1 + y) is (sym (one_is a b))
      ∙ sym (block m n (one_if a) (one_if b) (one-bit a) (one-bit b))
      ∙ sym (ap₂ op (lowest (one_if a) m) (lowest (one_if b) n))

and-number : (ks bs : List Bool) → length ks ≡ length bs → number_of (bits_of bitwise.And ks bs) ≡ bit_and (number_of ks) (number_of bs)
and-number [] [] same = refl
and-number [] (b ∷ bs) same = absurd (omega arith)
and-number (a ∷ ks) [] same = absurd (omega arith)
and-number (a ∷ ks) (b ∷ bs) same =
    block-number bit_and (λ x y. x && y) refl and-one (and_block 1) a b (number_of ks) (number_of bs) (number_of (bits_of bitwise.And ks bs)) (and-number ks bs (omega arith))

or-number : (ks bs : List Bool) → length ks ≡ length bs → number_of (bits_of bitwise.Or ks bs) ≡ bit_or (number_of ks) (number_of bs)
or-number [] [] same = refl
or-number [] (b ∷ bs) same = absurd (omega arith)
or-number (a ∷ ks) [] same = absurd (omega arith)
or-number (a ∷ ks) (b ∷ bs) same =
    block-number bit_or (λ x y. x || y) refl or-one (or_block 1) a b (number_of ks) (number_of bs) (number_of (bits_of bitwise.Or ks bs)) (or-number ks bs (omega arith))

xor-number : (ks bs : List Bool) → length ks ≡ length bs → number_of (bits_of bitwise.Xor ks bs) ≡ bit_xor (number_of ks) (number_of bs)
xor-number [] [] same = refl
xor-number [] (b ∷ bs) same = absurd (omega arith)
xor-number (a ∷ ks) [] same = absurd (omega arith)
xor-number (a ∷ ks) (b ∷ bs) same =
    block-number bit_xor differ refl xor-one (xor_block 1) a b (number_of ks) (number_of bs) (number_of (bits_of bitwise.Xor ks bs)) (xor-number ks bs (omega arith))

xnor-not : (ks bs : List Bool) → bits_of bitwise.Xnor ks bs ≡ map not (bits_of bitwise.Xor ks bs)
xnor-not [] bs = refl
xnor-not (a ∷ ks) [] = refl
xnor-not (a ∷ ks) (b ∷ bs) = ap (λ cs. not (differ a b) ∷ cs) (xnor-not ks bs)

length-bits_of : (operator : Bitwise) (ks bs : List Bool) → length ks ≡ length bs → length (bits_of operator ks bs) ≡ length ks
length-bits_of operator [] bs same = refl
length-bits_of operator (a ∷ ks) [] same = absurd (omega arith)
length-bits_of operator (a ∷ ks) (b ∷ bs) same = ap suc (length-bits_of operator ks bs (omega arith))

lacks : (m n p : ℕ) → m + n + 1 ≡ p → m ≡ (p - 1) - n
lacks m n p is = omega arith

-- the number of such an operator's bits
pub bitwise-number : (operator : Bitwise) (ks bs : List Bool) → length ks ≡ length bs
    → number_of (bits_of operator ks bs) ≡ bitwise_number operator (length ks) (number_of ks) (number_of bs)
bitwise-number bitwise.And ks bs same = and-number ks bs same
bitwise-number bitwise.Or ks bs same = or-number ks bs same
bitwise-number bitwise.Xor ks bs same = xor-number ks bs same
bitwise-number bitwise.Xnor ks bs same =
    let xs = bits_of bitwise.Xor ks bs in
    ap number_of (xnor-not ks bs)
    ∙ lacks (number_of (map not xs)) (number_of xs) (2 ^ length xs) (number_of-not xs)
    ∙ ap₂ (λ n x. (2 ^ n - 1) - x) (length-bits_of bitwise.Xor ks bs same) (xor-number ks bs same)

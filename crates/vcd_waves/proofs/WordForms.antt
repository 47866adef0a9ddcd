-- The words that a wave is made of: codes, numbers, digits and plain names, none of which is white or `$end`.
use Rattle.std.proofs.Common.{◌≡◌, ◌≢◌, ℕ, zero, suc, ◌+◌, ◌/◌, ◌%◌, ◌^◌, ◌<◌, ◌≤◌, ◌==◌, Bool, true, false, not, ◌&&◌, List, [], ◌∷◌, length, refl, sym, ◌∙◌, ap, arith, inl, inr}
use Rattle.std.specs.Prelude.{codes, decimal, nat_le, nat_lt}
use Rattle.std.specs.Fmt.{digits, digits_onto, digit_glyph}
use Rattle.std.specs.List.{list_all}
use Rattle.std.proofs.lemmas.Bool.{cond-true, cond-false, cases_Bool, and_from, and_parts, false≢true}
use Rattle.std.proofs.lemmas.Bool.Decides.{nat_tests}
use Rattle.loc_base.specs.Ascii.{is_visible, is_decimal}
use Rattle.loc_base.proofs.ShelfBools.{not-true, if-false}
use Rattle.vcd_words.specs.Codes.{code_of, number_of}
use Rattle.vcd_words.specs.Lines.{is_black}
use Rattle.vcd_words.proofs.CodeLaws.{laws}
use Rattle.vcd_words.proofs.CodeSteps.{code_step}
use Rattle.vcd_reading.specs.Commands.{same_bytes, is_end}
use Rattle.vcd_reading.specs.Header.{is_size, name_of, up_to_bracket}
use Rattle.vcd_reading.proofs.ByteLaws.{differ}
use Rattle.vcd_waves.specs.ReadBack.{is_plain_byte, is_plain}

-- a test that follows from another
pub all_from : {X : Type 0} (p q : X → Bool) → ((x : X) → p x ≡ true → q x ≡ true) → (xs : List X)
    → list_all p xs ≡ true → list_all q xs ≡ true
all_from p q gives [] all = refl
all_from p q gives (x ∷ xs) all =
    let parts = and_parts (p x) (list_all p xs) all in
    and_from (q x) (list_all q xs) (gives x parts.0) (all_from p q gives xs parts.1)

-- a word of a line: of bytes that are not white, and at least one
pub record IsWord (word : List ℕ) : Type 0 where
  pub some : word ≢ []
  pub black : list_all is_black word ≡ true
  pub no_end : is_end word ≡ false

-- ---- which bytes are black
visible_black : (byte : ℕ) → is_visible byte ≡ true → is_black byte ≡ true
visible_black byte visible = grind (arith, nat_tests)

decimal_visible : (byte : ℕ) → is_decimal byte ≡ true → is_visible byte ≡ true
decimal_visible byte is = grind (arith, nat_tests)

pub visible_word : (word : List ℕ) → list_all is_visible word ≡ true → list_all is_black word ≡ true
visible_word word visible = all_from is_visible is_black visible_black word visible

-- ---- `$end`
pub other_end : (word : List ℕ) → word ≢ codes "$end" → is_end word ≡ false
unfolding is_end
other_end word other = differ word (codes "$end") other

end_number : number_of (codes "$end") ≡ 56335895
end_number = refl

-- ---- codes
pub code_some : (n : ℕ) → code_of n ≢ []
code_some n none = let e = sym none ∙ code_step 9 n in cc

pub code_word : (n : ℕ) → n < 56335895 → IsWord (code_of n)
code_word n few = record {
  some = code_some n;
  black = visible_word (code_of n) (laws.code_bytes n);
  no_end = other_end (code_of n)
      (λ is. not_number (sym (laws.reads_back n (omega (arith, few))) ∙ ap number_of is ∙ end_number));
}
  where
    not_number : n ≡ 56335895 → ⊥
    not_number is = omega (arith, few, is)

-- codes of different variables differ
pub codes_differ : (n m : ℕ) → n < 2 ^ 64 → m < 2 ^ 64 → n ≢ m → same_bytes (code_of n) (code_of m) ≡ false
codes_differ n m small less apart =
    differ (code_of n) (code_of m)
    (λ same. apart (sym (laws.reads_back n small) ∙ ap number_of same ∙ laws.reads_back m less))

-- ---- numbers
glyph_decimal : (digit : ℕ) → digit < 10 → is_decimal (digit_glyph false digit) ≡ true
glyph_decimal digit small =
    ap is_decimal (cond-true _ _ _ (below digit small)) ∙ high digit small
  where
    below : (d : ℕ) → d < 10 → nat_lt d 10 ≡ true
    below d small = grind (arith, nat_tests)

    high : (d : ℕ) → d < 10 → is_decimal (48 + d) ≡ true
    high d small = grind (arith, nat_tests)

digits_decimal : (k n : ℕ) (acc : List ℕ) → list_all is_decimal acc ≡ true
    → list_all is_decimal (digits_onto k 10 false n acc) ≡ true
digits_decimal zero n acc all = all
digits_decimal (suc k) n acc all =
    let more : list_all is_decimal (digit_glyph false (n % 10) ∷ acc) ≡ true = and_from _ _
    (glyph_decimal (n % 10) (omega arith)) all in
    elim (cases_Bool (n / 10 == 0)) [
      | inl ends ↦ ap (list_all is_decimal) (cond-true _ _ _ ends) ∙ more
      | inr goes ↦ ap (list_all is_decimal) (cond-false _ _ _ goes)
          ∙ digits_decimal k (n / 10) (digit_glyph false (n % 10) ∷ acc) more
    ]

digits_many : (k n : ℕ) (acc : List ℕ) → length acc ≤ length (digits_onto k 10 false n acc)
digits_many zero n acc = omega arith
digits_many (suc k) n acc =
    elim (cases_Bool (n / 10 == 0)) [
      | inl ends ↦ let e = ap (λ (l : List ℕ). length l)
          (cond-true (n / 10 == 0) (digit_glyph false (n % 10) ∷ acc)
          (digits_onto k 10 false (n / 10) (digit_glyph false (n % 10) ∷ acc)) ends) in omega (arith, e)
      | inr goes ↦
          let e = ap (λ (l : List ℕ). length l)
          (cond-false (n / 10 == 0) (digit_glyph false (n % 10) ∷ acc)
          (digits_onto k 10 false (n / 10) (digit_glyph false (n % 10) ∷ acc)) goes) in
          let rest : suc (length acc) ≤ length
          (digits_onto k 10 false (n / 10) (digit_glyph false (n % 10) ∷ acc)) = digits_many k (n / 10)
          (digit_glyph false (n % 10) ∷ acc) in
          omega (arith, e, rest)
    ]

digits_some : (k n : ℕ) → 1 ≤ length (digits_onto (suc k) 10 false n [])
digits_some k n =
    elim (cases_Bool (n / 10 == 0)) [
      | inl ends ↦ let e = ap (λ (l : List ℕ). length l)
          (cond-true (n / 10 == 0) (digit_glyph false (n % 10) ∷ [])
          (digits_onto k 10 false (n / 10) (digit_glyph false (n % 10) ∷ [])) ends) in omega (arith, e)
      | inr goes ↦
          let e = ap (λ (l : List ℕ). length l)
          (cond-false (n / 10 == 0) (digit_glyph false (n % 10) ∷ [])
          (digits_onto k 10 false (n / 10) (digit_glyph false (n % 10) ∷ [])) goes) in
          let rest : 1 ≤ length (digits_onto k 10 false (n / 10) (digit_glyph false (n % 10) ∷ [])) = digits_many k
          (n / 10) (digit_glyph false (n % 10) ∷ []) in
          omega (arith, e, rest)
    ]

pub decimal_digits : (n : ℕ) → list_all is_decimal (decimal n) ≡ true
unfolding digits
decimal_digits n = digits_decimal 64 n [] refl

pub decimal_some : (n : ℕ) → 1 ≤ length (decimal n)
unfolding digits
decimal_some n = digits_some 63 n

pub decimal_black : (n : ℕ) → list_all is_black (decimal n) ≡ true
decimal_black n = visible_word (decimal n)
    (all_from is_decimal is_visible decimal_visible (decimal n) (decimal_digits n))

pub decimal_size : (n : ℕ) → is_size (decimal n) ≡ true
unfolding is_size
decimal_size n = and_from _ _ (long (length (decimal n)) (decimal_some n)) (decimal_digits n)
  where
    long : (m : ℕ) → 1 ≤ m → nat_le 1 m ≡ true
    long m some = grind (arith, nat_tests)

-- a word of decimal digits does not begin with `$`
pub decimal_no_end : (word : List ℕ) → list_all is_decimal word ≡ true → is_end word ≡ false
decimal_no_end word all = other_end word (λ is. false≢true (ap (list_all is_decimal) (sym is) ∙ all))

pub number_word : (n : ℕ) → IsWord (decimal n)
number_word n = record {
  some = λ none. let e : length (decimal n) ≡ 0 = ap
      (λ (l : List ℕ). length l) none in let some = decimal_some n in omega (arith, e, some);
  black = decimal_black n;
  no_end = decimal_no_end (decimal n) (decimal_digits n);
}

-- a byte before black ones, which is none that `$end` begins with
pub marked_word : (mark : ℕ) (word : List ℕ) → is_black mark ≡ true → mark ≢ 36 → list_all is_black word ≡ true
    → IsWord (mark ∷ word)
marked_word mark word black other rest = record {
  some = λ none. cc;
  black = and_from _ _ black rest;
  no_end = other_end (mark ∷ word) (λ is. other (first is));
}
  where
    first : mark ∷ word ≡ codes "$end" → mark ≡ 36
    first is = cc

-- ---- plain names
plain_black : (byte : ℕ) → is_plain_byte byte ≡ true → is_black byte ≡ true
plain_black byte plain = visible_black byte (and_parts (is_visible byte) (not (byte == 91)) plain).0

pub plain_word : (name : List ℕ) → is_plain name ≡ true → IsWord name
plain_word [] plain = absurd (false≢true plain)
plain_word (first ∷ rest) plain =
    let one = and_parts (not (first == 92) && list_all is_plain_byte (first ∷ rest))
    (not (is_end (first ∷ rest))) plain in
    let two = and_parts (not (first == 92)) (list_all is_plain_byte (first ∷ rest)) one.0 in
    record {
      some = λ none. cc;
      black = all_from is_plain_byte is_black plain_black (first ∷ rest) two.1;
      no_end = not-true (is_end (first ∷ rest)) one.1;
    }

no_bracket : (bytes : List ℕ) → list_all is_plain_byte bytes ≡ true → up_to_bracket bytes ≡ bytes
no_bracket [] all = refl
no_bracket (byte ∷ bytes) all =
    let parts = and_parts (is_plain_byte byte) (list_all is_plain_byte bytes) all in
    let other = not-true (byte == 91) (and_parts (is_visible byte) (not (byte == 91)) parts.0).1 in
    if-false (byte == 91) [] (byte ∷ up_to_bracket bytes) (byte ∷ bytes) other
    (ap (λ l. byte ∷ l) (no_bracket bytes parts.1))

-- the name of a reference that is a plain name
pub plain_name : (name : List ℕ) → is_plain name ≡ true → name_of name ≡ name
plain_name [] plain = refl
plain_name (first ∷ rest) plain =
    let one = and_parts (not (first == 92) && list_all is_plain_byte (first ∷ rest))
    (not (is_end (first ∷ rest))) plain in
    let two = and_parts (not (first == 92)) (list_all is_plain_byte (first ∷ rest)) one.0 in
    if-false (first == 92) rest (up_to_bracket (first ∷ rest)) (first ∷ rest) (not-true (first == 92) two.0)
    (no_bracket (first ∷ rest) two.1)

-- ---- words of our own
pub freed_word : IsWord (codes "freed")
freed_word = record { some = λ none. cc; black = refl; no_end = other_end (codes "freed") (λ is. cc) }

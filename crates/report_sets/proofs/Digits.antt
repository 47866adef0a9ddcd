-- The text of a word is a value: 1 to 32 lower-case hex digits.
use Rattle.std.proofs.Common.{◌≡◌, ℕ, zero, suc, ◌+◌, ◌/◌, ◌%◌, ◌<◌, ◌≤◌, ◌⊎◌, List, [], ◌∷◌, length, map, get_or, cond, inl, inr, refl, sym, ap, subst, arith}
use Rattle.std.specs.Prelude.{All}
use Rattle.std.proofs.lemmas.Bool.{cases_lt, lt-ltb, le-ltb}
use Rattle.std.proofs.lemmas.List.{length-append}
use Rattle.std.proofs.lemmas.List.Elements.{All-append, All-cons, All-map}
use Rattle.loc_base.specs.declared.bits.Bits.{Bits}
use Rattle.loc_base.specs.Bits.{width_of-low, width_of-high}
use Rattle.printed_text.specs.Numerals.{hex, hex_digit}
use Rattle.report_sets.specs.Found.{word_text}
use Rattle.report_doc.specs.Shape.{IsHexDigit, IsHexText}

digit-is : (digit : ℕ) → digit < 16 → IsHexDigit (hex_digit digit)
digit-is digit h = at (cases_lt digit 10)
  where
    at : (digit < 10) ⊎ (10 ≤ digit) → IsHexDigit (hex_digit digit)
    at (inl low) = subst IsHexDigit (ap (λ b. cond b (48 + digit) (87 + digit)) (sym (lt-ltb digit 10 low))) (inl (omega arith, omega arith))
    at (inr high) = subst IsHexDigit (ap (λ b. cond b (48 + digit) (87 + digit)) (sym (le-ltb digit 10 high))) (inr (omega arith, omega arith))

length-hex : (count number : ℕ) → length (hex count number) ≡ count
unfolding hex
length-hex zero number = refl
length-hex (suc count) number =
    omega (arith, length-append (hex count (number / 16)) (hex_digit (number % 16) ∷ []), length-hex count (number / 16))

digits-hex : (count number : ℕ) → All IsHexDigit (hex count number)
unfolding hex
digits-hex zero number = λ k d lt. absurd (omega arith)
digits-hex (suc count) number =
    All-append IsHexDigit (hex count (number / 16)) (hex_digit (number % 16) ∷ []) (digits-hex count (number / 16))
    (All-cons IsHexDigit (hex_digit (number % 16)) [] (digit-is (number % 16) (omega arith)) (λ k d lt. absurd (omega arith)))

pub text-of_word : (word : Bits) → IsHexText (word_text word)
text-of_word word =
    let count = (word.width + 3) / 4 in
    let size : length (word_text word) ≡ count = length-hex count word.value in
    record {
      least = omega (arith, size, width_of-low word);
      most = omega (arith, size, width_of-high word);
      digits = digits-hex count word.value;
    }

pub texts-of_words : (words : List Bits) → All IsHexText (map word_text words)
texts-of_words words = All-map IsHexText word_text words (λ k d lt. text-of_word (get_or words k d))

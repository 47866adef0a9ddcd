-- What holds of codes.
use Rattle.std.proofs.Common.{◌≡◌, ℕ, zero, suc, ◌+◌, ◌-◌, ◌*◌, ◌/◌, ◌%◌, ◌^◌, ◌<◌, ◌≤◌, true, List, [], ◌∷◌, refl, ◌∙◌, ap, inl, inr, arith}
use Rattle.std.specs.List.{list_all}
use Rattle.std.proofs.lemmas.Bool.{and_from, and_parts, cases_eq}
use Rattle.std.proofs.lemmas.Bool.Decides.{nat_tests}
use Rattle.std.proofs.Math.Nat.{pow-suc}
use Rattle.loc_base.specs.Ascii.{is_visible}
use Rattle.vcd_words.specs.Codes.{code_from, number_of, place_of, CodeLaws}
use Rattle.vcd_words.proofs.CodeSteps.{code_zero, last_digit, next_digit}

digits_back : (most number : ℕ) → number < 94 ^ most → number_of (code_from most number) ≡ number
digits_back zero number small = ap number_of (code_zero number) ∙ omega (arith, small)
digits_back (suc most) number small =
    elim (cases_eq (number / 94) 0) [
      | inl ends ↦ ap number_of (last_digit most number ends) ∙ omega arith
      | inr goes ↦
          let power : 94 ^ suc most ≡ 94 ^ most * 94 = pow-suc 94 most in
          let rest : number_of (code_from most (number / 94)) ≡ number / 94 = digits_back most (number / 94) (omega arith) in
          ap number_of (next_digit most number goes) ∙ (ap (λ n. 33 + number % 94 - 33 + 94 * n) rest ∙ omega arith)
    ]

code_byte : (number : ℕ) → is_visible (33 + number % 94) ≡ true
code_byte number = grind (arith, nat_tests)

bytes_from : (most number : ℕ) → list_all is_visible (code_from most number) ≡ true
bytes_from zero number = ap (list_all is_visible) (code_zero number)
bytes_from (suc most) number =
    elim (cases_eq (number / 94) 0) [
      | inl ends ↦ ap (list_all is_visible) (last_digit most number ends) ∙ and_from _ _ (code_byte number) refl
      | inr goes ↦ ap (list_all is_visible) (next_digit most number goes) ∙ and_from _ _ (code_byte number) (bytes_from most (number / 94))
    ]

pub record Digit (byte : ℕ) : Type 0 where
  pub low : 33 ≤ byte
  pub high : byte ≤ 126

digit : (byte : ℕ) → is_visible byte ≡ true → Digit byte
digit byte is = record { low = grind (arith, nat_tests); high = grind (arith, nat_tests) }

differ : (one other : List ℕ) → list_all is_visible one ≡ true → list_all is_visible other ≡ true → place_of one ≡ place_of other → one ≡ other
differ [] [] ones others same = refl
differ [] (byte ∷ other) ones others same =
    let d : Digit byte = digit byte ((and_parts (is_visible byte) (list_all is_visible other) others).0) in
    absurd (omega arith)
differ (byte ∷ one) [] ones others same =
    let d : Digit byte = digit byte ((and_parts (is_visible byte) (list_all is_visible one) ones).0) in
    absurd (omega arith)
differ (byte ∷ one) (next ∷ other) ones others same =
    let d : Digit byte = digit byte ((and_parts (is_visible byte) (list_all is_visible one) ones).0) in
    let e : Digit next = digit next ((and_parts (is_visible next) (list_all is_visible other) others).0) in
    let first : byte ≡ next = omega arith in
    let places : place_of one ≡ place_of other = omega arith in
    let rest : one ≡ other = differ one other ((and_parts (is_visible byte) (list_all is_visible one) ones).1)
    ((and_parts (is_visible next) (list_all is_visible other) others).1) places in
    cc

pub laws : CodeLaws
laws = record {
  reads_back = λ number small. digits_back 10 number (omega (arith, small));
  code_bytes = λ number. bytes_from 10 number;
  places_differ = differ;
}

pub ruleset code_laws = (laws)

-- A time that is written in decimal is read back.
use Rattle.std.proofs.Common.{◌≡◌, ℕ, ◌+◌, ◌-◌, ◌*◌, ◌/◌, ◌%◌, ◌^◌, ◌<◌, ◌≤◌, true, List, [], ◌∷◌, ◌++◌, length, Some, refl, ◌∙◌, ap, arith}
use Rattle.std.specs.Prelude.{decimal, nat_le}
use Rattle.std.specs.List.{list_all}
use Rattle.std.proofs.lemmas.Bool.{and_from, cond-true}
use Rattle.std.proofs.lemmas.Bool.Decides.{nat_tests}
use Rattle.std.proofs.lemmas.List.Folds.{list_all-append}
use Rattle.std.proofs.lemmas.List.Sums.{fold-append}
use Rattle.std.proofs.lemmas.Fmt.{decimal_by_steps, length-decimal-le, decimal_nonempty}
use Rattle.loc_base.specs.Ascii.{is_decimal}
use Rattle.vcd_words.specs.Times.{time_of, is_time, TimeBack}

pub record IsWritten (time : ℕ) (digits : List ℕ) : Type 0 where
  pub right : list_all is_decimal digits ≡ true
  pub value : time_of digits ≡ time

a_digit : (digit : ℕ) → digit < 10 → is_decimal (48 + digit) ≡ true
a_digit digit small = grind (arith, nat_tests)

one : (time : ℕ) → time < 10 → IsWritten time ((48 + time) ∷ [])
one time small = record { right = and_from _ _ (a_digit time small) refl; value = omega arith }

more : (time : ℕ) (digits : List ℕ) → 10 ≤ time → IsWritten (time / 10) digits → IsWritten time (digits ++ (48 + time % 10) ∷ [])
more time digits long is = record {
  right = list_all-append is_decimal digits ((48 + time % 10) ∷ []) ∙ and_from _ _ is.right (and_from _ _ (a_digit (time % 10) (omega arith)) refl);
  value = fold-append (λ (time byte : ℕ). time * 10 + (byte - 48)) 0 digits ((48 + time % 10) ∷ []) ∙ (ap (λ n. n * 10 + (48 + time % 10 - 48)) is.value ∙ omega arith);
}

pub written : (time : ℕ) → time < 2 ^ 64 → IsWritten time (decimal time)
written time small = decimal_by_steps IsWritten one more time small

pub back : TimeBack
back time small =
    let fits : time < 2 ^ 64 = omega arith in
    let few : length (decimal time) ≤ 18 = length-decimal-le 18 time (omega arith) small fits in
    let some : 0 < length (decimal time) = decimal_nonempty time fits in
    let low : nat_le 1 (length (decimal time)) ≡ true = grind (arith, nat_tests) in
    let high : nat_le (length (decimal time)) 18 ≡ true = grind (arith, nat_tests) in
    cond-true (is_time (decimal time)) _ _ (and_from _ _ (and_from _ _ low high) ((written time fits).right))
    ∙ ap Some ((written time fits).value)

pub ruleset time_laws = (back)

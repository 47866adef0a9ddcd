-- Times and values behind the header are read.
use Rattle.std.proofs.Common.{◌≡◌, ℕ, zero, suc, ◌+◌, ◌-◌, ◌/◌, ◌%◌, ◌^◌, ◌<◌, ◌≤◌, true, false, not, Some, Ok, List, [], ◌∷◌, ◌++◌, length, refl, sym, ◌∙◌, ap, subst, arith, length-append}
use Rattle.std.specs.Prelude.{decimal, nat_le}
use Rattle.std.specs.List.{list_all}
use Rattle.std.specs.Option.{option_map}
use Rattle.std.proofs.lemmas.Bool.{cond-true, cond-false, and_from}
use Rattle.std.proofs.lemmas.Bool.Decides.{nat_tests}
use Rattle.std.proofs.lemmas.List.Folds.{list_all-append}
use Rattle.vcd_words.specs.declared.level.Level.{Level}
use Rattle.vcd_words.specs.Words.{Placed}
use Rattle.vcd_words.specs.Levels.{is_level_digit, level_of, level_in, digit_of, digits_of}
use Rattle.vcd_words.proofs.DigitSteps.{digits_step, digits_none}
use Rattle.vcd_words.proofs.TimeLaws.{back}
use Rattle.vcd_reading.specs.declared.kinds.Kind.TheVariants.{Time, Scalar, Vector}
use Rattle.vcd_reading.specs.Pieces.{change_kind, kind_of}
use Rattle.vcd_reading.specs.Header.{Header}
use Rattle.vcd_reading.specs.Scopes.{Sought, is_declared, is_too_long}
use Rattle.vcd_reading.specs.Changes.{Past, changed, with_event, at_time, is_earlier}
use Rattle.vcd_reading.specs.Reading.{step_of, step_done}
use Rattle.vcd_waves.specs.Runs.{IsDeed}

-- a code takes a number of digits: it is declared, and no port of the code has fewer bits
pub record Takes (sought : Sought) (h : Header) (code : List ℕ) (digits : ℕ) : Type 0 where
  pub declared : is_declared h code ≡ true
  pub fits : is_too_long h sought code digits ≡ false

pub takes_value : (sought : Sought) (past : Past) (level : Level) (digits at : ℕ) (code : Placed)
    → Takes sought past.header code.word digits
    → changed sought past level digits at code ≡ Ok (with_event past code.word level)
takes_value sought past level digits at code takes = cond-false _ _ _ (ap not takes.declared)
    ∙ cond-false _ _ _ takes.fits

-- a digit and a code
pub scalar_deed : (sought : Sought) (end : ℕ) (past : Past) (digit : ℕ) (code : List ℕ) → past.header.ended ≡ true
    → change_kind digit code ≡ Some (Scalar (level_of (digit ∷ []))) → Takes sought past.header code 1
    → IsDeed sought end past (digit ∷ code) [] (with_event past code (level_of (digit ∷ [])))
scalar_deed sought end past digit code ended kind takes at behind =
    let first : Placed = record { at = at; word = digit ∷ code } in
    ap (λ h. step_of sought end past (kind_of (not h) (digit ∷ code)) first behind) ended
    ∙ ap (λ k. step_of sought end past k first behind) kind
    ∙ ap (λ done. step_done done behind)
    (takes_value sought past (level_of (digit ∷ [])) 1 at (record { at = at; word = code }) takes)

-- `b`, digits, and a code as a word of its own
pub vector_deed : (sought : Sought) (end : ℕ) (past : Past) (digits code : List ℕ) → past.header.ended ≡ true
    → level_in digits ≡ Some (level_of digits) → Takes sought past.header code (length digits)
    → IsDeed sought end past (98 ∷ digits) (code ∷ []) (with_event past code (level_of digits))
vector_deed sought end past digits code ended level takes at behind =
    let first : Placed = record { at = at; word = 98 ∷ digits } in
    let second : Placed = record { at = at + length (98 ∷ digits) + 1; word = code } in
    let count : length (98 ∷ digits) - 1 ≡ length digits = omega arith in
    ap (λ h. step_of sought end past (kind_of (not h) (98 ∷ digits)) first (second ∷ behind)) ended
    ∙ ap (λ l. step_of sought end past (option_map Vector l) first (second ∷ behind)) level
    ∙ ap (λ n. step_done (changed sought past (level_of digits) n at second) behind) count
    ∙ ap (λ done. step_done done behind) (takes_value sought past (level_of digits) (length digits) at second takes)

-- `#` and a time that is not before the last
pub time_deed : (sought : Sought) (end : ℕ) (past : Past) (time : ℕ) → past.header.ended ≡ true
    → time < 10 ^ 18 → is_earlier past.time time ≡ false
    → IsDeed sought end past (35 ∷ decimal time) [] (at_time past time)
time_deed sought end past time ended few later at behind =
    let first : Placed = record { at = at; word = 35 ∷ decimal time } in
    ap (λ h. step_of sought end past (kind_of (not h) (35 ∷ decimal time)) first behind) ended
    ∙ ap (λ t. step_of sought end past (option_map Time t) first behind) (back time few)
    ∙ ap (λ done. step_done done behind) (cond-false _ _ _ later)

-- the digits of a value are digits, as many as it is wide
digit_right : (bit known : ℕ) → bit < 2 → known < 2 → is_level_digit (digit_of bit known) ≡ true
digit_right zero zero _ _ = refl
digit_right zero (suc zero) _ _ = refl
digit_right (suc zero) zero _ _ = refl
digit_right (suc zero) (suc zero) _ _ = refl
digit_right (suc (suc bit)) known small _ = absurd (omega (arith, small))
digit_right zero (suc (suc known)) _ small = absurd (omega (arith, small))
digit_right (suc zero) (suc (suc known)) _ small = absurd (omega (arith, small))

pub digits_right : (width value mask : ℕ) → list_all is_level_digit (digits_of width value mask) ≡ true
digits_right zero value mask = ap (list_all is_level_digit) (digits_none value mask)
digits_right (suc width) value mask =
    ap (list_all is_level_digit) (digits_step width value mask)
    ∙ list_all-append is_level_digit (digits_of width (value / 2) (mask / 2)) (digit_of (value % 2) (mask % 2) ∷ [])
    ∙ and_from _ _ (digits_right width (value / 2) (mask / 2))
    (and_from _ _ (digit_right (value % 2) (mask % 2) (omega arith) (omega arith)) refl)

pub digits_count : (width value mask : ℕ) → length (digits_of width value mask) ≡ width
digits_count zero value mask = ap (λ (l : List ℕ). length l) (digits_none value mask)
digits_count (suc width) value mask =
    ap (λ (l : List ℕ). length l) (digits_step width value mask)
    ∙ length-append (digits_of width (value / 2) (mask / 2)) (digit_of (value % 2) (mask % 2) ∷ [])
    ∙ (ap (λ n. n + 1) (digits_count width (value / 2) (mask / 2)) ∙ omega arith)

pub digits_level : (width value mask : ℕ) → 1 ≤ width
    → level_in (digits_of width value mask) ≡ Some (level_of (digits_of width value mask))
digits_level width value mask some =
    let count : length (digits_of width value mask) ≡ width = digits_count width value mask in
    let long : nat_le 1 (length (digits_of width value mask)) ≡ true = grind (arith, nat_tests) in
    cond-true _ _ _ (and_from _ _ long (digits_right width value mask))

-- the kind of a value of one bit
pub digit_kind : (bit known : ℕ) (code : List ℕ) → bit < 2 → known < 2
    → change_kind (digit_of bit known) code ≡ Some (Scalar (level_of (digit_of bit known ∷ [])))
digit_kind zero zero code _ _ = refl
digit_kind zero (suc zero) code _ _ = refl
digit_kind (suc zero) zero code _ _ = refl
digit_kind (suc zero) (suc zero) code _ _ = refl
digit_kind (suc (suc bit)) known code small _ = absurd (omega (arith, small))
digit_kind zero (suc (suc known)) code _ small = absurd (omega (arith, small))
digit_kind (suc zero) (suc (suc known)) code _ small = absurd (omega (arith, small))

-- what a scalar or a vector shows: the level of a value's digits is that of its variable
pub one_digit : (value mask : ℕ) → digits_of 1 value mask ≡ digit_of (value % 2) (mask % 2) ∷ []
one_digit value mask = digits_step 0 value mask
    ∙ ap (λ l. l ++ digit_of (value % 2) (mask % 2) ∷ []) (digits_none (value / 2) (mask / 2))

-- a value of one bit
pub bit_deed : (sought : Sought) (end : ℕ) (past : Past) (value mask : ℕ) (code : List ℕ)
    → past.header.ended ≡ true → Takes sought past.header code 1
    → IsDeed sought end past (digits_of 1 value mask ++ code) []
    (with_event past code (level_of (digits_of 1 value mask)))
bit_deed sought end past value mask code ended takes =
    let digit : ℕ = digit_of (value % 2) (mask % 2) in
    let P : List ℕ → Type 0 = λ digits. IsDeed sought end past (digits ++ code) []
    (with_event past code (level_of digits)) in
    subst P (sym (one_digit value mask))
    (scalar_deed sought end past digit code ended
    (digit_kind (value % 2) (mask % 2) code (omega arith) (omega arith)) takes)

-- a wider one
pub word_deed : (sought : Sought) (end : ℕ) (past : Past) (width value mask : ℕ) (code : List ℕ)
    → past.header.ended ≡ true → 1 ≤ width
    → Takes sought past.header code width
    → IsDeed sought end past (98 ∷ digits_of width value mask) (code ∷ [])
    (with_event past code (level_of (digits_of width value mask)))
word_deed sought end past width value mask code ended some takes =
    let P : ℕ → Type 0 = Takes sought past.header code in
    vector_deed sought end past (digits_of width value mask) code ended (digits_level width value mask some)
    (subst P (sym (digits_count width value mask)) takes)

-- Digits at the front of bytes, one by one.
use Rattle.std.proofs.Common.{◌≡◌, ℕ, ◌+◌, ◌<◌, true, false, List, [], length, get_or, drop, sym, ◌∙◌, ap, arith}
use Rattle.std.proofs.lemmas.Bool.{cond-true, cond-false}
use Rattle.std.proofs.lemmas.List.{drop_more, drop_all}
use Rattle.loc_base.specs.Ascii.{is_decimal}
use Rattle.vcd_reading.specs.Reals.{drop_digits}

pub digit_passed : (bytes : List ℕ) (i : ℕ) → i < length bytes → is_decimal (get_or bytes i 0) ≡ true
    → drop_digits (drop (i + 1) bytes) ≡ drop_digits (drop i bytes)
digit_passed bytes i within digit = sym (ap drop_digits (drop_more bytes i 0 within) ∙ cond-true _ _ _ digit)

pub digits_end : (bytes : List ℕ) (i : ℕ) → i < length bytes → is_decimal (get_or bytes i 0) ≡ false
    → drop_digits (drop i bytes) ≡ drop i bytes
digits_end bytes i within other =
    ap drop_digits (drop_more bytes i 0 within) ∙ cond-false _ _ _ other ∙ sym (drop_more bytes i 0 within)

pub digits_all : (bytes : List ℕ) → drop_digits (drop (length bytes) bytes) ≡ []
digits_all bytes = ap drop_digits (drop_all (length bytes) bytes (omega arith))

pub ruleset digit_steps = (digit_passed, digits_end, digits_all)

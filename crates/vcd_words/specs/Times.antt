-- The times of a dump (IEEE 1364-2005, 18.2): decimal numbers, here of at most 18 digits.
use Rattle.std.specs.Prelude.{ℕ, ◌≡◌, ◌<◌, ◌+◌, ◌-◌, ◌*◌, ◌^◌, Bool, nat_le, ◌&&◌, if◌then◌else◌, List, length, fold, decimal, Option, None, Some}
use Rattle.std.specs.List.{list_all}
use Rattle.loc_base.specs.Ascii.{is_decimal}

-- the number that decimal digits mean
abbrev pub time_of : List ℕ → ℕ
time_of digits = fold (λ time byte. time * 10 + (byte - 48)) 0 digits

-- 1 to 18 decimal digits
abbrev pub is_time : List ℕ → Bool
is_time digits = nat_le 1 (length digits) && nat_le (length digits) 18 && list_all is_decimal digits

-- the time that a word says, where it is made of 1 to 18 decimal digits
abbrev pub time_in : List ℕ → Option ℕ
time_in digits = if is_time digits then Some (time_of digits) else None

-- a time that is written in decimal is read back
abbrev pub TimeBack : Type 0
TimeBack = (time : ℕ) → time < 10 ^ 18 → time_in (decimal time) ≡ Some time

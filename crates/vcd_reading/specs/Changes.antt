-- The times and value changes behind the header (IEEE 1364-2005, 18.2.1): what each does, or which word is wrong.
use Rattle.std.specs.Prelude.{ℕ, ◌-◌, Bool, true, false, not, nat_lt, if◌then◌else◌, List, [], ◌∷◌, ◌++◌, length, drop, Option, Some, None, Result, Ok, Err}
use Rattle.std.specs.Option.{option_to_list}
use Rattle.vcd_words.specs.declared.level.Level.{Level}
use Rattle.vcd_words.specs.Words.{Placed}
use Rattle.vcd_reading.specs.Header.{Header}
use Rattle.vcd_reading.specs.Scopes.{Sought, is_declared, is_of_port, is_too_long}
use Rattle.vcd_reading.specs.Events.{Event}

-- what stands before a word: what the header has declared, the last time, the times of the stamps that have ended, and
-- the changes
pub record Past : Type 0 where
  pub header : Header
  pub time : Option ℕ
  pub ended : List ℕ
  pub events : List Event

-- the times of all stamps
abbrev pub stamps_of : Past → List ℕ
stamps_of past = past.ended ++ option_to_list past.time

-- a time: one that is less than the last is wrong, and one that is greater ends a stamp and begins another
abbrev pub is_later : Option ℕ → ℕ → Bool
is_later None time = true
is_later (Some last) time = nat_lt last time

abbrev pub is_earlier : Option ℕ → ℕ → Bool
is_earlier None time = false
is_earlier (Some last) time = nat_lt time last

abbrev pub at_time : Past → ℕ → Past
at_time past time = if is_later past.time time then record past { time = Some time; ended = stamps_of past } else past

abbrev pub timed : Past → ℕ → ℕ → Result Past ℕ
timed past time at = if is_earlier past.time time then Err at else Ok (at_time past time)

abbrev pub with_event : Past → List ℕ → Level → Past
with_event past code level =
    record past { events = past.events ++ (record { time = past.time; code = code; level = level }) ∷ [] }

-- a value of some digits for a variable of bits: its code is declared, and no port of that code has fewer bits
abbrev pub changed : Sought → Past → Level → ℕ → ℕ → Placed → Result Past ℕ
changed sought past level digits at code =
    if not (is_declared past.header code.word) then Err code.at else
    (if is_too_long past.header sought code.word digits then Err at else Ok (with_event past code.word level))

-- a real or a text: its code is declared, and is no port's
abbrev pub passed_over : Sought → Past → ℕ → Placed → Result Past ℕ
passed_over sought past at code =
    if not (is_declared past.header code.word) then Err code.at else
    (if is_of_port past.header sought code.word then Err at else Ok past)

-- the code of a scalar change stands behind the digit in the same word
abbrev pub scalar : Sought → Past → Level → Placed → Result Past ℕ
scalar sought past level first = changed sought past level 1 first.at (record { at = first.at; word = drop 1 first.word })

-- the code of a vector, a real or a text is the next word
abbrev pub vector : Sought → Past → Level → Placed → List Placed → Result Past ℕ
vector sought past level first [] = Ok past
vector sought past level first (code ∷ words) = changed sought past level (length first.word - 1) first.at code

abbrev pub other_value : Sought → Past → Placed → List Placed → Result Past ℕ
other_value sought past first [] = Ok past
other_value sought past first (code ∷ words) = passed_over sought past first.at code

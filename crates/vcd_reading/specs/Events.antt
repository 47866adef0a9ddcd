-- Value changes and stamps (IEEE 1364-2005, 18.2.2): the level of a variable before and after a whole stamp. A stamp is
-- all changes from one time on to the next greater time.
use Rattle.std.specs.Prelude.{ℕ, Bool, true, ◌&&◌, ◌==◌, ◌%◌, nat_lt, nat_le, if◌then◌else◌, List, Option, Some, None, fold}
use Rattle.vcd_words.specs.declared.level.Level.{Level}
use Rattle.vcd_words.specs.Levels.{unknown_level}
use Rattle.vcd_reading.specs.Commands.{same_bytes}

-- a change of the variable of a code, and the time that stands last before it, if any
pub record Event : Type 0 where
  pub time : Option ℕ
  pub code : List ℕ
  pub level : Level

-- whether a change stands before the stamp at a time, or in it
abbrev pub is_before : ℕ → Option ℕ → Bool
is_before time None = true
is_before time (Some t) = nat_lt t time

abbrev pub is_up_to : ℕ → Option ℕ → Bool
is_up_to time None = true
is_up_to time (Some t) = nat_le t time

-- the level by one more change, where it is of the code and its time passes a test
abbrev pub level_by : (Option ℕ → Bool) → List ℕ → Level → Event → Level
level_by test code level event = if same_bytes event.code code && test event.time then event.level else level

-- the level by the last change of a code at a time that passes a test; before the first it is unknown
abbrev pub last_level : (Option ℕ → Bool) → List ℕ → List Event → Level
last_level test code events = fold (level_by test code) unknown_level events

-- the level before the stamp at a time, and after it
abbrev pub level_before : ℕ → List ℕ → List Event → Level
level_before time code events = last_level (is_before time) code events

abbrev pub level_after : ℕ → List ℕ → List Event → Level
level_after time code events = last_level (is_up_to time) code events

-- whether the lowest bit of a level is known to be 0, or to be 1
abbrev pub is_low : Level → Bool
is_low level = level.ones % 2 == 0 && level.unknowns % 2 == 0

abbrev pub is_high : Level → Bool
is_high level = level.ones % 2 == 1 && level.unknowns % 2 == 0

-- whether the variable of a code goes from 0 to 1 by the whole stamp at a time
abbrev pub rises : List ℕ → List Event → ℕ → Bool
rises code events time = is_low (level_before time code events) && is_high (level_after time code events)

-- The levels that are kept of a variable while its changes are read, and what they say of the changes so far.
use Rattle.std.specs.Prelude.{ℕ, ◌≡◌, ◌==◌, Bool, true, false, if◌then◌else◌, List, Option, Some, None, IsTrue}
use Rattle.std.specs.List.{list_all}
use Rattle.vcd_words.specs.declared.level.Level.{Level}
use Rattle.vcd_words.specs.Levels.{unknown_level}
use Rattle.vcd_traces.specs.declared.running.Running.{Running}
use Rattle.vcd_reading.specs.Events.{Event, last_level, level_before, is_up_to}

-- whether two times are one
abbrev pub same_time : Option ℕ → Option ℕ → Bool
same_time None None = true
same_time None (Some t) = false
same_time (Some t) None = false
same_time (Some t) (Some u) = t == u

abbrev pub first_running : Running
first_running = record { level = unknown_level; earlier = unknown_level; time = None }

abbrev pub changed_to : Running → Option ℕ → Level → Running
changed_to r time level = record {
  level = level;
  earlier = if same_time r.time time then r.earlier else r.level;
  time = if same_time r.time time then r.time else time;
}

abbrev pub before_of : Running → ℕ → Level
before_of r time = if same_time r.time (Some time) then r.earlier else r.level

-- any time
abbrev pub always : Option ℕ → Bool
always time = true

-- whether a time is not after the last one
abbrev pub is_past : Option ℕ → Option ℕ → Bool
is_past None None = true
is_past None (Some time) = false
is_past (Some last) time = is_up_to last time

-- no event is after the last time
abbrev pub are_past : Option ℕ → List Event → Bool
are_past last events = list_all (λ (event : Event). is_past last event.time) events

-- what is kept of the variable of a code after some events up to the last time
pub record Follows (code : List ℕ) (last : Option ℕ) (events : List Event) (r : Running) : Type 0 where
  pub level : r.level ≡ last_level always code events
  pub before : (time : ℕ) → last ≡ Some time → before_of r time ≡ level_before time code events
  pub late : IsTrue (is_past last r.time)

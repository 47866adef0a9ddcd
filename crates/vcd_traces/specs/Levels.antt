-- What is kept of all variables of ports while a dump's changes are read.
use Rattle.std.specs.Prelude.{ℕ, ◌≡◌, IsTrue, List, length, Option, Some, None, Result, Ok, Err, slice_get, slice_set}
use Rattle.vcd_words.specs.declared.level.Level.{Level}
use Rattle.vcd_reading.specs.declared.error.VcdErr.{VcdErr}
use Rattle.vcd_traces.specs.declared.running.Running.{Running}
use Rattle.vcd_traces.specs.declared.changes.Levels.{Levels}
use Rattle.vcd_reading.specs.Changes.{Past}
use Rattle.vcd_reading.specs.Events.{Event}
use Rattle.vcd_reading.specs.Outcomes.{IsAt}
use Rattle.vcd_traces.specs.Running.{Follows, are_past, changed_to}

-- what is kept of the variables, with that of one cell changed
abbrev pub put_change : List Running → ℕ → Option ℕ → Level → Option Running → List Running
put_change running cell time level None = running
put_change running cell time level (Some r) = slice_set running cell (changed_to r time level)

abbrev pub with_change : List Running → ℕ → Option ℕ → Level → List Running
with_change running cell time level = put_change running cell time level (slice_get running cell)

-- what is kept of the variable of each cell follows its changes
abbrev pub KeepsAll : List (List ℕ) → Option ℕ → List Event → List Running → Type 0
KeepsAll cells last events running =
    (k : ℕ) (code : List ℕ) (r : Running) → slice_get cells k ≡ Some code → slice_get running k ≡ Some r → Follows code last events r

-- the last time, and what is kept of each variable, are those of what stands before a place
pub record Keeps (cells : List (List ℕ)) (past : Past) (levels : Levels) : Type 0 where
  pub time : levels.time ≡ past.time
  pub count : length levels.running.items ≡ length cells
  pub events : IsTrue (are_past past.time past.events)
  pub each : KeepsAll cells past.time past.events levels.running.items

-- a call leaves what a deed leaves, or refuses the word that it refuses
abbrev pub Does : {R : Type 0} → Result Past ℕ → (Past → R → Type 0) → Result (Unit {0}) VcdErr → R → Type 0
Does (Ok next) keeps (Ok done) new = keeps next new
Does (Ok next) keeps (Err fault) new = IsAt (λ at. ⊥) fault
Does (Err at) keeps (Ok done) new = ⊥
Does (Err at) keeps (Err fault) new = IsAt (λ place. place ≡ at) fault

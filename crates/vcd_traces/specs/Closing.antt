-- What is kept of the cycles where a stamp ends.
use Rattle.std.specs.Prelude.{ℕ, if◌then◌else◌, is_some, List, Option, Some, None}
use Rattle.vcd_traces.specs.declared.changes.Levels.{Levels}
use Rattle.vcd_traces.specs.declared.moment.Moment.{Moment}
use Rattle.vcd_traces.specs.declared.running.Running.{Running}
use Rattle.vcd_traces.specs.declared.rows.Watched.{Watched}
use Rattle.vcd_traces.specs.Moment.{kept_is_cycle}
use Rattle.vcd_traces.specs.Rows.{Kept, kept_row, pushed}

-- the end of the stamp at a time
abbrev pub moment_of : Watched → List Running → ℕ → Moment
moment_of watched running time = record { running = record { ref_ptr = (0, 0); now = running }; clocked = is_some watched.clock; time = time }

abbrev pub closed_at : Watched → List Running → Option ℕ → Kept → Kept
closed_at watched running None kept = kept
closed_at watched running (Some time) kept =
    if kept_is_cycle (moment_of watched running time) watched.clock then pushed kept (kept_row (moment_of watched running time) watched) else kept

abbrev pub closed : Watched → Levels → Kept → Kept
closed watched levels kept = closed_at watched levels.running.items levels.time kept

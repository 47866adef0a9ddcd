-- What is read while the changes of a dump are read: the table of its codes, and the ports that are sampled.
use Rattle.std.specs.Prelude.{ℕ, ◌≡◌, ◌<◌, IsTrue, Bool, nat_lt, List, [], length, map, Option, Some, None, unwrap_or, slice_get}
use Rattle.std.specs.List.{list_all}
use Rattle.std.specs.Option.{option_map}
use Rattle.vcd_traces.specs.declared.moment as code
use Rattle.vcd_traces.specs.declared.rows.Watched.{Watched}
use Rattle.vcd_traces.specs.declared.reader.Reading.{Reading}
use Rattle.vcd_traces.specs.declared.reader.Plan.{Plan}
use Rattle.vcd_reading.specs.Header.{Header}
use Rattle.vcd_reading.specs.Scopes.{Sought}
use Rattle.vcd_reading.specs.Changes.{Past}
use Rattle.vcd_traces.specs.Samples.{Watch, Watches, moments}
use Rattle.vcd_traces.specs.Table.{IsTable, cell_codes}
use Rattle.vcd_traces.specs.Levels.{Keeps}
use Rattle.vcd_traces.specs.Rows.{rows_of}
use Rattle.vcd_traces.specs.Kept.{AreKept}

-- the code of a cell
abbrev pub cell_code : List (List ℕ) → ℕ → List ℕ
cell_code cells cell = unwrap_or (slice_get cells cell) []

abbrev pub watch_in : List (List ℕ) → code.Watch.Watch → Watch
watch_in cells watch = record { signal = watch.signal; width = watch.width; code = cell_code cells watch.cell; part = watch.part }

-- whether a port has a cell
abbrev pub has_cell : List (List ℕ) → code.Watch.Watch → Bool
has_cell cells watch = nat_lt watch.cell (length cells)

-- the ports that are sampled, by their cells
pub record IsWatched (w : Watches) (cells : List (List ℕ)) (watched : Watched) : Type 0 where
  pub clock : w.clock ≡ option_map (cell_code cells) watched.clock
  pub clock_cell : (cell : ℕ) → watched.clock ≡ Some cell → cell < length cells
  pub inputs : w.inputs ≡ map (watch_in cells) watched.inputs.items
  pub outputs : w.outputs ≡ map (watch_in cells) watched.outputs.items
  pub input_cells : IsTrue (list_all (has_cell cells) watched.inputs.items)
  pub output_cells : IsTrue (list_all (has_cell cells) watched.outputs.items)
  pub zero_inputs : w.zero_inputs ≡ watched.zero_inputs

-- what is planned for a header: its codes, and the ports that are sampled
pub record IsPlan (h : Header) (sought : Sought) (w : Watches) (plan : Plan) : Type 0 where
  pub table : IsTable h sought plan.table
  pub watched : IsWatched w (cell_codes plan.table) plan.watched

-- the stamps that have ended stand before the last time
abbrev pub have_ended : Option ℕ → List ℕ → Type 0
have_ended None ended = ended ≡ []
have_ended (Some last) ended = IsTrue (list_all (λ time. nat_lt time last) ended)

-- what is kept is that of what stands before a place
pub record Holds (w : Watches) (cells : List (List ℕ)) (past : Past) (reading : Reading) : Type 0 where
  pub levels : Keeps cells past reading.levels
  pub ended : have_ended past.time past.ended
  pub rows : AreKept w past.events (moments w.clock past.events past.ended) (rows_of reading.rows)

-- What comes of a text that reads to its end, by its cycles.
use Rattle.std.specs.Prelude.{ℕ, ◌≡◌, List, length, Option, Some, None, Result, Ok, Err}
use Rattle.std.specs.Option.{option_or}
use Rattle.design_core.specs.declared.trace.Trace.{Trace}
use Rattle.vcd_reading.specs.declared.error.VcdErr.{VcdErr}
use Rattle.vcd_reading.specs.Events.{Event}
use Rattle.vcd_traces.specs.Samples.{Watches, AreSamples, cycle_refusal, unknown_from}

-- why some cycles are no trace
abbrev pub refused : Watches → List Event → List ℕ → Option VcdErr
refused w events times = option_or (cycle_refusal (length times)) (unknown_from w events 0 times)

abbrev pub Finishes : Watches → List Event → List ℕ → Result Trace VcdErr → Type 0
Finishes w events times (Ok trace) = (refused w events times ≡ None) × AreSamples w events times trace
Finishes w events times (Err fault) = refused w events times ≡ Some fault

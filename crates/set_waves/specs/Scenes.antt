-- The wave of a set and a trace (IEEE 1364-2005, 18.2): the inputs have the trace's samples, the outputs what the run with the set's
-- values gives, every bit of it known, and the set's places the values that were chosen for them.
use Rattle.std.specs.Prelude.{ℕ, ◌+◌, ◌-◌, ◌*◌, ◌^◌, Bool, true, false, List, [], ◌∷◌, ◌++◌, Option, None, is_some, slice_get}
use Rattle.std.specs.Option.{option_map}
use Rattle.design_core.specs.declared.design.Design.{Design}
use Rattle.design_core.specs.declared.trace.Trace.{Trace}
use Rattle.design_core.specs.declared.values.Values.{Values}
use Rattle.design_core.specs.Explained.{cycles_before, row_of}
use Rattle.design_core.specs.Run.{samples_at}
use Rattle.design_core.specs.Valuation.{Valuation, number, width_at}
use Rattle.vcd_words.specs.Lines.{text_of}
use Rattle.vcd_waves.specs.declared.variable.Kind.{Kind}
use Rattle.vcd_waves.specs.declared.variable.Kind.TheVariants.{Clock, Input, Output, Freed}
use Rattle.vcd_waves.specs.declared.variable.Variable.{Variable}
use Rattle.vcd_waves.specs.Lines.{Line, Shown, change_lines, clock_shown, header_lines, known, time_line}
use Rattle.vcd_waves.specs.Variables.{listed, port_variables}
use Rattle.set_waves.specs.Waved.{Waved}

-- a trace of a number, from 0, with values that are chosen for places
pub record Scene : Type 0 where
  pub of : Waved
  pub values : Values
  pub number : ℕ
  pub trace : Trace

-- an output as a valuation gives it, every bit of it known
abbrev pub given : Design → Valuation → ℕ → Shown
given d V output =
    let width = width_at d.signals.items output in
    record { width = width; value = number width (V output); mask = 2 ^ width - 1 }

-- what the cycle of a number shows of the variable at a place in the list of its kind; the clock's changes stand apart
abbrev pub shown_at : Scene → ℕ → Valuation → Kind → ℕ → Option Shown
shown_at s t V Clock place = None
shown_at s t V Input place = option_map known (slice_get (samples_at s.of.design s.trace t) place)
shown_at s t V Output place = option_map (given s.of.design V) (slice_get s.of.design.outputs.items place)
shown_at s t V Freed place =
    option_map known (slice_get (row_of s.values.places.items s.values.rows.items (cycles_before s.of.traces s.number + t)) place)

-- a cycle without a clock is one stamp; with one it is two, and the clock rises in the second
abbrev pub moment_lines : Bool → List Variable → (Kind → ℕ → Option Shown) → ℕ → List Line
moment_lines false variables shown t = time_line t ∷ change_lines shown 0 variables
moment_lines true variables shown t =
    time_line (10 * t) ∷ (change_lines (clock_shown 0) 0 variables ++ change_lines shown 0 variables
    ++ time_line (10 * t + 5) ∷ change_lines (clock_shown 1) 0 variables)

-- the cycles of a run, counted on from one
abbrev pub run_lines : Scene → List Variable → ℕ → List Valuation → List Line
run_lines s variables t [] = []
run_lines s variables t (V ∷ run) =
    moment_lines (is_some s.of.clock) variables (shown_at s t V) t ++ run_lines s variables (t + 1) run

-- the wave: its header has the ports in port order, and in a scope of their own the places
abbrev pub scene_lines : Scene → List Valuation → List Line
scene_lines s run =
    let ports = port_variables s.of.design s.of.clock in
    let freed = listed s.of.design Freed 0 s.values.places.items in
    header_lines s.of.top s.of.design s.of.clock ports freed ++ run_lines s (ports ++ freed) 0 run

unfoldable pub wave_text : Scene → List Valuation → List ℕ
wave_text s run = text_of (scene_lines s run)

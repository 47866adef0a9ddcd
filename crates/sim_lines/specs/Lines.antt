-- What a simulation prints of traces, as data and then as text. Traces are counted from 1, cycles from 0.
use Rattle.std.specs.Prelude.{ℕ, ◌≡◌, ◌<◌, ◌+◌, ◌⊎◌, Bool, true, false, not, List, [], ◌∷◌, ◌++◌, map, slice_get, Option, Some, None, codes, decimal}
use Rattle.std.specs.List.{flat_map, list_any}
use Rattle.std.specs.Option.{option_map_or}
use Rattle.design_core.specs.declared.signal.Signal.{Signal}
use Rattle.design_core.specs.declared.design.Design.{Design}
use Rattle.design_core.specs.declared.trace.Trace.{Trace}
use Rattle.design_core.specs.Valuation.{Valuation, number, width_at}
use Rattle.design_core.specs.Run.{Choices, IsRun, Meets}
use Rattle.cycle_sim.specs.Misses.{MissesAt}
use Rattle.printed_text.specs.Numerals.{newline, value_text}

-- ---- lines
-- an output in a cycle: its name, its width and its value
pub record Shown : Type 0 where
  pub name : List ℕ
  pub width : ℕ
  pub value : ℕ

pub data Line : Type 0 where
  -- the outputs of a trace in a cycle
  values : (trace cycle : ℕ) → (outputs : List Shown) → Line
  -- a trace is right
  right : (trace : ℕ) → Line
  -- it is not: the first cycle in which an output is not right, with the first such output's name
  misses : (trace cycle : ℕ) → (name : List ℕ) → Line

-- ---- the lines of a design's traces
-- a signal in a valuation
abbrev pub name_at : List Signal → ℕ → List ℕ
name_at signals s = option_map_or (λ (signal : Signal). signal.path) (slice_get signals s) []

abbrev pub shown : List Signal → Valuation → ℕ → Shown
shown signals V s = record { name = name_at signals s; width = width_at signals s; value = number (width_at signals s) (V s) }

-- a cycle
abbrev pub cycle_line : Design → ℕ → ℕ → Valuation → Line
cycle_line d trace t V = values trace t (map (shown d.signals.items V) d.outputs.items)

-- the cycles of a run from one on
abbrev pub cycle_lines : Design → ℕ → ℕ → List Valuation → List Line
cycle_lines d trace t [] = []
cycle_lines d trace t (V ∷ run) = cycle_line d trace t V ∷ cycle_lines d trace (t + 1) run

-- the name of the output of a number
abbrev pub output_name : Design → ℕ → List ℕ
output_name d i = option_map_or (name_at d.signals.items) (slice_get d.outputs.items i) []

-- how a trace ends: with no miss, or with the first one's cycle and output
abbrev pub end_line : Design → ℕ → Option (ℕ × ℕ) → Line
end_line d trace None = right trace
end_line d trace (Some (t, i)) = misses trace t (output_name d i)

-- ---- what is simulated: the design as it is, no place of it freed
abbrev pub no_place : ℕ → Bool
no_place p = false

abbrev pub no_values : Choices
no_values t p = 0

-- the first miss of a trace, by the cycle, then the output
abbrev pub IsEnd : Design → Trace → Option (ℕ × ℕ) → Type 0
IsEnd d trace None = Meets d trace no_place no_values
IsEnd d trace (Some (t, i)) =
    MissesAt d trace no_place no_values t i
    × ((u j : ℕ) → MissesAt d trace no_place no_values u j → ¬ ((u < t) ⊎ ((u ≡ t) × (j < i))))

-- the lines of a trace of a number: those of the cycles of its run, then that of its end
pub record AreLinesOf (d : Design) (number : ℕ) (trace : Trace) (lines : List Line) : Type 0 where
  pub run : List Valuation
  pub is_run : IsRun d trace no_place no_values run
  pub end : Option (ℕ × ℕ)
  pub is_end : IsEnd d trace end
  pub are : lines ≡ cycle_lines d number 0 run ++ end_line d number end ∷ []

-- the lines of traces, which are counted from a number on
abbrev pub AreLines : Design → ℕ → List Trace → List Line → Type 0
AreLines d number [] lines = lines ≡ []
AreLines d number (trace ∷ traces) lines =
    (first : List Line) × (rest : List Line) × AreLinesOf d number trace first × AreLines d (number + 1) traces rest × (lines ≡ first ++ rest)

-- ---- whether all is right: no line says that a trace isn't
abbrev pub is_miss : Line → Bool
is_miss (misses trace cycle name) = true
is_miss _ = false

abbrev pub are_right : List Line → Bool
are_right lines = not (list_any is_miss lines)

-- ---- as text
-- ` NAME=HEX`
abbrev pub shown_text : Shown → List ℕ
shown_text output = codes " " ++ output.name ++ codes "=" ++ value_text output.width output.value

-- `T C NAME=HEX ..`, `trace T ok`, `trace T miss C NAME`
abbrev pub line_text : Line → List ℕ
line_text (values trace cycle outputs) = decimal trace ++ codes " " ++ decimal cycle ++ flat_map shown_text outputs ++ newline
line_text (right trace) = codes "trace " ++ decimal trace ++ codes " ok" ++ newline
line_text (misses trace cycle name) = codes "trace " ++ decimal trace ++ codes " miss " ++ decimal cycle ++ codes " " ++ name ++ newline

abbrev pub text_of : List Line → List ℕ
text_of lines = flat_map line_text lines

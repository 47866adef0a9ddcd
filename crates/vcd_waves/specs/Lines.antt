-- The lines of a wave's text, as words (IEEE 1364-2005, 18.2): the header, and for each cycle the changes.
use Rattle.std.specs.Prelude.{ℕ, zero, suc, ◌≡◌, ◌+◌, ◌-◌, ◌*◌, ◌^◌, Bool, true, false, ◌==◌, if◌then◌else◌, List, [], ◌∷◌, ◌++◌, length, Option, Some, None, is_some, slice_get, slice_range, decimal, codes}
use Rattle.std.specs.Option.{option_map}
use Rattle.loc_base.specs.declared.bits.Bits.{Bits}
use Rattle.loc_base.specs.Bits.{width_of, value_of}
use Rattle.design_core.specs.declared.design.Design.{Design}
use Rattle.design_core.specs.declared.trace.Checked.{Checked}
use Rattle.vcd_words.specs.Codes.{code_of}
use Rattle.vcd_words.specs.Levels.{digits_of}
use Rattle.vcd_waves.specs.declared.variable.Variable.{Variable}
use Rattle.vcd_waves.specs.declared.variable.Kind.{Kind}
use Rattle.vcd_waves.specs.declared.variable.Kind.TheVariants.{Clock, Input, Output, Freed}
use Rattle.vcd_waves.specs.declared.wave.Wave.{Wave}
use Rattle.vcd_waves.specs.Variables.{clock_of, port_variables, listed, name_of}

-- a line is a list of words
abbrev pub Line : Type 0
Line = List (List ℕ)

-- ---- the header

abbrev pub timescale_line : Line
timescale_line = codes "$timescale" ∷ codes "1ns" ∷ codes "$end" ∷ []

abbrev pub scope_line : List ℕ → Line
scope_line name = codes "$scope" ∷ codes "module" ∷ name ∷ codes "$end" ∷ []

abbrev pub upscope_line : Line
upscope_line = codes "$upscope" ∷ codes "$end" ∷ []

abbrev pub end_line : Line
end_line = codes "$enddefinitions" ∷ codes "$end" ∷ []

-- `$var wire WIDTH CODE NAME $end`, with the code of the variable's number
abbrev pub variable_line : ℕ → ℕ → List ℕ → Line
variable_line n width name = codes "$var" ∷ codes "wire" ∷ decimal width ∷ code_of n ∷ name ∷ codes "$end" ∷ []

-- a line for each variable, counted on from a number
abbrev pub variable_lines : Design → Option (List ℕ) → ℕ → List Variable → List Line
variable_lines d clock n [] = []
variable_lines d clock n (v ∷ rest) = variable_line n v.width (name_of d clock v) ∷ variable_lines d clock (n + 1) rest

-- the scope of the freed places, where there are any
abbrev pub freed_lines : Design → Option (List ℕ) → ℕ → List Variable → List Line
freed_lines d clock n [] = []
freed_lines d clock n (v ∷ rest) =
    scope_line (codes "freed") ∷ (variable_lines d clock n (v ∷ rest) ++ upscope_line ∷ [])

abbrev pub header_lines : List ℕ → Design → Option (List ℕ) → List Variable → List Variable → List Line
header_lines top d clock ports freed =
    timescale_line ∷ scope_line top
    ∷ (variable_lines d clock 0 ports ++ freed_lines d clock (length ports) freed ++ upscope_line ∷ end_line ∷ [])

-- ---- the values

-- what is shown of a variable: the bits of its value that are in a mask
pub record Shown : Type 0 where
  pub width : ℕ
  pub value : ℕ
  pub mask : ℕ

-- a value of which every bit is known
abbrev pub known : Bits → Shown
known bits = record { width = width_of bits; value = value_of bits; mask = 2 ^ 128 - 1 }

-- what is expected of an output: its checked bits
abbrev pub expected : Checked → Shown
expected checked = record { width = width_of checked.value; value = value_of checked.value; mask = value_of checked.mask }

-- the values of a cycle
pub record Row : Type 0 where
  pub samples : List Bits
  pub expected : List Checked
  pub chosen : List Bits

-- the entries of a cycle among those of all, a number of them in each
abbrev pub entries_at : {X : Type 0} → List X → ℕ → ℕ → List X
entries_at entries count t = slice_range entries (t * count) (t * count + count)

abbrev pub row_at : Wave → ℕ → Row
row_at w t = record {
  samples = entries_at w.trace.now.inputs.items (length w.design.now.inputs.items) t;
  expected = entries_at w.trace.now.expected.items (length w.design.now.outputs.items) t;
  chosen = entries_at w.chosen.now (length w.places.now) t;
}

-- what a cycle shows of the variable at a place in the list of its kind; the clock's changes stand apart
abbrev pub shown_in : Row → Kind → ℕ → Option Shown
shown_in row Clock place = None
shown_in row Input place = option_map known (slice_get row.samples place)
shown_in row Output place = option_map expected (slice_get row.expected place)
shown_in row Freed place = option_map known (slice_get row.chosen place)

-- a change of the clock, and of nothing else
abbrev pub clock_shown : ℕ → Kind → ℕ → Option Shown
clock_shown bit Clock place = Some (record { width = 1; value = bit; mask = 2 ^ 128 - 1 })
clock_shown bit Input place = None
clock_shown bit Output place = None
clock_shown bit Freed place = None

-- ---- the changes

-- a value of one bit is its digit with the code behind it; a wider one has all its digits, and the code in a word of its own
abbrev pub change_line : ℕ → Shown → Line
change_line n shown =
    if shown.width == 1 then (digits_of shown.width shown.value shown.mask ++ code_of n) ∷ []
    else (98 ∷ digits_of shown.width shown.value shown.mask) ∷ code_of n ∷ []

abbrev pub shown_lines : ℕ → Option Shown → List Line
shown_lines n None = []
shown_lines n (Some shown) = change_line n shown ∷ []

-- a change of each variable of which something is shown, counted on from a number
abbrev pub change_lines : (Kind → ℕ → Option Shown) → ℕ → List Variable → List Line
change_lines shown n [] = []
change_lines shown n (v ∷ rest) = shown_lines n (shown v.kind v.place) ++ change_lines shown (n + 1) rest

-- `#TIME`
abbrev pub time_line : ℕ → Line
time_line time = (35 ∷ decimal time) ∷ []

-- a cycle without a clock is one stamp; with one it is two, and the clock rises in the second
abbrev pub cycle_lines : Bool → List Variable → Row → ℕ → List Line
cycle_lines false variables row t = time_line t ∷ change_lines (shown_in row) 0 variables
cycle_lines true variables row t =
    time_line (10 * t) ∷ (change_lines (clock_shown 0) 0 variables ++ change_lines (shown_in row) 0 variables
    ++ time_line (10 * t + 5) ∷ change_lines (clock_shown 1) 0 variables)

-- the lines of the cycles before one
abbrev pub lines_before : Wave → List Variable → ℕ → List Line
lines_before w variables zero = []
lines_before w variables (suc t) = lines_before w variables t ++ cycle_lines (is_some w.clock) variables (row_at w t) t

-- ---- the whole

abbrev pub wave_lines : Wave → List Line
wave_lines w =
    let clock = clock_of w in
    let ports = port_variables w.design.now clock in
    let freed = listed w.design.now Freed 0 w.places.now in
    header_lines w.top.now w.design.now clock ports freed ++ lines_before w (ports ++ freed) w.trace.now.cycles

-- the trace and the chosen values have a row for each cycle
pub record HasRows (w : Wave) : Type 0 where
  pub samples : length w.trace.now.inputs.items ≡ w.trace.now.cycles * length w.design.now.inputs.items
  pub expected : length w.trace.now.expected.items ≡ w.trace.now.cycles * length w.design.now.outputs.items
  pub chosen : length w.chosen.now ≡ w.trace.now.cycles * length w.places.now

-- The trace that a dump holds of a design's ports (IEEE 1364-2005, clause 18): with a clock the values before each of
-- its rising edges, without one those after each stamp.
use Rattle.std.specs.Prelude.{ℕ, ◌≡◌, ◌+◌, ◌-◌, ◌/◌, ◌^◌, Bool, false, not, ◌==◌, nat_lt, if◌then◌else◌, List, [], ◌∷◌, length, map, fold, Option, Some, None, Ok, Err, bit_and}
use Rattle.std.specs.List.{filter, find, flat_map}
use Rattle.std.specs.Option.{option_or, option_map}
use Rattle.loc_base.specs.Bits.{width_of, value_of}
use Rattle.design_core.specs.declared.design.Design.{Design}
use Rattle.design_core.specs.declared.trace.Trace.{Trace}
use Rattle.design_core.specs.declared.trace.Checked.{Checked}
use Rattle.vcd_words.specs.declared.level.Level.{Level}
use Rattle.vcd_words.specs.Levels.{cut_level}
use Rattle.vcd_reading.specs.declared.error.VcdErr.{VcdErr}
use Rattle.vcd_reading.specs.declared.error.VcdErr.TheVariants.{Syntax, MissingPort, PortWidth, NoCycle, UnknownInput, Cycles}
use Rattle.vcd_reading.specs.Header.{Header}
use Rattle.vcd_reading.specs.declared.part.Part.{Part}
use Rattle.vcd_reading.specs.declared.part.Part.TheVariants.{Whole, Bit}
use Rattle.vcd_reading.specs.Scopes.{Port, Sought, ports_of, input_ports, output_ports, clock_port, scope_of, code_of, part_of, is_unfit}
use Rattle.vcd_reading.specs.Events.{Event, level_before, level_after, rises}
use Rattle.vcd_reading.specs.Changes.{Past, stamps_of}
use Rattle.vcd_reading.specs.Reading.{ReadsText}

-- a port that is sampled: the number of its signal, its width, the code of its variable, and which bits of that are its
pub record Watch : Type 0 where
  pub signal : ℕ
  pub width : ℕ
  pub code : List ℕ
  pub part : Part

-- what is sampled: the code of the clock, if there is one, the inputs and outputs, and whether unknown bits of inputs are read as 0
pub record Watches : Type 0 where
  pub clock : Option (List ℕ)
  pub inputs : List Watch
  pub outputs : List Watch
  pub zero_inputs : Bool

-- the stamps, of some, that are cycles: with a clock those at which it rises
abbrev pub moments : Option (List ℕ) → List Event → List ℕ → List ℕ
moments None events stamps = stamps
moments (Some code) events stamps = filter (rises code events) stamps

-- the level of a code that counts at a stamp: with a clock that before it
abbrev pub level_at : Option (List ℕ) → List ℕ → List Event → ℕ → Level
level_at None code events time = level_after time code events
level_at (Some clock) code events time = level_before time code events

-- the bits of a level that are a port's
abbrev pub part_level : Part → Level → Level
part_level Whole level = level
part_level (Bit number size) level = record { ones = level.ones / 2 ^ number; unknowns = level.unknowns / 2 ^ number }

-- the bits of a port at a cycle
abbrev pub sample : Option (List ℕ) → List Event → ℕ → Watch → Level
sample clock events time watch = cut_level watch.width (part_level watch.part (level_at clock watch.code events time))

-- whether a port has an unknown bit at a cycle
abbrev pub is_unknown : Option (List ℕ) → List Event → ℕ → Watch → Bool
is_unknown clock events time watch = not ((sample clock events time watch).unknowns == 0)

-- the bits of a width that are known
abbrev pub known_bits : ℕ → Level → ℕ
known_bits width level = 2 ^ width - 1 - level.unknowns

-- the inputs whose bits must be known: none where unknown ones are read as 0
abbrev pub needed : {X : Type 0} → Bool → List X → List X
needed zero inputs = if zero then [] else inputs

-- the refusal that names the first cycle with an unknown input, and there the first input, the cycles being counted from
-- a number on
abbrev pub unknown_in : ℕ → Option Watch → Option VcdErr
unknown_in cycle found = option_map (λ (watch : Watch). UnknownInput cycle watch.signal) found

abbrev pub unknown_from : Watches → List Event → ℕ → List ℕ → Option VcdErr
unknown_from w events cycle [] = None
unknown_from w events cycle (time ∷ times) =
    option_or (unknown_in cycle (find (is_unknown w.clock events time) (needed w.zero_inputs w.inputs))) (unknown_from w events (cycle + 1) times)

-- no cycle, or more than 100,000
abbrev pub cycle_refusal : ℕ → Option VcdErr
cycle_refusal cycles = if cycles == 0 then Some NoCycle else (if nat_lt 100000 cycles then Some Cycles else None)

-- the trace of what is sampled at some stamps, field by field: of an input the bits that are 1, of an output the known bits are
-- expected, and no others
pub record AreSamples (w : Watches) (events : List Event) (times : List ℕ) (trace : Trace) : Type 0 where
  pub cycles : trace.cycles ≡ length times
  pub inputs : map value_of trace.inputs.items ≡ flat_map (λ time. map (λ watch. (sample w.clock events time watch).ones) w.inputs) times
  pub input_widths : map width_of trace.inputs.items ≡ flat_map (λ time. map (λ (watch : Watch). watch.width) w.inputs) times
  pub masks : map (λ (checked : Checked). value_of checked.mask) trace.expected.items
      ≡ flat_map (λ time. map (λ watch. known_bits watch.width (sample w.clock events time watch)) w.outputs) times
  pub mask_widths : map (λ (checked : Checked). width_of checked.mask) trace.expected.items
      ≡ flat_map (λ time. map (λ (watch : Watch). watch.width) w.outputs) times
  pub values : map (λ (checked : Checked). value_of checked.value) trace.expected.items
      ≡ flat_map (λ time. map (λ watch. bit_and (sample w.clock events time watch).ones (known_bits watch.width (sample w.clock events time watch))) w.outputs) times
  pub value_widths : map (λ (checked : Checked). width_of checked.value) trace.expected.items
      ≡ flat_map (λ time. map (λ (watch : Watch). watch.width) w.outputs) times

-- how a dump is read: the name of the clock, if there is one, the path of the scope in which the ports are to stand, where one is
-- named, and whether unknown bits of inputs are read as 0
pub record Manner : Type 0 where
  pub clock : Option (List ℕ)
  pub scope : Option (List ℕ)
  pub zero_inputs : Bool

-- with a clock or without one, in whatever scope, each bit of an input known
abbrev pub by_clock : Option (List ℕ) → Manner
by_clock clock = record { clock = clock; scope = None; zero_inputs = false }

-- the ports of a design, and the scope in which they are to stand
abbrev pub sought_of : Design → Manner → Sought
sought_of d by = record { scope = by.scope; ports = ports_of d by.clock }

-- what is sampled of a design: each port where it stands in the scope of the ports
abbrev pub watch_of : Header → Sought → Port → Watch
watch_of h sought port = record { signal = port.signal; width = port.width; code = code_of h sought port; part = part_of h sought port }

abbrev pub watches_of : Design → Manner → Header → Watches
watches_of d by h = record {
  clock = option_map (λ name. code_of h (sought_of d by) (clock_port d name)) by.clock;
  inputs = map (watch_of h (sought_of d by)) (input_ports d);
  outputs = map (watch_of h (sought_of d by)) (output_ports d);
  zero_inputs = by.zero_inputs;
}

-- the cycles of a text that reads to its end
abbrev pub cycles_of : Design → Manner → Past → List ℕ
cycles_of d by past = moments (watches_of d by past.header).clock past.events (stamps_of past)

-- the least number of a port's signal that passes a test
abbrev pub lesser : ℕ → Option ℕ → ℕ
lesser number None = number
lesser number (Some other) = if nat_lt other number then other else number

abbrev pub with_lesser : (Port → Bool) → Option ℕ → Port → Option ℕ
with_lesser test least port = if test port then Some (lesser port.signal least) else least

abbrev pub least_port : (Port → Bool) → List Port → Option ℕ
least_port test ports = fold (with_lesser test) None ports

-- no scope declares every port, or none that has the path
abbrev pub scope_refusal : Option ℕ → Option VcdErr
scope_refusal None = Some MissingPort
scope_refusal (Some scope) = None

-- a port's variable is real or of another width
abbrev pub width_refusal : Header → Sought → Option VcdErr
width_refusal h sought = option_map (λ (port : ℕ). PortWidth port) (least_port (is_unfit h sought) sought.ports)

-- why a text that reads to its end holds no trace: the first of these that holds
abbrev pub refusal_of : Design → Manner → Past → Option VcdErr
refusal_of d by past =
    option_or (scope_refusal (scope_of past.header (sought_of d by)))
    (option_or (width_refusal past.header (sought_of d by))
    (option_or (cycle_refusal (length (cycles_of d by past)))
    (unknown_from (watches_of d by past.header) past.events 0 (cycles_of d by past))))

-- a text holds a trace
pub record HasSamples (text : List ℕ) (d : Design) (by : Manner) (trace : Trace) : Type 0 where
  pub past : Past
  pub reads : ReadsText (sought_of d by) text (Ok past)
  pub not_refused : refusal_of d by past ≡ None
  pub samples : AreSamples (watches_of d by past.header) past.events (cycles_of d by past) trace

-- a text is refused: at its first wrong word, else for what it holds as a whole
pub data IsRefused (text : List ℕ) (d : Design) (by : Manner) : VcdErr → Type 0 where
  at_word : {at : ℕ} → ReadsText (sought_of d by) text (Err at) → IsRefused text d by (Syntax at)
  as_whole : {past : Past} {fault : VcdErr} → ReadsText (sought_of d by) text (Ok past) → refusal_of d by past ≡ Some fault
      → IsRefused text d by fault

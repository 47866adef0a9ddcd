-- What is answered of a text: its trace, or why it holds none, and nothing else but want of memory.
use Rattle.std.specs.Prelude.{ℕ, ◌≡◌, ◌≢◌, List, map, Result, Ok, Err}
use Rattle.loc_base.specs.Bits.{width_of, value_of}
use Rattle.design_core.specs.declared.design.Design.{Design}
use Rattle.design_core.specs.declared.trace.Trace.{Trace}
use Rattle.design_core.specs.declared.trace.Checked.{Checked}
use Rattle.vcd_reading.specs.declared.error.VcdErr.{VcdErr}
use Rattle.vcd_reading.specs.declared.error.VcdErr.TheVariants.{NoMemory}
use Rattle.vcd_traces.specs.Samples.{Manner, HasSamples, IsRefused}

-- as many cycles, the same samples, and the same values expected in the same bits
pub record IsSameTrace (one other : Trace) : Type 0 where
  pub cycles : one.cycles ≡ other.cycles
  pub inputs : map value_of one.inputs.items ≡ map value_of other.inputs.items
  pub input_widths : map width_of one.inputs.items ≡ map width_of other.inputs.items
  pub masks : map (λ (c : Checked). value_of c.mask) one.expected.items ≡ map (λ (c : Checked). value_of c.mask) other.expected.items
  pub mask_widths : map (λ (c : Checked). width_of c.mask) one.expected.items ≡ map (λ (c : Checked). width_of c.mask) other.expected.items
  pub values : map (λ (c : Checked). value_of c.value) one.expected.items ≡ map (λ (c : Checked). value_of c.value) other.expected.items
  pub value_widths : map (λ (c : Checked). width_of c.value) one.expected.items ≡ map (λ (c : Checked). width_of c.value) other.expected.items

-- an answer is right
abbrev pub Answers : List ℕ → Design → Manner → Result Trace VcdErr → Type 0
Answers text d by (Ok trace) = HasSamples text d by trace
Answers text d by (Err fault) = fault ≢ NoMemory → IsRefused text d by fault

-- where there is a trace it is answered, but for want of memory
abbrev pub IsOnly : Trace → Result Trace VcdErr → Type 0
IsOnly trace (Ok found) = IsSameTrace found trace
IsOnly trace (Err fault) = fault ≡ NoMemory

-- and so is a refusal
abbrev pub IsOnlyFault : VcdErr → Result Trace VcdErr → Type 0
IsOnlyFault fault (Ok found) = ⊥
IsOnlyFault fault (Err other) = other ≢ NoMemory → other ≡ fault

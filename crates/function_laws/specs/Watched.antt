-- A design with further outputs, which no trace checks: the same sets work by functions.
use Rattle.std.specs.Prelude.{ℕ, ◌≡◌, ◌<◌, ◌≤◌, ◌++◌, ◌↔◌, false, List, length, slice_get, Some}
use Rattle.loc_base.specs.Bits.{bit_of}
use Rattle.design_core.specs.declared.design.Design.{Design}
use Rattle.design_core.specs.declared.trace.Checked.{Checked}
use Rattle.design_core.specs.declared.trace.Trace.{Trace}
use Rattle.design_core.specs.Run.{expected_at}
use Rattle.design_core.specs.Works.{Groups}
use Rattle.place_functions.specs.Functions.{WorksByFunctions}

-- the one design is the other with further outputs
pub record HasFurther (d further : Design) : Type 0 where
  pub signals : further.signals ≡ d.signals
  pub drivers : further.drivers ≡ d.drivers
  pub clocked : further.clocked ≡ d.clocked
  pub places : further.places ≡ d.places
  pub inputs : further.inputs ≡ d.inputs
  pub more : List ℕ
  pub outputs : further.outputs.items ≡ d.outputs.items ++ more

-- a trace of the one is a trace of the other in which the further outputs aren't checked
pub record IsUnchecked (d further : Design) (trace other : Trace) : Type 0 where
  pub cycles : other.cycles ≡ trace.cycles
  pub samples : other.inputs ≡ trace.inputs
  -- what is expected of each output is as it was
  pub same : (t i : ℕ) → t < trace.cycles → i < length d.outputs.items
      → slice_get (expected_at further other t) i ≡ slice_get (expected_at d trace t) i
  -- and of the further ones nothing
  pub free : (t i b : ℕ) (checked : Checked) → t < trace.cycles → length d.outputs.items ≤ i
      → slice_get (expected_at further other t) i ≡ Some checked → bit_of checked.mask b ≡ false

-- two designs, traces of each, suspects, and a set of them
pub record OfFurther : Type 0 where
  pub design : Design
  pub further : Design
  pub traces : List Trace
  pub others : List Trace
  pub groups : Groups
  pub set : List ℕ

-- the further outputs aren't checked
pub record AreUnchecked (of : OfFurther) : Type 0 where
  pub design : HasFurther of.design of.further
  pub as_many : length of.others ≡ length of.traces
  pub each : (j : ℕ) (trace other : Trace) → slice_get of.traces j ≡ Some trace → slice_get of.others j ≡ Some other
      → IsUnchecked of.design of.further trace other

-- so the set works by functions in the one exactly where it does in the other
abbrev pub WorkAlike : OfFurther → Type 0
WorkAlike of = WorksByFunctions of.further of.others of.groups of.set ↔ WorksByFunctions of.design of.traces of.groups of.set

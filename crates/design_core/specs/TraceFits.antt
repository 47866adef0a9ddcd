-- When a trace is one of a design: a sample for each input and an entry for each output in each cycle, of their
-- widths, and an expected value is 0 in the bits that are not checked.
use Rattle.std.specs.Prelude.{ℕ, ◌≡◌, ◌<◌, ◌*◌, ◌==◌, Bool, true, false, ◌&&◌, IsTrue, List, [], ◌∷◌, length, bit_and}
use Rattle.loc_base.specs.declared.bits.Bits.{Bits}
use Rattle.loc_base.specs.Bits.{width_of, value_of}
use Rattle.design_core.specs.declared.signal.Signal.{Signal}
use Rattle.design_core.specs.declared.design.Design.{Design}
use Rattle.design_core.specs.declared.trace.Checked.{Checked}
use Rattle.design_core.specs.declared.trace.Trace.{Trace}
use Rattle.design_core.specs.Valuation.{width_at}
use Rattle.design_core.specs.Run.{samples_at, expected_at}

-- one word for each of the signals, of its width
abbrev pub samples_fit : List Signal → List ℕ → List Bits → Bool
samples_fit signals [] [] = true
samples_fit signals [] (sample ∷ samples) = false
samples_fit signals (s ∷ rest) [] = false
samples_fit signals (s ∷ rest) (sample ∷ samples) = width_of sample == width_at signals s && samples_fit signals rest samples

-- one entry for each of the signals, of its width, and nothing expected of bits that are not checked
abbrev pub expected_fit : List Signal → List ℕ → List Checked → Bool
expected_fit signals [] [] = true
expected_fit signals [] (checked ∷ expected) = false
expected_fit signals (s ∷ rest) [] = false
expected_fit signals (s ∷ rest) (checked ∷ expected) =
    width_of checked.value == width_at signals s && width_of checked.mask == width_at signals s
    && bit_and (value_of checked.value) (value_of checked.mask) == value_of checked.value
    && expected_fit signals rest expected

pub record IsTraceOf (d : Design) (trace : Trace) : Type 0 where
  pub sample_count : length trace.inputs.items ≡ trace.cycles * length d.inputs.items
  pub expected_count : length trace.expected.items ≡ trace.cycles * length d.outputs.items
  pub samples : (t : ℕ) → t < trace.cycles → IsTrue (samples_fit d.signals.items d.inputs.items (samples_at d trace t))
  pub expected : (t : ℕ) → t < trace.cycles → IsTrue (expected_fit d.signals.items d.outputs.items (expected_at d trace t))

-- The values that registers have at the start (IEEE 1364-2005, 6.2.1 and 9.9.1): constants of declarations, then those of initial
-- blocks; of several the last counts.
use Rattle.std.specs.Prelude.{ℕ, ◌+◌, ◌==◌, if◌then◌else◌, List, [], ◌∷◌, map}
use Rattle.loc_base.specs.declared.bits.Bits.{Bits}
use Rattle.loc_base.specs.declared.span.Span.{Span}
use Rattle.design_core.specs.declared.signal.Signal.{Signal}
use Rattle.v_sizes.specs.declared.meaning.Const.{Const}
use Rattle.v_hierarchy.specs.Constants.{assigned}
use Rattle.v_binding.specs.Steps.{through}
use Rattle.v_binding.specs.Signals.{Numbered}

pub record Start : Type 0 where
  pub signal : ℕ
  pub value : Bits

-- one of an initial block, with the name that it assigns
pub record Initial : Type 0 where
  pub start : Start
  pub span : Span

abbrev pub initially : Span → Start → Initial
initially span start = record { start = start; span = span }

-- a constant that is assigned to so many bits
abbrev pub start : ℕ → ℕ → Const → Start
start signal width c = record { signal = signal; value = (assigned width c.signed c).bits }

abbrev pub with_start : Signal → Bits → Signal
with_start s value = record { path = s.path; width = s.width; signed = s.signed; left = s.left; right = s.right; kind = s.kind; start = value }

-- the signals behind the one of this number on, with a start value
abbrev pub started_from : ℕ → Start → List Signal → List Signal
started_from number x [] = []
started_from number x (s ∷ ss) = (if number == x.signal then with_start s x.value else s) ∷ started_from (number + 1) x ss

abbrev pub started : Start → List Signal → List Signal
started x signals = started_from 0 x signals

abbrev pub all_started : List Start → List Numbered → List Signal
all_started starts signals = through started starts (map (λ n. n.signal) signals)

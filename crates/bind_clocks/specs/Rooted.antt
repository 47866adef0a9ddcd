-- The roots of one signal, and whether a set of bits has one that carries an input of the top.
use Rattle.std.specs.Prelude.{ℕ, ◌==◌, Bool, ◌&&◌, List, Option}
use Rattle.v_binding.specs.Bound.{Root}
use Rattle.v_binding.specs.Clocks.{carries}
use Rattle.design_bits.specs.Masks.{has}

-- whether a root is of a signal and an input
abbrev pub has_root : ℕ → ℕ → Root → Bool
has_root s input r = r.signal == s && input == r.input

-- whether a root carries the clock, and a set has bit 0 of its signal
abbrev pub is_read_in : List ℕ → Option ℕ → Root → Bool
is_read_in set clock r = carries clock r && has set r.signal 0

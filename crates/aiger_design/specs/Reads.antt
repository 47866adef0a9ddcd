-- That the literals which rows read have signals.
use Rattle.std.specs.Prelude.{ℕ, ◌≡◌, ◌<◌, List, slice_get, Some, ◌⊎◌}
use Rattle.aiger_text.specs.declared.row.Row.{Row}
use Rattle.aiger_rules.specs.Literals.{definer, even}
use Rattle.aiger_design.specs.declared.numbering.Numbering.{Numbering}
use Rattle.aiger_design.specs.Numbering.{row_signal, signal_count}
use Rattle.aiger_design.specs.Values.{first_read, second_read}

-- a literal is a constant, or a row defines its variable, whose signal is one of the design's
abbrev pub HasSignal : List Row → Numbering → ℕ → Type 0
HasSignal rows n literal = (literal < 2) ⊎ ((row : ℕ) × (definer rows (even literal) ≡ Some row) × (row_signal n row < signal_count n))

-- each literal that a row reads is such a one
pub record HasSignals (rows : List Row) (n : Numbering) : Type 0 where
  pub first : (number : ℕ) (row : Row) → slice_get rows number ≡ Some row → HasSignal rows n (first_read row)
  pub second : (number : ℕ) (row : Row) → slice_get rows number ≡ Some row → HasSignal rows n (second_read row)

-- One driver a bit. Several drivers of a net would be resolved by their strengths (IEEE 1364-2005, 4.6.1), which values of
-- two states do not have, and several blocks that assign a variable would race (11.5).
use Rattle.std.specs.Prelude.{ℕ, ◌≤◌, if◌then◌else◌}
use Rattle.design_core.specs.declared.design.Design.{Design}
use Rattle.design_core.specs.WellFormed.{input_fits}
use Rattle.design_rules.specs.Entries.{driven_times}

-- a bit of the signal has two drivers; of an input of the top, one
pub record IsDrivenTwice (d : Design) (s : ℕ) : Type 0 where
  pub position : ℕ
  pub driven : (if input_fits d.signals.items s then 1 else 2) ≤ driven_times d s position

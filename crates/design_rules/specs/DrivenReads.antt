-- Each bit of a net that is used has a driver: without one its value would be unknown (IEEE 1364-2005, 4.2.1 and 4.6).
use Rattle.std.specs.Prelude.{ℕ, ◌≡◌, ◌||◌, IsTrue}
use Rattle.design_core.specs.declared.design.Design.{Design}
use Rattle.design_rules.specs.Entries.{driven_times, is_mentioned, is_output_bit, is_net}

-- a bit of the signal, which is a net, is read anywhere or is one of an output of the top, and has no driver
pub record IsUndriven (d : Design) (s : ℕ) : Type 0 where
  pub position : ℕ
  pub net : IsTrue (is_net d.signals.items s)
  pub used : IsTrue (is_mentioned d s position || is_output_bit d s position)
  pub none : driven_times d s position ≡ 0

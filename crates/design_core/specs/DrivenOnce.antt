-- When each bit gets its value once. Several drivers of a net would be resolved by their strengths (IEEE 1364-2005,
-- 4.6.1), which values of two states do not have, and several blocks that assign a register would race (11.5).
use Rattle.std.specs.Prelude.{ℕ, ◌≡◌, not, IsTrue, slice_get, Some, Contains}
use Rattle.design_core.specs.declared.driver.Driver.{Driver}
use Rattle.design_core.specs.declared.driver.Clocked.{Clocked}
use Rattle.design_core.specs.declared.design.Design.{Design}
use Rattle.design_core.specs.Drives.{driver_drives, block_drives, is_register_bit, is_listed}

-- each bit of the design is given its value once
pub record IsDrivenOnce (d : Design) : Type 0 where
  -- two drivers that drive one bit have the same number
  pub drivers : (i j : ℕ) (one other : Driver) (s b : ℕ) → slice_get d.drivers.items i ≡ Some one → slice_get d.drivers.items j ≡ Some other
      → IsTrue (driver_drives d.signals.items s b one) → IsTrue (driver_drives d.signals.items s b other) → i ≡ j
  -- no driver drives a bit of an input that traces give
  pub inputs : (driver : Driver) (s b : ℕ) → Contains d.drivers.items driver → IsTrue (driver_drives d.signals.items s b driver)
      → IsTrue (not (is_listed d s))
  -- two clocked blocks that drive one register bit have the same number
  pub blocks : (i j : ℕ) (one other : Clocked) (s b : ℕ) → slice_get d.clocked.items i ≡ Some one → slice_get d.clocked.items j ≡ Some other
      → IsTrue (is_register_bit d s b) → IsTrue (block_drives d.signals.items s b one) → IsTrue (block_drives d.signals.items s b other) → i ≡ j

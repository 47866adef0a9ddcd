-- Combinational blocks that hold a value: where a path through the block does not assign a bit that the block drives, the
-- bit keeps the value that it had (IEEE 1364.1-2002, 5.3).
use Rattle.std.specs.Prelude.{ℕ, ◌≡◌, Bool, false, not, ◌&&◌, IsTrue, List, slice_get, Some}
use Rattle.design_core.specs.declared.signal.Signal.{Signal}
use Rattle.design_core.specs.declared.driver.Driver.{Driver}
use Rattle.design_core.specs.declared.driver.Driver.TheVariants.{Cont, Comb}
use Rattle.design_core.specs.declared.design.Design.{Design}
use Rattle.design_core.specs.Drives.{statement_drives}
use Rattle.design_core.specs.Reads.{assigns_either_way}

-- whether a driver holds a bit
abbrev pub driver_holds : List Signal → ℕ → ℕ → Driver → Bool
driver_holds signals s b (Cont _ _ _ _) = false
driver_holds signals s b (Comb body _) = statement_drives signals s b body && not (assigns_either_way signals s b body)

-- the driver of that number holds a bit
pub record IsLatch (d : Design) (i : ℕ) : Type 0 where
  pub driver : Driver
  pub is_driver : slice_get d.drivers.items i ≡ Some driver
  pub signal : ℕ
  pub position : ℕ
  pub holds : IsTrue (driver_holds d.signals.items signal position driver)

-- A design of continuous assignments alone, each to one whole net, that holds no state.
use Rattle.std.specs.Prelude.{ℕ, ◌≡◌, Bool, false, not, IsTrue, [], slice_get, Some, is_some, Contains}
use Rattle.std.specs.List.{list_all}
use Rattle.design_core.specs.declared.driver.Driver.{Driver}
use Rattle.design_core.specs.declared.design.Design.{Design}
use Rattle.design_core.specs.Drives.{is_reg, driver_drives, is_driven}
use Rattle.plain_list.specs.Network.{target_of}

-- whether a driver is a continuous assignment to one whole net
abbrev pub is_whole : Driver → Bool
is_whole driver = is_some (target_of driver)

pub record IsOfAssignments (d : Design) : Type 0 where
  pub whole : IsTrue (list_all is_whole d.drivers.items)
  pub clocked : d.clocked.items ≡ []
  pub no_registers : IsTrue (list_all (λ signal. not (is_reg signal.kind)) d.signals.items)
  -- each bit has at most one driver
  pub one_driver : (i j : ℕ) (one other : Driver) (s b : ℕ) → slice_get d.drivers.items i ≡ Some one → slice_get d.drivers.items j ≡ Some other
      → IsTrue (driver_drives d.signals.items s b one) → IsTrue (driver_drives d.signals.items s b other) → i ≡ j
  -- and no input has one
  pub inputs : (s b : ℕ) → Contains d.inputs.items s → is_driven d s b ≡ false

-- Which bits a combinational block drives and does not assign on each path, as masks, for what is private to this crate.
use Rattle.std.specs.Prelude.{ℕ, ◌≡◌, ◌<◌, Bool, true, false, List, length}
use Rattle.design_core.specs.declared.signal.Signal.{Signal}
use Rattle.design_core.specs.declared.driver.Driver.{Driver}
use Rattle.design_core.specs.declared.driver.Driver.TheVariants.{Cont, Comb}
use Rattle.design_core.specs.Drives.{statement_drives}
use Rattle.design_bits.specs.Masks.{has}

-- whether a combinational block drives a bit
abbrev pub comb_drives : List Signal → ℕ → ℕ → Driver → Bool
comb_drives signals s b (Cont _ _ _ _) = false
comb_drives signals s b (Comb body _) = statement_drives signals s b body

-- a set has a bit that another lacks
pub record HasMore (own sure : List ℕ) : Type 0 where
  pub signal : ℕ
  pub position : ℕ
  pub within : signal < length own
  pub below : position < 128
  pub driven : has own signal position ≡ true
  pub missed : has sure signal position ≡ false

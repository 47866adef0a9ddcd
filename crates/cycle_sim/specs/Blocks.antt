-- What the clocked blocks leave, one after another, in the words of the values and of the states.
use Rattle.std.specs.Prelude.{ℕ, ◌≡◌, true, false, not, ◌&&◌, if◌then◌else◌, Contains}
use Rattle.std.specs.Option.{option_map_or}
use Rattle.design_core.specs.declared.driver.Clocked.{Clocked}
use Rattle.design_core.specs.declared.design.Design.{Design}
use Rattle.design_core.specs.Valuation.{Valuation}
use Rattle.design_core.specs.After.{Choice, after}
use Rattle.design_core.specs.Drives.{block_drives, is_driven, is_register_bit}
use Rattle.design_core.specs.Cycle.{left, left_from, is_active}
use Rattle.design_core.specs.Steps.{with_resets}
use Rattle.cycle_sim.specs.Masks.{is_own}

-- what a block's reset leaves for a bit, begun with the values V and the states S
abbrev pub reset_leaves : Design → Choice → Clocked → Valuation → Valuation → Valuation
reset_leaves d choice block V S s b =
    option_map_or (λ r. left block (after d.signals.items choice r.values (record { now = V; later = S })) s b) block.reset false

-- V and S become V' and S' by the reset of a block, where it is active
pub record WithReset (d : Design) (choice : Choice) (block : Clocked) (V S V' S' : Valuation) : Type 0 where
  pub values : (s b : ℕ) → V' s b ≡ (if is_active V block && is_own d block s b then reset_leaves d choice block V S s b else V s b)
  pub state : (s b : ℕ) → is_register_bit d s b ≡ true
      → S' s b ≡ (if is_active V block && block_drives d.signals.items s b block then V' s b else S s b)

-- S becomes S' by the body of a block, where its reset is not active
pub record WithBody (d : Design) (choice : Choice) (block : Clocked) (V S S' : Valuation) : Type 0 where
  pub state : (s b : ℕ) → is_register_bit d s b ≡ true
      → S' s b ≡ (if not (is_active V block) && block_drives d.signals.items s b block
      then left block (after d.signals.items choice block.body (record { now = V; later = S })) s b else S s b)

-- the values are those of E with all active resets, but for bits of drivers, and the states are the values of the registers
pub record AreReset (d : Design) (choice : Choice) (E V S : Valuation) : Type 0 where
  pub values : (s b : ℕ) → is_driven d s b ≡ false → V s b ≡ with_resets d choice E d.clocked.items E s b
  pub state : (s b : ℕ) → is_register_bit d s b ≡ true → S s b ≡ V s b

-- the states of the registers are what the blocks without an active reset leave for them, else their values
pub record AreRun (d : Design) (choice : Choice) (V S : Valuation) : Type 0 where
  pub clocked : (block : Clocked) (s b : ℕ) → Contains d.clocked.items block → is_active V block ≡ false → is_own d block s b ≡ true
      → S s b ≡ left_from d.signals.items choice block V block.body s b
  pub kept : (s b : ℕ) → is_register_bit d s b ≡ true
      → ((block : Clocked) → Contains d.clocked.items block → is_active V block ≡ false
      → ¬ (block_drives d.signals.items s b block ≡ true)) → S s b ≡ V s b

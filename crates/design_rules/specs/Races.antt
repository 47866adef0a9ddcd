-- Races between blocks: what a clocked block assigns by `=`, another may read before or after it, in either order (IEEE
-- 1364-2005, 11.4.1 and 11.5). An array is one signal here, as in the rule on assignments.
use Rattle.std.specs.Prelude.{ℕ, ◌≡◌, ◌+◌, Bool, ◌||◌, IsTrue, List, ◌++◌, take, drop, slice_get, Some}
use Rattle.std.specs.List.{list_any}
use Rattle.design_core.specs.declared.driver.Clocked.{Clocked}
use Rattle.design_core.specs.declared.design.Design.{Design}
use Rattle.design_core.specs.Mentions.{driver_mentions, block_mentions}
use Rattle.design_rules.specs.Entries.{is_output_bit}
use Rattle.design_rules.specs.Assignments.{home_of, by_equals, clocked_sets}

-- a list without its element at a place
abbrev pub others : {X : Type 0} → ℕ → List X → List X
others k xs = take k xs ++ drop (k + 1) xs

-- whether a bit is read outside the clocked block of that number, or is one of an output of the top
abbrev pub is_used_outside : Design → ℕ → ℕ → ℕ → Bool
is_used_outside d k s b =
    list_any (driver_mentions d.signals.items s b) d.drivers.items
    || list_any (block_mentions d.signals.items s b) (others k d.clocked.items) || is_output_bit d s b

-- a clocked block assigns the signal by `=`, and a bit of it, or of a word of it, is used outside that block
pub record IsRace (d : Design) (homes : List ℕ) (h : ℕ) : Type 0 where
  pub number : ℕ
  pub block : Clocked
  pub is_block : slice_get d.clocked.items number ≡ Some block
  pub assigned : IsTrue (clocked_sets (by_equals homes h) block)
  pub signal : ℕ
  pub position : ℕ
  pub at_home : home_of homes signal ≡ h
  pub used : IsTrue (is_used_outside d number signal position)

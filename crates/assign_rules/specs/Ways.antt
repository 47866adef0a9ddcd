-- In which ways signals are assigned, as sets of homes, for what is private to this crate.
use Rattle.std.specs.Prelude.{ℕ, ◌≡◌, ◌<◌, Bool, true, false, not, ◌&&◌, ◌||◌, if◌then◌else◌, List, length, All}
use Rattle.std.specs.List.{list_any}
use Rattle.design_core.specs.declared.statement.Part.{Part}
use Rattle.design_core.specs.declared.design.Design.{Design}
use Rattle.design_bits.specs.Masks.{has}
use Rattle.design_rules.specs.Assignments.{part_of, driver_sets, connects, blocks_set}
use Rattle.assign_rules.specs.declared.assigned.Ways.{Ways}

-- whether an assignment is one of the signal by `<=`, or by `=`
abbrev pub by_way : Bool → List ℕ → ℕ → List Part → Bool → Bool
by_way way homes h parts later = (if way then later else not later) && list_any (part_of homes h) parts

-- a set of homes: those whose first bit is in it
abbrev pub is_home : List ℕ → ℕ → Bool
is_home set h = has set h 0

-- a set of so many homes has those that pass a test
pub record Has (count : ℕ) (test : ℕ → Bool) (set : List ℕ) : Type 0 where
  pub long : length set ≡ count
  pub homes : (h : ℕ) → h < count → is_home set h ≡ test h

-- which signals are assigned by `=` and by `<=` in blocks, by `<=` in combinational blocks, and from outside of blocks
pub record AreWays (d : Design) (homes : List ℕ) (count : ℕ) (ways : Ways) : Type 0 where
  pub equals : Has count (λ h. blocks_set (by_way false homes h) d) ways.equals
  pub arrows : Has count (λ h. blocks_set (by_way true homes h) d) ways.arrows
  pub comb_arrows : Has count (λ h. list_any (driver_sets (by_way true homes h)) d.drivers.items) ways.comb_arrows
  pub connected : Has count (λ h. list_any (connects homes h) d.drivers.items) ways.connected

-- whether a signal breaks the rule on assignments, by these
abbrev pub is_mixed : Bool → Ways → ℕ → Bool
is_mixed variable ways h =
    (is_home ways.equals h && is_home ways.arrows h) || is_home ways.comb_arrows h
    || (if variable then is_home ways.connected h else (is_home ways.equals h || is_home ways.arrows h))

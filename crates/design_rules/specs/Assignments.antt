-- What a signal is assigned by. Continuous assignments, gates and connections drive nets, and blocks assign variables (IEEE
-- 1364-2005, 6.1, 7.2, 9.2 and 12.3.9), each by one kind of assignment; a combinational block assigns by `=` (IEEE
-- 1364.1-2002, 5.1 and 5.2). An array is one signal here: that of its first word.
use Rattle.std.specs.Prelude.{ℕ, ◌==◌, Bool, false, not, ◌&&◌, ◌||◌, List, slice_index}
use Rattle.std.specs.Option.{option_map_or}
use Rattle.std.specs.List.{list_any}
use Rattle.design_core.specs.declared.statement.Part.{Part}
use Rattle.design_core.specs.declared.statement.Part.TheVariants.{Whole, Slice, Pick, Word}
use Rattle.design_core.specs.declared.driver.Driver.{Driver}
use Rattle.design_core.specs.declared.driver.Driver.TheVariants.{Cont, Comb}
use Rattle.design_core.specs.declared.driver.Clocked.{Clocked}
use Rattle.design_core.specs.declared.design.Design.{Design}
use Rattle.design_core.specs.Drives.{some_set}
use Rattle.design_rules.specs.Entries.{is_variable}

-- the home of a signal, of which a list has one for each signal: the first word of its array, and itself where it is none
abbrev pub home_of : List ℕ → ℕ → ℕ
home_of homes s = slice_index homes s

-- whether a part of a left side names a signal of that home
abbrev pub part_of : List ℕ → ℕ → Part → Bool
part_of homes h (Whole signal) = home_of homes signal == h
part_of homes h (Slice signal _ _) = home_of homes signal == h
part_of homes h (Pick signal _ _) = home_of homes signal == h
part_of homes h (Word first _ _ _ _ _) = home_of homes first == h

-- whether a procedural assignment is one of the signal by `=`, by `<=`, or by either
abbrev pub by_equals : List ℕ → ℕ → List Part → Bool → Bool
by_equals homes h parts later = not later && list_any (part_of homes h) parts

abbrev pub by_arrow : List ℕ → ℕ → List Part → Bool → Bool
by_arrow homes h parts later = later && list_any (part_of homes h) parts

abbrev pub by_either : List ℕ → ℕ → List Part → Bool → Bool
by_either homes h parts later = list_any (part_of homes h) parts

-- whether some assignment of a combinational block passes a test
abbrev pub driver_sets : (List Part → Bool → Bool) → Driver → Bool
driver_sets test (Cont _ _ _ _) = false
driver_sets test (Comb body _) = some_set test body

-- whether some assignment of a clocked block does, in its body or its reset's values
abbrev pub clocked_sets : (List Part → Bool → Bool) → Clocked → Bool
clocked_sets test block = some_set test block.body || option_map_or (λ r. some_set test r.values) block.reset false

-- whether some assignment of any block does
abbrev pub blocks_set : (List Part → Bool → Bool) → Design → Bool
blocks_set test d = list_any (driver_sets test) d.drivers.items || list_any (clocked_sets test) d.clocked.items

-- whether a driver is a continuous assignment, a gate's output or a connection that drives the signal
abbrev pub connects : List ℕ → ℕ → Driver → Bool
connects homes h (Cont target _ _ _) = list_any (part_of homes h) target.parts
connects homes h (Comb _ _) = false

-- whether the signal is assigned in both ways; by `<=` in a combinational block; from outside of blocks though it is a
-- variable; or in a block though it is none
abbrev pub is_misassigned : Design → List ℕ → ℕ → Bool
is_misassigned d homes h =
    (blocks_set (by_equals homes h) d && blocks_set (by_arrow homes h) d)
    || list_any (driver_sets (by_arrow homes h)) d.drivers.items
    || (is_variable d.signals.items h && list_any (connects homes h) d.drivers.items)
    || (not (is_variable d.signals.items h) && blocks_set (by_either homes h) d)

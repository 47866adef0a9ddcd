-- Masks that are collected one after another.
use Rattle.std.specs.Prelude.{ℕ, ◌≡◌, Bool, not, ◌&&◌, ◌||◌, List}
use Rattle.std.specs.List.{list_any}
use Rattle.design_core.specs.declared.signal.Signal.{Signal}
use Rattle.design_core.specs.declared.statement.Part.{Part}
use Rattle.design_core.specs.declared.statement.Part.TheVariants.{Whole, Slice, Pick, Word}
use Rattle.design_core.specs.declared.statement.CaseItem.{CaseItem}
use Rattle.design_core.specs.Drives.{part_drives, some_set}
use Rattle.cycle_sim.specs.declared.mask.Mask.{Mask}
use Rattle.cycle_sim.specs.Masks.{covers, AreMasksOf, widths_of}

-- the masks have the bits of the old ones and those that pass a test, and no others
pub record Adds (signals : List Signal) (old new : List Mask) (test : ℕ → ℕ → Bool) : Type 0 where
  pub widths : AreMasksOf (widths_of signals) old → AreMasksOf (widths_of signals) new
  pub same : (s b : ℕ) → covers new s b ≡ (covers old s b || test s b)

-- the first of the signals that a part names, and how many they are
abbrev pub first_named : Part → ℕ
first_named (Whole signal) = signal
first_named (Slice signal _ _) = signal
first_named (Pick signal _ _) = signal
first_named (Word first _ _ _ _ _) = first

abbrev pub count_named : Part → ℕ
count_named (Whole _) = 1
count_named (Slice _ _ _) = 1
count_named (Pick _ _ _) = 1
count_named (Word _ count _ _ _ _) = count

-- whether an assignment drives a bit; where only `=` is asked for, one by `<=` does not
abbrev pub set_drives : List Signal → Bool → ℕ → ℕ → List Part → Bool → Bool
set_drives signals only_now s b parts later = not (only_now && later) && list_any (part_drives signals s b) parts

abbrev pub item_drives : List Signal → Bool → ℕ → ℕ → CaseItem → Bool
item_drives signals only_now s b item = some_set (set_drives signals only_now s b) item.body

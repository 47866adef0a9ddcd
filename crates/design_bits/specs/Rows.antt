-- What the items of a case do, for what is private to this crate.
use Rattle.std.specs.Prelude.{ℕ, Bool, ◌||◌, List}
use Rattle.std.specs.List.{list_any}
use Rattle.design_core.specs.declared.signal.Signal.{Signal}
use Rattle.design_core.specs.declared.statement.Part.{Part}
use Rattle.design_core.specs.declared.statement.Label.{Label}
use Rattle.design_core.specs.declared.statement.CaseItem.{CaseItem}
use Rattle.design_core.specs.Drives.{some_set, part_drives}
use Rattle.design_core.specs.Reads.{reads}
use Rattle.design_core.specs.Mentions.{statement_mentions}

-- whether some assignment of a case item passes a test
abbrev pub item_passes : (List Part → Bool → Bool) → CaseItem → Bool
item_passes test item = some_set test item.body

-- whether a case item assigns a bit
abbrev pub item_drives : List Signal → ℕ → ℕ → CaseItem → Bool
item_drives signals s b item = item_passes (λ parts later. list_any (part_drives signals s b) parts) item

-- whether a label reads a bit
abbrev pub label_reads : List Signal → ℕ → ℕ → Label → Bool
label_reads signals s b label = reads signals s b label.value

-- whether a case item reads a bit in some expression
abbrev pub item_mentions : List Signal → ℕ → ℕ → CaseItem → Bool
item_mentions signals s b item = list_any (label_reads signals s b) item.labels || statement_mentions signals s b item.body

-- Private, for the functions inside this crate: the statements of a block and the items of a case as lists.
use Rattle.std.specs.Prelude.{ℕ, Bool, nat_lt, List, [], ◌∷◌, Option, None}
use Rattle.std.specs.Option.{option_or}
use Rattle.design_core.specs.declared.signal.Signal.{Signal}
use Rattle.design_core.specs.declared.statement.Stmt.{Stmt}
use Rattle.design_core.specs.declared.statement.CaseItem.{CaseItem}
use Rattle.design_core.specs.After.{Choice, Updates, after}
use Rattle.design_core.specs.WellFormed.{times_in}
use Rattle.changes.specs.Execution.{Execution, executed_in}

-- how a place is executed in the first of some statements in order that executes it
abbrev pub executed_list : List Signal → Choice → ℕ → List Stmt → Updates → Option Execution
executed_list signals choice p [] m = None
executed_list signals choice p (statement ∷ rest) m =
    option_or (executed_in signals choice p statement m) (executed_list signals choice p rest (after signals choice statement m))

-- whether a place stands in a statement
abbrev pub stands_in : ℕ → Stmt → Bool
stands_in p statement = nat_lt 0 (times_in p statement)

-- in that of a case item
abbrev pub item_stands : ℕ → CaseItem → Bool
item_stands p item = stands_in p item.body

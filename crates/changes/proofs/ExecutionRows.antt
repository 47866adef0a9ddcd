-- How a place is executed in the statements of a block and in the items of a case, as lists.
use Rattle.std.proofs.Common.{◌≡◌, ℕ, List, ◌∷◌, ap, ◌∙◌, refl, cond, find}
use Rattle.std.specs.Prelude.{Bool, true, false, Option, Some, None, if◌then◌else◌}
use Rattle.std.specs.Option.{option_map_or, option_or}
use Rattle.std.specs.List.{list_any}
use Rattle.design_core.specs.declared.signal.Signal.{Signal}
use Rattle.design_core.specs.declared.expression.Typed.{Typed}
use Rattle.design_core.specs.declared.statement.CaseItem.{CaseItem}
use Rattle.design_core.specs.declared.statement.Stmt.{Stmt, Row_of-Stmt, end_of-Stmt, more_of-Stmt, items-the_row-Stmt, items_hidden-the_row-Stmt-0, Row_of-CaseItem, end_of-CaseItem, more_of-CaseItem, items-the_row-CaseItem, items_hidden-the_row-CaseItem-2}
use Rattle.design_core.specs.declared.statement.Stmt.TheVariants.{Block, If, Case}
use denote.Hole.Carrier.{hidden}
use Rattle.design_core.specs.declared.statement.Stmt.TheBlock.{shape-the_row-Stmt-1, hidden-the_row-Stmt-1, hidden-the_row-Stmt-0, hidden-the_row-CaseItem-2}
use Rattle.design_core.specs.Operator.{is_true}
use Rattle.design_core.specs.Value.{value}
use Rattle.design_core.specs.After.{Choice, Updates, matches, after}
use Rattle.plain_values.specs.Evaluate.{item_matches}
use Rattle.changes.specs.Execution.{Execution, executed_in, executed_all, executed_case}
use Rattle.changes.specs.Lists.{executed_list}

all-list : {shape : _} (signals : List Signal) (choice : Choice) (p : ℕ) (row : Row_of-Stmt shape) (m : Updates)
    → executed_all signals choice p row m ≡ executed_list signals choice p (items-the_row-Stmt shape row) m
all-list signals choice p end_of-Stmt m = refl
all-list signals choice p (more_of-Stmt statement rest) m =
    ap (option_or (executed_in signals choice p statement m)) (all-list signals choice p rest (after signals choice statement m))

pub block-executed : (signals : List Signal) (choice : Choice) (p : ℕ) (statements : List Stmt) (m : Updates)
    → executed_in signals choice p (Block statements) m ≡ executed_list signals choice p statements m
block-executed signals choice p statements m =
    all-list signals choice p (hidden-the_row-Stmt-0 statements) m
    ∙ ap (λ ss. executed_list signals choice p ss m) (items_hidden-the_row-Stmt-0 statements)

pub if-executed : (signals : List Signal) (choice : Choice) (p : ℕ) (test : Typed) (on_true on_false : Stmt) (m : Updates)
    → executed_in signals choice p (If test on_true on_false) m
    ≡ (if is_true (value signals m.now test) then executed_in signals choice p on_true m else executed_in signals choice p on_false m)
unfolding shape-the_row-Stmt-1 hidden-the_row-Stmt-1 hidden
if-executed signals choice p test on_true on_false m = refl

-- in an item where there is one
abbrev pub executed_item : List Signal → Choice → ℕ → Updates → Option Execution → Option CaseItem → Option Execution
executed_item signals choice p m other item = option_map_or (λ i. executed_in signals choice p i.body m) item other

items-list : {shape : _} (signals : List Signal) (choice : Choice) (p subject : ℕ) (row : Row_of-CaseItem shape) (m : Updates)
    (other : Option Execution)
    → executed_case signals choice p subject row m other
    ≡ executed_item signals choice p m other (find (item_matches signals m.now subject) (items-the_row-CaseItem shape row))
items-list signals choice p subject end_of-CaseItem m other = refl
items-list signals choice p subject (more_of-CaseItem labels body rest) m other =
    first (list_any (matches signals m.now subject) labels) (items-list signals choice p subject rest m other)
  where
    first : (b : Bool)
        → executed_case signals choice p subject rest m other
        ≡ executed_item signals choice p m other (find (item_matches signals m.now subject) (items-the_row-CaseItem _ rest))
        → (if b then executed_in signals choice p body m else executed_case signals choice p subject rest m other)
        ≡ executed_item signals choice p m other
        (cond b (Some (record { labels = labels; body = body }))
        (find (item_matches signals m.now subject) (items-the_row-CaseItem _ rest)))
    first true e = refl
    first false e = e

pub case-executed : (signals : List Signal) (choice : Choice) (p : ℕ) (subject : Typed) (items : List CaseItem) (other : Stmt)
    (wild : Bool) (m : Updates)
    → executed_in signals choice p (Case subject items other wild) m
    ≡ executed_item signals choice p m (executed_in signals choice p other m)
    (find (item_matches signals m.now (value signals m.now subject)) items)
unfolding shape-the_row-Stmt-1 hidden-the_row-Stmt-1 hidden
case-executed signals choice p subject items other wild m =
    items-list signals choice p (value signals m.now subject) (hidden-the_row-CaseItem-2 items) m (executed_in signals choice p other m)
    ∙ ap (λ is. executed_item signals choice p m (executed_in signals choice p other m)
    (find (item_matches signals m.now (value signals m.now subject)) is))
    (items_hidden-the_row-CaseItem-2 items)

-- What the right sides in a block or a case read, over lists.
use Rattle.std.proofs.Common.{◌≡◌, ℕ, List, ap, ◌∙◌, refl}
use Rattle.std.specs.Prelude.{Bool, ◌||◌}
use Rattle.std.specs.List.{list_any}
use Rattle.design_core.specs.declared.expression.Typed.{Typed}
use Rattle.design_core.specs.declared.statement.CaseItem.{CaseItem}
use Rattle.design_core.specs.declared.statement.Stmt.{Stmt, Row_of-Stmt, end_of-Stmt, more_of-Stmt, items-the_row-Stmt, items_hidden-the_row-Stmt-0, Row_of-CaseItem, end_of-CaseItem, more_of-CaseItem, items-the_row-CaseItem, items_hidden-the_row-CaseItem-2}
use Rattle.design_core.specs.declared.statement.Stmt.TheVariants.{Block, If, Case}
use denote.Hole.Carrier.{hidden}
use Rattle.design_core.specs.declared.statement.Stmt.TheBlock.{shape-the_row-Stmt-1, hidden-the_row-Stmt-1, hidden-the_row-Stmt-0, hidden-the_row-CaseItem-2}
use Rattle.place_functions.specs.Operands.{some_value, some_value_of, some_value_in}

values-list : {shape : _} (test : ℕ → Typed → Bool) (row : Row_of-Stmt shape) → some_value_of test row ≡ list_any (some_value test) (items-the_row-Stmt shape row)
values-list test end_of-Stmt = refl
values-list test (more_of-Stmt statement rest) = ap (λ x. some_value test statement || x) (values-list test rest)

items-list : {shape : _} (test : ℕ → Typed → Bool) (row : Row_of-CaseItem shape)
    → some_value_in test row ≡ list_any (λ item. some_value test item.body) (items-the_row-CaseItem shape row)
items-list test end_of-CaseItem = refl
items-list test (more_of-CaseItem labels body rest) = ap (λ x. some_value test body || x) (items-list test rest)

pub block-values : (test : ℕ → Typed → Bool) (statements : List Stmt) → some_value test (Block statements) ≡ list_any (some_value test) statements
block-values test statements =
    values-list test (hidden-the_row-Stmt-0 statements) ∙ ap (list_any (some_value test)) (items_hidden-the_row-Stmt-0 statements)

pub if-values : (test : ℕ → Typed → Bool) (cond : Typed) (on_true on_false : Stmt)
    → some_value test (If cond on_true on_false) ≡ (some_value test on_true || some_value test on_false)
unfolding shape-the_row-Stmt-1 hidden-the_row-Stmt-1 hidden
if-values test cond on_true on_false = refl

pub case-values : (test : ℕ → Typed → Bool) (subject : Typed) (items : List CaseItem) (other : Stmt) (wild : Bool)
    → some_value test (Case subject items other wild) ≡ (list_any (λ item. some_value test item.body) items || some_value test other)
unfolding shape-the_row-Stmt-1 hidden-the_row-Stmt-1 hidden
case-values test subject items other wild =
    ap (λ x. x || some_value test other)
    (items-list test (hidden-the_row-CaseItem-2 items) ∙ ap (list_any (λ item. some_value test item.body)) (items_hidden-the_row-CaseItem-2 items))

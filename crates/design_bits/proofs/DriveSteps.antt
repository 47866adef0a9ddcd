-- Whether some assignment of a block or a case passes, over lists.
use Rattle.std.proofs.Common.{◌≡◌, List, ap, ◌∙◌, refl}
use Rattle.std.specs.Prelude.{Bool, ◌||◌}
use Rattle.std.specs.List.{list_any}
use Rattle.design_core.specs.declared.expression.Typed.{Typed}
use Rattle.design_core.specs.declared.statement.Part.{Part}
use Rattle.design_core.specs.declared.statement.CaseItem.{CaseItem}
use Rattle.design_core.specs.declared.statement.Stmt.{Stmt, Row_of-Stmt, end_of-Stmt, more_of-Stmt, items-the_row-Stmt, items_hidden-the_row-Stmt-0, Row_of-CaseItem, end_of-CaseItem, more_of-CaseItem, items-the_row-CaseItem, items_hidden-the_row-CaseItem-2}
use Rattle.design_core.specs.declared.statement.Stmt.TheVariants.{Block, Case}
use denote.Hole.Carrier.{hidden}
use Rattle.design_core.specs.declared.statement.Stmt.TheBlock.{shape-the_row-Stmt-1, hidden-the_row-Stmt-1, hidden-the_row-Stmt-0, hidden-the_row-CaseItem-2}
use Rattle.design_core.specs.Drives.{some_set, some_set_of, some_set_in}
use Rattle.design_bits.specs.Rows.{item_passes}

set_of-list : {shape : _} (test : List Part → Bool → Bool) (row : Row_of-Stmt shape) → some_set_of test row ≡ list_any (some_set test) (items-the_row-Stmt shape row)
set_of-list test end_of-Stmt = refl
set_of-list test (more_of-Stmt statement rest) = ap (λ b. some_set test statement || b) (set_of-list test rest)

set_in-list : {shape : _} (test : List Part → Bool → Bool) (row : Row_of-CaseItem shape)
    → some_set_in test row ≡ list_any (item_passes test) (items-the_row-CaseItem shape row)
set_in-list test end_of-CaseItem = refl
set_in-list test (more_of-CaseItem labels body rest) = ap (λ b. some_set test body || b) (set_in-list test rest)

pub block-sets : (test : List Part → Bool → Bool) (statements : List Stmt) → some_set test (Block statements) ≡ list_any (some_set test) statements
block-sets test statements = set_of-list test (hidden-the_row-Stmt-0 statements) ∙ ap (list_any (some_set test)) (items_hidden-the_row-Stmt-0 statements)

pub case-sets : (test : List Part → Bool → Bool) (subject : Typed) (items : List CaseItem) (other : Stmt) (wild : Bool)
    → some_set test (Case subject items other wild) ≡ (list_any (item_passes test) items || some_set test other)
unfolding shape-the_row-Stmt-1 hidden-the_row-Stmt-1 hidden
case-sets test subject items other wild =
    ap (λ b. b || some_set test other)
    (set_in-list test (hidden-the_row-CaseItem-2 items) ∙ ap (list_any (item_passes test)) (items_hidden-the_row-CaseItem-2 items))

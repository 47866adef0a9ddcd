-- Whether a place stands in a block, a condition or a case, over lists.
use Rattle.std.proofs.Common.{◌≡◌, ℕ, zero, suc, ◌+◌, List, ap, sym, ◌∙◌, refl, arith}
use Rattle.std.specs.Prelude.{Bool, true, false, ◌||◌, ◌==◌, nat_lt, if◌then◌else◌}
use Rattle.std.specs.List.{list_any}
use Rattle.std.proofs.lemmas.Bool.{lt-ltb}
use Rattle.design_core.specs.declared.expression.Typed.{Typed}
use Rattle.design_core.specs.declared.statement.CaseItem.{CaseItem}
use Rattle.design_core.specs.declared.statement.Target.{Target}
use Rattle.design_core.specs.declared.statement.Stmt.{Stmt, Row_of-Stmt, end_of-Stmt, more_of-Stmt, items-the_row-Stmt, items_hidden-the_row-Stmt-0, Row_of-CaseItem, end_of-CaseItem, more_of-CaseItem, items-the_row-CaseItem, items_hidden-the_row-CaseItem-2}
use Rattle.design_core.specs.declared.statement.Stmt.TheVariants.{Block, If, Case, Set}
use denote.Hole.Carrier.{hidden}
use Rattle.design_core.specs.declared.statement.Stmt.TheBlock.{shape-the_row-Stmt-1, hidden-the_row-Stmt-1, hidden-the_row-Stmt-0, hidden-the_row-CaseItem-2}
use Rattle.design_core.specs.WellFormed.{times_in, times_in_all, times_in_items}
use Rattle.changes.specs.Lists.{item_stands, stands_in}

-- a sum is above 0 where one of two numbers is
either_stands : (a b : ℕ) → nat_lt 0 (a + b) ≡ (nat_lt 0 a || nat_lt 0 b)
either_stands zero b = let same : 0 + b ≡ b = omega arith in ap (nat_lt 0) same
either_stands (suc a) b = lt-ltb 0 (suc a + b) (omega arith) ∙ sym (ap (λ t. t || nat_lt 0 b) (lt-ltb 0 (suc a) (omega arith)))

all-list : {shape : _} (p : ℕ) (row : Row_of-Stmt shape) → nat_lt 0 (times_in_all p row) ≡ list_any (stands_in p)
    (items-the_row-Stmt shape row)
all-list p end_of-Stmt = refl
all-list p (more_of-Stmt statement rest) =
    either_stands (times_in p statement) (times_in_all p rest) ∙ ap (λ b. stands_in p statement || b) (all-list p rest)

items-list : {shape : _} (p : ℕ) (row : Row_of-CaseItem shape)
    → nat_lt 0 (times_in_items p row) ≡ list_any (item_stands p) (items-the_row-CaseItem shape row)
items-list p end_of-CaseItem = refl
items-list p (more_of-CaseItem labels body rest) =
    either_stands (times_in p body) (times_in_items p rest) ∙ ap (λ b. stands_in p body || b) (items-list p rest)

pub block-stands : (p : ℕ) (statements : List Stmt) → stands_in p (Block statements) ≡ list_any (stands_in p) statements
block-stands p statements = all-list p (hidden-the_row-Stmt-0 statements) ∙ ap (list_any (stands_in p))
    (items_hidden-the_row-Stmt-0 statements)

pub if-stands : (p : ℕ) (test : Typed) (on_true on_false : Stmt)
    → stands_in p (If test on_true on_false) ≡ (stands_in p on_true || stands_in p on_false)
unfolding shape-the_row-Stmt-1 hidden-the_row-Stmt-1 hidden
if-stands p test on_true on_false = either_stands (times_in p on_true) (times_in p on_false)

pub case-stands : (p : ℕ) (subject : Typed) (items : List CaseItem) (other : Stmt) (wild : Bool)
    → stands_in p (Case subject items other wild) ≡ (list_any (item_stands p) items || stands_in p other)
unfolding shape-the_row-Stmt-1 hidden-the_row-Stmt-1 hidden
case-stands p subject items other wild =
    either_stands (times_in_items p (hidden-the_row-CaseItem-2 items)) (times_in p other)
    ∙ ap (λ b. b || stands_in p other)
    (items-list p (hidden-the_row-CaseItem-2 items) ∙ ap (list_any (item_stands p)) (items_hidden-the_row-CaseItem-2 items))

one_if : (t : Bool) → nat_lt 0 (if t then 1 else 0) ≡ t
one_if true = refl
one_if false = refl

pub set-stands : (p place : ℕ) (target : Target) (computed : Typed) (later : Bool)
    → stands_in p (Set place target computed later) ≡ (place == p)
set-stands p place target computed later = one_if (place == p)

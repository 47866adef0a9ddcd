-- Whether the parts of a design fit, over lists.
use Rattle.std.proofs.Common.{◌≡◌, ℕ, ◌+◌, ◌<◌, ◌≤◌, List, ap, arith, ◌∙◌, sym, refl}
use Rattle.std.specs.Prelude.{Bool, true, false, ◌&&◌, ◌==◌, Some, None}
use Rattle.std.specs.List.{list_all}
use Rattle.std.proofs.lemmas.Bool.Decides.{nat_tests}
use Rattle.std.proofs.lemmas.Bool.{le-leb, lt-leb}
use Rattle.design_core.specs.declared.signal.Signal.{Signal}
use Rattle.design_core.specs.declared.place.Place.{Place}
use Rattle.design_core.specs.declared.expression.Typed.{Typed}
use Rattle.design_core.specs.declared.statement.CaseItem.{CaseItem}
use Rattle.design_core.specs.declared.statement.Stmt.{Stmt, Row_of-Stmt, end_of-Stmt, more_of-Stmt, items-the_row-Stmt, items_hidden-the_row-Stmt-0, items_hidden-the_row-CaseItem-2}
use Rattle.design_core.specs.declared.statement.Stmt.TheVariants.{Block, Case}
use denote.Hole.Carrier.{hidden}
use Rattle.design_core.specs.declared.statement.Stmt.TheBlock.{shape-the_row-Stmt-1, hidden-the_row-Stmt-1, hidden-the_row-Stmt-0, hidden-the_row-CaseItem-2}
use Rattle.design_core.specs.WellFormed.{typed_fits, statement_fits, is_reset_values, are_reset_values}
use Rattle.plain_values.specs.Evaluate.{item_fits}
use Rattle.design_fits.specs.Fits.{small_width}
use Rattle.plain_values.proofs.EvaluateStatement.{items-fits}

pub case-test : (signals : List Signal) (places : List Place) (subject : Typed) (items : List CaseItem) (other : Stmt) (wild : Bool)
    → statement_fits signals places (Case subject items other wild)
    ≡ (typed_fits signals subject && list_all (item_fits signals places subject.width) items && statement_fits signals places other)
unfolding shape-the_row-Stmt-1 hidden-the_row-Stmt-1 hidden
case-test signals places subject items other wild =
    let row = hidden-the_row-CaseItem-2 items in
    ap (λ b. typed_fits signals subject && b && statement_fits signals places other)
    (items-fits signals places subject.width row ∙ ap (list_all (item_fits signals places subject.width)) (items_hidden-the_row-CaseItem-2 items))

-- a case whose subject does not fit, one whose items do not, and one that is left to its last statement
pub case-first : (signals : List Signal) (places : List Place) (subject : Typed) (items : List CaseItem) (other : Stmt) (wild : Bool)
    → typed_fits signals subject ≡ false → false ≡ statement_fits signals places (Case subject items other wild)
case-first signals places subject items other wild none =
    sym (case-test signals places subject items other wild
    ∙ ap (λ b. b && list_all (item_fits signals places subject.width) items && statement_fits signals places other) none)

pub case-bad : (signals : List Signal) (places : List Place) (subject : Typed) (items : List CaseItem) (other : Stmt) (wild : Bool)
    → list_all (item_fits signals places subject.width) items ≡ false → false ≡ statement_fits signals places (Case subject items other wild)
case-bad signals places subject items other wild none =
    sym (case-test signals places subject items other wild
    ∙ middle (typed_fits signals subject) (list_all (item_fits signals places subject.width) items) (statement_fits signals places other) none)
  where
    middle : (x y z : Bool) → y ≡ false → (x && y && z) ≡ false
    middle true true z e = cc
    middle true false z e = refl
    middle false y z e = refl

pub case-last : (signals : List Signal) (places : List Place) (subject : Typed) (items : List CaseItem) (other : Stmt) (wild : Bool)
    → typed_fits signals subject ≡ true → list_all (item_fits signals places subject.width) items ≡ true
    → statement_fits signals places other ≡ statement_fits signals places (Case subject items other wild)
case-last signals places subject items other wild first second =
    sym (case-test signals places subject items other wild
    ∙ last (typed_fits signals subject) (list_all (item_fits signals places subject.width) items) (statement_fits signals places other) first second)
  where
    last : (x y z : Bool) → x ≡ true → y ≡ true → (x && y && z) ≡ z
    last true true z p q = refl
    last true false z p q = cc
    last false y z p q = cc

reset-list : {shape : _} (row : Row_of-Stmt shape) → are_reset_values row ≡ list_all is_reset_values (items-the_row-Stmt shape row)
reset-list end_of-Stmt = refl
reset-list (more_of-Stmt statement rest) = ap (λ b. is_reset_values statement && b) (reset-list rest)

pub reset-test : (statements : List Stmt) → is_reset_values (Block statements) ≡ list_all is_reset_values statements
reset-test statements = reset-list (hidden-the_row-Stmt-0 statements) ∙ ap (list_all is_reset_values) (items_hidden-the_row-Stmt-0 statements)

-- the number of bits of a left side
pub small-is : (n : ℕ) → 1 ≤ n → n ≤ 128 → small_width n ≡ Some n
small-is n low high = rw (le-leb 1 n low, le-leb n 128 high) refl

pub small-high : (n : ℕ) → 128 < n → small_width n ≡ None
small-high n h = rw (le-leb 1 n (omega (arith, h)), lt-leb n 128 h) refl

pub small-none : (n : ℕ) → n ≡ 0 → small_width n ≡ None
small-none n e = rw e refl

pub unequal : (m n : ℕ) → n < m → false ≡ (m == n)
unequal m n h = grind (arith, nat_tests)

pub equal-left : (m left width : ℕ) → m + left ≡ width → (left == 0) ≡ (m == width)
equal-left m left width e = grind (arith, nat_tests)

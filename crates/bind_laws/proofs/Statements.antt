-- What fits in a statement as binding makes it, and how often a place stands in it.
use Rattle.std.proofs.Common.{◌≡◌, ℕ, ◌+◌, Bool, true, false, List, [], ◌∷◌, ◌++◌, length, length-append, refl, sym, ◌∙◌, ap, arith}
use Rattle.std.specs.Prelude.{◌&&◌, ◌==◌, if◌then◌else◌, nat_lt}
use Rattle.std.specs.List.{list_all}
use Rattle.std.proofs.lemmas.Bool.{and_parts, and_from, ltb-true, ltb-false, eqb-true, eqb-false}
use denote.Hole.Carrier.{hidden}
use Rattle.design_core.specs.declared.signal.Signal.{Signal}
use Rattle.design_core.specs.declared.place.Place.{Place}
use Rattle.design_core.specs.declared.expression.Typed.{Typed}
use Rattle.design_core.specs.declared.statement.CaseItem.{CaseItem}
use Rattle.design_core.specs.declared.statement.Stmt.{Stmt, Row_of-Stmt, end_of-Stmt, more_of-Stmt, items-the_row-Stmt, items_hidden-the_row-Stmt-0, Row_of-CaseItem, end_of-CaseItem, more_of-CaseItem, items-the_row-CaseItem, items_hidden-the_row-CaseItem-2}
use Rattle.design_core.specs.declared.statement.Stmt.TheVariants as stmt
use Rattle.design_core.specs.declared.statement.Stmt.TheBlock.{shape-the_row-Stmt-1, hidden-the_row-Stmt-1, hidden-the_row-Stmt-0, hidden-the_row-CaseItem-2}
use Rattle.design_core.specs.WellFormed.{typed_fits, label_fits, statement_fits, statements_fit, items_fit, times_in, times_in_all, times_in_items}
use Rattle.bind_laws.specs.Whole.{below}

-- ---- a block
abbrev pub all_fit : List Signal → List Place → List Stmt → Bool
all_fit signals places statements = list_all (statement_fits signals places) statements

block-row : {shape : _} (signals : List Signal) (places : List Place) (row : Row_of-Stmt shape)
    → statements_fit signals places row ≡ all_fit signals places (items-the_row-Stmt shape row)
block-row signals places end_of-Stmt = refl
block-row signals places (more_of-Stmt statement rest) = ap (λ b. statement_fits signals places statement && b) (block-row signals places rest)

pub fits_block : (signals : List Signal) (places : List Place) (statements : List Stmt)
    → statement_fits signals places (stmt.Block statements) ≡ all_fit signals places statements
fits_block signals places statements = block-row signals places (hidden-the_row-Stmt-0 statements) ∙ ap (all_fit signals places) (items_hidden-the_row-Stmt-0 statements)

abbrev pub total : ℕ → List Stmt → ℕ
total p [] = 0
total p (x ∷ xs) = times_in p x + total p xs

total-row : {shape : _} (p : ℕ) (row : Row_of-Stmt shape) → times_in_all p row ≡ total p (items-the_row-Stmt shape row)
total-row p end_of-Stmt = refl
total-row p (more_of-Stmt statement rest) = ap (λ n. times_in p statement + n) (total-row p rest)

pub times_block : (p : ℕ) (statements : List Stmt) → times_in p (stmt.Block statements) ≡ total p statements
times_block p statements = total-row p (hidden-the_row-Stmt-0 statements) ∙ ap (total p) (items_hidden-the_row-Stmt-0 statements)

pub total-push : (p : ℕ) (xs : List Stmt) (x : Stmt) → total p (xs ++ x ∷ []) ≡ total p xs + times_in p x
total-push p [] x = omega arith
total-push p (y ∷ ys) x = omega (arith, total-push p ys x)

pub all_fit-push : (signals : List Signal) (places : List Place) (xs : List Stmt) (x : Stmt)
    → all_fit signals places xs ≡ true → statement_fits signals places x ≡ true
    → all_fit signals places (xs ++ x ∷ []) ≡ true
all_fit-push signals places [] x all one = and_from _ _ one refl
all_fit-push signals places (y ∷ ys) x all one = let f = and_parts _ _ all in and_from _ _ f.0 (all_fit-push signals places ys x f.1 one)

-- ---- a condition
pub times_if : (p : ℕ) (test : Typed) (on_true on_false : Stmt)
    → times_in p (stmt.If test on_true on_false) ≡ times_in p on_true + times_in p on_false
unfolding shape-the_row-Stmt-1 hidden-the_row-Stmt-1 hidden
times_if p test on_true on_false = refl

-- ---- a case
abbrev pub item_fits : List Signal → List Place → ℕ → CaseItem → Bool
item_fits signals places width item = list_all (label_fits signals width) item.labels && statement_fits signals places item.body

abbrev pub items_all_fit : List Signal → List Place → ℕ → List CaseItem → Bool
items_all_fit signals places width items = list_all (item_fits signals places width) items

items-row : {shape : _} (signals : List Signal) (places : List Place) (width : ℕ) (row : Row_of-CaseItem shape)
    → items_fit signals places width row ≡ items_all_fit signals places width (items-the_row-CaseItem shape row)
items-row signals places width end_of-CaseItem = refl
items-row signals places width (more_of-CaseItem labels body rest) =
    ap (λ b. list_all (label_fits signals width) labels && statement_fits signals places body && b) (items-row signals places width rest)

pub fits_case : (signals : List Signal) (places : List Place) (subject : Typed) (items : List CaseItem) (other : Stmt)
    (wild : Bool)
    → statement_fits signals places (stmt.Case subject items other wild)
    ≡ (typed_fits signals subject && items_all_fit signals places subject.width items && statement_fits signals places other)
unfolding shape-the_row-Stmt-1 hidden-the_row-Stmt-1 hidden
fits_case signals places subject items other wild =
    ap (λ b. typed_fits signals subject && b && statement_fits signals places other)
    (items-row signals places subject.width (hidden-the_row-CaseItem-2 items) ∙ ap (items_all_fit signals places subject.width) (items_hidden-the_row-CaseItem-2 items))

pub items_fit-push : (signals : List Signal) (places : List Place) (width : ℕ) (xs : List CaseItem) (x : CaseItem)
    → items_all_fit signals places width xs ≡ true
    → item_fits signals places width x ≡ true → items_all_fit signals places width (xs ++ x ∷ []) ≡ true
items_fit-push signals places width [] x all one = and_from _ _ one refl
items_fit-push signals places width (y ∷ ys) x all one = let f = and_parts _ _ all in and_from _ _ f.0 (items_fit-push signals places width ys x f.1 one)

abbrev pub total_items : ℕ → List CaseItem → ℕ
total_items p [] = 0
total_items p (x ∷ xs) = times_in p x.body + total_items p xs

total_items-row : {shape : _} (p : ℕ) (row : Row_of-CaseItem shape)
    → times_in_items p row ≡ total_items p (items-the_row-CaseItem shape row)
total_items-row p end_of-CaseItem = refl
total_items-row p (more_of-CaseItem labels body rest) = ap (λ n. times_in p body + n) (total_items-row p rest)

pub times_case : (p : ℕ) (subject : Typed) (items : List CaseItem) (other : Stmt) (wild : Bool)
    → times_in p (stmt.Case subject items other wild) ≡ total_items p items + times_in p other
unfolding shape-the_row-Stmt-1 hidden-the_row-Stmt-1 hidden
times_case p subject items other wild =
    ap (λ n. n + times_in p other) (total_items-row p (hidden-the_row-CaseItem-2 items) ∙ ap (total_items p) (items_hidden-the_row-CaseItem-2 items))

pub total_items-push : (p : ℕ) (xs : List CaseItem) (x : CaseItem)
    → total_items p (xs ++ x ∷ []) ≡ total_items p xs + times_in p x.body
total_items-push p [] x = omega arith
total_items-push p (y ∷ ys) x = omega (arith, total_items-push p ys x)

-- ---- places by number
abbrev pub same : ℕ → ℕ → ℕ
same n p = if n == p then 1 else 0

pub below-next : (p n : ℕ) → same n p + below p n ≡ below p (n + 1)
below-next p n = by (nat_lt p n) refl (n == p) refl (nat_lt p (n + 1)) refl
  where
    by : (less : Bool) → nat_lt p n ≡ less → (at : Bool) → (n == p) ≡ at → (next : Bool) → nat_lt p (n + 1) ≡ next
        → ◌≡◌ {A = ℕ} ((if at then 1 else 0) + (if less then 1 else 0)) (if next then 1 else 0)
    by true l true a next x = absurd (omega (arith, ltb-true p n l, eqb-true n p a))
    by true l false a true x = refl
    by true l false a false x = absurd (omega (arith, ltb-true p n l, ltb-false p (n + 1) x))
    by false l true a true x = refl
    by false l true a false x = absurd (omega (arith, eqb-true n p a, ltb-false p (n + 1) x))
    by false l false a true x = absurd (eqb-false n p a (omega (arith, ltb-false p n l, ltb-true p (n + 1) x)))
    by false l false a false x = refl

pub below-push : {X : Type 0} (p : ℕ) (xs : List X) (x : X)
    → same (length xs) p + below p (length xs) ≡ below p (length (xs ++ x ∷ []))
below-push p xs x =
    let long : length (xs ++ x ∷ []) ≡ length xs + 1 = omega (arith, length-append xs (x ∷ [])) in
    below-next p (length xs) ∙ ap (below p) (sym long)

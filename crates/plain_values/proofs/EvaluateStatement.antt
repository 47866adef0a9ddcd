-- The statements of a block and the items of a case as lists.
use Rattle.std.proofs.Common.{◌≡◌, ℕ, ◌<◌, ◌+◌, List, ◌∷◌, length, get_or, drop, ap, arith, ◌∙◌, sym, refl, cond, find, add-one}
use Rattle.std.specs.Prelude.{Bool, true, false, ◌&&◌, ◌==◌, IsTrue, slice_get, Option, Some, None, if◌then◌else◌}
use Rattle.std.specs.Option.{option_map_or}
use Rattle.std.specs.List.{list_all, list_any}
use Rattle.std.proofs.Math.Seq.{drop-cons}
use Rattle.std.proofs.lemmas.Bool.Decides.{nat_tests}
use Rattle.std.proofs.lemmas.Option.{slice_get_read, slice_get_within}
use Rattle.design_core.specs.declared.signal.Signal.{Signal}
use Rattle.design_core.specs.declared.place.Place.{Place}
use Rattle.design_core.specs.declared.expression.Typed.{Typed}
use Rattle.design_core.specs.declared.statement.CaseItem.{CaseItem}
use Rattle.design_core.specs.declared.statement.Stmt.{Stmt, Row_of-Stmt, end_of-Stmt, more_of-Stmt, items-the_row-Stmt, items_hidden-the_row-Stmt-0, Row_of-CaseItem, end_of-CaseItem, more_of-CaseItem, items-the_row-CaseItem, items_hidden-the_row-CaseItem-2}
use Rattle.design_core.specs.declared.statement.Stmt.TheVariants.{Block, If, Case}
use denote.Hole.Carrier.{hidden}
use Rattle.design_core.specs.declared.statement.Stmt.TheBlock.{shape-the_row-Stmt-1, hidden-the_row-Stmt-1, hidden-the_row-Stmt-0, hidden-the_row-CaseItem-2}
use Rattle.design_core.specs.Value.{value}
use Rattle.design_core.specs.After.{Choice, Updates, matches, after, after_all, after_case}
use Rattle.design_core.specs.WellFormed.{typed_fits, label_fits, place_fits, statement_fits, statements_fit, items_fit}
use Rattle.plain_values.proofs.EvaluateValue.{passes_at}
use Rattle.plain_values.specs.Evaluate.{after_list, item_matches, item_fits}

-- ---- blocks
all-list : {shape : _} (signals : List Signal) (choice : Choice) (row : Row_of-Stmt shape) (m : Updates)
    → after_all signals choice row m ≡ after_list signals choice (items-the_row-Stmt shape row) m
all-list signals choice end_of-Stmt m = refl
all-list signals choice (more_of-Stmt statement rest) m = all-list signals choice rest (after signals choice statement m)

all-fits : {shape : _} (signals : List Signal) (places : List Place) (row : Row_of-Stmt shape)
    → statements_fit signals places row ≡ list_all (statement_fits signals places) (items-the_row-Stmt shape row)
all-fits signals places end_of-Stmt = refl
all-fits signals places (more_of-Stmt statement rest) = ap (λ b. statement_fits signals places statement && b) (all-fits signals places rest)

pub block-value : (signals : List Signal) (choice : Choice) (statements : List Stmt) (m : Updates)
    → after signals choice (Block statements) m ≡ after_list signals choice statements m
block-value signals choice statements m =
    all-list signals choice (hidden-the_row-Stmt-0 statements) m
    ∙ ap (λ ss. after_list signals choice ss m) (items_hidden-the_row-Stmt-0 statements)

pub block-fits : (signals : List Signal) (places : List Place) (statements : List Stmt)
    → statement_fits signals places (Block statements) ≡ list_all (statement_fits signals places) statements
block-fits signals places statements =
    all-fits signals places (hidden-the_row-Stmt-0 statements) ∙ ap (list_all (statement_fits signals places)) (items_hidden-the_row-Stmt-0 statements)

-- ---- both ways of an if
in_three : (a b c : Bool) → IsTrue (a && b && c) → IsTrue a
in_three a b c h = grind (arith, nat_tests)

second_in_three : (a b c : Bool) → IsTrue (a && b && c) → IsTrue b
second_in_three a b c h = grind (arith, nat_tests)

third_in_three : (a b c : Bool) → IsTrue (a && b && c) → IsTrue c
third_in_three a b c h = grind (arith, nat_tests)

pub if-fits : (signals : List Signal) (places : List Place) (test : Typed) (on_true on_false : Stmt) → IsTrue (statement_fits signals places (If test on_true on_false))
    → IsTrue (typed_fits signals test) × (IsTrue (statement_fits signals places on_true) × IsTrue (statement_fits signals places on_false))
unfolding shape-the_row-Stmt-1 hidden-the_row-Stmt-1 hidden
if-fits signals places test on_true on_false h = (
  in_three (typed_fits signals test) (statement_fits signals places on_true) (statement_fits signals places on_false) h,
  (
    second_in_three (typed_fits signals test) (statement_fits signals places on_true) (statement_fits signals places on_false) h,
    third_in_three (typed_fits signals test) (statement_fits signals places on_true) (statement_fits signals places on_false) h,
  ),
)

-- ---- cases
-- what an item does where there is one
abbrev pub after_item : List Signal → Choice → Updates → Updates → Option CaseItem → Updates
after_item signals choice m other item = option_map_or (λ i. after signals choice i.body m) item other

items-list : {shape : _} (signals : List Signal) (choice : Choice) (subject : ℕ) (row : Row_of-CaseItem shape) (m other : Updates)
    → after_case signals choice subject row m other ≡ after_item signals choice m other (find (item_matches signals m.now subject) (items-the_row-CaseItem shape row))
items-list signals choice subject end_of-CaseItem m other = refl
items-list signals choice subject (more_of-CaseItem labels body rest) m other =
    first (list_any (matches signals m.now subject) labels) (items-list signals choice subject rest m other)
  where
    first : (b : Bool)
        → after_case signals choice subject rest m other ≡ after_item signals choice m other (find (item_matches signals m.now subject) (items-the_row-CaseItem _ rest))
        → (if b then after signals choice body m else after_case signals choice subject rest m other)
        ≡ after_item signals choice m other (cond b (Some (record { labels = labels; body = body })) (find (item_matches signals m.now subject) (items-the_row-CaseItem _ rest)))
    first true e = refl
    first false e = e

pub items-fits : {shape : _} (signals : List Signal) (places : List Place) (width : ℕ) (row : Row_of-CaseItem shape)
    → items_fit signals places width row ≡ list_all (item_fits signals places width) (items-the_row-CaseItem shape row)
items-fits signals places width end_of-CaseItem = refl
items-fits signals places width (more_of-CaseItem labels body rest) =
    ap (λ b. list_all (label_fits signals width) labels && statement_fits signals places body && b) (items-fits signals places width rest)

pub case-value : (signals : List Signal) (choice : Choice) (subject : Typed) (items : List CaseItem) (other : Stmt) (wild : Bool) (m : Updates)
    → after signals choice (Case subject items other wild) m
    ≡ after_item signals choice m (after signals choice other m) (find (item_matches signals m.now (value signals m.now subject)) items)
unfolding shape-the_row-Stmt-1 hidden-the_row-Stmt-1 hidden
case-value signals choice subject items other wild m =
    items-list signals choice (value signals m.now subject) (hidden-the_row-CaseItem-2 items) m (after signals choice other m)
    ∙ ap (λ is. after_item signals choice m (after signals choice other m) (find (item_matches signals m.now (value signals m.now subject)) is)) (items_hidden-the_row-CaseItem-2 items)

middle : (a b c : Bool) → IsTrue (a && b && c) → IsTrue b
middle a b c h = grind (arith, nat_tests)

pub case-fits : (signals : List Signal) (places : List Place) (subject : Typed) (items : List CaseItem) (other : Stmt) (wild : Bool)
    → IsTrue (statement_fits signals places (Case subject items other wild)) → IsTrue (list_all (item_fits signals places subject.width) items)
unfolding shape-the_row-Stmt-1 hidden-the_row-Stmt-1 hidden
case-fits signals places subject items other wild h =
    let row = hidden-the_row-CaseItem-2 items in
    let all : items_fit signals places subject.width row ≡ list_all (item_fits signals places subject.width) items =
    items-fits signals places subject.width row ∙ ap (list_all (item_fits signals places subject.width)) (items_hidden-the_row-CaseItem-2 items) in
    sym all ∙ middle (typed_fits signals subject) (items_fit signals places subject.width row) (statement_fits signals places other) h

pub case-ends : (signals : List Signal) (places : List Place) (subject : Typed) (items : List CaseItem) (other : Stmt) (wild : Bool)
    → IsTrue (statement_fits signals places (Case subject items other wild)) → IsTrue (typed_fits signals subject) × IsTrue (statement_fits signals places other)
unfolding shape-the_row-Stmt-1 hidden-the_row-Stmt-1 hidden
case-ends signals places subject items other wild h =
    let all : Bool = items_fit signals places subject.width (hidden-the_row-CaseItem-2 items) in (
      in_three (typed_fits signals subject) all (statement_fits signals places other) h,
      third_in_three (typed_fits signals subject) all (statement_fits signals places other) h,
    )

-- the first item of the rest that matches
pub found-first : {X : Type 0} (test : X → Bool) (xs : List X) (i : ℕ) (x : X) → i < length xs → x ≡ get_or xs i x → test x ≡ true
    → find test (drop i xs) ≡ find test xs → slice_get xs i ≡ find test xs
found-first test xs i x h is passes rest =
    slice_get_read xs (length xs) i x refl h is
    ∙ ap (λ b. cond b (Some x) (find test (drop (i + 1) xs))) (sym passes)
    ∙ ap (find test) (ap (λ y. y ∷ drop (i + 1) xs) is ∙ ap (λ k. get_or xs i x ∷ drop k xs) (add-one i) ∙ sym (drop-cons xs i x h))
    ∙ rest

last_test : (a b : Bool) → IsTrue (a && b) → IsTrue b
last_test a b h = grind (arith, nat_tests)

pub body-fits : (signals : List Signal) (places : List Place) (width : ℕ) (items : List CaseItem) (i : ℕ) (item : CaseItem)
    → IsTrue (list_all (item_fits signals places width) items) → i < length items → item ≡ get_or items i item → IsTrue (statement_fits signals places item.body)
body-fits signals places width items i item all h is =
    last_test (list_all (label_fits signals width) item.labels) (statement_fits signals places item.body)
    (ap (item_fits signals places width) is ∙ passes_at (item_fits signals places width) items i item all h)

-- a place of an assignment that fits is one of the list
pub place-within : (places : List Place) (width p : ℕ) (a : Bool) → IsTrue (a && place_fits places width p) → p < length places
place-within places width p a h = found (slice_get places p) refl (last_test a (place_fits places width p) h)
  where
    found : (o : Option Place) → slice_get places p ≡ o → IsTrue (option_map_or (λ place. place.width == width) o false) → p < length places
    found None is e = absurd cc
    found (Some place) is e = slice_get_within places p place is

-- A program that has all that another one has: instructions that fit in the one fit in the other.
use Rattle.std.proofs.Common.{◌≡◌, ℕ, ◌+◌, ◌*◌, ◌<◌, ◌≤◌, List, [], ◌∷◌, ◌++◌, length, arith, sym, refl, ◌∙◌, ap}
use Rattle.std.specs.Prelude.{Bool, true, false, not, ◌&&◌, ◌==◌, nat_le, nat_lt, IsTrue, slice_get, Option, Some, None}
use Rattle.std.specs.Option.{option_map_or}
use Rattle.std.specs.List.{list_all}
use Rattle.std.proofs.lemmas.Bool.{and_parts, and_from, ltb-true, lt-ltb, leb-true, le-leb}
use Rattle.std.proofs.lemmas.Option.{slice_get_within, slice_get-get_or}
use Rattle.std.proofs.lemmas.List.{get_or_append_left, length-append}
use Rattle.loc_base.proofs.ShelfLists.{slice_get-some}
use Rattle.design_core.specs.declared.design.Design.{Design}
use Rattle.design_core.specs.declared.expression.UnaryOp.{UnaryOp}
use Rattle.design_core.specs.declared.expression.UnaryOp.TheVariants as unary_op
use Rattle.design_core.specs.declared.expression.BinaryOp.{BinaryOp}
use Rattle.design_core.specs.declared.expression.BinaryOp.TheVariants as binary_op
use Rattle.design_core.specs.WellFormed.{unary_fits, binary_fits, typed_fits, part_fits}
use Rattle.cycle_code.specs.declared.instruction.Instruction.{Instruction}
use Rattle.cycle_code.specs.declared.instruction.Instruction.TheVariants.{Jump, JumpIf, JumpUnless, JumpEqual, JumpUnlike, JumpNoMatch, Move, Slice, Join, Repeat, Resize, Unary, Binary, Add, Subtract, And, Or, Xor, Not, Equal, Unlike, Value, Set, Put, Assign, Store}
use Rattle.cycle_code.specs.Program.{Program, signals_of, count_of, Grows, Grown}
use Rattle.cycle_code.specs.Cells.{width_in}
use Rattle.cycle_code.specs.Fitting.{is_cell, is_open, is_own, has_width, is_place, tree_fits, operand_fits, operands_fit, fits}

-- ---- lists that grow
pub Grows-push : {X : Type 0} (xs : List X) (x : X) → Grows xs (xs ++ x ∷ [])
Grows-push xs x i y is =
    let within : i < length xs = slice_get_within xs i y is in
    slice_get-get_or (xs ++ x ∷ []) i y (omega (arith, length-append xs (x ∷ [])))
    ∙ ap Some (get_or_append_left xs (x ∷ []) y i within)
    ∙ sym (slice_get-get_or xs i y within)
    ∙ is

-- what was pushed stands last
pub last-stands : {X : Type 0} (xs : List X) (x : X) → slice_get (xs ++ x ∷ []) (length xs) ≡ Some x
last-stands [] x = refl
last-stands (y ∷ xs) x = last-stands xs x

-- a list that grows does not get shorter
pub Grows-length : {X : Type 0} (xs ys : List X) → Grows xs ys → (i : ℕ) → i < length xs → i < length ys
Grows-length xs ys grows i h =
    let found = slice_get-some xs i h in
    slice_get_within ys i found.0 (grows i found.0 found.1)

-- ---- programs that grow
pub Grown-refl : (p : Program) → Grown p p
Grown-refl p = record {
  design = refl;
  widths = λ i x is. is;
  values = λ i x is. is;
  fixed = λ i x is. is;
  instructions = λ i x is. is;
  trees = λ i x is. is;
  targets = λ i x is. is;
}

-- growth after growth
pub Grown-trans : (p q r : Program) → Grown p q → Grown q r → Grown p r
Grown-trans p q r one other = record {
  design = other.design ∙ one.design;
  widths = λ i x is. other.widths i x (one.widths i x is);
  values = λ i x is. other.values i x (one.values i x is);
  fixed = λ i x is. other.fixed i x (one.fixed i x is);
  instructions = λ i x is. other.instructions i x (one.instructions i x is);
  trees = λ i x is. other.trees i x (one.trees i x is);
  targets = λ i x is. other.targets i x (one.targets i x is);
}

-- ---- tests
pub both : {a b : Bool} → a ≡ true → b ≡ true → (a && b) ≡ true
both {a} {b} one other = and_from a b one other

-- what stands in a conjunction
pub of_three : (a b c : Bool) → (a && b && c) ≡ true → (a ≡ true) × (b ≡ true) × (c ≡ true)
of_three a b c h = let last = and_parts (a && b) c h in let first = and_parts a b last.0 in (first.0, first.1, last.1)

-- of four
pub of_four : (a b c d : Bool) → (a && b && c && d) ≡ true → (a ≡ true) × (b ≡ true) × (c ≡ true) × (d ≡ true)
of_four a b c d h = let last = and_parts (a && b && c) d h in let first = of_three a b c last.0 in (first.0, first.1, first.2, last.1)

-- of five
pub of_five : (a b c d e : Bool) → (a && b && c && d && e) ≡ true → (a ≡ true) × (b ≡ true) × (c ≡ true) × (d ≡ true) × (e ≡ true)
of_five a b c d e h =
    let last = and_parts (a && b && c && d) e h in
    let first = of_four a b c d last.0 in
    (first.0, first.1, first.2, first.3, last.1)

-- of six
pub of_six : (a b c d e f : Bool) → (a && b && c && d && e && f) ≡ true
    → (a ≡ true) × (b ≡ true) × (c ≡ true) × (d ≡ true) × (e ≡ true) × (f ≡ true)
of_six a b c d e f h =
    let last = and_parts (a && b && c && d && e) f h in
    let first = of_five a b c d e last.0 in
    (first.0, first.1, first.2, first.3, first.4, last.1)

-- ---- what fits
pub is_cell-grown : (p r : Program) (cell : ℕ) → Grown p r → IsTrue (is_cell p cell) → IsTrue (is_cell r cell)
is_cell-grown p r cell grown h =
    let within : cell < length p.widths = ltb-true cell (length p.widths) h in
    lt-ltb cell (length r.widths) (Grows-length p.widths r.widths grown.widths cell within)

-- it keeps its width
pub width_in-grown : (p r : Program) (cell : ℕ) → Grown p r → IsTrue (is_cell p cell) → width_in r.widths cell ≡ width_in p.widths cell
width_in-grown p r cell grown h =
    let found = slice_get-some p.widths cell (ltb-true cell (length p.widths) h) in
    ap (λ o. option_map_or (λ width. width) o 0) (grown.widths cell found.0 found.1 ∙ sym found.1)

-- what is known where a test on an entry holds
pub entry-some : {X : Type 0} (test : X → Bool) (o : Option X) → option_map_or test o false ≡ true
    → (x : X) × (o ≡ Some x) × (test x ≡ true)
entry-some test None h = absurd cc
entry-some test (Some x) h = (x, refl, h)

-- a cell that may be written is no constant
pub is_open-free : (p : Program) (cell : ℕ) → IsTrue (is_open p cell) → slice_get p.fixed cell ≡ Some false
is_open-free p cell h =
    let found =
    entry-some not (slice_get p.fixed cell) (and_parts (is_cell p cell) (option_map_or not (slice_get p.fixed cell) false) h).1 in
    found.1 ∙ ap Some (is_false found.0 found.2)
  where
    is_false : (b : Bool) → not b ≡ true → b ≡ false
    is_false true h = absurd cc
    is_false false h = refl

-- it is a cell
pub is_open-cell : (p : Program) (cell : ℕ) → IsTrue (is_open p cell) → IsTrue (is_cell p cell)
is_open-cell p cell h = (and_parts (is_cell p cell) (option_map_or not (slice_get p.fixed cell) false) h).0

-- it goes on to be one
pub is_open-grown : (p r : Program) (cell : ℕ) → Grown p r → IsTrue (is_open p cell) → IsTrue (is_open r cell)
is_open-grown p r cell grown h =
    both (is_cell-grown p r cell grown (is_open-cell p cell h))
    (ap (λ o. option_map_or not o false) (grown.fixed cell false (is_open-free p cell h)))

-- one of the code's own cells may be written
pub is_own-open : (p : Program) (cell : ℕ) → IsTrue (is_own p cell) → IsTrue (is_open p cell)
is_own-open p cell h = (and_parts (is_open p cell) (nat_le (count_of p + count_of p + count_of p) cell) h).0

-- it is a cell
pub is_own-cell : (p : Program) (cell : ℕ) → IsTrue (is_own p cell) → IsTrue (is_cell p cell)
is_own-cell p cell h = is_open-cell p cell (is_own-open p cell h)

-- it stands behind those of the signals
pub is_own-past : (p : Program) (cell : ℕ) → IsTrue (is_own p cell) → count_of p + count_of p + count_of p ≤ cell
is_own-past p cell h =
    leb-true (count_of p + count_of p + count_of p) cell
    (and_parts (is_open p cell) (nat_le (count_of p + count_of p + count_of p) cell) h).1

-- it goes on to be one
pub is_own-grown : (p r : Program) (cell : ℕ) → Grown p r → IsTrue (is_own p cell) → IsTrue (is_own r cell)
is_own-grown p r cell grown h =
    both (is_open-grown p r cell grown (is_own-open p cell h))
    (ap (λ (d : Design). nat_le (length d.signals.items + length d.signals.items + length d.signals.items) cell) grown.design
    ∙ le-leb (count_of p + count_of p + count_of p) cell (is_own-past p cell h))

-- a place goes on to be one
pub is_place-grown : (p r : Program) (place : ℕ) → Grown p r → IsTrue (is_place p place) → IsTrue (is_place r place)
is_place-grown p r place grown h = ap (λ (d : Design). nat_lt place (length d.places.items)) grown.design ∙ h

-- a cell goes on to have its width
has_width-grown : (p r : Program) (cell width other : ℕ) → Grown p r → IsTrue (is_cell p cell) → other ≡ width
    → IsTrue (has_width p cell width)
    → IsTrue (has_width r cell other)
has_width-grown p r cell width other grown within same h =
    ap (λ n. n == other) (width_in-grown p r cell grown within) ∙ ap (λ n. width_in p.widths cell == n) same ∙ h

-- what is known of the cells of a unary operator
pub operand_fits-parts : (p : Program) (op : UnaryOp) (arg to : ℕ) → IsTrue (operand_fits p op arg to)
    → IsTrue (is_own p to) × IsTrue (is_cell p arg) × IsTrue (unary_fits op (width_in p.widths to) (width_in p.widths arg))
operand_fits-parts p op arg to h = of_three (is_own p to) (is_cell p arg) (unary_fits op (width_in p.widths to) (width_in p.widths arg)) h

-- they go on to fit
operand_fits-grown : (p r : Program) (op : UnaryOp) (arg to : ℕ) → Grown p r → IsTrue (operand_fits p op arg to)
    → IsTrue (operand_fits r op arg to)
operand_fits-grown p r op arg to grown h =
    let t = operand_fits-parts p op arg to h in
    both (both (is_own-grown p r to grown t.0) (is_cell-grown p r arg grown t.1))
    (ap (λ n. unary_fits op n (width_in r.widths arg)) (width_in-grown p r to grown (is_own-cell p to t.0))
    ∙ ap (unary_fits op (width_in p.widths to)) (width_in-grown p r arg grown t.1)
    ∙ t.2)

-- what is known of the cells of a binary operator
pub operands_fit-parts : (p : Program) (op : BinaryOp) (left right to : ℕ) → IsTrue (operands_fit p op left right to)
    → IsTrue (is_own p to) × IsTrue (is_cell p left) × IsTrue (is_cell p right)
    × IsTrue (binary_fits op (width_in p.widths to) (width_in p.widths left) (width_in p.widths right))
operands_fit-parts p op left right to h =
    of_four (is_own p to) (is_cell p left) (is_cell p right)
    (binary_fits op (width_in p.widths to) (width_in p.widths left) (width_in p.widths right)) h

-- they go on to fit
operands_fit-grown : (p r : Program) (op : BinaryOp) (left right to : ℕ) → Grown p r → IsTrue (operands_fit p op left right to)
    → IsTrue (operands_fit r op left right to)
operands_fit-grown p r op left right to grown h =
    let t = operands_fit-parts p op left right to h in
    both (both (both (is_own-grown p r to grown t.0) (is_cell-grown p r left grown t.1)) (is_cell-grown p r right grown t.2))
    (ap (λ n. binary_fits op n (width_in r.widths left) (width_in r.widths right)) (width_in-grown p r to grown (is_own-cell p to t.0))
    ∙ ap (λ n. binary_fits op (width_in p.widths to) n (width_in r.widths right)) (width_in-grown p r left grown t.1)
    ∙ ap (binary_fits op (width_in p.widths to) (width_in p.widths left)) (width_in-grown p r right grown t.2)
    ∙ t.3)

-- instructions go on to fit
pub fits-grown : (p r : Program) (q : ℕ) (i : Instruction) → Grown p r → IsTrue (fits p q i) → IsTrue (fits r q i)
fits-grown p r q (Jump lower) grown h = h
fits-grown p r q (JumpIf cell lower) grown h =
    let t = and_parts (nat_le lower q) (is_cell p cell) h in
    both t.0 (is_cell-grown p r cell grown t.1)
fits-grown p r q (JumpUnless cell lower) grown h =
    let t = and_parts (nat_le lower q) (is_cell p cell) h in
    both t.0 (is_cell-grown p r cell grown t.1)
fits-grown p r q (JumpEqual left right lower) grown h =
    let t = of_three (nat_le lower q) (is_cell p left) (is_cell p right) h in
    both (both t.0 (is_cell-grown p r left grown t.1)) (is_cell-grown p r right grown t.2)
fits-grown p r q (JumpUnlike left right lower) grown h =
    let t = of_three (nat_le lower q) (is_cell p left) (is_cell p right) h in
    both (both t.0 (is_cell-grown p r left grown t.1)) (is_cell-grown p r right grown t.2)
fits-grown p r q (JumpNoMatch subject label wild lower) grown h =
    let width = width_in p.widths subject in
    let t = of_six (nat_le lower q) (is_cell p subject) (is_cell p label) (is_cell p wild) (has_width p label width)
    (has_width p wild width) h in
    let same = width_in-grown p r subject grown t.1 in
    both (both (both (both (both t.0 (is_cell-grown p r subject grown t.1)) (is_cell-grown p r label grown t.2))
    (is_cell-grown p r wild grown t.3))
    (has_width-grown p r label width (width_in r.widths subject) grown t.2 same t.4))
    (has_width-grown p r wild width (width_in r.widths subject) grown t.3 same t.5)
fits-grown p r q (Move from to) grown h =
    let t = of_three (is_own p to) (is_cell p from) (has_width p from (width_in p.widths to)) h in
    both (both (is_own-grown p r to grown t.0) (is_cell-grown p r from grown t.1))
    (has_width-grown p r from (width_in p.widths to) (width_in r.widths to) grown t.1
    (width_in-grown p r to grown (is_own-cell p to t.0)) t.2)
fits-grown p r q (Slice arg from width to) grown h =
    let t = of_five (is_own p to) (is_cell p arg) (nat_le 1 width) (has_width p to width)
    (nat_le (from + width) (width_in p.widths arg)) h in
    both (both (both (both (is_own-grown p r to grown t.0) (is_cell-grown p r arg grown t.1)) t.2)
    (has_width-grown p r to width width grown (is_own-cell p to t.0) refl t.3))
    (ap (nat_le (from + width)) (width_in-grown p r arg grown t.1) ∙ t.4)
fits-grown p r q (Join high low to) grown h =
    let sum = width_in p.widths high + width_in p.widths low in
    let t = of_four (is_own p to) (is_cell p high) (is_cell p low) (has_width p to sum) h in
    let one : width_in r.widths high ≡ width_in p.widths high = width_in-grown p r high grown t.1 in
    let other : width_in r.widths low ≡ width_in p.widths low = width_in-grown p r low grown t.2 in
    both (both (both (is_own-grown p r to grown t.0) (is_cell-grown p r high grown t.1)) (is_cell-grown p r low grown t.2))
    (has_width-grown p r to sum (width_in r.widths high + width_in r.widths low) grown (is_own-cell p to t.0) (cc) t.3)
fits-grown p r q (Repeat times part to) grown h =
    let t = of_four (is_own p to) (is_cell p part) (nat_le 1 times) (has_width p to (times * width_in p.widths part)) h in
    both (both (both (is_own-grown p r to grown t.0) (is_cell-grown p r part grown t.1)) t.2)
    (has_width-grown p r to (times * width_in p.widths part) (times * width_in r.widths part) grown (is_own-cell p to t.0)
    (ap (λ n. times * n) (width_in-grown p r part grown t.1)) t.3)
fits-grown p r q (Resize arg signed to) grown h =
    let t = and_parts (is_own p to) (is_cell p arg) h in
    both (is_own-grown p r to grown t.0) (is_cell-grown p r arg grown t.1)
fits-grown p r q (Unary op arg to) grown h = operand_fits-grown p r op arg to grown h
fits-grown p r q (Binary op left left_signed right right_signed to) grown h = operands_fit-grown p r op left right to grown h
fits-grown p r q (Add left right to) grown h = operands_fit-grown p r binary_op.Add left right to grown h
fits-grown p r q (Subtract left right to) grown h = operands_fit-grown p r binary_op.Subtract left right to grown h
fits-grown p r q (And left right to) grown h = operands_fit-grown p r binary_op.And left right to grown h
fits-grown p r q (Or left right to) grown h = operands_fit-grown p r binary_op.Or left right to grown h
fits-grown p r q (Xor left right to) grown h = operands_fit-grown p r binary_op.Xor left right to grown h
fits-grown p r q (Not arg to) grown h = operand_fits-grown p r unary_op.Not arg to grown h
fits-grown p r q (Equal left right to) grown h = operands_fit-grown p r binary_op.Equal left right to grown h
fits-grown p r q (Unlike left right to) grown h = operands_fit-grown p r binary_op.NotEqual left right to grown h
fits-grown p r q (Value tree to) grown h =
    let t = and_parts (is_own p to) (option_map_or (tree_fits p (width_in p.widths to)) (slice_get p.trees tree) false) h in
    let found = entry-some (tree_fits p (width_in p.widths to)) (slice_get p.trees tree) t.1 in
    both (is_own-grown p r to grown t.0)
    (ap (λ o. option_map_or (tree_fits r (width_in r.widths to)) o false) (grown.trees tree found.0 found.1)
    ∙ ap (λ (d : Design). typed_fits d.signals.items found.0 && found.0.width == width_in r.widths to) grown.design
    ∙ ap (λ n. typed_fits (signals_of p) found.0 && found.0.width == n) (width_in-grown p r to grown (is_own-cell p to t.0))
    ∙ found.2)
fits-grown p r q (Set place value to) grown h =
    let t = of_three (is_open p to) (is_cell p value) (is_place p place) h in
    both (both (is_open-grown p r to grown t.0) (is_cell-grown p r value grown t.1)) (is_place-grown p r place grown t.2)
fits-grown p r q (Put value to) grown h =
    let t = and_parts (is_open p to) (is_cell p value) h in
    both (is_open-grown p r to grown t.0) (is_cell-grown p r value grown t.1)
fits-grown p r q (Assign target place value later) grown h =
    let test = option_map_or (list_all (part_fits (signals_of p))) (slice_get p.targets target) false in
    let t = of_three (is_cell p value) (is_place p place) test h in
    let found = entry-some (list_all (part_fits (signals_of p))) (slice_get p.targets target) t.2 in
    both (both (is_cell-grown p r value grown t.0) (is_place-grown p r place grown t.1))
    (ap (λ o. option_map_or (list_all (part_fits (signals_of r))) o false) (grown.targets target found.0 found.1)
    ∙ ap (λ (d : Design). list_all (part_fits d.signals.items) found.0) grown.design
    ∙ found.2)
fits-grown p r q (Store target value later) grown h =
    let test = option_map_or (list_all (part_fits (signals_of p))) (slice_get p.targets target) false in
    let t = and_parts (is_cell p value) test h in
    let found = entry-some (list_all (part_fits (signals_of p))) (slice_get p.targets target) t.1 in
    both (is_cell-grown p r value grown t.0)
    (ap (λ o. option_map_or (list_all (part_fits (signals_of r))) o false) (grown.targets target found.0 found.1)
    ∙ ap (λ (d : Design). list_all (part_fits d.signals.items) found.0) grown.design
    ∙ found.2)

-- The nodes that a name with its selects is as an expression: a constant, a part of a signal, or a word of an array, which may have
-- zeros beside it.
use Rattle.std.proofs.Common.{◌≡◌, ℕ, ◌+◌, ◌-◌, Bool, true, false, List, [], ◌∷◌, Option, Some, None, refl, sym, ◌∙◌, ap, arith, ◌≤◌}
use Rattle.std.specs.Prelude.{◌&&◌, ◌==◌, if◌then◌else◌, max, ℤ, pos}
use Rattle.std.specs.List.{list_all}
use Rattle.std.proofs.Math.Nat.{max-eq_right}
use Rattle.std.proofs.lemmas.Bool.{eq-eqb}
use Rattle.design_core.specs.declared.expression.Typed.{Typed}
use Rattle.design_core.specs.declared.expression.Node.{Node, Row_of-Typed, end_of-Typed, more_of-Typed, items-the_row-Typed, items_hidden-the_row-Typed-1}
use Rattle.design_core.specs.declared.expression.Node.TheVariants as node
use Rattle.design_core.specs.declared.expression.Node.TheBlock.{hidden-the_row-Typed-1}
use Rattle.design_core.specs.Constant.{zeros}
use Rattle.design_core.specs.Valuation.{distance_of, word_at}
use Rattle.v_syntax.specs.declared.site.Site.{Site}
use Rattle.v_syntax.specs.Tree.{Selections}
use Rattle.v_syntax.specs.Tree as written
use Rattle.v_sizes.specs.declared.meaning.Meaning.{Meaning}
use Rattle.v_sizes.specs.declared.meaning.Meaning.TheVariants as meaning
use Rattle.v_sizes.specs.Look.{Look}
use Rattle.v_sizes.specs.Selected.{part_offset, part_distance, descends, bits_below, bits_within, start_within}
use Rattle.v_sizes.specs.Sizing.{Sizing, sizing, known, some_bits, chosen_width}
use Rattle.v_sizes.specs.Sized.{sized, constant, Select, bit_select, part_select, start_of, signal_part, base_of, signal_node, zeros_before, word_part, word_node, meaning_node, name_node, selects_of}
use Rattle.v_sizes.specs.Context.{typed_in}

abbrev pub is_part : Node → Bool
is_part (node.Const _) = true
is_part (node.Whole _) = true
is_part (node.Slice _ _ _) = true
is_part (node.Pick' _ _ _ _) = true
is_part (node.Word' _ _ _ _ _ _ _) = true
is_part _ = false

abbrev pub are_parts : {shape : _} → Row_of-Typed shape → Bool
are_parts end_of-Typed = true
are_parts (more_of-Typed _ _ one rest) = is_part one && are_parts rest

abbrev pub is_named : Node → Bool
is_named (node.Join' _ row) = are_parts row
is_named n = is_part n

parts-row : {shape : _} (row : Row_of-Typed shape)
    → are_parts row ≡ list_all (λ t. is_part t.node) (items-the_row-Typed shape row)
parts-row end_of-Typed = refl
parts-row (more_of-Typed width signed n rest) = ap (λ b. is_part n && b) (parts-row rest)

joined-named : (ts : List Typed) → list_all (λ t. is_part t.node) ts ≡ true → is_named (node.Join ts) ≡ true
joined-named ts all = parts-row (hidden-the_row-Typed-1 ts) ∙ ap (list_all (λ t. is_part t.node)) (items_hidden-the_row-Typed-1 ts) ∙ all

signal-part : (signal : ℕ) (o : Option ℕ) (count : ℕ) (index : Typed) (offset : ℕ → ℤ)
    → is_named (signal_part signal o count index offset) ≡ true
signal-part signal (Some from) count index offset = refl
signal-part signal None count index offset = refl

signal-named : (signal width : ℕ) (left right : ℤ) (all : Node) (selects : List Select) → is_named all ≡ true
    → is_named (signal_node signal width left right all selects) ≡ true
signal-named signal width left right all [] whole = whole
signal-named signal width left right all (bit_select index sized_index ∷ rest) whole =
    signal-part signal (if index.constant then start_of width 1 (distance_of left right (known index)) else None) 1 sized_index (λ _. pos 0)
signal-named signal width left right all (part_select kind one sized_one other sized_other ∷ rest) whole =
    let count = chosen_width (some_bits kind one other) in
    signal-part signal (if (base_of kind one other).constant then start_of width count (part_distance left right kind (known one) (known other) count) else None)
    count (base_of kind sized_one sized_other) (part_offset kind (descends left right) count)

zeros-parts : (count : ℕ) (ts : List Typed) → list_all (λ t. is_part t.node) ts ≡ true
    → list_all (λ t. is_part t.node) (zeros_before count ts) ≡ true
zeros-parts count ts all = by (count == 0)
  where
    by : (none : Bool) → list_all (λ t. is_part t.node) (if none then ts else constant count false 0 ∷ ts) ≡ true
    by true = all
    by false = all

word-part : (first count : ℕ) (low : ℤ) (index : Typed) (width size : ℕ) (distance : ℤ)
    → is_named (word_part first count low index width size distance) ≡ true
word-part first count low index width size distance = by (within == size)
  where
    within : ℕ
    within = bits_within width size distance

    read : Node
    read = node.Word first count low index (start_within distance) within

    row : List Typed
    row = zeros_before (size - (bits_below size distance + within)) (sized within false read ∷ zeros_before (bits_below size distance) [])

    by : (whole : Bool) → is_named (if whole then read else node.Join row) ≡ true
    by true = refl
    by false = joined-named row
        (zeros-parts (size - (bits_below size distance + within)) (sized within false read ∷ zeros_before (bits_below size distance) [])
        (zeros-parts (bits_below size distance) [] refl))

word-named : (first count : ℕ) (low : ℤ) (width : ℕ) (left right : ℤ) (index : Typed) (selects : List Select)
    → is_named (word_node first count low width left right index selects) ≡ true
word-named first count low width left right index [] = refl
word-named first count low width left right index (bit_select place _ ∷ _) = word-part first count low index width 1 (distance_of left right (known place))
word-named first count low width left right index (part_select kind one _ other _ ∷ _) =
    let size = chosen_width (some_bits kind one other) in
    word-part first count low index width size (part_distance left right kind (known one) (known other) size)

meaning-named : (m : Meaning) (selects : List Select) → is_named (meaning_node m selects) ≡ true
meaning-named (meaning.Constant value left right) selects = refl
meaning-named (meaning.Signal signal width signed left right) selects = signal-named signal width left right (node.Whole signal) selects refl
meaning-named (meaning.Array first count low width signed left right) (bit_select index sized_index ∷ rest) =
    by (if index.constant then word_at first count low (known index) else None)
  where
    by : (o : Option ℕ) → is_named (elim o [
      | Some signal ↦ signal_node signal width left right (node.Slice signal 0 width) rest
      | None ↦ word_node first count low width left right sized_index rest
    ]) ≡ true
    by (Some signal) = signal-named signal width left right (node.Slice signal 0 width) rest refl
    by None = word-named first count low width left right sized_index rest
meaning-named (meaning.Array first count low width signed left right) [] = refl
meaning-named (meaning.Array first count low width signed left right) (part_select _ _ _ _ _ ∷ _) = refl

name-named : (o : Option Meaning) (selects : List Select) → is_named (name_node o selects) ≡ true
name-named None selects = refl
name-named (Some m) selects = meaning-named m selects

-- a name with its selects by itself
pub by_itself-named : (look : Look) (site : Site) (text : List ℕ) (selects : Selections)
    → is_named (typed_in look (written.name site text selects) 0 false).node ≡ true
by_itself-named look site text selects = by e.constant (own == max 0 own) (eq-eqb own (max 0 own) (sym (max-eq_right nothing)))
  where
    e : Sizing
    e = sizing look (written.name site text selects)

    own : ℕ
    own = e.width

    nothing : 0 ≤ own
    nothing = omega arith

    n : Node
    n = name_node (look text) (selects_of look selects)

    by : (fixed same : Bool) → same ≡ true
        → is_named (if fixed then constant (max 0 own) (e.signed && true) (e.value zeros (max 0 own) (e.signed && true))
        else if same then sized own (e.signed && true) n else sized (max 0 own) (e.signed && true) (node.Resize (sized own (e.signed && true) n))).node ≡ true
    by true same is = refl
    by false true is = name-named (look text) (selects_of look selects)
    by false false is = cc

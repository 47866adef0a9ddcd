-- What cells hold where they are words: the word that is read, the one that is put, and the words of the signals.
use Rattle.std.proofs.Common.{◌≡◌, ℕ, ◌+◌, ◌-◌, ◌*◌, ◌/◌, ◌%◌, ◌^◌, ◌<◌, ◌≤◌, List, ◌++◌, length, map, take, drop, set, arith, sym, refl, ◌∙◌, ap, subst, inl, inr}
use Rattle.std.specs.Prelude.{false, ◌&&◌, if◌then◌else◌, nat_le, nat_lt, IsTrue, slice_get, Option, Some, None, option_map}
use Rattle.std.specs.Option.{option_map_or}
use Rattle.std.proofs.Math.Path.{fun_ext}
use Rattle.std.proofs.Math.Seq.{map-set_same}
use Rattle.std.proofs.lemmas.Bool.{cases_lt, le-leb, lt-ltb, le-ltb, ltb-true, eqb-true}
use Rattle.std.proofs.lemmas.Option.{slice_get-map, slice_get-get_or, slice_get_past, get_or_from_slice_get}
use Rattle.std.proofs.lemmas.List.{length-map, length-take, length-drop, length-append, get_or-take, get_or-drop, get_or_append_left, get_or-append_right, take-map, drop-map}
use Rattle.loc_base.specs.declared.bits.Bits.{Bits}
use Rattle.design_core.specs.declared.expression.BinaryOp.{BinaryOp}
use Rattle.loc_base.specs.Bits.{bit_of, width_of, value_of, value_of-range, width_of-high}
use Rattle.loc_base.proofs.ShelfLists.{slice_get-some}
use Rattle.loc_base.proofs.ShelfOptions.{option_map-some}
use Rattle.design_core.specs.Valuation.{bit, number}
use Rattle.design_core.specs.Words.{valuation_of, AreWordsOf}
use Rattle.plain_values.proofs.EvaluateWords.{number-word, number-word_part}
use Rattle.plain_values.proofs.EvaluateWrite.{written, bit-high}
use Rattle.plain_values.proofs.EvaluateStore.{updates}
use Rattle.cycle_code.specs.Program.{Program, signals_of, count_of}
use Rattle.cycle_code.specs.Cells.{width_in, held, with_held, below, updates_in, with_updates}
use Rattle.cycle_code.specs.Operands.{AreOperands}
use Rattle.cycle_code.specs.Fitting.{is_cell, has_width, operands_fit, IsSound}
use Rattle.cycle_code.proofs.GrowthLaws.{is_own-cell, operands_fit-parts}
use Rattle.cycle_code.proofs.CellLaws.{updates-same}

-- ---- one cell
pub width_in-word : (cells : List Bits) (c : ℕ) (word : Bits) → slice_get cells c ≡ Some word
    → width_in (map width_of cells) c ≡ width_of word
width_in-word cells c word is = ap (λ o. option_map_or (λ width. width) o 0) (slice_get-map width_of cells c ∙ ap (option_map width_of) is)

-- and the number that it holds is the one of its word
pub held-word : (cells : List Bits) (c : ℕ) (word : Bits) → slice_get cells c ≡ Some word
    → held (map width_of cells) (valuation_of cells) c ≡ value_of word
held-word cells c word is = ap (λ n. number n (valuation_of cells c)) (width_in-word cells c word is) ∙ number-word cells c word is

-- the number of a cell is one of a word
pub cell-within : (p : Program) (cells : List Bits) (c : ℕ) → map width_of cells ≡ p.widths → IsTrue (is_cell p c) → c < length cells
cell-within p cells c same h =
    let within : c < length p.widths = ltb-true c (length p.widths) h in
    let size : length cells ≡ length p.widths = sym (length-map cells width_of) ∙ ap length same in
    omega arith

-- a word of the width is put into a cell
whole-bit : (w p : ℕ) (old new : Bits) → width_of old ≡ w → width_of new ≡ w
    → bit (value_of new) p ≡ (if nat_le 0 p && nat_lt p (0 + w) then bit (value_of new) (p - 0) else bit (value_of old) p)
whole-bit w p old new one other = elim (cases_lt p w) [
  | inl low ↦ rw (le-leb 0 p (omega arith), lt-ltb p (0 + w) (omega arith)) (ap (bit (value_of new)) (omega arith))
  | inr high ↦
      rw (le-leb 0 p (omega arith), le-ltb p (0 + w) (omega arith))
      (bit-high (value_of new) (width_of new) p (value_of-range new) (omega arith)
      ∙ sym (bit-high (value_of old) (width_of old) p (value_of-range old) (omega arith)))
]

-- the cells keep their widths
pub widths-written : (cells : List Bits) (c : ℕ) (word : Bits) → c < length cells → width_of word ≡ width_in (map width_of cells) c
    → map width_of (set cells c word) ≡ map width_of cells
widths-written cells c word h same =
    let found = slice_get-some cells c h in
    map-set_same width_of cells c word found.0
    (same ∙ width_in-word cells c found.0 found.1 ∙ ap width_of (sym (get_or_from_slice_get cells c found.0 found.0 found.1)))

-- and the cell holds the number of the word
pub valuation-written : (cells : List Bits) (c : ℕ) (word : Bits) → c < length cells → width_of word ≡ width_in (map width_of cells) c
    → valuation_of (set cells c word) ≡ with_held (map width_of cells) c (value_of word) (valuation_of cells)
valuation-written cells c word h same =
    let found = slice_get-some cells c h in
    let width = width_in-word cells c found.0 found.1 in
    written cells c found.0 word 0 (width_in (map width_of cells) c) (bit (value_of word)) h found.1
    (λ p. whole-bit (width_in (map width_of cells) c) p found.0 word (sym width) same)

-- ---- some cells
-- an element of the first of a list
pub slice_get-take : {X : Type 0} (n : ℕ) (xs : List X) (s : ℕ) → s < n → slice_get (take n xs) s ≡ slice_get xs s
slice_get-take n xs s h = elim (cases_lt s (length xs)) [
  | inl low ↦
      let found = slice_get-some xs s low in
      slice_get-get_or (take n xs) s found.0 (omega (arith, length-take n xs))
      ∙ ap Some (get_or-take n xs s found.0 h)
      ∙ sym (slice_get-get_or xs s found.0 low)
  | inr high ↦ slice_get_past (take n xs) s (omega (arith, length-take n xs)) ∙ sym (slice_get_past xs s high)
]

-- an element of a list from a place on
pub slice_get-drop : {X : Type 0} (n : ℕ) (xs : List X) (s : ℕ) → slice_get (drop n xs) s ≡ slice_get xs (n + s)
slice_get-drop n xs s = elim (cases_lt (n + s) (length xs)) [
  | inl low ↦
      let found = slice_get-some xs (n + s) low in
      slice_get-get_or (drop n xs) s found.0 (omega (arith, length-drop n xs))
      ∙ ap Some (get_or-drop n xs s found.0)
      ∙ sym (slice_get-get_or xs (n + s) found.0 low)
  | inr high ↦ slice_get_past (drop n xs) s (omega (arith, length-drop n xs)) ∙ sym (slice_get_past xs (n + s) high)
]

-- an element of the first of two lists
slice_get-left : (xs ys : List Bits) (s : ℕ) → s < length xs → slice_get (xs ++ ys) s ≡ slice_get xs s
slice_get-left xs ys s h =
    let found = slice_get-some xs s h in
    slice_get-get_or (xs ++ ys) s found.0 (omega (arith, length-append xs ys))
    ∙ ap Some (get_or_append_left xs ys found.0 s h)
    ∙ sym (slice_get-get_or xs s found.0 h)

-- and of the second
slice_get-right : (xs ys : List Bits) (s : ℕ) → length xs ≤ s → slice_get (xs ++ ys) s ≡ slice_get ys (s - length xs)
slice_get-right xs ys s h = elim (cases_lt (s - length xs) (length ys)) [
  | inl low ↦
      let found = slice_get-some ys (s - length xs) low in
      slice_get-get_or (xs ++ ys) s found.0 (omega (arith, length-append xs ys))
      ∙ ap Some (get_or-append_right xs ys (length xs) s found.0 refl h)
      ∙ sym (slice_get-get_or ys (s - length xs) found.0 low)
  | inr high ↦
      slice_get_past (xs ++ ys) s (omega (arith, length-append xs ys))
      ∙ sym (slice_get_past ys (s - length xs) high)
]

-- the first words
pub valuation-take : (n : ℕ) (cells : List Bits) → valuation_of (take n cells) ≡ below n (valuation_of cells)
valuation-take n cells = fun_ext (λ s. fun_ext (λ b. at s b))
  where
    at : (s b : ℕ) → valuation_of (take n cells) s b ≡ below n (valuation_of cells) s b
    at s b = elim (cases_lt s n) [
      | inl low ↦ rw (lt-ltb s n low) (ap (λ o. option_map_or (λ word. bit_of word b) o false) (slice_get-take n cells s low))
      | inr high ↦
          rw (le-ltb s n high)
          (ap (λ o. option_map_or (λ word. bit_of word b) o false) (slice_get_past (take n cells) s (omega (arith, length-take n cells))))
    ]

-- those from a number on
pub valuation-drop : (n : ℕ) (cells : List Bits) → valuation_of (drop n cells) ≡ (λ s. valuation_of cells (n + s))
valuation-drop n cells = fun_ext (λ s. fun_ext (λ b. ap (λ o. option_map_or (λ word. bit_of word b) o false) (slice_get-drop n cells s)))

-- the words that are read, and those of later updates
pub updates-words : (count : ℕ) (cells : List Bits)
    → updates (valuation_of (take count cells)) (valuation_of (take count (drop count cells))) ≡ updates_in count (valuation_of cells)
updates-words count cells =
    updates-same (valuation-take count cells) (valuation-take count (drop count cells) ∙ ap (below count) (valuation-drop count cells))

-- the words with those replaced
pub valuation-replaced : (count : ℕ) (cells now later : List Bits) → length now ≡ count → length later ≡ count
    → valuation_of (now ++ (later ++ drop count (drop count cells)))
    ≡ with_updates count (updates (valuation_of now) (valuation_of later)) (valuation_of cells)
valuation-replaced count cells now later one other = fun_ext (λ s. fun_ext (λ b. at s b))
  where
    at : (s b : ℕ) → valuation_of (now ++ (later ++ drop count (drop count cells))) s b
        ≡ with_updates count (updates (valuation_of now) (valuation_of later)) (valuation_of cells) s b
    at s b = elim (cases_lt s count) [
      | inl low ↦
          rw (lt-ltb s count low)
          (ap (λ o. option_map_or (λ word. bit_of word b) o false)
          (slice_get-left now (later ++ drop count (drop count cells)) s (omega arith)))
      | inr past ↦ elim (cases_lt s (count + count)) [
        | inl low ↦
            rw (le-ltb s count past, lt-ltb s (count + count) low)
            (ap (λ o. option_map_or (λ word. bit_of word b) o false)
            (slice_get-right now (later ++ drop count (drop count cells)) s (omega arith)
            ∙ slice_get-left later (drop count (drop count cells)) (s - length now) (omega arith)
            ∙ ap (λ n. slice_get later (s - n)) one))
        | inr high ↦
            rw (le-ltb s count past, le-ltb s (count + count) high)
            (ap (λ o. option_map_or (λ word. bit_of word b) o false)
            (slice_get-right now (later ++ drop count (drop count cells)) s (omega arith)
            ∙ slice_get-right later (drop count (drop count cells)) (s - length now) (omega arith)
            ∙ slice_get-drop count (drop count cells) (s - length now - length later)
            ∙ slice_get-drop count cells (count + (s - length now - length later))
            ∙ ap (slice_get cells) (omega arith)))
      ]
    ]

-- ---- what instructions ask
pub width_in-most : (cells : List Bits) (c : ℕ) → width_in (map width_of cells) c ≤ 128
width_in-most cells c =
    subst (λ o. option_map_or (λ width. width) o 0 ≤ 128) (sym (slice_get-map width_of cells c)) (at (slice_get cells c))
  where
    at : (o : Option Bits) → option_map_or (λ width. width) (option_map width_of o) 0 ≤ 128
    at None = omega arith
    at (Some word) = width_of-high word

-- a width that a cell has is one of a word
pub has_width-most : (p : Program) (cells : List Bits) (c width : ℕ) → map width_of cells ≡ p.widths
    → IsTrue (has_width p c width) → width ≤ 128
has_width-most p cells c width same h =
    let is : width_in p.widths c ≡ width = eqb-true (width_in p.widths c) width h in
    subst (λ n. n ≤ 128) (ap (λ ws. width_in ws c) same ∙ is) (width_in-most cells c)

-- the cells of a binary operator are there, and their widths stand beside each other
pub operands-there : (p : Program) (cells : List Bits) (op : BinaryOp) (left right to : ℕ) → map width_of cells ≡ p.widths
    → IsTrue (operands_fit p op left right to) → AreOperands op (map width_of cells) left right to
operands-there p cells op left right to same h =
    let t = operands_fit-parts p op left right to h in
    subst (λ ws. AreOperands op ws left right to) (sym same)
    (record {
      first = ltb-true left (length p.widths) t.1;
      second = ltb-true right (length p.widths) t.2;
      target = ltb-true to (length p.widths) (is_own-cell p to t.0);
      fits = t.3;
    })

-- a cell that fits a number of times
pub repeat-most : (p : Program) (cells : List Bits) (times part to : ℕ) → map width_of cells ≡ p.widths
    → IsTrue (has_width p to (times * width_in p.widths part)) → times * width_in (map width_of cells) part ≤ 128
repeat-most p cells times part to same h =
    subst (λ ws. times * width_in ws part ≤ 128) (sym same) (has_width-most p cells to (times * width_in p.widths part) same h)

-- some bits of a cell
pub slice-value : (cells : List Bits) (arg from width : ℕ) (word : Bits) → arg < length cells
    → value_of word ≡ held (map width_of cells) (valuation_of cells) arg
    → value_of word / 2 ^ from % 2 ^ width ≡ number width (λ b. valuation_of cells arg (from + b))
slice-value cells arg from width word h e =
    let found = slice_get-some cells arg h in
    ap (λ n. n / 2 ^ from % 2 ^ width) (e ∙ held-word cells arg found.0 found.1)
    ∙ sym (number-word_part cells arg from width found.0 found.1)

-- the words of the signals
pub words-now : (p : Program) (cells : List Bits) → IsSound p → map width_of cells ≡ p.widths
    → AreWordsOf (signals_of p) (take (count_of p) cells)
words-now p cells sound same = record { widths = sym (take-map width_of (count_of p) cells) ∙ ap (take (count_of p)) same ∙ sound.now }

-- and those of later updates
pub words-later : (p : Program) (cells : List Bits) → IsSound p → map width_of cells ≡ p.widths
    → AreWordsOf (signals_of p) (take (count_of p) (drop (count_of p) cells))
words-later p cells sound same = record {
  widths = sym (take-map width_of (count_of p) (drop (count_of p) cells))
      ∙ ap (take (count_of p)) (sym (drop-map width_of (count_of p) cells) ∙ ap (drop (count_of p)) same)
      ∙ sound.later;
}

-- an element of a list's images
pub image-at : {X Y : Type 0} (f : X → Y) (xs : List X) (i : ℕ) (y : Y) → slice_get (map f xs) i ≡ Some y
    → (x : X) × (slice_get xs i ≡ Some x) × (f x ≡ y)
image-at f xs i y is = option_map-some f (slice_get xs i) y (sym (slice_get-map f xs i) ∙ is)

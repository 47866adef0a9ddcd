-- What the nodes of names mean, by what the names stand for.
use Rattle.std.proofs.Common.{◌≡◌, ℕ, ◌+◌, ◌<◌, ◌≤◌, Bool, true, false, ◌&&◌, List, [], ◌∷◌, Option, Some, None, refl, ap, sym, subst, ◌∙◌, arith}
use Rattle.std.specs.Prelude.{if◌then◌else◌, not, ◌||◌, nat_lt, ℤ, pos, negsuc, ◌+ℤ◌, ◌-ℤ◌}
use Rattle.std.specs.Option.{option_and_then}
use Rattle.std.proofs.lemmas.Bool.{and_parts, ltb-true, not-false}
use Rattle.std.proofs.lemmas.Int.{ints}
use Rattle.loc_base.specs.Word.{extended}
use Rattle.loc_base.specs.declared.span.Span.{Span}
use Rattle.design_core.specs.declared.signal.Signal.{Signal}
use Rattle.design_core.specs.declared.expression.Typed.{Typed}
use Rattle.design_core.specs.declared.expression.Node.{Node}
use Rattle.design_core.specs.declared.expression.Node.TheVariants as node
use Rattle.design_core.specs.Valuation.{Valuation, number, distance_of, place_within, bit_or_zero, word_at}
use Rattle.design_core.proofs.NumberLaws.{number-zero, number-suc, number-same}
use Rattle.v_sizes.specs.Selected.{bit_at_index, part_number, part_distance, part_offset, base_index, descends, bits_within}
use Rattle.v_sizes.specs.Sizing.{Sizing, own, integer, known, Word, Chosen, one_bit, some_bits, chosen_width, chosen_value, is_chosen_by_constants, has_no_bit, names_no_bit, word_bits, word_sizing, has_known_size}
use Rattle.v_sizes.specs.declared.error.WidthErr.TheVariants as fault
use Rattle.v_sizes.specs.Refusals.{when, chosen_fault, word_fault, is_bad_part}
use Rattle.v_sizes.specs.Sized.{sized, carried, Select, signal_node, word_node, word_part}
use Rattle.v_sizes.specs.Context.{HasRange, IsThere}
use Rattle.v_sizes.proofs.Parts.{distance-step}
use Rattle.v_sizes.proofs.Steady.{IsSteady, integer-steady}
use Rattle.v_sizes.proofs.Accepted.{when-none, or_false, not_zero}
use Rattle.v_sizes.proofs.Meant.{Within, Meant, carried-meant}
use Rattle.v_sizes.proofs.Selects.{slice-meant}
use Rattle.v_sizes.proofs.Arrays.{word-meant}
use Rattle.v_sizes.proofs.WordParts.{Addressed, addressed_bits, word_part-meant}
use Rattle.v_sizes.proofs.Names.{MeantSelect, one_index, two_indexes, selected-meant, chosen-within}

-- all selects of a name
pub data MeantSelects (signals : List Signal) : List Select → List Chosen → Type 0 where
  none : MeantSelects signals [] []
  more : {s : Select} {c : Chosen} {ss : List Select} {cs : List Chosen} → MeantSelect signals s c → MeantSelects signals ss cs → MeantSelects signals (s ∷ ss) (c ∷ cs)

pub within-range : (width : ℕ) (left right : ℤ) → HasRange width left right → Within width
within-range width left right range = record { least = range.least; most = range.most }

-- ---- what is known of a select that isn't refused
-- its size is known, and where its index must be a constant, it is one
pub chosen-known : (span : Span) (all down : Bool) (c : Chosen) → chosen_fault span all down c ≡ None → (has_known_size c ≡ true) × (all ≡ true → is_chosen_by_constants c ≡ true)
chosen-known span all down c h =
    let one = (when-none (not (has_known_size c) || (all && not (is_chosen_by_constants c))) (fault.NotConstant span) (when (is_bad_part down c) (fault.Range span) None) h).0 in
    let two = or_false (not (has_known_size c)) (all && not (is_chosen_by_constants c)) one in
    (not-false (has_known_size c) two.0, λ is. not-false (is_chosen_by_constants c) (sym (ap (λ a. a && not (is_chosen_by_constants c)) is) ∙ two.1))

-- ---- signals
-- a name without a select, or with one
pub signal-meant : (signals : List Signal) {ss : List Select} {cs : List Chosen} (width : ℕ) (left right : ℤ) (signal : ℕ) (all : Node) (size : ℕ) (own_signed signed : Bool) (span : Span) (fixed down : Bool)
    → Within width → IsThere signals width left right signal → Meant signals (sized width signed all) width signed (λ V. number width (V signal))
    → MeantSelects signals ss cs → word_fault span false fixed down cs ≡ None → Within size
    → (word_sizing width own_signed false (λ V. record { width = width; left = left; right = right; bits = V signal }) cs).width ≤ size
    → Meant signals (carried size signed (word_sizing width own_signed false (λ V. record { width = width; left = left; right = right; bits = V signal }) cs).width (signal_node signal width left right all ss))
    size signed (λ V. (word_sizing width own_signed false (λ V. record { width = width; left = left; right = right; bits = V signal }) cs).value V size signed)
signal-meant signals width left right signal all size own_signed signed span fixed down within there whole none accepted fits wide =
    carried-meant signals all width size signed (λ V. number width (V signal)) fits wide whole
signal-meant signals width left right signal all size own_signed signed span fixed down within there whole (more {c = c} {ss = ss} one none) accepted fits wide =
    carried-meant signals (signal_node signal width left right all (_ ∷ [])) (chosen_width c) size signed
    (λ V. chosen_value (record { width = width; left = left; right = right; bits = V signal }) (c ∷ []) V) fits wide
    (selected-meant signals width left right signal all signed [] [] there one (chosen-known span fixed down c accepted).0)
signal-meant signals width left right signal all size own_signed signed span fixed down within there whole (more one (more two rest)) accepted fits wide = cc

-- ---- arrays
-- the word at an address is one of the array's signals
word-place : (first count : ℕ) (low address : ℤ) (signal : ℕ) → word_at first count low address ≡ Some signal → (k : ℕ) × (k < count) × (first + k ≡ signal)
word-place first count low address signal h = found (place_within count (address -ℤ low)) refl h
  where
    below-count : (d : ℤ) (k : ℕ) → place_within count d ≡ Some k → k < count
    below-count (pos n) k e = by (nat_lt n count) refl e
      where
        by : (holds : Bool) → nat_lt n count ≡ holds → (if holds then Some n else None) ≡ Some k → k < count
        by true is same = let e : n ≡ k = cc in subst (λ m. m < count) e (ltb-true n count is)
        by false is same = cc
    below-count (negsuc n) k e = cc

    found : (o : Option ℕ) → place_within count (address -ℤ low) ≡ o → option_and_then (λ k. Some (first + k)) o ≡ Some signal → (k : ℕ) × (k < count) × (first + k ≡ signal)
    found None is e = cc
    found (Some k) is e = (k, below-count (address -ℤ low) k is, cc)

-- an array's words, its address by a steady expression
pub record ArrayOf (signals : List Signal) : Type 0 where
  pub width : ℕ
  pub left : ℤ
  pub right : ℤ
  pub first : ℕ
  pub count : ℕ
  pub low : ℤ
  pub range : HasRange width left right
  pub some : 1 ≤ count
  pub there : (k : ℕ) → k < count → IsThere signals width left right (first + k)
  pub index : Typed
  pub of : Sizing
  pub steady : IsSteady of
  pub meant : Meant signals index of.width of.signed (own of)

abbrev pub addressed : {signals : List Signal} → ArrayOf signals → Addressed signals
addressed a = record {
  width = a.width;
  left = a.left;
  right = a.right;
  first = a.first;
  count = a.count;
  low = a.low;
  some = a.some;
  there = a.there;
  wide = a.range.most;
  index = a.index;
  of = a.of;
  meant = a.meant;
}

abbrev pub array_word : {signals : List Signal} → ArrayOf signals → Valuation → Word
array_word a V = record { width = a.width; left = a.left; right = a.right; bits = word_bits V (word_at a.first a.count a.low (integer a.of V)) }

from-zero : (width : ℕ) (bits : ℕ → Bool) → number width (λ b. bits (0 + b)) ≡ number width bits
from-zero width bits = number-same width (λ b. bits (0 + b)) bits (λ b below. let same : 0 + b ≡ b = omega arith in ap bits same)

-- a word at a constant address is a signal
pub fixed-word : (signals : List Signal) {ss : List Select} {cs : List Chosen} (a : ArrayOf signals) (signal size : ℕ) (own_signed signed : Bool) (span : Span) (down : Bool)
    → a.of.constant ≡ true → word_at a.first a.count a.low (known a.of) ≡ Some signal → MeantSelects signals ss cs → word_fault span false true down cs ≡ None → Within size
    → (word_sizing a.width own_signed false (array_word a) cs).width ≤ size
    → Meant signals (carried size signed (word_sizing a.width own_signed false (array_word a) cs).width (signal_node signal a.width a.left a.right (node.Slice signal 0 a.width) ss))
    size signed (λ V. (word_sizing a.width own_signed false (array_word a) cs).value V size signed)
fixed-word signals {ss = ss} {cs = cs} a signal size own_signed signed span down fixed at selects accepted fits wide =
    let place = word-place a.first a.count a.low (known a.of) signal at in
    let there : IsThere signals a.width a.left a.right signal = subst (λ n. IsThere signals a.width a.left a.right n) place.2 (a.there place.0 place.1) in
    let within = within-range a.width a.left a.right a.range in
    let slice = slice-meant signals a.width a.left a.right signal 0 a.width signed within (omega arith) there in
    let all : Meant signals (sized a.width signed (node.Slice signal 0 a.width)) a.width signed (λ V. number a.width (V signal)) =
    record { of_width = slice.of_width; of_sign = slice.of_sign; means = λ V. slice.means V ∙ from-zero a.width (V signal); fits = slice.fits } in
    same cs (signal-meant signals a.width a.left a.right signal (node.Slice signal 0 a.width) size own_signed signed span true down within there all selects accepted fits (narrow cs wide))
  where
    read : (V : Valuation) → word_at a.first a.count a.low (integer a.of V) ≡ Some signal
    read V = ap (word_at a.first a.count a.low) (integer-steady a.of a.steady fixed V) ∙ at

    word_is : (V : Valuation) (c : List Chosen) → chosen_value (array_word a V) c V ≡ chosen_value (record { width = a.width; left = a.left; right = a.right; bits = V signal }) c V
    word_is V c = ap (λ o. chosen_value (record { width = a.width; left = a.left; right = a.right; bits = word_bits V o }) c V) (read V)

    narrow : (c : List Chosen) → (word_sizing a.width own_signed false (array_word a) c).width ≤ size
        → (word_sizing a.width own_signed false (λ V. record { width = a.width; left = a.left; right = a.right; bits = V signal }) c).width ≤ size
    narrow [] h = h
    narrow (x ∷ xs) h = h

    same : (c : List Chosen)
        → Meant signals (carried size signed (word_sizing a.width own_signed false (λ V. record { width = a.width; left = a.left; right = a.right; bits = V signal }) c).width (signal_node signal a.width a.left a.right (node.Slice signal 0 a.width) ss))
        size signed (λ V. (word_sizing a.width own_signed false (λ V. record { width = a.width; left = a.left; right = a.right; bits = V signal }) c).value V size signed)
        → Meant signals (carried size signed (word_sizing a.width own_signed false (array_word a) c).width (signal_node signal a.width a.left a.right (node.Slice signal 0 a.width) ss))
        size signed (λ V. (word_sizing a.width own_signed false (array_word a) c).value V size signed)
    same [] m = record { of_width = m.of_width; of_sign = m.of_sign; means = λ V. m.means V ∙ sym (ap (extended signed a.width size) (word_is V [])); fits = m.fits }
    same (x ∷ xs) m = record { of_width = m.of_width; of_sign = m.of_sign; means = λ V. m.means V ∙ sym (ap (extended signed (chosen_width x) size) (word_is V (x ∷ xs))); fits = m.fits }

-- how far the first bit of a select by constants lies from bit 0 of a word
abbrev pub chosen_distance : ℤ → ℤ → Chosen → ℤ
chosen_distance left right (one_bit x) = distance_of left right (known x)
chosen_distance left right (some_bits k x y) = part_distance left right k (known x) (known y) (chosen_width (some_bits k x y))

-- far bits are those of the indexes that are written
index-bits : (signals : List Signal) {s : Select} {c : Chosen} (w : Word) → MeantSelect signals s c → is_chosen_by_constants c ≡ true → (V : Valuation)
    → number (chosen_width c) (λ b. bit_or_zero w.bits (place_within w.width (chosen_distance w.left w.right c +ℤ pos b))) ≡ chosen_value w (c ∷ []) V
index-bits signals w (one_index {x = x} steady meant) fixed V =
    let still : distance_of w.left w.right (known x) +ℤ pos 0 ≡ distance_of w.left w.right (known x) = omega (arith, ints) in
    number-suc 0 (λ b. bit_or_zero w.bits (place_within w.width (distance_of w.left w.right (known x) +ℤ pos b)))
    ∙ ap (λ n. n + (if bit_or_zero w.bits (place_within w.width (distance_of w.left w.right (known x) +ℤ pos 0)) then 1 else 0))
    (number-zero (λ b. bit_or_zero w.bits (place_within w.width (distance_of w.left w.right (known x) +ℤ pos b))))
    ∙ ap (λ d. 0 + (if bit_or_zero w.bits (place_within w.width d) then 1 else 0)) still
    ∙ ap (λ i. 0 + (if bit_at_index w.bits w.width w.left w.right i then 1 else 0)) (sym (integer-steady x steady fixed V))
    ∙ alone (bit_at_index w.bits w.width w.left w.right (integer x V))
  where
    alone : (x : Bool) → 0 + (if x then 1 else 0) ≡ (if x then 1 else 0)
    alone true = refl
    alone false = refl
index-bits signals w (two_indexes {k = k} {x = x} {y = y} steady meant steady_other meant_other) fixed V =
    let two = and_parts x.constant y.constant fixed in
    let count = chosen_width (some_bits k x y) in
    number-same count (λ b. bit_or_zero w.bits (place_within w.width (part_distance w.left w.right k (known x) (known y) count +ℤ pos b)))
    (λ b. bit_at_index w.bits w.width w.left w.right (base_index k (known x) (known y) +ℤ part_offset k (descends w.left w.right) count b))
    (λ b below. sym (ap (λ d. bit_or_zero w.bits (place_within w.width d)) (distance-step w.left w.right k (known x) (known y) count b below)))
    ∙ ap (λ i. part_number w.bits w.width w.left w.right (base_index k i (known y)) count (part_offset k (descends w.left w.right) count)) (sym (integer-steady x steady two.0 V))
    ∙ ap (λ i. part_number w.bits w.width w.left w.right (base_index k (integer x V) i) count (part_offset k (descends w.left w.right) count)) (sym (integer-steady y steady_other two.1 V))

-- some bits of them are there
some-bits : (width : ℕ) (left right : ℤ) (c : Chosen) → has_no_bit width left right c ≡ false → 1 ≤ bits_within width (chosen_width c) (chosen_distance left right c)
some-bits width left right (one_bit x) h = not_zero (bits_within width 1 (distance_of left right (known x))) h
some-bits width left right (some_bits k x y) h =
    not_zero (bits_within width (chosen_width (some_bits k x y)) (part_distance left right k (known x) (known y) (chosen_width (some_bits k x y)))) h

-- the node of a select of a word at a variable address
word-node : (signals : List Signal) {s : Select} {c : Chosen} (a : ArrayOf signals) (rest : List Select) → MeantSelect signals s c
    → word_node a.first a.count a.low a.width a.left a.right a.index (s ∷ rest) ≡ word_part a.first a.count a.low a.index a.width (chosen_width c) (chosen_distance a.left a.right c)
word-node signals a rest (one_index steady meant) = refl
word-node signals a rest (two_indexes steady meant steady_other meant_other) = refl

-- a word at a variable address, or some of its bits
pub variable-word : (signals : List Signal) {ss : List Select} {cs : List Chosen} (a : ArrayOf signals) (size : ℕ) (own_signed signed : Bool) (span : Span) (down : Bool)
    → names_no_bit a.width a.left a.right cs ≡ false → MeantSelects signals ss cs → word_fault span false true down cs ≡ None → Within size
    → (word_sizing a.width own_signed false (array_word a) cs).width ≤ size
    → Meant signals (carried size signed (word_sizing a.width own_signed false (array_word a) cs).width (word_node a.first a.count a.low a.width a.left a.right a.index ss))
    size signed (λ V. (word_sizing a.width own_signed false (array_word a) cs).value V size signed)
variable-word signals a size own_signed signed span down names none accepted fits wide =
    let within = within-range a.width a.left a.right a.range in
    let w = word-meant signals a.width a.left a.right a.first a.count a.low 0 a.width a.index a.of signed within (omega arith) a.some a.there a.meant in
    carried-meant signals (node.Word a.first a.count a.low a.index 0 a.width) a.width size signed (λ V. number a.width (addressed_bits (addressed a) V)) fits wide
    (record { of_width = w.of_width; of_sign = w.of_sign; means = λ V. w.means V ∙ from-zero a.width (addressed_bits (addressed a) V); fits = w.fits })
variable-word signals a size own_signed signed span down names (more {s = s} {c = c} one none) accepted fits wide =
    let constants = (chosen-known span true down c accepted).1 refl in
    let some = some-bits a.width a.left a.right c (no_and (is_chosen_by_constants c) (has_no_bit a.width a.left a.right c) constants names) in
    let w = word_part-meant signals (addressed a) (chosen_width c) (chosen_distance a.left a.right c) signed (chosen-within c) some in
    subst (λ n. Meant signals (carried size signed (chosen_width c) n) size signed (λ V. extended signed (chosen_width c) size (chosen_value (array_word a V) (c ∷ []) V))) (sym (word-node signals a [] one))
    (carried-meant signals (word_part a.first a.count a.low a.index a.width (chosen_width c) (chosen_distance a.left a.right c)) (chosen_width c) size signed
    (λ V. chosen_value (array_word a V) (c ∷ []) V) fits wide
    (record { of_width = w.of_width; of_sign = w.of_sign; means = λ V. w.means V ∙ index-bits signals (array_word a V) one constants V; fits = w.fits })
    )
  where
    no_and : (x y : Bool) → x ≡ true → (x && y) ≡ false → y ≡ false
    no_and true y is h = h
    no_and false y is h = cc
variable-word signals a size own_signed signed span down names (more one (more two rest)) accepted fits wide = cc

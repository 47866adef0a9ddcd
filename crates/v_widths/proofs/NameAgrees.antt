-- That what the pass up gives of a name with its selects is what its definition says, where it is so of the indexes.
use Rattle.std.proofs.Common.{◌≡◌, ℕ, ◌^◌, ◌<◌, Bool, true, false, ◌&&◌, List, [], ◌∷◌, map, Option, Some, None, refl, ap, sym, subst, ◌∙◌, arith}
use Rattle.std.specs.Prelude.{if◌then◌else◌, not, ◌||◌, ◌==◌, ℤ, pos}
use Rattle.std.specs.List.{list_all}
use Rattle.std.specs.Option.{option_or}
use Rattle.std.proofs.lemmas.Bool.{and_parts}
use Rattle.loc_base.specs.declared.span.Span.{Span}
use Rattle.loc_base.specs.Bits.{width_of, value_of}
use Rattle.loc_base.specs.Word.{extended}
use Rattle.v_syntax.specs.declared.expression.PartKind.{PartKind}
use Rattle.v_syntax.specs.declared.expression.PartKind.TheVariants as kind
use Rattle.design_core.specs.declared.expression.Typed.{Typed}
use Rattle.design_core.specs.declared.expression.Node.{Node}
use Rattle.design_core.specs.declared.expression.Node.TheVariants as node
use Rattle.design_core.specs.Constant.{zeros}
use Rattle.design_core.specs.Valuation.{Valuation, bit, word_at, distance_of}
use Rattle.v_sizes.specs.declared.error.WidthErr.{WidthErr}
use Rattle.v_sizes.specs.declared.error.WidthErr.TheVariants as fault
use Rattle.v_sizes.specs.declared.meaning.Meaning.{Meaning}
use Rattle.v_sizes.specs.declared.meaning.Meaning.TheVariants as meaning
use Rattle.v_sizes.specs.Literal.{limited}
use Rattle.v_sizes.specs.Refusals.{when, is_bad_width, is_bad_part, chosen_fault, word_fault, name_fault, first_of}
use Rattle.v_sizes.specs.Selected.{part_count, runs_along, base_index, part_offset, part_number, part_distance, bit_at_index, bits_within, descends}
use Rattle.v_sizes.specs.Sizing.{Sizing, own, integer, known, Chosen, one_bit, some_bits, Word, has_known_size, chosen_width, chosen_value, is_chosen_by_constants, has_no_bit, names_no_bit, is_none, word_bits, word_sizing, meaning_sizing, name_sizing}
use Rattle.v_sizes.specs.Sized.{carried, folded, Select, bit_select, part_select, start_of, signal_part, base_of, signal_node, word_part, word_node, name_node}
use Rattle.v_sizes.proofs.Meant.{Within, extended-same}
use Rattle.v_sizes.proofs.Accepted.{or-none, first_of-none}
use Rattle.v_sizes.proofs.Law.{meaning-below}
use Rattle.v_sizes.proofs.Steady.{zero_word}
use Rattle.v_selects.specs.declared.closed.Closed.{Closed}
use Rattle.v_selects.specs.declared.closed.Picked.{Picked}
use Rattle.v_selects.specs.declared.closed.Picked.TheVariants as picked
use Rattle.v_selects.specs.Named.{chosen_in, select_in, picked_faults}
use Rattle.v_widths.specs.Named.{named}
use Rattle.v_selects.specs.Taken.{taken}
use Rattle.v_widths.proofs.Agrees.{IsClosed, IsMeasured, IsTaken, own-law, never, and-same}
use Rattle.v_selects.proofs.NameLaws.{known-integer}

-- two sizes that show the same constant
pub record Alike (x y : Sizing) : Type 0 where
  pub constant_in : x.constant ≡ y.constant
  pub known_in : known x ≡ known y

pub data ChosenAlike : Chosen → Chosen → Type 0 where
  bits_alike : {x y : Sizing} → Alike x y → ChosenAlike (one_bit x) (one_bit y)
  parts_alike : {x y v w : Sizing} → (k : PartKind) → Alike x y → Alike v w → ChosenAlike (some_bits k x v) (some_bits k y w)

pub data AllAlike : List Chosen → List Chosen → Type 0 where
  none_alike : AllAlike [] []
  more_alike : {c d : Chosen} {cs ds : List Chosen} → ChosenAlike c d → AllAlike cs ds → AllAlike (c ∷ cs) (d ∷ ds)

same-integer : {x y : Sizing} → Alike x y → y.constant ≡ true → integer x zeros ≡ integer y zeros
same-integer {x} {y} alike is = known-integer x (alike.constant_in ∙ is) ∙ alike.known_in ∙ sym (known-integer y is)

same-size_known : {c d : Chosen} → ChosenAlike c d → has_known_size c ≡ has_known_size d
same-size_known (bits_alike alike) = refl
same-size_known (parts_alike {x} {y} {v} {w} kind.Range one other) = and-same x.constant v.constant y.constant w.constant one.constant_in other.constant_in
same-size_known (parts_alike kind.Up one other) = other.constant_in
same-size_known (parts_alike kind.Down one other) = other.constant_in

same-width : {c d : Chosen} → ChosenAlike c d → chosen_width c ≡ chosen_width d
same-width (bits_alike alike) = refl
same-width (parts_alike {x} {y} {v} {w} k one other) =
    ap (λ b. if b then limited (part_count k (known x) (known v)) else 1) (same-size_known (parts_alike k one other))
    ∙ ap (λ n. if has_known_size (some_bits k y w) then limited (part_count k n (known v)) else 1) one.known_in
    ∙ ap (λ n. if has_known_size (some_bits k y w) then limited (part_count k (known y) n) else 1) other.known_in

same-constants : {c d : Chosen} → ChosenAlike c d → is_chosen_by_constants c ≡ is_chosen_by_constants d
same-constants (bits_alike alike) = alike.constant_in
same-constants (parts_alike {x} {y} {v} {w} k one other) = and-same x.constant v.constant y.constant w.constant one.constant_in other.constant_in

all-constants : {cs ds : List Chosen} → AllAlike cs ds → list_all is_chosen_by_constants cs ≡ list_all is_chosen_by_constants ds
all-constants none_alike = refl
all-constants (more_alike {c} {d} {cs} {ds} one rest) =
    and-same (is_chosen_by_constants c) (list_all is_chosen_by_constants cs) (is_chosen_by_constants d) (list_all is_chosen_by_constants ds)
    (same-constants one) (all-constants rest)

same-distance : (left right : ℤ) (k : PartKind) {x y v w : Sizing} → Alike x y → Alike v w
    → part_distance left right k (known x) (known v) (chosen_width (some_bits k x v)) ≡ part_distance left right k (known y) (known w) (chosen_width (some_bits k y w))
same-distance left right k {x} {y} {v} {w} one other =
    ap (λ n. part_distance left right k n (known v) (chosen_width (some_bits k x v))) one.known_in
    ∙ ap (λ n. part_distance left right k (known y) n (chosen_width (some_bits k x v))) other.known_in
    ∙ ap (part_distance left right k (known y) (known w)) (same-width (parts_alike k one other))

same-no_bit : (width : ℕ) (left right : ℤ) {c d : Chosen} → ChosenAlike c d → has_no_bit width left right c ≡ has_no_bit width left right d
same-no_bit width left right (bits_alike alike) = ap (λ n. bits_within width 1 (distance_of left right n) == 0) alike.known_in
same-no_bit width left right (parts_alike {x} {y} {v} {w} k one other) =
    ap (λ n. bits_within width n (part_distance left right k (known x) (known v) (chosen_width (some_bits k x v))) == 0) (same-width (parts_alike k one other))
    ∙ ap (λ n. bits_within width (chosen_width (some_bits k y w)) n == 0) (same-distance left right k one other)

all-no_bit : (width : ℕ) (left right : ℤ) {cs ds : List Chosen} → AllAlike cs ds → names_no_bit width left right cs ≡ names_no_bit width left right ds
all-no_bit width left right none_alike = refl
all-no_bit width left right (more_alike {c} {d} one rest) =
    and-same (is_chosen_by_constants c) (has_no_bit width left right c) (is_chosen_by_constants d) (has_no_bit width left right d)
    (same-constants one) (same-no_bit width left right one)

-- ---- faults
same-bad : (down : Bool) {c d : Chosen} → ChosenAlike c d → is_bad_part down c ≡ is_bad_part down d
same-bad down (bits_alike alike) = refl
same-bad down (parts_alike {x} {y} {v} {w} k one other) =
    ap (λ n. not (runs_along k down n (known v)) || is_bad_width (part_count k n (known v))) one.known_in
    ∙ ap (λ n. not (runs_along k down (known y) n) || is_bad_width (part_count k (known y) n)) other.known_in

same-chosen_fault : (span : Span) (all down : Bool) {c d : Chosen} → ChosenAlike c d → chosen_fault span all down c ≡ chosen_fault span all down d
same-chosen_fault span all down {c} {d} alike =
    ap (λ b. when (not b || (all && not (is_chosen_by_constants c))) (fault.NotConstant span) (when (is_bad_part down c) (fault.Range span) None)) (same-size_known alike)
    ∙ ap (λ b. when (not (has_known_size d) || (all && not b)) (fault.NotConstant span) (when (is_bad_part down c) (fault.Range span) None)) (same-constants alike)
    ∙ ap (λ b. when (not (has_known_size d) || (all && not (is_chosen_by_constants d))) (fault.NotConstant span) (when b (fault.Range span) None)) (same-bad down alike)

same-word_fault : (span : Span) (signal all down : Bool) {cs ds : List Chosen} → AllAlike cs ds → word_fault span signal all down cs ≡ word_fault span signal all down ds
same-word_fault span signal all down none_alike = refl
same-word_fault span signal all down (more_alike one none_alike) = ap (when signal (fault.NotConstant span)) (same-chosen_fault span all down one)
same-word_fault span signal all down (more_alike one (more_alike other rest)) = refl

same-name_fault : (span : Span) (only : Bool) (m : Option Meaning) {cs ds : List Chosen} → AllAlike cs ds → name_fault span only m cs ≡ name_fault span only m ds
same-name_fault span only None alike = refl
same-name_fault span only (Some (meaning.Constant value left right)) alike = same-word_fault span false true (descends left right) alike
same-name_fault span only (Some (meaning.Signal signal width signed left right)) alike = same-word_fault span only false (descends left right) alike
same-name_fault span only (Some (meaning.Array first count low width signed left right)) none_alike = refl
same-name_fault span only (Some (meaning.Array first count low width signed left right)) (more_alike (parts_alike k one other) rest) = refl
same-name_fault span only (Some (meaning.Array first count low width signed left right)) (more_alike (bits_alike alike) rest) =
    same-word_fault span only true (descends left right) rest

-- ---- sizes
-- the width and the sign of a word with its selects don't hang on its bits, nor on what makes it a constant
word-width : (width : ℕ) (signed one other : Bool) (word word_other : Valuation → Word) {cs ds : List Chosen} → AllAlike cs ds
    → (word_sizing width signed one word cs).width ≡ (word_sizing width signed other word_other ds).width
word-width width signed one other word word_other none_alike = refl
word-width width signed one other word word_other (more_alike alike rest) = same-width alike

word-sign : (width : ℕ) (signed one other : Bool) (word word_other : Valuation → Word) {cs ds : List Chosen} → AllAlike cs ds
    → (word_sizing width signed one word cs).signed ≡ (word_sizing width signed other word_other ds).signed
word-sign width signed one other word word_other none_alike = refl
word-sign width signed one other word word_other (more_alike alike rest) = refl

word-constant : (width : ℕ) (signed one other : Bool) (word word_other : Valuation → Word) {cs ds : List Chosen} → one ≡ other → AllAlike cs ds
    → (word_sizing width signed one word cs).constant ≡ (word_sizing width signed other word_other ds).constant
word-constant width signed one other word word_other same none_alike = same
word-constant width signed one other word word_other same (more_alike alike rest) = same

-- the value of a word with its selects, in a context and by itself
word-values : (width : ℕ) (signed constant_one : Bool) (word : Valuation → Word) (cs : List Chosen) (V : Valuation) (size : ℕ) (as_signed : Bool)
    → (word_sizing width signed constant_one word cs).value V size as_signed ≡ extended as_signed (word_sizing width signed constant_one word cs).width size (chosen_value (word V) cs V)
word-values width signed constant_one word [] V size as_signed = refl
word-values width signed constant_one word (c ∷ rest) V size as_signed = refl

word-own : (width : ℕ) (signed constant_one : Bool) (word : Valuation → Word) (cs : List Chosen) (V : Valuation)
    → own (word_sizing width signed constant_one word cs) V ≡ chosen_value (word V) cs V
word-own width signed constant_one word cs V =
    let s = word_sizing width signed constant_one word cs in
    word-values width signed constant_one word cs V s.width s.signed ∙ extended-same s.signed s.width (chosen_value (word V) cs V)

-- two words with selects of the same value
word-same : (width : ℕ) (signed one other : Bool) (word word_other : Valuation → Word) {cs ds : List Chosen} → AllAlike cs ds
    → chosen_value (word zeros) cs zeros ≡ chosen_value (word_other zeros) ds zeros → (size : ℕ) (as_signed : Bool)
    → (word_sizing width signed other word_other ds).value zeros size as_signed
    ≡ extended as_signed (word_sizing width signed one word cs).width size (own (word_sizing width signed one word cs) zeros)
word-same width signed one other word word_other {cs} {ds} alike same size as_signed =
    word-values width signed other word_other ds zeros size as_signed
    ∙ ap (λ w. extended as_signed w size (chosen_value (word_other zeros) ds zeros)) (sym (word-width width signed one other word word_other alike))
    ∙ ap (extended as_signed (word_sizing width signed one word cs).width size) (sym same ∙ sym (word-own width signed one word cs zeros))

-- selects by constants choose the same bits
chosen-same : (w : Word) {cs ds : List Chosen} → AllAlike cs ds → list_all is_chosen_by_constants ds ≡ true → chosen_value w cs zeros ≡ chosen_value w ds zeros
chosen-same w none_alike holds = refl
chosen-same w (more_alike {cs = cs} {ds = ds} (bits_alike {x} {y} alike) rest) holds =
    ap (λ n. if bit_at_index w.bits w.width w.left w.right n then 1 else 0) (same-integer alike (and_parts y.constant (list_all is_chosen_by_constants ds) holds).0)
chosen-same w (more_alike {cs = cs} {ds = ds} (parts_alike {x} {y} {v} {w = z} k one other) rest) holds =
    let both = and_parts y.constant z.constant (and_parts (y.constant && z.constant) (list_all is_chosen_by_constants ds) holds).0 in
    let part = λ (i j : ℤ) (n : ℕ). part_number w.bits w.width w.left w.right (base_index k i j) n (part_offset k (descends w.left w.right) n) in
    ap (λ i. part i (integer v zeros) (chosen_width (some_bits k x v))) (same-integer one both.0)
    ∙ ap (λ j. part (integer y zeros) j (chosen_width (some_bits k x v))) (same-integer other both.1)
    ∙ ap (part (integer y zeros) (integer z zeros)) (same-width (parts_alike k one other))

-- the bits of a word of an array, where all signals are 0
no-bits : (word : Option ℕ) (width : ℕ) (left right : ℤ) (cs : List Chosen)
    → chosen_value (record { width = width; left = left; right = right; bits = word_bits zeros word }) cs zeros ≡ 0
no-bits None width left right cs = zero_word width left right cs zeros
no-bits (Some signal) width left right cs = zero_word width left right cs zeros

array-constant : (first count : ℕ) (low : ℤ) (width : ℕ) (left right : ℤ) {x y : Sizing} {cs ds : List Chosen} → Alike x y → AllAlike cs ds
    → (if x.constant then is_none (word_at first count low (known x)) else names_no_bit width left right cs)
    ≡ (if y.constant then is_none (word_at first count low (known y)) else names_no_bit width left right ds)
array-constant first count low width left right {x} {y} {cs} {ds} alike rest =
    ap (λ b. if b then is_none (word_at first count low (known x)) else names_no_bit width left right cs) alike.constant_in
    ∙ ap (λ n. if y.constant then is_none (word_at first count low n) else names_no_bit width left right cs) alike.known_in
    ∙ ap (λ b. if y.constant then is_none (word_at first count low (known y)) else b) (all-no_bit width left right rest)

abbrev array-word : ℕ → ℕ → ℤ → ℕ → ℤ → ℤ → Sizing → Valuation → Word
array-word first count low width left right index V =
    record { width = width; left = left; right = right; bits = word_bits V (word_at first count low (integer index V)) }

-- the sizes of a name with two lists of selects that show the same
pub record SameSizes (one other : Sizing) : Type 0 where
  pub width : one.width ≡ other.width
  pub sign : one.signed ≡ other.signed
  pub constants : one.constant ≡ other.constant
  pub values : other.constant ≡ true → (size : ℕ) (signed : Bool) → other.value zeros size signed ≡ extended signed one.width size (own one zeros)

meaning-same : (m : Meaning) {cs ds : List Chosen} → AllAlike cs ds → SameSizes (meaning_sizing m cs) (meaning_sizing m ds)
meaning-same (meaning.Constant value left right) {cs} {ds} alike =
    let word : Valuation → Word = λ V. record { width = width_of value.bits; left = left; right = right; bits = bit (value_of value.bits) } in
    let one = list_all is_chosen_by_constants cs in
    let other = list_all is_chosen_by_constants ds in
    record {
      width = word-width (width_of value.bits) value.signed one other word word alike;
      sign = word-sign (width_of value.bits) value.signed one other word word alike;
      constants = word-constant (width_of value.bits) value.signed one other word word (all-constants alike) alike;
      values = λ holds. word-same (width_of value.bits) value.signed one other word word alike
          (chosen-same (word zeros) alike (constant-of (width_of value.bits) value.signed other word ds holds));
    }
  where
    constant-of : (width : ℕ) (signed b : Bool) (word : Valuation → Word) (cs : List Chosen) → (word_sizing width signed b word cs).constant ≡ true → b ≡ true
    constant-of width signed b word [] h = h
    constant-of width signed b word (c ∷ rest) h = h
meaning-same (meaning.Signal signal width signed left right) {cs} {ds} alike =
    let word : Valuation → Word = λ V. record { width = width; left = left; right = right; bits = V signal } in
    record {
      width = word-width width signed false false word word alike;
      sign = word-sign width signed false false word word alike;
      constants = word-constant width signed false false word word refl alike;
      values = λ holds. word-same width signed false false word word alike
          (zero_word width left right cs zeros ∙ sym (zero_word width left right ds zeros));
    }
meaning-same (meaning.Array first count low width signed left right) none_alike = record { width = refl; sign = refl; constants = refl; values = λ holds. never (sym holds) }
meaning-same (meaning.Array first count low width signed left right) (more_alike (parts_alike k one other) rest) =
    record { width = refl; sign = refl; constants = refl; values = λ holds. never (sym holds) }
meaning-same (meaning.Array first count low width signed left right) (more_alike {cs = cs} {ds = ds} (bits_alike {x} {y} alike) rest) =
    let one = if x.constant then is_none (word_at first count low (known x)) else names_no_bit width left right cs in
    let other = if y.constant then is_none (word_at first count low (known y)) else names_no_bit width left right ds in
    let word = array-word first count low width left right x in
    let word_other = array-word first count low width left right y in
    record {
      width = word-width width signed one other word word_other rest;
      sign = word-sign width signed one other word word_other rest;
      constants = word-constant width signed one other word word_other (array-constant first count low width left right alike rest) rest;
      values = λ holds. word-same width signed one other word word_other rest
          (no-bits (word_at first count low (integer x zeros)) width left right cs ∙ sym (no-bits (word_at first count low (integer y zeros)) width left right ds));
    }

name-same : (m : Option Meaning) {cs ds : List Chosen} → AllAlike cs ds → SameSizes (name_sizing m cs) (name_sizing m ds)
name-same None alike = record { width = refl; sign = refl; constants = refl; values = λ holds. never (sym holds) }
name-same (Some m) alike = meaning-same m alike

name-below : (m : Option Meaning) (cs : List Chosen) → (name_sizing m cs).constant ≡ true → own (name_sizing m cs) zeros < 2 ^ (name_sizing m cs).width
name-below None cs holds = never (sym holds)
name-below (Some m) cs holds = meaning-below m cs zeros (meaning_sizing m cs).width (meaning_sizing m cs).signed (omega arith)

-- ---- nodes
-- two selects that show the same, with the same sized expressions
pub data SelectAlike : Select → Select → Type 0 where
  bit_selects : {x y : Sizing} → (t u : Typed) → t ≡ u → Alike x y → SelectAlike (bit_select x t) (bit_select y u)
  part_selects : {x y v w : Sizing} → (k : PartKind) (t u s r : Typed) → t ≡ u → s ≡ r → Alike x y → Alike v w
      → SelectAlike (part_select k x t v s) (part_select k y u w r)

pub data SelectsAlike : List Select → List Select → Type 0 where
  no_selects : SelectsAlike [] []
  more_selects : {c d : Select} {cs ds : List Select} → SelectAlike c d → SelectsAlike cs ds → SelectsAlike (c ∷ cs) (d ∷ ds)

same-base : {x y v w : Sizing} (k : PartKind) → Alike x y → Alike v w → (base_of k x v).constant ≡ (base_of k y w).constant
same-base kind.Range one other = other.constant_in
same-base kind.Up one other = one.constant_in
same-base kind.Down one other = one.constant_in

signal-same : (signal width : ℕ) (left right : ℤ) (all : Node) {cs ds : List Select} → SelectsAlike cs ds
    → signal_node signal width left right all cs ≡ signal_node signal width left right all ds
signal-same signal width left right all no_selects = refl
signal-same signal width left right all (more_selects (bit_selects {x} {y} t u same alike) rest) =
    ap (λ b. signal_part signal (if b then start_of width 1 (distance_of left right (known x)) else None) 1 t (λ _. pos 0)) alike.constant_in
    ∙ ap (λ n. signal_part signal (if y.constant then start_of width 1 (distance_of left right n) else None) 1 t (λ _. pos 0)) alike.known_in
    ∙ ap (λ i. signal_part signal (if y.constant then start_of width 1 (distance_of left right (known y)) else None) 1 i (λ _. pos 0)) same
signal-same signal width left right all (more_selects (part_selects {x} {y} {v} {w} k t u s r same same_other one other) rest) =
    let count = chosen_width (some_bits k x v) in
    let count_other = chosen_width (some_bits k y w) in
    let made = λ (b : Bool) (n : ℕ) (d : ℤ) (i : Typed). signal_part signal (if b then start_of width n d else None) n i (part_offset k (descends left right) n) in
    ap (λ b. made b count (part_distance left right k (known x) (known v) count) (base_of k t s)) (same-base k one other)
    ∙ ap (λ d. made (base_of k y w).constant count d (base_of k t s)) (same-distance left right k one other)
    ∙ ap (λ n. made (base_of k y w).constant n (part_distance left right k (known y) (known w) count_other) (base_of k t s)) (same-width (parts_alike k one other))
    ∙ ap (λ i. made (base_of k y w).constant count_other (part_distance left right k (known y) (known w) count_other) (base_of k i s)) same
    ∙ ap (λ i. made (base_of k y w).constant count_other (part_distance left right k (known y) (known w) count_other) (base_of k u i)) same_other

array-same : (first count : ℕ) (low : ℤ) (width : ℕ) (left right : ℤ) (t u : Typed) → t ≡ u → {cs ds : List Select} → SelectsAlike cs ds
    → word_node first count low width left right t cs ≡ word_node first count low width left right u ds
array-same first count low width left right t u index no_selects = ap (λ i. node.Word first count low i 0 width) index
array-same first count low width left right t u index (more_selects (bit_selects {x} {y} a b same alike) rest) =
    ap (λ i. word_part first count low i width 1 (distance_of left right (known x))) index
    ∙ ap (λ n. word_part first count low u width 1 (distance_of left right n)) alike.known_in
array-same first count low width left right t u index (more_selects (part_selects {x} {y} {v} {w} k a b c d same same_other one other) rest) =
    let size = chosen_width (some_bits k x v) in
    let size_other = chosen_width (some_bits k y w) in
    ap (λ i. word_part first count low i width size (part_distance left right k (known x) (known v) size)) index
    ∙ ap (λ n. word_part first count low u width size n) (same-distance left right k one other)
    ∙ ap (λ n. word_part first count low u width n (part_distance left right k (known y) (known w) size_other)) (same-width (parts_alike k one other))

node-same : (m : Option Meaning) {cs ds : List Select} → SelectsAlike cs ds → name_node m cs ≡ name_node m ds
node-same None alike = refl
node-same (Some (meaning.Constant value left right)) alike = refl
node-same (Some (meaning.Signal signal width signed left right)) alike = signal-same signal width left right (node.Whole signal) alike
node-same (Some (meaning.Array first count low width signed left right)) no_selects = refl
node-same (Some (meaning.Array first count low width signed left right)) (more_selects (part_selects k t u s r same same_other one other) rest) = refl
node-same (Some (meaning.Array first count low width signed left right)) (more_selects {cs = cs} {ds = ds} (bit_selects {x} {y} t u same alike) rest) =
    ap (λ b. choice (if b then word_at first count low (known x) else None) t cs) alike.constant_in
    ∙ ap (λ n. choice (if y.constant then word_at first count low n else None) t cs) alike.known_in
    ∙ by (if y.constant then word_at first count low (known y) else None)
  where
    choice : Option ℕ → Typed → List Select → Node
    choice word index selects =
        elim word [
          | Some signal ↦ signal_node signal width left right (node.Slice signal 0 width) selects
          | None ↦ word_node first count low width left right index selects
        ]

    by : (word : Option ℕ) → choice word t cs ≡ choice word u ds
    by (Some signal) = signal-same signal width left right (node.Slice signal 0 width) rest
    by None = array-same first count low width left right t u same rest

-- ---- names
-- selects whose indexes are finished, as their sizes, faults and sized expressions say
pub data AllPicked : List Picked → List Chosen → Option WidthErr → List Select → Type 0 where
  none_picked : AllPicked [] [] None []
  bit_picked : {ps : List Picked} {cs : List Chosen} {fs : Option WidthErr} {ss : List Select} → (e : Sizing) (f : Option WidthErr) (t : Typed) (c : Closed)
      → IsTaken e c → IsClosed e f t e.width e.signed c → AllPicked ps cs fs ss
      → AllPicked (picked.Bit c ∷ ps) (one_bit e ∷ cs) (option_or f fs) (bit_select e t ∷ ss)
  part_picked : {ps : List Picked} {cs : List Chosen} {fs : Option WidthErr} {ss : List Select} → (k : PartKind) (e g : Sizing) (f h : Option WidthErr) (t u : Typed) (c d : Closed)
      → IsTaken e c → IsClosed e f t e.width e.signed c → IsTaken g d → IsClosed g h u g.width g.signed d → AllPicked ps cs fs ss
      → AllPicked (picked.Part k c d ∷ ps) (some_bits k e g ∷ cs) (first_of f h fs) (part_select k e t g u ∷ ss)

alike : (e : Sizing) (c : Closed) → IsTaken e c → Alike (taken c) e
alike e c is = record { constant_in = is.constant; known_in = is.same_known }

picked-alike : {ps : List Picked} {cs : List Chosen} {fs : Option WidthErr} {ss : List Select} → AllPicked ps cs fs ss → AllAlike (map chosen_in ps) cs
picked-alike none_picked = none_alike
picked-alike (bit_picked e f t c taken_is closed_is rest) = more_alike (bits_alike (alike e c taken_is)) (picked-alike rest)
picked-alike (part_picked k e g f h t u c d taken_is closed_is other_taken other_closed rest) =
    more_alike (parts_alike k (alike e c taken_is) (alike g d other_taken)) (picked-alike rest)

three-faults : (a b c : Option WidthErr) → option_or (option_or a b) c ≡ option_or a (option_or b c)
three-faults None b c = refl
three-faults (Some x) b c = refl

picked-faults : {ps : List Picked} {cs : List Chosen} {fs : Option WidthErr} {ss : List Select} → AllPicked ps cs fs ss → picked_faults ps ≡ fs
picked-faults none_picked = refl
picked-faults (bit_picked {ps} e f t c taken_is closed_is rest) = ap (λ x. option_or x (picked_faults ps)) closed_is.fault ∙ ap (option_or f) (picked-faults rest)
picked-faults (part_picked {ps} k e g f h t u c d taken_is closed_is other_taken other_closed rest) =
    three-faults c.fault d.fault (picked_faults ps) ∙ ap (λ x. option_or x (option_or d.fault (picked_faults ps))) closed_is.fault
    ∙ ap (λ x. option_or f (option_or x (picked_faults ps))) other_closed.fault ∙ ap (λ x. option_or f (option_or h x)) (picked-faults rest)

picked-selects : {ps : List Picked} {cs : List Chosen} {fs : Option WidthErr} {ss : List Select} → AllPicked ps cs fs ss → fs ≡ None → SelectsAlike (map select_in ps) ss
picked-selects none_picked accepted = no_selects
picked-selects (bit_picked {fs = fs} e f t c taken_is closed_is rest) accepted =
    let both = or-none f fs accepted in
    more_selects (bit_selects c.typed t (closed_is.made both.0) (alike e c taken_is)) (picked-selects rest both.1)
picked-selects (part_picked {fs = fs} k e g f h t u c d taken_is closed_is other_taken other_closed rest) accepted =
    let all = first_of-none f h fs accepted in
    more_selects (part_selects k c.typed t d.typed u (closed_is.made all.0) (other_closed.made all.1) (alike e c taken_is) (alike g d other_taken)) (picked-selects rest all.2)

pub name-law : (span : Span) (only : Bool) (m : Option Meaning) (ps : List Picked) (cs : List Chosen) (fs : Option WidthErr) (ss : List Select)
    → AllPicked ps cs fs ss → Within (name_sizing m cs).width
    → IsMeasured (name_sizing m cs) (λ size signed. option_or fs (name_fault span only m cs))
    (λ size signed. folded (name_sizing m cs) size signed (carried size signed (name_sizing m cs).width (name_node m ss))) (named span only m ps)
name-law span only m ps cs fs ss all within =
    let of = name_sizing m cs in
    let mine = name_sizing m (map chosen_in ps) in
    let same = name-same m (picked-alike all) in
    own-law of (option_or fs (name_fault span only m cs)) (option_or (picked_faults ps) (name_fault span only m (map chosen_in ps)))
    (λ size signed. folded of size signed (carried size signed of.width (name_node m ss)))
    mine.width mine.signed mine.constant (own mine zeros) (name_node m (map select_in ps)) (name_node m ss)
    same.width same.sign same.constants (subst Within (sym same.width) within)
    (ap (λ f. option_or f (name_fault span only m (map chosen_in ps))) (picked-faults all) ∙ ap (option_or fs) (same-name_fault span only m (picked-alike all)))
    (λ holds. name-below m (map chosen_in ps) (same.constants ∙ holds))
    (λ size signed holds. same.values holds size signed)
    (λ size signed accepted. ap (λ w. folded of size signed (carried size signed w (name_node m ss))) (sym same.width))
    (λ accepted fails. node-same m (picked-selects all (sym (picked-faults all) ∙ (or-none (picked_faults ps) (name_fault span only m (map chosen_in ps)) accepted).0)))

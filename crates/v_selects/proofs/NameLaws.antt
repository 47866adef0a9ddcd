-- The numbers of names that are constants.
use Rattle.std.proofs.Common.{◌≡◌, ℕ, zero, suc, ◌+◌, ◌-◌, ◌^◌, ◌%◌, ◌<◌, ◌≤◌, ap, arith, ◌∙◌, sym, subst, refl}
use Rattle.std.specs.Prelude.{Bool, true, false, not, ◌&&◌, ◌||◌, ◌==◌, if◌then◌else◌, List, [], ◌∷◌, map, Option, Some, None, is_some, length, ℤ, pos, ◌+ℤ◌}
use Rattle.std.specs.Option.{option_or}
use Rattle.std.specs.List.{list_all}
use Rattle.std.proofs.Math.Nat.{mod-eq_of_lt}
use Rattle.std.proofs.lemmas.Bool.{and_parts}
use Rattle.loc_base.specs.Bits.{width_of, value_of, value_of-range}
use Rattle.loc_base.specs.Word.{extended, is_negative}
use Rattle.v_syntax.specs.declared.expression.PartKind.TheVariants as kind
use Rattle.design_core.specs.Constant.{zeros}
use Rattle.design_core.specs.Valuation.{Valuation, number, bit, word_at, distance_of}
use Rattle.design_core.proofs.NumberLaws.{number-bit, number-same, number-zero, number-suc}
use Rattle.v_sizes.specs.declared.meaning.Const.{Const}
use Rattle.v_sizes.specs.declared.meaning.Meaning.TheVariants as meaning
use Rattle.v_sizes.specs.Selected.{part_number, part_offset, bit_at_index, base_index, descends, bits_within}
use Rattle.v_sizes.specs.Sizing.{Sizing, own, integer, known, Word, Chosen, one_bit, some_bits, chosen_width, chosen_value, is_chosen_by_constants, has_no_bit, names_no_bit, is_none, has_known_size, word_bits, word_sizing, meaning_sizing, name_sizing}
use Rattle.v_sizes.proofs.Steady.{IsSteady, ChosenSteady, zero_word, none-of, no_bit-value}
use Rattle.v_selects.specs.declared.closed.Closed.{Closed}
use Rattle.v_selects.specs.declared.closed.Picked.{Picked}
use Rattle.v_selects.specs.declared.closed.Picked.TheVariants as picked
use Rattle.v_selects.specs.declared.name_size.OwnSize.{OwnSize}
use Rattle.v_selects.specs.Sizes.{IsSizeOf}
use Rattle.v_selects.specs.Named.{chosen_in}
use Rattle.v_selects.specs.Taken.{taken}
use Rattle.v_selects.specs.Picked.{kind_of, known_base, first_distance, HasSome, IsReadable}
use Rattle.v_sizes.specs.declared.error.WidthErr.{WidthErr}
use Rattle.v_sizes.specs.declared.error.WidthErr.TheVariants as fault
use Rattle.v_sizes.specs.declared.meaning.Meaning.{Meaning}
use Rattle.loc_base.specs.declared.span.Span.{Span}
use Rattle.loc_base.specs.declared.bits.Bits.{Bits}
use Rattle.v_sizes.specs.Refusals.{when, is_bad_part, chosen_fault, word_fault, name_fault}
use Rattle.v_sizes.specs.Literal.{limited}
use Rattle.v_sizes.specs.Word.{word}
use Rattle.v_sizes.proofs.SameWord.{same_word}
use Rattle.v_selects.proofs.Picking.{one-offset, one-distance}
use Rattle.v_sizes.proofs.Accepted.{when-none, not_zero}
use Rattle.v_sizes.proofs.Meant.{extended-same}
use Rattle.loc_base.proofs.ShelfBools.{not-false}

-- a constant as it is
pub constant-whole : (value : Const) (left right : ℤ) → own (meaning_sizing (meaning.Constant value left right) []) zeros ≡ value_of value.bits
constant-whole value left right =
    let w = width_of value.bits in
    extended-same value.signed w (number w (bit (value_of value.bits))) ∙ number-bit w (value_of value.bits) ∙ mod-eq_of_lt (value_of-range value.bits)

-- a constant's number is known
pub known-integer : (x : Sizing) → x.constant ≡ true → integer x zeros ≡ known x
known-integer x is = sym (ap (λ holds. if holds then integer x zeros else pos 0) is)

-- one bit as a part
bit-number : (bits : ℕ → Bool) (width : ℕ) (left right index : ℤ)
    → part_number bits width left right index 1 (part_offset kind.Up (descends left right) 1) ≡ (if bit_at_index bits width left right index then 1 else 0)
bit-number bits width left right index =
    number-suc 0 (λ b. bit_at_index bits width left right (index +ℤ part_offset kind.Up (descends left right) 1 b))
    ∙ ap (λ n. n + (if bit_at_index bits width left right (index +ℤ part_offset kind.Up (descends left right) 1 0) then 1 else 0))
    (number-zero (λ b. bit_at_index bits width left right (index +ℤ part_offset kind.Up (descends left right) 1 b)))
    ∙ ap (λ i. 0 + (if bit_at_index bits width left right i then 1 else 0)) (one-offset (descends left right) index)
    ∙ alone (bit_at_index bits width left right index)
  where
    alone : (x : Bool) → 0 + (if x then 1 else 0) ≡ (if x then 1 else 0)
    alone true = refl
    alone false = refl

-- the bits of a select by constants
pub picked-value : (w : Word) (c : Chosen) (rest : List Chosen) → is_chosen_by_constants c ≡ true
    → chosen_value w (c ∷ rest) zeros ≡ part_number w.bits w.width w.left w.right (known_base c) (chosen_width c) (part_offset (kind_of c) (descends w.left w.right) (chosen_width c))
picked-value w (one_bit x) rest is =
    ap (λ i. if bit_at_index w.bits w.width w.left w.right i then 1 else 0) (known-integer x is) ∙ sym (bit-number w.bits w.width w.left w.right (known x))
picked-value w (some_bits k one other) rest is =
    let parts = and_parts one.constant other.constant is in
    let count = chosen_width (some_bits k one other) in
    ap (λ i. part_number w.bits w.width w.left w.right (base_index k i (integer other zeros)) count (part_offset k (descends w.left w.right) count)) (known-integer one parts.0)
    ∙ ap (λ i. part_number w.bits w.width w.left w.right (base_index k (known one) i) count (part_offset k (descends w.left w.right) count)) (known-integer other parts.1)

pub constant-part : (value : Const) (left right : ℤ) (c : Chosen) (rest : List Chosen) → list_all is_chosen_by_constants (c ∷ rest) ≡ true
    → own (meaning_sizing (meaning.Constant value left right) (c ∷ rest)) zeros
    ≡ part_number (bit (value_of value.bits)) (width_of value.bits) left right (known_base c) (chosen_width c) (part_offset (kind_of c) (descends left right) (chosen_width c))
constant-part value left right c rest is =
    let w : Word = record { width = width_of value.bits; left = left; right = right; bits = bit (value_of value.bits) } in
    picked-value w c rest (and_parts (is_chosen_by_constants c) (list_all is_chosen_by_constants rest) is).0

pub ruleset constants = (constant-whole, constant-part)

-- ---- words of arrays
-- what a finished operand shows is steady
taken-steady : (e : Closed) → IsSteady (taken e)
taken-steady e is V size signed = refl

picked-steady : (p : Picked) → ChosenSteady (chosen_in p)
picked-steady (picked.Bit index) = taken-steady index
picked-steady (picked.Part k one other) = (taken-steady one, taken-steady other)

-- a word of an array is a constant only where none of its bits is there
pub array-zero : (first count : ℕ) (low : ℤ) (width : ℕ) (signed : Bool) (left right : ℤ) (index : Closed) (rest : List Picked)
    → (meaning_sizing (meaning.Array first count low width signed left right) (one_bit (taken index) ∷ map chosen_in rest)).constant ≡ true
    → own (meaning_sizing (meaning.Array first count low width signed left right) (one_bit (taken index) ∷ map chosen_in rest)) zeros ≡ 0
array-zero first count low width signed left right index rest is = by index.constant refl rest is
  where
    word : Word
    word = record { width = width; left = left; right = right; bits = word_bits zeros (word_at first count low (integer (taken index) zeros)) }

    there : index.constant ≡ true → is_none (word_at first count low (known (taken index))) ≡ true → word_at first count low (integer (taken index) zeros) ≡ None
    there fixed missing = ap (word_at first count low) (known-integer (taken index) fixed) ∙ none-of (word_at first count low (known (taken index))) missing

    zero : (cs : List Chosen) → word_at first count low (integer (taken index) zeros) ≡ None → chosen_value word cs zeros ≡ 0
    zero cs missing =
        ap (λ o. chosen_value (record { width = width; left = left; right = right; bits = word_bits zeros o }) cs zeros) missing ∙ zero_word width left right cs zeros

    by : (fixed : Bool) → index.constant ≡ fixed → (ps : List Picked)
        → (word_sizing width signed (if fixed then is_none (word_at first count low (known (taken index))) else names_no_bit width left right (map chosen_in ps)) (λ V. record { width = width; left = left; right = right; bits = word_bits V (word_at first count low (integer (taken index) V)) }) (map chosen_in ps)).constant ≡ true
        → own (word_sizing width signed (if fixed then is_none (word_at first count low (known (taken index))) else names_no_bit width left right (map chosen_in ps)) (λ V. record { width = width; left = left; right = right; bits = word_bits V (word_at first count low (integer (taken index) V)) }) (map chosen_in ps)) zeros ≡ 0
    by true fixed [] missing = extended-same signed width (chosen_value word [] zeros) ∙ zero [] (there fixed missing)
    by true fixed (p ∷ ps) missing =
        extended-same false (chosen_width (chosen_in p)) (chosen_value word (chosen_in p ∷ map chosen_in ps) zeros) ∙ zero (chosen_in p ∷ map chosen_in ps) (there fixed missing)
    by false fixed [] missing = cc
    by false fixed (p ∷ ps) missing =
        let parts = and_parts (is_chosen_by_constants (chosen_in p)) (has_no_bit width left right (chosen_in p)) missing in
        extended-same false (chosen_width (chosen_in p)) (chosen_value word (chosen_in p ∷ map chosen_in ps) zeros)
        ∙ no_bit-value word (chosen_in p) (map chosen_in ps) (picked-steady p) parts.0 parts.1 zeros

-- the size of a word of an array
pub zero-size : (size : OwnSize) (first count : ℕ) (low : ℤ) (width : ℕ) (signed : Bool) (left right : ℤ) (index : Closed) (rest : List Picked)
    → size.width ≡ (meaning_sizing (meaning.Array first count low width signed left right) (one_bit (taken index) ∷ map chosen_in rest)).width
    → size.signed ≡ (meaning_sizing (meaning.Array first count low width signed left right) (one_bit (taken index) ∷ map chosen_in rest)).signed
    → size.constant ≡ (meaning_sizing (meaning.Array first count low width signed left right) (one_bit (taken index) ∷ map chosen_in rest)).constant
    → size.number ≡ 0
    → IsSizeOf size (meaning_sizing (meaning.Array first count low width signed left right) (one_bit (taken index) ∷ map chosen_in rest))
zero-size size first count low width signed left right index rest w s c n =
    record { of_width = w; of_sign = s; of_constant = c; of_number = λ is. n ∙ sym (array-zero first count low width signed left right index rest is) }

pub whole-size : (value : Const) (left right : ℤ) (size : OwnSize) → size.width ≡ width_of value.bits → size.signed ≡ value.signed → size.constant ≡ true → size.number ≡ value_of value.bits
    → IsSizeOf size (meaning_sizing (meaning.Constant value left right) [])
whole-size value left right size w s c n = record { of_width = w; of_sign = s; of_constant = c; of_number = λ is. n ∙ sym (constant-whole value left right) }

-- whether a word of an array is a constant is said in the same way of it and of its selects
pub array-constant : (first count : ℕ) (low : ℤ) (width : ℕ) (signed : Bool) (left right : ℤ) (index : Closed) (rest : List Picked)
    → (meaning_sizing (meaning.Array first count low width signed left right) (one_bit (taken index) ∷ map chosen_in rest)).constant
    ≡ (if index.constant then is_none (word_at first count low (known (taken index))) else names_no_bit width left right (map chosen_in rest))
array-constant first count low width signed left right index [] = refl
array-constant first count low width signed left right index (one ∷ rest) = refl

-- ---- names that aren't refused and are no constants
or-false : (a b : Bool) → (a || b) ≡ false → b ≡ false
or-false true b h = cc
or-false false b h = h

and-false : (a b : Bool) → a ≡ true → (a && b) ≡ false → b ≡ false
and-false true b is h = h
and-false false b is h = cc

some-there : (width : ℕ) (left right : ℤ) (c : Chosen) → has_no_bit width left right c ≡ false → 1 ≤ bits_within width (chosen_width c) (first_distance left right c)
some-there width left right (one_bit x) h =
    subst (λ d. 1 ≤ bits_within width 1 d) (sym (one-distance left right x)) (not_zero (bits_within width 1 (distance_of left right (known x))) h)
some-there width left right (some_bits k x y) h =
    not_zero (bits_within width (chosen_width (some_bits k x y)) (first_distance left right (some_bits k x y))) h

selects-there : (span : Span) (only down : Bool) (width : ℕ) (left right : ℤ) (rest : List Picked)
    → word_fault span only true down (map chosen_in rest) ≡ None → names_no_bit width left right (map chosen_in rest) ≡ false → HasSome width left right rest
selects-there span only down width left right [] fault names = tt
selects-there span only down width left right (one ∷ []) none names =
    let c = chosen_in one in
    let own : chosen_fault span true down c ≡ None = (when-none only (fault.NotConstant span) (chosen_fault span true down c) none).1 in
    let bad : (not (has_known_size c) || not (is_chosen_by_constants c)) ≡ false =
    (when-none (not (has_known_size c) || not (is_chosen_by_constants c)) (fault.NotConstant span) (when (is_bad_part down c) (fault.Range span) None) own).0 in
    let constants : is_chosen_by_constants c ≡ true = not-false (is_chosen_by_constants c) (or-false (not (has_known_size c)) (not (is_chosen_by_constants c)) bad) in
    some-there width left right c (and-false (is_chosen_by_constants c) (has_no_bit width left right c) constants names)
selects-there span only down width left right (one ∷ two ∷ rest) fault names = cc

pub readable : (span : Span) (only : Bool) (m : Meaning) (selects : List Picked) → name_fault span only (Some m) (map chosen_in selects) ≡ None
    → (meaning_sizing m (map chosen_in selects)).constant ≡ false → IsReadable m selects
readable span only (meaning.Constant _ _ _) selects fault varies = tt
readable span only (meaning.Signal _ _ _ _ _) selects fault varies = tt
readable span only (meaning.Array _ _ _ _ _ _ _) [] fault varies = tt
readable span only (meaning.Array _ _ _ _ _ _ _) (picked.Part _ _ _ ∷ _) fault varies = tt
readable span only (meaning.Array first count low width signed left right) (picked.Bit index ∷ rest) fault varies =
    let is : (if index.constant then is_none (word_at first count low (known (taken index))) else names_no_bit width left right (map chosen_in rest)) ≡ false =
    sym (array-constant first count low width signed left right index rest) ∙ varies in (
      λ moves. selects-there span only (descends left right) width left right rest fault
          (sym (ap (λ b. if b then is_none (word_at first count low (known (taken index))) else names_no_bit width left right (map chosen_in rest)) moves) ∙ is),
      λ stays. sym (ap (λ b. if b then is_none (word_at first count low (known (taken index))) else names_no_bit width left right (map chosen_in rest)) stays) ∙ is,
    )

-- the word of a constant
word-width : (width number : ℕ) → width_of (word width number) ≡ limited width
unfolding word
word-width width number = refl

word-value : (width number : ℕ) → value_of (word width number) ≡ number % 2 ^ limited width
unfolding word
word-value width number = refl

pub word-limited : (b : Bits) (width number : ℕ) → width_of b ≡ limited width → value_of b ≡ number % 2 ^ limited width → b ≡ word width number
word-limited b width number w v = same_word b (word width number) (w ∙ sym (word-width width number)) (v ∙ sym (word-value width number))

pub ruleset limited_words = (word-limited)

pub no-items : (xs : List Picked) → length xs ≡ 0 → xs ≡ []
no-items [] h = refl
no-items (x ∷ xs) h = absurd (omega (arith, h))

own-none : (before own : Option WidthErr) → is_some (option_or before own) ≡ false → own ≡ None
own-none (Some x) own h = cc
own-none None (Some x) h = cc
own-none None None h = refl

pub readable-where : (span : Span) (only : Bool) (m : Option Meaning) (selects : List Picked) (before own : Option WidthErr) (constant : Bool)
    → own ≡ name_fault span only m (map chosen_in selects) → is_some (option_or before own) ≡ false
    → constant ≡ (name_sizing m (map chosen_in selects)).constant → constant ≡ false
    → (some : Meaning) → m ≡ Some some → IsReadable some selects
readable-where span only m selects before own constant is accepted size varies some there =
    readable span only some selects
    (subst (λ o. name_fault span only o (map chosen_in selects) ≡ None) there (sym is ∙ own-none before own accepted))
    (subst (λ o. (name_sizing o (map chosen_in selects)).constant ≡ false) there (sym size ∙ varies))

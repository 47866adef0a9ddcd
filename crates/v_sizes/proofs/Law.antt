-- A sized expression means what the expression means in its context, and fits it.
use Rattle.std.proofs.Common.{◌≡◌, ℕ, ◌+◌, ◌-◌, ◌^◌, ◌<◌, ◌≤◌, Bool, true, false, ◌&&◌, List, [], ◌∷◌, Option, Some, None, refl, ap, sym, subst, ◌∙◌, arith}
use Rattle.std.specs.Prelude.{if◌then◌else◌, ◌+ℤ◌}
use Rattle.std.specs.List.{list_all}
use Rattle.std.proofs.lemmas.Nat.{pow_pos}
use Rattle.loc_base.specs.declared.span.Span.{Span}
use Rattle.loc_base.specs.Bits.{width_of, value_of}
use Rattle.loc_base.specs.Word.{extended, is_negative}
use Rattle.loc_base.proofs.Modulo.{wider}
use Rattle.design_core.specs.declared.signal.Signal.{Signal}
use Rattle.design_core.specs.declared.expression.Typed.{Typed}
use Rattle.design_core.specs.declared.expression.Node.TheVariants as node
use Rattle.design_core.specs.Valuation.{Valuation, number, bit, word_at}
use Rattle.design_core.specs.Constant.{zeros}
use Rattle.design_core.proofs.NumberLaws.{number-below}
use Rattle.v_sizes.specs.declared.meaning.Meaning.{Meaning}
use Rattle.v_sizes.specs.declared.meaning.Meaning.TheVariants as meaning
use Rattle.v_sizes.specs.Selected.{bit_at_index, descends, part_offset, base_index}
use Rattle.v_sizes.specs.Sizing.{Sizing, own, integer, known, Word, Chosen, one_bit, some_bits, chosen_width, chosen_value, is_chosen_by_constants, names_no_bit, is_none, word_bits, word_sizing, meaning_sizing}
use Rattle.v_sizes.specs.Refusals.{word_fault, name_fault}
use Rattle.v_sizes.specs.Sized.{constant, carried, folded, Select, signal_node, word_node, meaning_node}
use Rattle.v_sizes.specs.Context.{IsMeaning, IsAmong}
use Rattle.v_sizes.proofs.Steady.{IsSteady}
use Rattle.v_sizes.proofs.Meant.{Within, Meant, constant-meant}
use Rattle.v_sizes.proofs.Selects.{whole-meant}
use Rattle.v_sizes.proofs.Names.{one_index, two_indexes}
use Rattle.v_sizes.proofs.Meanings.{MeantSelects, none, more, within-range, chosen-known, signal-meant, ArrayOf, array_word, fixed-word, variable-word}

-- ---- names
-- a constant where the expression is one, else what its parts make
pub folded-by : (signals : List Signal) (e : Sizing) (width : ℕ) (signed : Bool) (shape : Typed) → Within width → IsSteady e
    → e.value zeros width signed < 2 ^ width → (e.constant ≡ false → Meant signals shape width signed (λ V. e.value V width signed))
    → Meant signals (folded e width signed shape) width signed (λ V. e.value V width signed)
folded-by signals e width signed shape within steady low meant = by e.constant refl
  where
    by : (holds : Bool) → e.constant ≡ holds
        → Meant signals (if holds then constant width signed (e.value zeros width signed) else shape) width signed (λ V. e.value V width signed)
    by true is =
        let known = constant-meant signals width signed (e.value zeros width signed) within low in
        record { of_width = known.of_width; of_sign = known.of_sign; means = λ V. known.means V ∙ sym (steady is V width signed); fits = known.fits }
    by false is = meant is

pub extended-below : (signed : Bool) (own size value : ℕ) → value < 2 ^ own → own ≤ size → extended signed own size value < 2 ^ size
extended-below signed own size value low wide = by (signed && is_negative own value)
  where
    by : (high : Bool) → (if high then value + (2 ^ size - 2 ^ own) else value) < 2 ^ size
    by true = omega (arith, low, wider own size wide)
    by false = omega (arith, low, wider own size wide)

bit-below : (bit : Bool) → (if bit then 1 else 0) < 2 ^ 1
bit-below true = omega arith
bit-below false = omega arith

chosen-below : (w : Word) (c : Chosen) (rest : List Chosen) (V : Valuation) → chosen_value w (c ∷ rest) V < 2 ^ chosen_width c
chosen-below w (one_bit x) rest V = bit-below (bit_at_index w.bits w.width w.left w.right (integer x V))
chosen-below w (some_bits k x y) rest V = number-below (chosen_width (some_bits k x y)) (λ b. bit_at_index w.bits w.width w.left w.right (base_index k (integer x V) (integer y V) +ℤ part_offset k (descends w.left w.right) (chosen_width (some_bits k x y)) b))

word-below : (width : ℕ) (own_signed constant : Bool) (word : Valuation → Word) (cs : List Chosen) (V : Valuation) (size : ℕ) (signed : Bool)
    → ((U : Valuation) → (word U).width ≡ width) → (word_sizing width own_signed constant word cs).width ≤ size
    → (word_sizing width own_signed constant word cs).value V size signed < 2 ^ size
word-below width own_signed constant word [] V size signed same wide =
    extended-below signed width size (number (word V).width (word V).bits) (subst (λ w. number (word V).width (word V).bits < 2 ^ w) (same V) (number-below (word V).width (word V).bits)) wide
word-below width own_signed constant word (c ∷ rest) V size signed same wide =
    extended-below signed (chosen_width c) size (chosen_value (word V) (c ∷ rest) V) (chosen-below (word V) c rest V) wide

pub meaning-below : (m : Meaning) (cs : List Chosen) (V : Valuation) (size : ℕ) (signed : Bool) → (meaning_sizing m cs).width ≤ size → (meaning_sizing m cs).value V size signed < 2 ^ size
meaning-below (meaning.Constant value left right) cs V size signed wide =
    word-below (width_of value.bits) value.signed (list_all is_chosen_by_constants cs)
    (λ _. record { width = width_of value.bits; left = left; right = right; bits = bit (value_of value.bits) }) cs V size signed (λ U. refl) wide
meaning-below (meaning.Signal signal width own_signed left right) cs V size signed wide =
    word-below width own_signed false (λ U. record { width = width; left = left; right = right; bits = U signal }) cs V size signed (λ U. refl) wide
meaning-below (meaning.Array first count low width own_signed left right) [] V size signed wide = extended-below signed width size 0 (pow_pos width) wide
meaning-below (meaning.Array first count low width own_signed left right) (some_bits k x y ∷ rest) V size signed wide = extended-below signed width size 0 (pow_pos width) wide
meaning-below (meaning.Array first count low width own_signed left right) (one_bit x ∷ rest) V size signed wide =
    word-below width own_signed (if x.constant then is_none (word_at first count low (known x)) else names_no_bit width left right rest)
    (λ U. record { width = width; left = left; right = right; bits = word_bits U (word_at first count low (integer x U)) }) rest V size signed (λ U. refl) wide

-- whether a word with its selects is a constant
word-constant : (width : ℕ) (own_signed constant : Bool) (word : Valuation → Word) (cs : List Chosen) → (word_sizing width own_signed constant word cs).constant ≡ constant
word-constant width own_signed constant word [] = refl
word-constant width own_signed constant word (c ∷ rest) = refl

-- the width and the values of a word with its selects, whether it is a constant or not
word-width : (width : ℕ) (own_signed one other : Bool) (word : Valuation → Word) (cs : List Chosen)
    → (word_sizing width own_signed one word cs).width ≡ (word_sizing width own_signed other word cs).width
word-width width own_signed one other word [] = refl
word-width width own_signed one other word (c ∷ rest) = refl

-- a name that isn't refused and reads signals
array-meant : (signals : List Signal) {ss : List Select} {cs : List Chosen} (a : ArrayOf signals) (size : ℕ) (own_signed signed : Bool) (span : Span) (down : Bool)
    → MeantSelects signals ss cs → word_fault span false true down cs ≡ None → Within size → (fixed : Bool) → a.of.constant ≡ fixed
    → (word_sizing a.width own_signed (if fixed then is_none (word_at a.first a.count a.low (known a.of)) else names_no_bit a.width a.left a.right cs) (array_word a) cs).constant ≡ false
    → (word_sizing a.width own_signed (if fixed then is_none (word_at a.first a.count a.low (known a.of)) else names_no_bit a.width a.left a.right cs) (array_word a) cs).width ≤ size
    → Meant signals
    (carried size signed (word_sizing a.width own_signed (if fixed then is_none (word_at a.first a.count a.low (known a.of)) else names_no_bit a.width a.left a.right cs) (array_word a) cs).width
    (elim (if fixed then word_at a.first a.count a.low (known a.of) else None) [
      | Some signal ↦ signal_node signal a.width a.left a.right (node.Slice signal 0 a.width) ss
      | None ↦ word_node a.first a.count a.low a.width a.left a.right a.index ss
    ]
    )
    ) size signed
    (λ V. (word_sizing a.width own_signed (if fixed then is_none (word_at a.first a.count a.low (known a.of)) else names_no_bit a.width a.left a.right cs) (array_word a) cs).value V size signed)
array-meant signals {ss = ss} {cs = cs} a size own_signed signed span down selects accepted fits true is varies wide =
    by (word_at a.first a.count a.low (known a.of)) refl (sym (word-constant a.width own_signed (is_none (word_at a.first a.count a.low (known a.of))) (array_word a) cs) ∙ varies) wide
  where
    by : (o : Option ℕ) → word_at a.first a.count a.low (known a.of) ≡ o → is_none o ≡ false
        → (word_sizing a.width own_signed (is_none o) (array_word a) cs).width ≤ size
        → Meant signals
        (carried size signed (word_sizing a.width own_signed (is_none o) (array_word a) cs).width
        (elim o [
          | Some signal ↦ signal_node signal a.width a.left a.right (node.Slice signal 0 a.width) ss
          | None ↦ word_node a.first a.count a.low a.width a.left a.right a.index ss
        ]
        )
        ) size signed (λ V. (word_sizing a.width own_signed (is_none o) (array_word a) cs).value V size signed)
    by None at h less = cc
    by (Some signal) at h less = fixed-word signals a signal size own_signed signed span down is at selects accepted fits less
array-meant signals {ss = ss} {cs = cs} a size own_signed signed span down selects accepted fits false is varies wide =
    by (names_no_bit a.width a.left a.right cs) refl (sym (word-constant a.width own_signed (names_no_bit a.width a.left a.right cs) (array_word a) cs) ∙ varies) wide
  where
    by : (b : Bool) → names_no_bit a.width a.left a.right cs ≡ b → b ≡ false
        → (word_sizing a.width own_signed b (array_word a) cs).width ≤ size
        → Meant signals (carried size signed (word_sizing a.width own_signed b (array_word a) cs).width (word_node a.first a.count a.low a.width a.left a.right a.index ss))
        size signed (λ V. (word_sizing a.width own_signed b (array_word a) cs).value V size signed)
    by true at h less = cc
    by false at h less = variable-word signals a size own_signed signed span down at selects accepted fits less

-- a parameter with selects that aren't refused is a constant
pub parameter-constant : (span : Span) (down : Bool) (cs : List Chosen) → word_fault span false true down cs ≡ None → list_all is_chosen_by_constants cs ≡ true
parameter-constant span down [] accepted = refl
parameter-constant span down (c ∷ []) accepted = ap (λ b. b && true) ((chosen-known span true down c accepted).1 refl)
parameter-constant span down (c ∷ d ∷ rest) accepted = cc

pub meaning-meant : (signals : List Signal) {ss : List Select} {cs : List Chosen} (m : Meaning) (size : ℕ) (signed : Bool) (span : Span)
    → IsMeaning m → IsAmong signals m → MeantSelects signals ss cs → name_fault span false (Some m) cs ≡ None → Within size
    → (meaning_sizing m cs).constant ≡ false → (meaning_sizing m cs).width ≤ size
    → Meant signals (carried size signed (meaning_sizing m cs).width (meaning_node m ss)) size signed (λ V. (meaning_sizing m cs).value V size signed)
meaning-meant signals {cs = cs} (meaning.Constant value left right) size signed span is among selects accepted fits varies wide =
    let holds = parameter-constant span (descends left right) cs accepted in
    let flag = word-constant (width_of value.bits) value.signed (list_all is_chosen_by_constants cs) (λ _. record { width = width_of value.bits; left = left; right = right; bits = bit (value_of value.bits) }) cs in
    let e : true ≡ false = sym holds ∙ sym flag ∙ varies in
    cc
meaning-meant signals (meaning.Signal signal width own_signed left right) size signed span is among selects accepted fits varies wide =
    let within = within-range width left right is in
    signal-meant signals width left right signal (node.Whole signal) size own_signed signed span false (descends left right) within among
    (whole-meant signals width left right signal signed within among) selects accepted fits wide
meaning-meant signals (meaning.Array first count low width own_signed left right) size signed span is among none accepted fits varies wide = cc
meaning-meant signals (meaning.Array first count low width own_signed left right) size signed span is among (more (two_indexes _ _ _ _) rest) accepted fits varies wide = cc
meaning-meant signals (meaning.Array first count low width own_signed left right) size signed span is among (more (one_index {x = x} {t = t} steady meant) rest) accepted fits varies wide =
    array-meant signals
    (record { width = width; left = left; right = right; first = first; count = count; low = low; range = is.0; some = is.1; there = among; index = t; of = x; steady = steady; meant = meant })
    size own_signed signed span (descends left right) rest accepted fits x.constant refl varies wide

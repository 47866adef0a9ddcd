-- Where constants alone are wanted, what isn't refused is a constant.
use Rattle.std.proofs.Common.{◌≡◌, ℕ, Bool, true, false, ◌&&◌, List, [], ◌∷◌, Option, Some, None, refl, ◌∙◌}
use Rattle.std.specs.Prelude.{if◌then◌else◌, max}
use Rattle.std.specs.List.{list_all}
use Rattle.std.proofs.lemmas.Bool.{and_from}
use Rattle.loc_base.specs.declared.span.Span.{Span}
use Rattle.loc_base.specs.Bits.{width_of, value_of}
use Rattle.v_syntax.specs.declared.operator.Unary.{Unary}
use Rattle.v_syntax.specs.declared.operator.SystemFunction.TheVariants as function
use Rattle.v_syntax.specs.Tree.{Tree, Trees, no_tree, tree}
use Rattle.v_syntax.specs.Tree as written
use Rattle.design_core.specs.Constant.{zeros}
use Rattle.design_core.specs.Valuation.{Valuation, bit}
use Rattle.design_core.specs.Operator as operator
use Rattle.v_sizes.specs.declared.error.WidthErr.{WidthErr}
use Rattle.v_sizes.specs.declared.meaning.Meaning.{Meaning}
use Rattle.v_sizes.specs.declared.meaning.Meaning.TheVariants as meaning
use Rattle.v_sizes.specs.Look.{Look}
use Rattle.v_sizes.specs.Operations.{unary_of, Class, by_context, shift, comparison, logical, quotient, remainder, power, class_of, keeps_width}
use Rattle.v_sizes.specs.Selected.{descends}
use Rattle.v_sizes.specs.Refusals.{word_fault, name_fault, by_own, concat_fault, repeat_fault, called_fault, division_fault, power_fault, refusal, parts_refusal, selects_refusal, only_first, only_later}
use Rattle.v_sizes.specs.Sizing.{Sizing, own, by_itself, Chosen, one_bit, some_bits, Word, is_chosen_by_constants, word_sizing, name_sizing, are_constant, unary_sizing, class_sizing, sizing, sizings, chosen_of}
use Rattle.v_sizes.proofs.Accepted.{or-none, first_of-none}
use Rattle.v_widths.proofs.BinaryLaws.{class_faults}
use Rattle.v_widths.proofs.Opened.{class-refusal}
use Rattle.v_sizes.proofs.Law.{parameter-constant}
use Rattle.v_sizes.proofs.Expressions.{never-signal}

word-constant : (width : ℕ) (signed constant : Bool) (word : Valuation → Word) (cs : List Chosen) → constant ≡ true → (word_sizing width signed constant word cs).constant ≡ true
word-constant width signed constant word [] is = is
word-constant width signed constant word (c ∷ rest) is = is

name-constant : (span : Span) (m : Option Meaning) (cs : List Chosen) → name_fault span true m cs ≡ None → (name_sizing m cs).constant ≡ true
name-constant span None cs accepted = cc
name-constant span (Some (meaning.Constant value left right)) cs accepted =
    word-constant (width_of value.bits) value.signed (list_all is_chosen_by_constants cs)
    (λ _. record { width = width_of value.bits; left = left; right = right; bits = bit (value_of value.bits) }) cs (parameter-constant span (descends left right) cs accepted)
name-constant span (Some (meaning.Signal signal width signed left right)) cs accepted = never-signal span false (descends left right) cs accepted
name-constant span (Some (meaning.Array first count low width signed left right)) [] accepted = cc
name-constant span (Some (meaning.Array first count low width signed left right)) (some_bits k x y ∷ rest) accepted = cc
name-constant span (Some (meaning.Array first count low width signed left right)) (one_bit x ∷ rest) accepted = never-signal span true (descends left right) rest accepted

unary-constant : (op : Unary) (e : Sizing) → e.constant ≡ true → (unary_sizing op e).constant ≡ true
unary-constant op e is = by (keeps_width op)
  where
    constant_in : Sizing → Bool
    constant_in s = s.constant

    by : (b : Bool)
        → constant_in (if b then record { width = e.width; signed = e.signed; constant = e.constant; value = λ V size signed. operator.unary (unary_of op) size (e.value V size signed) }
        else by_itself 1 false e.constant (λ V. operator.unary (unary_of op) e.width (own e V))) ≡ true
    by true = is
    by false = is

class-constant : (span : Span) (c : Class) (L R : Sizing) (left right : ℕ → Bool → Option WidthErr) (size : ℕ) (signed : Bool)
    → ((w : ℕ) (s : Bool) → left w s ≡ None → L.constant ≡ true) → ((w : ℕ) (s : Bool) → right w s ≡ None → R.constant ≡ true)
    → class_faults span c L R left right size signed ≡ None → (class_sizing c L R).constant ≡ true
class-constant span (by_context op) L R left right size signed one other accepted =
    let parts = first_of-none (left size signed) (right size signed) None accepted in
    and_from _ _ (one size signed parts.0) (other size signed parts.1)
class-constant span (shift op) L R left right size signed one other accepted =
    let parts = first_of-none (left size signed) (by_own R right) None accepted in
    and_from _ _ (one size signed parts.0) (other R.width R.signed parts.1)
class-constant span (comparison op) L R left right size signed one other accepted =
    let w = max L.width R.width in
    let s = L.signed && R.signed in
    let parts = first_of-none (left w s) (right w s) None accepted in
    and_from _ _ (one w s parts.0) (other w s parts.1)
class-constant span (logical op) L R left right size signed one other accepted =
    let parts = first_of-none (by_own L left) (by_own R right) None accepted in
    and_from _ _ (one L.width L.signed parts.0) (other R.width R.signed parts.1)
class-constant span quotient L R left right size signed one other accepted =
    let parts = first_of-none (left size signed) (right size signed) (division_fault span L R (R.value zeros size signed)) accepted in
    and_from _ _ (one size signed parts.0) (other size signed parts.1)
class-constant span remainder L R left right size signed one other accepted =
    let parts = first_of-none (left size signed) (right size signed) (division_fault span L R (R.value zeros size signed)) accepted in
    and_from _ _ (one size signed parts.0) (other size signed parts.1)
class-constant span power L R left right size signed one other accepted =
    let parts = first_of-none (left size signed) (by_own R right) (power_fault span L R) accepted in
    and_from _ _ (one size signed parts.0) (other R.width R.signed parts.1)

mutual
  pub only-constant : (look : Look) (e : Tree) (size : ℕ) (signed : Bool) → refusal look true e size signed ≡ None → (sizing look e).constant ≡ true
  only-constant look (written.number site text) size signed accepted = refl
  only-constant look (written.wild site text) size signed accepted = refl
  only-constant look (written.name site text selects) size signed accepted =
      name-constant site.span (look text) (chosen_of look selects)
      (or-none (selects_refusal look (only_first true (look text)) (only_later true (look text)) selects) (name_fault site.span true (look text) (chosen_of look selects)) accepted).1
  only-constant look (written.parens site inner) size signed accepted = only-constant look inner size signed accepted
  only-constant look (written.concat site parts) size signed accepted =
      parts-constant look parts (or-none (parts_refusal look true parts) (concat_fault site.span (sizings look parts)) accepted).0
  only-constant look (written.repeat site count parts) size signed accepted =
      parts-constant look parts
      (first_of-none (by_own (sizing look count) (refusal look true count)) (parts_refusal look true parts) (repeat_fault site.span (sizing look count) (sizings look parts)) accepted).1
  only-constant look (written.system site function.Signed argument) size signed accepted =
      only-constant look argument (sizing look argument).width (sizing look argument).signed
      (or-none (by_own (sizing look argument) (refusal look true argument)) (called_fault site.span function.Signed (sizing look argument)) accepted).0
  only-constant look (written.system site function.Unsigned argument) size signed accepted =
      only-constant look argument (sizing look argument).width (sizing look argument).signed
      (or-none (by_own (sizing look argument) (refusal look true argument)) (called_fault site.span function.Unsigned (sizing look argument)) accepted).0
  only-constant look (written.system site function.Clog2 argument) size signed accepted =
      only-constant look argument (sizing look argument).width (sizing look argument).signed
      (or-none (by_own (sizing look argument) (refusal look true argument)) (called_fault site.span function.Clog2 (sizing look argument)) accepted).0
  only-constant look (written.unary site op operand) size signed accepted =
      unary-constant op (sizing look operand)
      (by (keeps_width op) accepted (λ h. only-constant look operand size signed h)
      (λ h. only-constant look operand (sizing look operand).width (sizing look operand).signed h))
    where
      by : (holds : Bool) → (if holds then refusal look true operand size signed else refusal look true operand (sizing look operand).width (sizing look operand).signed) ≡ None
          → (refusal look true operand size signed ≡ None → (sizing look operand).constant ≡ true)
          → (refusal look true operand (sizing look operand).width (sizing look operand).signed ≡ None → (sizing look operand).constant ≡ true) → (sizing look operand).constant ≡ true
      by true h one other = one h
      by false h one other = other h
  only-constant look (written.binary site op left right) size signed accepted =
      class-constant site.span (class_of op) (sizing look left) (sizing look right) (refusal look true left) (refusal look true right) size signed
      (λ w s h. only-constant look left w s h) (λ w s h. only-constant look right w s h) (class-refusal look true site op left right size signed ∙ accepted)
  only-constant look (written.conditional site condition on_true on_false) size signed accepted =
      let c = sizing look condition in
      let parts = first_of-none (by_own c (refusal look true condition)) (refusal look true on_true size signed) (refusal look true on_false size signed) accepted in
      and_from _ _ (and_from _ _ (only-constant look condition c.width c.signed parts.0) (only-constant look on_true size signed parts.1))
      (only-constant look on_false size signed parts.2)

  parts-constant : (look : Look) (parts : Trees) → parts_refusal look true parts ≡ None → are_constant (sizings look parts) ≡ true
  parts-constant look no_tree accepted = refl
  parts-constant look (tree one rest) accepted =
      let e = sizing look one in
      let both = or-none (refusal look true one e.width e.signed) (parts_refusal look true rest) accepted in
      and_from _ _ (only-constant look one e.width e.signed both.0) (parts-constant look rest both.1)

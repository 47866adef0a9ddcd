-- What the nodes of a sized expression mean, and that they fit, by what their operands mean.
use Rattle.std.proofs.Common.{◌≡◌, ℕ, ◌+◌, ◌-◌, ◌%◌, ◌^◌, ◌<◌, ◌≤◌, Bool, true, false, ◌&&◌, List, refl, ap, sym, subst, ◌∙◌, arith}
use Rattle.std.specs.Prelude.{if◌then◌else◌, max, ◌==◌}
use Rattle.std.proofs.lemmas.Bool.{le-leb, eq-eqb, eqb-true, and_from}
use Rattle.std.proofs.Math.Nat.{mod-eq_of_lt, max-eq_right, min-eq_left}
use Rattle.loc_base.specs.Bits.{width_of, value_of}
use Rattle.loc_base.specs.Word.{extended, is_negative}
use Rattle.design_core.specs.declared.signal.Signal.{Signal}
use Rattle.design_core.specs.declared.expression.Typed.{Typed}
use Rattle.design_core.specs.declared.expression.Node.{Node}
use Rattle.design_core.specs.declared.expression.Node.TheVariants as node
use Rattle.design_core.specs.declared.expression.UnaryOp.{UnaryOp}
use Rattle.design_core.specs.declared.expression.BinaryOp.{BinaryOp}
use Rattle.design_core.specs.Valuation.{Valuation}
use Rattle.design_core.specs.Constant.{zeros}
use Rattle.design_core.specs.Operator.{is_true, resized}
use Rattle.design_core.specs.Operator as operator
use Rattle.design_core.specs.Value.{value}
use Rattle.design_core.specs.WellFormed.{is_width, typed_fits, unary_fits, binary_fits, signs_fit, same_sign}
use Rattle.design_core.proofs.ExpressionSteps.{value_unary, value_binary, value_resize, fits_unary, fits_binary, fits_resize}
use Rattle.design_core.proofs.ValueRange.{value-in_range}
use Rattle.v_sizes.specs.Word.{word}
use Rattle.v_sizes.specs.Literal.{limited}
use Rattle.v_sizes.specs.Sizing.{Sizing}
use Rattle.v_sizes.specs.Sized.{sized, constant, with_sign, with_width, carried, folded}
use Rattle.v_sizes.proofs.Steady.{IsSteady}

-- a width of 1 to 128 bits
pub record Within (width : ℕ) : Type 0 where
  pub least : 1 ≤ width
  pub most : width ≤ 128

-- a sized expression is of a width and a sign, means a value, and fits
pub record Meant (signals : List Signal) (t : Typed) (width : ℕ) (signed : Bool) (of : Valuation → ℕ) : Type 0 where
  pub of_width : t.width ≡ width
  pub of_sign : t.signed ≡ signed
  pub means : (V : Valuation) → value signals V t ≡ of V
  pub fits : typed_fits signals t ≡ true

pub is-width : (width : ℕ) → Within width → is_width width ≡ true
is-width width within = and_from _ _ (le-leb 1 width within.least) (le-leb width 128 within.most)

same-number : (a b : ℕ) → a ≡ b → (a == b) ≡ true
same-number a b same = eq-eqb a b same

-- what is meant is a number of the width
pub below : (signals : List Signal) (t : Typed) (width : ℕ) (signed : Bool) (of : Valuation → ℕ) → Meant signals t width signed of → (V : Valuation) → of V < 2 ^ width
below signals t width signed of meant V =
    subst (λ v. v < 2 ^ width) (meant.means V) (subst (λ w. value signals V t < 2 ^ w) meant.of_width (value-in_range signals V t meant.fits))

-- ---- constants
pub limited-within : (width : ℕ) → Within width → limited width ≡ width
limited-within width within = ap (max 1) (min-eq_left within.most) ∙ max-eq_right within.least

word-width : (width number : ℕ) → Within width → width_of (word width number) ≡ width
unfolding word
word-width width number within = limited-within width within

word-value : (width number : ℕ) → Within width → number < 2 ^ width → value_of (word width number) ≡ number
unfolding word
word-value width number within low = ap (λ w. number % 2 ^ w) (limited-within width within) ∙ mod-eq_of_lt low

pub constant-meant : (signals : List Signal) (width : ℕ) (signed : Bool) (number : ℕ) → Within width → number < 2 ^ width
    → Meant signals (constant width signed number) width signed (λ V. number)
constant-meant signals width signed number within low =
    record {
      of_width = refl;
      of_sign = refl;
      means = λ V. word-value width number within low;
      fits = and_from _ _ (is-width width within) (same-number (width_of (word width number)) width (word-width width number within));
    }

-- an expression that is a constant, or what its parts make
pub folded-meant : (signals : List Signal) (e : Sizing) (width : ℕ) (signed : Bool) (shape : Typed) → Within width → IsSteady e
    → Meant signals shape width signed (λ V. e.value V width signed) → Meant signals (folded e width signed shape) width signed (λ V. e.value V width signed)
folded-meant signals e width signed shape within steady meant = by e.constant refl
  where
    by : (holds : Bool) → e.constant ≡ holds
        → Meant signals (if holds then constant width signed (e.value zeros width signed) else shape) width signed (λ V. e.value V width signed)
    by true is =
        let known = constant-meant signals width signed (e.value zeros width signed) within (below signals shape width signed (λ V. e.value V width signed) meant zeros) in
        record { of_width = known.of_width; of_sign = known.of_sign; means = λ V. known.means V ∙ sym (steady is V width signed); fits = known.fits }
    by false is = meant

-- ---- other widths and signs
pub extended-same : (signed : Bool) (width number : ℕ) → extended signed width width number ≡ number
extended-same signed width number = by (signed && is_negative width number)
  where
    by : (high : Bool) → (if high then number + (2 ^ width - 2 ^ width) else number) ≡ number
    by true = omega arith
    by false = refl

pub resized-wider : (signed : Bool) (from to number : ℕ) → from ≤ to → resized to signed from number ≡ extended signed from to number
resized-wider signed from to number wide = ap (λ holds. if holds then extended signed from to number else number % 2 ^ to) (le-leb from to wide)

resize-meant : (signals : List Signal) (t : Typed) (own width : ℕ) (signed : Bool) (of : Valuation → ℕ) → Within width → own ≤ width
    → Meant signals t own signed of → Meant signals (sized width signed (node.Resize t)) width signed (λ V. extended signed own width (of V))
resize-meant signals t own width signed of within wide meant =
    record {
      of_width = refl;
      of_sign = refl;
      means = λ V.
          value_resize signals V width t
          ∙ ap (λ s. resized width s t.width (value signals V t)) meant.of_sign
          ∙ ap (λ w. resized width signed w (value signals V t)) meant.of_width
          ∙ ap (resized width signed own) (meant.means V)
          ∙ resized-wider signed own width (of V) wide;
      fits = fits_resize signals signed width t ∙ and_from _ _ (is-width width within) meant.fits;
    }

pub with_width-meant : (signals : List Signal) (t : Typed) (own width : ℕ) (signed : Bool) (of : Valuation → ℕ) → Within width → own ≤ width
    → Meant signals t own signed of → Meant signals (with_width width t) width signed (λ V. extended signed own width (of V))
with_width-meant signals t own width signed of within wide meant = by (t.width == width) refl
  where
    by : (holds : Bool) → (t.width == width) ≡ holds
        → Meant signals (if holds then t else sized width t.signed (node.Resize t)) width signed (λ V. extended signed own width (of V))
    by true is =
        let same : t.width ≡ width = eqb-true t.width width is in
        record {
          of_width = same;
          of_sign = meant.of_sign;
          means = λ V. meant.means V ∙ sym (ap (λ w. extended signed w width (of V)) (sym meant.of_width ∙ same) ∙ extended-same signed width (of V));
          fits = meant.fits;
        }
    by false is =
        subst (λ s. Meant signals (sized width s (node.Resize t)) width signed (λ V. extended signed own width (of V))) (sym meant.of_sign)
        (resize-meant signals t own width signed of within wide meant)

pub carried-meant : (signals : List Signal) (n : Node) (own width : ℕ) (signed : Bool) (of : Valuation → ℕ) → Within width → own ≤ width
    → Meant signals (sized own signed n) own signed of → Meant signals (carried width signed own n) width signed (λ V. extended signed own width (of V))
carried-meant signals n own width signed of within wide meant = with_width-meant signals (sized own signed n) own width signed of within wide meant

same-sign : (one other : Bool) → same_sign one other ≡ true → other ≡ one
same-sign true true h = refl
same-sign false false h = refl
same-sign true false h = cc
same-sign false true h = cc

pub with_sign-meant : (signals : List Signal) (t : Typed) (own : ℕ) (signed before : Bool) (of : Valuation → ℕ) → Within own
    → Meant signals t own before of → Meant signals (with_sign signed t) own signed of
with_sign-meant signals t own signed before of within meant = by (same_sign signed t.signed) refl
  where
    by : (holds : Bool) → same_sign signed t.signed ≡ holds → Meant signals (if holds then t else sized t.width signed (node.Resize t)) own signed of
    by true is = record { of_width = meant.of_width; of_sign = same-sign signed t.signed is; means = meant.means; fits = meant.fits }
    by false is =
        record {
          of_width = meant.of_width;
          of_sign = refl;
          means = λ V.
              value_resize signals V t.width t ∙ resized-wider t.signed t.width t.width (value signals V t) (omega arith)
              ∙ extended-same t.signed t.width (value signals V t) ∙ meant.means V;
          fits = fits_resize signals signed t.width t ∙ and_from _ _ (subst (λ w. is_width w ≡ true) (sym meant.of_width) (is-width own within)) meant.fits;
        }

-- ---- operators
pub unary-meant : (signals : List Signal) (op : UnaryOp) (a : Typed) (own width : ℕ) (signed before : Bool) (of : Valuation → ℕ) → Within width
    → unary_fits op width own ≡ true → Meant signals a own before of
    → Meant signals (sized width signed (node.Unary op a)) width signed (λ V. operator.unary op own (of V))
unary-meant signals op a own width signed before of within suits meant =
    record {
      of_width = refl;
      of_sign = refl;
      means = λ V. value_unary signals V width op a ∙ ap (λ w. operator.unary op w (value signals V a)) meant.of_width ∙ ap (operator.unary op own) (meant.means V);
      fits = fits_unary signals signed width op a
          ∙ and_from _ _ (and_from _ _ (is-width width within) (subst (λ w. unary_fits op width w ≡ true) (sym meant.of_width) suits)) meant.fits;
    }

-- what two operands of a binary operator are
pub record Operands (signals : List Signal) : Type 0 where
  pub left : Typed
  pub left_width : ℕ
  pub left_signed : Bool
  pub left_of : Valuation → ℕ
  pub left_meant : Meant signals left left_width left_signed left_of
  pub right : Typed
  pub right_width : ℕ
  pub right_signed : Bool
  pub right_of : Valuation → ℕ
  pub right_meant : Meant signals right right_width right_signed right_of

pub binary-meant : (signals : List Signal) (op : BinaryOp) (width : ℕ) (signed : Bool) (o : Operands signals) → Within width
    → binary_fits op width o.left_width o.right_width ≡ true → signs_fit op signed o.left_signed o.right_signed ≡ true
    → Meant signals (sized width signed (node.Binary op o.left o.right)) width signed
    (λ V. operator.binary op o.left_width o.left_signed o.right_signed (o.left_of V) (o.right_of V))
binary-meant signals op width signed o within suits signs =
    record {
      of_width = refl;
      of_sign = refl;
      means = λ V.
          value_binary signals V width op o.left o.right
          ∙ ap (λ w. operator.binary op w o.left.signed o.right.signed (value signals V o.left) (value signals V o.right)) o.left_meant.of_width
          ∙ ap (λ s. operator.binary op o.left_width s o.right.signed (value signals V o.left) (value signals V o.right)) o.left_meant.of_sign
          ∙ ap (λ s. operator.binary op o.left_width o.left_signed s (value signals V o.left) (value signals V o.right)) o.right_meant.of_sign
          ∙ ap (λ a. operator.binary op o.left_width o.left_signed o.right_signed a (value signals V o.right)) (o.left_meant.means V)
          ∙ ap (operator.binary op o.left_width o.left_signed o.right_signed (o.left_of V)) (o.right_meant.means V);
      fits = fits_binary signals signed width op o.left o.right
          ∙ and_from _ _
          (and_from _ _
          (and_from _ _
          (and_from _ _ (is-width width within)
          (subst (λ w. binary_fits op width w o.right.width ≡ true) (sym o.left_meant.of_width) (subst (λ w. binary_fits op width o.left_width w ≡ true) (sym o.right_meant.of_width) suits))
          )
          (subst (λ s. signs_fit op signed s o.right.signed ≡ true) (sym o.left_meant.of_sign) (subst (λ s. signs_fit op signed o.left_signed s ≡ true) (sym o.right_meant.of_sign) signs))
          )
          o.left_meant.fits
          )
          o.right_meant.fits;
    }

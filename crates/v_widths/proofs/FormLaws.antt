-- That what the pass up gives of each form is what its definition says, where it is so of the operands.
use Rattle.std.proofs.Common.{◌≡◌, ℕ, ◌^◌, ◌<◌, Bool, true, false, ◌&&◌, List, [], Option, refl, ap, sym, subst, ◌∙◌, arith, lit≤}
use Rattle.std.specs.Prelude.{if◌then◌else◌, max}
use Rattle.std.specs.Option.{option_or}
use Rattle.std.proofs.lemmas.Bool.{and_parts}
use Rattle.std.proofs.lemmas.Nat.{pow_pos}
use Rattle.std.proofs.Math.Nat.{mod-lt, le-max_left, le-max_right}
use Rattle.loc_base.specs.declared.span.Span.{Span}
use Rattle.loc_base.specs.Word.{extended}
use Rattle.v_syntax.specs.declared.operator.Unary.{Unary}
use Rattle.design_core.specs.declared.expression.Typed.{Typed}
use Rattle.design_core.specs.declared.expression.Node.TheVariants as node
use Rattle.design_core.specs.declared.expression.UnaryOp.{UnaryOp}
use Rattle.design_core.specs.Constant.{zeros}
use Rattle.design_core.specs.Operator.{is_true, resized}
use Rattle.design_core.specs.Operator as operator
use Rattle.design_core.specs.WellFormed.{unary_fits, same_sign}
use Rattle.v_sizes.specs.declared.error.WidthErr.{WidthErr}
use Rattle.v_sizes.specs.Literal.{limited, literal_width, literal_signed, literal_value, written_width}
use Rattle.v_sizes.specs.Operations.{unary_of, keeps_width}
use Rattle.v_sizes.specs.Refusals.{first_of, by_own, literal_fault}
use Rattle.v_sizes.specs.Sizing.{Sizing, own, by_itself, literal, unary_sizing, conditional}
use Rattle.v_sizes.specs.Sized.{sized, constant, with_sign, with_width, carried, folded}
use Rattle.v_sizes.proofs.Meant.{Within, constant-meant, unary-meant, below}
use Rattle.v_sizes.proofs.Accepted.{first_of-none, max-within}
use Rattle.v_sizes.proofs.Names.{limits}
use Rattle.v_sizes.proofs.Law.{extended-below}
use Rattle.v_sizes.proofs.Operands.{keeps-fits, bit-fits}
use Rattle.v_widths.specs.declared.measured.Measured.{Measured}
use Rattle.v_widths.specs.declared.measured.Shape.TheVariants as shape
use Rattle.v_widths.specs.Closing.{closed, alone, low}
use Rattle.v_widths.specs.Measuring.{number_of, number_measured, reduced, unary_measured, called_measured, conditional_measured}
use Rattle.v_selects.specs.Folding.{const_width, number_in}
use Rattle.v_widths.proofs.ClosedSteps.{closed_called, closed_unary, closed_chosen}
use Rattle.v_widths.proofs.Agrees.{IsClosed, IsMeasured, IsTaken, low-constant, folded-closed, own-law, alone-closed, taken-as, with_width-width, with_width-sign, word-carried, and-same, max-same}

abbrev Faults : Type 0
Faults = ℕ → Bool → Option WidthErr

abbrev Shapes : Type 0
Shapes = ℕ → Bool → Typed

one_bit : Within 1
one_bit = record { least = lit≤ tt; most = lit≤ tt }

-- ---- numbers
pub number-law : (span : Span) (text : List ℕ)
    → IsMeasured (literal text) (λ size signed. literal_fault span text) (λ size signed. constant size signed ((literal text).value zeros size signed)) (number_measured span text)
number-law span text =
    own-law (literal text) (literal_fault span text) (literal_fault span text) (λ size signed. constant size signed ((literal text).value zeros size signed))
    (literal_width text) (literal_signed text) true (literal_value text) (node.Whole 0) (node.Whole 0)
    refl refl refl (limits (written_width text)) refl (λ holds. mod-lt _ (pow_pos (literal_width text))) (λ size signed holds. refl) (λ size signed accepted. refl) (λ accepted fails. refl)

-- ---- one operand
unary-below : (op : UnaryOp) (width arg_width a : ℕ) → Within width → Within arg_width → unary_fits op width arg_width ≡ true → a < 2 ^ arg_width
    → operator.unary op arg_width a < 2 ^ width
unary-below op width arg_width a within arg_within suits small =
    below [] (sized width false (node.Unary op (constant arg_width false a))) width false (λ V. operator.unary op arg_width a)
    (unary-meant [] op (constant arg_width false a) arg_width width false false (λ V. a) within suits (constant-meant [] arg_width false a arg_within small)) zeros

unary-kept : (op : UnaryOp) (e : Sizing) (faults : Faults) (shapes : Shapes) (m : Measured) → ((w : ℕ) → unary_fits op w w ≡ true) → IsMeasured e faults shapes m
    → (of : Sizing) → of ≡ record { width = e.width; signed = e.signed; constant = e.constant; value = λ V size signed. operator.unary op size (e.value V size signed) }
    → IsMeasured of faults (λ size signed. folded of size signed (sized size signed (node.Unary op (shapes size signed))))
    (record { width = m.width; signed = m.signed; constant = m.constant; shape = shape.Unary op m })
unary-kept op e faults shapes m suits is of same =
    subst (λ (s : Sizing). IsMeasured s faults (λ size signed. folded s size signed (sized size signed (node.Unary op (shapes size signed)))) (record { width = m.width; signed = m.signed; constant = m.constant; shape = shape.Unary op m })) (sym same) law
  where
    kept : Sizing
    kept = record { width = e.width; signed = e.signed; constant = e.constant; value = λ V size signed. operator.unary op size (e.value V size signed) }

    law : IsMeasured kept faults (λ size signed. folded kept size signed (sized size signed (node.Unary op (shapes size signed)))) (record { width = m.width; signed = m.signed; constant = m.constant; shape = shape.Unary op m })
    law = record {
      width = is.width;
      signed = is.signed;
      constant = is.constant;
      within = is.within;
      below = λ size signed within wide holds. unary-below op size size (e.value zeros size signed) within within (suits size) (is.below size signed within wide holds);
      closes = λ size signed within wide.
          let inner = is.closes size signed within wide in
          let c = closed m size signed in
          subst (IsClosed kept (faults size signed) (folded kept size signed (sized size signed (node.Unary op (shapes size signed)))) size signed)
          (sym (closed_unary m.width m.signed m.constant op m size signed))
          (folded-closed kept (faults size signed) c.fault (folded kept size signed (sized size signed (node.Unary op (shapes size signed)))) size signed m.constant
          (constant size signed (operator.unary op size (low size c.typed))) (sized size signed (node.Unary op c.typed)) (sized size signed (node.Unary op (shapes size signed)))
          is.constant inner.fault (λ accepted. refl)
          (λ holds. ap (λ n. constant size signed (operator.unary op size n)) (low-constant size (e.value zeros size signed) signed c.typed within (is.below size signed within wide holds) (inner.known holds)))
          refl refl (λ accepted fails. ap (λ t. sized size signed (node.Unary op t)) (inner.made accepted)));
    }

unary-reduced : (op : Unary) (e : Sizing) (faults : Faults) (shapes : Shapes) (m : Measured) → ((w : ℕ) → unary_fits (unary_of op) 1 w ≡ true) → IsMeasured e faults shapes m
    → IsMeasured (by_itself 1 false e.constant (λ V. operator.unary (unary_of op) e.width (own e V))) (λ size signed. by_own e faults)
    (λ size signed. folded (by_itself 1 false e.constant (λ V. operator.unary (unary_of op) e.width (own e V))) size signed (carried size signed 1 (node.Unary (unary_of op) (shapes e.width e.signed))))
    (reduced op (alone m))
unary-reduced op e faults shapes m suits is =
    let c = alone m in
    let alone_is = alone-closed is in
    let taken_is = taken-as is in
    own-law (by_itself 1 false e.constant (λ V. operator.unary (unary_of op) e.width (own e V))) (by_own e faults) c.fault
    (λ size signed. folded (by_itself 1 false e.constant (λ V. operator.unary (unary_of op) e.width (own e V))) size signed (carried size signed 1 (node.Unary (unary_of op) (shapes e.width e.signed))))
    1 false c.constant (operator.unary (unary_of op) (limited c.typed.width) (number_of c)) (node.Unary (unary_of op) c.typed) (node.Unary (unary_of op) (shapes e.width e.signed))
    refl refl taken_is.constant one_bit alone_is.fault
    (λ holds. subst (λ n. n < 2 ^ 1) (sym (same taken_is holds)) (unary-below (unary_of op) 1 e.width (own e zeros) one_bit is.within (suits e.width) (is.below e.width e.signed is.within (omega arith) holds)))
    (λ size signed holds. ap (extended signed 1 size) (sym (same taken_is holds)))
    (λ size signed accepted. refl)
    (λ accepted fails. ap (node.Unary (unary_of op)) (alone_is.made (sym alone_is.fault ∙ accepted)))
  where
    same : IsTaken e (alone m) → e.constant ≡ true → operator.unary (unary_of op) (limited (alone m).typed.width) (number_of (alone m)) ≡ operator.unary (unary_of op) e.width (own e zeros)
    same taken_is holds = ap (λ w. operator.unary (unary_of op) w (number_of (alone m))) taken_is.width ∙ ap (operator.unary (unary_of op) e.width) (taken_is.number holds)

pub unary-law : (op : Unary) (e : Sizing) (faults : Faults) (shapes : Shapes) (m : Measured) → IsMeasured e faults shapes m
    → IsMeasured (unary_sizing op e) (λ size signed. if keeps_width op then faults size signed else by_own e faults)
    (λ size signed. folded (unary_sizing op e) size signed
    (if keeps_width op then sized size signed (node.Unary (unary_of op) (shapes size signed)) else carried size signed 1 (node.Unary (unary_of op) (shapes e.width e.signed))))
    (unary_measured op m)
unary-law op e faults shapes m is = by (keeps_width op) refl
  where
    keeps : Sizing
    keeps = record { width = e.width; signed = e.signed; constant = e.constant; value = λ V size signed. operator.unary (unary_of op) size (e.value V size signed) }

    bit : Sizing
    bit = by_itself 1 false e.constant (λ V. operator.unary (unary_of op) e.width (own e V))

    by : (b : Bool) → keeps_width op ≡ b
        → IsMeasured (if b then keeps else bit) (λ size signed. if b then faults size signed else by_own e faults)
        (λ size signed. folded (if b then keeps else bit) size signed
        (if b then sized size signed (node.Unary (unary_of op) (shapes size signed)) else carried size signed 1 (node.Unary (unary_of op) (shapes e.width e.signed))))
        (if b then record { width = m.width; signed = m.signed; constant = m.constant; shape = shape.Unary (unary_of op) m } else reduced op (alone m))
    by true keeps_it = unary-kept (unary_of op) e faults shapes m (λ w. keeps-fits op w keeps_it) is keeps refl
    by false keeps_it = unary-reduced op e faults shapes m (λ w. bit-fits op w keeps_it) is

-- ---- functions that change the sign alone
with_sign-width : (signed : Bool) (t : Typed) → (with_sign signed t).width ≡ t.width
with_sign-width signed t = by (same_sign signed t.signed)
  where
    width_in : Typed → ℕ
    width_in e = e.width

    by : (b : Bool) → width_in (if b then t else sized t.width signed (node.Resize t)) ≡ t.width
    by true = refl
    by false = refl

with_sign-sign : (signed : Bool) (t : Typed) → (with_sign signed t).signed ≡ signed
with_sign-sign signed t = by (same_sign signed t.signed) refl
  where
    sign_in : Typed → Bool
    sign_in e = e.signed

    by : (b : Bool) → same_sign signed t.signed ≡ b → sign_in (if b then t else sized t.width signed (node.Resize t)) ≡ signed
    by true is = same signed t.signed is
      where
        same : (one other : Bool) → same_sign one other ≡ true → other ≡ one
        same true true h = refl
        same false false h = refl
        same true false h = cc
        same false true h = cc
    by false is = refl

pub called-law : (name : Bool) (e : Sizing) (faults : Faults) (shapes : Shapes) (m : Measured) → IsMeasured e faults shapes m
    → IsMeasured (by_itself e.width name e.constant (own e)) (λ size signed. by_own e faults)
    (λ size signed. folded (by_itself e.width name e.constant (own e)) size signed (with_width size (with_sign signed (shapes e.width e.signed))))
    (called_measured name (alone m))
called-law name e faults shapes m is =
    let c = alone m in
    let alone_is = alone-closed is in
    let of = by_itself e.width name e.constant (own e) in
    let small : e.constant ≡ true → own e zeros < 2 ^ e.width = λ holds. is.below e.width e.signed is.within (omega arith) holds in
    record {
      width = alone_is.of_width;
      signed = refl;
      constant = alone_is.of_constant;
      within = is.within;
      below = λ size signed within wide holds. extended-below signed e.width size (own e zeros) (small holds) wide;
      closes = λ size signed within wide.
          subst (IsClosed of (by_own e faults) (folded of size signed (with_width size (with_sign signed (shapes e.width e.signed)))) size signed)
          (sym (closed_called c.typed.width name c.constant c size signed))
          (folded-closed of (by_own e faults) c.fault (folded of size signed (with_width size (with_sign signed (shapes e.width e.signed)))) size signed c.constant
          (constant size signed (resized size signed (const_width c.typed.node) (number_in c.typed)))
          (with_width size (with_sign signed c.typed)) (with_width size (with_sign signed (shapes e.width e.signed)))
          alone_is.of_constant alone_is.fault (λ accepted. refl)
          (λ holds.
          ap (λ t. constant size signed (resized size signed (const_width t.node) (number_in t))) (alone_is.known holds)
          ∙ ap (constant size signed) (word-carried e.width size (own e zeros) signed is.within wide (small holds)))
          (with_width-width size (with_sign signed c.typed)) (with_width-sign size (with_sign signed c.typed) ∙ with_sign-sign signed c.typed)
          (λ accepted fails. ap (λ t. with_width size (with_sign signed t)) (alone_is.made accepted))
          );
    }

-- ---- conditionals
leftmost-same : (a b c test one other : Option WidthErr) → a ≡ test → b ≡ one → c ≡ other → option_or a (option_or b c) ≡ first_of test one other
leftmost-same a b c test one other first second third =
    ap (λ f. option_or f (option_or b c)) first ∙ ap (λ f. option_or test (option_or f c)) second ∙ ap (λ f. option_or test (option_or one f)) third

either-below : (b : Bool) (one other bound : ℕ) → one < bound → other < bound → (if b then one else other) < bound
either-below true one other bound first second = first
either-below false one other bound first second = second

chosen-constant : (size : ℕ) (signed b : Bool) (one other : Typed) (first second : ℕ) → one ≡ constant size signed first → other ≡ constant size signed second
    → (if b then one else other) ≡ constant size signed (if b then first else second)
chosen-constant size signed true one other first second is is_other = is
chosen-constant size signed false one other first second is is_other = is_other

-- a condition and two arms, each measured and what its definition says
record Arms : Type 0 where
  pub C : Sizing
  pub Y : Sizing
  pub N : Sizing
  pub test_faults : Faults
  pub yes_faults : Faults
  pub no_faults : Faults
  pub test_shapes : Shapes
  pub yes_shapes : Shapes
  pub no_shapes : Shapes
  pub c : Measured
  pub y : Measured
  pub n : Measured
  pub test : IsMeasured C test_faults test_shapes c
  pub yes : IsMeasured Y yes_faults yes_shapes y
  pub no : IsMeasured N no_faults no_shapes n

conditional-arms : (p : Arms)
    → IsMeasured (conditional p.C p.Y p.N) (λ size signed. first_of (by_own p.C p.test_faults) (p.yes_faults size signed) (p.no_faults size signed))
    (λ size signed. folded (conditional p.C p.Y p.N) size signed
    (sized size signed (node.Choose (p.test_shapes p.C.width p.C.signed) (p.yes_shapes size signed) (p.no_shapes size signed))))
    (conditional_measured (alone p.c) p.y p.n)
conditional-arms p =
    let of = conditional p.C p.Y p.N in
    let t = alone p.c in
    let alone_is = alone-closed p.test in
    let taken_is = taken-as p.test in
    let constants : (t.constant && p.y.constant && p.n.constant) ≡ of.constant =
    and-same (t.constant && p.y.constant) p.n.constant (p.C.constant && p.Y.constant) p.N.constant
    (and-same t.constant p.y.constant p.C.constant p.Y.constant alone_is.of_constant p.yes.constant) p.no.constant in
    record {
      width = max-same p.y.width p.n.width p.Y.width p.N.width p.yes.width p.no.width;
      signed = and-same p.y.signed p.n.signed p.Y.signed p.N.signed p.yes.signed p.no.signed;
      constant = constants;
      within = max-within p.Y.width p.N.width p.yes.within p.no.within;
      below = λ size signed within wide holds.
          let outer = and_parts (p.C.constant && p.Y.constant) p.N.constant holds in
          let inner = and_parts p.C.constant p.Y.constant outer.0 in
          either-below (is_true (own p.C zeros)) (p.Y.value zeros size signed) (p.N.value zeros size signed) (2 ^ size)
          (p.yes.below size signed within (omega (arith, wide, le-max_left p.Y.width p.N.width)) inner.1)
          (p.no.below size signed within (omega (arith, wide, le-max_right p.Y.width p.N.width)) outer.1);
      closes = λ size signed within wide.
          let one = p.yes.closes size signed within (omega (arith, wide, le-max_left p.Y.width p.N.width)) in
          let other = p.no.closes size signed within (omega (arith, wide, le-max_right p.Y.width p.N.width)) in
          let a = closed p.y size signed in
          let b = closed p.n size signed in
          let faults = first_of (by_own p.C p.test_faults) (p.yes_faults size signed) (p.no_faults size signed) in
          let shown = sized size signed (node.Choose (p.test_shapes p.C.width p.C.signed) (p.yes_shapes size signed) (p.no_shapes size signed)) in
          subst (IsClosed of faults (folded of size signed shown) size signed)
          (sym (closed_chosen (max p.y.width p.n.width) (p.y.signed && p.n.signed) (t.constant && p.y.constant && p.n.constant) t p.y p.n size signed))
          (folded-closed of faults (option_or t.fault (option_or a.fault b.fault)) (folded of size signed shown) size signed (t.constant && p.y.constant && p.n.constant)
          (if is_true (number_in t.typed) then a.typed else b.typed) (sized size signed (node.Choose t.typed a.typed b.typed)) shown
          constants
          (leftmost-same t.fault a.fault b.fault (by_own p.C p.test_faults) (p.yes_faults size signed) (p.no_faults size signed) alone_is.fault one.fault other.fault) (λ accepted. refl)
          (λ holds.
          let outer = and_parts (p.C.constant && p.Y.constant) p.N.constant holds in
          let inner = and_parts p.C.constant p.Y.constant outer.0 in
          ap (λ n. if is_true n then a.typed else b.typed) (taken_is.raw inner.0)
          ∙ chosen-constant size signed (is_true (own p.C zeros)) a.typed b.typed (p.Y.value zeros size signed) (p.N.value zeros size signed) (one.known inner.1) (other.known outer.1))
          refl refl
          (λ accepted fails.
          let parts = first_of-none (by_own p.C p.test_faults) (p.yes_faults size signed) (p.no_faults size signed) accepted in
          ap (λ x. sized size signed (node.Choose x a.typed b.typed)) (alone_is.made parts.0)
          ∙ ap (λ x. sized size signed (node.Choose (p.test_shapes p.C.width p.C.signed) x b.typed)) (one.made parts.1)
          ∙ ap (λ x. sized size signed (node.Choose (p.test_shapes p.C.width p.C.signed) (p.yes_shapes size signed) x)) (other.made parts.2))
          );
    }

pub conditional-law : (C Y N : Sizing) (test_faults yes_faults no_faults : Faults) (test_shapes yes_shapes no_shapes : Shapes) (c y n : Measured)
    → IsMeasured C test_faults test_shapes c → IsMeasured Y yes_faults yes_shapes y → IsMeasured N no_faults no_shapes n
    → IsMeasured (conditional C Y N) (λ size signed. first_of (by_own C test_faults) (yes_faults size signed) (no_faults size signed))
    (λ size signed. folded (conditional C Y N) size signed
    (sized size signed (node.Choose (test_shapes C.width C.signed) (yes_shapes size signed) (no_shapes size signed))))
    (conditional_measured (alone c) y n)
conditional-law C Y N test_faults yes_faults no_faults test_shapes yes_shapes no_shapes c y n is_test is_yes is_no =
    conditional-arms
    (record { C = C; Y = Y; N = N; test_faults = test_faults; yes_faults = yes_faults; no_faults = no_faults; test_shapes = test_shapes; yes_shapes = yes_shapes; no_shapes = no_shapes; c = c; y = y; n = n; test = is_test; yes = is_yes; no = is_no })

-- That what the pass up gives of an operator of two operands is what its definition says, where it is so of the operands.
use Rattle.std.proofs.Common.{◌≡◌, ℕ, ◌%◌, ◌^◌, ◌<◌, ◌≤◌, Bool, true, false, ◌&&◌, [], Option, Some, None, refl, ap, sym, subst, ◌∙◌, arith, lit≤}
use Rattle.std.specs.Prelude.{if◌then◌else◌, max, not, ◌||◌, ◌==◌, ⊤, pos}
use Rattle.std.specs.Option.{option_or}
use Rattle.std.proofs.lemmas.Bool.{and_parts, not-false}
use Rattle.std.proofs.lemmas.Nat.{pow_pos}
use Rattle.std.proofs.Math.Nat.{mod-lt, le-max_left, le-max_right}
use Rattle.loc_base.specs.declared.span.Span.{Span}
use Rattle.loc_base.specs.Word.{extended}
use Rattle.v_syntax.specs.declared.operator.Binary.{Binary}
use Rattle.v_syntax.specs.declared.operator.Binary.TheVariants as binary
use Rattle.design_core.specs.declared.expression.Typed.{Typed}
use Rattle.design_core.specs.declared.expression.Node.TheVariants as node
use Rattle.design_core.specs.declared.expression.BinaryOp.{BinaryOp}
use Rattle.design_core.specs.Constant.{zeros}
use Rattle.design_core.specs.Operator.{integer_of}
use Rattle.design_core.specs.Operator as operator
use Rattle.design_core.specs.WellFormed.{binary_fits, signs_fit}
use Rattle.v_sizes.specs.declared.error.WidthErr.{WidthErr}
use Rattle.v_sizes.specs.declared.error.WidthErr.TheVariants as fault
use Rattle.v_sizes.specs.Literal.{limited}
use Rattle.v_sizes.specs.Operations.{Class, by_context, shift, comparison, logical, quotient, remainder, power, class_of, is_below_0, magnitude}
use Rattle.v_sizes.specs.Refusals.{when, first_of, by_own, division_fault, power_fault}
use Rattle.v_sizes.specs.Sizing.{Sizing, own, integer, known, both_by_context, class_sizing}
use Rattle.v_sizes.specs.Sized.{sized, constant, carried, folded}
use Rattle.v_sizes.proofs.Meant.{Within, limited-within, constant-meant, binary-meant, below}
use Rattle.v_sizes.proofs.Accepted.{first_of-none, or-none, when-none, or_false, max-within}
use Rattle.v_sizes.proofs.Operands.{Fits, ByContext, Shifts, Compares, Joins, class-fits}
use Rattle.v_widths.specs.declared.measured.Measured.{Measured}
use Rattle.v_widths.specs.Closing.{closed, closed_with, alone, low, shifted_number, divided_number}
use Rattle.v_widths.specs.Closing as closing
use Rattle.v_widths.specs.Measuring.{number_of, compared, joined_truth, logical_number, both_measured, shifted_measured, divided_measured, exponent_fault, raised_measured, compared_measured, binary_measured}
use Rattle.v_selects.specs.Folding.{number_in}
use Rattle.v_selects.specs.Taken.{taken}
use Rattle.v_widths.proofs.ClosedSteps.{closed_both, closed_divided, closed_shifted, closed_raised}
use Rattle.v_widths.proofs.Agrees.{IsClosed, IsMeasured, low-constant, folded-closed, own-law, alone-closed, taken-as, and-same, max-same, or-nothing}
use Rattle.v_sizes.proofs.Whole.{word_of-low}

abbrev pub Faults : Type 0
Faults = ℕ → Bool → Option WidthErr

abbrev pub Shapes : Type 0
Shapes = ℕ → Bool → Typed

-- the fault of an operator, and what it is where it isn't a constant, by what its operands are in each context
abbrev pub class_faults : Span → Class → Sizing → Sizing → Faults → Faults → Faults
class_faults span (by_context _) L R left right size signed = first_of (left size signed) (right size signed) None
class_faults span (shift _) L R left right size signed = first_of (left size signed) (by_own R right) None
class_faults span (comparison _) L R left right size signed =
    let w = max L.width R.width in
    let s = L.signed && R.signed in
    first_of (left w s) (right w s) None
class_faults span (logical _) L R left right size signed = first_of (by_own L left) (by_own R right) None
class_faults span quotient L R left right size signed = first_of (left size signed) (right size signed) (division_fault span L R (R.value zeros size signed))
class_faults span remainder L R left right size signed = first_of (left size signed) (right size signed) (division_fault span L R (R.value zeros size signed))
class_faults span power L R left right size signed = first_of (left size signed) (by_own R right) (power_fault span L R)

abbrev pub class_shapes : Class → Sizing → Sizing → Shapes → Shapes → Shapes
class_shapes (by_context op) L R left right size signed = sized size signed (node.Binary op (left size signed) (right size signed))
class_shapes (shift op) L R left right size signed = sized size signed (node.Binary op (left size signed) (right R.width R.signed))
class_shapes (comparison op) L R left right size signed =
    let w = max L.width R.width in
    let s = L.signed && R.signed in
    carried size signed 1 (node.Binary op (left w s) (right w s))
class_shapes (logical op) L R left right size signed = carried size signed 1 (node.Binary op (left L.width L.signed) (right R.width R.signed))
class_shapes quotient L R left right size signed = constant size signed 0
class_shapes remainder L R left right size signed = constant size signed 0
class_shapes power L R left right size signed = constant size signed 0

-- two measured operands, each what its definition says
record Pair : Type 0 where
  pub L : Sizing
  pub R : Sizing
  pub left_faults : Faults
  pub right_faults : Faults
  pub left_shapes : Shapes
  pub right_shapes : Shapes
  pub l : Measured
  pub r : Measured
  pub left : IsMeasured L left_faults left_shapes l
  pub right : IsMeasured R right_faults right_shapes r

-- an operator of a class over them
abbrev ClassLaw : Span → Class → Pair → Measured → Type 0
ClassLaw span c p m =
    IsMeasured (class_sizing c p.L p.R) (class_faults span c p.L p.R p.left_faults p.right_faults)
    (λ size signed. folded (class_sizing c p.L p.R) size signed (class_shapes c p.L p.R p.left_shapes p.right_shapes size signed)) m

-- the leftmost of two faults
two-faults : (a b left right : Option WidthErr) → a ≡ left → b ≡ right → option_or a b ≡ first_of left right None
two-faults a b left right one other = ap (λ f. option_or f b) one ∙ ap (option_or left) (other ∙ sym (or-nothing right))

one_bit : Within 1
one_bit = record { least = lit≤ tt; most = lit≤ tt }

left-wide : (a b size : ℕ) → max a b ≤ size → a ≤ size
left-wide a b size wide = omega (arith, wide, le-max_left a b)

right-wide : (a b size : ℕ) → max a b ≤ size → b ≤ size
right-wide a b size wide = omega (arith, wide, le-max_right a b)

binary-below : (op : BinaryOp) (width lw rw : ℕ) (signed ls rs : Bool) (a b : ℕ) → Within width → Within lw → Within rw → binary_fits op width lw rw ≡ true
    → signs_fit op signed ls rs ≡ true → a < 2 ^ lw → b < 2 ^ rw → operator.binary op lw ls rs a b < 2 ^ width
binary-below op width lw rw signed ls rs a b within l_within r_within suits signs small other =
    below [] (sized width signed (node.Binary op (constant lw ls a) (constant rw rs b))) width signed (λ V. operator.binary op lw ls rs a b)
    (binary-meant [] op width signed
    (record { left = constant lw ls a; left_width = lw; left_signed = ls; left_of = λ V. a; left_meant = constant-meant [] lw ls a l_within small; right = constant rw rs b; right_width = rw; right_signed = rs; right_of = λ V. b; right_meant = constant-meant [] rw rs b r_within other })
    within suits signs) zeros

-- ---- both operands by the context
both-law : (span : Span) (op : BinaryOp) (p : Pair) → ByContext op → ClassLaw span (by_context op) p (both_measured op p.l p.r)
both-law span op p suits =
    record {
      width = max-same p.l.width p.r.width p.L.width p.R.width p.left.width p.right.width;
      signed = and-same p.l.signed p.r.signed p.L.signed p.R.signed p.left.signed p.right.signed;
      constant = and-same p.l.constant p.r.constant p.L.constant p.R.constant p.left.constant p.right.constant;
      within = max-within p.L.width p.R.width p.left.within p.right.within;
      below = λ size signed within wide holds.
          let both = and_parts p.L.constant p.R.constant holds in
          binary-below op size size size signed signed signed (p.L.value zeros size signed) (p.R.value zeros size signed) within within within (suits.widths size) (suits.signs signed)
          (p.left.below size signed within (left-wide p.L.width p.R.width size wide) both.0) (p.right.below size signed within (right-wide p.L.width p.R.width size wide) both.1);
      closes = λ size signed within wide.
          let of = class_sizing (by_context op) p.L p.R in
          let one = p.left.closes size signed within (left-wide p.L.width p.R.width size wide) in
          let other = p.right.closes size signed within (right-wide p.L.width p.R.width size wide) in
          let a = closed p.l size signed in
          let b = closed p.r size signed in
          let faults = class_faults span (by_context op) p.L p.R p.left_faults p.right_faults size signed in
          let gives = folded of size signed (class_shapes (by_context op) p.L p.R p.left_shapes p.right_shapes size signed) in
          subst (IsClosed of faults gives size signed) (sym (closed_both (max p.l.width p.r.width) (p.l.signed && p.r.signed) (p.l.constant && p.r.constant) op p.l p.r size signed))
          (folded-closed of faults (option_or a.fault b.fault) gives size signed (p.l.constant && p.r.constant)
          (constant size signed (operator.binary op size signed signed (low size a.typed) (low size b.typed)))
          (sized size signed (node.Binary op a.typed b.typed))
          (class_shapes (by_context op) p.L p.R p.left_shapes p.right_shapes size signed)
          (and-same p.l.constant p.r.constant p.L.constant p.R.constant p.left.constant p.right.constant)
          (two-faults a.fault b.fault (p.left_faults size signed) (p.right_faults size signed) one.fault other.fault) (λ accepted. refl)
          (λ holds.
          let both = and_parts p.L.constant p.R.constant holds in
          ap (λ n. constant size signed (operator.binary op size signed signed n (low size b.typed)))
          (low-constant size (p.L.value zeros size signed) signed a.typed within (p.left.below size signed within (left-wide p.L.width p.R.width size wide) both.0) (one.known both.0))
          ∙ ap (λ n. constant size signed (operator.binary op size signed signed (p.L.value zeros size signed) n))
          (low-constant size (p.R.value zeros size signed) signed b.typed within (p.right.below size signed within (right-wide p.L.width p.R.width size wide) both.1) (other.known both.1)))
          refl refl
          (λ accepted fails.
          let parts = first_of-none (p.left_faults size signed) (p.right_faults size signed) None accepted in
          ap (λ t. sized size signed (node.Binary op t b.typed)) (one.made parts.0)
          ∙ ap (λ t. sized size signed (node.Binary op (p.left_shapes size signed) t)) (other.made parts.1))
          );
    }

-- ---- shifts: the right operand by itself
shift-law : (span : Span) (op : BinaryOp) (p : Pair) → Shifts op
    → ((size : ℕ) (signed other : Bool) (a b : ℕ) → shifted_number op size signed a b ≡ operator.binary op size signed other a b)
    → ClassLaw span (shift op) p (shifted_measured op p.l (alone p.r))
shift-law span op p suits same =
    let c = alone p.r in
    let alone_is = alone-closed p.right in
    let taken_is = taken-as p.right in
    record {
      width = p.left.width;
      signed = p.left.signed;
      constant = and-same p.l.constant c.constant p.L.constant p.R.constant p.left.constant taken_is.constant;
      within = p.left.within;
      below = λ size signed within wide holds.
          let both = and_parts p.L.constant p.R.constant holds in
          binary-below op size size p.R.width signed signed p.R.signed (p.L.value zeros size signed) (own p.R zeros) within within p.right.within (suits.widths size p.R.width) (suits.signs signed p.R.signed)
          (p.left.below size signed within wide both.0) (p.right.below p.R.width p.R.signed p.right.within (omega arith) both.1);
      closes = λ size signed within wide.
          let of = class_sizing (shift op) p.L p.R in
          let one = p.left.closes size signed within wide in
          let a = closed p.l size signed in
          let faults = class_faults span (shift op) p.L p.R p.left_faults p.right_faults size signed in
          let gives = folded of size signed (class_shapes (shift op) p.L p.R p.left_shapes p.right_shapes size signed) in
          subst (IsClosed of faults gives size signed) (sym (closed_shifted p.l.width p.l.signed (p.l.constant && c.constant) op p.l c size signed))
          (folded-closed of faults (option_or a.fault c.fault) gives size signed (p.l.constant && c.constant)
          (constant size signed (shifted_number op size signed (low size a.typed) (number_in c.typed)))
          (sized size signed (node.Binary op a.typed c.typed))
          (class_shapes (shift op) p.L p.R p.left_shapes p.right_shapes size signed)
          (and-same p.l.constant c.constant p.L.constant p.R.constant p.left.constant taken_is.constant)
          (two-faults a.fault c.fault (p.left_faults size signed) (by_own p.R p.right_faults) one.fault alone_is.fault) (λ accepted. refl)
          (λ holds.
          let both = and_parts p.L.constant p.R.constant holds in
          ap (λ n. constant size signed (shifted_number op size signed n (number_in c.typed)))
          (low-constant size (p.L.value zeros size signed) signed a.typed within (p.left.below size signed within wide both.0) (one.known both.0))
          ∙ ap (λ n. constant size signed (shifted_number op size signed (p.L.value zeros size signed) n)) (taken_is.raw both.1)
          ∙ ap (constant size signed) (same size signed p.R.signed (p.L.value zeros size signed) (own p.R zeros)))
          refl refl
          (λ accepted fails.
          let parts = first_of-none (p.left_faults size signed) (by_own p.R p.right_faults) None accepted in
          ap (λ t. sized size signed (node.Binary op t c.typed)) (one.made parts.0)
          ∙ ap (λ t. sized size signed (node.Binary op (p.left_shapes size signed) t)) (alone_is.made parts.1))
          );
    }

-- ---- comparisons: both operands in one context of their own
compared-in : (span : Span) (op : BinaryOp) (p : Pair) → Compares op
    → ClassLaw span (comparison op) p (compared op (max p.L.width p.R.width) (p.L.signed && p.R.signed)
    (closed p.l (max p.L.width p.R.width) (p.L.signed && p.R.signed)) (closed p.r (max p.L.width p.R.width) (p.L.signed && p.R.signed)))
compared-in span op p suits =
    let w = max p.L.width p.R.width in
    let s = p.L.signed && p.R.signed in
    let within = max-within p.L.width p.R.width p.left.within p.right.within in
    let one = p.left.closes w s within (le-max_left p.L.width p.R.width) in
    let other = p.right.closes w s within (le-max_right p.L.width p.R.width) in
    let a = closed p.l w s in
    let b = closed p.r w s in
    let of = class_sizing (comparison op) p.L p.R in
    let number : of.constant ≡ true → operator.binary op w s s (low w a.typed) (low w b.typed) ≡ operator.binary op w s s (p.L.value zeros w s) (p.R.value zeros w s) =
    λ holds.
    let both = and_parts p.L.constant p.R.constant holds in
    ap (λ n. operator.binary op w s s n (low w b.typed))
    (low-constant w (p.L.value zeros w s) s a.typed within (p.left.below w s within (le-max_left p.L.width p.R.width) both.0) (one.known both.0))
    ∙ ap (λ n. operator.binary op w s s (p.L.value zeros w s) n)
    (low-constant w (p.R.value zeros w s) s b.typed within (p.right.below w s within (le-max_right p.L.width p.R.width) both.1) (other.known both.1)) in
    own-law of (first_of (p.left_faults w s) (p.right_faults w s) None) (option_or a.fault b.fault)
    (λ size signed. folded of size signed (class_shapes (comparison op) p.L p.R p.left_shapes p.right_shapes size signed))
    1 false (a.constant && b.constant) (operator.binary op w s s (low w a.typed) (low w b.typed)) (node.Binary op a.typed b.typed) (node.Binary op (p.left_shapes w s) (p.right_shapes w s))
    refl refl (and-same a.constant b.constant p.L.constant p.R.constant one.of_constant other.of_constant) one_bit
    (two-faults a.fault b.fault (p.left_faults w s) (p.right_faults w s) one.fault other.fault)
    (λ holds.
    let both = and_parts p.L.constant p.R.constant holds in
    subst (λ n. n < 2 ^ 1) (sym (number holds))
    (binary-below op 1 w w false s s (p.L.value zeros w s) (p.R.value zeros w s) one_bit within within (suits.widths w) (suits.signs false s)
    (p.left.below w s within (le-max_left p.L.width p.R.width) both.0) (p.right.below w s within (le-max_right p.L.width p.R.width) both.1)))
    (λ size signed holds. ap (extended signed 1 size) (sym (number holds)))
    (λ size signed accepted. refl)
    (λ accepted fails.
    let parts = or-none a.fault b.fault accepted in
    ap (λ t. node.Binary op t b.typed) (one.made (sym one.fault ∙ parts.0)) ∙ ap (node.Binary op (p.left_shapes w s)) (other.made (sym other.fault ∙ parts.1)))

comparison-law : (span : Span) (op : BinaryOp) (p : Pair) → Compares op → ClassLaw span (comparison op) p (compared_measured op p.l p.r)
comparison-law span op p suits =
    let w = max p.L.width p.R.width in
    let s = p.L.signed && p.R.signed in
    let within = max-within p.L.width p.R.width p.left.within p.right.within in
    let width : limited (max p.l.width p.r.width) ≡ w = ap limited (max-same p.l.width p.r.width p.L.width p.R.width p.left.width p.right.width) ∙ limited-within w within in
    let sign : (p.l.signed && p.r.signed) ≡ s = and-same p.l.signed p.r.signed p.L.signed p.R.signed p.left.signed p.right.signed in
    subst (λ x. ClassLaw span (comparison op) p (compared op (limited (max p.l.width p.r.width)) x (closed p.l (limited (max p.l.width p.r.width)) x) (closed p.r (limited (max p.l.width p.r.width)) x))) (sym sign)
    (subst (λ x. ClassLaw span (comparison op) p (compared op x s (closed p.l x s) (closed p.r x s))) (sym width) (compared-in span op p suits))

-- ---- `&&` and `||`: both operands by themselves
logical-law : (span : Span) (op : BinaryOp) (p : Pair) → Joins op → ((l : ℕ) (ls rs : Bool) (a b : ℕ) → logical_number op a b ≡ operator.binary op l ls rs a b)
    → ClassLaw span (logical op) p (joined_truth op (alone p.l) (alone p.r))
logical-law span op p suits same =
    let a = alone p.l in
    let b = alone p.r in
    let one = alone-closed p.left in
    let other = alone-closed p.right in
    let a_taken = taken-as p.left in
    let b_taken = taken-as p.right in
    let of = class_sizing (logical op) p.L p.R in
    let number : of.constant ≡ true → logical_number op (number_of a) (number_of b) ≡ operator.binary op p.L.width p.L.signed p.R.signed (own p.L zeros) (own p.R zeros) =
    λ holds.
    let both = and_parts p.L.constant p.R.constant holds in
    ap (λ n. logical_number op n (number_of b)) (a_taken.number both.0) ∙ ap (logical_number op (own p.L zeros)) (b_taken.number both.1)
    ∙ same p.L.width p.L.signed p.R.signed (own p.L zeros) (own p.R zeros) in
    own-law of (first_of (by_own p.L p.left_faults) (by_own p.R p.right_faults) None) (option_or a.fault b.fault)
    (λ size signed. folded of size signed (class_shapes (logical op) p.L p.R p.left_shapes p.right_shapes size signed))
    1 false (a.constant && b.constant) (logical_number op (number_of a) (number_of b)) (node.Binary op a.typed b.typed)
    (node.Binary op (p.left_shapes p.L.width p.L.signed) (p.right_shapes p.R.width p.R.signed))
    refl refl (and-same a.constant b.constant p.L.constant p.R.constant one.of_constant other.of_constant) one_bit
    (two-faults a.fault b.fault (by_own p.L p.left_faults) (by_own p.R p.right_faults) one.fault other.fault)
    (λ holds.
    let both = and_parts p.L.constant p.R.constant holds in
    subst (λ n. n < 2 ^ 1) (sym (number holds))
    (binary-below op 1 p.L.width p.R.width false p.L.signed p.R.signed (own p.L zeros) (own p.R zeros) one_bit p.left.within p.right.within
    (suits.widths p.L.width p.R.width) (suits.signs false p.L.signed p.R.signed)
    (p.left.below p.L.width p.L.signed p.left.within (omega arith) both.0) (p.right.below p.R.width p.R.signed p.right.within (omega arith) both.1)))
    (λ size signed holds. ap (extended signed 1 size) (sym (number holds)))
    (λ size signed accepted. refl)
    (λ accepted fails.
    let parts = or-none a.fault b.fault accepted in
    ap (λ t. node.Binary op t b.typed) (one.made (sym one.fault ∙ parts.0)) ∙ ap (node.Binary op (p.left_shapes p.L.width p.L.signed)) (other.made (sym other.fault ∙ parts.1)))

-- ---- what is refused unless it is a constant
constant-closed : (of : Sizing) (refused fault : Option WidthErr) (shape : Typed) (size : ℕ) (signed c : Bool) (number : ℕ)
    → c ≡ of.constant → fault ≡ refused → (of.constant ≡ true → number ≡ of.value zeros size signed) → (refused ≡ None → of.constant ≡ true)
    → IsClosed of refused (folded of size signed shape) size signed (closed_with (constant size signed number) c fault)
constant-closed of refused fault shape size signed c number same_constant same_fault knows must =
    record {
      of_constant = same_constant;
      fault = same_fault;
      of_width = refl;
      of_sign = refl;
      known = λ holds. ap (constant size signed) (knows holds);
      made = λ accepted.
          ap (constant size signed) (knows (must accepted))
          ∙ sym (ap (λ b. if b then constant size signed (of.value zeros size signed) else shape) (must accepted));
    }

division-same : (span : Span) (c : Bool) (divisor other : ℕ) (L R : Sizing) → c ≡ (L.constant && R.constant) → ((L.constant && R.constant) ≡ true → divisor ≡ other)
    → closing.division_fault span c divisor ≡ division_fault span L R other
division-same span c divisor other L R same knows = ap (λ b. closing.division_fault span b divisor) same ∙ by (L.constant && R.constant) refl
  where
    by : (b : Bool) → (L.constant && R.constant) ≡ b
        → closing.division_fault span b divisor ≡ when (not b) (fault.NotConstant span) (when (other == 0) (fault.ZeroDivisor span) None)
    by true is = ap (λ n. if n == 0 then Some (fault.ZeroDivisor span) else None) (knows is)
    by false is = refl

division-constant : (span : Span) (L R : Sizing) (divisor : ℕ) → division_fault span L R divisor ≡ None → (L.constant && R.constant) ≡ true
division-constant span L R divisor accepted =
    not-false (L.constant && R.constant)
    (when-none (not (L.constant && R.constant)) (fault.NotConstant span) (when (divisor == 0) (fault.ZeroDivisor span) None) accepted).0

-- a quotient, or a remainder
abbrev divided_sizing : Bool → Pair → Sizing
divided_sizing is_remainder p = both_by_context p.L p.R (divided_number is_remainder)

divided-below : (is_remainder : Bool) (size : ℕ) (signed : Bool) (a b : ℕ) → divided_number is_remainder size signed a b < 2 ^ size
divided-below false size signed a b = word_of-low size _ _
divided-below true size signed a b = word_of-low size _ _

three-faults : (a b c left right whole : Option WidthErr) → a ≡ left → b ≡ right → c ≡ whole → option_or a (option_or b c) ≡ first_of left right whole
three-faults a b c left right whole one other own_fault =
    ap (λ f. option_or f (option_or b c)) one ∙ ap (λ f. option_or left (option_or f c)) other ∙ ap (λ f. option_or left (option_or right f)) own_fault

divided-law : (span : Span) (is_remainder : Bool) (p : Pair)
    → IsMeasured (divided_sizing is_remainder p) (class_faults span quotient p.L p.R p.left_faults p.right_faults)
    (λ size signed. folded (divided_sizing is_remainder p) size signed (constant size signed 0)) (divided_measured span is_remainder p.l p.r)
divided-law span is_remainder p =
    record {
      width = max-same p.l.width p.r.width p.L.width p.R.width p.left.width p.right.width;
      signed = and-same p.l.signed p.r.signed p.L.signed p.R.signed p.left.signed p.right.signed;
      constant = and-same p.l.constant p.r.constant p.L.constant p.R.constant p.left.constant p.right.constant;
      within = max-within p.L.width p.R.width p.left.within p.right.within;
      below = λ size signed within wide holds. divided-below is_remainder size signed (p.L.value zeros size signed) (p.R.value zeros size signed);
      closes = λ size signed within wide.
          let of = divided_sizing is_remainder p in
          let one = p.left.closes size signed within (left-wide p.L.width p.R.width size wide) in
          let other = p.right.closes size signed within (right-wide p.L.width p.R.width size wide) in
          let a = closed p.l size signed in
          let b = closed p.r size signed in
          let c = p.l.constant && p.r.constant in
          let same = and-same p.l.constant p.r.constant p.L.constant p.R.constant p.left.constant p.right.constant in
          let faults = class_faults span quotient p.L p.R p.left_faults p.right_faults size signed in
          let left_low : (p.L.constant && p.R.constant) ≡ true → low size a.typed ≡ p.L.value zeros size signed =
          λ holds. low-constant size (p.L.value zeros size signed) signed a.typed within
          (p.left.below size signed within (left-wide p.L.width p.R.width size wide) (and_parts p.L.constant p.R.constant holds).0)
          (one.known (and_parts p.L.constant p.R.constant holds).0) in
          let right_low : (p.L.constant && p.R.constant) ≡ true → low size b.typed ≡ p.R.value zeros size signed =
          λ holds. low-constant size (p.R.value zeros size signed) signed b.typed within
          (p.right.below size signed within (right-wide p.L.width p.R.width size wide) (and_parts p.L.constant p.R.constant holds).1)
          (other.known (and_parts p.L.constant p.R.constant holds).1) in
          subst (IsClosed of faults (folded of size signed (constant size signed 0)) size signed)
          (sym (closed_divided (max p.l.width p.r.width) (p.l.signed && p.r.signed) c (record { span = span; remainder = is_remainder }) p.l p.r size signed))
          (constant-closed of faults (option_or a.fault (option_or b.fault (closing.division_fault span c (low size b.typed)))) (constant size signed 0) size signed c
          (divided_number is_remainder size signed (low size a.typed) (low size b.typed))
          same
          (three-faults a.fault b.fault (closing.division_fault span c (low size b.typed)) (p.left_faults size signed) (p.right_faults size signed) (division_fault span p.L p.R (p.R.value zeros size signed))
          one.fault other.fault (division-same span c (low size b.typed) (p.R.value zeros size signed) p.L p.R same right_low))
          (λ holds.
          ap (λ n. divided_number is_remainder size signed n (low size b.typed)) (left_low holds)
          ∙ ap (divided_number is_remainder size signed (p.L.value zeros size signed)) (right_low holds))
          (λ accepted.
          division-constant span p.L p.R (p.R.value zeros size signed)
          (first_of-none (p.left_faults size signed) (p.right_faults size signed) (division_fault span p.L p.R (p.R.value zeros size signed)) accepted).2)
          );
    }

-- ---- powers: the exponent by itself
power-law : (span : Span) (p : Pair) → ClassLaw span power p (raised_measured span p.l (alone p.r))
power-law span p =
    let e = alone p.r in
    let alone_is = alone-closed p.right in
    let taken_is = taken-as p.right in
    let c = p.l.constant && e.constant in
    let same = and-same p.l.constant e.constant p.L.constant p.R.constant p.left.constant taken_is.constant in
    let wrong : exponent_fault span c e ≡ power_fault span p.L p.R =
    ap (λ b. when (not b || is_below_0 (known (taken e))) (fault.NotConstant span) None) same
    ∙ ap (λ k. when (not (p.L.constant && p.R.constant) || is_below_0 k) (fault.NotConstant span) None) taken_is.same_known in
    record {
      width = p.left.width;
      signed = p.left.signed;
      constant = same;
      within = p.left.within;
      below = λ size signed within wide holds. mod-lt _ (pow_pos size);
      closes = λ size signed within wide.
          let of = class_sizing power p.L p.R in
          let one = p.left.closes size signed within wide in
          let a = closed p.l size signed in
          let faults = class_faults span power p.L p.R p.left_faults p.right_faults size signed in
          subst (IsClosed of faults (folded of size signed (constant size signed 0)) size signed)
          (sym (closed_raised p.l.width p.l.signed c p.l (magnitude (known (taken e))) (option_or e.fault (exponent_fault span c e)) size signed))
          (constant-closed of faults (option_or a.fault (option_or e.fault (exponent_fault span c e))) (constant size signed 0) size signed c
          (low size a.typed ^ magnitude (known (taken e)) % 2 ^ size)
          same
          (three-faults a.fault e.fault (exponent_fault span c e) (p.left_faults size signed) (by_own p.R p.right_faults) (power_fault span p.L p.R) one.fault alone_is.fault wrong)
          (λ holds.
          let both = and_parts p.L.constant p.R.constant holds in
          ap (λ n. n ^ magnitude (known (taken e)) % 2 ^ size)
          (low-constant size (p.L.value zeros size signed) signed a.typed within (p.left.below size signed within wide both.0) (one.known both.0))
          ∙ ap (λ k. p.L.value zeros size signed ^ magnitude k % 2 ^ size) (taken_is.same_known ∙ known-constant p.R both.1))
          (λ accepted.
          power-constant span p.L p.R
          (first_of-none (p.left_faults size signed) (by_own p.R p.right_faults) (power_fault span p.L p.R) accepted).2)
          );
    }
  where
    known-constant : (s : Sizing) → s.constant ≡ true → known s ≡ integer s zeros
    known-constant s holds = ap (λ b. if b then integer s zeros else pos 0) holds

    power-constant : (at : Span) (L R : Sizing) → power_fault at L R ≡ None → (L.constant && R.constant) ≡ true
    power-constant at L R accepted =
        not-false (L.constant && R.constant)
        (or_false (not (L.constant && R.constant)) (is_below_0 (known R))
        (when-none (not (L.constant && R.constant) || is_below_0 (known R)) (fault.NotConstant at) None accepted).0).0

-- ---- each class
-- the numbers of shifts and of truth values
abbrev Suited : Class → Type 0
Suited (by_context op) = ⊤
Suited (shift op) = (size : ℕ) (signed other : Bool) (a b : ℕ) → shifted_number op size signed a b ≡ operator.binary op size signed other a b
Suited (comparison op) = ⊤
Suited (logical op) = (l : ℕ) (ls rs : Bool) (a b : ℕ) → logical_number op a b ≡ operator.binary op l ls rs a b
Suited quotient = ⊤
Suited remainder = ⊤
Suited power = ⊤

suited : (op : Binary) → Suited (class_of op)
suited binary.Power = tt
suited binary.Divide = tt
suited binary.Modulus = tt
suited binary.Multiply = tt
suited binary.Add = tt
suited binary.Subtract = tt
suited binary.And = tt
suited binary.Xor = tt
suited binary.Xnor = tt
suited binary.Or = tt
suited binary.ShiftLeft = λ size signed other a b. refl
suited binary.ShiftRight = λ size signed other a b. refl
suited binary.SignedShiftLeft = λ size signed other a b. refl
suited binary.SignedShiftRight = λ size signed other a b. refl
suited binary.Less = tt
suited binary.LessEqual = tt
suited binary.Greater = tt
suited binary.GreaterEqual = tt
suited binary.Equal = tt
suited binary.NotEqual = tt
suited binary.LogicalAnd = λ l ls rs a b. refl
suited binary.LogicalOr = λ l ls rs a b. refl

class-law : (span : Span) (c : Class) (p : Pair) → Fits c → Suited c → ClassLaw span c p (binary_measured span c p.l p.r)
class-law span (by_context op) p suits same = both-law span op p suits
class-law span (shift op) p suits same = shift-law span op p suits same
class-law span (comparison op) p suits same = comparison-law span op p suits
class-law span (logical op) p suits same = logical-law span op p suits same
class-law span quotient p suits same = divided-law span false p
class-law span remainder p suits same = divided-law span true p
class-law span power p suits same = power-law span p

pub binary-law : (span : Span) (op : Binary) (L R : Sizing) (left_faults right_faults : Faults) (left_shapes right_shapes : Shapes) (l r : Measured)
    → IsMeasured L left_faults left_shapes l → IsMeasured R right_faults right_shapes r
    → IsMeasured (class_sizing (class_of op) L R) (class_faults span (class_of op) L R left_faults right_faults)
    (λ size signed. folded (class_sizing (class_of op) L R) size signed (class_shapes (class_of op) L R left_shapes right_shapes size signed))
    (binary_measured span (class_of op) l r)
binary-law span op L R left_faults right_faults left_shapes right_shapes l r left right =
    class-law span (class_of op)
    (record { L = L; R = R; left_faults = left_faults; right_faults = right_faults; left_shapes = left_shapes; right_shapes = right_shapes; l = l; r = r; left = left; right = right })
    (class-fits op) (suited op)

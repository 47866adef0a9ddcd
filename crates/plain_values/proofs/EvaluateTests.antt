-- What the tests that conditions are made of say, without the word of their result.
use Rattle.std.proofs.Common.{◌≡◌, ℕ, ap, sym, refl, ◌∙◌}
use Rattle.std.specs.Prelude.{Bool, true, false, not, ◌&&◌, ◌||◌, ◌==◌}
use Rattle.design_core.specs.declared.expression.UnaryOp.{UnaryOp}
use Rattle.design_core.specs.declared.expression.UnaryOp.TheVariants as unary_op
use Rattle.design_core.specs.declared.expression.BinaryOp.{BinaryOp}
use Rattle.design_core.specs.declared.expression.BinaryOp.TheVariants as binary_op
use Rattle.design_core.specs.Operator.{is_true, one_if, unary, binary}

true-one_if : (b : Bool) → is_true (one_if b) ≡ b
true-one_if true = refl
true-one_if false = refl

pub not-holds : (op : UnaryOp) (width a : ℕ) → op ≡ unary_op.LogicalNot → not (is_true a) ≡ is_true (unary op width a)
not-holds op width a is = sym (true-one_if (not (is_true a))) ∙ ap (λ o. is_true (unary o width a)) (sym is)

pub equal-holds : (op : BinaryOp) (width a b : ℕ) (one other : Bool) → op ≡ binary_op.Equal → (a == b) ≡ is_true (binary op width one other a b)
equal-holds op width a b one other is = sym (true-one_if (a == b)) ∙ ap (λ o. is_true (binary o width one other a b)) (sym is)

pub not_equal-holds : (op : BinaryOp) (width a b : ℕ) (one other : Bool) → op ≡ binary_op.NotEqual → not (a == b) ≡ is_true (binary op width one other a b)
not_equal-holds op width a b one other is = sym (true-one_if (not (a == b))) ∙ ap (λ o. is_true (binary o width one other a b)) (sym is)

-- `&&` and `||`, with what is known of the left operand
pub and-holds : (op : BinaryOp) (width a b : ℕ) (one other left : Bool) → op ≡ binary_op.LogicalAnd → is_true a ≡ left
    → (left && is_true b) ≡ is_true (binary op width one other a b)
and-holds op width a b one other left is known =
    ap (λ t. t && is_true b) (sym known) ∙ sym (true-one_if (is_true a && is_true b)) ∙ ap (λ o. is_true (binary o width one other a b)) (sym is)

pub or-holds : (op : BinaryOp) (width a b : ℕ) (one other left : Bool) → op ≡ binary_op.LogicalOr → is_true a ≡ left
    → (left || is_true b) ≡ is_true (binary op width one other a b)
or-holds op width a b one other left is known =
    ap (λ t. t || is_true b) (sym known) ∙ sym (true-one_if (is_true a || is_true b)) ∙ ap (λ o. is_true (binary o width one other a b)) (sym is)

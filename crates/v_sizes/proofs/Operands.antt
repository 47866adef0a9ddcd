-- The operators of the text and those of sized expressions: widths and signs that fit.
use Rattle.std.proofs.Common.{◌≡◌, ℕ, Bool, true, false, ◌&&◌, refl, ap, ◌∙◌}
use Rattle.std.specs.Prelude.{◌==◌, ⊤}
use Rattle.std.proofs.lemmas.Bool.{eq-eqb}
use Rattle.v_syntax.specs.declared.operator.Unary.{Unary}
use Rattle.v_syntax.specs.declared.operator.Unary.TheVariants as unary
use Rattle.v_syntax.specs.declared.operator.Binary.{Binary}
use Rattle.v_syntax.specs.declared.operator.Binary.TheVariants as binary
use Rattle.design_core.specs.declared.expression.BinaryOp.{BinaryOp}
use Rattle.design_core.specs.WellFormed.{unary_fits, binary_fits, signs_fit, same_sign}
use Rattle.v_sizes.specs.Operations.{unary_of, Class, by_context, shift, comparison, logical, quotient, remainder, power, class_of, keeps_width}

same : (w : ℕ) → (w == w) ≡ true
same w = eq-eqb w w refl

sames : (w : ℕ) → (w == w && w == w) ≡ true
sames w = ap (λ b. b && w == w) (same w) ∙ ap (λ b. true && b) (same w)

same_sign-self : (s : Bool) → same_sign s s ≡ true
same_sign-self true = refl
same_sign-self false = refl

-- a unary operator's operand has the width of the result, or the result is a bit
pub keeps-fits : (op : Unary) (w : ℕ) → keeps_width op ≡ true → unary_fits (unary_of op) w w ≡ true
keeps-fits unary.Plus w h = same w
keeps-fits unary.Minus w h = same w
keeps-fits unary.Complement w h = same w
keeps-fits unary.Not w h = cc
keeps-fits unary.And w h = cc
keeps-fits unary.Nand w h = cc
keeps-fits unary.Or w h = cc
keeps-fits unary.Nor w h = cc
keeps-fits unary.Xor w h = cc
keeps-fits unary.Xnor w h = cc

pub bit-fits : (op : Unary) (w : ℕ) → keeps_width op ≡ false → unary_fits (unary_of op) 1 w ≡ true
bit-fits unary.Plus w h = cc
bit-fits unary.Minus w h = cc
bit-fits unary.Complement w h = cc
bit-fits unary.Not w h = refl
bit-fits unary.And w h = refl
bit-fits unary.Nand w h = refl
bit-fits unary.Or w h = refl
bit-fits unary.Nor w h = refl
bit-fits unary.Xor w h = refl
bit-fits unary.Xnor w h = refl

-- an operator fits operands as its class sizes them
pub record ByContext (op : BinaryOp) : Type 0 where
  pub widths : (w : ℕ) → binary_fits op w w w ≡ true
  pub signs : (s : Bool) → signs_fit op s s s ≡ true

pub record Shifts (op : BinaryOp) : Type 0 where
  pub widths : (w r : ℕ) → binary_fits op w w r ≡ true
  pub signs : (s r : Bool) → signs_fit op s s r ≡ true

pub record Compares (op : BinaryOp) : Type 0 where
  pub widths : (w : ℕ) → binary_fits op 1 w w ≡ true
  pub signs : (signed s : Bool) → signs_fit op signed s s ≡ true

pub record Joins (op : BinaryOp) : Type 0 where
  pub widths : (l r : ℕ) → binary_fits op 1 l r ≡ true
  pub signs : (signed l r : Bool) → signs_fit op signed l r ≡ true

abbrev pub Fits : Class → Type 0
Fits (by_context op) = ByContext op
Fits (shift op) = Shifts op
Fits (comparison op) = Compares op
Fits (logical op) = Joins op
Fits quotient = ⊤
Fits remainder = ⊤
Fits power = ⊤

pub class-fits : (op : Binary) → Fits (class_of op)
class-fits binary.Power = tt
class-fits binary.Divide = tt
class-fits binary.Modulus = tt
class-fits binary.Multiply = record { widths = sames; signs = λ s. refl }
class-fits binary.Add = record { widths = sames; signs = λ s. refl }
class-fits binary.Subtract = record { widths = sames; signs = λ s. refl }
class-fits binary.And = record { widths = sames; signs = λ s. refl }
class-fits binary.Xor = record { widths = sames; signs = λ s. refl }
class-fits binary.Xnor = record { widths = sames; signs = λ s. refl }
class-fits binary.Or = record { widths = sames; signs = λ s. refl }
class-fits binary.ShiftLeft = record { widths = λ w r. same w; signs = λ s r. refl }
class-fits binary.ShiftRight = record { widths = λ w r. same w; signs = λ s r. refl }
class-fits binary.SignedShiftLeft = record { widths = λ w r. same w; signs = λ s r. refl }
class-fits binary.SignedShiftRight = record { widths = λ w r. same w; signs = λ s r. same_sign-self s }
class-fits binary.Less = record { widths = λ w. same w; signs = λ signed s. same_sign-self s }
class-fits binary.LessEqual = record { widths = λ w. same w; signs = λ signed s. same_sign-self s }
class-fits binary.Greater = record { widths = λ w. same w; signs = λ signed s. same_sign-self s }
class-fits binary.GreaterEqual = record { widths = λ w. same w; signs = λ signed s. same_sign-self s }
class-fits binary.Equal = record { widths = λ w. same w; signs = λ signed s. same_sign-self s }
class-fits binary.NotEqual = record { widths = λ w. same w; signs = λ signed s. same_sign-self s }
class-fits binary.LogicalAnd = record { widths = λ l r. refl; signs = λ signed l r. refl }
class-fits binary.LogicalOr = record { widths = λ l r. refl; signs = λ signed l r. refl }

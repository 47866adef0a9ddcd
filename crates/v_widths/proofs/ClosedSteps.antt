-- What a measured expression becomes in a context, an equation for each shape.
use Rattle.std.proofs.Common.{◌≡◌, ℕ, Bool, Option, ap, sym, ◌∙◌}
use Rattle.design_core.specs.declared.expression.Node.{Node}
use Rattle.design_core.specs.declared.expression.UnaryOp.{UnaryOp}
use Rattle.design_core.specs.declared.expression.BinaryOp.{BinaryOp}
use Rattle.v_sizes.specs.declared.error.WidthErr.{WidthErr}
use Rattle.v_selects.specs.declared.closed.Closed.{Closed}
use Rattle.v_widths.specs.declared.measured.Division.{Division}
use Rattle.v_widths.specs.declared.measured.Measured.{Measured}
use Rattle.v_widths.specs.declared.measured.Shape.{Shape}
use Rattle.v_widths.specs.declared.measured.Shape.TheVariants as shape
use Rattle.v_widths.specs.declared.measured.Shape.TheFolds.{fold-Shape, fold-roll-Shape, fold_out-Measured}
use Rattle.v_widths.specs.declared.measured.Shape.TheOpen.{Shape-F}
use Rattle.v_widths.specs.Closing.{ShapeClosing, Closing, shape_step, measured_step, closed, closed_with, own_typed, called_closed, unary_closed, both_closed, divided_closed, shifted_closed, raised_closed, chosen_closed}

abbrev pub measured : ℕ → Bool → Bool → Shape → Measured
measured width signed constant form = record { width = width; signed = signed; constant = constant; shape = form }

abbrev shape_closed : Shape → ShapeClosing
shape_closed = fold-Shape ShapeClosing Closing shape_step measured_step

closed_by : (w : ℕ) (s c : Bool) (form : Shape) (size : ℕ) (signed : Bool) → closed (measured w s c form) size signed ≡ shape_closed form w c size signed
closed_by w s c form size signed = ap (λ f. f size signed) (fold_out-Measured ShapeClosing Closing shape_step measured_step (measured w s c form))

pub closed_own : (w : ℕ) (s c : Bool) (n : Node) (f : Option WidthErr) (size : ℕ) (signed : Bool)
    → closed (measured w s c (shape.Own n f)) size signed ≡ closed_with (own_typed c w size signed n) c f
closed_own w s c n f size signed =
    closed_by w s c (shape.Own n f) size signed
    ∙ ap (λ f. f w c size signed)
    (ap shape_closed (sym (shape.rolls-Own n f)) ∙ fold-roll-Shape ShapeClosing Closing shape_step measured_step (Shape-F.Own n f))

pub closed_called : (w : ℕ) (s c : Bool) (e : Closed) (size : ℕ) (signed : Bool)
    → closed (measured w s c (shape.Called e)) size signed ≡ called_closed c size signed e
closed_called w s c e size signed =
    closed_by w s c (shape.Called e) size signed
    ∙ ap (λ f. f w c size signed)
    (ap shape_closed (sym (shape.rolls-Called e)) ∙ fold-roll-Shape ShapeClosing Closing shape_step measured_step (Shape-F.Called e))

pub closed_unary : (w : ℕ) (s c : Bool) (op : UnaryOp) (e : Measured) (size : ℕ) (signed : Bool)
    → closed (measured w s c (shape.Unary op e)) size signed ≡ unary_closed op c size signed (closed e size signed)
closed_unary w s c op e size signed =
    closed_by w s c (shape.Unary op e) size signed
    ∙ ap (λ f. f w c size signed)
    (ap shape_closed (sym (shape.rolls-Unary op e)) ∙ fold-roll-Shape ShapeClosing Closing shape_step measured_step (Shape-F.Unary op e))

pub closed_both : (w : ℕ) (s c : Bool) (op : BinaryOp) (l r : Measured) (size : ℕ) (signed : Bool)
    → closed (measured w s c (shape.Both op l r)) size signed ≡ both_closed op c size signed (closed l size signed) (closed r size signed)
closed_both w s c op l r size signed =
    closed_by w s c (shape.Both op l r) size signed
    ∙ ap (λ f. f w c size signed)
    (ap shape_closed (sym (shape.rolls-Both op l r)) ∙ fold-roll-Shape ShapeClosing Closing shape_step measured_step (Shape-F.Both op l r))

pub closed_divided : (w : ℕ) (s c : Bool) (d : Division) (l r : Measured) (size : ℕ) (signed : Bool)
    → closed (measured w s c (shape.Divided d l r)) size signed ≡ divided_closed d.span d.remainder c size signed (closed l size signed) (closed r size signed)
closed_divided w s c d l r size signed =
    closed_by w s c (shape.Divided d l r) size signed
    ∙ ap (λ f. f w c size signed)
    (ap shape_closed (sym (shape.rolls-Divided d l r)) ∙ fold-roll-Shape ShapeClosing Closing shape_step measured_step (Shape-F.Divided d l r))

pub closed_shifted : (w : ℕ) (s c : Bool) (op : BinaryOp) (l : Measured) (r : Closed) (size : ℕ) (signed : Bool)
    → closed (measured w s c (shape.Shifted op l r)) size signed ≡ shifted_closed op c size signed (closed l size signed) r
closed_shifted w s c op l r size signed =
    closed_by w s c (shape.Shifted op l r) size signed
    ∙ ap (λ f. f w c size signed)
    (ap shape_closed (sym (shape.rolls-Shifted op l r)) ∙ fold-roll-Shape ShapeClosing Closing shape_step measured_step (Shape-F.Shifted op l r))

pub closed_raised : (w : ℕ) (s c : Bool) (l : Measured) (exponent : ℕ) (f : Option WidthErr) (size : ℕ) (signed : Bool)
    → closed (measured w s c (shape.Raised l exponent f)) size signed ≡ raised_closed exponent f c size signed (closed l size signed)
closed_raised w s c l exponent f size signed =
    closed_by w s c (shape.Raised l exponent f) size signed
    ∙ ap (λ f. f w c size signed)
    (ap shape_closed (sym (shape.rolls-Raised l exponent f)) ∙ fold-roll-Shape ShapeClosing Closing shape_step measured_step (Shape-F.Raised l exponent f))

pub closed_chosen : (w : ℕ) (s c : Bool) (e : Closed) (l r : Measured) (size : ℕ) (signed : Bool)
    → closed (measured w s c (shape.Chosen e l r)) size signed ≡ chosen_closed c size signed e (closed l size signed) (closed r size signed)
closed_chosen w s c e l r size signed =
    closed_by w s c (shape.Chosen e l r) size signed
    ∙ ap (λ f. f w c size signed)
    (ap shape_closed (sym (shape.rolls-Chosen e l r)) ∙ fold-roll-Shape ShapeClosing Closing shape_step measured_step (Shape-F.Chosen e l r))

-- Conditions: where a run goes on.
use Rattle.std.proofs.Common.{◌≡◌, ℕ, ◌≤◌, length, arith, sym, refl, ◌∙◌, ap, subst}
use Rattle.std.specs.Prelude.{Bool, true, false, not, ◌&&◌, ◌||◌, ◌==◌, if◌then◌else◌}
use Rattle.design_core.specs.declared.expression.Typed.{Typed}
use Rattle.design_core.specs.declared.expression.Node.TheVariants as node
use Rattle.design_core.specs.declared.expression.UnaryOp.TheVariants as unary_op
use Rattle.design_core.specs.declared.expression.BinaryOp.TheVariants as binary_op
use Rattle.design_core.specs.Valuation.{Valuation}
use Rattle.design_core.specs.Operator.{is_true, binary}
use Rattle.design_core.specs.Value.{node_value}
use Rattle.design_core.specs.After.{Choice}
use Rattle.design_core.proofs.ExpressionSteps.{value_unary, value_binary}
use Rattle.plain_values.proofs.EvaluateTests.{not-holds, and-holds, or-holds}
use Rattle.cycle_code.specs.declared.instruction.Instruction.{Instruction}
use Rattle.cycle_code.specs.declared.instruction.Instruction.TheVariants as instruction
use Rattle.cycle_code.specs.Program.{Program, signals_of, count_of, Grown, with_instruction}
use Rattle.cycle_code.specs.Cells.{below, HasConstants}
use Rattle.cycle_code.specs.Effects.{held_in, effect, next, jumped}
use Rattle.cycle_code.specs.Fitting.{IsSound}
use Rattle.cycle_code.proofs.RunSteps.{jumped-at}
use Rattle.cycle_code.proofs.GrowthLaws.{Grown-trans}
use Rattle.cycle_compile.specs.Compiling.{value_in, Leads, Keeps, Values, Decides}
use Rattle.cycle_compile.specs.Carrying.{Jumps, Tests, same_values}
use Rattle.cycle_compile.specs.Computing.{Branches}
use Rattle.cycle_compile.proofs.Leading.{Leads-on, Leads-at, Leads-pushed, Keeps-on, Keeps-fewer, Keeps-placed, widths-grown, value_in-kept}
use Rattle.cycle_compile.proofs.Jumping.{more-instructions}
use Rattle.cycle_compile.proofs.Computing.{IsPlaced, both-left}

-- ---- branches
-- an instruction that jumps to one number where a test of the cells passes; else the run goes on at the other already
pub Branches-jump : (i : Instruction) (old new : Program) (test : Program → Valuation → Bool) (hit miss : ℕ)
    → miss ≡ length old.instructions
    → new ≡ with_instruction i old → IsSound new → Grown old new
    → ((p : Program) (choice : Choice) (V : Valuation)
    → (next p i (length old.instructions) V ≡ (if test p V then hit else length old.instructions)) × (effect p choice i V ≡ V))
    → Branches old new test hit miss
Branches-jump i old new test hit miss here is sound grown steps = record {
  grown = grown;
  goes = λ p choice V more has.
      let step = steps p choice V in
      subst (λ U. Leads p choice (length new.instructions) V (if test p V then hit else miss) U) step.1
      (Leads-at (length new.instructions) (if test p V then hit else miss) refl (step.0 ∙ ap (λ n. if test p V then hit else n) (sym here))
      (Leads-pushed i old new p choice V is sound more has));
}

-- behind a jump to the one number, an instruction that jumps to the other unless the test passes
pub Branches-either : (i : Instruction) (before old new : Program) (test : Program → Valuation → Bool) (hit miss : ℕ) → Jumps before old hit
    → new ≡ with_instruction i old → IsSound new → Grown old new
    → ((p : Program) (choice : Choice) (V : Valuation)
    → (next p i (length old.instructions) V ≡ (if test p V then length old.instructions else miss)) × (effect p choice i V ≡ V))
    → Branches before new test hit miss
Branches-either i before old new test hit miss jumps is sound grown steps = record {
  grown = Grown-trans before old new jumps.grown grown;
  goes = λ p choice V more has.
      let step = steps p choice V in
      let first : Leads p choice (length new.instructions) V (if test p V then length old.instructions else miss) V =
      subst (λ U. Leads p choice (length new.instructions) V (if test p V then length old.instructions else miss) U) step.1
      (Leads-at (length new.instructions) (if test p V then length old.instructions else miss) refl step.0
      (Leads-pushed i old new p choice V is sound more has)) in
      by p choice V (Grown-trans old new p grown more) has (test p V) first;
}
  where
    by : (p : Program) (choice : Choice) (V : Valuation) → Grown old p → HasConstants p V → (b : Bool)
        → Leads p choice (length new.instructions) V (if b then length old.instructions else miss) V
        → Leads p choice (length new.instructions) V (if b then hit else miss) V
    by p choice V more has true first = Leads-on first (jumps.goes p choice V more has)
    by p choice V more has false first = first

-- a jump unless a test passes
jumped-unless : (q miss : ℕ) (t : Bool) → miss ≤ q → jumped q miss (not t) ≡ (if t then q else miss)
jumped-unless q miss true h = refl
jumped-unless q miss false h = jumped-at q miss true h

pub Branches-if : (old new : Program) (cond hit miss : ℕ) → miss ≡ length old.instructions → hit ≤ length old.instructions
    → new ≡ with_instruction (instruction.JumpIf cond hit) old → IsSound new → Grown old new
    → Branches old new (λ p V. is_true (held_in p V cond)) hit miss
Branches-if old new cond hit miss here low is sound grown =
    Branches-jump (instruction.JumpIf cond hit) old new (λ p V. is_true (held_in p V cond)) hit miss here is sound grown
    (λ p choice V. (jumped-at (length old.instructions) hit (is_true (held_in p V cond)) low, refl))

pub Branches-unless : (before old new : Program) (cond hit miss : ℕ) → Jumps before old hit → miss ≤ length before.instructions
    → new ≡ with_instruction (instruction.JumpUnless cond miss) old → IsSound new → Grown old new
    → Branches before new (λ p V. is_true (held_in p V cond)) hit miss
Branches-unless before old new cond hit miss jumps low is sound grown =
    let most = more-instructions before old jumps.grown in
    Branches-either (instruction.JumpUnless cond miss) before old new (λ p V. is_true (held_in p V cond)) hit miss jumps is sound grown
    (λ p choice V. (jumped-unless (length old.instructions) miss (is_true (held_in p V cond)) (omega arith), refl))

pub Branches-equal : (old new : Program) (left right hit miss : ℕ) → miss ≡ length old.instructions → hit ≤ length old.instructions
    → new ≡ with_instruction (instruction.JumpEqual left right hit) old → IsSound new → Grown old new
    → Branches old new (λ p V. held_in p V left == held_in p V right) hit miss
Branches-equal old new left right hit miss here low is sound grown =
    Branches-jump (instruction.JumpEqual left right hit) old new (λ p V. held_in p V left == held_in p V right) hit miss here is sound grown
    (λ p choice V. (jumped-at (length old.instructions) hit (held_in p V left == held_in p V right) low, refl))

pub Branches-unlike : (before old new : Program) (left right hit miss : ℕ) → Jumps before old hit → miss ≤ length before.instructions
    → new ≡ with_instruction (instruction.JumpUnlike left right miss) old → IsSound new → Grown old new
    → Branches before new (λ p V. held_in p V left == held_in p V right) hit miss
Branches-unlike before old new left right hit miss jumps low is sound grown =
    let most = more-instructions before old jumps.grown in
    Branches-either (instruction.JumpUnlike left right miss) before old new (λ p V. held_in p V left == held_in p V right) hit
    miss jumps is sound grown
    (λ p choice V. (jumped-unless (length old.instructions) miss (held_in p V left == held_in p V right) (omega arith), refl))

-- ---- the value of an expression
-- a condition by its value, computed into a cell
pub Decides-value : (before placed old last : Program) (e : Typed) (cell hit miss : ℕ) → IsPlaced before placed e cell
    → Branches placed old (λ p V. is_true (held_in p V cell)) hit miss → Values old last e cell → Decides before last e hit miss
Decides-value before placed old last e cell hit miss at branches values =
    let first : Grown before old = Grown-trans before placed old at.grown branches.grown in
    record {
      grown = Grown-trans before old last first values.grown;
      goes = λ p choice V grown has.
          let leaves = values.leaves p choice V grown has in
          let branch = branches.goes p choice leaves.W (Grown-trans old last p values.grown grown) leaves.leads.constants in
          record {
            W = leaves.W;
            leads = Leads-on leaves.leads
                (subst (λ n. Leads p choice (length old.instructions) leaves.W (if is_true n then hit else miss) leaves.W)
                leaves.value branch);
            keeps = Keeps-placed before first at.fresh leaves;
          };
    }

-- the same, of an expression whose test is that of another one
Decides-as : (before last : Program) (e : Typed) (hit miss : ℕ) → Grown before last
    → ((p : Program) (choice : Choice) (V : Valuation) → Grown last p → HasConstants p V
    → (test : Bool) × (is_true (value_in p V e) ≡ test) × (W : Valuation) × Leads p choice (length last.instructions) V
    (if test then hit else miss) W × Keeps (length before.widths) V W)
    → Decides before last e hit miss
Decides-as before last e hit miss grown goes = record {
  grown = grown;
  goes = λ p choice V more has.
      let g = goes p choice V more has in
      record {
        W = g.2;
        leads = subst (λ b. Leads p choice (length last.instructions) V (if b then hit else miss) g.2) (sym g.1) g.3;
        keeps = g.4;
      };
}

-- a run by a test is one by its opposite with the two numbers exchanged
swapped : (last p : Program) (choice : Choice) (V W : Valuation) (b : Bool) (hit miss : ℕ)
    → Leads p choice (length last.instructions) V (if b then miss else hit) W
    → Leads p choice (length last.instructions) V (if not b then hit else miss) W
swapped last p choice V W true hit miss leads = leads
swapped last p choice V W false hit miss leads = leads

-- ---- a condition that holds where another one does, or where it doesn't
pub Decides-same : (before last : Program) (e arg : Typed) (hit miss : ℕ)
    → ((p : Program) (V : Valuation) → is_true (value_in p V e) ≡ is_true (value_in p V arg))
    → Decides before last arg hit miss → Decides before last e hit miss
Decides-same before last e arg hit miss holds decides =
    Decides-as before last e hit miss decides.grown (λ p choice V more has.
    let g = decides.goes p choice V more has in
    (is_true (value_in p V arg), holds p V, g.W, g.leads, g.keeps))

pub Decides-opposite : (before last : Program) (e arg : Typed) (hit miss : ℕ)
    → ((p : Program) (V : Valuation) → is_true (value_in p V e) ≡ not (is_true (value_in p V arg)))
    → Decides before last arg miss hit → Decides before last e hit miss
Decides-opposite before last e arg hit miss fails decides =
    Decides-as before last e hit miss decides.grown (λ p choice V more has.
    let g = decides.goes p choice V more has in
    (not (is_true (value_in p V arg)), fails p V, g.W, swapped last p choice V g.W (is_true (value_in p V arg)) hit miss g.leads, g.keeps))

-- ---- `!`
pub Decides-not : (before last : Program) (e arg : Typed) (hit miss : ℕ) → e.node ≡ node.Unary unary_op.LogicalNot arg
    → Decides before last arg miss hit
    → Decides before last e hit miss
Decides-not before last e arg hit miss is =
    Decides-opposite before last e arg hit miss (λ p V.
    ap (λ n. is_true (node_value (signals_of p) (below (count_of p) V) e.width n)) is
    ∙ ap is_true (value_unary (signals_of p) (below (count_of p) V) e.width unary_op.LogicalNot arg)
    ∙ sym (not-holds unary_op.LogicalNot arg.width (value_in p V arg) refl))

-- ---- `&&` and `||`: the right operand counts only where the left one doesn't decide
pub Decides-and : (before middle last : Program) (e left right : Typed) (hit miss : ℕ)
    → e.node ≡ node.Binary binary_op.LogicalAnd left right → IsSound before
    → Decides before middle right hit miss → Decides middle last left (length middle.instructions) miss → Decides before last e hit miss
Decides-and before middle last e left right hit miss is sound rights lefts =
    Decides-as before last e hit miss (Grown-trans before middle last rights.grown lefts.grown) (λ p choice V more has.
    let value : value_in p V e ≡ binary binary_op.LogicalAnd left.width left.signed right.signed (value_in p V left) (value_in p V right) =
    ap (node_value (signals_of p) (below (count_of p) V) e.width) is
    ∙ value_binary (signals_of p) (below (count_of p) V) e.width binary_op.LogicalAnd left right in
    let g = lefts.goes p choice V more has in
    let fewer : length before.widths ≤ length middle.widths = widths-grown before middle rights.grown in
    let keeps : Keeps (length before.widths) V g.W = Keeps-fewer (length before.widths) (length middle.widths) V g.W fewer g.keeps in
    let after_left : Grown middle p = Grown-trans middle last p lefts.grown more in
    let h = rights.goes p choice g.W after_left g.leads.constants in
    let same : value_in p g.W right ≡ value_in p V right =
    value_in-kept before p V g.W right sound (Grown-trans before middle p rights.grown after_left) keeps in
    let both : is_true (value_in p V e) ≡ (is_true (value_in p V left) && is_true (value_in p V right)) =
    ap is_true value
    ∙ sym (and-holds binary_op.LogicalAnd left.width (value_in p V left) (value_in p V right) left.signed right.signed
    (is_true (value_in p V left)) refl refl) in
    let end = by p choice V g.W h.W (is_true (value_in p V left)) (is_true (value_in p V right)) g.leads
    (subst (λ n. Leads p choice (length middle.instructions) g.W (if is_true n then hit else miss) h.W) same h.leads)
    keeps (Keeps-on (length before.widths) V g.W h.W keeps h.keeps) in
    ((is_true (value_in p V left) && is_true (value_in p V right)), both, end.0, end.1, end.2))
  where
    by : (p : Program) (choice : Choice) (V W X : Valuation) (a b : Bool)
        → Leads p choice (length last.instructions) V (if a then length middle.instructions else miss) W
        → Leads p choice (length middle.instructions) W (if b then hit else miss) X
        → Keeps (length before.widths) V W → Keeps (length before.widths) V X
        → (U : Valuation) × Leads p choice (length last.instructions) V (if a && b then hit else miss) U × Keeps (length before.widths) V U
    by p choice V W X true b one other first second = (X, Leads-on one other, second)
    by p choice V W X false b one other first second = (W, one, first)

pub Decides-or : (before middle last : Program) (e left right : Typed) (hit miss : ℕ)
    → e.node ≡ node.Binary binary_op.LogicalOr left right → IsSound before
    → Decides before middle right hit miss → Decides middle last left hit (length middle.instructions) → Decides before last e hit miss
Decides-or before middle last e left right hit miss is sound rights lefts =
    Decides-as before last e hit miss (Grown-trans before middle last rights.grown lefts.grown) (λ p choice V more has.
    let value : value_in p V e ≡ binary binary_op.LogicalOr left.width left.signed right.signed (value_in p V left) (value_in p V right) =
    ap (node_value (signals_of p) (below (count_of p) V) e.width) is
    ∙ value_binary (signals_of p) (below (count_of p) V) e.width binary_op.LogicalOr left right in
    let g = lefts.goes p choice V more has in
    let fewer : length before.widths ≤ length middle.widths = widths-grown before middle rights.grown in
    let keeps : Keeps (length before.widths) V g.W = Keeps-fewer (length before.widths) (length middle.widths) V g.W fewer g.keeps in
    let after_left : Grown middle p = Grown-trans middle last p lefts.grown more in
    let h = rights.goes p choice g.W after_left g.leads.constants in
    let same : value_in p g.W right ≡ value_in p V right =
    value_in-kept before p V g.W right sound (Grown-trans before middle p rights.grown after_left) keeps in
    let either : is_true (value_in p V e) ≡ (is_true (value_in p V left) || is_true (value_in p V right)) =
    ap is_true value
    ∙ sym (or-holds binary_op.LogicalOr left.width (value_in p V left) (value_in p V right) left.signed right.signed
    (is_true (value_in p V left)) refl refl) in
    let end = by p choice V g.W h.W (is_true (value_in p V left)) (is_true (value_in p V right)) g.leads
    (subst (λ n. Leads p choice (length middle.instructions) g.W (if is_true n then hit else miss) h.W) same h.leads)
    keeps (Keeps-on (length before.widths) V g.W h.W keeps h.keeps) in
    ((is_true (value_in p V left) || is_true (value_in p V right)), either, end.0, end.1, end.2))
  where
    by : (p : Program) (choice : Choice) (V W X : Valuation) (a b : Bool)
        → Leads p choice (length last.instructions) V (if a then hit else length middle.instructions) W
        → Leads p choice (length middle.instructions) W (if b then hit else miss) X
        → Keeps (length before.widths) V W → Keeps (length before.widths) V X
        → (U : Valuation) × Leads p choice (length last.instructions) V (if a || b then hit else miss) U × Keeps (length before.widths) V U
    by p choice V W X true b one other first second = (W, one, first)
    by p choice V W X false b one other first second = (X, Leads-on one other, second)

-- ---- tests of equality
-- two operands, and a branch where their numbers are equal
pub Tests-equal : (before between placed old middle last : Program) (left right : Typed) (high low hit miss : ℕ) → IsSound before
    → IsPlaced before between left high → IsPlaced between placed right low
    → Branches placed old (λ p V. held_in p V high == held_in p V low) hit miss
    → Values old middle right low → Values middle last left high
    → Tests before last (length last.instructions) (same_values left right) hit miss
Tests-equal before between placed old middle last left right high low hit miss sound one other branches rights lefts = record {
  grown = Grown-trans before placed last (Grown-trans before between placed one.grown other.grown)
      (Grown-trans placed old last branches.grown (Grown-trans old middle last rights.grown lefts.grown));
  within = omega arith;
  goes = λ p choice V more has.
      let g = both-left before between placed old middle last left high right low sound one other branches.grown rights lefts
      p choice V more has in
      let later : Grown old p = Grown-trans old middle p rights.grown (Grown-trans middle last p lefts.grown more) in
      let branch = branches.goes p choice g.W later g.leads.constants in
      record {
        W = g.W;
        leads = Leads-on g.leads
            (subst (λ n. Leads p choice (length old.instructions) g.W (if n == value_in p V right then hit else miss) g.W) g.high_held
            (subst (λ n. Leads p choice (length old.instructions) g.W (if held_in p g.W high == n then hit else miss) g.W)
            g.low_held branch));
        keeps = g.keeps;
      };
}

-- a condition that holds where a test passes
pub Decides-tests : (before last : Program) (e : Typed) (test : Program → Valuation → Bool) (hit miss : ℕ)
    → ((p : Program) (V : Valuation) → is_true (value_in p V e) ≡ test p V) → Tests before last (length last.instructions) test hit miss
    → Decides before last e hit miss
Decides-tests before last e test hit miss holds tests =
    Decides-as before last e hit miss tests.grown (λ p choice V more has.
    let g = tests.goes p choice V more has in
    (test p V, holds p V, g.W, g.leads, g.keeps))

-- and one that holds where it fails
pub Decides-fails : (before last : Program) (e : Typed) (test : Program → Valuation → Bool) (hit miss : ℕ)
    → ((p : Program) (V : Valuation) → is_true (value_in p V e) ≡ not (test p V))
    → Tests before last (length last.instructions) test miss hit
    → Decides before last e hit miss
Decides-fails before last e test hit miss fails tests =
    Decides-as before last e hit miss tests.grown (λ p choice V more has.
    let g = tests.goes p choice V more has in
    (not (test p V), fails p V, g.W, swapped last p choice V g.W (test p V) hit miss g.leads, g.keeps))

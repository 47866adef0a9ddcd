-- The instructions of operators: once their operands are computed, they leave the operator's value.
use Rattle.std.proofs.Common.{◌≡◌, ℕ, ◌+◌, ◌<◌, length, arith, sym, refl, ◌∙◌, ap}
use Rattle.std.specs.Prelude.{◌&&◌}
use Rattle.std.proofs.lemmas.Bool.{lt-ltb}
use Rattle.design_core.specs.declared.expression.Typed.{Typed}
use Rattle.design_core.specs.declared.expression.Node.{Node}
use Rattle.design_core.specs.declared.expression.UnaryOp.{UnaryOp}
use Rattle.design_core.specs.declared.expression.BinaryOp.{BinaryOp}
use Rattle.design_core.specs.declared.expression.Node.TheVariants as node
use Rattle.design_core.specs.Valuation.{Valuation, number}
use Rattle.design_core.specs.Operator.{unary, binary, repeated, resized}
use Rattle.design_core.specs.Value.{node_value}
use Rattle.design_core.specs.After.{Choice}
use Rattle.design_core.proofs.NumberLaws.{number-same}
use Rattle.design_core.proofs.ExpressionSteps.{value_unary, value_binary, value_repeat, value_resize}
use Rattle.cycle_code.specs.declared.instruction.Instruction.{Instruction}
use Rattle.cycle_code.specs.declared.instruction.Instruction.TheVariants as instruction
use Rattle.cycle_code.specs.Program.{Program, signals_of, count_of, Grown}
use Rattle.cycle_code.specs.Cells.{width_in, below}
use Rattle.cycle_code.specs.Effects.{held_in, with_held_in}
use Rattle.cycle_code.specs.Fitting.{IsSound}
use Rattle.cycle_code.proofs.GrowthLaws.{width_in-grown, Grown-trans}
use Rattle.cycle_compile.specs.Compiling.{value_in, Values}
use Rattle.cycle_compile.specs.Computing.{DoesAs, Awaits, AwaitsBoth}
use Rattle.cycle_compile.proofs.Leading.{count-grown}
use Rattle.cycle_compile.proofs.Placing.{IsPlaceFor-grown}
use Rattle.cycle_compile.proofs.Computing.{IsOwn, Puts, IsPlaced, Values-own, Values-one, Values-two}

-- what an instruction puts into its cell is the value of a node
put-value : (p : Program) (V W : Valuation) (e : Typed) (cell n : ℕ) (at : Node) → e.node ≡ at
    → n ≡ node_value (signals_of p) (below (count_of p) V) e.width at
    → with_held_in p cell n W ≡ with_held_in p cell (value_in p V e) W
put-value p V W e cell n at is same =
    ap (λ k. with_held_in p cell k W) (same ∙ ap (node_value (signals_of p) (below (count_of p) V) e.width) (sym is))

-- ---- no operand
pub Values-slice : (before new : Program) (e : Typed) (cell signal from width : ℕ) → e.node ≡ node.Slice signal from width
    → signal < count_of before
    → IsOwn (instruction.Slice signal from width cell) before before new e cell → Values before new e cell
Values-slice before new e cell signal from width is low own =
    Values-own (instruction.Slice signal from width cell) before before new e cell own (λ p choice V grown.
    let count : count_of p ≡ count_of before = count-grown before p (Grown-trans before new p own.grown grown) in
    record {
      goes_on = refl;
      leaves = put-value p V V e cell (number width (λ b. V signal (from + b))) (node.Slice signal from width) is
          (number-same width (λ b. V signal (from + b)) (λ b. below (count_of p) V signal (from + b))
          (λ b h. ap (λ t. t && V signal (from + b)) (sym (lt-ltb signal (count_of p) (omega arith)))));
    })

-- ---- one operand
awaits : (i : Instruction) (before old new : Program) (e : Typed) (cell : ℕ) (arg : Typed) (operand : ℕ)
    → IsOwn i before old new e cell → IsPlaced before old arg operand → Grown old new
    → ((p : Program) (choice : Choice) (V W : Valuation) → Grown old p → width_in p.widths operand ≡ arg.width
    → held_in p W operand ≡ value_in p V arg
    → Puts p choice i (length old.instructions) V W e cell)
    → Awaits before new e cell arg operand
awaits i before old new e cell arg operand own placed more puts = record {
  grown = own.grown;
  place = IsPlaceFor-grown old new arg operand more placed.place;
  serves = λ last values. Values-one i before old new last e cell arg operand own placed more values puts;
}

pub Awaits-unary : (i : Instruction) (before old new : Program) (e : Typed) (cell : ℕ) (op : UnaryOp) (arg : Typed) (operand : ℕ)
    → e.node ≡ node.Unary op arg → DoesAs (instruction.Unary op operand cell) i
    → IsOwn i before old new e cell → IsPlaced before old arg operand → Grown old new
    → Awaits before new e cell arg operand
Awaits-unary i before old new e cell op arg operand is does own placed more =
    awaits i before old new e cell arg operand own placed more
    (λ p choice V W grown wide held. record {
      goes_on = does.goes_on p (length old.instructions) W;
      leaves = does.effects p choice W
          ∙ put-value p V W e cell (unary op (width_in p.widths operand) (held_in p W operand)) (node.Unary op arg) is
          (ap (λ w. unary op w (held_in p W operand)) wide ∙ ap (unary op arg.width) held
          ∙ sym (value_unary (signals_of p) (below (count_of p) V) e.width op arg));
    })

pub Awaits-repeat : (before old new : Program) (e : Typed) (cell times : ℕ) (arg : Typed) (operand : ℕ) → e.node ≡ node.Repeat times arg
    → IsOwn (instruction.Repeat times operand cell) before old new e cell → IsPlaced before old arg operand → Grown old new
    → Awaits before new e cell arg operand
Awaits-repeat before old new e cell times arg operand is own placed more =
    awaits (instruction.Repeat times operand cell) before old new e cell arg operand own placed more
    (λ p choice V W grown wide held. record {
      goes_on = refl;
      leaves = put-value p V W e cell (repeated times (width_in p.widths operand) (held_in p W operand)) (node.Repeat times arg) is
          (ap (λ w. repeated times w (held_in p W operand)) wide ∙ ap (repeated times arg.width) held
          ∙ sym (value_repeat (signals_of p) (below (count_of p) V) e.width times arg));
    })

pub Awaits-resize : (before old new : Program) (e : Typed) (cell : ℕ) (arg : Typed) (operand : ℕ) → e.node ≡ node.Resize arg
    → IsOwn (instruction.Resize operand arg.signed cell) before old new e cell → IsPlaced before old arg operand → Grown old new
    → Awaits before new e cell arg operand
Awaits-resize before old new e cell arg operand is own placed more =
    awaits (instruction.Resize operand arg.signed cell) before old new e cell arg operand own placed more
    (λ p choice V W grown wide held.
    let whole : Grown before p = Grown-trans before old p placed.grown grown in
    let size : width_in p.widths cell ≡ e.width = width_in-grown before p cell whole own.place.is_there ∙ own.place.width in
    record {
      goes_on = refl;
      leaves = put-value p V W e cell (resized (width_in p.widths cell) arg.signed (width_in p.widths operand)
          (held_in p W operand)) (node.Resize arg) is
          (ap (λ w. resized w arg.signed (width_in p.widths operand) (held_in p W operand)) size
          ∙ ap (λ w. resized e.width arg.signed w (held_in p W operand)) wide
          ∙ ap (resized e.width arg.signed arg.width) held
          ∙ sym (value_resize (signals_of p) (below (count_of p) V) e.width arg));
    })

-- ---- two operands
pub Awaits-binary : (i : Instruction) (before between old new : Program) (e : Typed) (cell : ℕ) (op : BinaryOp) (left : Typed) (high : ℕ)
    (right : Typed) (low : ℕ) → e.node ≡ node.Binary op left right → DoesAs (instruction.Binary op high left.signed low right.signed cell) i
    → IsSound before → IsOwn i before old new e cell
    → IsPlaced before between left high → IsPlaced between old right low → Grown old new
    → AwaitsBoth before new e cell left high right low
Awaits-binary i before between old new e cell op left high right low is does sound own one other more = record {
  grown = own.grown;
  left_place = IsPlaceFor-grown between new left high (Grown-trans between old new other.grown more) one.place;
  right_place = IsPlaceFor-grown old new right low more other.place;
  serves = λ middle last rights lefts.
      Values-two i before between old new middle last e cell left high right low
      sound own one other more rights lefts
      (λ p choice V W grown high_wide high_held low_wide low_held. record {
        goes_on = does.goes_on p (length old.instructions) W;
        leaves = does.effects p choice W
            ∙ put-value p V W e cell
            (binary op (width_in p.widths high) left.signed right.signed (held_in p W high) (held_in p W low))
            (node.Binary op left right) is
            (ap (λ w. binary op w left.signed right.signed (held_in p W high) (held_in p W low)) high_wide
            ∙ ap (λ n. binary op left.width left.signed right.signed n (held_in p W low)) high_held
            ∙ ap (binary op left.width left.signed right.signed (value_in p V left)) low_held
            ∙ sym (value_binary (signals_of p) (below (count_of p) V) e.width op left right));
      });
}

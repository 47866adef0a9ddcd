-- The instructions of operators fit where the expressions do.
use Rattle.std.proofs.Common.{◌≡◌, ℕ, zero, suc, ◌+◌, ◌*◌, ◌<◌, ◌≤◌, List, length, arith, sym, ◌∙◌, ap, subst}
use Rattle.std.specs.Prelude.{Bool, false, ◌&&◌, ◌==◌, nat_le, IsTrue}
use Rattle.std.proofs.lemmas.Bool.{and_parts, ltb-true, lt-ltb, leb-true, le-leb, eqb-true, eq-eqb}
use Rattle.design_core.specs.declared.signal.Signal.{Signal}
use Rattle.design_core.specs.declared.expression.Typed.{Typed}
use Rattle.design_core.specs.declared.expression.Node.{Node}
use Rattle.design_core.specs.declared.expression.UnaryOp.{UnaryOp}
use Rattle.design_core.specs.declared.expression.BinaryOp.{BinaryOp}
use Rattle.design_core.specs.declared.expression.Node.TheVariants as node
use Rattle.design_core.specs.Valuation.{width_at}
use Rattle.design_core.specs.WellFormed.{is_width, is_signal, node_fits, typed_fits, slice_fits, unary_fits, binary_fits}
use Rattle.design_core.proofs.ExpressionSteps.{fits_repeat, fits_resize}
use Rattle.plain_values.proofs.EvaluateNodes.{unary-fits, unary-arg, binary-fits, both-fit, repeat-fits}
use Rattle.cycle_code.specs.declared.instruction.Instruction.TheVariants as instruction
use Rattle.cycle_code.specs.Program.{Program, signals_of, count_of, Grown}
use Rattle.cycle_code.specs.Cells.{width_in}
use Rattle.cycle_code.specs.Fitting.{is_own, fits, IsSound}
use Rattle.cycle_code.proofs.GrowthLaws.{both, of_three, is_own-grown, width_in-grown}
use Rattle.cycle_code.proofs.SoundLaws.{sound-cells}
use Rattle.cycle_compile.specs.Compiling.{is_leaf, IsPlaceFor}
use Rattle.cycle_compile.proofs.Placing.{width_in-signal}
use Rattle.cycle_compile.proofs.Wide.{node-wide}

-- what is known of a node that is an expression's
pub node-known : (signals : List Signal) (e : Typed) (at : Node) → e.node ≡ at → IsTrue (typed_fits signals e)
    → IsTrue (node_fits signals e.width e.signed at)
node-known signals e at is fits = subst (λ n. IsTrue (node_fits signals e.width e.signed n)) is fits

-- ---- operands
pub unary-operand : (signals : List Signal) (e : Typed) (op : UnaryOp) (arg : Typed) → e.node ≡ node.Unary op arg
    → IsTrue (typed_fits signals e) → IsTrue (typed_fits signals arg)
unary-operand signals e op arg is fits = unary-arg signals e.width e.signed op arg (node-known signals e (node.Unary op arg) is fits)

pub repeat-operand : (signals : List Signal) (e : Typed) (times : ℕ) (part : Typed) → e.node ≡ node.Repeat times part
    → IsTrue (typed_fits signals e) → IsTrue (typed_fits signals part)
repeat-operand signals e times part is fits =
    (and_parts (is_width e.width && times * part.width == e.width) (typed_fits signals part)
    (sym (fits_repeat signals e.signed e.width times part) ∙ node-known signals e (node.Repeat times part) is fits)).1

pub resize-operand : (signals : List Signal) (e : Typed) (arg : Typed) → e.node ≡ node.Resize arg
    → IsTrue (typed_fits signals e) → IsTrue (typed_fits signals arg)
resize-operand signals e arg is fits =
    (and_parts (is_width e.width) (typed_fits signals arg)
    (sym (fits_resize signals e.signed e.width arg) ∙ node-known signals e (node.Resize arg) is fits)).1

pub binary-operands : (signals : List Signal) (e : Typed) (op : BinaryOp) (left right : Typed)
    → e.node ≡ node.Binary op left right → IsTrue (typed_fits signals e)
    → IsTrue (typed_fits signals left) × IsTrue (typed_fits signals right)
binary-operands signals e op left right is fits =
    both-fit signals e.width e.signed op left right (node-known signals e (node.Binary op left right) is fits)

-- ---- instructions
own-cell : (before old : Program) (e : Typed) (cell : ℕ) → Grown before old → is_leaf e.node ≡ false → IsPlaceFor before e cell
    → IsTrue (is_own old cell) × (width_in old.widths cell ≡ e.width)
own-cell before old e cell grown inner at =
    (is_own-grown before old cell grown (at.own inner), width_in-grown before old cell grown at.is_there ∙ at.width)

pub unary-instruction : (before old : Program) (q : ℕ) (e : Typed) (cell : ℕ) (op : UnaryOp) (arg : Typed) (operand : ℕ)
    → e.node ≡ node.Unary op arg
    → IsTrue (typed_fits (signals_of before) e) → Grown before old → IsPlaceFor before e cell → IsPlaceFor old arg operand
    → IsTrue (fits old q (instruction.Unary op operand cell))
unary-instruction before old q e cell op arg operand is fit grown at inside =
    let own = own-cell before old e cell grown (ap is_leaf is) at in
    both (both own.0 inside.is_there)
    (ap (λ w. unary_fits op w (width_in old.widths operand)) own.1
    ∙ unary-fits (signals_of before) e.width (width_in old.widths operand) e.signed op arg inside.width
    (node-known (signals_of before) e (node.Unary op arg) is fit))

pub repeat-instruction : (before old : Program) (q : ℕ) (e : Typed) (cell times : ℕ) (arg : Typed) (operand : ℕ)
    → e.node ≡ node.Repeat times arg
    → IsTrue (typed_fits (signals_of before) e) → Grown before old → IsPlaceFor before e cell → IsPlaceFor old arg operand
    → IsTrue (fits old q (instruction.Repeat times operand cell))
repeat-instruction before old q e cell times arg operand is fit grown at inside =
    let own = own-cell before old e cell grown (ap is_leaf is) at in
    let product = repeat-fits (signals_of before) e.width times (width_in old.widths operand) e.signed arg inside.width
    (node-known (signals_of before) e (node.Repeat times arg) is fit) in
    let wide = and_parts (nat_le 1 e.width) (nat_le e.width 128) (node-wide (signals_of before) e.width e.signed e.node fit) in
    both (both (both own.0 inside.is_there) (le-leb 1 times
    (some times (width_in old.widths operand) e.width product.0 (leb-true 1 e.width wide.0))))
    (eq-eqb (width_in old.widths cell) (times * width_in old.widths operand) (own.1 ∙ sym product.0))
  where
    some : (times n width : ℕ) → times * n ≡ width → 1 ≤ width → 1 ≤ times
    some zero n width e h = absurd (omega arith)
    some (suc times) n width e h = omega arith

pub resize-instruction : (before old : Program) (q : ℕ) (e : Typed) (cell : ℕ) (signed : Bool) (arg : Typed) (operand : ℕ)
    → e.node ≡ node.Resize arg
    → Grown before old → IsPlaceFor before e cell → IsPlaceFor old arg operand
    → IsTrue (fits old q (instruction.Resize operand signed cell))
resize-instruction before old q e cell signed arg operand is grown at inside =
    let own = own-cell before old e cell grown (ap is_leaf is) at in both own.0 inside.is_there

pub binary-instruction : (before old : Program) (q : ℕ) (e : Typed) (cell : ℕ) (op : BinaryOp) (left : Typed) (high : ℕ)
    (right : Typed) (low : ℕ)
    (one other : Bool) → e.node ≡ node.Binary op left right
    → IsTrue (typed_fits (signals_of before) e) → Grown before old → IsPlaceFor before e cell → IsPlaceFor old left high
    → IsPlaceFor old right low
    → IsTrue (fits old q (instruction.Binary op high one low other cell))
binary-instruction before old q e cell op left high right low one other is fit grown at first second =
    let own = own-cell before old e cell grown (ap is_leaf is) at in
    both (both (both own.0 first.is_there) second.is_there)
    (ap (λ w. binary_fits op w (width_in old.widths high) (width_in old.widths low)) own.1
    ∙ binary-fits (signals_of before) e.width (width_in old.widths high) (width_in old.widths low) e.signed op left right
    first.width second.width
    (node-known (signals_of before) e (node.Binary op left right) is fit))

-- bits of a signal
pub record SliceFits (p : Program) (signal from width : ℕ) (e : Typed) : Type 0 where
  pub signal_low : signal < count_of p
  pub some : 1 ≤ width
  pub inside : from + width ≤ width_in p.widths signal
  pub size : width ≡ e.width

pub slice-known : (p : Program) (e : Typed) (signal from width : ℕ) → e.node ≡ node.Slice signal from width
    → IsTrue (typed_fits (signals_of p) e) → IsSound p
    → SliceFits p signal from width e
slice-known p e signal from width is fit sound =
    let t = and_parts (slice_fits (signals_of p) signal from width) (width == e.width)
    (node-known (signals_of p) e (node.Slice signal from width) is fit) in
    let u = of_three (is_signal (signals_of p) signal) (is_width width) (nat_le (from + width) (width_at (signals_of p) signal)) t.0 in
    let low : signal < count_of p = ltb-true signal (count_of p) u.0 in
    let wide : width_in p.widths signal ≡ width_at (signals_of p) signal = width_in-signal p signal sound low in
    let within : from + width ≤ width_at (signals_of p) signal = leb-true (from + width) (width_at (signals_of p) signal) u.2 in
    record {
      signal_low = low;
      some = leb-true 1 width (and_parts (nat_le 1 width) (nat_le width 128) u.1).0;
      inside = omega arith;
      size = eqb-true width e.width t.1;
    }

pub slice-instruction : (p : Program) (q : ℕ) (e : Typed) (cell signal from width : ℕ) → e.node ≡ node.Slice signal from width
    → IsTrue (typed_fits (signals_of p) e) → IsSound p → IsPlaceFor p e cell → IsTrue (fits p q (instruction.Slice signal from width cell))
slice-instruction p q e cell signal from width is fit sound at =
    let known = slice-known p e signal from width is fit sound in
    let most : count_of p + count_of p + count_of p ≤ length p.widths = sound-cells p sound in
    let low : signal < count_of p = known.signal_low in
    both (both (both (both (at.own (ap is_leaf is)) (lt-ltb signal (length p.widths) (omega arith))) (le-leb 1 width known.some))
    (eq-eqb (width_in p.widths cell) width (at.width ∙ sym known.size)))
    (le-leb (from + width) (width_in p.widths signal) known.inside)

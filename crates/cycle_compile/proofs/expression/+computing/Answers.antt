use Rattle.std.proofs.Common.{◌≡◌, List, rules, sym, ◌∙◌, subst, IsTrue, arith, ap, ◌≤◌, length, ◌+◌, ◌-◌, ◌<◌, take}
use Rattle.std.proofs.lemmas.Result.{on_ok_weaker}
use denote.Hole.Carrier.{hidden}
use Rattle.design_core.specs.declared.signal.Signal.{Signal}
use Rattle.design_core.specs.declared.expression.Typed.{Typed}
use Rattle.design_core.specs.declared.expression.Node.{size-Node}
use Rattle.design_core.specs.declared.expression.Node.TheBlock.{shape-the_row-Typed-0, hidden-the_row-Typed-0}
use Rattle.design_core.specs.declared.expression.Node.TheViews.{the_lemmas}
use Rattle.design_core.specs.WellFormed.{typed_fits}
use Rattle.cycle_compile.proofs.OperatorFits.{unary-operand, repeat-operand, resize-operand, binary-operands, node-known}
use Rattle.design_core.specs.declared.expression.UnaryOp.{UnaryOp}
use Rattle.design_core.specs.declared.expression.BinaryOp.{BinaryOp}
use Rattle.design_core.specs.declared.expression.Node.TheVariants as node
use Rattle.cycle_compile.proofs.Jumping.{more-instructions}
use Rattle.cycle_compile.proofs.Deciding.{Decides-not, Decides-same, Decides-opposite, Decides-and, Decides-or, Decides-tests, Decides-fails}
use Rattle.cycle_compile.proofs.Widened.{equal-bare, not_equal-bare, equal-zero, not_equal-zero, widened-holds}
use Rattle.cycle_code.proofs.GrowthLaws.{Grown-trans, is_own-grown, width_in-grown, Grown-refl, is_own-cell, both}
use Rattle.std.proofs.lemmas.Bool.{le-leb}
use Rattle.std.proofs.lemmas.Grind.{common_steps}
use Rattle.plain_values.specs.Evaluate.{parts_sum}
use Rattle.std.proofs.Math.Seq.{take-length}
use Rattle.cycle_code.specs.Program.{Program, program_of, signals_of}
use Rattle.cycle_compile.specs.Compiling.{is_leaf, IsPlaceFor, Values, Decides}
use Rattle.cycle_compile.specs.Carrying.{Jumps, same_values}
use Rattle.cycle_compile.specs.Computing.{Fills, Joins, IsBare, is_zero}
use Rattle.cycle_compile.proofs.Placing.{IsPlaceFor-grown, IsPlaceFor-own}
use Rattle.cycle_compile.proofs.Wide.{fits-grown_program, inner-node}
use Rattle.plain_values.proofs.EvaluateParts.{join-fits}
use Rattle.cycle_compile.proofs.Joining.{Values-join, Joins-one, join-step, first-known, pair-known}
use Rattle.cycle_compile.proofs.Choosing.{Fills-computed, Values-choose, choose-known}
use Rattle.cycle_compile.proofs.expression.+computing.Goals as goal

pub compute-compute-requires : goal.compute-compute-requires
unfolding shape-the_row-Typed-0 hidden-the_row-Typed-0 hidden
compute-compute-requires t c =
    let signals : List Signal = c.args.code.now.design.now.signals.items in
    let awaits = c.in_ok-operand-in-Unary.ensures.awaits in (
      search (rules, the_lemmas),
      (
        c.in_ok-operand-in-Unary.ensures.sound,
        (
          fits-grown_program (program_of c.args.code.now) (program_of c.unary.new.code) c.deref-in-Unary.result.now awaits.grown
              (subst (λ (x : Typed). IsTrue (typed_fits signals x)) (sym c.deref-in-Unary.ensures)
              (unary-operand signals c.args.e.now c.in-Unary.op c.in-Unary.arg c.in-Unary.is c.requires.fits)),
          subst (λ (x : Typed). IsPlaceFor (program_of c.unary.new.code) x c.in_ok-operand-in-Unary.operand)
              (c.deref.ensures ∙ sym c.deref-in-Unary.ensures) awaits.place,
        ),
      ),
    )

pub compute-returns-in_ok-operand-in-Unary-clause-values : goal.compute-returns-in_ok-operand-in-Unary-clause-values
unfolding shape-the_row-Typed-0 hidden-the_row-Typed-0 hidden
compute-returns-in_ok-operand-in-Unary-clause-values t c =
    on_ok_weaker c.compute.result (λ values.
    c.in_ok-operand-in-Unary.ensures.awaits.serves (program_of c.compute.new.code)
    (subst (λ (x : Typed). Values (program_of c.unary.new.code) (program_of c.compute.new.code) x
    c.in_ok-operand-in-Unary.operand) (c.deref-in-Unary.ensures ∙ sym c.deref.ensures) values))
    c.compute.ensures.values

pub compute-compute-requires-in-Repeat : goal.compute-compute-requires-in-Repeat
unfolding shape-the_row-Typed-0 hidden-the_row-Typed-0 hidden
compute-compute-requires-in-Repeat t c =
    let signals : List Signal = c.args.code.now.design.now.signals.items in
    let awaits = c.in_ok-operand-in-Repeat.ensures.awaits in (
      search (rules, the_lemmas),
      (
        c.in_ok-operand-in-Repeat.ensures.sound,
        (
          fits-grown_program (program_of c.args.code.now) (program_of c.repeat.new.code) c.deref-in-Repeat-2.result.now awaits.grown
              (subst (λ (x : Typed). IsTrue (typed_fits signals x)) (sym c.deref-in-Repeat-2.ensures)
              (repeat-operand signals c.args.e.now c.in-Repeat.times c.in-Repeat.part c.in-Repeat.is c.requires.fits)),
          subst (λ (x : Typed). IsPlaceFor (program_of c.repeat.new.code) x c.in_ok-operand-in-Repeat.operand)
              (c.deref-in-Repeat.ensures ∙ sym c.deref-in-Repeat-2.ensures) awaits.place,
        ),
      ),
    )

pub compute-returns-in_ok-operand-in-Repeat-clause-values : goal.compute-returns-in_ok-operand-in-Repeat-clause-values
unfolding shape-the_row-Typed-0 hidden-the_row-Typed-0 hidden
compute-returns-in_ok-operand-in-Repeat-clause-values t c =
    on_ok_weaker c.compute-in-Repeat.result (λ values.
    c.in_ok-operand-in-Repeat.ensures.awaits.serves (program_of c.compute-in-Repeat.new.code)
    (subst (λ (x : Typed). Values (program_of c.repeat.new.code) (program_of c.compute-in-Repeat.new.code) x
    c.in_ok-operand-in-Repeat.operand) (c.deref-in-Repeat-2.ensures ∙ sym c.deref-in-Repeat.ensures) values))
    c.compute-in-Repeat.ensures.values

pub compute-compute-requires-in-Resize : goal.compute-compute-requires-in-Resize
unfolding shape-the_row-Typed-0 hidden-the_row-Typed-0 hidden
compute-compute-requires-in-Resize t c =
    let signals : List Signal = c.args.code.now.design.now.signals.items in
    let awaits = c.in_ok-operand-in-Resize.ensures.awaits in (
      search (rules, the_lemmas),
      (
        c.in_ok-operand-in-Resize.ensures.sound,
        (
          fits-grown_program (program_of c.args.code.now) (program_of c.resize.new.code) c.deref-in-Resize-2.result.now awaits.grown
              (subst (λ (x : Typed). IsTrue (typed_fits signals x)) (sym c.deref-in-Resize-2.ensures)
              (resize-operand signals c.args.e.now c.in-Resize.arg c.in-Resize.is c.requires.fits)),
          subst (λ (x : Typed). IsPlaceFor (program_of c.resize.new.code) x c.in_ok-operand-in-Resize.operand)
              (c.deref-in-Resize.ensures ∙ sym c.deref-in-Resize-2.ensures) awaits.place,
        ),
      ),
    )

pub compute-returns-in_ok-operand-in-Resize-clause-values : goal.compute-returns-in_ok-operand-in-Resize-clause-values
unfolding shape-the_row-Typed-0 hidden-the_row-Typed-0 hidden
compute-returns-in_ok-operand-in-Resize-clause-values t c =
    on_ok_weaker c.compute-in-Resize.result (λ values.
    c.in_ok-operand-in-Resize.ensures.awaits.serves (program_of c.compute-in-Resize.new.code)
    (subst (λ (x : Typed). Values (program_of c.resize.new.code) (program_of c.compute-in-Resize.new.code) x
    c.in_ok-operand-in-Resize.operand) (c.deref-in-Resize-2.ensures ∙ sym c.deref-in-Resize.ensures) values))
    c.compute-in-Resize.ensures.values

pub compute-compute-requires-in-Binary : goal.compute-compute-requires-in-Binary
unfolding shape-the_row-Typed-0 hidden-the_row-Typed-0 hidden
compute-compute-requires-in-Binary t c =
    let signals : List Signal = c.args.code.now.design.now.signals.items in
    let awaits = c.in_ok-high-in-Binary.ensures.awaits in (
      search (rules, the_lemmas),
      (
        c.in_ok-high-in-Binary.ensures.sound,
        (
          fits-grown_program (program_of c.args.code.now) (program_of c.binary.new.code) c.deref-in-Binary-3.result.now awaits.grown
              (subst (λ (x : Typed). IsTrue (typed_fits signals x)) (sym c.deref-in-Binary-3.ensures)
              (binary-operands signals c.args.e.now c.in-Binary.op c.in-Binary.left c.in-Binary.right c.in-Binary.is c.requires.fits).1),
          subst (λ (x : Typed). IsPlaceFor (program_of c.binary.new.code) x c.in_ok-high-in-Binary.low)
              (c.deref-in-Binary-2.ensures ∙ sym c.deref-in-Binary-3.ensures)
              awaits.right_place,
        ),
      ),
    )

pub compute-compute-requires-in-Binary-2 : goal.compute-compute-requires-in-Binary-2
unfolding shape-the_row-Typed-0 hidden-the_row-Typed-0 hidden
compute-compute-requires-in-Binary-2 t c =
    let signals : List Signal = c.args.code.now.design.now.signals.items in
    let awaits = c.in_ok-high-in-Binary.ensures.awaits in
    let grown = c.in_ok-compute-in-Binary.ensures.values.grown in
    let old : Program = program_of c.args.code.now in
    let new : Program = program_of c.binary.new.code in
    let middle : Program = program_of c.compute-in-Binary.new.code in (
      search (rules, the_lemmas),
      (
        c.in_ok-compute-in-Binary.ensures.sound,
        (
          fits-grown_program old middle c.deref-in-Binary-4.result.now (Grown-trans old new middle awaits.grown grown)
              (subst (λ (x : Typed). IsTrue (typed_fits signals x)) (sym c.deref-in-Binary-4.ensures)
              (binary-operands signals c.args.e.now c.in-Binary.op c.in-Binary.left c.in-Binary.right c.in-Binary.is c.requires.fits).0),
          IsPlaceFor-grown new middle c.deref-in-Binary-4.result.now c.in_ok-high-in-Binary.high grown
              (subst (λ (x : Typed). IsPlaceFor new x c.in_ok-high-in-Binary.high)
              (c.deref-in-Binary.ensures ∙ sym c.deref-in-Binary-4.ensures)
              awaits.left_place),
        ),
      ),
    )

pub compute-returns-in_ok-compute-in-Binary-clause-values : goal.compute-returns-in_ok-compute-in-Binary-clause-values
unfolding shape-the_row-Typed-0 hidden-the_row-Typed-0 hidden
compute-returns-in_ok-compute-in-Binary-clause-values t c =
    let new : Program = program_of c.binary.new.code in
    let middle : Program = program_of c.compute-in-Binary.new.code in
    let last : Program = program_of c.compute-in-Binary-2.new.code in
    on_ok_weaker c.compute-in-Binary-2.result (λ values.
    c.in_ok-high-in-Binary.ensures.awaits.serves middle last
    (subst (λ (x : Typed). Values new middle x c.in_ok-high-in-Binary.low) (c.deref-in-Binary-3.ensures ∙ sym c.deref-in-Binary-2.ensures)
    c.in_ok-compute-in-Binary.ensures.values)
    (subst (λ (x : Typed). Values middle last x c.in_ok-high-in-Binary.high)
    (c.deref-in-Binary-4.ensures ∙ sym c.deref-in-Binary.ensures) values))
    c.compute-in-Binary-2.ensures.values

pub decide-decide-requires : goal.decide-decide-requires
unfolding shape-the_row-Typed-0 hidden-the_row-Typed-0 hidden
decide-decide-requires t c =
    let signals : List Signal = c.args.code.now.design.now.signals.items in (
      search (rules, the_lemmas),
      (
        c.requires.sound,
        (
          subst (λ (x : Typed). IsTrue (typed_fits signals x)) (sym c.deref-in-Resize.ensures)
              (resize-operand signals c.args.e.now c.in-Resize.arg c.in-Resize.is c.requires.fits),
          (c.requires.yes, c.requires.no),
        ),
      ),
    )

pub decide-returns-in-Resize-clause-decides : goal.decide-returns-in-Resize-clause-decides
unfolding shape-the_row-Typed-0 hidden-the_row-Typed-0 hidden
decide-returns-in-Resize-clause-decides t c =
    let before : Program = program_of c.args.code.now in
    let last : Program = program_of c.decide.new.code in
    on_ok_weaker c.decide.result (λ decides.
    Decides-same before last c.args.e.now c.in-Resize.arg c.args.yes c.args.no
    (widened-holds c.args.e.now c.in-Resize.arg c.in-Resize.is
    (ap (λ (x : Typed). x.signed) (sym c.deref.ensures) ∙ c.if-not-deref.true)
    (subst (λ (x : Typed). x.width ≤ c.args.e.now.width) c.deref-then-not-deref.ensures c.if-deref-e.true))
    (subst (λ (x : Typed). Decides before last x c.args.yes c.args.no) c.deref-in-Resize.ensures decides))
    c.decide.ensures.decides

pub decide-decide-requires-in-LogicalNot : goal.decide-decide-requires-in-LogicalNot
unfolding shape-the_row-Typed-0 hidden-the_row-Typed-0 hidden
decide-decide-requires-in-LogicalNot t c =
    let signals : List Signal = c.args.code.now.design.now.signals.items in (
      search (rules, the_lemmas),
      (
        c.requires.sound,
        (
          subst (λ (x : Typed). IsTrue (typed_fits signals x)) (sym c.deref-in-LogicalNot.ensures)
              (unary-operand signals c.args.e.now c.in-Unary.op c.in-Unary.arg c.in-Unary.is c.requires.fits),
          (c.requires.no, c.requires.yes),
        ),
      ),
    )

pub decide-returns-in-LogicalNot-clause-decides : goal.decide-returns-in-LogicalNot-clause-decides
unfolding shape-the_row-Typed-0 hidden-the_row-Typed-0 hidden
decide-returns-in-LogicalNot-clause-decides t c =
    let before : Program = program_of c.args.code.now in
    let last : Program = program_of c.decide-in-LogicalNot.new.code in
    on_ok_weaker c.decide-in-LogicalNot.result (λ decides.
    Decides-not before last c.args.e.now c.in-Unary.arg c.args.yes c.args.no
    (c.in-Unary.is ∙ ap (λ (o : UnaryOp). node.Unary o c.in-Unary.arg) c.in-LogicalNot.is)
    (subst (λ (x : Typed). Decides before last x c.args.no c.args.yes) c.deref-in-LogicalNot.ensures decides))
    c.decide-in-LogicalNot.ensures.decides

pub decide-decide-requires-in-LogicalAnd : goal.decide-decide-requires-in-LogicalAnd
unfolding shape-the_row-Typed-0 hidden-the_row-Typed-0 hidden
decide-decide-requires-in-LogicalAnd t c =
    let signals : List Signal = c.args.code.now.design.now.signals.items in (
      search (rules, the_lemmas),
      (
        c.requires.sound,
        (
          subst (λ (x : Typed). IsTrue (typed_fits signals x)) (sym c.deref-in-LogicalAnd.ensures)
              (binary-operands signals c.args.e.now c.in-Binary.op c.in-Binary.left c.in-Binary.right c.in-Binary.is c.requires.fits).1,
          (c.requires.yes, c.requires.no),
        ),
      ),
    )

pub decide-decide-requires-in-LogicalAnd-2 : goal.decide-decide-requires-in-LogicalAnd-2
unfolding shape-the_row-Typed-0 hidden-the_row-Typed-0 hidden
decide-decide-requires-in-LogicalAnd-2 t c =
    let signals : List Signal = c.args.code.now.design.now.signals.items in
    let before : Program = program_of c.args.code.now in
    let middle : Program = program_of c.decide-in-LogicalAnd.new.code in
    let grown = c.in_ok-decide-in-LogicalAnd.ensures.decides.grown in
    let most = more-instructions before middle grown in
    let here : c.in_ok-then-in-LogicalAnd.then ≡ length middle.instructions = c.in_ok-then-in-LogicalAnd.ensures in
    let other : c.args.no ≤ length before.instructions = c.requires.no in (
      search (rules, the_lemmas),
      (
        c.in_ok-decide-in-LogicalAnd.ensures.sound,
        (
          fits-grown_program before middle c.deref-in-LogicalAnd-2.result.now grown
              (subst (λ (x : Typed). IsTrue (typed_fits signals x)) (sym c.deref-in-LogicalAnd-2.ensures)
              (binary-operands signals c.args.e.now c.in-Binary.op c.in-Binary.left c.in-Binary.right c.in-Binary.is c.requires.fits).0),
          (omega arith, omega arith),
        ),
      ),
    )

pub decide-returns-in_ok-then-in-LogicalAnd-clause-decides : goal.decide-returns-in_ok-then-in-LogicalAnd-clause-decides
unfolding shape-the_row-Typed-0 hidden-the_row-Typed-0 hidden
decide-returns-in_ok-then-in-LogicalAnd-clause-decides t c =
    let before : Program = program_of c.args.code.now in
    let middle : Program = program_of c.decide-in-LogicalAnd.new.code in
    let last : Program = program_of c.decide-in-LogicalAnd-2.new.code in
    on_ok_weaker c.decide-in-LogicalAnd-2.result (λ lefts.
    Decides-and before middle last c.args.e.now c.in-Binary.left c.in-Binary.right c.args.yes c.args.no
    (c.in-Binary.is ∙ ap (λ (o : BinaryOp). node.Binary o c.in-Binary.left c.in-Binary.right) c.in-LogicalAnd.is) c.requires.sound
    (subst (λ (x : Typed). Decides before middle x c.args.yes c.args.no) c.deref-in-LogicalAnd.ensures
    c.in_ok-decide-in-LogicalAnd.ensures.decides)
    (subst (λ n. Decides middle last c.in-Binary.left n c.args.no) c.in_ok-then-in-LogicalAnd.ensures
    (subst (λ (x : Typed). Decides middle last x c.in_ok-then-in-LogicalAnd.then c.args.no) c.deref-in-LogicalAnd-2.ensures lefts)))
    c.decide-in-LogicalAnd-2.ensures.decides

pub decide-decide-requires-in-LogicalOr : goal.decide-decide-requires-in-LogicalOr
unfolding shape-the_row-Typed-0 hidden-the_row-Typed-0 hidden
decide-decide-requires-in-LogicalOr t c =
    let signals : List Signal = c.args.code.now.design.now.signals.items in (
      search (rules, the_lemmas),
      (
        c.requires.sound,
        (
          subst (λ (x : Typed). IsTrue (typed_fits signals x)) (sym c.deref-in-LogicalOr.ensures)
              (binary-operands signals c.args.e.now c.in-Binary.op c.in-Binary.left c.in-Binary.right c.in-Binary.is c.requires.fits).1,
          (c.requires.yes, c.requires.no),
        ),
      ),
    )

pub decide-decide-requires-in-LogicalOr-2 : goal.decide-decide-requires-in-LogicalOr-2
unfolding shape-the_row-Typed-0 hidden-the_row-Typed-0 hidden
decide-decide-requires-in-LogicalOr-2 t c =
    let signals : List Signal = c.args.code.now.design.now.signals.items in
    let before : Program = program_of c.args.code.now in
    let middle : Program = program_of c.decide-in-LogicalOr.new.code in
    let grown = c.in_ok-decide-in-LogicalOr.ensures.decides.grown in
    let most = more-instructions before middle grown in
    let here : c.in_ok-otherwise-in-LogicalOr.otherwise ≡ length middle.instructions = c.in_ok-otherwise-in-LogicalOr.ensures in
    let other : c.args.yes ≤ length before.instructions = c.requires.yes in (
      search (rules, the_lemmas),
      (
        c.in_ok-decide-in-LogicalOr.ensures.sound,
        (
          fits-grown_program before middle c.deref-in-LogicalOr-2.result.now grown
              (subst (λ (x : Typed). IsTrue (typed_fits signals x)) (sym c.deref-in-LogicalOr-2.ensures)
              (binary-operands signals c.args.e.now c.in-Binary.op c.in-Binary.left c.in-Binary.right c.in-Binary.is c.requires.fits).0),
          (omega arith, omega arith),
        ),
      ),
    )

pub decide-returns-in_ok-otherwise-in-LogicalOr-clause-decides : goal.decide-returns-in_ok-otherwise-in-LogicalOr-clause-decides
unfolding shape-the_row-Typed-0 hidden-the_row-Typed-0 hidden
decide-returns-in_ok-otherwise-in-LogicalOr-clause-decides t c =
    let before : Program = program_of c.args.code.now in
    let middle : Program = program_of c.decide-in-LogicalOr.new.code in
    let last : Program = program_of c.decide-in-LogicalOr-2.new.code in
    on_ok_weaker c.decide-in-LogicalOr-2.result (λ lefts.
    Decides-or before middle last c.args.e.now c.in-Binary.left c.in-Binary.right c.args.yes c.args.no
    (c.in-Binary.is ∙ ap (λ (o : BinaryOp). node.Binary o c.in-Binary.left c.in-Binary.right) c.in-LogicalOr.is) c.requires.sound
    (subst (λ (x : Typed). Decides before middle x c.args.yes c.args.no) c.deref-in-LogicalOr.ensures
    c.in_ok-decide-in-LogicalOr.ensures.decides)
    (subst (λ n. Decides middle last c.in-Binary.left c.args.yes n) c.in_ok-otherwise-in-LogicalOr.ensures
    (subst (λ (x : Typed). Decides middle last x c.args.yes c.in_ok-otherwise-in-LogicalOr.otherwise)
    c.deref-in-LogicalOr-2.ensures lefts)))
    c.decide-in-LogicalOr-2.ensures.decides

pub decide-returns-in_ok-cond-in_default-op : goal.decide-returns-in_ok-cond-in_default-op
decide-returns-in_ok-cond-in_default-op t c = record {
  decides = on_ok_weaker c.compute.result (λ values. c.in_ok-cond-in_default-op.ensures.awaits.serves
      (program_of c.compute.new.code) values) c.compute.ensures.values;
  sound = c.compute.ensures.sound;
}

pub decide-returns-in_ok-cond-in_default-op-2 : goal.decide-returns-in_ok-cond-in_default-op-2
decide-returns-in_ok-cond-in_default-op-2 t c = record {
  decides = on_ok_weaker c.compute-in_default-op-2.result
      (λ values. c.in_ok-cond-in_default-op-2.ensures.awaits.serves (program_of c.compute-in_default-op-2.new.code) values)
      c.compute-in_default-op-2.ensures.values;
  sound = c.compute-in_default-op-2.ensures.sound;
}

pub decide-returns-in_ok-cond-in_default : goal.decide-returns-in_ok-cond-in_default
decide-returns-in_ok-cond-in_default t c = record {
  decides = on_ok_weaker c.compute-in_default.result
      (λ values. c.in_ok-cond-in_default.ensures.awaits.serves (program_of c.compute-in_default.new.code) values)
      c.compute-in_default.ensures.values;
  sound = c.compute-in_default.ensures.sound;
}

pub decide-decide-requires-in-Equal : goal.decide-decide-requires-in-Equal
unfolding shape-the_row-Typed-0 hidden-the_row-Typed-0 hidden
decide-decide-requires-in-Equal t c =
    let signals : List Signal = c.args.code.now.design.now.signals.items in (
      search (rules, the_lemmas),
      (
        c.requires.sound,
        (
          subst (λ (x : Typed). IsTrue (typed_fits signals x)) (sym c.deref-in-Equal.ensures)
              (binary-operands signals c.args.e.now c.in-Binary.op c.in-Binary.left c.in-Binary.right c.in-Binary.is c.requires.fits).0,
          (c.requires.no, c.requires.yes),
        ),
      ),
    )

pub decide-returns-in-Equal-clause-decides : goal.decide-returns-in-Equal-clause-decides
unfolding shape-the_row-Typed-0 hidden-the_row-Typed-0 hidden
decide-returns-in-Equal-clause-decides t c =
    let before : Program = program_of c.args.code.now in
    let last : Program = program_of c.decide-in-Equal.new.code in
    on_ok_weaker c.decide-in-Equal.result (λ decides.
    Decides-opposite before last c.args.e.now c.in-Binary.left c.args.yes c.args.no
    (equal-zero c.args.e.now c.in-Binary.left c.in-Binary.right
    (c.in-Binary.is ∙ ap (λ (o : BinaryOp). node.Binary o c.in-Binary.left c.in-Binary.right) c.in-Equal.is)
    (ap (λ (x : Typed). is_zero x.node) (sym c.deref-in-Binary.ensures) ∙ sym c.is_zero.ensures ∙ c.if-is_zero.true))
    (subst (λ (x : Typed). Decides before last x c.args.no c.args.yes) c.deref-in-Equal.ensures decides))
    c.decide-in-Equal.ensures.decides

pub decide-decide-requires-in-NotEqual : goal.decide-decide-requires-in-NotEqual
unfolding shape-the_row-Typed-0 hidden-the_row-Typed-0 hidden
decide-decide-requires-in-NotEqual t c =
    let signals : List Signal = c.args.code.now.design.now.signals.items in (
      search (rules, the_lemmas),
      (
        c.requires.sound,
        (
          subst (λ (x : Typed). IsTrue (typed_fits signals x)) (sym c.deref-in-NotEqual.ensures)
              (binary-operands signals c.args.e.now c.in-Binary.op c.in-Binary.left c.in-Binary.right c.in-Binary.is c.requires.fits).0,
          (c.requires.yes, c.requires.no),
        ),
      ),
    )

pub decide-returns-in-NotEqual-clause-decides : goal.decide-returns-in-NotEqual-clause-decides
unfolding shape-the_row-Typed-0 hidden-the_row-Typed-0 hidden
decide-returns-in-NotEqual-clause-decides t c =
    let before : Program = program_of c.args.code.now in
    let last : Program = program_of c.decide-in-NotEqual.new.code in
    on_ok_weaker c.decide-in-NotEqual.result (λ decides.
    Decides-same before last c.args.e.now c.in-Binary.left c.args.yes c.args.no
    (not_equal-zero c.args.e.now c.in-Binary.left c.in-Binary.right
    (c.in-Binary.is ∙ ap (λ (o : BinaryOp). node.Binary o c.in-Binary.left c.in-Binary.right) c.in-NotEqual.is)
    (ap (λ (x : Typed). is_zero x.node) (sym c.deref-in-Binary-2.ensures) ∙ sym c.is_zero-in-Binary.ensures ∙ c.if-is_zero-2.true))
    (subst (λ (x : Typed). Decides before last x c.args.yes c.args.no) c.deref-in-NotEqual.ensures decides))
    c.decide-in-NotEqual.ensures.decides

pub decide-test_equal-requires-clause-left : goal.decide-test_equal-requires-clause-left
unfolding shape-the_row-Typed-0 hidden-the_row-Typed-0 hidden
decide-test_equal-requires-clause-left t c =
    let signals : List Signal = c.args.code.now.design.now.signals.items in
    c.bare-left.ensures.bare.fits signals
    (subst (λ (x : Typed). IsTrue (typed_fits signals x)) (sym c.deref-in-Equal-2.ensures)
    (binary-operands signals c.args.e.now c.in-Binary.op c.in-Binary.left c.in-Binary.right c.in-Binary.is c.requires.fits).0)

pub decide-test_equal-requires-clause-right : goal.decide-test_equal-requires-clause-right
unfolding shape-the_row-Typed-0 hidden-the_row-Typed-0 hidden
decide-test_equal-requires-clause-right t c =
    let signals : List Signal = c.args.code.now.design.now.signals.items in
    c.bare-right.ensures.bare.fits signals
    (subst (λ (x : Typed). IsTrue (typed_fits signals x)) (sym c.deref-in-Equal-2-2.ensures)
    (binary-operands signals c.args.e.now c.in-Binary.op c.in-Binary.left c.in-Binary.right c.in-Binary.is c.requires.fits).1)

pub decide-compute-requires-in-Equal-2 : goal.decide-compute-requires-in-Equal-2
unfolding shape-the_row-Typed-0 hidden-the_row-Typed-0 hidden
decide-compute-requires-in-Equal-2 t c =
    let signals : List Signal = c.args.code.now.design.now.signals.items in
    let awaits = c.in_ok-high-in-Equal-2.ensures.awaits in
    let bare = c.bare-right.ensures.bare in
    let depth : size-Node c.bare-right.result.now.node ≤ size-Node c.deref-in-Equal-2-2.result.now.node = bare.depth in (
      search (rules, the_lemmas),
      (
        c.in_ok-high-in-Equal-2.ensures.sound,
        (
          fits-grown_program (program_of c.args.code.now) (program_of c.test_equal.new.code) c.bare-right.result.now awaits.grown
              (bare.fits signals (subst (λ (x : Typed). IsTrue (typed_fits signals x)) (sym c.deref-in-Equal-2-2.ensures)
              (binary-operands signals c.args.e.now c.in-Binary.op c.in-Binary.left c.in-Binary.right c.in-Binary.is c.requires.fits).1)),
          awaits.right_place,
        ),
      ),
    )

pub decide-compute-requires-in-Equal-2-2 : goal.decide-compute-requires-in-Equal-2-2
unfolding shape-the_row-Typed-0 hidden-the_row-Typed-0 hidden
decide-compute-requires-in-Equal-2-2 t c =
    let signals : List Signal = c.args.code.now.design.now.signals.items in
    let awaits = c.in_ok-high-in-Equal-2.ensures.awaits in
    let grown = c.in_ok-compute-in-Equal-2.ensures.values.grown in
    let old : Program = program_of c.args.code.now in
    let new : Program = program_of c.test_equal.new.code in
    let middle : Program = program_of c.compute-in-Equal-2.new.code in
    let bare = c.bare-left.ensures.bare in
    let depth : size-Node c.bare-left.result.now.node ≤ size-Node c.deref-in-Equal-2.result.now.node = bare.depth in (
      search (rules, the_lemmas),
      (
        c.in_ok-compute-in-Equal-2.ensures.sound,
        (
          fits-grown_program old middle c.bare-left.result.now (Grown-trans old new middle awaits.grown grown)
              (bare.fits signals (subst (λ (x : Typed). IsTrue (typed_fits signals x)) (sym c.deref-in-Equal-2.ensures)
              (binary-operands signals c.args.e.now c.in-Binary.op c.in-Binary.left c.in-Binary.right c.in-Binary.is c.requires.fits).0)),
          IsPlaceFor-grown new middle c.bare-left.result.now c.in_ok-high-in-Equal-2.high grown awaits.left_place,
        ),
      ),
    )

pub decide-returns-in_ok-compute-in-Equal-2-clause-decides : goal.decide-returns-in_ok-compute-in-Equal-2-clause-decides
unfolding shape-the_row-Typed-0 hidden-the_row-Typed-0 hidden
decide-returns-in_ok-compute-in-Equal-2-clause-decides t c =
    let before : Program = program_of c.args.code.now in
    let middle : Program = program_of c.compute-in-Equal-2.new.code in
    let last : Program = program_of c.compute-in-Equal-2-2.new.code in
    let high = c.bare-left.result.now in
    let low = c.bare-right.result.now in
    on_ok_weaker c.compute-in-Equal-2-2.result (λ values.
    Decides-tests before last c.args.e.now (same_values high low) c.args.yes c.args.no
    (equal-bare c.args.e.now c.in-Binary.left c.in-Binary.right high low
    (c.in-Binary.is ∙ ap (λ (o : BinaryOp). node.Binary o c.in-Binary.left c.in-Binary.right) c.in-Equal-2.is)
    (subst (λ (x : Typed). IsBare x high) c.deref-in-Equal-2.ensures c.bare-left.ensures.bare)
    (subst (λ (x : Typed). IsBare x low) c.deref-in-Equal-2-2.ensures c.bare-right.ensures.bare))
    (c.in_ok-high-in-Equal-2.ensures.awaits.serves middle last c.in_ok-compute-in-Equal-2.ensures.values values))
    c.compute-in-Equal-2-2.ensures.values

pub decide-test_equal-requires-in-NotEqual-2-clause-left : goal.decide-test_equal-requires-in-NotEqual-2-clause-left
unfolding shape-the_row-Typed-0 hidden-the_row-Typed-0 hidden
decide-test_equal-requires-in-NotEqual-2-clause-left t c =
    let signals : List Signal = c.args.code.now.design.now.signals.items in
    c.bare-left-in-NotEqual-2.ensures.bare.fits signals
    (subst (λ (x : Typed). IsTrue (typed_fits signals x)) (sym c.deref-in-NotEqual-2.ensures)
    (binary-operands signals c.args.e.now c.in-Binary.op c.in-Binary.left c.in-Binary.right c.in-Binary.is c.requires.fits).0)

pub decide-test_equal-requires-in-NotEqual-2-clause-right : goal.decide-test_equal-requires-in-NotEqual-2-clause-right
unfolding shape-the_row-Typed-0 hidden-the_row-Typed-0 hidden
decide-test_equal-requires-in-NotEqual-2-clause-right t c =
    let signals : List Signal = c.args.code.now.design.now.signals.items in
    c.bare-right-in-NotEqual-2.ensures.bare.fits signals
    (subst (λ (x : Typed). IsTrue (typed_fits signals x)) (sym c.deref-in-NotEqual-2-2.ensures)
    (binary-operands signals c.args.e.now c.in-Binary.op c.in-Binary.left c.in-Binary.right c.in-Binary.is c.requires.fits).1)

pub decide-compute-requires-in-NotEqual-2 : goal.decide-compute-requires-in-NotEqual-2
unfolding shape-the_row-Typed-0 hidden-the_row-Typed-0 hidden
decide-compute-requires-in-NotEqual-2 t c =
    let signals : List Signal = c.args.code.now.design.now.signals.items in
    let awaits = c.in_ok-high-in-NotEqual-2.ensures.awaits in
    let bare = c.bare-right-in-NotEqual-2.ensures.bare in
    let depth : size-Node c.bare-right-in-NotEqual-2.result.now.node ≤ size-Node c.deref-in-NotEqual-2-2.result.now.node = bare.depth in (
      search (rules, the_lemmas),
      (
        c.in_ok-high-in-NotEqual-2.ensures.sound,
        (
          fits-grown_program (program_of c.args.code.now) (program_of c.test_equal-in-NotEqual-2.new.code)
              c.bare-right-in-NotEqual-2.result.now awaits.grown
              (bare.fits signals (subst (λ (x : Typed). IsTrue (typed_fits signals x)) (sym c.deref-in-NotEqual-2-2.ensures)
              (binary-operands signals c.args.e.now c.in-Binary.op c.in-Binary.left c.in-Binary.right c.in-Binary.is c.requires.fits).1)),
          awaits.right_place,
        ),
      ),
    )

pub decide-compute-requires-in-NotEqual-2-2 : goal.decide-compute-requires-in-NotEqual-2-2
unfolding shape-the_row-Typed-0 hidden-the_row-Typed-0 hidden
decide-compute-requires-in-NotEqual-2-2 t c =
    let signals : List Signal = c.args.code.now.design.now.signals.items in
    let awaits = c.in_ok-high-in-NotEqual-2.ensures.awaits in
    let grown = c.in_ok-compute-in-NotEqual-2.ensures.values.grown in
    let old : Program = program_of c.args.code.now in
    let new : Program = program_of c.test_equal-in-NotEqual-2.new.code in
    let middle : Program = program_of c.compute-in-NotEqual-2.new.code in
    let bare = c.bare-left-in-NotEqual-2.ensures.bare in
    let depth : size-Node c.bare-left-in-NotEqual-2.result.now.node ≤ size-Node c.deref-in-NotEqual-2.result.now.node = bare.depth in (
      search (rules, the_lemmas),
      (
        c.in_ok-compute-in-NotEqual-2.ensures.sound,
        (
          fits-grown_program old middle c.bare-left-in-NotEqual-2.result.now (Grown-trans old new middle awaits.grown grown)
              (bare.fits signals (subst (λ (x : Typed). IsTrue (typed_fits signals x)) (sym c.deref-in-NotEqual-2.ensures)
              (binary-operands signals c.args.e.now c.in-Binary.op c.in-Binary.left c.in-Binary.right c.in-Binary.is c.requires.fits).0)),
          IsPlaceFor-grown new middle c.bare-left-in-NotEqual-2.result.now c.in_ok-high-in-NotEqual-2.high grown awaits.left_place,
        ),
      ),
    )

pub decide-returns-in_ok-compute-in-NotEqual-2-clause-decides : goal.decide-returns-in_ok-compute-in-NotEqual-2-clause-decides
unfolding shape-the_row-Typed-0 hidden-the_row-Typed-0 hidden
decide-returns-in_ok-compute-in-NotEqual-2-clause-decides t c =
    let before : Program = program_of c.args.code.now in
    let middle : Program = program_of c.compute-in-NotEqual-2.new.code in
    let last : Program = program_of c.compute-in-NotEqual-2-2.new.code in
    let high = c.bare-left-in-NotEqual-2.result.now in
    let low = c.bare-right-in-NotEqual-2.result.now in
    on_ok_weaker c.compute-in-NotEqual-2-2.result (λ values.
    Decides-fails before last c.args.e.now (same_values high low) c.args.yes c.args.no
    (not_equal-bare c.args.e.now c.in-Binary.left c.in-Binary.right high low
    (c.in-Binary.is ∙ ap (λ (o : BinaryOp). node.Binary o c.in-Binary.left c.in-Binary.right) c.in-NotEqual-2.is)
    (subst (λ (x : Typed). IsBare x high) c.deref-in-NotEqual-2.ensures c.bare-left-in-NotEqual-2.ensures.bare)
    (subst (λ (x : Typed). IsBare x low) c.deref-in-NotEqual-2-2.ensures c.bare-right-in-NotEqual-2.ensures.bare))
    (c.in_ok-high-in-NotEqual-2.ensures.awaits.serves middle last c.in_ok-compute-in-NotEqual-2.ensures.values values))
    c.compute-in-NotEqual-2-2.ensures.values

pub fill-compute-requires : goal.fill-compute-requires
fill-compute-requires t c = (
  search (rules, the_lemmas),
  (
    c.requires.sound,
    (
      c.requires.fits,
      IsPlaceFor-own (program_of c.args.code.now) c.args.e.now c.args.cell
          (inner-node c.args.e.now.node c.in_default.not-Const c.in_default.not-Whole) c.requires.own c.requires.width,
    ),
  ),
)

pub fill-returns-in_default : goal.fill-returns-in_default
fill-returns-in_default t c = record {
  fills = on_ok_weaker c.compute.result
      (Fills-computed (program_of c.args.code.now) (program_of c.compute.new.code) c.args.e.now c.args.cell) c.compute.ensures.values;
  sound = c.compute.ensures.sound;
}

pub compute-fill-requires : goal.compute-fill-requires
unfolding shape-the_row-Typed-0 hidden-the_row-Typed-0 hidden
compute-fill-requires t c =
    let before : Program = program_of c.args.code.now in
    let known =
    choose-known (signals_of before) c.args.e.now c.in-Choose.cond c.in-Choose.yes c.in-Choose.no c.in-Choose.is c.requires.fits in (
      search (rules, the_lemmas),
      (
        c.requires.sound,
        (
          subst (λ (x : Typed). IsTrue (typed_fits (signals_of before) x)) (sym c.deref-in-Choose.ensures) known.false_fits,
          (
            c.requires.place.own (ap is_leaf c.in-Choose.is),
            c.requires.place.width ∙ sym known.false_width ∙ ap (λ (x : Typed). x.width) (sym c.deref-in-Choose.ensures),
          ),
        ),
      ),
    )

pub compute-jump-requires-clause-target : goal.compute-jump-requires-clause-target
compute-jump-requires-clause-target t c =
    let before : Program = program_of c.args.code.now in
    let second : Program = program_of c.fill.new.code in
    let most = more-instructions before second c.in_ok-fill-in-Choose.ensures.fills.grown in
    let here : c.in_ok-next-in-Choose.next ≡ length before.instructions = c.in_ok-next-in-Choose.ensures in
    omega arith

pub compute-fill-requires-in-Choose : goal.compute-fill-requires-in-Choose
unfolding shape-the_row-Typed-0 hidden-the_row-Typed-0 hidden
compute-fill-requires-in-Choose t c =
    let before : Program = program_of c.args.code.now in
    let second : Program = program_of c.fill.new.code in
    let jumped : Program = program_of c.jump.new.code in
    let grown = Grown-trans before second jumped c.in_ok-fill-in-Choose.ensures.fills.grown c.in_ok-jump-in-Choose.ensures.jumps.grown in
    let known =
    choose-known (signals_of before) c.args.e.now c.in-Choose.cond c.in-Choose.yes c.in-Choose.no c.in-Choose.is c.requires.fits in (
      search (rules, the_lemmas),
      (
        c.in_ok-jump-in-Choose.ensures.sound,
        (
          fits-grown_program before jumped c.deref-in-Choose-2.result.now grown
              (subst (λ (x : Typed). IsTrue (typed_fits (signals_of before) x)) (sym c.deref-in-Choose-2.ensures) known.true_fits),
          (
            is_own-grown before jumped c.args.cell grown (c.requires.place.own (ap is_leaf c.in-Choose.is)),
            width_in-grown before jumped c.args.cell grown c.requires.place.is_there
                ∙ c.requires.place.width ∙ sym known.true_width ∙ ap (λ (x : Typed). x.width) (sym c.deref-in-Choose-2.ensures),
          ),
        ),
      ),
    )

pub compute-decide-requires : goal.compute-decide-requires
unfolding shape-the_row-Typed-0 hidden-the_row-Typed-0 hidden
compute-decide-requires t c =
    let before : Program = program_of c.args.code.now in
    let second : Program = program_of c.fill.new.code in
    let jumped : Program = program_of c.jump.new.code in
    let first : Program = program_of c.fill-in-Choose.new.code in
    let later = Grown-trans second jumped first c.in_ok-jump-in-Choose.ensures.jumps.grown c.in_ok-fill-in-Choose-2.ensures.fills.grown in
    let grown = Grown-trans before second first c.in_ok-fill-in-Choose.ensures.fills.grown later in
    let known =
    choose-known (signals_of before) c.args.e.now c.in-Choose.cond c.in-Choose.yes c.in-Choose.no c.in-Choose.is c.requires.fits in
    let most = more-instructions second first later in
    let one : c.in_ok-then-in-Choose.then ≡ length first.instructions = c.in_ok-then-in-Choose.ensures in
    let other : c.in_ok-otherwise-in-Choose.otherwise ≡ length second.instructions = c.in_ok-otherwise-in-Choose.ensures in (
      search (rules, the_lemmas),
      (
        c.in_ok-fill-in-Choose-2.ensures.sound,
        (
          fits-grown_program before first c.deref-in-Choose-3.result.now grown
              (subst (λ (x : Typed). IsTrue (typed_fits (signals_of before) x)) (sym c.deref-in-Choose-3.ensures) known.test_fits),
          (omega arith, omega arith),
        ),
      ),
    )

pub compute-returns-in_ok-then-in-Choose-clause-values : goal.compute-returns-in_ok-then-in-Choose-clause-values
unfolding shape-the_row-Typed-0 hidden-the_row-Typed-0 hidden
compute-returns-in_ok-then-in-Choose-clause-values t c =
    let before : Program = program_of c.args.code.now in
    let second : Program = program_of c.fill.new.code in
    let jumped : Program = program_of c.jump.new.code in
    let first : Program = program_of c.fill-in-Choose.new.code in
    let last : Program = program_of c.decide.new.code in
    on_ok_weaker c.decide.result (λ decides.
    Values-choose before second jumped first last c.args.e.now c.args.cell c.in-Choose.cond c.in-Choose.yes c.in-Choose.no
    c.in-Choose.is c.requires.sound
    (subst (λ (x : Typed). Fills before second x c.args.cell) c.deref-in-Choose.ensures c.in_ok-fill-in-Choose.ensures.fills)
    (subst (λ n. Jumps second jumped n) c.in_ok-next-in-Choose.ensures c.in_ok-jump-in-Choose.ensures.jumps)
    (subst (λ (x : Typed). Fills jumped first x c.args.cell) c.deref-in-Choose-2.ensures c.in_ok-fill-in-Choose-2.ensures.fills)
    (subst (λ n. Decides first last c.in-Choose.cond n (length second.instructions)) c.in_ok-then-in-Choose.ensures
    (subst (λ n. Decides first last c.in-Choose.cond c.in_ok-then-in-Choose.then n) c.in_ok-otherwise-in-Choose.ensures
    (subst (λ (x : Typed). Decides first last x c.in_ok-then-in-Choose.then c.in_ok-otherwise-in-Choose.otherwise)
    c.deref-in-Choose-3.ensures decides))))
    c.decide.ensures.decides

pub compute-join-requires : goal.compute-join-requires
compute-join-requires t c =
    let signals : List Signal = c.args.code.now.design.now.signals.items in
    let known = join-fits signals c.args.e.now.width c.args.e.now.signed c.in-Join.parts
    (node-known signals c.args.e.now (node.Join c.in-Join.parts) c.in-Join.is c.requires.fits) in
    let items = c.deref-in-Join.ensures in (
      search (rules, the_lemmas),
      (
        c.requires.sound,
        (
          rw items known.fits,
          (
            rw items known.some,
            (
              rw items known.width,
              (
                known.most,
                (c.requires.place.own (ap is_leaf c.in-Join.is), c.requires.place.width),
              ),
            ),
          ),
        ),
      ),
    )

pub compute-returns-in-Join-clause-values : goal.compute-returns-in-Join-clause-values
compute-returns-in-Join-clause-values t c =
    let before : Program = program_of c.args.code.now in
    let last : Program = program_of c.join.new.code in
    on_ok_weaker c.join.result (λ joins.
    Values-join before last c.args.e.now c.in-Join.parts c.args.cell c.in-Join.is
    (subst (λ (xs : List Typed). Joins before last xs c.args.cell) c.deref-in-Join.ensures joins))
    c.join.ensures.joins

pub join-loop-count-init : goal.join-loop-count-init
join-loop-count-init t c =
    let before : Program = program_of c.args.code.now in
    let all : take (length c.args.parts.now - 1 + 1) c.args.parts.now ≡ c.args.parts.now =
    ap (λ n. take n c.args.parts.now) (omega arith) ∙ take-length c.args.parts.now in
    record {
      sound = c.requires.sound;
      grown = Grown-refl before;
      within = omega arith;
      sum = ap parts_sum all ∙ c.requires.sum;
      most = c.requires.most;
      own = c.requires.own;
      size = c.requires.size;
      serves = λ last joins. subst (λ (xs : List Typed). Joins before last xs c.args.cell) all joins;
    }

pub join-overflow_sub-left : goal.join-overflow_sub-left
join-overflow_sub-left t c =
    let signals : List Signal = c.args.code.now.design.now.signals.items in
    let some : 0 < c.loop-count.count = omega arith in
    let step = join-step signals c.args.parts.now c.loop-count.count c.index-parts-count.result c.loop-count.left some
    c.loop-count.invariant.within
    c.index-parts-count.is c.requires.fits c.loop-count.invariant.sum in
    let sum : c.loop-count.left ≡ parts_sum (take c.loop-count.count c.args.parts.now) + c.index-parts-count.result.width = step.sum in
    omega arith

pub join-join_part-requires-clause-left : goal.join-join_part-requires-clause-left
join-join_part-requires-clause-left t c =
    let signals : List Signal = c.args.code.now.design.now.signals.items in
    let some : 0 < c.loop-count.count = omega arith in
    let step = join-step signals c.args.parts.now c.loop-count.count c.index-parts-count.result c.loop-count.left some
    c.loop-count.invariant.within
    c.index-parts-count.is c.requires.fits c.loop-count.invariant.sum in
    let sum : c.loop-count.left ≡ parts_sum (take c.loop-count.count c.args.parts.now) + c.index-parts-count.result.width = step.sum in
    let least : 1 ≤ parts_sum (take c.loop-count.count c.args.parts.now) = step.some in
    let most : c.loop-count.left ≤ 128 = c.loop-count.invariant.most in
    both (le-leb 1 (c.loop-count.left - c.index-parts-count.result.width) (omega arith))
    (le-leb (c.loop-count.left - c.index-parts-count.result.width) 128 (omega arith))

pub join-join_part-requires-clause-size : goal.join-join_part-requires-clause-size
join-join_part-requires-clause-size t c =
    let signals : List Signal = c.args.code.now.design.now.signals.items in
    let some : 0 < c.loop-count.count = omega arith in
    let step = join-step signals c.args.parts.now c.loop-count.count c.index-parts-count.result c.loop-count.left some
    c.loop-count.invariant.within
    c.index-parts-count.is c.requires.fits c.loop-count.invariant.sum in
    let sum : c.loop-count.left ≡ parts_sum (take c.loop-count.count c.args.parts.now) + c.index-parts-count.result.width = step.sum in
    let back : c.loop-count.left ≡ c.loop-count.left - c.index-parts-count.result.width + c.index-parts-count.result.width = omega arith in
    c.loop-count.invariant.size ∙ back

pub join-compute-requires : goal.join-compute-requires
join-compute-requires t c =
    let signals : List Signal = c.args.code.now.design.now.signals.items in
    let some : 0 < c.loop-count.count = omega arith in
    let step = join-step signals c.args.parts.now c.loop-count.count c.index-parts-count.result c.loop-count.left some
    c.loop-count.invariant.within
    c.index-parts-count.is c.requires.fits c.loop-count.invariant.sum in
    let before : Program = program_of c.args.code.now in
    let now : Program = program_of c.loop-count.code in
    let new : Program = program_of c.join_part.new.code in
    let awaits = c.in_ok-high.ensures.awaits in (
      first_of (search (rules, the_lemmas), search rules, grind (arith, common_steps)),
      (
        c.in_ok-high.ensures.sound,
        (
          fits-grown_program before new c.index-parts-count.result
              (Grown-trans before now new c.loop-count.invariant.grown awaits.grown) step.fits,
          awaits.part_place,
        ),
      ),
    )

pub join-loop-count-preserved : goal.join-loop-count-preserved
join-loop-count-preserved t c =
    let signals : List Signal = c.args.code.now.design.now.signals.items in
    let some : 0 < c.loop-count.count = omega arith in
    let step = join-step signals c.args.parts.now c.loop-count.count c.index-parts-count.result c.loop-count.left some
    c.loop-count.invariant.within
    c.index-parts-count.is c.requires.fits c.loop-count.invariant.sum in
    let before : Program = program_of c.args.code.now in
    let now : Program = program_of c.loop-count.code in
    let new : Program = program_of c.join_part.new.code in
    let middle : Program = program_of c.compute.new.code in
    let awaits = c.in_ok-high.ensures.awaits in
    let values = c.in_ok-compute.ensures.values in
    let within : c.loop-count.count < length c.args.parts.now = c.loop-count.invariant.within in
    let less : c.loop-count.count - 1 + 1 ≡ c.loop-count.count = omega arith in
    let sum : c.loop-count.left ≡ parts_sum (take c.loop-count.count c.args.parts.now) + c.index-parts-count.result.width = step.sum in
    let most : c.loop-count.left ≤ 128 = c.loop-count.invariant.most in
    record {
      sound = c.in_ok-compute.ensures.sound;
      grown = Grown-trans before now middle c.loop-count.invariant.grown (Grown-trans now new middle awaits.grown values.grown);
      within = omega arith;
      sum = ap (λ n. parts_sum (take n c.args.parts.now)) less ∙ omega arith;
      most = omega arith;
      own = is_own-grown new middle c.in_ok-high.high values.grown awaits.high_own;
      size = width_in-grown new middle c.in_ok-high.high values.grown (is_own-cell new c.in_ok-high.high awaits.high_own)
          ∙ awaits.high_width;
      serves = λ last joins.
          c.loop-count.invariant.serves last
          (subst (λ (xs : List Typed). Joins now last xs c.loop-count.to) (sym step.split)
          (awaits.serves (take c.loop-count.count c.args.parts.now) middle last values
          (subst (λ n. Joins middle last (take n c.args.parts.now) c.in_ok-high.high) less joins)));
    }

pub join-returns-then-count-eq0-clause-joins : goal.join-returns-then-count-eq0-clause-joins
join-returns-then-count-eq0-clause-joins t c =
    let signals : List Signal = c.args.code.now.design.now.signals.items in
    let now : Program = program_of c.loop-count.code in
    let last : Program = program_of c.fill.new.code in
    let first = first-known signals c.args.parts.now c.index-parts-0.result c.requires.some c.index-parts-0.is c.requires.fits in
    on_ok_weaker c.fill.result (λ fills.
    c.loop-count.invariant.serves last
    (subst (λ (xs : List Typed). Joins now last xs c.loop-count.to)
    (sym (ap (λ n. take (n + 1) c.args.parts.now) c.if-count-eq0.true ∙ first.0))
    (Joins-one now last c.index-parts-0.result c.loop-count.to fills)))
    c.fill.ensures.fills

pub join-compute-requires-2 : goal.join-compute-requires-2
join-compute-requires-2 t c =
    let signals : List Signal = c.args.code.now.design.now.signals.items in
    let one : c.loop-count.count ≡ 1 = omega arith in
    let pair = pair-known signals c.args.parts.now c.index-parts-0-2.result c.index-parts-1.result c.loop-count.left
    (subst (λ n. n < length c.args.parts.now) one c.loop-count.invariant.within) c.index-parts-0-2.is c.index-parts-1.is c.requires.fits
    (ap (λ n. parts_sum (take (n + 1) c.args.parts.now)) (sym one) ∙ c.loop-count.invariant.sum) in
    let before : Program = program_of c.args.code.now in
    let now : Program = program_of c.loop-count.code in
    let new : Program = program_of c.join_pair.new.code in
    let awaits = c.in_ok-high-2.ensures.awaits in (
      first_of (search (rules, the_lemmas), search rules, grind (arith, common_steps)),
      (
        c.in_ok-high-2.ensures.sound,
        (
          fits-grown_program before new c.index-parts-1.result
              (Grown-trans before now new c.loop-count.invariant.grown awaits.grown) pair.3,
          awaits.right_place,
        ),
      ),
    )

pub join-compute-requires-3 : goal.join-compute-requires-3
join-compute-requires-3 t c =
    let signals : List Signal = c.args.code.now.design.now.signals.items in
    let first = first-known signals c.args.parts.now c.index-parts-0-2.result c.requires.some c.index-parts-0-2.is c.requires.fits in
    let before : Program = program_of c.args.code.now in
    let now : Program = program_of c.loop-count.code in
    let new : Program = program_of c.join_pair.new.code in
    let middle : Program = program_of c.compute-2.new.code in
    let awaits = c.in_ok-high-2.ensures.awaits in
    let values = c.in_ok-compute-2.ensures.values in (
      first_of (search (rules, the_lemmas), search rules, grind (arith, common_steps)),
      (
        c.in_ok-compute-2.ensures.sound,
        (
          fits-grown_program before middle c.index-parts-0-2.result
              (Grown-trans before now middle c.loop-count.invariant.grown (Grown-trans now new middle awaits.grown values.grown)) first.1,
          IsPlaceFor-grown new middle c.index-parts-0-2.result c.in_ok-high-2.high values.grown awaits.left_place,
        ),
      ),
    )

pub join-returns-clause-joins : goal.join-returns-clause-joins
join-returns-clause-joins t c =
    let signals : List Signal = c.args.code.now.design.now.signals.items in
    let one : c.loop-count.count ≡ 1 = omega arith in
    let pair = pair-known signals c.args.parts.now c.index-parts-0-2.result c.index-parts-1.result c.loop-count.left
    (subst (λ n. n < length c.args.parts.now) one c.loop-count.invariant.within) c.index-parts-0-2.is c.index-parts-1.is c.requires.fits
    (ap (λ n. parts_sum (take (n + 1) c.args.parts.now)) (sym one) ∙ c.loop-count.invariant.sum) in
    let now : Program = program_of c.loop-count.code in
    let middle : Program = program_of c.compute-2.new.code in
    let last : Program = program_of c.compute-3.new.code in
    on_ok_weaker c.compute-3.result (λ values.
    c.loop-count.invariant.serves last
    (subst (λ (xs : List Typed). Joins now last xs c.loop-count.to) (sym (ap (λ n. take (n + 1) c.args.parts.now) one ∙ pair.0))
    (c.in_ok-high-2.ensures.awaits.serves middle last c.in_ok-compute-2.ensures.values values)))
    c.compute-3.ensures.values

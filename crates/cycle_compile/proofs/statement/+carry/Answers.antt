use Rattle.std.proofs.Common.{◌≡◌, ℕ, ◌<◌, ◌-◌, List, length, drop, arith, sym, subst, ◌∙◌, rules}
use Rattle.std.specs.List.{list_all}
use Rattle.std.proofs.lemmas.Bool.{and_parts, ltb-true, lt-ltb}
use Rattle.std.proofs.lemmas.Result.{on_ok_weaker}
use Rattle.design_core.specs.declared.statement.CaseItem.{CaseItem}
use Rattle.design_core.specs.declared.statement.Stmt.{Stmt}
use Rattle.design_core.specs.declared.statement.Stmt.TheViews.{the_lemmas}
use Rattle.design_core.specs.Store.{parts_width}
use Rattle.design_core.specs.WellFormed.{assignment_fits, statement_fits}
use Rattle.plain_values.proofs.EvaluateStatement.{block-fits, if-fits, case-fits, case-ends, place-within}
use Rattle.cycle_code.specs.Program.{Program, program_of, signals_of}
use Rattle.cycle_code.specs.Cells.{width_in}
use Rattle.cycle_code.proofs.GrowthLaws.{Grown-trans, is_cell-grown}
use Rattle.cycle_compile.specs.Carrying.{Carries, list_left, label_suits, item_suits, TakesFirst}
use Rattle.cycle_compile.proofs.Jumping.{more-instructions}
use Rattle.cycle_compile.proofs.Carrying.{list-more, first-more, item-takes}
use Rattle.cycle_compile.proofs.Labelling.{drop-back}
use Rattle.cycle_compile.proofs.Statements.{typed-fits-grown, statement-fits-grown, item-suits-grown, items-suit-grown, items-suit-placed, labels-suit-grown, entry-fits, block-runs, if-whole, case-whole, set-runs, tests-as}
use Rattle.cycle_compile.proofs.statement.+carry.Goals as goal
use Rattle.cycle_compile.proofs.Placing.{IsPlaceFor-grown}

pub carry_out-carry_out_all-requires : goal.carry_out-carry_out_all-requires
carry_out-carry_out_all-requires t c =
    let old : Program = program_of c.args.code.now in
    let fits = sym (block-fits (signals_of old) old.design.places.items c.in-Block.statements) ∙ (rw c.in-Block.is at c.requires.fits) in
    (search (rules, the_lemmas), (c.requires.sound, rw c.deref.ensures fits))

pub carry_out-returns-in-Block-clause-runs : goal.carry_out-returns-in-Block-clause-runs
carry_out-returns-in-Block-clause-runs t c =
    on_ok_weaker c.carry_out_all.result
    (λ carries.
    block-runs (program_of c.args.code.now) (program_of c.carry_out_all.new.code) c.args.statement.now c.in-Block.statements
    c.deref.result.now
    c.in-Block.is c.deref.ensures carries)
    c.carry_out_all.ensures.carries

pub carry_out-returns-in-Set-clause-runs : goal.carry_out-returns-in-Set-clause-runs
carry_out-returns-in-Set-clause-runs t c =
    on_ok_weaker c.assign.result
    (λ carries.
    set-runs (program_of c.args.code.now) (program_of c.assign.new.code) c.args.statement.now c.in-Set.place c.in-Set.target c.in-Set.value
    c.in-Set.later c.in-Set.is carries)
    c.assign.ensures.carries

pub carry_out_all-loop-i-preserved : goal.carry_out_all-loop-i-preserved
carry_out_all-loop-i-preserved t c =
    let old : Program = program_of c.args.code.now in
    let mid : Program = program_of c.loop-i.code in
    let new : Program = program_of c.carry_out.new.code in
    let back = drop-back c.args.statements.now c.loop-i.i c.index-statements-i.result c.loop-i-test.true c.loop-i.auto.i
    c.index-statements-i.is in
    record {
      carries = subst (λ (ss : List Stmt). Carries old new (list_left ss)) (sym back)
          (list-more old mid new c.index-statements-i.result (drop c.loop-i.i c.args.statements.now) c.loop-i.invariant.carries
          c.in_ok-carry_out.ensures.runs);
      sound = c.in_ok-carry_out.ensures.sound;
    }

pub carry_out_item-test_labels-requires-clause-suits : goal.carry_out_item-test_labels-requires-clause-suits
carry_out_item-test_labels-requires-clause-suits t c =
    let old : Program = program_of c.args.code.now in
    let p1 : Program = program_of c.jump.new.code in
    let p2 : Program = program_of c.carry_out.new.code in
    let width : ℕ = width_in old.widths c.args.subject in
    let both = and_parts (list_all (label_suits (signals_of old) width) c.args.item.now.labels)
    (statement_fits (signals_of old) old.design.places.items c.args.item.now.body) c.requires.item in
    rw c.deref.ensures
    (labels-suit-grown old p2 c.args.subject c.args.item.now.labels
    (Grown-trans old p1 p2 c.in_ok-jump.ensures.jumps.grown c.in_ok-carry_out.ensures.runs.grown) c.requires.subject both.0)

pub carry_out_item-test_labels-requires-clause-no : goal.carry_out_item-test_labels-requires-clause-no
carry_out_item-test_labels-requires-clause-no t c =
    let old : Program = program_of c.args.code.now in
    let p1 : Program = program_of c.jump.new.code in
    let p2 : Program = program_of c.carry_out.new.code in
    let more = more-instructions old p2 (Grown-trans old p1 p2 c.in_ok-jump.ensures.jumps.grown c.in_ok-carry_out.ensures.runs.grown) in
    omega (arith, more, c.in_ok-missed.ensures)

pub carry_out_item-returns-clause-takes : goal.carry_out_item-returns-clause-takes
carry_out_item-returns-clause-takes t c =
    let old : Program = program_of c.args.code.now in
    let p1 : Program = program_of c.jump.new.code in
    let p2 : Program = program_of c.carry_out.new.code in
    let new : Program = program_of c.test_labels.new.code in
    on_ok_weaker c.test_labels.result
    (λ tests.
    item-takes old p1 p2 new c.args.next c.args.subject c.args.item.now c.in_ok-carry_out.ensures.sound c.in_ok-jump.ensures.jumps
    c.in_ok-carry_out.ensures.runs
    (tests-as p2 new (length new.instructions) c.args.subject c.deref.result.now c.args.item.now.labels c.in_ok-taken.taken
    (length p2.instructions)
    c.in_ok-missed.missed (length old.instructions) c.deref.ensures c.in_ok-taken.ensures c.in_ok-missed.ensures tests))
    c.test_labels.ensures.tests

pub carry_out_items-carry_out_item-requires : goal.carry_out_items-carry_out_item-requires
carry_out_items-carry_out_item-requires t c =
    let old : Program = program_of c.args.code.now in
    let mid : Program = program_of c.loop-i.code in
    let grown = c.loop-i.invariant.takes.grown in
    let more = more-instructions old mid grown in
    let within : c.loop-i.i - 1 < length c.args.items.now = omega (arith, c.loop-i.auto.i, c.loop-i-test.true) in
    let fits = entry-fits (item_suits (signals_of old) old.design.places.items (width_in old.widths c.args.subject))
    c.args.items.now (c.loop-i.i - 1)
    c.index-items-i.result c.requires.items within c.index-items-i.is in (
      search (rules, the_lemmas),
      (
        c.loop-i.invariant.sound,
        (
          is_cell-grown old mid c.args.subject grown c.requires.subject,
          (
            item-suits-grown old mid c.args.subject c.index-items-i.result grown c.requires.subject fits,
            omega
                (arith, more, c.requires.next),
          ),
        ),
      ),
    )

pub carry_out_items-loop-i-preserved : goal.carry_out_items-loop-i-preserved
carry_out_items-loop-i-preserved t c =
    let old : Program = program_of c.args.code.now in
    let mid : Program = program_of c.loop-i.code in
    let new : Program = program_of c.carry_out_item.new.code in
    let within = ltb-true c.args.subject (length mid.widths)
    (is_cell-grown old mid c.args.subject c.loop-i.invariant.takes.grown c.requires.subject) in
    let back = drop-back c.args.items.now c.loop-i.i c.index-items-i.result c.loop-i-test.true c.loop-i.auto.i c.index-items-i.is in
    record {
      takes = subst (λ (is : List CaseItem). TakesFirst old new c.args.next c.args.subject is) (sym back)
          (first-more old mid new c.args.next c.args.subject c.index-items-i.result (drop c.loop-i.i c.args.items.now)
          c.loop-i.invariant.sound within
          c.loop-i.invariant.takes c.in_ok-carry_out_item.ensures.takes);
      sound = c.in_ok-carry_out_item.ensures.sound;
    }

pub carry_out_items-returns-clause-takes : goal.carry_out_items-returns-clause-takes
carry_out_items-returns-clause-takes t c =
    let none : c.loop-i.i ≡ 0 = omega (arith, c.loop-i-test.false) in
    subst (λ (k : ℕ). TakesFirst (program_of c.args.code.now) (program_of c.loop-i.code) c.args.next c.args.subject
    (drop k c.args.items.now)) none
    c.loop-i.invariant.takes

pub carry_out-carry_out-requires : goal.carry_out-carry_out-requires
carry_out-carry_out-requires t c =
    let old : Program = program_of c.args.code.now in
    let fits = if-fits (signals_of old) old.design.places.items c.in-If.cond c.in-If.yes c.in-If.no (rw c.in-If.is at c.requires.fits) in
    (search (rules, the_lemmas), (c.requires.sound, rw c.deref-in-If.ensures fits.1.1))

pub carry_out-jump-requires-clause-target : goal.carry_out-jump-requires-clause-target
carry_out-jump-requires-clause-target t c =
    let more = more-instructions (program_of c.args.code.now) (program_of c.carry_out.new.code)
    c.in_ok-carry_out-in-If.ensures.runs.grown in
    omega (arith, more, c.in_ok-next-in-If.ensures)

pub carry_out-carry_out-requires-in-If : goal.carry_out-carry_out-requires-in-If
carry_out-carry_out-requires-in-If t c =
    let old : Program = program_of c.args.code.now in
    let p1 : Program = program_of c.carry_out.new.code in
    let p2 : Program = program_of c.jump.new.code in
    let fits = if-fits (signals_of old) old.design.places.items c.in-If.cond c.in-If.yes c.in-If.no (rw c.in-If.is at c.requires.fits) in
    let grown = Grown-trans old p1 p2 c.in_ok-carry_out-in-If.ensures.runs.grown c.in_ok-jump-in-If.ensures.jumps.grown in (
      search (rules, the_lemmas),
      (c.in_ok-jump-in-If.ensures.sound, rw c.deref-in-If-2.ensures (statement-fits-grown old p2 c.in-If.yes grown fits.1.0)),
    )

pub carry_out-decide-requires-clause-fits : goal.carry_out-decide-requires-clause-fits
carry_out-decide-requires-clause-fits t c =
    let old : Program = program_of c.args.code.now in
    let p1 : Program = program_of c.carry_out.new.code in
    let p2 : Program = program_of c.jump.new.code in
    let p3 : Program = program_of c.carry_out-in-If.new.code in
    let fits = if-fits (signals_of old) old.design.places.items c.in-If.cond c.in-If.yes c.in-If.no (rw c.in-If.is at c.requires.fits) in
    let grown = Grown-trans old p1 p2 c.in_ok-carry_out-in-If.ensures.runs.grown c.in_ok-jump-in-If.ensures.jumps.grown in
    typed-fits-grown old p3 c.in-If.cond (Grown-trans old p2 p3 grown c.in_ok-carry_out-in-If-2.ensures.runs.grown) fits.0

pub carry_out-decide-requires-clause-no : goal.carry_out-decide-requires-clause-no
carry_out-decide-requires-clause-no t c =
    let p1 : Program = program_of c.carry_out.new.code in
    let p2 : Program = program_of c.jump.new.code in
    let p3 : Program = program_of c.carry_out-in-If.new.code in
    let more = more-instructions p1 p3 (Grown-trans p1 p2 p3 c.in_ok-jump-in-If.ensures.jumps.grown
    c.in_ok-carry_out-in-If-2.ensures.runs.grown) in
    omega (arith, more, c.in_ok-otherwise-in-If.ensures)

pub carry_out-place-requires-clause-fits : goal.carry_out-place-requires-clause-fits
carry_out-place-requires-clause-fits t c =
    let old : Program = program_of c.args.code.now in
    let ends = case-ends (signals_of old) old.design.places.items c.in-Case.subject c.in-Case.items c.in-Case.other c.in-Case.wild
    (rw c.in-Case.is at c.requires.fits) in
    c.compared-subject.ensures.bare.fits (signals_of old) ends.0

pub carry_out-carry_out-requires-in-Case : goal.carry_out-carry_out-requires-in-Case
carry_out-carry_out-requires-in-Case t c =
    let old : Program = program_of c.args.code.now in
    let p0 : Program = program_of c.place.new.code in
    let ends = case-ends (signals_of old) old.design.places.items c.in-Case.subject c.in-Case.items c.in-Case.other c.in-Case.wild
    (rw c.in-Case.is at c.requires.fits) in (
      search (rules, the_lemmas),
      (
        c.in_ok-cell-in-Case.ensures.sound,
        rw c.deref-in-Case-2.ensures (statement-fits-grown old p0 c.in-Case.other c.in_ok-cell-in-Case.ensures.grown ends.1),
      ),
    )

pub carry_out-carry_out_items-requires : goal.carry_out-carry_out_items-requires
carry_out-carry_out_items-requires t c =
    let old : Program = program_of c.args.code.now in
    let p0 : Program = program_of c.place.new.code in
    let p1 : Program = program_of c.carry_out-in-Case.new.code in
    let cell : ℕ = c.in_ok-cell-in-Case.cell in
    let there = c.in_ok-cell-in-Case.ensures.place.is_there in
    let grown = c.in_ok-carry_out-in-Case.ensures.runs.grown in
    let more = more-instructions p0 p1 grown in
    let fits = case-fits (signals_of old) old.design.places.items c.in-Case.subject c.in-Case.items c.in-Case.other c.in-Case.wild
    (rw c.in-Case.is at c.requires.fits) in
    let suits = c.compared-subject.ensures.suits (signals_of old) old.design.places.items (rw c.deref-in-Case.ensures fits) in
    let placed = items-suit-placed old p0 cell c.compared-subject.result.now.width c.in-Case.items c.in_ok-cell-in-Case.ensures.grown
    c.in_ok-cell-in-Case.ensures.place.width (rw c.deref-in-Case.ensures at suits) in (
      search (rules, the_lemmas),
      (
        c.in_ok-carry_out-in-Case.ensures.sound,
        (
          is_cell-grown p0 p1 cell grown there,
          (
            rw c.deref-in-Case-3.ensures (items-suit-grown p0 p1 cell c.in-Case.items grown there placed),
            omega (arith, more, c.in_ok-next-in-Case.ensures),
          ),
        ),
      ),
    )

pub carry_out-compute-requires-clause-fits : goal.carry_out-compute-requires-clause-fits
carry_out-compute-requires-clause-fits t c =
    let old : Program = program_of c.args.code.now in
    let p0 : Program = program_of c.place.new.code in
    let p1 : Program = program_of c.carry_out-in-Case.new.code in
    let p2 : Program = program_of c.carry_out_items.new.code in
    let ends = case-ends (signals_of old) old.design.places.items c.in-Case.subject c.in-Case.items c.in-Case.other c.in-Case.wild
    (rw c.in-Case.is at c.requires.fits) in
    let grown = Grown-trans p0 p1 p2 c.in_ok-carry_out-in-Case.ensures.runs.grown c.in_ok-carry_out_items-in-Case.ensures.takes.grown in
    typed-fits-grown old p2 c.compared-subject.result.now (Grown-trans old p0 p2 c.in_ok-cell-in-Case.ensures.grown grown)
    (c.compared-subject.ensures.bare.fits (signals_of old) ends.0)

pub carry_out-compute-requires-clause-place : goal.carry_out-compute-requires-clause-place
carry_out-compute-requires-clause-place t c =
    let p0 : Program = program_of c.place.new.code in
    let p1 : Program = program_of c.carry_out-in-Case.new.code in
    let p2 : Program = program_of c.carry_out_items.new.code in
    IsPlaceFor-grown p0 p2 c.compared-subject.result.now c.in_ok-cell-in-Case.cell
    (Grown-trans p0 p1 p2 c.in_ok-carry_out-in-Case.ensures.runs.grown c.in_ok-carry_out_items-in-Case.ensures.takes.grown)
    c.in_ok-cell-in-Case.ensures.place

pub carry_out-assign-requires-clause-place : goal.carry_out-assign-requires-clause-place
carry_out-assign-requires-clause-place t c =
    let old : Program = program_of c.args.code.now in
    let within = place-within old.design.places.items (parts_width (signals_of old) c.in-Set.target.parts) c.in-Set.place
    (assignment_fits (signals_of old) c.in-Set.target.parts c.in-Set.value) (rw c.in-Set.is at c.requires.fits) in
    lt-ltb c.in-Set.place (length old.design.places.items) within

pub carry_out-returns-in_ok-then-in-If-clause-runs : goal.carry_out-returns-in_ok-then-in-If-clause-runs
carry_out-returns-in_ok-then-in-If-clause-runs t c =
    on_ok_weaker c.decide.result
    (λ decides.
    if-whole (program_of c.args.code.now) (program_of c.carry_out.new.code) (program_of c.jump.new.code)
    (program_of c.carry_out-in-If.new.code)
    (program_of c.decide.new.code) c.args.statement.now c.in-If.cond c.in-If.yes c.in-If.no c.deref-in-If.result.now
    c.deref-in-If-2.result.now
    c.in_ok-next-in-If.next c.in_ok-then-in-If.«then» c.in_ok-otherwise-in-If.otherwise c.in-If.is c.in_ok-carry_out-in-If-2.ensures.sound
    c.deref-in-If.ensures c.deref-in-If-2.ensures c.in_ok-next-in-If.ensures c.in_ok-then-in-If.ensures c.in_ok-otherwise-in-If.ensures
    c.in_ok-carry_out-in-If.ensures.runs c.in_ok-jump-in-If.ensures.jumps c.in_ok-carry_out-in-If-2.ensures.runs decides)
    c.decide.ensures.decides

pub carry_out-returns-in_ok-carry_out_items-in-Case-clause-runs : goal.carry_out-returns-in_ok-carry_out_items-in-Case-clause-runs
carry_out-returns-in_ok-carry_out_items-in-Case-clause-runs t c =
    on_ok_weaker c.compute.result
    (λ values.
    case-whole (program_of c.args.code.now) (program_of c.place.new.code) (program_of c.carry_out-in-Case.new.code)
    (program_of c.carry_out_items.new.code) (program_of c.compute.new.code) c.args.statement.now c.in-Case.subject
    c.compared-subject.result.now
    c.in-Case.items c.deref-in-Case-3.result.now c.in-Case.other c.deref-in-Case-2.result.now c.in-Case.wild c.in_ok-cell-in-Case.cell
    c.in_ok-next-in-Case.next c.in-Case.is c.compared-subject.ensures.bare c.requires.sound
    c.in_ok-carry_out-in-Case.ensures.sound c.in_ok-cell-in-Case.ensures.grown
    c.in_ok-cell-in-Case.ensures.instructions c.in_ok-cell-in-Case.ensures.fresh c.deref-in-Case-2.ensures c.deref-in-Case-3.ensures
    c.in_ok-next-in-Case.ensures c.in_ok-carry_out-in-Case.ensures.runs c.in_ok-carry_out_items-in-Case.ensures.takes values)
    c.compute.ensures.values

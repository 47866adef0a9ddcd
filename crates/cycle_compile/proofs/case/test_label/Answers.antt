use Rattle.std.proofs.Common.{length, arith, sym, ◌∙◌}
use Rattle.std.proofs.lemmas.Bool.{ltb-true}
use Rattle.std.proofs.lemmas.Result.{on_ok_weaker}
use Rattle.cycle_code.specs.Program.{Program, program_of, signals_of}
use Rattle.cycle_code.specs.Cells.{width_in}
use Rattle.cycle_code.proofs.GrowthLaws.{Grown-trans, is_cell-grown, width_in-grown}
use Rattle.cycle_compile.proofs.Jumping.{more-instructions}
use Rattle.cycle_compile.proofs.Labelling.{label-tests, label-widths}
use Rattle.cycle_compile.proofs.case.test_label.Goals as goal
use Rattle.cycle_compile.proofs.Placing.{IsPlaceFor-grown}

pub compare-requires-clause-subject : goal.compare-requires-clause-subject
compare-requires-clause-subject c =
    let old : Program = program_of c.args.code.now in
    let p1 : Program = program_of c.jump.new.code in
    is_cell-grown old p1 c.args.subject (Grown-trans old (program_of c.place.new.code) p1 c.in_ok-cell.ensures.grown
    c.in_ok-jump.ensures.jumps.grown)
    c.requires.subject

pub compare-requires-clause-cell : goal.compare-requires-clause-cell
compare-requires-clause-cell c =
    is_cell-grown (program_of c.place.new.code) (program_of c.jump.new.code) c.in_ok-cell.cell c.in_ok-jump.ensures.jumps.grown
    c.in_ok-cell.ensures.place.is_there

pub compare-requires-clause-cell_width : goal.compare-requires-clause-cell_width
compare-requires-clause-cell_width c wild =
    let old : Program = program_of c.args.code.now in
    let p0 : Program = program_of c.place.new.code in
    let p1 : Program = program_of c.jump.new.code in
    let grown = Grown-trans old p0 p1 c.in_ok-cell.ensures.grown c.in_ok-jump.ensures.jumps.grown in
    let widths = label-widths (signals_of old) (width_in old.widths c.args.subject) c.args.label.now c.requires.suits wild in
    width_in-grown p0 p1 c.in_ok-cell.cell c.in_ok-jump.ensures.jumps.grown c.in_ok-cell.ensures.place.is_there
    ∙ c.in_ok-cell.ensures.place.width
    ∙ widths.0
    ∙ sym (width_in-grown old p1 c.args.subject grown c.requires.subject)

pub compare-requires-clause-wild_width : goal.compare-requires-clause-wild_width
compare-requires-clause-wild_width c wild =
    let old : Program = program_of c.args.code.now in
    let p1 : Program = program_of c.jump.new.code in
    let grown = Grown-trans old (program_of c.place.new.code) p1 c.in_ok-cell.ensures.grown c.in_ok-jump.ensures.jumps.grown in
    let widths = label-widths (signals_of old) (width_in old.widths c.args.subject) c.args.label.now c.requires.suits wild in
    widths.1 ∙ sym (width_in-grown old p1 c.args.subject grown c.requires.subject)

pub compare-requires-clause-no : goal.compare-requires-clause-no
compare-requires-clause-no c =
    let old : Program = program_of c.args.code.now in
    let p1 : Program = program_of c.jump.new.code in
    let more = more-instructions old p1
    (Grown-trans old (program_of c.place.new.code) p1 c.in_ok-cell.ensures.grown c.in_ok-jump.ensures.jumps.grown) in
    omega (arith, more, c.requires.no)

pub compute-requires-clause-place : goal.compute-requires-clause-place
compute-requires-clause-place c =
    let p0 : Program = program_of c.place.new.code in
    let p1 : Program = program_of c.jump.new.code in
    let p2 : Program = program_of c.compare.new.code in
    IsPlaceFor-grown p0 p2 c.args.label.now.value c.in_ok-cell.cell
    (Grown-trans p0 p1 p2 c.in_ok-jump.ensures.jumps.grown c.in_ok-compare.ensures.tests.grown) c.in_ok-cell.ensures.place

pub returns-clause-tests : goal.returns-clause-tests
returns-clause-tests c =
    on_ok_weaker c.compute.result
    (λ values.
    label-tests (program_of c.args.code.now) (program_of c.place.new.code) (program_of c.jump.new.code) (program_of c.compare.new.code)
    (program_of c.compute.new.code) c.args.subject c.in_ok-cell.cell c.args.label.now c.args.yes c.args.no c.requires.sound
    (ltb-true c.args.subject (length (program_of c.args.code.now).widths) c.requires.subject) c.in_ok-cell.ensures.grown
    c.in_ok-cell.ensures.fresh
    c.in_ok-jump.ensures.jumps c.in_ok-compare.ensures.tests values)
    c.compute.ensures.values

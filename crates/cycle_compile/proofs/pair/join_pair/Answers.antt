use Rattle.std.proofs.Common.{◌+◌, sym, ◌∙◌, ap}
use Rattle.std.proofs.lemmas.Bool.{eq-eqb}
use Rattle.cycle_code.specs.Program.{Program, program_of}
use Rattle.cycle_code.specs.Cells.{width_in}
use Rattle.cycle_code.proofs.GrowthLaws.{both, Grown-trans, is_cell-grown, is_own-cell, is_own-grown, width_in-grown}
use Rattle.cycle_compile.proofs.Wide.{fits-grown_program}
use Rattle.cycle_compile.proofs.Joining.{AwaitsPair-pushed}
use Rattle.cycle_compile.proofs.pair.join_pair.Goals as goal

pub place-requires-2-clause-fits : goal.place-requires-2-clause-fits
place-requires-2-clause-fits c =
    fits-grown_program (program_of c.args.code.now) (program_of c.place.new.code) c.args.right.now c.in_ok-high.ensures.grown
    c.requires.right

pub push-requires-clause-fits : goal.push-requires-clause-fits
push-requires-clause-fits c =
    let before : Program = program_of c.args.code.now in
    let between : Program = program_of c.place.new.code in
    let placed : Program = program_of c.place-2.new.code in
    let one = c.in_ok-high.ensures in
    let other = c.in_ok-low.ensures in
    let grown = Grown-trans before between placed one.grown other.grown in
    let high_wide = width_in-grown between placed c.in_ok-high.high other.grown one.place.is_there ∙ one.place.width in
    both (both (both (is_own-grown before placed c.args.cell grown c.requires.own)
    (is_cell-grown between placed c.in_ok-high.high other.grown one.place.is_there)) other.place.is_there)
    (eq-eqb (width_in placed.widths c.args.cell) (width_in placed.widths c.in_ok-high.high + width_in placed.widths c.in_ok-low.low)
    (width_in-grown before placed c.args.cell grown (is_own-cell before c.args.cell c.requires.own) ∙ c.requires.size
    ∙ ap (λ n. n + c.args.right.now.width) (sym high_wide)
    ∙ ap (λ n. width_in placed.widths c.in_ok-high.high + n) (sym other.place.width)))

pub returns-clause-awaits : goal.returns-clause-awaits
returns-clause-awaits c =
    let before : Program = program_of c.args.code.now in
    let between : Program = program_of c.place.new.code in
    let placed : Program = program_of c.place-2.new.code in
    let new : Program = program_of c.push.new.self in
    let one = c.in_ok-high.ensures in
    let other = c.in_ok-low.ensures in
    let pushed = c.in_ok-push.ensures in
    AwaitsPair-pushed before between placed new c.args.left.now c.args.right.now c.args.cell c.in_ok-high.high c.in_ok-low.low
    c.requires.sound c.requires.own
    (record { place = one.place; fresh = one.fresh; grown = one.grown })
    (record { place = other.place; fresh = other.fresh; grown = other.grown })
    c.requires.size (other.instructions ∙ one.instructions) pushed.value pushed.sound pushed.grown

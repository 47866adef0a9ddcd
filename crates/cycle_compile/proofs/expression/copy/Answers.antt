use Rattle.std.proofs.Common.{sym, ◌∙◌}
use Rattle.std.proofs.lemmas.Bool.{eq-eqb}
use Rattle.cycle_code.specs.Program.{Program, program_of}
use Rattle.cycle_code.specs.Cells.{width_in}
use Rattle.cycle_code.proofs.GrowthLaws.{both, is_own-grown, is_own-cell, width_in-grown}
use Rattle.cycle_compile.proofs.Outcomes.{on_ok-three}
use Rattle.cycle_compile.proofs.Choosing.{Fills-copied}
use Rattle.cycle_compile.proofs.expression.copy.Goals as goal

pub push-requires-clause-fits : goal.push-requires-clause-fits
push-requires-clause-fits c =
    let before : Program = program_of c.args.code.now in
    let placed : Program = program_of c.place.new.code in
    let at = c.in_ok-from.ensures in
    both (both (is_own-grown before placed c.args.cell at.grown c.requires.own) at.place.is_there)
    (eq-eqb (width_in placed.widths c.in_ok-from.from) (width_in placed.widths c.args.cell)
    (at.place.width ∙ sym (width_in-grown before placed c.args.cell at.grown (is_own-cell before c.args.cell c.requires.own)
    ∙ c.requires.width)))

pub returns-clause-fills : goal.returns-clause-fills
returns-clause-fills c =
    let before : Program = program_of c.args.code.now in
    let placed : Program = program_of c.place.new.code in
    let at = c.in_ok-from.ensures in
    on_ok-three c.push.result
    (λ made sound grown.
    Fills-copied before placed (program_of c.push.new.self) c.args.e.now c.in_ok-from.from c.args.cell c.requires.leaf
    (record { place = at.place; fresh = at.fresh; grown = at.grown })
    at.instructions (is_own-cell before c.args.cell c.requires.own) c.requires.width c.requires.fits made sound grown)
    c.push.ensures.value c.push.ensures.sound c.push.ensures.grown

use Rattle.std.proofs.Common.{◌≡◌, length, sym, ◌∙◌, ap, arith}
use Rattle.std.specs.Prelude.{◌+◌}
use Rattle.std.proofs.lemmas.Bool.{eq-eqb}
use Rattle.cycle_code.specs.Program.{Program, program_of}
use Rattle.cycle_code.specs.Cells.{width_in}
use Rattle.cycle_code.proofs.GrowthLaws.{both, Grown-trans, is_cell-grown, is_own-cell, is_own-grown, width_in-grown}
use Rattle.cycle_compile.proofs.Placing.{new-own}
use Rattle.cycle_compile.proofs.Joining.{AwaitsPart-pushed}
use Rattle.cycle_compile.proofs.operator.join_part.Goals as goal

pub push-requires-clause-fits : goal.push-requires-clause-fits
push-requires-clause-fits c =
    let before : Program = program_of c.args.code.now in
    let placed : Program = program_of c.place.new.code in
    let old : Program = program_of c.temporary.new.self in
    let at = c.in_ok-low.ensures in
    let made = c.in_ok-high.ensures in
    let own = new-own placed old c.args.left c.in_ok-high.high at.sound made.value made.number in
    let grown = Grown-trans before placed old at.grown made.grown in
    both (both (both (is_own-grown before old c.args.cell grown c.requires.own) (is_own-cell old c.in_ok-high.high own.0))
    (is_cell-grown placed old c.in_ok-low.low made.grown at.place.is_there))
    (eq-eqb (width_in old.widths c.args.cell) (width_in old.widths c.in_ok-high.high + width_in old.widths c.in_ok-low.low)
    (width_in-grown before old c.args.cell grown (is_own-cell before c.args.cell c.requires.own) ∙ c.requires.size
    ∙ ap (λ n. n + c.args.part.now.width) (sym own.1)
    ∙ ap (λ n. width_in old.widths c.in_ok-high.high + n)
    (sym (width_in-grown placed old c.in_ok-low.low made.grown at.place.is_there ∙ at.place.width))))

pub returns-clause-awaits : goal.returns-clause-awaits
returns-clause-awaits c =
    let before : Program = program_of c.args.code.now in
    let placed : Program = program_of c.place.new.code in
    let old : Program = program_of c.temporary.new.self in
    let new : Program = program_of c.push.new.self in
    let at = c.in_ok-low.ensures in
    let made = c.in_ok-high.ensures in
    let pushed = c.in_ok-push.ensures in
    let own = new-own placed old c.args.left c.in_ok-high.high at.sound made.value made.number in
    let here : c.in_ok-high.high ≡ length placed.widths = made.number in
    AwaitsPart-pushed before placed old new c.args.part.now c.args.cell c.args.left c.in_ok-high.high c.in_ok-low.low
    c.requires.sound c.requires.own
    (record { place = at.place; fresh = at.fresh; grown = at.grown })
    made.grown (omega arith) own.0 own.1 c.requires.size
    (ap (λ (p : Program). p.instructions) made.value ∙ at.instructions)
    pushed.value pushed.sound pushed.grown

use Rattle.std.proofs.Common.{ℕ, List, ◌∙◌, sym, ap}
use Rattle.aiger_text.specs.Lines.{parts_of}
use Rattle.aiger_text.proofs.NumberSteps.{joined, joined-more, joined-stops}
use Rattle.aiger_text.proofs.numbers.read_numbers.Goals as goal

pub returns-in-None : goal.returns-in-None
returns-in-None c =
    c.loop-cut.invariant ∙ joined-stops c.loop-cut.numbers.items c.loop-cut.rest.now (parts_of c.in-Some.cut) c.in-Some.ensures.some (sym c.in-None.ensures)

pub loop-cut-preserved : goal.loop-cut-preserved
loop-cut-preserved c =
    let joined_to = λ (numbers : List ℕ). joined numbers c.in-Some.cut.back.now in
    c.loop-cut.invariant
    ∙ joined-more c.loop-cut.numbers.items c.loop-cut.rest.now (parts_of c.in-Some.cut) c.in-Some-number.number c.in-Some.ensures.some (sym c.in-Some-number.ensures)
    ∙ ap joined_to (sym c.in_ok-push-in-Some-number.ensures.items)

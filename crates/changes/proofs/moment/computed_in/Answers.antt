use Rattle.design_core.specs.declared.design.Design.{Design}
use Rattle.changes.specs.Execution.{executed}
use Rattle.changes.specs.Moments.{choice_in, values_in}
use Rattle.changes.specs.Reached.{reached}
use Rattle.changes.proofs.ExecutionLaws.{reached-computes}
use Rattle.changes.proofs.MomentLaws.{computed-is, computed-none}
use Rattle.changes.proofs.moment.computed_in.Goals as goal

pub returns-in-Some : goal.returns-in-Some
returns-in-Some c =
    let d : Design = c.args.moment.now.design.now in
    computed-is d c.args.place (executed d (choice_in c.args.moment.now)
    (values_in c.args.moment.now) c.args.place) c.in-Some.executed c.computes.result _
    (reached-computes d c.requires.order (choice_in c.args.moment.now)
    (values_in c.args.moment.now) c.args.place c.requires.well_formed c.requires.ordered)
    (rw c.in-Some.is at c.in_ok-executed.ensures) c.computes.ensures.width c.computes.ensures.value

pub returns-in-None : goal.returns-in-None
returns-in-None c =
    let d : Design = c.args.moment.now.design.now in
    computed-none d c.args.place (executed d (choice_in c.args.moment.now) (values_in c.args.moment.now) c.args.place) _
    (reached-computes d c.requires.order (choice_in c.args.moment.now)
    (values_in c.args.moment.now) c.args.place c.requires.well_formed c.requires.ordered)
    (rw c.in-None.is at c.in_ok-executed.ensures)

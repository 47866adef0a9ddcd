use Rattle.trail_core.proofs.Propagating.{forced_rests}
use Rattle.trail_core.proofs.watch.force_unit.Goals as goal

pub returns-in-Unit-clause-rests : goal.returns-in-Unit-clause-rests
returns-in-Unit-clause-rests c = λ _. forced_rests c.args.trail.now c.force.new.self c.in-Unit.l c.args.number c.in-Unit.ensures.reason c.force.ensures.after

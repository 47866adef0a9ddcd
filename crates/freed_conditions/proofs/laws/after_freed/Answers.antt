use Rattle.freed_conditions.proofs.AfterFreed.{after-goes}
use Rattle.freed_conditions.proofs.laws.after_freed.Goals as goal

pub returns : goal.returns
returns g c =
    after-goes g.of.signals g.of.choice g.of.next g.of.updates g.of.statement

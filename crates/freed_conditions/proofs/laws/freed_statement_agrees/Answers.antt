use Rattle.freed_conditions.proofs.AfterFreed.{after-follows}
use Rattle.freed_conditions.proofs.laws.freed_statement_agrees.Goals as goal

pub returns : goal.returns
returns g c =
    after-follows g.two.of.signals g.two.of.hidden g.two.of.places g.two.of.choice g.two.of.statement c.requires.0 g.two.of.next g.two.of.updates g.two.freed
    c.requires.1.0 c.requires.1.1

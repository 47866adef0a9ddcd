use Rattle.synth_parts.proofs.DriverSteps.{comb_made}
use Rattle.synth_parts.proofs.store.Left.driver.Goals as goal

pub returns-in-Comb-clause-ok : goal.returns-in-Comb-clause-ok
returns-in-Comb-clause-ok c =
    comb_made c.statement.result c.args.self.now.signals.now c.args.nodes.now c.statement.new.nodes c.args.both.now.current.now c.args.both.now.later.now c.statement.new.both.current.now c.statement.new.both.later.now
    c.in-Comb.body c.in-Comb.span c.args.driver.now c.in-Comb.is c.requires.same c.statement.ensures.ok

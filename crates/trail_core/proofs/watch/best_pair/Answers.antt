use Rattle.trail_core.proofs.Choosing.{settled_alone}
use Rattle.trail_core.proofs.watch.best_pair.Goals as goal

pub pair_with-requires-clause-first : goal.pair_with-requires-clause-first
pair_with-requires-clause-first c = c.in-Some.ensures

pub returns-in-None-clause-none : goal.returns-in-None-clause-none
returns-in-None-clause-none c = settled_alone c.args.trail.now c.args.number c.requires.trail c.requires.number c.requires.rests c.in-None.ensures

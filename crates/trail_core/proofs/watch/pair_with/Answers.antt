use Rattle.trail_core.proofs.Choosing.{may_watch, settled_single}
use Rattle.trail_core.proofs.watch.pair_with.Goals as goal

pub returns-in-None-clause-none : goal.returns-in-None-clause-none
returns-in-None-clause-none c = settled_single c.args.trail.now c.args.number c.args.first c.requires.trail c.requires.number c.requires.rests c.requires.free c.in-None.ensures

pub returns-in-Some-clause-found : goal.returns-in-Some-clause-found
returns-in-Some-clause-found c = may_watch c.args.trail.now c.args.number c.args.first c.in-Some.second c.requires.trail c.requires.number c.requires.rests c.requires.free c.requires.first c.in-Some.ensures

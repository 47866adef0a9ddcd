use Rattle.trace_laws.proofs.Joins.{passing-list}
use Rattle.trace_laws.proofs.laws.passing_trace.Goals as goal

pub returns : goal.returns
returns g c = passing-list g.of.design g.of.trace g.of.groups g.of.size g.of.choices c.requires

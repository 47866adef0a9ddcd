use Rattle.trace_laws.proofs.Joins.{join-list, list-join}
use Rattle.trace_laws.proofs.laws.list_by_trace.Goals as goal

pub returns-clause-join : goal.returns-clause-join
returns-clause-join g c join =
    join-list g.of.design g.of.traces g.of.groups g.of.size g.of.lists c.requires.0 c.requires.1 g.of.sets join

pub returns-clause-only : goal.returns-clause-only
returns-clause-only g c list =
    list-join g.of.design g.of.traces g.of.groups g.of.size g.of.lists c.requires.0 c.requires.1 g.of.sets list

use Rattle.trace_laws.proofs.Joins.{has_each-works, works-has_each}
use Rattle.trace_laws.proofs.laws.works_by_trace.Goals as goal

pub returns-clause-works : goal.returns-clause-works
returns-clause-works g c has =
    has_each-works g.one.of.design g.one.of.traces g.one.of.groups g.one.of.size g.one.of.lists c.requires.0 c.requires.1
    g.one.set has

pub returns-clause-only : goal.returns-clause-only
returns-clause-only g c suspects few works =
    works-has_each g.one.of.design g.one.of.traces g.one.of.groups g.one.of.size g.one.of.lists c.requires.0 c.requires.1
    g.one.set suspects few works

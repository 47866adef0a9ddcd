use Rattle.trail_core.proofs.Calls.{watching_same, well_watched, shorts_propagate, gives_number, gives_conflict, gives_rest}
use Rattle.trail_core.proofs.trail.Trail.propagate.Goals as goal

pub invariant_of-self : goal.invariant_of-self
invariant_of-self c = record { trail = c.watch.ensures.trail; well = well_watched c.watch.new.trail c.watch.new.watches c.flatten_first.new.shorts.fixed c.watch.result c.watch.ensures.gives; shorts = shorts_propagate c.self.inside.plain c.watch.new.trail c.flatten_first.new.shorts c.watch.ensures.appends (watching_same c.self.inside.plain c.self.inside.watches c.self.inside.shorts c.flatten_first.new.shorts c.self.invariant c.flatten_first.ensures).shorts; marked = c.watch.ensures.marked; due = c.watch.ensures.due }

pub returns-clause-falsified : goal.returns-clause-falsified
returns-clause-falsified c = gives_number c.watch.new.trail c.watch.new.watches c.flatten_first.new.shorts.fixed c.watch.result c.number_of.result c.number_of.ensures c.watch.ensures.gives

pub returns-clause-conflict : goal.returns-clause-conflict
returns-clause-conflict c = gives_conflict c.watch.new.trail c.watch.new.watches c.flatten_first.new.shorts.fixed c.watch.result c.number_of.result c.number_of.ensures c.watch.ensures.gives

pub returns-clause-rest : goal.returns-clause-rest
returns-clause-rest c = gives_rest c.watch.new.trail c.watch.new.watches c.flatten_first.new.shorts.fixed c.watch.result c.number_of.result c.number_of.ensures c.watch.ensures.gives

pub watch-requires-clause-shorts : goal.watch-requires-clause-shorts
watch-requires-clause-shorts c = (watching_same c.self.inside.plain c.self.inside.watches c.self.inside.shorts c.flatten_first.new.shorts c.self.invariant c.flatten_first.ensures).shorts

pub watch-requires-clause-due : goal.watch-requires-clause-due
watch-requires-clause-due c = (watching_same c.self.inside.plain c.self.inside.watches c.self.inside.shorts c.flatten_first.new.shorts c.self.invariant c.flatten_first.ensures).due

pub watch-requires-clause-marked : goal.watch-requires-clause-marked
watch-requires-clause-marked c = (watching_same c.self.inside.plain c.self.inside.watches c.self.inside.shorts c.flatten_first.new.shorts c.self.invariant c.flatten_first.ensures).marked

pub watch-requires-clause-well : goal.watch-requires-clause-well
watch-requires-clause-well c = (watching_same c.self.inside.plain c.self.inside.watches c.self.inside.shorts c.flatten_first.new.shorts c.self.invariant c.flatten_first.ensures).well

use Rattle.std.proofs.Common.{◌<◌, ◌∙◌, Some, ◌-◌, length, arith, refl, sym, not}
use Rattle.std.specs.Vec.{with_item}
use Rattle.trail_core.specs.declared.entry.Entry.{Entry}
use Rattle.trail_core.specs.declared.plain.PlainTrail.TheInside.{Inside}
use Rattle.trail_core.specs.Layout.{state_of}
use Rattle.trail_core.proofs.Changes.{MayAppend}
use Rattle.trail_core.proofs.LayoutLemmas.{AreStarts-push}
use Rattle.trail_core.proofs.Fields.{Appends, laid_out_after, trail_after, forced_at, room_seen}
use Rattle.trail_core.proofs.plain.PlainTrail.force.Goals as goal

pub unwrap-requires : goal.unwrap-requires
unwrap-requires c =
    let room : length c.self.inside.entries.items < length c.self.inside.assigned.items = room_seen c.self.inside c.args.self.now c.args.l c.self.view_is c.self.invariant c.requires.variable c.requires.reason.unit.unassigned in
    c.push.ensures.succeeds (omega (arith, room, c.self.inside.entries.ok.0, c.self.invariant.entry_room))

abbrev entry : (c : goal.After-unwrap) → Entry
entry c = record { lit = c.args.l; decision_level = c.len.result; reason = Some c.args.number }

may : (c : goal.After-unwrap) → MayAppend (state_of c.self.inside) record { lit = c.args.l; decision_level = c.len.result; reason = Some c.args.number }
may c = forced_at c.self.inside c.args.self.now c.args.l c.len.result c.args.number c.self.view_is c.self.invariant (c.len.ensures ∙ c.self.inside.starts.ok.0) c.requires.variable c.requires.reason

abbrev after : (c : goal.After-unwrap) → Inside
after c = record {
  clauses = c.self.inside.clauses;
  assigned = with_item c.self.inside.assigned (c.args.l.var - 1) (Some record { lit = c.args.l; decision_level = c.len.result; reason = Some c.args.number });
  values = with_item c.self.inside.values (c.args.l.var - 1) (Some (not c.args.l.negated));
  entries = c.push.new.self;
  starts = c.self.inside.starts;
}

appends : (c : goal.After-unwrap) → Appends c.self.inside (after c) record { lit = c.args.l; decision_level = c.len.result; reason = Some c.args.number }
appends c = record {
  clauses = refl;
  table = refl;
  values = refl;
  entries = rw c.unwrap.ensures at c.push.ensures.items;
  entry_room = c.push.ensures.capacity;
  start_room = omega arith;
  level = sym (c.len.ensures ∙ c.self.inside.starts.ok.0);
}

pub invariant_of-self : goal.invariant_of-self
invariant_of-self c =
    laid_out_after c.self.inside (after c) (entry c) c.self.invariant (appends c) (may c)
    (AreStarts-push c.self.inside.starts.items c.self.inside.entries.items (entry c) c.self.invariant.starts)

pub returns-clause-trail : goal.returns-clause-trail
returns-clause-trail c = trail_after c.self.inside (after c) (entry c) c.self.invariant (appends c) (may c)

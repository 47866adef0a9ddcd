use Rattle.std.proofs.Common.{◌≡◌, ◌<◌, ◌∙◌, Some, None, ◌+◌, ◌-◌, length, arith, refl, sym, not}
use Rattle.std.specs.Vec.{with_item, vec_len}
use Rattle.trail_core.specs.declared.entry.Entry.{Entry}
use Rattle.trail_core.specs.declared.plain.PlainTrail.TheInside.{Inside}
use Rattle.trail_core.specs.Layout.{state_of}
use Rattle.trail_core.proofs.Changes.{MayAppend}
use Rattle.trail_core.proofs.Fields.{Appends, laid_out_after, trail_after, decided_at, room_seen, level_le_length, starts_after}
use Rattle.trail_core.proofs.plain.PlainTrail.decide.Goals as goal

pub unwrap-requires : goal.unwrap-requires
unwrap-requires c =
    let room : length c.self.inside.entries.items < length c.self.inside.assigned.items = room_seen c.self.inside c.args.self.now c.args.l c.self.view_is c.self.invariant c.requires.variable c.requires.unassigned in
    c.push.ensures.succeeds (omega (arith, room, level_le_length c.self.inside c.self.invariant, c.self.inside.starts.ok.0, c.self.invariant.start_room))

pub overflow_cast-entry : goal.overflow_cast-entry
overflow_cast-entry c =
    let room : length c.self.inside.entries.items < length c.self.inside.assigned.items = room_seen c.self.inside c.args.self.now c.args.l c.self.view_is c.self.invariant c.requires.variable c.requires.unassigned in
    let p : vec_len c.push.new.self ≡ vec_len c.self.inside.starts + 1 = rw c.unwrap.ensures at c.push.ensures.len in
    omega (arith, c.len.ensures, p, room, level_le_length c.self.inside c.self.invariant, c.self.inside.starts.ok.0, c.self.invariant.small)

pub unwrap-requires-2 : goal.unwrap-requires-2
unwrap-requires-2 c =
    let room : length c.self.inside.entries.items < length c.self.inside.assigned.items = room_seen c.self.inside c.args.self.now c.args.l c.self.view_is c.self.invariant c.requires.variable c.requires.unassigned in
    c.push-2.ensures.succeeds (omega (arith, room, c.self.inside.entries.ok.0, c.self.invariant.entry_room))

level_is : (c : goal.After-unwrap-2) → c.len.result ≡ length c.self.inside.starts.items + 1
level_is c = let p : vec_len c.push.new.self ≡ vec_len c.self.inside.starts + 1 = rw c.unwrap.ensures at c.push.ensures.len in omega (arith, c.len.ensures, p, c.self.inside.starts.ok.0)

abbrev entry : (c : goal.After-unwrap-2) → Entry
entry c = record { lit = c.args.l; decision_level = c.len.result; reason = None }

may : (c : goal.After-unwrap-2) → MayAppend (state_of c.self.inside) record { lit = c.args.l; decision_level = c.len.result; reason = None }
may c = decided_at c.self.inside c.args.self.now c.args.l c.len.result c.self.view_is c.self.invariant (level_is c) c.requires.variable c.requires.unassigned c.requires.rest

abbrev after : (c : goal.After-unwrap-2) → Inside
after c = record {
  clauses = c.self.inside.clauses;
  assigned = with_item c.self.inside.assigned (c.args.l.var - 1) (Some record { lit = c.args.l; decision_level = c.len.result; reason = None });
  values = with_item c.self.inside.values (c.args.l.var - 1) (Some (not c.args.l.negated));
  entries = c.push-2.new.self;
  starts = c.push.new.self;
}

appends : (c : goal.After-unwrap-2) → Appends c.self.inside (after c) record { lit = c.args.l; decision_level = c.len.result; reason = None }
appends c = record {
  clauses = refl;
  table = refl;
  values = refl;
  entries = rw c.unwrap-2.ensures at c.push-2.ensures.items;
  entry_room = c.push-2.ensures.capacity;
  start_room = c.push.ensures.capacity;
  level = sym (c.len.ensures ∙ c.push.new.self.ok.0);
}

pub invariant_of-self : goal.invariant_of-self
invariant_of-self c =
    laid_out_after c.self.inside (after c) (entry c) c.self.invariant (appends c) (may c)
    (starts_after c.self.inside (entry c) c.push.new.self.items c.len-start.result c.self.invariant refl (c.len-start.ensures ∙ c.self.inside.entries.ok.0) (rw c.unwrap.ensures at c.push.ensures.items))

pub returns-clause-trail : goal.returns-clause-trail
returns-clause-trail c = trail_after c.self.inside (after c) (entry c) c.self.invariant (appends c) (may c)

use Rattle.std.proofs.Common.{ap, ◌<◌, ◌+◌, ◌^◌, length, subst, sym, arith}
use Rattle.std.proofs.lemmas.List.{length_push}
use Rattle.trail_core.specs.Layout.{state_of}
use Rattle.trail_core.specs.TrailState.{IsTrail, TrailState}
use Rattle.trail_core.proofs.Changes.{IsTrail-added}
use Rattle.trail_core.proofs.plain.PlainTrail.add_clause.Goals as goal

added : (c : goal.After-len) → IsTrail record { vars = (state_of c.self.inside).vars; clauses = c.push.new.self; entries = c.self.inside.entries.items; level = (state_of c.self.inside).level }
added c =
    IsTrail-added (state_of c.self.inside) c.args.self.now c.push.new.self c.args.literals.now c.self.view_is c.self.invariant.trail c.requires.within c.requires.distinct c.requires.may c.in_ok-push.ensures.ok

few : (c : goal.After-len) → length c.push.new.self < 2 ^ 32
few c = let small : length c.self.inside.clauses + 1 < 2 ^ 32 = subst (λ (s : TrailState). length s.clauses + 1 < 2 ^ 32) (sym c.self.view_is) c.requires.clauses_fit in
    omega (arith, small, ap length c.in_ok-push.ensures.ok, length_push c.self.inside.clauses c.args.literals.now)

pub invariant_of-self-2 : goal.invariant_of-self-2
invariant_of-self-2 c = record {
  trail = added c;
  index = c.self.invariant.index;
  values = c.self.invariant.values;
  value_size = c.self.invariant.value_size;
  counted = c.self.invariant.counted;
  starts = c.self.invariant.starts;
  small = c.self.invariant.small;
  few_clauses = few c;
  entry_room = c.self.invariant.entry_room;
  start_room = c.self.invariant.start_room;
}

pub returns-clause-trail : goal.returns-clause-trail
returns-clause-trail c = added c

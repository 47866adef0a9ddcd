use Rattle.std.proofs.Common.{◌≡◌, ◌<◌, ◌∙◌, length, ap, sym, subst, refl, arith}
use Rattle.std.proofs.lemmas.List.{get_or_default}
use Rattle.trail_core.specs.declared.plain.PlainTrail.TheInside.{Inside}
use Rattle.trail_core.specs.TrailState.{TrailState, IsTrail, back_at}
use Rattle.trail_core.proofs.Back.{back_at_same}
use Rattle.trail_core.proofs.BackFields.{GoesBack, state_back, trail_back, laid_out_back}
use Rattle.trail_core.proofs.plain.PlainTrail.back_to.Goals as goal

abbrev after : (c : goal.After-truncate) → Inside
after c = record { clauses = c.self.inside.clauses; assigned = c.shorten.new.assigned; values = c.shorten.new.values; entries = c.shorten.new.entries; starts = c.truncate.new.self }

goes_back : (c : goal.After-truncate) → GoesBack c.self.inside (after c) c.args.level c.index.result.now
goes_back c =
    let below : c.args.level < length c.self.inside.starts.items = omega (arith, c.if-level-len.true, c.len.ensures, c.self.inside.starts.ok.0) in
    record {
      below = below;
      start = c.index.ensures ∙ get_or_default c.self.inside.starts.items c.args.level c.index.result.now 0 below;
      clauses = refl;
      entries = c.shorten.ensures.kept;
      starts = c.truncate.ensures.items;
      size = c.shorten.ensures.size;
      index = c.shorten.ensures.index;
      counted = c.shorten.ensures.counted;
      values = c.shorten.ensures.values;
      value_size = c.shorten.ensures.value_size;
      entry_room = c.shorten.ensures.capacity;
      start_room = c.truncate.ensures.capacity;
    }

pub invariant_of-self : goal.invariant_of-self
invariant_of-self c = laid_out_back c.self.inside (after c) c.args.level c.index.result.now c.self.invariant (goes_back c)

pub returns-then-level-len-clause-after : goal.returns-then-level-len-clause-after
returns-then-level-len-clause-after c =
    state_back c.self.inside (after c) c.args.level c.index.result.now c.self.invariant (goes_back c) ∙ ap (λ s. back_at s c.args.level) c.self.view_is

pub returns-then-level-len-clause-trail : goal.returns-then-level-len-clause-trail
returns-then-level-len-clause-trail c = trail_back c.self.inside (after c) c.args.level c.index.result.now c.self.invariant (goes_back c)

pub returns-else-level-len-clause-after : goal.returns-else-level-len-clause-after
returns-else-level-len-clause-after c =
    let level : length c.self.inside.starts.items ≡ c.args.self.now.level = ap (λ (s : TrailState). s.level) c.self.view_is in
    sym (back_at_same c.args.self.now c.args.level (subst IsTrail c.self.view_is c.self.invariant.trail) (omega (arith, c.if-level-len.false, c.len.ensures, c.self.inside.starts.ok.0, level, c.requires)))

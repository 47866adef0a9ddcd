use Rattle.std.proofs.Common.{◌∙◌, refl, sym, ap}
use Rattle.trail_core.specs.TrailState.{TrailState}
use Rattle.sat_core.specs.Engines.{step}
use Rattle.sat_core.proofs.EngineLemmas.{LearnsStep-from, on_ok_at, on_err_from, last_learned, may_add, may_add_from, lower_from, trail_after}
use Rattle.sat_core.proofs.engine.Engine.learn.Goals as goal

pub add_clause-requires-clause-may : goal.add_clause-requires-clause-may
add_clause-requires-clause-may c =
    may_add c.args.self.now.trail c.back_to.new.self c.level_from-level.result c.learn-learned.new.self.literals.items c.clause.result.now c.back_to.ensures.after (last_learned c.args.log.now c.record-recorded.new.log c.learn-learned.new.self.literals.items c.learn-learned.new.self.chain.items c.len.result c.clause.result.now c.in_ok-recorded.ensures.ok c.len.ensures.value c.clause.ensures.value)
    (may_add_from c.args.self.now.trail c.lower_level-asserting.result c.level_from-level.result c.learn-learned.new.self.literals.items c.level_from-level.ensures c.lower_level-asserting.ensures.may)

pub returns-in_err-add_clause-clause-err : goal.returns-in_err-add_clause-clause-err
returns-in_err-add_clause-clause-err c =
    let learns = on_ok_at c.learn-learned.result _ (sym c.is_err.ensures.value ∙ c.if-is_err.false) c.learn-learned.ensures.learns in
    on_err_from c.from_residual-in_err-add_clause.result _
    (step c.learn-learned.new.self.literals.items c.learn-learned.new.self.chain.items
    (ap (λ (s : TrailState). s.clauses) (c.in_err-add_clause.ensures.err ∙ c.back_to.ensures.after)) refl
    (LearnsStep-from c.args.self.now.trail c.learn-learned.new.self.marked.items c.learn-learned.new.self.literals.items c.learn-learned.new.self.chain.items c.args.log.now c.record-recorded.new.log c.requires.fit.trail c.requires.level learns c.in_ok-recorded.ensures.ok)
    c.take.ensures)

pub returns-clause-ok : goal.returns-clause-ok
returns-clause-ok c =
    let learns = on_ok_at c.learn-learned.result _ (sym c.is_err.ensures.value ∙ c.if-is_err.false) c.learn-learned.ensures.learns in
    record {
      literals = c.learn-learned.new.self.literals.items;
      chain = c.learn-learned.new.self.chain.items;
      learns = LearnsStep-from c.args.self.now.trail c.learn-learned.new.self.marked.items c.learn-learned.new.self.literals.items c.learn-learned.new.self.chain.items c.args.log.now c.record-recorded.new.log c.requires.fit.trail c.requires.level learns c.in_ok-recorded.ensures.ok;
      level = c.level_from-level.result;
      lower = lower_from c.lower_level-asserting.result c.level_from-level.result c.args.self.now.trail.level c.level_from-level.ensures c.lower_level-asserting.ensures.below;
      trail = trail_after c.args.self.now.trail c.back_to.new.self c.add_clause.new.self c.level_from-level.result c.learn-learned.new.self.literals.items c.clause.result.now c.back_to.ensures.after (last_learned c.args.log.now c.record-recorded.new.log c.learn-learned.new.self.literals.items c.learn-learned.new.self.chain.items c.len.result c.clause.result.now c.in_ok-recorded.ensures.ok c.len.ensures.value c.clause.ensures.value) c.in_ok-add_clause.ensures.ok;
      chosen = c.truncate.ensures.items;
      known = refl;
    }

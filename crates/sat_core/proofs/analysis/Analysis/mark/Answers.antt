use Rattle.std.proofs.Common.{◌∙◌, ◌-◌, ◌+◌, ◌<◌, ◌^◌, arith, true, set, sym, subst}
use Rattle.sat_core.specs.declared.analysis.Analysis.{Analysis}
use Rattle.sat_core.specs.Derivation.{Tracks}
use Rattle.sat_core.proofs.Tracking.{Tracks-present, Tracks-pushed, present_fits, is_present-false, level_yes, level_no}
use Rattle.sat_core.proofs.analysis.Analysis.mark.Goals as goal
use Rattle.sat_core.proofs.analysis.Analysis.mark.Goals.{then-eq, else-eq+in_ok-push-2}

pub overflow_add-self : goal.overflow_add-self
overflow_add-self c =
    let fits : c.args.self.now.present + 1 < 2 ^ 32 = present_fits c.args.trail.now c.args.self.now.marked.items c.args.self.now.present c.args.l.var c.requires.trail c.requires.tracks.size c.requires.tracks.count c.requires.variable c.requires.unmarked
    (level_yes _ c.level_of.result c.level.result c.args.trail.now.level c.level_of.ensures c.level.ensures (sym c.eq.ensures ∙ c.if-eq.true)) in
    omega (arith, fits)

pub returns-clause-tracks : goal.returns-clause-tracks
returns-clause-tracks c =
    let goal_at = λ (s : Analysis). Tracks c.args.trail.now (set s.marked.items (c.args.l.var - 1) true) s.literals.items s.present in
    elim c.if-eq.branch [
      | then-eq w ↦ subst goal_at (sym w.self-is)
          (Tracks-present c.args.trail.now c.args.self.now.marked.items c.args.self.now.literals.items c.args.self.now.present c.args.l c.requires.trail c.requires.tracks c.requires.variable c.requires.falsified c.requires.unmarked
          (level_yes _ c.level_of.result c.level.result c.args.trail.now.level c.level_of.ensures c.level.ensures (sym c.eq.ensures ∙ w.if-eq.true)))
      | else-eq+in_ok-push-2 w ↦ subst goal_at (sym w.self-is)
          (Tracks-pushed c.args.trail.now c.args.self.now.marked.items c.args.self.now.literals.items w.push-else-eq.new.self.items c.args.self.now.present c.args.l c.requires.trail c.requires.tracks c.requires.variable c.requires.falsified c.requires.unmarked
          (is_present-false c.args.trail.now c.args.l.var (level_no _ c.level_of.result c.level.result c.args.trail.now.level c.level_of.ensures c.level.ensures (sym c.eq.ensures ∙ w.if-eq.false))) w.in_ok-push-2.ensures.items)
    ]

use Rattle.std.proofs.Common.{◌∙◌, ◌++◌, ◌∷◌, [], sym, subst, ap}
use Rattle.sat_core.specs.Derivation.{MarksOthers, Tracks}
use Rattle.sat_core.proofs.Shrinking.{only_left}
use Rattle.sat_core.proofs.Learning.{Tracks-clean, Resolved-start, Learns-from}
use Rattle.sat_core.proofs.analysis.Analysis.learn.Goals as goal

pub take_in-requires-clause-tracks : goal.take_in-requires-clause-tracks
take_in-requires-clause-tracks c =
    subst (λ ls. Tracks c.args.trail.now c.args.self.now.marked.items ls c.args.self.now.present) (sym c.requires.empty.literals)
    (Tracks-clean c.args.trail.now c.args.self.now.marked.items c.args.self.now.present c.requires.size c.requires.empty.clean c.requires.empty.present)

pub descend-requires-clause-resolved : goal.descend-requires-clause-resolved
descend-requires-clause-resolved c =
    Resolved-start c.args.trail.now c.args.self.now.marked.items c.take_in.new.self.marked.items c.take_in.new.self.literals.items c.take_in.new.self.chain.items c.take_in.new.self.present c.args.conflict
    c.requires.trail c.requires.level c.requires.number c.requires.conflict c.requires.size c.requires.empty.clean
    (subst (λ ls. MarksOthers c.args.self.now.marked.items c.take_in.new.self.marked.items ls 0) c.clause.ensures.value c.in_ok-take_in.ensures.marks)
    c.in_ok-take_in.ensures.tracks
    (ap (λ v. v.items) c.in_ok-take_in.ensures.chain ∙ (c.in_ok-push.ensures.items ∙ ap (λ ns. ns ++ c.args.conflict ∷ []) c.requires.empty.chain))

pub returns-clause-learns : goal.returns-clause-learns
returns-clause-learns c =
    Learns-from c.args.trail.now c.shrink.new.self.marked.items c.shrink.new.self.literals.items c.push-2.new.self.items c.shrink.new.self.chain.items c.shrink.new.self.present c.last_marked-last.result
    c.requires.trail c.in_ok-shrink.ensures.tracks c.in_ok-shrink.ensures.derives
    (only_left c.args.trail.now c.descend.new.self.marked.items c.shrink.new.self.marked.items c.last_marked-last.result c.requires.trail c.last_marked-last.ensures c.in_ok-shrink.ensures.leaves)
    (c.in_ok-push-2.ensures.items ∙ ap (λ l. c.shrink.new.self.literals.items ++ l ∷ []) c.opposite.ensures)

use Rattle.std.proofs.Common.{◌∙◌, ◌++◌, ◌∷◌, [], ap}
use Rattle.sat_core.proofs.Denying.{Starts-reason, reason_number}
use Rattle.sat_core.proofs.analysis.Analysis.contradict.Goals as goal

pub begin-requires-clause-number : goal.begin-requires-clause-number
begin-requires-clause-number c = reason_number c.args.trail.now c.args.l.var c.args.reason c.requires.trail c.requires.reason

pub finish-requires-clause-starts : goal.finish-requires-clause-starts
finish-requires-clause-starts c =
    Starts-reason c.args.trail.now c.args.self.now.marked.items c.begin.new.self.marked.items c.begin.new.self.literals.items c.begin.new.self.chain.items c.args.l c.args.reason c.requires.trail c.requires.size c.requires.empty.clean c.requires.truth c.requires.reason c.in_ok-begin.ensures.marks
    (ap (λ v. v.items) c.begin.ensures.literals ∙ (c.in_ok-push.ensures.items ∙ ap (λ ls. ls ++ c.args.l ∷ []) c.requires.empty.literals))
    (c.in_ok-begin.ensures.chain ∙ ap (λ ns. ns ++ c.args.reason ∷ []) c.requires.empty.chain)

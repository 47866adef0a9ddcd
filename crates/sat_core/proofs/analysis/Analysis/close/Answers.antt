use Rattle.std.proofs.Common.{◌∙◌, ◌++◌, ◌∷◌, [], ap}
use Rattle.sat_core.proofs.Denying.{Starts-falsified}
use Rattle.sat_core.proofs.analysis.Analysis.close.Goals as goal

pub finish-requires-clause-starts : goal.finish-requires-clause-starts
finish-requires-clause-starts c =
    Starts-falsified c.args.trail.now c.args.self.now.marked.items c.begin.new.self.marked.items c.begin.new.self.literals.items c.begin.new.self.chain.items c.args.conflict c.requires.trail c.requires.size c.requires.empty.clean c.requires.number c.requires.conflict c.in_ok-begin.ensures.marks
    (ap (λ v. v.items) c.begin.ensures.literals ∙ c.requires.empty.literals)
    (c.in_ok-begin.ensures.chain ∙ ap (λ ns. ns ++ c.args.conflict ∷ []) c.requires.empty.chain)

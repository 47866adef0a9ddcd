use Rattle.std.proofs.Common.{◌∷◌, []}
use Rattle.sat_core.proofs.Explaining.{denies_step}
use Rattle.sat_core.proofs.explain.explain.Goals as goal

pub returns-clause-denies : goal.returns-clause-denies
returns-clause-denies c = denies_step c.args.trail.now (c.args.l ∷ []) c.contradict.new.self.literals.items c.contradict.new.self.chain.items c.derived.result c.in_ok-contradict.ensures.denies c.derived.ensures.clause c.derived.ensures.chain

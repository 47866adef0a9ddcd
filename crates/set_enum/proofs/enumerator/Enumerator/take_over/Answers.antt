use Rattle.std.proofs.Common.{◌∷◌, [], sym, subst}
use Rattle.clause_base.specs.Steps.{step_at}
use Rattle.set_enum.specs.EnumState.{MayBeTakenOver}
use Rattle.set_enum.specs.Standing.{IsStanding}
use Rattle.set_enum.proofs.Advancing.{stands_taken}
use Rattle.set_enum.proofs.enumerator.Enumerator.take_over.Goals as goal

stands : (c : goal.After-take_over) → IsStanding c.self.inside.n c.self.inside.k c.self.inside.size c.self.inside.found c.take_over.new.self
stands c =
    stands_taken _ _ _ _ _ _ (step_at c.args.log.now c.args.place) c.take_over.result c.self.invariant
    (subst (λ s. MayBeTakenOver s (step_at c.args.log.now c.args.place)) (sym c.self.view_is) c.requires.may) c.take_over.ensures.solver
    c.take_over.ensures.ok c.take_over.ensures.err

pub invariant_of-self : goal.invariant_of-self
invariant_of-self c = stands c

pub returns-clause-holds : goal.returns-clause-holds
returns-clause-holds c = (stands c).holds

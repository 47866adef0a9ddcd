use Rattle.std.proofs.Common.{ap, subst, sym}
use Rattle.clause_base.specs.Literal.{IsWithin}
use Rattle.set_enum.specs.EnumState.{EnumState}
use Rattle.set_enum.specs.Standing.{IsStanding}
use Rattle.set_enum.proofs.Advancing.{settled, stands_untold}
use Rattle.set_enum.proofs.enumerator.Enumerator.settle.Goals as goal

stands : (c : goal.After-settle) → IsStanding c.self.inside.n c.self.inside.k c.self.inside.size c.self.inside.found c.settle.new.self
stands c = stands_untold _ _ _ _ _ _ c.self.invariant c.settle.ensures.solver c.settle.ensures.same

pub invariant_of-self : goal.invariant_of-self
invariant_of-self c = stands c

pub returns-clause-same : goal.returns-clause-same
returns-clause-same c = settled _ _ _ _ _ _ c.args.self.now c.self.view_is c.settle.ensures.same

pub returns-clause-holds : goal.returns-clause-holds
returns-clause-holds c = (stands c).holds

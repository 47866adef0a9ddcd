use Rattle.std.proofs.Common.{sym, subst}
use Rattle.set_enum.specs.EnumState.{MayBeImported}
use Rattle.set_enum.specs.Standing.{IsStanding}
use Rattle.set_enum.proofs.Advancing.{stands_imported}
use Rattle.set_enum.proofs.enumerator.Enumerator.import.Goals as goal

stands : (c : goal.After-import) → IsStanding c.self.inside.n c.self.inside.k c.self.inside.size c.self.inside.found c.import.new.self
stands c =
    stands_imported _ _ _ _ _ _ c.args.log.now c.import.result c.self.invariant
    (subst (λ s. MayBeImported s c.args.log.now) (sym c.self.view_is) c.requires) c.import.ensures.solver c.import.ensures.ok
    c.import.ensures.err

pub invariant_of-self : goal.invariant_of-self
invariant_of-self c = stands c

pub returns-clause-holds : goal.returns-clause-holds
returns-clause-holds c = (stands c).holds

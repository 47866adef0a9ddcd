use Rattle.std.proofs.Common.{◌∙◌, false, ap, sym, subst}
use Rattle.std.specs.Prelude.{IsSome}
use Rattle.clause_base.specs.Literal.{IsWithin}
use Rattle.sat_core.specs.SolverState.{assignment_of}
use Rattle.set_enum.specs.Sets.{block_of, selected}
use Rattle.set_enum.specs.Standing.{IsStanding}
use Rattle.set_enum.proofs.Selecting.{selected-IsSetOf}
use Rattle.set_enum.proofs.Advancing.{block_within, found_where_waits, stands_blocked}
use Rattle.set_enum.proofs.enumerator.Enumerator.block.Goals as goal

pub add_block-requires : goal.add_block-requires
add_block-requires c = record {
  within = subst (IsWithin c.self.inside.solver.vars) (sym c.in_ok-block.ensures)
      (block_within c.self.inside.n c.self.inside.k c.self.inside.solver.vars
      (selected c.self.inside.n (assignment_of c.model.result.now))
      c.self.invariant.holds.counter.within (selected-IsSetOf c.self.inside.n (assignment_of c.model.result.now)));
}

stands : (c : goal.Joined-block-2) → IsStanding c.self.inside.n c.self.inside.k c.self.inside.size false c.add_block.new.self
stands c =
    stands_blocked _ _ _ _ _ _ c.in_ok-block.block c.self.invariant
    (found_where_waits c.self.inside.n c.self.inside.found c.self.inside.solver.model
    (subst (λ s. IsSome s.last) (sym c.self.view_is) c.requires))
    c.add_block.ensures.solver (c.in_ok-block.ensures ∙ ap (λ model. block_of (selected c.self.inside.n (assignment_of model)))
    c.model.ensures.value) c.in_ok-add_block.ensures.ok

pub invariant_of-self-2 : goal.invariant_of-self-2
invariant_of-self-2 c = stands c

pub returns-clause-holds : goal.returns-clause-holds
returns-clause-holds c = (stands c).holds

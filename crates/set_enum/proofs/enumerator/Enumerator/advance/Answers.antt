use Rattle.std.proofs.Common.{◌≡◌, ◌-◌, ◌<◌, true, false, length, sym, ◌∙◌, ap, subst, arith}
use Rattle.std.specs.Prelude.{option_to_list}
use Rattle.clause_base.specs.Steps.{step_at}
use Rattle.sat_core.specs.SolverState.{IsGreatestModel, assignment_of}
use Rattle.sat_core.specs.Outcome.{IsRefuted, Searches}
use Rattle.set_enum.specs.Sets.{selected}
use Rattle.set_enum.specs.Outcome.{Adds, GivesSet}
use Rattle.set_enum.specs.Standing.{assumed, next_size, state_of}
use Rattle.set_enum.proofs.Advancing.{selectors_fit, stands_after, stands_unwaited, stands_closed, adds_closed, gives_set, few_members}
use Rattle.set_enum.proofs.Advancing.{open_of, model_says, model_told, told_after, closed_says, closed_searches}
use Rattle.set_enum.proofs.Keeping.{told_of_none}
use Rattle.set_enum.proofs.enumerator.Enumerator.advance.Goals as goal

pub assumption-assumption-requires-clause-small : goal.assumption-assumption-requires-clause-small
assumption-assumption-requires-clause-small c =
    selectors_fit c.self.inside.n c.self.inside.k c.self.inside.solver.vars c.self.invariant.holds.counter.within
    c.self.invariant.holds.small

pub invariant_of-self : goal.invariant_of-self
invariant_of-self c = stands_unwaited _ _ _ _ _ c.self.invariant

pub invariant_of-self-in_err-solve_under : goal.invariant_of-self-in_err-solve_under
invariant_of-self-in_err-solve_under c =
    stands_after _ _ _ _ false _ _ _ _ _ c.self.invariant (open_of _ _ c.self.view_is c.requires.open_size) c.solve_under.ensures.searches
    c.solve_under.ensures.solver (told_of_none c.self.inside.n c.self.inside.k c.self.inside.size c.solve_under.new.solver)

pub returns-in_err-solve_under-clause-holds : goal.returns-in_err-solve_under-clause-holds
returns-in_err-solve_under-clause-holds c = (invariant_of-self-in_err-solve_under c).holds

pub members_of-members-requires-clause-enough : goal.members_of-members-requires-clause-enough
members_of-members-requires-clause-enough c =
    let greatest : (0 < c.solve_under.new.budget) × IsGreatestModel c.solve_under.new.solver
    (assumed c.self.inside.n c.self.inside.k c.self.inside.size) =
    model_says c.solve_under.new.solver (option_to_list c.assumption-assumption.result)
    (assumed c.self.inside.n c.self.inside.k c.self.inside.size) c.solve_under.new.budget c.in_ok-solve_under.field-0
    c.assumption-assumption.ensures c.in-Model.is c.in_ok-solve_under.ensures.says in
    omega (
      arith,
      c.in_ok-room.ensures.capacity,
      ap (λ model. length (selected c.self.inside.n (assignment_of model))) c.model.ensures.value,
      few_members c.self.inside.n c.self.inside.k c.self.inside.size c.self.inside.found c.self.inside.solver c.solve_under.new.solver
          c.args.budget.now c.solve_under.new.budget _
          c.self.invariant (open_of _ _ c.self.view_is c.requires.open_size) c.solve_under.ensures.searches c.solve_under.ensures.solver
          greatest.1,
    )

pub invariant_of-self-in-Model : goal.invariant_of-self-in-Model
invariant_of-self-in-Model c =
    let greatest =
    model_says c.solve_under.new.solver (option_to_list c.assumption-assumption.result)
    (assumed c.self.inside.n c.self.inside.k c.self.inside.size) c.solve_under.new.budget c.in_ok-solve_under.field-0
    c.assumption-assumption.ensures c.in-Model.is c.in_ok-solve_under.ensures.says in
    let told =
    model_told (assumed c.self.inside.n c.self.inside.k c.self.inside.size) (option_to_list c.assumption-assumption.result)
    c.solve_under.new.solver.told c.solve_under.result c.in_ok-solve_under.field-0 c.solve_under.ensures.told c.assumption-assumption.ensures
    c.in_ok-solve_under.was c.in-Model.is in
    stands_after _ _ _ _ true _ _ _ _ _ c.self.invariant (open_of _ _ c.self.view_is c.requires.open_size) c.solve_under.ensures.searches
    c.solve_under.ensures.solver
    (told_after _ _ _ _ _ _ _ _ _ c.self.invariant (open_of _ _ c.self.view_is c.requires.open_size) c.solve_under.ensures.searches
    c.solve_under.ensures.solver greatest.1 told)

refuted : (c : goal.After-drop-room-in-Closed-1)
    → (0 < c.solve_under.new.budget) × IsRefuted c.solve_under.new.solver.log c.in-Closed.step
    (assumed c.self.inside.n c.self.inside.k c.self.inside.size)
refuted c =
    closed_says c.solve_under.new.solver (option_to_list c.assumption-assumption.result)
    (assumed c.self.inside.n c.self.inside.k c.self.inside.size) c.solve_under.new.budget c.in-Closed.step c.in_ok-solve_under.field-0
    c.assumption-assumption.ensures c.in-Closed.is c.in_ok-solve_under.ensures.says

searches : (c : goal.After-drop-room-in-Closed-1)
    → Searches c.self.inside.solver c.solve_under.new.solver c.args.budget.now c.solve_under.new.budget 1
searches c = closed_searches c.self.inside.solver c.solve_under.new.solver c.args.budget.now c.solve_under.new.budget c.in-Closed.step
    c.in_ok-solve_under.field-0 c.in-Closed.is c.in_ok-solve_under.ensures.searches

size_is : (c : goal.After-drop-room-in-Closed-1)
    → c.size_after-self-inside.result ≡ next_size c.self.inside.k c.self.inside.size
    (step_at c.solve_under.new.solver.log (length c.solve_under.new.solver.log - 1)).clause
size_is c = c.size_after-self-inside.ensures ∙ ap (λ log. next_size c.self.inside.k c.self.inside.size
    (step_at log (length log - 1)).clause) c.log.ensures.value

pub invariant_of-self-in-Closed-1 : goal.invariant_of-self-in-Closed-1
invariant_of-self-in-Closed-1 c =
    stands_closed _ _ _ _ _ _ _ _ _ c.self.invariant (open_of _ _ c.self.view_is c.requires.open_size) (searches c)
    c.solve_under.ensures.solver (refuted c).1 c.size_after-self-inside.result (size_is c)

pub invariant_of-self-in-Spent-1 : goal.invariant_of-self-in-Spent-1
invariant_of-self-in-Spent-1 c =
    stands_after _ _ _ _ false _ _ _ _ _ c.self.invariant (open_of _ _ c.self.view_is c.requires.open_size) c.solve_under.ensures.searches
    c.solve_under.ensures.solver (told_of_none c.self.inside.n c.self.inside.k c.self.inside.size c.solve_under.new.solver)

pub returns-in-Model-clause-holds : goal.returns-in-Model-clause-holds
returns-in-Model-clause-holds c = (invariant_of-self-in-Model c).holds

pub returns-in-Closed-clause-holds : goal.returns-in-Closed-clause-holds
returns-in-Closed-clause-holds c = (invariant_of-self-in-Closed-1 c).holds

pub returns-in-Spent-clause-holds : goal.returns-in-Spent-clause-holds
returns-in-Spent-clause-holds c = (invariant_of-self-in-Spent-1 c).holds

pub returns-in-Model-clause-gives : goal.returns-in-Model-clause-gives
returns-in-Model-clause-gives c =
    let greatest =
    model_says c.solve_under.new.solver (option_to_list c.assumption-assumption.result)
    (assumed c.self.inside.n c.self.inside.k c.self.inside.size) c.solve_under.new.budget c.in_ok-solve_under.field-0
    c.assumption-assumption.ensures c.in-Model.is c.in_ok-solve_under.ensures.says in
    let told =
    model_told (assumed c.self.inside.n c.self.inside.k c.self.inside.size) (option_to_list c.assumption-assumption.result)
    c.solve_under.new.solver.told c.solve_under.result c.in_ok-solve_under.field-0 c.solve_under.ensures.told c.assumption-assumption.ensures
    c.in_ok-solve_under.was c.in-Model.is in (
      ap (λ s. s.size) c.self.view_is,
      (
        greatest.0,
        subst (GivesSet (state_of c.self.inside.n c.self.inside.k c.self.inside.size true c.solve_under.new.solver))
            (sym (c.members_of-members.ensures ∙ ap (λ model. selected c.self.inside.n (assignment_of model)) c.model.ensures.value))
            (gives_set c.self.inside.n c.self.inside.k c.self.inside.size c.self.inside.found c.self.inside.solver
            c.solve_under.new.solver c.args.budget.now c.solve_under.new.budget _
            c.self.invariant (open_of _ _ c.self.view_is c.requires.open_size) c.solve_under.ensures.searches c.solve_under.ensures.solver
            greatest.1 told),
      ),
    )

pub returns-in-Closed-clause-adds : goal.returns-in-Closed-clause-adds
returns-in-Closed-clause-adds c =
    subst (λ s. Adds s (state_of c.self.inside.n c.self.inside.k c.size_after-self-inside.result false c.solve_under.new.solver)
    c.args.budget.now c.solve_under.new.budget) c.self.view_is
    (adds_closed _ _ _ _ _ _ _ _ _ c.self.invariant (open_of _ _ c.self.view_is c.requires.open_size) (searches c)
    c.solve_under.ensures.solver (refuted c).1 c.size_after-self-inside.result false c.solve_under.ensures.learned (size_is c))

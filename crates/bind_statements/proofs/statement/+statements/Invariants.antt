use Rattle.std.proofs.Common.{◌≡◌, [], map, drop}
use Rattle.v_hierarchy.specs.Views.{steps_of, arm_of, turn_of, step_list_of, arms_of, turns_of}
use Rattle.v_binding.specs.Statements.{nothing_chosen, bound_all, bound_turns, bound_arms}
use Rattle.v_binding.specs.Seen.{names_in}
use Rattle.v_binding.specs.Homes.{home_of}
use Rattle.bind_statements.specs.Arms.{chosen_of}
use Rattle.bind_statements.specs.Contexts.{context_of}
use Rattle.v_binding.specs.Turns.{AllFit, ArmsFit, TurnsFit}
use Rattle.bind_statements.proofs.statement.+statements.Given as goal

abbrev pub invariant-block-loop-step : goal.invariant-block-loop-step
invariant-block-loop-step l = record {
  same : names_in l.names ≡ names_in l.fn.names;
  fit : AllFit (step_list_of (map steps_of (drop l.step-index l.steps)));
  bound : bound_all (home_of l.home) (names_in l.fn.names) (step_list_of (map steps_of (drop l.step-index l.steps))) l.done l.places
      ≡ bound_all (home_of l.home) (names_in l.fn.names) (step_list_of (map steps_of l.steps)) [] l.fn.places;
}

abbrev pub invariant-turns-loop-one : goal.invariant-turns-loop-one
invariant-turns-loop-one l = record {
  same : names_in l.names ≡ names_in l.fn.names;
  fit : TurnsFit (turns_of (map turn_of (drop l.one-index l.turns)));
  bound : bound_turns (home_of l.at.home) (names_in l.fn.names) l.at.variable.now (turns_of (map turn_of (drop l.one-index l.turns))) l.done l.places
      ≡ bound_turns (home_of l.at.home) (names_in l.fn.names) l.at.variable.now (turns_of (map turn_of l.turns)) [] l.fn.places;
}

abbrev pub invariant-arms-loop-one : goal.invariant-arms-loop-one
invariant-arms-loop-one l = record {
  same : names_in l.names ≡ names_in l.fn.names;
  fit : ArmsFit (arms_of (map arm_of (drop l.one-index l.arms)));
  bound : bound_arms (home_of l.case.home) (names_in l.fn.names) (context_of l.case.context) (arms_of (map arm_of (drop l.one-index l.arms))) (chosen_of l.chosen) l.places
      ≡ bound_arms (home_of l.case.home) (names_in l.fn.names) (context_of l.case.context) (arms_of (map arm_of l.arms)) nothing_chosen l.fn.places;
}

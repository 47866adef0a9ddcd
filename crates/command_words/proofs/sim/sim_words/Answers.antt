use Rattle.std.proofs.Common.{rules, ◌≡◌, true, subst, sym}
use Rattle.command_words.specs.Sim.{IsSimAsked, are_sim_names}
use Rattle.command_words.specs.Views.{sim_values}
use Rattle.command_words.proofs.SimHolding.{sim-holds}
use Rattle.command_words.proofs.sim.sim_words.Goals as goal

pub returns-clause-holds : goal.returns-clause-holds
returns-clause-holds c =
    let names : are_sim_names (sim_values c.in_ok-values.values) ≡ true = search rules in
    subst IsSimAsked (sym c.in_ok-copied.ensures) (sim-holds (sim_values c.in_ok-values.values) names)

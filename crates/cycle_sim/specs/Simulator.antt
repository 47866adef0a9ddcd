-- What contracts see of a simulator.
use Rattle.design_core.specs.Given.{AreChosen}
use Rattle.cycle_sim.specs.declared.sim.Sim.{Sim}
use Rattle.cycle_sim.specs.Simulated.{Simulated}
use Rattle.cycle_sim.specs.Holding.{IsHolding, simulated_of}

-- the design, the order of its drivers, the values of the last step and the states with which the next one begins
abbrev pub held_by : Sim → Simulated
held_by sim = simulated_of sim.machine

-- what is true of each simulator
pub record IsSim (sim : Sim) : Type 0 where
  pub holding : IsHolding sim.machine
  pub chosen : AreChosen sim.machine.design.now sim.freed.items sim.choice.items

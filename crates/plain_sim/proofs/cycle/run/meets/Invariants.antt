use Rattle.design_core.specs.Words.{valuation_of, AreWordsOf}
use Rattle.design_core.specs.WellFormed.{IsWellFormed}
use Rattle.design_core.specs.Reads.{IsOrder}
use Rattle.design_core.specs.Run.{Meets}
use Rattle.plain_sim.specs.EvaluateCycle.{MeetsFrom}
use Rattle.design_core.specs.Given.{freed_of, choices_of}
use Rattle.plain_sim.proofs.cycle.run.meets.Given as goal

abbrev pub invariant-loop-t : goal.invariant-loop-t
invariant-loop-t l =
    record {
      words : AreWordsOf l.design.signals.items l.state.items;
      right : MeetsFrom l.design l.trace (freed_of l.freed) (choices_of l.design l.chosen) l.t (valuation_of l.state.items)
          → Meets l.design l.trace (freed_of l.freed) (choices_of l.design l.chosen);
      only : IsWellFormed l.design → IsOrder l.design l.order → Meets l.design l.trace (freed_of l.freed) (choices_of l.design l.chosen)
          → MeetsFrom l.design l.trace (freed_of l.freed) (choices_of l.design l.chosen) l.t (valuation_of l.state.items);
    }

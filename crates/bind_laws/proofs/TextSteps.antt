-- Statements as those of a text, from what is said of the turns of their loops and of their cases.
use Rattle.std.proofs.Common.{Bool, true, false}
use Rattle.v_hierarchy.specs.Unrolled.{Steps, nothing, still, run, branch, choose, repeated, StepList, no_step, step, Arms, no_arm, arm, default_arm, Turns, no_turn, turn}
use Rattle.v_binding.specs.Turns.{FitTurns, AllFit}
use Rattle.v_binding.specs.Turns as standing
use Rattle.bind_laws.specs.Fit.{StepsFit, ListFit, ArmsFit, TurnsFit}
use Rattle.bind_laws.specs.OfText.{OneDefault, AllOneDefault, ArmsOneDefault, TurnsOneDefault}

mutual
  pub steps-fit : (s : Steps) → FitTurns s → OneDefault s → StepsFit s
  steps-fit nothing turns one = tt
  steps-fit (still s) turns one = tt
  steps-fit (run list) turns one = list-fit list turns one
  steps-fit (branch _ first other) turns one = (steps-fit first turns.0 one.0, steps-fit other turns.1 one.1)
  steps-fit (choose _ _ arms) turns one = arms-fit false arms turns one
  steps-fit (repeated _ all) turns one = turns-fit all turns one

  list-fit : (xs : StepList) → AllFit xs → AllOneDefault xs → ListFit xs
  list-fit no_step turns one = tt
  list-fit (step x xs) turns one = (steps-fit x turns.0 one.0, list-fit xs turns.1 one.1)

  arms-fit : (had : Bool) (xs : Arms) → standing.ArmsFit xs → ArmsOneDefault had xs → ArmsFit had xs
  arms-fit had no_arm turns one = tt
  arms-fit had (arm _ x xs) turns one = (steps-fit x turns.0 one.0, arms-fit had xs turns.1 one.1)
  arms-fit had (default_arm x xs) turns one = (one.0, steps-fit x turns.0 one.1, arms-fit true xs turns.1 one.2)

  turns-fit : (xs : Turns) → standing.TurnsFit xs → TurnsOneDefault xs → TurnsFit xs
  turns-fit no_turn turns one = tt
  turns-fit (turn value x xs) turns one = (turns.0, steps-fit x turns.1 one.0, turns-fit xs turns.2 one.1)

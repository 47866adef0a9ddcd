-- The values of the turns of unrolled loops: each is a word of 32 bits, as the variable of a loop has (IEEE 1364-2005, 4.8).
use Rattle.std.specs.Prelude.{⊤, ◌≡◌}
use Rattle.loc_base.specs.Bits.{width_of}
use Rattle.v_hierarchy.specs.Unrolled.{Steps, nothing, still, run, branch, choose, repeated, StepList, no_step, step, Arms, no_arm, arm, default_arm, Turns, no_turn, turn}

abbrev mutual
  -- all values of the turns of a statement are so
  pub FitTurns : Steps → Type 0
  FitTurns nothing = ⊤
  FitTurns (still _) = ⊤
  FitTurns (run steps) = AllFit steps
  FitTurns (branch _ on_true other) = FitTurns on_true × FitTurns other
  FitTurns (choose _ _ arms) = ArmsFit arms
  FitTurns (repeated _ turns) = TurnsFit turns

  pub AllFit : StepList → Type 0
  AllFit no_step = ⊤
  AllFit (step x xs) = FitTurns x × AllFit xs

  pub ArmsFit : Arms → Type 0
  ArmsFit no_arm = ⊤
  ArmsFit (arm _ body rest) = FitTurns body × ArmsFit rest
  ArmsFit (default_arm body rest) = FitTurns body × ArmsFit rest

  pub TurnsFit : Turns → Type 0
  TurnsFit no_turn = ⊤
  TurnsFit (turn value body rest) = (width_of value.bits ≡ 32) × FitTurns body × TurnsFit rest

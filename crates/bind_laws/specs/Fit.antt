-- What binding gives, and that it fits the signals and places of a design.
use Rattle.std.specs.Prelude.{⊤, ℕ, ◌≡◌, ◌<◌, ◌≤◌, ◌++◌, Bool, true, false, List, length}
use Rattle.std.specs.List.{list_all}
use Rattle.loc_base.specs.Bits.{width_of}
use Rattle.design_core.specs.declared.signal.Signal.{Signal}
use Rattle.design_core.specs.declared.place.Place.{Place}
use Rattle.design_core.specs.Store.{parts_width}
use Rattle.design_core.specs.declared.statement.Stmt.{Stmt}
use Rattle.design_core.specs.WellFormed.{is_width, part_fits, statement_fits, times_in}
use Rattle.v_syntax.specs.PartTree.{PlainLeft}
use Rattle.v_hierarchy.specs.Unrolled.{Steps, nothing, still, run, branch, choose, repeated, StepList, no_step, step, Arms, no_arm, arm, default_arm, Turns, no_turn, turn}
use Rattle.v_sizes.specs.Context.{IsMeaning, IsAmong}
use Rattle.v_binding.specs.declared.known.Use.{Use}
use Rattle.v_binding.specs.declared.known.Use.TheVariants.{Stands as stands, AtTurn as at_turn, Outside as outside}
use Rattle.v_binding.specs.declared.left.Left.{Left}
use Rattle.bind_laws.specs.Every.{Every}
use Rattle.v_binding.specs.Names.{Names}
use Rattle.v_binding.specs.Places.{Home, Placed}

-- what a name stands for is of the design; the variable of a loop is of 32 bits
abbrev pub UseFits : List Signal → Use → Type 0
UseFits signals (stands m) = IsMeaning m × IsAmong signals m
UseFits signals (at_turn c) = width_of c.bits ≡ 32
UseFits signals outside = ⊤

abbrev pub NamesFit : List Signal → Names → Type 0
NamesFit signals names = Every (λ k. UseFits signals k.use_of) names

-- a left side is of parts of the signals, and as wide as they are together
pub record LeftFits (signals : List Signal) (l : Left) : Type 0 where
  pub parts : list_all (part_fits signals) l.parts ≡ true
  pub of_width : parts_width signals l.parts ≡ l.width
  pub width : is_width l.width ≡ true

-- statements as those of a text: the variable of each loop is of 32 bits at each turn (9.6), and a case has one default at most (9.5)
abbrev mutual
  pub StepsFit : Steps → Type 0
  StepsFit nothing = ⊤
  StepsFit (still _) = ⊤
  StepsFit (run list) = ListFit list
  StepsFit (branch _ one other) = StepsFit one × StepsFit other
  StepsFit (choose _ _ arms) = ArmsFit false arms
  StepsFit (repeated _ turns) = TurnsFit turns

  pub ListFit : StepList → Type 0
  ListFit no_step = ⊤
  ListFit (step x rest) = StepsFit x × ListFit rest

  -- behind arms of which one is a default or not
  pub ArmsFit : Bool → Arms → Type 0
  ArmsFit had no_arm = ⊤
  ArmsFit had (arm _ x rest) = StepsFit x × ArmsFit had rest
  ArmsFit had (default_arm x rest) = (had ≡ false) × StepsFit x × ArmsFit true rest

  pub TurnsFit : Turns → Type 0
  TurnsFit no_turn = ⊤
  TurnsFit (turn value x rest) = (width_of value.bits ≡ 32) × StepsFit x × TurnsFit rest

-- a list begins another
pub record Begins {X : Type 0} (front whole : List X) : Type 0 where
  pub rest : List X
  pub is : whole ≡ front ++ rest

-- a left side with the names that are seen from it
pub record AssignedLeft : Type 0 where
  pub signals : List Signal
  pub names : Names
  pub written : PlainLeft
  pub left : Left

-- a statement with its places behind those before it
pub record BoundBody : Type 0 where
  pub signals : List Signal
  pub home : Home
  pub names : Names
  pub steps : Steps
  pub before : List Place
  pub result : Placed Stmt

-- the places begin with those before it, the statement fits, and each new place stands in it once
pub record StatementFits (signals : List Signal) (before : List Place) (x : Placed Stmt) : Type 0 where
  pub front : Begins before x.places
  pub fits : statement_fits signals x.places x.value ≡ true
  pub new : (p : ℕ) → length before ≤ p → p < length x.places → times_in p x.value ≡ 1
  pub old : (p : ℕ) → p < length before → times_in p x.value ≡ 0

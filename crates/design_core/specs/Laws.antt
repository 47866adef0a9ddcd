-- What the laws of the definitions are said of.
use Rattle.std.specs.Prelude.{ℕ, Bool, List}
use Rattle.loc_base.specs.declared.bits.Bits.{Bits}
use Rattle.design_core.specs.declared.signal.Signal.{Signal}
use Rattle.design_core.specs.declared.statement.Part.{Part}
use Rattle.design_core.specs.declared.statement.Stmt.{Stmt}
use Rattle.design_core.specs.declared.place.Place.{Place}
use Rattle.design_core.specs.declared.design.Design.{Design}
use Rattle.design_core.specs.declared.trace.Trace.{Trace}
use Rattle.design_core.specs.Valuation.{Valuation}
use Rattle.design_core.specs.After.{Choice, Updates}
use Rattle.design_core.specs.Run.{Choices}
use Rattle.design_core.specs.Works.{Groups}

-- a design with its traces and suspects, a largest size, and two lists of sets
pub record TwoLists : Type 0 where
  pub design : Design
  pub traces : List Trace
  pub groups : Groups
  pub size : ℕ
  pub one : List (List ℕ)
  pub other : List (List ℕ)

-- a design with its traces and suspects, and two sets of suspects
pub record TwoSets : Type 0 where
  pub design : Design
  pub traces : List Trace
  pub groups : Groups
  pub inner : List ℕ
  pub outer : List ℕ

-- an order of a design's drivers, and two cycles for the same samples, states and choice, each with its next states
pub record TwoCycles : Type 0 where
  pub design : Design
  pub order : List ℕ
  pub samples : List Bits
  pub state : Valuation
  pub choice : Choice
  pub one : Valuation
  pub one_next : Valuation
  pub other : Valuation
  pub other_next : Valuation

-- an order of a design's drivers, and two runs of a trace with the same places freed and values chosen
pub record TwoRuns : Type 0 where
  pub design : Design
  pub order : List ℕ
  pub trace : Trace
  pub freed : ℕ → Bool
  pub choices : Choices
  pub one : List Valuation
  pub other : List Valuation

-- an order of a design's drivers, and what a cycle begins with
pub record OneCycle : Type 0 where
  pub design : Design
  pub order : List ℕ
  pub samples : List Bits
  pub state : Valuation
  pub choice : Choice

-- an order of a design's drivers, and a trace with some places freed and values chosen
pub record OneRun : Type 0 where
  pub design : Design
  pub order : List ℕ
  pub trace : Trace
  pub freed : ℕ → Bool
  pub choices : Choices

-- an order of a design's drivers, and two valuations that they begin with
pub record TwoBegun : Type 0 where
  pub design : Design
  pub order : List ℕ
  pub choice : Choice
  pub one : Valuation
  pub other : Valuation

-- the parts of a left side with the bits that they take, the valuation that their indexes read, the one that is
-- stored into, and a bit
pub record Stored : Type 0 where
  pub signals : List Signal
  pub parts : List Part
  pub bits : ℕ → Bool
  pub reads : Valuation
  pub writes : Valuation
  pub signal : ℕ
  pub position : ℕ

-- a statement, what it begins with, and a bit
pub record Done : Type 0 where
  pub signals : List Signal
  pub places : List Place
  pub statement : Stmt
  pub choice : Choice
  pub updates : Updates
  pub signal : ℕ
  pub position : ℕ

-- two lists of numbers of a design's drivers
pub record TwoOrders : Type 0 where
  pub design : Design
  pub one : List ℕ
  pub other : List ℕ

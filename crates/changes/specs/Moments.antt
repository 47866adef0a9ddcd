-- A cycle of a run as words, and what is answered of a place in it.
use Rattle.std.specs.Prelude.{ℕ, ◌≡◌, ◌≤◌, IsTrue, List, Option, None, option_map, option_copied, IfSome}
use Rattle.loc_base.specs.declared.bits.Bits.{Bits}
use Rattle.loc_base.specs.Bits.{width_of, value_of}
use Rattle.design_core.specs.declared.design.Design.{Design}
use Rattle.design_core.specs.declared.expression.Typed.{Typed}
use Rattle.design_core.specs.After.{Choice, Updates}
use Rattle.design_core.specs.Explained.{place_width}
use Rattle.design_core.specs.Given.{AreChosen}
use Rattle.design_core.specs.Reads.{IsOrder}
use Rattle.design_core.specs.Valuation.{Valuation}
use Rattle.design_core.specs.WellFormed.{IsWellFormed, typed_fits}
use Rattle.design_core.specs.Words.{AreWordsOf, choice_of, valuation_of}
use Rattle.changes.specs.declared.moment.Executed.{Executed}
use Rattle.changes.specs.declared.moment.Moment.{Moment}
use Rattle.changes.specs.Execution.{Execution}

-- the values of the signals
abbrev pub values_in : Moment → Valuation
values_in m = valuation_of m.words.now

-- the places that are freed, with the words chosen for them
abbrev pub choice_in : Moment → Choice
choice_in m = choice_of m.freed.now m.chosen.now

-- words of a well-formed design whose drivers stand in an order
pub record IsMoment (m : Moment) : Type 0 where
  pub well_formed : IsWellFormed m.design.now
  pub order : List ℕ
  pub ordered : IsOrder m.design.now order
  pub words : AreWordsOf m.design.now.signals.items m.words.now
  pub chosen : AreChosen m.design.now m.freed.now m.chosen.now

-- a word is the number that a place computes, in the place's width, where it computes one
pub record IsComputed (d : Design) (p : ℕ) (reaches : Option ℕ) (word : Option Bits) : Type 0 where
  pub number : option_map value_of word ≡ reaches
  pub width : IfSome word (λ w. width_of w ≡ place_width d p)

-- an expression can be the right side of a place: it fits, and is no narrower
pub record IsSide (d : Design) (p : ℕ) (side : Typed) : Type 0 where
  pub typed : IsTrue (typed_fits d.signals.items side)
  pub least : 1 ≤ place_width d p
  pub most : place_width d p ≤ side.width

-- ---- an execution in code
abbrev pub execution_of : Executed → Execution
execution_of e = record { side = e.side.now; now = valuation_of e.words.items }

pub record IsExecuted (d : Design) (p : ℕ) (e : Executed) : Type 0 where
  pub side : IsSide d p e.side.now
  pub words : AreWordsOf d.signals.items e.words.items

-- what is answered of a place: its execution, where there is one
pub record Executes (d : Design) (p : ℕ) (execution : Option Execution) (answer : Option Executed) : Type 0 where
  pub is : option_map execution_of answer ≡ execution
  pub can : IfSome answer (IsExecuted d p)

-- ---- private, for the functions inside this crate
-- two lists of words, as what is read and what is updated later
abbrev pub as_updates : List Bits → List Bits → Updates
as_updates now later = record { now = valuation_of now; later = valuation_of later }

-- a right side, in words
abbrev pub execution_with : List Bits → Typed → Execution
execution_with now side = record { side = side; now = valuation_of now }

-- a statement carried out up to a place: the right side of the place where it is executed, else what the statement leaves
pub record Walks (d : Design) (p : ℕ) (execution : Option Execution) (leaves : Updates) (side : Option Typed) (now later : List Bits) : Type 0 where
  pub executes : option_map (execution_with now) side ≡ execution
  pub fits : IfSome side (IsSide d p)
  pub left : side ≡ None → as_updates now later ≡ leaves

-- When the values of a set's places are functions of what their right sides read: where a bound place's operands have the same
-- values, in any two cycles of any traces, its value is the same. So one table of a place, with a result for the values of its
-- operands, makes every trace right.
use Rattle.std.specs.Prelude.{ℕ, ◌≡◌, ◌<◌, Bool, true, List, length, slice_get, Some, IsTrue}
use Rattle.design_core.specs.declared.design.Design.{Design}
use Rattle.design_core.specs.declared.trace.Trace.{Trace}
use Rattle.design_core.specs.Valuation.{Valuation}
use Rattle.design_core.specs.Reads.{AgreeOn}
use Rattle.design_core.specs.Run.{Choices, IsRun, IsRightThroughout}
use Rattle.design_core.specs.Works.{Groups, AreOfWidth, places_of}
use Rattle.design_core.specs.Listing.{IsEntryFor, IsListFor, IsFrontFor}
use Rattle.place_functions.specs.Operands.{is_operand, is_bound}

-- V is the valuation of a cycle in the run of the trace of a number
pub record IsMoment (traces : List Trace) (runs : ℕ → List Valuation) (j t : ℕ) (V : Valuation) : Type 0 where
  pub in_traces : j < length traces
  pub there : slice_get (runs j) t ≡ Some V

-- in any two cycles in which the operands of a place have the same values, the values chosen for the place are equal
abbrev pub IsFunction : Design → List Trace → (ℕ → Choices) → (ℕ → List Valuation) → ℕ → Type 0
IsFunction d traces c runs p =
    (i t j u : ℕ) (V W : Valuation) → IsMoment traces runs i t V → IsMoment traces runs j u W
    → AgreeOn (is_operand d p) V W → c i t p ≡ c j u p

-- choices and runs, one for each trace by its number: each run is right, and the choices are functions for each bound place
pub record ExplainsByFunctions (d : Design) (traces : List Trace) (freed : ℕ → Bool) (c : ℕ → Choices) (runs : ℕ → List Valuation) : Type 0 where
  pub widths : (j : ℕ) (trace : Trace) → slice_get traces j ≡ Some trace → AreOfWidth d freed (c j)
  pub are_runs : (j : ℕ) (trace : Trace) → slice_get traces j ≡ Some trace → IsRun d trace freed (c j) (runs j)
  pub right : (j : ℕ) (trace : Trace) → slice_get traces j ≡ Some trace → IsRightThroughout d trace (runs j)
  pub functions : (p : ℕ) → IsTrue (freed p) → is_bound d p ≡ true → IsFunction d traces c runs p

-- a set works by functions: there are such choices and runs for its places
pub record WorksByFunctions (d : Design) (traces : List Trace) (groups : Groups) (set : List ℕ) : Type 0 where
  pub chosen : ℕ → Choices
  pub runs : ℕ → List Valuation
  pub explains : ExplainsByFunctions d traces (places_of groups set) chosen runs

-- a minimal set of at most k suspects that works by functions: no proper subset of it does
abbrev pub IsFunctionEntry : Design → List Trace → Groups → ℕ → List ℕ → Type 0
IsFunctionEntry d traces groups k set = IsEntryFor (WorksByFunctions d traces groups) groups k set

-- the whole list of these sets, by size and then by members
abbrev pub IsFunctionList : Design → List Trace → Groups → ℕ → List (List ℕ) → Type 0
IsFunctionList d traces groups k sets = IsListFor (WorksByFunctions d traces groups) groups k sets

-- a front of that list
abbrev pub IsFunctionFront : Design → List Trace → Groups → ℕ → List (List ℕ) → Type 0
IsFunctionFront d traces groups k sets = IsFrontFor (WorksByFunctions d traces groups) groups k sets

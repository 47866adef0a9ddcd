-- What values of places change (Smith, Veneris, Ali and Viglas, Fault diagnosis and logic debugging using Boolean satisfiability, IEEE
-- TCAD 2005, have the values): the places and cycles in which a place takes another word than it computes there.
use Rattle.std.specs.Prelude.{ℕ, ◌≡◌, ◌≢◌, ◌<◌, ◌+◌, ◌==◌, Bool, ◌&&◌, if◌then◌else◌, IsTrue, is_some, List, [], ◌∷◌, slice_get, Option, Some, None, unwrap_or, option_and_then}
use Rattle.design_core.specs.declared.design.Design.{Design}
use Rattle.design_core.specs.declared.trace.Trace.{Trace}
use Rattle.design_core.specs.Valuation.{Valuation}
use Rattle.design_core.specs.After.{Choice}
use Rattle.design_core.specs.Cycle.{Cycle}
use Rattle.design_core.specs.Run.{Choices, IsRightThroughout, choice_at, samples_at, start_state}
use Rattle.changes.specs.Reached.{reached}

-- by cycle and place: the word that the place takes in place of the one that it computes, where it takes another
abbrev pub Changes : Type 0
Changes = ℕ → ℕ → Option ℕ

-- the places that take another word in a cycle, with these words
abbrev pub changing : Changes → ℕ → Choice
changing ch t = record { frees = λ p. is_some (ch t p); chosen = λ p. unwrap_or (ch t p) 0 }

-- the cycles from cycle t on, begun in a state, have these valuations, where the changes are made and nothing else
abbrev pub IsChangedFrom : Design → Trace → Changes → ℕ → Valuation → List Valuation → Type 0
IsChangedFrom d trace ch t state [] = t ≡ trace.cycles
IsChangedFrom d trace ch t state (V ∷ rest) =
    (t < trace.cycles)
    × ((next : Valuation) × Cycle d (samples_at d trace t) state (changing ch t) V next × IsChangedFrom d trace ch (t + 1) next rest)

-- the run of a trace with the changes: one valuation for each of its cycles
abbrev pub IsChangedRun : Design → Trace → Changes → List Valuation → Type 0
IsChangedRun d trace ch run = IsChangedFrom d trace ch 0 (start_state d) run

-- the changes make the trace right
abbrev pub MeetsChanged : Design → Trace → Changes → Type 0
MeetsChanged d trace ch = (run : List Valuation) × IsChangedRun d trace ch run × IsRightThroughout d trace run

-- a place of some computes in a cycle of the run another word than w, which is its value and which it takes
pub record Differs (d : Design) (places : ℕ → Bool) (c : Choices) (ch : Changes) (run : List Valuation) (t p w : ℕ) : Type 0 where
  pub place : IsTrue (places p)
  pub value : c t p ≡ w
  pub now : Valuation
  pub cycle : slice_get run t ≡ Some now
  pub computes : ℕ
  pub reached : reached d (changing ch t) now p ≡ Some computes
  pub other : computes ≢ w

-- the changes that values of some places are, with their run: a place takes its value where it computes another, and what it
-- computes where that is its value
pub record AreChangesOf (d : Design) (trace : Trace) (places : ℕ → Bool) (c : Choices) (ch : Changes) (run : List Valuation) : Type 0 where
  pub is_run : IsChangedRun d trace ch run
  pub differs : (t p w : ℕ) → ch t p ≡ Some w → Differs d places c ch run t p w
  pub stays : (t p computes : ℕ) (V : Valuation) → slice_get run t ≡ Some V → IsTrue (places p) → ch t p ≡ None
      → reached d (changing ch t) V p ≡ Some computes → c t p ≡ computes

-- a value where it is another word than the computed one
abbrev pub differing : ℕ → ℕ → Option ℕ
differing value computes = if computes == value then None else Some value

-- the change of a place that is one of some, where it is carried out and its value is another word than it computes
abbrev pub change_of : Bool → ℕ → Option ℕ → Option ℕ
change_of is_place value computed = if is_place then option_and_then (differing value) computed else None

-- the changes by which values of some places differ, in the run that they have, from what these compute in it
abbrev pub change_in : Design → (ℕ → Bool) → Choices → List Valuation → Changes
change_in d places c run t p =
    option_and_then (λ V. change_of (places p) (c t p) (reached d (choice_at places c t) V p)) (slice_get run t)

-- ---- values with no needless change
-- the changes without that of a place in a cycle
abbrev pub without_change : Changes → ℕ → ℕ → Changes
without_change ch t p u q = if u == t && q == p then None else ch u q

-- with a word for a place in a cycle
abbrev pub with_change : Changes → ℕ → ℕ → ℕ → Changes
with_change ch t p w u q = if u == t && q == p then Some w else ch u q

-- a place is carried out in a cycle of a run, and computes a number
pub record Computes (d : Design) (ch : Changes) (run : List Valuation) (t p computes : ℕ) : Type 0 where
  pub now : Valuation
  pub cycle : slice_get run t ≡ Some now
  pub reached : reached d (changing ch t) now p ≡ Some computes

-- the next cycle in which a place is carried out
pub record IsNextCycle (d : Design) (ch : Changes) (run : List Valuation) (t p u computes : ℕ) : Type 0 where
  pub later : t < u
  pub carried_out : Computes d ch run u p computes
  pub none_between : (k other : ℕ) → t < k → k < u → ¬ Computes d ch run k p other

-- values of some places with which a trace is right, and that have no needless change: none can be put back by itself, none can be
-- moved to the next cycle in which its place is carried out, and a place that is not carried out has the value 0
pub record IsLean (d : Design) (trace : Trace) (places : ℕ → Bool) (c : Choices) : Type 0 where
  pub ch : Changes
  pub run : List Valuation
  pub are : AreChangesOf d trace places c ch run
  pub right : IsRightThroughout d trace run
  pub idle : (t p : ℕ) (V : Valuation) → slice_get run t ≡ Some V → IsTrue (places p) → reached d (changing ch t) V p ≡ None → c t p ≡ 0
  pub needed : (t p w : ℕ) → ch t p ≡ Some w → ¬ MeetsChanged d trace (without_change ch t p)
  pub latest : (t p w u computes : ℕ) → ch t p ≡ Some w → IsNextCycle d ch run t p u computes → ch u p ≡ None
      → ¬ MeetsChanged d trace (with_change (without_change ch t p) u p computes)

-- The main statement: what the clauses of a form say of sets of suspects.
use Rattle.std.specs.Prelude.{ℕ, ◌≡◌, ◌+◌, ◌≤◌, ◌<◌, ◌↔◌, Bool, false, List, length, slice_get, Some}
use Rattle.suspect_map.specs.declared.group.Group.{Group}
use Rattle.clause_base.specs.Satisfaction.{Satisfies}
use Rattle.card_counter.specs.Places.{at_least}
use Rattle.card_counter.specs.InForm.{literals_from}
use Rattle.card_counter.specs.Means.{true_count}
use Rattle.design_core.specs.declared.trace.Trace.{Trace}
use Rattle.bit_circuit.specs.Circuits.{BitNet, IsCircuit}
use Rattle.unroller.specs.Unrolls.{AreTraces, Unrolling, unrolled_of}
use Rattle.clause_form.specs.Clauses.{form_clauses}
use Rattle.form_laws.specs.Runs.{Chosen, CircuitMeets, CircuitWorks}
use Rattle.form_laws.specs.Models.{AreOfModel, Selects, freed_by}

-- what is asked: a circuit, traces, groups of places, and the greatest size of a set
pub record Asked : Type 0 where
  pub circuit : BitNet
  pub traces : List Trace
  pub groups : List Group
  pub k : ℕ

-- a circuit and traces of it
pub record CanBeAsked (of : Asked) : Type 0 where
  pub circuit : IsCircuit of.circuit
  pub traces : AreTraces of.circuit of.traces 0

abbrev pub unrolling_of : Asked → Unrolling
unrolling_of of = unrolled_of of.circuit of.traces of.groups of.k

-- the assignment satisfies the form
abbrev pub SatisfiesForm : Asked → (ℕ → Bool) → Type 0
SatisfiesForm of a = Satisfies a (form_clauses (unrolling_of of) of.groups of.k)

-- it satisfies the bound at j: s(n, j + 1) is false, where there are more than j suspects
abbrev pub MeetsBoundAt : Asked → ℕ → (ℕ → Bool) → Type 0
MeetsBoundAt of j a = j < length of.groups → a (at_least (length of.groups + 1) of.k (length of.groups) (j + 1)) ≡ false

-- an assignment that satisfies the form and the bound at j, in which exactly the set's selectors are true
pub record IsEncoded (of : Asked) (j : ℕ) (set : List ℕ) : Type 0 where
  pub assignment : ℕ → Bool
  pub satisfies : SatisfiesForm of assignment
  pub bound : MeetsBoundAt of j assignment
  pub selects : Selects assignment (length of.groups) set

-- for each size j of at most k and each set of at most j suspects, there is such an assignment exactly where the set works
abbrev pub EncodesSets : Asked → Type 0
EncodesSets of =
    (j : ℕ) (set : List ℕ) → j ≤ of.k → length set ≤ j
    → IsEncoded of j set ↔ CircuitWorks of.circuit of.traces (freed_by of.groups set)

-- an assignment that satisfies the form and the bound at j has at most j true selectors
abbrev pub FewAreSelected : Asked → Type 0
FewAreSelected of =
    (j : ℕ) (a : ℕ → Bool) → j ≤ of.k → SatisfiesForm of a → MeetsBoundAt of j a
    → true_count a (literals_from 1 (length of.groups)) ≤ j

-- in a model of the form whose true selectors are a set's, the bits that the model gives to the literals of places meet
-- each trace
abbrev pub ModelMeets : Asked → Type 0
ModelMeets of =
    (a : ℕ → Bool) (set : List ℕ) (number : ℕ) (trace : Trace) (chosen : Chosen)
    → SatisfiesForm of a → Selects a (length of.groups) set → slice_get of.traces number ≡ Some trace
    → AreOfModel a (unrolling_of of) (freed_by of.groups set) number trace chosen
    → CircuitMeets of.circuit trace (freed_by of.groups set) chosen

-- What the clauses of a form with pairs say of the design whose circuit was unrolled: which sets work by functions.
use Rattle.std.specs.Prelude.{ℕ, ◌≡◌, ◌≤◌, ◌↔◌, Bool, true, List, length, map, slice_get, Some, All, Contains}
use Rattle.design_core.specs.declared.design.Design.{Design}
use Rattle.design_core.specs.declared.place.Place.{Place}
use Rattle.suspect_map.specs.declared.group.Group.{Group}
use Rattle.clause_base.specs.Satisfaction.{Satisfies}
use Rattle.unroller.specs.Unrolls.{is_grouped}
use Rattle.unroller.specs.Cycles.{free_bits}
use Rattle.form_laws.specs.Encodes.{Asked, MeetsBoundAt, unrolling_of}
use Rattle.form_laws.specs.Models.{Selects}
use Rattle.form_laws.specs.Designs.{OfDesign, IsOfDesign}
use Rattle.design_circuits.specs.Forms.{HaveEachPlace}
use Rattle.place_functions.specs.Operands.{is_operand, is_bound}
use Rattle.place_functions.specs.Functions.{WorksByFunctions}
use Rattle.pair_form.specs.declared.compared.OutputBit.{OutputBit}
use Rattle.pair_form.specs.declared.compared.Compared.{Compared}
use Rattle.pair_form.specs.AllPairs.{function_clauses}

-- a form that is asked for, its design, and the places that are compared
pub record OfFunctions : Type 0 where
  pub form : OfDesign
  pub compared : List Compared

-- a bit of an output is that bit of a signal which is that output
pub record IsBitOf (d : Design) (bit : OutputBit) (signal position : ℕ) : Type 0 where
  pub output : slice_get d.outputs.items bit.output ≡ Some signal
  pub at : bit.position ≡ position

-- a place that is compared is a bound place of the design, of its width; its operands are bits of outputs
pub record IsCompared (d : Design) (c : Compared) : Type 0 where
  pub place : Place
  pub there : slice_get d.places.items c.place ≡ Some place
  pub width : c.width ≡ place.width
  pub bound : is_bound d c.place ≡ true
  -- each bit of an output is an operand
  pub only : (bit : OutputBit) → Contains c.operands bit
      → (signal : ℕ) × IsBitOf d bit signal bit.position × (is_operand d c.place signal bit.position ≡ true)
  -- and each operand is one of them
  pub all : (signal position : ℕ) → is_operand d c.place signal position ≡ true
      → (bit : OutputBit) × Contains c.operands bit × IsBitOf d bit signal position

-- each bound place of a suspect is compared
abbrev pub HasEachBound : Design → List Group → List Compared → Type 0
HasEachBound d groups compared =
    (p : ℕ) (place : Place) → slice_get d.places.items p ≡ Some place → is_bound d p ≡ true → is_grouped groups p ≡ true
    → (c : Compared) × Contains compared c × (c.place ≡ p)

-- the circuit is that of the design and has each bit of each of its places; the bound places of the suspects are compared
pub record CanCompare (of : OfFunctions) : Type 0 where
  pub form : IsOfDesign of.form
  pub bits : HaveEachPlace of.form.design (free_bits of.form.asked.circuit.nodes)
  pub compared : All (IsCompared of.form.design) of.compared
  pub each : HasEachBound of.form.design of.form.asked.groups of.compared

-- an assignment that satisfies the form, the clauses of all pairs and the bound at j, in which exactly the set's selectors are true
pub record IsEncodedByFunctions (asked : Asked) (compared : List Compared) (j : ℕ) (set : List ℕ) : Type 0 where
  pub assignment : ℕ → Bool
  pub satisfies : Satisfies assignment (function_clauses (unrolling_of asked) asked.groups asked.k compared)
  pub bound : MeetsBoundAt asked j assignment
  pub selects : Selects assignment (length asked.groups) set

-- for each size j of at most k and each set of at most j suspects, there is such an assignment exactly where the set works by
-- functions
abbrev pub EncodesFunctions : OfFunctions → Type 0
EncodesFunctions of =
    (j : ℕ) (set : List ℕ) → j ≤ of.form.asked.k → length set ≤ j
    → IsEncodedByFunctions of.form.asked of.compared j set
    ↔ WorksByFunctions of.form.design of.form.asked.traces (map (λ (group : Group). group.places) of.form.asked.groups) set

-- What the clauses of a form say of the design whose circuit was unrolled.
use Rattle.std.specs.Prelude.{ℕ, ◌≤◌, ◌↔◌, Bool, List, length, map, All}
use Rattle.design_core.specs.declared.design.Design.{Design}
use Rattle.design_core.specs.declared.trace.Trace.{Trace}
use Rattle.design_core.specs.Valuation.{bit}
use Rattle.design_core.specs.Run.{Choices, Meets}
use Rattle.design_core.specs.WellFormed.{IsWellFormed}
use Rattle.design_core.specs.DrivenOnce.{IsDrivenOnce}
use Rattle.design_core.specs.Reads.{IsOrder}
use Rattle.design_core.specs.TraceFits.{IsTraceOf}
use Rattle.design_core.specs.Works.{AreOfWidth, Works}
use Rattle.form_laws.specs.Runs.{Chosen, CircuitMeets}
use Rattle.form_laws.specs.Encodes.{Asked, CanBeAsked, IsEncoded}
use Rattle.form_laws.specs.Circuits.{IsCircuitOf, Reading}

-- a form that is asked for, and a design
pub record OfDesign : Type 0 where
  pub asked : Asked
  pub design : Design
  pub order : List ℕ
  pub read : Reading

-- the circuit is that of the design, which can be carried out, and the traces are of the design
pub record IsOfDesign (of : OfDesign) : Type 0 where
  pub can_be_asked : CanBeAsked of.asked
  pub well_formed : IsWellFormed of.design
  pub once : IsDrivenOnce of.design
  pub order : IsOrder of.design of.order
  pub circuit : IsCircuitOf of.design of.asked.circuit of.read
  pub traces : All (IsTraceOf of.design) of.asked.traces

-- for each size j of at most k and each set of at most j suspects, some assignment satisfies the form and the bound at j with
-- the selectors of exactly that set true, exactly where the set works in the design
abbrev pub EncodesDesign : OfDesign → Type 0
EncodesDesign of =
    (j : ℕ) (set : List ℕ) → j ≤ of.asked.k → length set ≤ j
    → IsEncoded of.asked j set ↔ Works of.design of.asked.traces (map (λ group. group.places) of.asked.groups) set

-- the bits of chosen numbers
abbrev pub bits_of : Choices → Chosen
bits_of c t place b = bit (c t place) b

-- numbers of the places' widths make a trace right in the design exactly where their bits do in the circuit
abbrev pub MeetsAlike : OfDesign → Type 0
MeetsAlike of =
    (trace : Trace) (freed : ℕ → Bool) (c : Choices) → IsTraceOf of.design trace → AreOfWidth of.design freed c
    → CircuitMeets of.asked.circuit trace freed (bits_of c) ↔ Meets of.design trace freed c

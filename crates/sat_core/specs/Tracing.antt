-- Private, for the functions inside this crate: how a true literal is traced back to the decisions that it rests on, by the places of the trail
-- whose literals are still to be resolved.
use Rattle.std.specs.Prelude.{◌≡◌, ℕ, ◌-◌, ◌<◌, Bool, true, false, not, ◌&&◌, ◌==◌, cond, is_none, IsSome, Option, Some, List, [], ◌∷◌, length, slice_index_or, count_by, All}
use Rattle.std.specs.BinaryHeap.{IsHeap, heap_items}
use Rattle.std.specs.Ordering.{nat_cmp}
use Rattle.clause_base.specs.declared.literal.Lit.{Lit}
use Rattle.clause_base.specs.declared.log.Step.{Step}
use Rattle.clause_base.specs.declared.log.StepKind.TheVariants.{Derived}
use Rattle.clause_base.specs.Literal.{has, has_distinct_variables, negative, IsWithin}
use Rattle.trail_core.specs.declared.entry.Entry.{Entry}
use Rattle.trail_core.specs.Values.{IsVariable}
use Rattle.trail_core.specs.TrailState.{TrailState, values_of, reason_in, is_decision}
use Rattle.sat_core.specs.declared.tracing.Tracing.{Tracing}
use Rattle.sat_core.specs.Derivation.{marked, set_of, IsClean, AreOf, Denies}

-- the variable is false on the trail for a reason
pub record IsForcedFalse (t : TrailState) (v : ℕ) : Type 0 where
  pub variable : IsVariable t.vars v
  pub is_false : values_of t.entries v ≡ Some false
  pub reason : IsSome (reason_in t.entries v)

-- the step is derived, and its chain gives its clause of the variable's negation and of opposites of decisions
pub record IsDerivedFor (t : TrailState) (v : ℕ) (step : Step) : Type 0 where
  pub kind : step.kind ≡ Derived
  pub denies : Denies t (negative v ∷ []) step.clause step.chain

-- the row has the place of each entry, at its variable less 1
pub record HasPlaces (t : TrailState) (places : List ℕ) : Type 0 where
  pub size : length places ≡ t.vars
  pub each : (i : ℕ) (d : Entry) → i < length t.entries → slice_index_or places ((slice_index_or t.entries i d).lit.var - 1) 0 ≡ i

-- the entry's variable is marked, and it has a reason
abbrev pub waits : List Bool → Entry → Bool
waits marks e = marked marks e.lit.var && not (is_decision e)

-- the places of the entries that wait, each once
pub record AreDue (t : TrailState) (marks : List Bool) (due : List ℕ) : Type 0 where
  pub within : All (λ i. i < length t.entries) due
  pub once : (i : ℕ) (d : Entry) → i < length t.entries → count_by (λ q. q == i) due ≡ cond (waits marks (slice_index_or t.entries i d)) 1 0

-- the literals are those of the marked set whose variables have no reason
pub record Gathers (t : TrailState) (marks : List Bool) (literals : List Lit) : Type 0 where
  pub members : (l : Lit) → has literals l ≡ (set_of marks (values_of t.entries) l && is_none (reason_in t.entries l.var))
  pub distinct : has_distinct_variables literals ≡ true

-- a tracing under way, in which the entries of these places wait
pub record IsTracing (t : TrailState) (due : List ℕ) (s : Tracing) : Type 0 where
  pub size : length s.marked.items ≡ t.vars
  pub places : HasPlaces t s.places.items
  pub are_due : AreDue t s.marked.items due
  pub order : IsHeap nat_cmp (heap_items s.due)
  pub gathers : Gathers t s.marked.items s.literals.items
  pub met_within : IsWithin t.vars s.met.items
  pub met_each : AreOf s.marked.items s.met.items

-- a tracing that has not begun: no variable is marked, and nothing waits
pub record IsIdle (t : TrailState) (s : Tracing) : Type 0 where
  pub size : length s.marked.items ≡ t.vars
  pub places : HasPlaces t s.places.items
  pub clean : IsClean s.marked.items
  pub due : heap_items s.due ≡ []
  pub order : IsHeap nat_cmp (heap_items s.due)
  pub literals : s.literals.items ≡ []
  pub chain : s.chain.items ≡ []
  pub met : s.met.items ≡ []

-- What a caller has: a design that can be simulated, a run for each wave, and values of places that are those of sets.
use Rattle.std.proofs.Common.{◌≡◌, ◌<◌, ◌-◌, ℕ, zero, suc, Bool, true, false, List, [], ◌∷◌, length, get_or, Option, Some, None, refl, ap, sym, subst, ◌∙◌, arith}
use Rattle.std.specs.Prelude.{All, ◌&&◌, ◌||◌, ◌==◌, nat_le, nat_lt, slice_get}
use Rattle.std.specs.List.{list_all, list_any}
use Rattle.std.specs.Option.{option_map_or}
use Rattle.std.proofs.lemmas.Bool.{and_parts, eqb-true, lt-ltb, ltb-true}
use Rattle.std.proofs.lemmas.List.Folds.{list_any_at}
use Rattle.std.proofs.Common.{eq-eqb}
use Rattle.std.proofs.lemmas.Option.{get_or_from_slice_get, slice_get_within}
use Rattle.loc_base.proofs.ShelfLists.{list_all-below}
use Rattle.plain_sim.proofs.EvaluateRun.{can-run}
use Rattle.design_core.specs.declared.design.Design.{Design}
use Rattle.design_core.specs.declared.trace.Trace.{Trace}
use Rattle.design_core.specs.declared.values.SetWithValues.{SetWithValues}
use Rattle.design_core.specs.Explained.{choices_in, is_one_of}
use Rattle.design_core.specs.Run.{IsRun}
use Rattle.design_core.specs.Valuation.{Valuation}
use Rattle.design_core.specs.WellFormed.{IsWellFormed}
use Rattle.design_core.specs.Works.{places_of, suspect_has}
use Rattle.design_core.proofs.RunLaws.{run-exists}
use Rattle.cycle_sim.specs.Simulated.{CanSimulate, IsSimulable}
use Rattle.set_waves.specs.Waved.{AreRuns, CanBeWaved, Runs, Waved}

-- ---- the design
pub can-simulate : (d : Design) (order : List ℕ) → IsSimulable d order → CanSimulate d order
can-simulate d order is = record {
  can_run = can-run d is.well_formed;
  numbers = list_all-below (length d.drivers.items) order is.ordered.numbers;
}

-- its outputs are signals
outputs-below : (n : ℕ) (xs : List ℕ) → list_all (λ s. nat_lt s n) xs ≡ true → All (λ s. s < n) xs
outputs-below n [] h i d low = absurd (omega (arith, low))
outputs-below n (x ∷ xs) h zero d low = ltb-true x n (and_parts (nat_lt x n) (list_all (λ s. nat_lt s n) xs) h).0
outputs-below n (x ∷ xs) h (suc i) d low =
    outputs-below n xs (and_parts (nat_lt x n) (list_all (λ s. nat_lt s n) xs) h).1 i d (omega (arith, low))

pub outputs-are : (d : Design) → IsWellFormed d → All (λ s. s < length d.signals.items) d.outputs.items
outputs-are d well = outputs-below (length d.signals.items) d.outputs.items well.outputs

-- ---- runs
pub some-runs : (w : Waved) (order : List ℕ) (sets : List SetWithValues) → CanBeWaved w order → (runs : Runs) × AreRuns w sets runs
some-runs w order sets can = (runs, are)
  where
    run-of : SetWithValues → ℕ → Trace → List Valuation
    run-of set j trace =
        (run-exists w.design order can.simulable.well_formed can.simulable.once can.simulable.ordered trace
        (is_one_of set.values.places.items) (choices_in w.traces set.values j)).0

    by-trace : SetWithValues → ℕ → Option Trace → List Valuation
    by-trace set j (Some trace) = run-of set j trace
    by-trace set j None = []

    by-set : ℕ → Option SetWithValues → List Valuation
    by-set j (Some set) = by-trace set j (slice_get w.traces j)
    by-set j None = []

    runs : Runs
    runs s j = by-set j (slice_get sets s)

    are : AreRuns w sets runs
    are s j set trace at there =
        subst (IsRun w.design trace (is_one_of set.values.places.items) (choices_in w.traces set.values j))
        (sym (ap (by-set j) at ∙ ap (by-trace set j) there))
        (run-exists w.design order can.simulable.well_formed can.simulable.once can.simulable.ordered trace
        (is_one_of set.values.places.items) (choices_in w.traces set.values j)).1

-- ---- the places of a set's suspects are places of the design, where the suspects' are
-- one of two
either : {P : Type 0} (a b : Bool) → (a || b) ≡ true → (a ≡ true → P) → (b ≡ true → P) → P
either true b some one other = one refl
either false b some one other = other some

any-within : (n : ℕ) (places : List ℕ) (p : ℕ) → All (λ q. q < n) places → list_any (λ q. q == p) places ≡ true → p < n
any-within n [] p all some = absurd (cc)
any-within n (q ∷ places) p all some =
    either (q == p) (list_any (λ q. q == p) places) some (λ e. subst (λ k. k < n) (eqb-true q p e) (all 0 q (omega arith)))
    (λ e. any-within n places p (λ i d low. all (suc i) d (omega (arith, low))) e)

group-within : (n : ℕ) (groups : List (List ℕ)) (p : ℕ) (i : ℕ) → All (All (λ q. q < n)) groups
    → option_map_or (λ places. list_any (λ q. q == p) places) (slice_get groups i) false ≡ true → p < n
group-within n groups p i all some = at (slice_get groups i) refl some
  where
    at : (o : Option (List ℕ)) → slice_get groups i ≡ o → option_map_or (λ places. list_any (λ q. q == p) places) o false ≡ true → p < n
    at None e some = absurd (cc)
    at (Some places) e some =
        any-within n places p
        (subst (All (λ q. q < n)) (get_or_from_slice_get groups i places places e)
        (all i places (slice_get_within groups i places e))) some

suspects-within : (n : ℕ) (groups : List (List ℕ)) (set : List ℕ) (p : ℕ) → All (All (λ q. q < n)) groups → places_of groups set p ≡ true
    → p < n
suspects-within n groups [] p all some = absurd (cc)
suspects-within n groups (s ∷ set) p all some =
    either (suspect_has groups p s) (places_of groups set p) some
    (λ e. group-within n groups p (s - 1) all (and_parts (nat_le 1 s) _ e).1)
    (λ e. suspects-within n groups set p all e)

one-of-own : (places : List ℕ) (i d : ℕ) → i < length places → is_one_of places (get_or places i d) ≡ true
one-of-own places i d low = list_any_at (λ q. q == get_or places i d) places i d low (eq-eqb (get_or places i d) (get_or places i d) refl)

pub places-within : (n : ℕ) (groups : List (List ℕ)) (set places : List ℕ) → All (All (λ q. q < n)) groups
    → ((p : ℕ) → is_one_of places p ≡ places_of groups set p) → All (λ p. p < n) places
places-within n groups set places all same i d low =
    suspects-within n groups set (get_or places i d) all (sym (same (get_or places i d)) ∙ one-of-own places i d low)

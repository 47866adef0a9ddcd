-- The runs of a freed design beside those of the design, and which sets of the design's own suspects work in both.
use Rattle.std.proofs.Common.{ℕ, zero, suc, ◌+◌, ◌≡◌, ◌<◌, ◌≤◌, Bool, false, ◌&&◌, List, [], ◌∷◌, ◌++◌, length, refl, ap, ◌∙◌, sym, subst, arith, ◌⊎◌, inl, inr, Option, Some, None}
use Rattle.std.specs.Prelude.{◌==◌, ◌*◌, ◌^◌, ◌||◌, nat_le, ◌-◌, map, slice_get, slice_range, All}
use Rattle.std.specs.Option.{option_map_or}
use Rattle.std.specs.List.{list_any}
use Rattle.std.proofs.lemmas.Bool.{and_right, cases_lt, ne_eqb, both_ways}
use Rattle.loc_base.proofs.ShelfLists.{Contains-at, All-member, list_all-member}
use Rattle.loc_base.specs.Bits.{bit_of}
use Rattle.design_core.specs.declared.signal.Signal.{Signal}
use Rattle.design_core.specs.declared.place.Place.{Place}
use Rattle.design_core.specs.declared.design.Design.{Design}
use Rattle.design_core.specs.declared.trace.Checked.{Checked}
use Rattle.design_core.specs.declared.trace.Trace.{Trace}
use Rattle.design_core.specs.Valuation.{Valuation}
use Rattle.design_core.specs.After.{Choice}
use Rattle.design_core.specs.Drives.{is_register_bit}
use Rattle.design_core.specs.Cycle.{Cycle}
use Rattle.design_core.specs.Run.{samples_at, expected_at, start_state, Choices, choice_at, IsRunFrom, IsRun, IsRightThroughout, Meets}
use Rattle.design_core.specs.Works.{Groups, places_of, AreOfWidth, Works}
use Rattle.design_core.specs.WellFormed.{is_signal, IsWellFormed}
use Rattle.design_core.proofs.RunLaws.{run-right, run-exists}
use Rattle.freed_conditions.specs.IsFreed.{IsFreed}
use Rattle.freed_conditions.specs.Alike.{AgreeBelow}
use Rattle.freed_conditions.specs.Old.{old_bits, FreesOld, AreOld, IsRunnable}
use Rattle.freed_conditions.proofs.SignalsMore.{slice_get-left, slice_get-before, signal-below}
use Rattle.freed_conditions.proofs.Beside.{Beside, beside}
use Rattle.freed_conditions.proofs.CycleFreed.{old-agrees, register-same, cycle-old}

-- ---- lists of values
map-get : {X Y : Type 0} (f : X → Y) (xs : List X) (t : ℕ) (x : X) → slice_get xs t ≡ Some x → slice_get (map f xs) t ≡ Some (f x)
map-get f [] t x at = cc
map-get f (y ∷ xs) zero x at = let same : y ≡ x = cc in ap (λ z. Some (f z)) same
map-get f (y ∷ xs) (suc t) x at = map-get f xs t x at

map-got : {X Y : Type 0} (f : X → Y) (xs : List X) (t : ℕ) (y : Y) → slice_get (map f xs) t ≡ Some y → (x : X) × (slice_get xs t ≡ Some x) × (f x ≡ y)
map-got f [] t y at = cc
map-got f (x ∷ xs) zero y at = let same : f x ≡ y = cc in (x, refl, same)
map-got f (x ∷ xs) (suc t) y at = map-got f xs t y at

-- ---- runs
samples-same : (d e : Design) → IsFreed d e → (trace : Trace) (t : ℕ) → samples_at e trace t ≡ samples_at d trace t
samples-same d e f trace t = ap (λ (inputs : List ℕ). slice_range trace.inputs.items (t * length inputs) (t * length inputs + length inputs)) f.inputs

expected-same : (d e : Design) → IsFreed d e → (trace : Trace) (t : ℕ) → expected_at e trace t ≡ expected_at d trace t
expected-same d e f trace t = ap (λ (outputs : List ℕ). slice_range trace.expected.items (t * length outputs) (t * length outputs + length outputs)) f.outputs

run_from-old : (d e : Design) → IsWellFormed d → IsFreed d e → (trace : Trace) (freed : ℕ → Bool) (c : Choices) → FreesOld d freed
    → (t : ℕ) (state state' : Valuation) (run : List Valuation) → AgreeBelow (length d.signals.items) state' state
    → IsRunFrom e trace freed c t state' run → IsRunFrom d trace freed c t state (map (old_bits d) run)
run_from-old d e well f trace freed c old t state state' [] agree is = is
run_from-old d e well f trace freed c old t state state' (W ∷ run) agree (below, (next, cycle, rest)) =
    let choice : Choice = choice_at freed c t in
    let here : Cycle e (samples_at d trace t) state' choice W next = subst (λ samples. Cycle e samples state' choice W next) (samples-same d e f trace t) cycle in (
      below,
      (
        old_bits d next,
        cycle-old d e choice (beside d e well f choice old) (samples_at d trace t) state state' W next agree here,
        run_from-old d e well f trace freed c old (t + 1) (old_bits d next) next run (old-agrees d next) rest,
      ),
    )

start-alike : (d e : Design) (choice : Choice) → Beside d e choice → AgreeBelow (length d.signals.items) (start_state e) (start_state d)
start-alike d e choice h = record {
  same = λ s b below.
      ap (λ t. t && option_map_or (λ (signal : Signal). bit_of signal.start b) (slice_get e.signals.items s) false) (register-same d e choice h s b below)
      ∙ ap (λ o. is_register_bit d s b && option_map_or (λ (signal : Signal). bit_of signal.start b) o false) (h.signals s below);
}

pub run-old : (d e : Design) → IsWellFormed d → IsFreed d e → (trace : Trace) (freed : ℕ → Bool) (c : Choices) → FreesOld d freed → (run : List Valuation)
    → IsRun e trace freed c run → IsRun d trace freed c (map (old_bits d) run)
run-old d e well f trace freed c old run is =
    run_from-old d e well f trace freed c old 0 (start_state d) (start_state e) run
    (start-alike d e (choice_at freed c 0) (beside d e well f (choice_at freed c 0) old)) is

-- ---- what is right
output-below : (d : Design) → IsWellFormed d → (i output : ℕ) → slice_get d.outputs.items i ≡ Some output → output < length d.signals.items
output-below d well i output at =
    signal-below d.signals.items output (list_all-member (is_signal d.signals.items) d.outputs.items output well.outputs (Contains-at d.outputs.items i output at))

right-old : (d e : Design) → IsWellFormed d → IsFreed d e → (trace : Trace) (run : List Valuation)
    → IsRightThroughout e trace run → IsRightThroughout d trace (map (old_bits d) run)
right-old d e well f trace run right t V at i output checked b is_output is_checked masked =
    let (W, there, same) = map-got (old_bits d) run t V at in
    let below : output < length d.signals.items = output-below d well i output is_output in
    sym (ap (λ (M : Valuation). M output b) same) ∙ sym ((old-agrees d W).same output b below)
    ∙ right t W there i output checked b (ap (λ (outputs : List ℕ). slice_get outputs i) f.outputs ∙ is_output)
    (ap (λ (expected : List Checked). slice_get expected i) (expected-same d e f trace t) ∙ is_checked) masked

right-new : (d e : Design) → IsWellFormed d → IsFreed d e → (trace : Trace) (run : List Valuation)
    → IsRightThroughout d trace (map (old_bits d) run) → IsRightThroughout e trace run
right-new d e well f trace run right t W at i output checked b is_output is_checked masked =
    let own : slice_get d.outputs.items i ≡ Some output = sym (ap (λ (outputs : List ℕ). slice_get outputs i) f.outputs) ∙ is_output in
    (old-agrees d W).same output b (output-below d well i output own)
    ∙ right t (old_bits d W) (map-get (old_bits d) run t W at) i output checked b own
    (sym (ap (λ (expected : List Checked). slice_get expected i) (expected-same d e f trace t)) ∙ is_checked) masked

pub meets-old : (d e : Design) → IsWellFormed d → IsFreed d e → (trace : Trace) (freed : ℕ → Bool) (c : Choices) → FreesOld d freed
    → Meets e trace freed c → Meets d trace freed c
meets-old d e well f trace freed c old (run, is, right) =
    (map (old_bits d) run, run-old d e well f trace freed c old run is, right-old d e well f trace run right)

pub meets-new : (d e : Design) (order order' : List ℕ) → IsRunnable d order → IsRunnable e order' → IsFreed d e → (trace : Trace) (freed : ℕ → Bool) (c : Choices) → FreesOld d freed
    → Meets d trace freed c → Meets e trace freed c
meets-new d e order order' own_run freed_run f trace freed c old meets =
    let (run, is) = run-exists e order' freed_run.well_formed freed_run.once freed_run.in_order trace freed c in
    let own : IsRun d trace freed c (map (old_bits d) run) = run-old d e own_run.well_formed f trace freed c old run is in
    (run, is, right-new d e own_run.well_formed f trace run (run-right d order own_run.well_formed own_run.in_order trace freed c (map (old_bits d) run) own meets))

-- ---- suspects of the design alone
none-of : (places : List ℕ) (n place : ℕ) → All (λ p. p < n) places → n ≤ place → list_any (λ p. p == place) places ≡ false
none-of [] n place all above = refl
none-of (p ∷ places) n place all above =
    let low : p < n = all 0 p (omega arith) in
    ap (λ t. t || list_any (λ q. q == place) places) (ne_eqb p place (λ same. absurd (omega arith)))
    ∙ none-of places n place (λ i d within. all (suc i) d (omega (arith, within))) above

pub frees-old : (d : Design) (groups : Groups) → AreOld d groups → (set : List ℕ) → FreesOld d (places_of groups set)
frees-old d groups old [] = record { unfreed = λ p above. refl }
frees-old d groups old (suspect ∷ set) = record {
  unfreed = λ p above.
      ap (λ t. t || places_of groups set p) (and_right (nat_le 1 suspect)
      (option_map_or (λ places. list_any (λ q. q == p) places) (slice_get groups (suspect - 1)) false) (at p above (slice_get groups (suspect - 1)) refl))
      ∙ (frees-old d groups old set).unfreed p above;
}
  where
    at : (p : ℕ) → length d.places.items ≤ p → (o : Option (List ℕ)) → slice_get groups (suspect - 1) ≡ o
        → option_map_or (λ places. list_any (λ q. q == p) places) o false ≡ false
    at p above None is = refl
    at p above (Some places) is =
        none-of places (length d.places.items) p
        (All-member (All (λ q. q < length d.places.items)) groups places old (Contains-at groups (suspect - 1) places is)) above

width-old : (d e : Design) → IsFreed d e → (freed : ℕ → Bool) (c : Choices) → AreOfWidth e freed c → AreOfWidth d freed c
width-old d e f freed c wide t p place at is =
    wide t p place (ap (λ (places : List Place). slice_get places p) f.places ∙ slice_get-left d.places.items (f.conditions ++ f.connections) p place at) is

width-new : (d e : Design) → IsFreed d e → (freed : ℕ → Bool) (c : Choices) → FreesOld d freed → AreOfWidth d freed c → AreOfWidth e freed c
width-new d e f freed c old wide t p place at is = here (cases_lt p (length d.places.items))
  where
    here : (p < length d.places.items) ⊎ (length d.places.items ≤ p) → c t p < 2 ^ place.width
    here (inl below) =
        wide t p place (sym (slice_get-before d.places.items (f.conditions ++ f.connections) p below)
        ∙ sym (ap (λ (places : List Place). slice_get places p) f.places) ∙ at) is
    here (inr above) = absurd (both_ways (freed p) (old.unfreed p above) is)

-- a set of the design's own suspects that works in the freed design works in the design
pub works-old : (d e : Design) → IsWellFormed d → IsFreed d e → (traces : List Trace) (groups : Groups) → AreOld d groups → (set : List ℕ)
    → Works e traces groups set → Works d traces groups set
works-old d e well f traces groups old set works trace member =
    let (c, wide, meets) = works trace member in
    (c, width-old d e f (places_of groups set) c wide, meets-old d e well f trace (places_of groups set) c (frees-old d groups old set) meets)

-- and the other way round
pub works-new : (d e : Design) (order order' : List ℕ) → IsRunnable d order → IsRunnable e order' → IsFreed d e → (traces : List Trace) (groups : Groups) → AreOld d groups
    → (set : List ℕ) → Works d traces groups set → Works e traces groups set
works-new d e order order' own_run freed_run f traces groups old set works trace member =
    let (c, wide, meets) = works trace member in
    let own : FreesOld d (places_of groups set) = frees-old d groups old set in
    (c, width-new d e f (places_of groups set) c own wide, meets-new d e order order' own_run freed_run f trace (places_of groups set) c own meets)

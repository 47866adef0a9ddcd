-- Outputs that no trace checks change nothing: the runs are the same, and so is what is right.
use Rattle.std.proofs.Common.{◌≡◌, ◌⊎◌, inl, inr, ℕ, ◌+◌, ◌<◌, ◌≤◌, true, false, List, [], ◌∷◌, length, Some, sym, ◌∙◌, ap, subst, arith}
use Rattle.std.specs.Prelude.{Bool, slice_get}
use Rattle.std.proofs.lemmas.Bool.{cases_lt}
use Rattle.std.proofs.lemmas.Option.{slice_get_within}
use Rattle.loc_base.specs.declared.bits.Bits.{Bits}
use Rattle.loc_base.specs.Bits.{bit_of}
use Rattle.loc_base.proofs.ShelfLists.{slice_get-some}
use Rattle.design_core.specs.declared.design.Design.{Design}
use Rattle.design_core.specs.declared.trace.Trace.{Trace}
use Rattle.design_core.specs.Valuation.{Valuation}
use Rattle.design_core.specs.After.{Choice}
use Rattle.design_core.specs.Cycle.{Cycle}
use Rattle.design_core.specs.Run.{Choices, IsRight, IsRunFrom, expected_at, samples_at, start_state}
use Rattle.design_core.specs.Works.{places_of}
use Rattle.place_functions.specs.Functions.{IsMoment, WorksByFunctions}
use Rattle.function_laws.proofs.Held.{slice_get-left}
use Rattle.function_laws.specs.Watched.{HasFurther, IsUnchecked, OfFurther, AreUnchecked, WorkAlike}

true-false : true ≡ false → ⊥
true-false same = cc

-- a design with the other parts of another and its own outputs
abbrev with_outputs : Design → Design → Design
with_outputs d further = record d { outputs = further.outputs }

-- what the parts of a design without its outputs make true
module _ (d further : Design) (has : HasFurther d further) where
  is-further : with_outputs d further ≡ further
  is-further =
      ap (λ x. record further { signals = x; drivers = d.drivers; clocked = d.clocked; places = d.places; inputs = d.inputs }) (sym has.signals)
      ∙ ap (λ x. record further { drivers = x; clocked = d.clocked; places = d.places; inputs = d.inputs }) (sym has.drivers)
      ∙ ap (λ x. record further { clocked = x; places = d.places; inputs = d.inputs }) (sym has.clocked)
      ∙ ap (λ x. record further { places = x; inputs = d.inputs }) (sym has.places) ∙ ap (λ x. record further { inputs = x }) (sym has.inputs)

  -- a cycle of either is one of the other
  cycle-on : (samples : List Bits) (state : Valuation) (choice : Choice) (V next : Valuation) → Cycle d samples state choice V next
      → Cycle (with_outputs d further) samples state choice V next
  cycle-on samples state choice V next c = record {
    input = c.input;
    reset = c.reset;
    register = c.register;
    driver = c.driver;
    other = c.other;
    next_clocked = c.next_clocked;
    next_reset = c.next_reset;
    next_kept = c.next_kept;
    next_other = c.next_other;
  }

  cycle-back : (samples : List Bits) (state : Valuation) (choice : Choice) (V next : Valuation)
      → Cycle (with_outputs d further) samples state choice V next → Cycle d samples state choice V next
  cycle-back samples state choice V next c = record {
    input = c.input;
    reset = c.reset;
    register = c.register;
    driver = c.driver;
    other = c.other;
    next_clocked = c.next_clocked;
    next_reset = c.next_reset;
    next_kept = c.next_kept;
    next_other = c.next_other;
  }

-- the cycles of a run are those of its trace
run-length : (d : Design) (trace : Trace) (freed : ℕ → Bool) (c : Choices) (run : List Valuation) (t : ℕ) (state : Valuation)
    → IsRunFrom d trace freed c t state run → t + length run ≡ trace.cycles
run-length d trace freed c [] t state is_run = omega (arith, is_run)
run-length d trace freed c (V ∷ rest) t state (low, (next, cycle, behind)) =
    let later = run-length d trace freed c rest (t + 1) next behind in omega (arith, later)

-- ---- of the design with the other's outputs

module _ (d further : Design) (has : HasFurther d further) where
  abbrev e : Design
  e = with_outputs d further

  module _ (trace other : Trace) (is : IsUnchecked d e trace other) (freed : ℕ → Bool) (c : Choices) where
    samples-same : (t : ℕ) → samples_at e other t ≡ samples_at d trace t
    samples-same t = ap (λ xs. samples_at d (record trace { inputs = xs }) t) is.samples

    run-on : (run : List Valuation) (t : ℕ) (state : Valuation) → IsRunFrom d trace freed c t state run → IsRunFrom e other freed c t state run
    run-on [] t state is_run = is_run ∙ sym is.cycles
    run-on (V ∷ rest) t state (low, (next, cycle, behind)) = (
      omega (arith, low, is.cycles),
      (
        next,
        subst (λ s. Cycle e s state (record { frees = freed; chosen = c t }) V next) (sym (samples-same t))
            (cycle-on d further has (samples_at d trace t) state (record { frees = freed; chosen = c t }) V next cycle),
        run-on rest (t + 1) next behind,
      ),
    )

    run-back : (run : List Valuation) (t : ℕ) (state : Valuation) → IsRunFrom e other freed c t state run → IsRunFrom d trace freed c t state run
    run-back [] t state is_run = is_run ∙ is.cycles
    run-back (V ∷ rest) t state (low, (next, cycle, behind)) = (
      omega (arith, low, is.cycles),
      (
        next,
        cycle-back d further has (samples_at d trace t) state (record { frees = freed; chosen = c t }) V next
            (subst (λ s. Cycle e s state (record { frees = freed; chosen = c t }) V next) (samples-same t) cycle),
        run-back rest (t + 1) next behind,
      ),
    )

    -- the outputs that were there
    output-same : (i : ℕ) → i < length d.outputs.items → slice_get e.outputs.items i ≡ slice_get d.outputs.items i
    output-same i low = ap (λ xs. slice_get xs i) has.outputs ∙ slice_get-left d.outputs.items has.more i low

    right-on : (t : ℕ) (V : Valuation) → t < trace.cycles → IsRight d (expected_at d trace t) V → IsRight e (expected_at e other t) V
    right-on t V low right i output checked b in_outputs in_expected asked = by (cases_lt i (length d.outputs.items))
      where
        by : (i < length d.outputs.items) ⊎ (length d.outputs.items ≤ i) → V output b ≡ bit_of checked.value b
        by (inl old) =
            right i output checked b (sym (output-same i old) ∙ in_outputs) (sym (is.same t i low old) ∙ in_expected) asked
        by (inr new) = absurd (true-false (sym asked ∙ is.free t i b checked low new in_expected))

    right-back : (t : ℕ) (V : Valuation) → t < trace.cycles → IsRight e (expected_at e other t) V → IsRight d (expected_at d trace t) V
    right-back t V low right i output checked b in_outputs in_expected asked =
        let old = slice_get_within d.outputs.items i output in_outputs in
        right i output checked b (output-same i old ∙ in_outputs) (is.same t i low old ∙ in_expected) asked

  module _ (traces others : List Trace) (as_many : length others ≡ length traces)
      (each : (j : ℕ) (trace other : Trace) → slice_get traces j ≡ Some trace → slice_get others j ≡ Some other → IsUnchecked d e trace other)
      (groups : List (List ℕ)) (set : List ℕ) where
    abbrev freed : ℕ → Bool
    freed = places_of groups set

    -- the trace of the same number
    of-number : (j : ℕ) (other : Trace) → slice_get others j ≡ Some other → (trace : Trace) × (slice_get traces j ≡ Some trace)
    of-number j other there = let low = slice_get_within others j other there in slice_get-some traces j (omega (arith, low, as_many))

    to-number : (j : ℕ) (trace : Trace) → slice_get traces j ≡ Some trace → (other : Trace) × (slice_get others j ≡ Some other)
    to-number j trace there = let low = slice_get_within traces j trace there in slice_get-some others j (omega (arith, low, as_many))

    moment-on : (runs : ℕ → List Valuation) (j t : ℕ) (V : Valuation) → IsMoment traces runs j t V → IsMoment others runs j t V
    moment-on runs j t V m = record { in_traces = omega (arith, m.in_traces, as_many); there = m.there }

    moment-back : (runs : ℕ → List Valuation) (j t : ℕ) (V : Valuation) → IsMoment others runs j t V → IsMoment traces runs j t V
    moment-back runs j t V m = record { in_traces = omega (arith, m.in_traces, as_many); there = m.there }

    works-on : WorksByFunctions d traces groups set → WorksByFunctions e others groups set
    works-on w = record {
      chosen = w.chosen;
      runs = w.runs;
      explains = record {
        widths = λ j other there. let (trace, at) = of-number j other there in w.explains.widths j trace at;
        are_runs = λ j other there.
            let (trace, at) = of-number j other there in
            run-on trace other (each j trace other at there) freed (w.chosen j) (w.runs j) 0 (start_state d) (w.explains.are_runs j trace at);
        right = λ j other there t V in_run.
            let (trace, at) = of-number j other there in
            let long = run-length d trace freed (w.chosen j) (w.runs j) 0 (start_state d) (w.explains.are_runs j trace at) in
            let within = slice_get_within (w.runs j) t V in_run in
            right-on trace other (each j trace other at there) freed (w.chosen j) t V (omega (arith, long, within))
            (w.explains.right j trace at t V in_run);
        functions = λ p free bound i t k v V W one two agree.
            w.explains.functions p free bound i t k v V W (moment-back w.runs i t V one) (moment-back w.runs k v W two) agree;
      };
    }

    works-back : WorksByFunctions e others groups set → WorksByFunctions d traces groups set
    works-back w = record {
      chosen = w.chosen;
      runs = w.runs;
      explains = record {
        widths = λ j trace at. let (other, there) = to-number j trace at in w.explains.widths j other there;
        are_runs = λ j trace at.
            let (other, there) = to-number j trace at in
            run-back trace other (each j trace other at there) freed (w.chosen j) (w.runs j) 0 (start_state d) (w.explains.are_runs j other there);
        right = λ j trace at t V in_run.
            let (other, there) = to-number j trace at in
            let unchecked = each j trace other at there in
            let long = run-length e other freed (w.chosen j) (w.runs j) 0 (start_state d) (w.explains.are_runs j other there) in
            let within = slice_get_within (w.runs j) t V in_run in
            right-back trace other unchecked freed (w.chosen j) t V (omega (arith, long, within, unchecked.cycles))
            (w.explains.right j other there t V in_run);
        functions = λ p free bound i t k v V W one two agree.
            w.explains.functions p free bound i t k v V W (moment-on w.runs i t V one) (moment-on w.runs k v W two) agree;
      };
    }

    pub alike : (WorksByFunctions e others groups set → WorksByFunctions d traces groups set)
        × (WorksByFunctions d traces groups set → WorksByFunctions e others groups set)
    alike = (works-back, works-on)

pub work-alike : (of : OfFurther) → AreUnchecked of → WorkAlike of
work-alike of can =
    let is = is-further of.design of.further can.design in
    let here =
    alike of.design of.further can.design of.traces of.others can.as_many
    (λ j trace other at there. subst (λ x. IsUnchecked of.design x trace other) (sym is) (can.each j trace other at there)) of.groups of.set in (
      (λ w. here.0 (subst (λ x. WorksByFunctions x of.others of.groups of.set) (sym is) w)),
      (λ w. subst (λ x. WorksByFunctions x of.others of.groups of.set) is (here.1 w)),
    )

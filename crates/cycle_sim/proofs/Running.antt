-- The run of a trace, one cycle after another, and the first output that is not right.
use Rattle.std.proofs.Common.{ℕ, zero, suc, ◌+◌, ◌-◌, ◌≡◌, ◌<◌, ◌≤◌, Bool, List, [], ◌∷◌, ◌++◌, length, refl, ap, sym, subst, ◌∙◌, arith, ◌⊎◌, inl, inr, Option, Some, None, append_assoc, append-nil}
use Rattle.std.specs.Prelude.{slice_get}
use Rattle.std.proofs.lemmas.Bool.{cases_lt}
use Rattle.std.proofs.lemmas.Option.{slice_get_within}
use Rattle.loc_base.specs.declared.bits.Bits.{Bits}
use Rattle.loc_base.proofs.ShelfOptions.{Some-same}
use Rattle.design_core.specs.declared.design.Design.{Design}
use Rattle.design_core.specs.declared.trace.Trace.{Trace}
use Rattle.design_core.specs.declared.values.Values.{Values}
use Rattle.design_core.specs.Valuation.{Valuation}
use Rattle.design_core.specs.After.{Choice}
use Rattle.design_core.specs.Cycle.{Cycle}
use Rattle.design_core.specs.Run.{samples_at, expected_at, start_state, Choices, choice_at, IsRunFrom, IsRun, IsRight, Meets}
use Rattle.design_core.proofs.RunLaws.{run-unique, run-right}
use Rattle.design_core.proofs.CycleExists.{cycle-exists}
use Rattle.design_core.specs.Steps.{computed_now, computed_next}
use Rattle.cycle_sim.specs.Simulated.{IsSimulable}
use Rattle.cycle_sim.specs.Misses.{MissesAt}
use Rattle.cycle_sim.specs.Replaying.{FirstWrong, TraceReplays, CycleReplays}

-- the valuations of the cycles before t, all right, after which the state is as given
pub record RunTo (d : Design) (trace : Trace) (freed : ℕ → Bool) (c : Choices) (t : ℕ) (state : Valuation)
    (front : List Valuation) : Type 0 where
  pub many : length front ≡ t
  pub extends : (rest : List Valuation) → IsRunFrom d trace freed c t state rest
      → IsRunFrom d trace freed c 0 (start_state d) (front ++ rest)
  pub right : (u : ℕ) (V : Valuation) → slice_get front u ≡ Some V → IsRight d (expected_at d trace u) V

pub run-begin : (d : Design) (trace : Trace) (freed : ℕ → Bool) (c : Choices) (state : Valuation) → state ≡ start_state d
    → RunTo d trace freed c 0 state []
run-begin d trace freed c state e =
    record {
      many = refl;
      extends = λ rest h. subst (λ (s : Valuation). IsRunFrom d trace freed c 0 s rest) e h;
      right = λ u V at. absurd (none at);
    }
  where
    none : {V : Valuation} → None ≡ Some V → ⊥
    none e = cc

pub slice_get-before : {X : Type 0} (xs ys : List X) (i : ℕ) → i < length xs → slice_get (xs ++ ys) i ≡ slice_get xs i
slice_get-before [] ys i h = absurd (omega (arith, h))
slice_get-before (x ∷ xs) ys zero h = refl
slice_get-before (x ∷ xs) ys (suc i) h = slice_get-before xs ys i (omega (arith, h))

slice_get-here : {X : Type 0} (xs : List X) (x : X) (ys : List X) → slice_get (xs ++ x ∷ ys) (length xs) ≡ Some x
slice_get-here [] x ys = refl
slice_get-here (y ∷ xs) x ys = slice_get-here xs x ys

one-longer : {X : Type 0} (xs : List X) (x : X) → length (xs ++ x ∷ []) ≡ length xs + 1
one-longer [] x = refl
one-longer (y ∷ xs) x = omega (arith, one-longer xs x)

pub run-next : (d : Design) (trace : Trace) (freed : ℕ → Bool) (c : Choices) (t : ℕ) (state V next : Valuation)
    (front : List Valuation) → t < trace.cycles
    → RunTo d trace freed c t state front → Cycle d (samples_at d trace t) state (choice_at freed c t) V next
    → IsRight d (expected_at d trace t) V
    → RunTo d trace freed c (t + 1) next (front ++ V ∷ [])
run-next d trace freed c t state V next front low before cycle right =
    record {
      many = one-longer front V ∙ ap (λ n. n + 1) before.many;
      extends = λ rest h.
          subst (λ (run : List Valuation). IsRunFrom d trace freed c 0 (start_state d) run)
          (sym (append_assoc front (V ∷ []) rest)) (before.extends (V ∷ rest) (low, (next, cycle, h)));
      right = λ u W at. by_place u W at (cases_lt u t);
    }
  where
    by_place : (u : ℕ) (W : Valuation) → slice_get (front ++ V ∷ []) u ≡ Some W → (u < t) ⊎ (t ≤ u) → IsRight d (expected_at d trace u) W
    by_place u W at (inl earlier) = before.right u W (sym (slice_get-before front (V ∷ []) u (omega (arith, earlier, before.many))) ∙ at)
    by_place u W at (inr last) =
        let within : u < length (front ++ V ∷ []) = slice_get_within (front ++ V ∷ []) u W at in
        let here : t ≡ u = omega (arith, within, one-longer front V, before.many, last) in
        let same : V ≡ W = Some-same (sym (slice_get-here front V []) ∙ ap (slice_get (front ++ V ∷ [])) (before.many ∙ here) ∙ at) in
        subst (λ (X : Valuation). IsRight d (expected_at d trace u) X) same (subst (λ n. IsRight d (expected_at d trace n) V) here right)

pub run-end : (d : Design) (trace : Trace) (freed : ℕ → Bool) (c : Choices) (t : ℕ) (state : Valuation)
    (front : List Valuation) → t ≡ trace.cycles
    → RunTo d trace freed c t state front → Meets d trace freed c
run-end d trace freed c t state front all h = (
  front,
  subst (λ (run : List Valuation). IsRunFrom d trace freed c 0 (start_state d) run) (append-nil front)
      (h.extends [] all),
  h.right,
)

-- so many cycles from cycle t on
run_from-exists : (d : Design) (order : List ℕ) → IsSimulable d order
    → (trace : Trace) (freed : ℕ → Bool) (c : Choices) (n t : ℕ) (state : Valuation) → t + n ≡ trace.cycles
    → (run : List Valuation) × IsRunFrom d trace freed c t state run
run_from-exists d order k trace freed c zero t state e = ([], omega (arith, e))
run_from-exists d order k trace freed c (suc n) t state e =
    let samples : List Bits = samples_at d trace t in
    let choice : Choice = choice_at freed c t in
    let V : Valuation = computed_now d order samples state choice in
    let next : Valuation = computed_next d state choice V in
    let (rest, is_run) = run_from-exists d order k trace freed c n (t + 1) next (omega (arith, e)) in
    (V ∷ rest, (omega (arith, e), (next, cycle-exists d order k.well_formed k.once k.ordered samples state choice, is_run)))

-- the first output that is not right, in the cycle t
pub run-misses : (d : Design) (order : List ℕ) → IsSimulable d order
    → (trace : Trace) (freed : ℕ → Bool) (c : Choices) (t i : ℕ) (state V next : Valuation) (front : List Valuation)
    → t < trace.cycles → RunTo d trace freed c t state front → Cycle d (samples_at d trace t) state (choice_at freed c t) V next
    → FirstWrong d (expected_at d trace t) V (Some i) → TraceReplays d trace freed c (Some (t, i))
run-misses d order k trace freed c t i state V next front low before cycle (wrong, earlier) =
    let (rest, is_run) = run_from-exists d order k trace freed c (trace.cycles - (t + 1)) (t + 1) next (omega (arith, low)) in
    with_rest rest is_run
  where
    with_rest : (rest : List Valuation) → IsRunFrom d trace freed c (t + 1) next rest → TraceReplays d trace freed c (Some (t, i))
    with_rest rest is_run = (
      record {
        run = run;
        is_run = whole;
        values = V;
        in_cycle = here;
        output = wrong.output;
        is_output = wrong.is_output;
        checked = wrong.checked;
        is_checked = wrong.is_checked;
        wrong = wrong.wrong;
      },
      λ u j other. refuses u j other,
    )
      where
        run : List Valuation
        run = front ++ V ∷ rest

        whole : IsRun d trace freed c run
        whole = before.extends (V ∷ rest) (low, (next, cycle, is_run))

        here : slice_get run t ≡ Some V
        here = ap (slice_get run) (sym before.many) ∙ slice_get-here front V rest

        in_run : (u : ℕ) (W : Valuation) (runs : List Valuation) → IsRun d trace freed c runs → slice_get runs u ≡ Some W
            → slice_get run u ≡ Some W
        in_run u W runs is_other at =
            ap (λ (r : List Valuation). slice_get r u)
            (run-unique d order k.well_formed k.ordered trace freed c run runs whole is_other) ∙ at

        refuses : (u j : ℕ) → MissesAt d trace freed c u j → (u < t) ⊎ ((u ≡ t) × (j < i)) → ⊥
        refuses u j other (inl sooner) =
            let at : slice_get front u ≡ Some other.values =
            sym (slice_get-before front (V ∷ rest) u (omega (arith, sooner, before.many)))
            ∙ in_run u other.values other.run other.is_run other.in_cycle in
            other.wrong (λ b m. before.right u other.values at j other.output other.checked b other.is_output other.is_checked m)
        refuses u j other (inr (same, less)) =
            let is : V ≡ other.values =
            Some-same (sym here ∙ ap (slice_get run) (sym same) ∙ in_run u other.values other.run other.is_run other.in_cycle) in
            let there : slice_get (expected_at d trace t) j ≡ Some other.checked =
            ap (λ n. slice_get (expected_at d trace n) j) (sym same) ∙ other.is_checked in
            other.wrong (λ b m. ap (λ (X : Valuation). X other.output b) (sym is)
            ∙ earlier j other.output other.checked b less other.is_output there m)

-- where a trace is right, no output misses
pub meets-no_miss : (d : Design) (order : List ℕ) → IsSimulable d order
    → (trace : Trace) (freed : ℕ → Bool) (c : Choices) (t i : ℕ) → Meets d trace freed c → MissesAt d trace freed c t i → ⊥
meets-no_miss d order k trace freed c t i meets m =
    m.wrong (λ b in_mask. run-right d order k.well_formed k.ordered trace freed c m.run m.is_run meets t m.values m.in_cycle i
    m.output m.checked b m.is_output m.is_checked in_mask)

-- a cycle of a design that is known by another name
pub moved : (d other : Design) (order numbers : List ℕ) (trace : Trace) (values : Values) (first t : ℕ)
    (state next : Valuation) (answer : Option ℕ) → other ≡ d → numbers ≡ order
    → (IsSimulable other numbers → CycleReplays other trace values first t state next answer) → IsSimulable d order
    → CycleReplays d trace values first t state next answer
moved d other order numbers trace values first t state next answer same alike given k =
    subst (λ (D : Design). CycleReplays D trace values first t state next answer) same
    (given (subst (λ (D : Design). IsSimulable D numbers) (sym same) (subst (λ (O : List ℕ). IsSimulable d O) (sym alike) k)))

-- Each trace of a design that can be simulated has lines: it has a run, and it is right or has a first miss.
use Rattle.std.proofs.Common.{ℕ, zero, suc, ◌+◌, ◌≡◌, ◌<◌, ◌≤◌, Bool, true, false, List, [], ◌∷◌, ◌++◌, length, ap, sym, refl, subst, ◌∙◌, arith, ◌⊎◌, inl, inr, Option, Some, None}
use Rattle.std.specs.Prelude.{◌==◌, ◌&&◌, ◌||◌, IsTrue, not, slice_get}
use Rattle.std.proofs.lemmas.Bool.{and_parts, cases_Bool, cases_lt, or_parts, false≢true}
use Rattle.std.proofs.lemmas.Nat.Bits.{bit_at_above}
use Rattle.std.proofs.lemmas.Option.{slice_get_within}
use Rattle.loc_base.specs.declared.bits.Bits.{Bits}
use Rattle.loc_base.specs.Bits.{bit_of, value_of, value_of-range, width_of, width_of-high}
use Rattle.loc_base.proofs.ShelfLists.{slice_get-some}
use Rattle.loc_base.proofs.ShelfOptions.{Some-same}
use Rattle.design_core.specs.declared.design.Design.{Design}
use Rattle.design_core.specs.declared.trace.Checked.{Checked}
use Rattle.design_core.specs.declared.trace.Trace.{Trace}
use Rattle.design_core.specs.Valuation.{Valuation}
use Rattle.design_core.specs.After.{Choice}
use Rattle.design_core.specs.Cycle.{Cycle}
use Rattle.design_core.specs.Run.{choice_at, expected_at, samples_at, start_state}
use Rattle.design_core.specs.Steps.{computed_next, computed_now}
use Rattle.design_core.proofs.CycleExists.{cycle-exists}
use Rattle.design_core.proofs.RunLaws.{run-exists}
use Rattle.cycle_sim.specs.Simulated.{IsSimulable}
use Rattle.cycle_sim.specs.Replaying.{FirstWrong, RightBefore}
use Rattle.cycle_sim.proofs.Running.{RunTo, run-begin, run-end, run-misses, run-next}
use Rattle.sim_lines.proofs.CheckLaws.{right-next}
use Rattle.sim_lines.specs.Lines.{AreLines, AreLinesOf, IsEnd, Line, cycle_lines, end_line, no_place, no_values}

-- ---- an output
abbrev same : Bool → Bool → Bool
same true other = other
same false other = not other

same-is : (a b : Bool) → same a b ≡ true → a ≡ b
same-is true true e = refl
same-is true false e = absurd (false≢true e)
same-is false true e = absurd (false≢true e)
same-is false false e = refl

not-same : (a b : Bool) → same a b ≡ false → a ≡ b → ⊥
not-same true true e is = false≢true (sym e)
not-same true false e is = false≢true (sym is)
not-same false true e is = false≢true is
not-same false false e is = false≢true (sym e)

-- whether a checked bit below one is not as expected
abbrev wrong_below : Checked → (ℕ → Bool) → ℕ → Bool
wrong_below c bits zero = false
wrong_below c bits (suc n) = (bit_of c.mask n && not (same (bits n) (bit_of c.value n))) || wrong_below c bits n

not-false : (b : Bool) → not b ≡ false → b ≡ true
not-false true e = refl
not-false false e = absurd (false≢true (sym e))

not-true : (b : Bool) → not b ≡ true → b ≡ false
not-true true e = absurd (false≢true e)
not-true false e = refl

and-true : (a b : Bool) → (a && b) ≡ false → a ≡ true → b ≡ false
and-true true b e is = e
and-true false b e is = absurd (false≢true is)

none-step : (c : Checked) (bits : ℕ → Bool) (n b : ℕ) → ((bit_of c.mask n && not (same (bits n) (bit_of c.value n))) ≡ false) × (wrong_below c bits n ≡ false)
    → (b < n → bits b ≡ bit_of c.value b) → b < suc n → IsTrue (bit_of c.mask b) → bits b ≡ bit_of c.value b
none-step c bits n b both lower low masked = at (cases_lt b n)
  where
    at : (b < n) ⊎ (n ≤ b) → bits b ≡ bit_of c.value b
    at (inl less) = lower less
    at (inr higher) =
        let here : n ≡ b = omega (arith, higher, low) in
        subst (λ k. bits k ≡ bit_of c.value k) here
        (same-is (bits n) (bit_of c.value n) (not-false (same (bits n) (bit_of c.value n)) (and-true (bit_of c.mask n) (not (same (bits n) (bit_of c.value n))) both.0
        (subst (λ k. IsTrue (bit_of c.mask k)) (sym here) masked))))

none-wrong : (c : Checked) (bits : ℕ → Bool) (n b : ℕ) → wrong_below c bits n ≡ false → b < n → IsTrue (bit_of c.mask b) → bits b ≡ bit_of c.value b
none-wrong c bits zero b none low masked = absurd (omega (arith, low))
none-wrong c bits (suc n) b none low masked =
    let both = or_parts (bit_of c.mask n && not (same (bits n) (bit_of c.value n))) (wrong_below c bits n) none in
    none-step c bits n b both (λ less. none-wrong c bits n b both.1 less masked) low masked

some-step : (c : Checked) (bits : ℕ → Bool) (n : ℕ) → wrong_below c bits (suc n) ≡ true → ((b : ℕ) → IsTrue (bit_of c.mask b) → bits b ≡ bit_of c.value b)
    → (wrong_below c bits n ≡ true → ⊥) → ⊥
some-step c bits n some right lower = at (cases_Bool (bit_of c.mask n && not (same (bits n) (bit_of c.value n))))
  where
    at : ((bit_of c.mask n && not (same (bits n) (bit_of c.value n))) ≡ true) ⊎ ((bit_of c.mask n && not (same (bits n) (bit_of c.value n))) ≡ false) → ⊥
    at (inl here) =
        let both = and_parts (bit_of c.mask n) (not (same (bits n) (bit_of c.value n))) here in
        not-same (bits n) (bit_of c.value n) (not-true (same (bits n) (bit_of c.value n)) both.1) (right n both.0)
    at (inr later) = lower (sym (ap (λ b. b || wrong_below c bits n) later) ∙ some)

some-wrong : (c : Checked) (bits : ℕ → Bool) (n : ℕ) → wrong_below c bits n ≡ true → ((b : ℕ) → IsTrue (bit_of c.mask b) → bits b ≡ bit_of c.value b) → ⊥
some-wrong c bits zero some right = false≢true some
some-wrong c bits (suc n) some right = some-step c bits n some right (λ more. some-wrong c bits n more right)

-- no bit of a word stands from 128 on
no-bit : (word : Bits) (b : ℕ) → 128 ≤ b → IsTrue (bit_of word b) → ⊥
no-bit word b high is =
    false≢true (sym (ap (λ n. n == 1) (bit_at_above (value_of word) (width_of word) b (value_of-range word) (omega (arith, width_of-high word, high)))) ∙ is)

right-at : (c : Checked) (bits : ℕ → Bool) → wrong_below c bits 128 ≡ false → (b : ℕ) → IsTrue (bit_of c.mask b) → bits b ≡ bit_of c.value b
right-at c bits none b masked = at (cases_lt b 128)
  where
    at : (b < 128) ⊎ (128 ≤ b) → bits b ≡ bit_of c.value b
    at (inl low) = none-wrong c bits 128 b none low masked
    at (inr high) = absurd (no-bit c.mask b high masked)

-- ---- a cycle
nothing : (entry : Checked) → None ≡ Some entry → ⊥
nothing entry e = cc

first-step : (d : Design) (expected : List Checked) (V : Valuation) (n : ℕ) → n < length d.outputs.items → RightBefore d expected V n
    → (RightBefore d expected V (n + 1) → (answer : Option ℕ) × FirstWrong d expected V answer) → (answer : Option ℕ) × FirstWrong d expected V answer
first-step d expected V n low before next = with_output (slice_get-some d.outputs.items n low)
  where
    tested : (output : ℕ) (checked : Checked) → slice_get d.outputs.items n ≡ Some output → slice_get expected n ≡ Some checked
        → (wrong_below checked (V output) 128 ≡ true) ⊎ (wrong_below checked (V output) 128 ≡ false) → (answer : Option ℕ) × FirstWrong d expected V answer
    tested output checked is_output is_checked (inl wrong) = (
      Some n,
      (
        record {
          output = output;
          is_output = is_output;
          checked = checked;
          is_checked = is_checked;
          wrong = some-wrong checked (V output) 128 wrong;
        },
        before,
      ),
    )
    tested output checked is_output is_checked (inr right) =
        next (right-next d expected V n before (λ other entry at at' b masked.
        let one : output ≡ other = Some-same (sym is_output ∙ at) in
        let two : checked ≡ entry = Some-same (sym is_checked ∙ at') in
        subst (λ s. V s b ≡ bit_of entry.value b) one
        (subst (λ (e : Checked). IsTrue (bit_of e.mask b) → V output b ≡ bit_of e.value b) two (right-at checked (V output) right b) masked)))

    with_checked : (output : ℕ) → slice_get d.outputs.items n ≡ Some output → (o : Option Checked) → slice_get expected n ≡ o
        → (answer : Option ℕ) × FirstWrong d expected V answer
    with_checked output is_output None none =
        next (right-next d expected V n before (λ other entry at at' b masked. absurd (nothing entry (sym none ∙ at'))))
    with_checked output is_output (Some checked) is_checked =
        tested output checked is_output is_checked (cases_Bool (wrong_below checked (V output) 128))

    with_output : (output : ℕ) × (slice_get d.outputs.items n ≡ Some output) → (answer : Option ℕ) × FirstWrong d expected V answer
    with_output (output, is_output) = with_checked output is_output (slice_get expected n) refl

first-wrong : (d : Design) (expected : List Checked) (V : Valuation) (k n : ℕ) → n + k ≡ length d.outputs.items → RightBefore d expected V n
    → (answer : Option ℕ) × FirstWrong d expected V answer
first-wrong d expected V zero n all before = (
  None,
  λ i output checked b is_output is_checked masked.
      before i output checked b (omega (arith, all, slice_get_within d.outputs.items i output is_output)) is_output is_checked masked,
)
first-wrong d expected V (suc k) n all before =
    first-step d expected V n (omega (arith, all)) before (λ right. first-wrong d expected V k (n + 1) (omega (arith, all)) right)

-- ---- a trace
end-step : (d : Design) (order : List ℕ) → IsSimulable d order → (trace : Trace) (t : ℕ) (state : Valuation) (front : List Valuation) → t < trace.cycles
    → RunTo d trace no_place no_values t state front
    → ((next : Valuation) (longer : List Valuation) → RunTo d trace no_place no_values (t + 1) next longer → (end : Option (ℕ × ℕ)) × IsEnd d trace end)
    → (end : Option (ℕ × ℕ)) × IsEnd d trace end
end-step d order k trace t state front low to later =
    with_first (first-wrong d (expected_at d trace t) V (length d.outputs.items) 0 (omega arith) (λ i output checked b less. absurd (omega (arith, less))))
  where
    samples : List Bits
    samples = samples_at d trace t

    choice : Choice
    choice = choice_at no_place no_values t

    V : Valuation
    V = computed_now d order samples state choice

    next : Valuation
    next = computed_next d state choice V

    cycle : Cycle d samples state choice V next
    cycle = cycle-exists d order k.well_formed k.once k.ordered samples state choice

    with_first : (answer : Option ℕ) × FirstWrong d (expected_at d trace t) V answer → (end : Option (ℕ × ℕ)) × IsEnd d trace end
    with_first (None, right) = later next (front ++ V ∷ []) (run-next d trace no_place no_values t state V next front low to cycle right)
    with_first (Some i, wrong) = (Some (t, i), run-misses d order k trace no_place no_values t i state V next front low to cycle wrong)

end-from : (d : Design) (order : List ℕ) → IsSimulable d order → (trace : Trace) (n t : ℕ) (state : Valuation) (front : List Valuation) → t + n ≡ trace.cycles
    → RunTo d trace no_place no_values t state front → (end : Option (ℕ × ℕ)) × IsEnd d trace end
end-from d order k trace zero t state front all to = (None, run-end d trace no_place no_values t state front (omega (arith, all)) to)
end-from d order k trace (suc n) t state front all to =
    end-step d order k trace t state front (omega (arith, all)) to (λ next longer run. end-from d order k trace n (t + 1) next longer (omega (arith, all)) run)

trace-lines : (d : Design) (order : List ℕ) → IsSimulable d order → (number : ℕ) (trace : Trace) → (lines : List Line) × AreLinesOf d number trace lines
trace-lines d order k number trace =
    let (run, is_run) = run-exists d order k.well_formed k.once k.ordered trace no_place no_values in
    let (end, is_end) = end-from d order k trace trace.cycles 0 (start_state d) [] (omega arith) (run-begin d trace no_place no_values (start_state d) refl) in
    (cycle_lines d number 0 run ++ end_line d number end ∷ [], record { run = run; is_run = is_run; end = end; is_end = is_end; are = refl })

-- ---- all traces
pub some-lines : (d : Design) (order : List ℕ) → IsSimulable d order → (number : ℕ) (traces : List Trace) → (lines : List Line) × AreLines d number traces lines
some-lines d order k number [] = ([], refl)
some-lines d order k number (trace ∷ traces) =
    let (first, one) = trace-lines d order k number trace in
    let (rest, more) = some-lines d order k (number + 1) traces in
    (first ++ rest, (first, rest, one, more, refl))

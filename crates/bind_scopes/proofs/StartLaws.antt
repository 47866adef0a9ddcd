-- A start value stands in its place; one after another.
use Rattle.std.proofs.Common.{◌≡◌, ℕ, zero, suc, ◌+◌, ◌<◌, ◌≤◌, List, [], ◌∷◌, ◌++◌, length, get_or, refl, sym, ap, ◌∙◌, arith}
use Rattle.std.specs.Prelude.{if◌then◌else◌, slice_set}
use Rattle.std.proofs.lemmas.Bool.{eq-eqb, ne_eqb}
use Rattle.design_core.specs.declared.signal.Signal.{Signal}
use Rattle.v_binding.specs.Steps.{through}
use Rattle.v_binding.specs.Starts.{Start, with_start, started_from, started}

-- none of these has its number
started-past : (k : ℕ) (x : Start) (ss : List Signal) → x.signal < k → started_from k x ss ≡ ss
started-past k x [] past = refl
started-past k x (s ∷ ss) past =
    ap (λ b. (if b then with_start s x.value else s) ∷ started_from (k + 1) x ss) (ne_eqb k x.signal (omega (arith, past)))
    ∙ ap (λ l. s ∷ l) (started-past (k + 1) x ss (omega (arith, past)))

started-short : (k : ℕ) (x : Start) (ss : List Signal) → k + length ss ≤ x.signal → started_from k x ss ≡ ss
started-short k x [] short = refl
started-short k x (s ∷ ss) short =
    ap (λ b. (if b then with_start s x.value else s) ∷ started_from (k + 1) x ss) (ne_eqb k x.signal (omega (arith, short)))
    ∙ ap (λ l. s ∷ l) (started-short (k + 1) x ss (omega (arith, short)))

started-at : (k j : ℕ) (x : Start) (ss : List Signal) (d : Signal) → k + j ≡ x.signal → j < length ss
    → started_from k x ss ≡ slice_set ss j (with_start (get_or ss j d) x.value)
started-at k j x [] d at within = absurd (omega (arith, within))
started-at k zero x (s ∷ ss) d at within =
    ap (λ b. (if b then with_start s x.value else s) ∷ started_from (k + 1) x ss) (eq-eqb k x.signal (omega (arith, at)))
    ∙ ap (λ l. with_start s x.value ∷ l) (started-past (k + 1) x ss (omega (arith, at)))
started-at k (suc j) x (s ∷ ss) d at within =
    ap (λ b. (if b then with_start s x.value else s) ∷ started_from (k + 1) x ss) (ne_eqb k x.signal (omega (arith, at)))
    ∙ ap (λ l. s ∷ l) (started-at (k + 1) j x ss d (omega (arith, at)) (omega (arith, within)))

-- the place that is written is the start value's
pub start_put : (x : Start) (ss : List Signal) (s : Signal) → x.signal < length ss → s ≡ get_or ss x.signal s
    → slice_set ss x.signal (with_start s x.value) ≡ started x ss
start_put x ss s within is = ap (λ y. slice_set ss x.signal (with_start y x.value)) is ∙ sym (started-at 0 x.signal x ss s (omega arith) within)

pub start_none : (x : Start) (ss : List Signal) → length ss ≤ x.signal → ss ≡ started x ss
start_none x ss short = sym (started-short 0 x ss (omega (arith, short)))

pub ruleset start_laws = (start_put, start_none)

pub through_append : {A S : Type 0} (step : A → S → S) (xs ys : List A) (met : S) → through step (xs ++ ys) met ≡ through step ys (through step xs met)
through_append step [] ys met = refl
through_append step (x ∷ xs) ys met = through_append step xs ys (step x met)

-- The number of cycles of the traces before one of them.
use Rattle.std.proofs.Common.{◌≡◌, ℕ, zero, suc, ◌+◌, ◌-◌, ◌<◌, ◌≤◌, List, [], ◌∷◌, Some, ap, sym, subst, ◌∙◌, arith, refl}
use Rattle.std.specs.Prelude.{if◌then◌else◌, slice_get}
use Rattle.std.proofs.lemmas.Bool.{ne_eqb}
use Rattle.loc_base.proofs.ShelfOptions.{Some-same}
use Rattle.design_core.specs.declared.trace.Trace.{Trace}
use Rattle.design_core.specs.Explained.{cycles_before}

pub cycles_before-none : (traces : List Trace) → cycles_before traces 0 ≡ 0
cycles_before-none [] = refl
cycles_before-none (trace ∷ traces) = refl

pub cycles_before-suc : (trace : Trace) (traces : List Trace) (j : ℕ) → cycles_before (trace ∷ traces) (suc j) ≡ trace.cycles + cycles_before traces j
cycles_before-suc trace traces j =
    let less : suc j - 1 ≡ j = omega arith in
    ap (λ x. if x then 0 else trace.cycles + cycles_before traces (suc j - 1)) (ne_eqb (suc j) 0 (λ e. omega (arith, e))) ∙ ap (λ n. trace.cycles + cycles_before traces n) less

-- one trace more
pub cycles_before-next : (traces : List Trace) (j : ℕ) (trace : Trace) → slice_get traces j ≡ Some trace → cycles_before traces (j + 1) ≡ cycles_before traces j + trace.cycles
cycles_before-next [] j trace at = absurd (cc)
cycles_before-next (first ∷ traces) zero trace at =
    cycles_before-suc first traces 0 ∙ ap (λ n. first.cycles + n) (cycles_before-none traces) ∙ swap first.cycles ∙ ap (λ (x : Trace). 0 + x.cycles) (Some-same at)
  where
    swap : (n : ℕ) → n + 0 ≡ 0 + n
    swap n = omega arith
cycles_before-next (first ∷ traces) (suc j) trace at =
    ap (cycles_before (first ∷ traces)) (next j) ∙ cycles_before-suc first traces (j + 1) ∙ ap (λ n. first.cycles + n) (cycles_before-next traces j trace at)
    ∙ grouped first.cycles (cycles_before traces j) trace.cycles ∙ ap (λ n. n + trace.cycles) (sym (cycles_before-suc first traces j))
  where
    next : (n : ℕ) → suc n + 1 ≡ suc (n + 1)
    next n = omega arith

    grouped : (a b c : ℕ) → a + (b + c) ≡ a + b + c
    grouped a b c = omega arith

-- a trace's cycles stand before the next trace
pub cycles_before-whole : (traces : List Trace) (j k : ℕ) (trace : Trace) → slice_get traces j ≡ Some trace → j < k → cycles_before traces j + trace.cycles ≤ cycles_before traces k
cycles_before-whole [] j k trace at h = absurd (cc)
cycles_before-whole (first ∷ traces) j zero trace at h = absurd (omega (arith, h))
cycles_before-whole (first ∷ traces) zero (suc k) trace at h =
    let same : first.cycles ≡ trace.cycles = ap (λ (x : Trace). x.cycles) (Some-same at) in
    subst (λ n. 0 + trace.cycles ≤ n) (sym (cycles_before-suc first traces k)) (omega (arith, same))
cycles_before-whole (first ∷ traces) (suc j) (suc k) trace at h =
    let later : cycles_before traces j + trace.cycles ≤ cycles_before traces k = cycles_before-whole traces j k trace at (omega (arith, h)) in
    subst (λ n. n + trace.cycles ≤ cycles_before (first ∷ traces) (suc k)) (sym (cycles_before-suc first traces j))
    (subst (λ n. first.cycles + cycles_before traces j + trace.cycles ≤ n) (sym (cycles_before-suc first traces k)) (omega (arith, later)))

-- a cycle of a trace stands before the next trace
pub cycles-within : (traces : List Trace) (j k : ℕ) (trace : Trace) (t : ℕ) → slice_get traces j ≡ Some trace → j < k → t < trace.cycles → cycles_before traces j + t < cycles_before traces k
cycles-within traces j k trace t at h l = omega (arith, cycles_before-whole traces j k trace at h, l)

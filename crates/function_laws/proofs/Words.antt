-- Words of literals and their values, entry by entry; and choices by the number of the cycle among all.
use Rattle.std.proofs.Common.{◌≡◌, ◌⊎◌, inl, inr, ℕ, zero, suc, ◌+◌, ◌-◌, ◌<◌, ◌≤◌, Bool, true, false, not, ◌||◌, if◌then◌else◌, List, [], ◌∷◌, map, Some, refl, ◌∙◌, ap, ap₂, subst, arith}
use Rattle.std.specs.Prelude.{Contains, cond, nat_lt, slice_get}
use Rattle.std.proofs.lemmas.Bool.{lt-ltb, le-ltb}
use Rattle.std.proofs.lemmas.List.Elements.{All-head, All-tail}
use Rattle.loc_base.proofs.ShelfBools.{if-true, if-false}
use Rattle.loc_base.proofs.ShelfLists.{Contains-empty, Contains-first, Contains-later, Contains-cons}
use Rattle.loc_base.proofs.ShelfOptions.{Some-same}
use Rattle.gate_base.specs.declared.literal.Literal.{Literal}
use Rattle.clause_base.specs.declared.literal.Lit.{Lit}
use Rattle.clause_base.specs.Literal.{IsWithin, AreWithin}
use Rattle.clause_base.specs.Satisfaction.{is_satisfied, Satisfies}
use Rattle.design_core.specs.declared.design.Design.{Design}
use Rattle.design_core.specs.declared.trace.Trace.{Trace}
use Rattle.design_core.specs.Valuation.{Valuation}
use Rattle.design_core.specs.Cycle.{Cycle}
use Rattle.design_core.specs.Run.{Choices, IsRunFrom, samples_at}
use Rattle.unroller.specs.Unrolls.{Unrolling}
use Rattle.form_laws.proofs.Moments.{first_of}
use Rattle.pair_form.specs.declared.compared.OutputBit.{OutputBit}
use Rattle.pair_form.specs.AllPairs.{bit_at, bits_from}

head-same : {X : Type 0} (x y : X) (xs ys : List X) → x ∷ xs ≡ y ∷ ys → x ≡ y
head-same x y xs ys same = cc

tail-same : {X : Type 0} (x y : X) (xs ys : List X) → x ∷ xs ≡ y ∷ ys → xs ≡ ys
tail-same x y xs ys same = cc

-- ---- operands

module _ (value : Literal → Bool) (one other : OutputBit → Literal) where
  pub map-same : (bits : List OutputBit) → ((b : OutputBit) → Contains bits b → value (one b) ≡ value (other b))
      → map value (map one bits) ≡ map value (map other bits)
  map-same [] each = refl
  map-same (b ∷ bits) each =
      ap₂ (λ x xs. x ∷ xs) (each b (Contains-first b bits)) (map-same bits (λ x member. each x (Contains-later b bits x member)))

  at-step : (b : OutputBit) (bits : List OutputBit) (x : OutputBit) → value (one b) ≡ value (other b)
      → (Contains bits x → value (one x) ≡ value (other x)) → (b ≡ x) ⊎ Contains bits x → value (one x) ≡ value (other x)
  at-step b bits x here behind (inl same) = subst (λ y. value (one y) ≡ value (other y)) same here
  at-step b bits x here behind (inr later) = behind later

  pub map-at : (bits : List OutputBit) → map value (map one bits) ≡ map value (map other bits) → (b : OutputBit) → Contains bits b
      → value (one b) ≡ value (other b)
  map-at [] same b member = absurd (Contains-empty b member)
  map-at (x ∷ bits) same b member =
      at-step x bits b
      (head-same (value (one x)) (value (other x)) (map value (map one bits)) (map value (map other bits)) same)
      (λ later.
      map-at bits (tail-same (value (one x)) (value (other x)) (map value (map one bits)) (map value (map other bits)) same) b later)
      (Contains-cons x bits b member)

-- ---- bits

module _ (value : Literal → Bool) (u : Unrolling) (s t p : ℕ) where
  pub bits-same : (from more : ℕ) → ((b : ℕ) → from ≤ b → b < from + more → value (bit_at u s p b) ≡ value (bit_at u t p b))
      → map value (bits_from u s p from more) ≡ map value (bits_from u t p from more)
  bits-same from zero each = refl
  bits-same from (suc more) each =
      ap₂ (λ x xs. x ∷ xs) (each from (omega arith) (omega arith))
      (bits-same (from + 1) more (λ b low high. each b (omega (arith, low)) (omega (arith, high))))

  pub bits-at : (from more b : ℕ) → map value (bits_from u s p from more) ≡ map value (bits_from u t p from more) → b < more
      → value (bit_at u s p (from + b)) ≡ value (bit_at u t p (from + b))
  bits-at from zero b same low = absurd (omega (arith, low))
  bits-at from (suc more) zero same low =
      let here : from ≡ from + 0 = omega arith in
      subst (λ n. value (bit_at u s p n) ≡ value (bit_at u t p n)) here
      (head-same (value (bit_at u s p from)) (value (bit_at u t p from)) (map value (bits_from u s p (from + 1) more))
      (map value (bits_from u t p (from + 1) more)) same)
  bits-at from (suc more) (suc b) same low =
      let next : from + 1 + b ≡ from + suc b = omega arith in
      subst (λ n. value (bit_at u s p n) ≡ value (bit_at u t p n)) next
      (bits-at (from + 1) more b
      (tail-same (value (bit_at u s p from)) (value (bit_at u t p from)) (map value (bits_from u s p (from + 1) more))
      (map value (bits_from u t p (from + 1) more)) same)
      (omega (arith, low)))

-- ---- assignments that are the same on the variables of clauses

module _ (f g : ℕ → Bool) (n : ℕ) (same : (v : ℕ) → v ≤ n → f v ≡ g v) where
  clause-same : (clause : List Lit) → IsWithin n clause → is_satisfied f clause ≡ is_satisfied g clause
  clause-same [] within = refl
  clause-same (l ∷ clause) within =
      ap₂ (λ x y. x || y) (ap (λ b. cond l.negated (not b) b) (same l.var (All-head (λ (x : Lit). (1 ≤ x.var) × (x.var ≤ n)) l clause within).1))
      (clause-same clause (All-tail (λ (x : Lit). (1 ≤ x.var) × (x.var ≤ n)) l clause within))

  pub satisfies-same : (clauses : List (List Lit)) → AreWithin n clauses → Satisfies g clauses → Satisfies f clauses
  satisfies-same clauses within all k d low = clause-same _ (within k d low) ∙ all k d low

-- ---- choices by the number of the cycle among all

abbrev pub pasted : List Trace → (ℕ → Choices) → ℕ → ℕ → ℕ
pasted [] chosen moment p = 0
pasted (trace ∷ traces) chosen moment p =
    if nat_lt moment trace.cycles then chosen 0 moment p else pasted traces (λ i. chosen (suc i)) (moment - trace.cycles) p

pub pasted-at : (traces : List Trace) (chosen : ℕ → Choices) (i : ℕ) (trace : Trace) → slice_get traces i ≡ Some trace
    → (t : ℕ) → t < trace.cycles → (p : ℕ) → pasted traces chosen (first_of traces i + t) p ≡ chosen i t p
pasted-at [] chosen i trace there t low p = cc
pasted-at (x ∷ traces) chosen zero trace there t low p =
    let same : x.cycles ≡ trace.cycles = ap (λ (y : Trace). y.cycles) (Some-same there) in
    let number : 0 + t ≡ t = omega arith in
    ap (λ n. pasted (x ∷ traces) chosen n p) number
    ∙ if-true (nat_lt t x.cycles) (chosen 0 t p) (pasted traces (λ i. chosen (suc i)) (t - x.cycles) p) (chosen 0 t p)
    (lt-ltb t x.cycles (omega (arith, low, same))) refl
pasted-at (x ∷ traces) chosen (suc i) trace there t low p =
    let moment = x.cycles + first_of traces i + t in
    let number : moment - x.cycles ≡ first_of traces i + t = omega arith in
    if-false (nat_lt moment x.cycles) (chosen 0 moment p) (pasted traces (λ k. chosen (suc k)) (moment - x.cycles) p) (chosen (suc i) t p)
    (le-ltb moment x.cycles (omega arith))
    (ap (λ n. pasted traces (λ k. chosen (suc k)) n p) number ∙ pasted-at traces (λ k. chosen (suc k)) i trace there t low p)

if-below : (b : Bool) (x y n : ℕ) → x < n → y < n → (if b then x else y) < n
if-below true x y n one other = one
if-below false x y n one other = other

pub pasted-below : (traces : List Trace) (chosen : ℕ → Choices) (p n : ℕ) → 0 < n
    → ((i : ℕ) (trace : Trace) → slice_get traces i ≡ Some trace → (t : ℕ) → chosen i t p < n) → (moment : ℕ) → pasted traces chosen moment p < n
pasted-below [] chosen p n some each moment = some
pasted-below (x ∷ traces) chosen p n some each moment =
    if-below (nat_lt moment x.cycles) (chosen 0 moment p) (pasted traces (λ i. chosen (suc i)) (moment - x.cycles) p) n (each 0 x refl moment)
    (pasted-below traces (λ i. chosen (suc i)) p n some (λ i trace there t. each (suc i) trace there t) (moment - x.cycles))

-- a run is one of other choices that are the same in the cycles of its trace
pub run-again : (d : Design) (trace : Trace) (freed : ℕ → Bool) (one other : Choices) → ((t : ℕ) → t < trace.cycles → one t ≡ other t)
    → (run : List Valuation) (t : ℕ) (state : Valuation) → IsRunFrom d trace freed one t state run → IsRunFrom d trace freed other t state run
run-again d trace freed one other same [] t state is_run = is_run
run-again d trace freed one other same (V ∷ rest) t state (low, (next, cycle, behind)) = (
  low,
  (
    next,
    subst (λ x. Cycle d (samples_at d trace t) state (record { frees = freed; chosen = x }) V next) (same t low) cycle,
    run-again d trace freed one other same rest (t + 1) next behind,
  ),
)

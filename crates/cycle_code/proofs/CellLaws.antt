-- What cells hold after one of them, or those of the signals, is replaced.
use Rattle.std.proofs.Common.{◌≡◌, ◌≢◌, ℕ, ◌+◌, ◌-◌, ◌%◌, ◌^◌, ◌<◌, ◌≤◌, List, arith, refl, ◌∙◌, ap}
use Rattle.std.specs.Prelude.{Bool, true, false, ◌&&◌, ◌==◌, if◌then◌else◌, nat_le, nat_lt}
use Rattle.std.proofs.Math.Path.{fun_ext}
use Rattle.std.proofs.Math.Nat.{mod-eq_of_lt}
use Rattle.std.proofs.lemmas.Bool.{le-leb, lt-ltb, le-ltb, eq-eqb, ltb-true}
use Rattle.loc_base.proofs.ShelfBools.{equal-false}
use Rattle.plain_values.proofs.EvaluateWrite.{bit-resized}
use Rattle.plain_values.proofs.EvaluateStore.{updates}
use Rattle.design_core.specs.Valuation.{Valuation, bit, number}
use Rattle.design_core.specs.Operator.{resized}
use Rattle.design_core.specs.After.{Updates}
use Rattle.design_core.proofs.NumberLaws.{number-same, number-bit}
use Rattle.cycle_code.specs.Cells.{width_in, held, with_held, below, updates_in, with_updates}

-- ---- one cell
-- the cells that are not written stay
pub with_held-other : (widths : List ℕ) (cell value : ℕ) (V : Valuation) (c : ℕ) → c ≢ cell → with_held widths cell value V c ≡ V c
with_held-other widths cell value V c other = fun_ext (λ b. rw (equal-false c cell other) refl)

-- the one that is written holds the low bits of the number
pub held-with_held : (widths : List ℕ) (cell value : ℕ) (V : Valuation)
    → held widths (with_held widths cell value V) cell ≡ value % 2 ^ width_in widths cell
held-with_held widths cell value V =
    number-same (width_in widths cell) (with_held widths cell value V cell) (bit value) (λ b low.
    rw (eq-eqb cell cell refl, le-leb 0 b (omega arith), lt-ltb b (0 + width_in widths cell) (omega arith)) (ap (bit value) (omega arith)))
    ∙ number-bit (width_in widths cell) value

-- which is the number where that is no greater
pub held-with_small : (widths : List ℕ) (cell value : ℕ) (V : Valuation) → value < 2 ^ width_in widths cell
    → held widths (with_held widths cell value V) cell ≡ value
held-with_small widths cell value V small = held-with_held widths cell value V ∙ mod-eq_of_lt small

-- and any other cell what it held
pub held-with_other : (widths : List ℕ) (cell value : ℕ) (V : Valuation) (c : ℕ) → c ≢ cell
    → held widths (with_held widths cell value V) c ≡ held widths V c
held-with_other widths cell value V c other = ap (number (width_in widths c)) (with_held-other widths cell value V c other)

-- a number is cut by the cell itself
pub with_held-resized : (widths : List ℕ) (cell from value : ℕ) (V : Valuation)
    → with_held widths cell (resized (width_in widths cell) false from value) V ≡ with_held widths cell value V
with_held-resized widths cell from value V =
    fun_ext (λ c. fun_ext (λ b. at c b (c == cell && nat_le 0 b) (nat_lt b (0 + width_in widths cell)) refl))
  where
    at : (c b : ℕ) (here inside : Bool) → nat_lt b (0 + width_in widths cell) ≡ inside
        → (if here && inside then bit (resized (width_in widths cell) false from value) (b - 0) else V c b)
        ≡ (if here && inside then bit value (b - 0) else V c b)
    at c b false inside e = refl
    at c b true false e = refl
    at c b true true e =
        let low : b < 0 + width_in widths cell = ltb-true b (0 + width_in widths cell) e in
        bit-resized (width_in widths cell) from value (b - 0) (omega arith)

-- ---- the cells of the signals
-- the same words that are read, and the same later updates
pub updates-same : {now now' later later' : Valuation} → now ≡ now' → later ≡ later'
    → updates now later ≡ updates now' later'
updates-same one other = cc

-- those below a number stay where another one is written
pub below-with_held : (count : ℕ) (widths : List ℕ) (cell value : ℕ) (V : Valuation) → count ≤ cell
    → below count (with_held widths cell value V) ≡ below count V
below-with_held count widths cell value V past = fun_ext (λ s. fun_ext (λ b. at s b (nat_lt s count) refl))
  where
    at : (s b : ℕ) (t : Bool) → nat_lt s count ≡ t → (t && with_held widths cell value V s b) ≡ (t && V s b)
    at s b false e = refl
    at s b true e =
        let low : s < count = ltb-true s count e in
        let other : s ≢ cell = λ same. absurd (omega arith) in
        ap (λ f. f b) (with_held-other widths cell value V s other)

-- and so do the words of the signals where a cell past them is written
pub updates_in-with_held : (count : ℕ) (widths : List ℕ) (cell value : ℕ) (V : Valuation) → count + count ≤ cell
    → updates_in count (with_held widths cell value V) ≡ updates_in count V
updates_in-with_held count widths cell value V past =
    updates-same (below-with_held count widths cell value V (omega arith)) (fun_ext (λ s. fun_ext (λ b. at s b (nat_lt s count) refl)))
  where
    at : (s b : ℕ) (t : Bool) → nat_lt s count ≡ t → (t && with_held widths cell value V (count + s) b) ≡ (t && V (count + s) b)
    at s b false e = refl
    at s b true e =
        let low : s < count = ltb-true s count e in
        let other : count + s ≢ cell = λ same. absurd (omega arith) in
        ap (λ f. f b) (with_held-other widths cell value V (count + s) other)

-- those past the signals' stay where the signals' are replaced
pub with_updates-past : (count : ℕ) (m : Updates) (V : Valuation) (c : ℕ) → count + count ≤ c → with_updates count m V c ≡ V c
with_updates-past count m V c past = fun_ext (λ b. rw (le-ltb c count (omega arith), le-ltb c (count + count) past) refl)

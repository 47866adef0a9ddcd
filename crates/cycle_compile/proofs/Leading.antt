-- Runs that lead on to one another, an instruction that was pushed as a step of them, and what stays in the cells.
use Rattle.std.proofs.Common.{◌≡◌, ◌≢◌, ℕ, ◌+◌, ◌-◌, ◌<◌, ◌≤◌, List, [], ◌∷◌, length, arith, refl, ◌∙◌, ap, subst, inl, inr}
use Rattle.std.specs.Prelude.{Bool, true, false, ◌&&◌, nat_lt, IsTrue, slice_get, Some}
use Rattle.std.proofs.Math.Path.{fun_ext}
use Rattle.std.proofs.lemmas.Bool.{cases_lt, ltb-true}
use Rattle.std.proofs.lemmas.List.{length-append}
use Rattle.design_core.specs.declared.expression.Typed.{Typed}
use Rattle.design_core.specs.declared.design.Design.{Design}
use Rattle.design_core.specs.Valuation.{Valuation, number}
use Rattle.design_core.specs.Value.{value}
use Rattle.design_core.specs.After.{Choice}
use Rattle.cycle_code.specs.declared.instruction.Instruction.{Instruction}
use Rattle.cycle_code.specs.Program.{Program, signals_of, count_of, Grown, with_instruction}
use Rattle.cycle_code.specs.Cells.{width_in, held, below, updates_in, HasConstants}
use Rattle.cycle_code.specs.Effects.{effect, next}
use Rattle.cycle_code.specs.Fitting.{fits, IsSound}
use Rattle.cycle_code.specs.Running.{run}
use Rattle.cycle_code.proofs.RunSteps.{run-step, next-below}
use Rattle.cycle_code.proofs.CellLaws.{updates-same}
use Rattle.cycle_code.proofs.GrowthLaws.{Grows-length, fits-grown, last-stands}
use Rattle.cycle_code.proofs.SoundLaws.{sound-cells}
use Rattle.cycle_code.proofs.ConstantLaws.{AreFree-grown, constants-effect}
use Rattle.cycle_compile.specs.Compiling.{is_leaf, value_in, Leads, Keeps, LeavesValue}

-- ---- runs
-- where nothing was pushed
pub Leads-none : {p : Program} {choice : Choice} (at : ℕ) {V : Valuation} → HasConstants p V → Leads p choice at V at V
Leads-none at has = record { leads_down = omega arith; run = λ to h. refl; constants = has }

-- one run after another
pub Leads-on : {p : Program} {choice : Choice} {a b c : ℕ} {V W X : Valuation} → Leads p choice a V b W
    → Leads p choice b W c X → Leads p choice a V c X
Leads-on {p} {choice} {a} {b} {c} {V} {W} {X} one other =
    let high : b ≤ a = one.leads_down in
    let low : c ≤ b = other.leads_down in
    record {
      leads_down = omega arith;
      run = λ to h. one.run to (omega arith) ∙ other.run to h;
      constants = other.constants;
    }

-- the same where the numbers are equal
pub Leads-at : {p : Program} {choice : Choice} {a b : ℕ} {V W : Valuation} (a' b' : ℕ) → a ≡ a' → b ≡ b'
    → Leads p choice a V b W → Leads p choice a' V b' W
Leads-at {p} {choice} {a} {b} {V} {W} a' b' one other leads =
    subst (λ n. Leads p choice a' V n W) other (subst (λ n. Leads p choice n V b W) one leads)

-- ---- an instruction that was pushed
pub length-pushed : (i : Instruction) (old new : Program) → new ≡ with_instruction i old
    → length new.instructions ≡ length old.instructions + 1
length-pushed i old new is = ap (λ (p : Program). length p.instructions) is ∙ length-append old.instructions (i ∷ [])

-- it stands at the old length
pub pushed-stands : (i : Instruction) (old new p : Program) → new ≡ with_instruction i old → Grown new p
    → slice_get p.instructions (length old.instructions) ≡ Some i
pushed-stands i old new p is grown =
    grown.instructions (length old.instructions) i
    (ap (λ (q : Program). slice_get q.instructions (length old.instructions)) is ∙ last-stands old.instructions i)

-- and is the first step from the new length
pub Leads-pushed : (i : Instruction) (old new p : Program) (choice : Choice) (V : Valuation) → new ≡ with_instruction i old
    → IsSound new → Grown new p
    → HasConstants p V → Leads p choice (length new.instructions) V (next p i (length old.instructions) V) (effect p choice i V)
Leads-pushed i old new p choice V is sound grown has =
    let q = length old.instructions in
    let size : length new.instructions ≡ q + 1 = length-pushed i old new is in
    let low : next p i q V ≤ q = next-below p i q V in
    let stands : slice_get p.instructions q ≡ Some i = pushed-stands i old new p is grown in
    let here : slice_get new.instructions q ≡ Some i =
    ap (λ (q' : Program). slice_get q'.instructions (length old.instructions)) is ∙ last-stands old.instructions i in
    let fitting : IsTrue (fits p q i) = fits-grown new p q i grown (sound.instructions q i here) in
    record {
      leads_down = omega arith;
      run = λ to h. step to (length new.instructions) q (omega arith) stands (omega arith);
      constants = constants-effect p choice q i V fitting (AreFree-grown new p grown sound.signals) has;
    }
  where
    step : (to at q : ℕ) → at ≡ q + 1 → slice_get p.instructions q ≡ Some i → to ≤ q
        → run p choice to at V ≡ run p choice to (next p i q V) (effect p choice i V)
    step to at q e stands h =
        let before : at - 1 ≡ q = omega arith in
        run-step p choice to at i V (omega arith) (ap (slice_get p.instructions) before ∙ stands)
        ∙ ap (λ n. run p choice to (next p i n V) (effect p choice i V)) before

-- ---- what stays
-- a program that has all that another one has has at least as many cells
pub widths-grown : (p q : Program) → Grown p q → length p.widths ≤ length q.widths
widths-grown p q grown = elim (cases_lt (length q.widths) (length p.widths)) [
  | inl less ↦ let more : length q.widths < length q.widths =
      Grows-length p.widths q.widths grown.widths (length q.widths) less in omega arith
  | inr high ↦ high
]

pub count-grown : (p q : Program) → Grown p q → count_of q ≡ count_of p
count-grown p q grown = ap (λ (d : Design). length d.signals.items) grown.design

pub Keeps-on : (count : ℕ) (V W X : Valuation) → Keeps count V W → Keeps count W X → Keeps count V X
Keeps-on count V W X one other c b h = other c b h ∙ one c b h

pub Keeps-fewer : (fewer count : ℕ) (V W : Valuation) → fewer ≤ count → Keeps count V W → Keeps fewer V W
Keeps-fewer fewer count V W less keeps c b h = keeps c b (omega arith)

pub held-kept : (widths : List ℕ) (count : ℕ) (V W : Valuation) (cell : ℕ) → cell < count → Keeps count V W
    → held widths W cell ≡ held widths V cell
held-kept widths count V W cell h keeps = ap (number (width_in widths cell)) (fun_ext (λ b. keeps cell b h))

-- the words that are read stay where all cells stay
pub below-kept : (signals count : ℕ) (V W : Valuation) → signals ≤ count → Keeps count V W → below signals W ≡ below signals V
below-kept signals count V W less keeps = fun_ext (λ s. fun_ext (λ b. at s b (nat_lt s signals) refl))
  where
    at : (s b : ℕ) (t : Bool) → nat_lt s signals ≡ t → (t && W s b) ≡ (t && V s b)
    at s b false e = refl
    at s b true e = let low : s < signals = ltb-true s signals e in keeps s b (omega arith)

-- and those of later updates
pub updates_in-kept : (signals count : ℕ) (V W : Valuation) → signals + signals ≤ count → Keeps count V W
    → updates_in signals W ≡ updates_in signals V
updates_in-kept signals count V W less keeps =
    updates-same (below-kept signals count V W (omega arith) keeps)
    (below-kept signals (count - signals) (λ s. V (signals + s)) (λ s. W (signals + s)) (omega arith)
    (λ c b h. keeps (signals + c) b (omega arith)))

-- the value of an expression, where all cells of a sound program stay
pub value_in-kept : (old p : Program) (V W : Valuation) (e : Typed) → IsSound old → Grown old p → Keeps (length old.widths) V W
    → value_in p W e ≡ value_in p V e
value_in-kept old p V W e sound grown keeps =
    let most : count_of old + count_of old + count_of old ≤ length old.widths = sound-cells old sound in
    let same : count_of p ≡ count_of old = count-grown old p grown in
    ap (λ U. value (signals_of p) U e) (below-kept (count_of p) (length old.widths) V W (omega arith) keeps)

-- the computing of an expression into a cell that it was given keeps each cell that was there before it was given
pub Keeps-placed : {p : Program} {choice : Choice} {old new : Program} {e : Typed} {cell : ℕ} {V : Valuation} (before : Program)
    → Grown before old → (is_leaf e.node ≡ false → length before.widths ≤ cell) → (leaves : LeavesValue p choice old new e cell V)
    → Keeps (length before.widths) V leaves.W
Keeps-placed {p} {choice} {old} {new} {e} {cell} {V} before grown fresh leaves = by (is_leaf e.node) refl
  where
    by : (b : Bool) → is_leaf e.node ≡ b → Keeps (length before.widths) V leaves.W
    by true leaf c b h = let most = widths-grown before old grown in leaves.still leaf c b (omega arith)
    by false inner c b h =
        let most = widths-grown before old grown in
        let past : length before.widths ≤ cell = fresh inner in
        let other : c ≢ cell = λ same. absurd (omega arith) in
        leaves.keeps c b (omega arith) other

-- Pieces of a driver, one after another, and the range of all of them.
use Rattle.std.proofs.Common.{◌≡◌, ℕ, ◌+◌, ◌-◌, ◌<◌, ◌≤◌, List, ◌∷◌, length, drop, arith, sym, refl, ◌∙◌, ap, subst, inl, inr}
use Rattle.std.specs.Prelude.{Bool, true, false, ◌&&◌, ◌==◌, if◌then◌else◌, nat_le, nat_lt, slice_get, Some}
use Rattle.std.proofs.Math.Path.{fun_ext}
use Rattle.std.proofs.lemmas.Bool.{and_parts, cases_lt, eqb-true, lt-ltb, ltb-true}
use Rattle.design_core.specs.declared.design.Design.{Design}
use Rattle.design_core.specs.declared.statement.Stmt.{Stmt}
use Rattle.design_core.specs.Valuation.{Valuation, bit}
use Rattle.design_core.specs.Store.{with_bits}
use Rattle.design_core.specs.After.{Choice}
use Rattle.design_core.specs.Drives.{is_driven}
use Rattle.design_core.specs.Steps.{with_drivers}
use Rattle.cycle_code.specs.declared.instruction.Instruction.{Instruction}
use Rattle.cycle_code.specs.Program.{Program, count_of, Grown, with_instruction}
use Rattle.cycle_code.specs.Cells.{width_in, updates_in, with_held, HasConstants}
use Rattle.cycle_code.specs.Effects.{effect, next}
use Rattle.cycle_code.specs.Fitting.{IsSound}
use Rattle.cycle_code.specs.Running.{run}
use Rattle.cycle_code.proofs.RunSteps.{run-end}
use Rattle.cycle_code.proofs.CellLaws.{with_held-other}
use Rattle.cycle_code.proofs.GrowthLaws.{Grows-length, Grown-refl, Grown-trans}
use Rattle.cycle_code.proofs.SoundLaws.{sound-cells}
use Rattle.cycle_compile.specs.Compiling.{Leads, Keeps, Runs}
use Rattle.cycle_compile.proofs.Leading.{Leads-none, Leads-on, Leads-at, Leads-pushed, widths-grown, count-grown, below-kept}
use Rattle.plain_sim.specs.EvaluateCycle.{blended}
use Rattle.plain_sim.proofs.EvaluateSteps.{drop-some}
use Rattle.design_core.specs.Constant.{zeros}
use Rattle.cycle_sim.specs.declared.mask.Mask.{Mask}
use Rattle.cycle_code.specs.declared.range.Range.{Range}
use Rattle.cycle_sim.specs.Masks.{covers, in_mask}
use Rattle.cycle_sim.proofs.Blending.{blended-next}
use Rattle.cycle_sim.specs.Compiled.{now_in, later_in, room_in, Untouched, Turned, Pushes, Spares, Carries, Drives, none, masked_now, cleared_now, number_now, numbers_now}

-- ---- pieces
-- where nothing was pushed
pub Pushes-none : (old : Program) → Pushes old old (λ p choice V. now_in p V) none
Pushes-none old = record {
  grown = Grown-refl old;
  leaves = λ p choice V grown has. record {
    W = V;
    leads = Leads-none (length old.instructions) has;
    turned = record { now = refl; later = λ s b off. refl; keeps = λ cell b from to. refl };
  };
}

-- cells that are turned twice
pub Turned-on : (p : Program) (fewer count : ℕ) (middle now : Valuation) (one other both : ℕ → ℕ → Bool) (V W X : Valuation) → fewer ≤ count
    → Turned p count middle one V W → Turned p fewer now other W X
    → ((s b : ℕ) → both s b ≡ false → (one s b ≡ false) × (other s b ≡ false)) → Turned p fewer now both V X
Turned-on p fewer count middle now one other both V W X less first second off = record {
  now = second.now;
  later = λ s b none. second.later s b (off s b none).1 ∙ first.later s b (off s b none).0;
  keeps = λ cell b from to. second.keeps cell b from to ∙ first.keeps cell b from (omega arith);
}

-- what was pushed later runs first
pub Pushes-on : (old middle new : Program) (first second whole : Program → Choice → Valuation → Valuation) (one other both : ℕ → ℕ → Bool)
    → Pushes old middle second other → Pushes middle new first one
    → ((p : Program) (choice : Choice) (V W : Valuation) → Grown new p → Turned p (length middle.widths) (first p choice V) one V W
    → second p choice W ≡ whole p choice V)
    → ((s b : ℕ) → both s b ≡ false → (one s b ≡ false) × (other s b ≡ false)) → Pushes old new whole both
Pushes-on old middle new first second whole one other both lower upper join off = record {
  grown = Grown-trans old middle new lower.grown upper.grown;
  leaves = λ p choice V grown has.
      let begin = upper.leaves p choice V grown has in
      let rest = lower.leaves p choice begin.W (Grown-trans middle new p upper.grown grown) begin.leads.constants in
      record {
        W = rest.W;
        leads = Leads-on begin.leads rest.leads;
        turned = subst (λ N. Turned p (length old.widths) N both V rest.W) (join p choice V begin.W grown begin.turned)
            (Turned-on p (length old.widths) (length middle.widths) (first p choice V) (second p choice begin.W) one other
            both V begin.W rest.W
            (widths-grown old middle lower.grown) begin.turned rest.turned off);
      };
}

-- one instruction
pub Pushes-one : (i : Instruction) (old new : Program) (now : Program → Choice → Valuation → Valuation)
    → new ≡ with_instruction i old → IsSound new → Grown old new
    → ((p : Program) (q : ℕ) (V : Valuation) → next p i q V ≡ q)
    → ((p : Program) (choice : Choice) (V : Valuation) → Grown new p → HasConstants p V
    → Turned p (length old.widths) (now p choice V) none V (effect p choice i V))
    → Pushes old new now none
Pushes-one i old new now is sound more on turned = record {
  grown = more;
  leaves = λ p choice V grown has. record {
    W = effect p choice i V;
    leads = Leads-at (length new.instructions) (length old.instructions) refl (on p (length old.instructions) V)
        (Leads-pushed i old new p choice V is sound grown has);
    turned = turned p choice V grown has;
  };
}

-- one more driver, which runs before the others
pub drivers-more : (old middle new : Program) (i k : ℕ) (order : List ℕ) (d : Design) → 0 < k → slice_get order (k - 1) ≡ Some i
    → Pushes old middle (numbers_now (drop k order)) (is_driven d) → Pushes middle new (number_now i) (is_driven d)
    → Pushes old new (numbers_now (drop (k - 1) order)) (is_driven d)
drivers-more old middle new i k order d some at lower upper =
    Pushes-on old middle new (number_now i) (numbers_now (drop k order)) (numbers_now (drop (k - 1) order)) (is_driven d)
    (is_driven d) (is_driven d) lower upper
    (λ p choice V W grown turned.
    ap (with_drivers p.design choice (drop k order)) turned.now
    ∙ ap (λ n. with_drivers p.design choice (i ∷ drop n order) (now_in p V)) again
    ∙ sym (ap (λ is. with_drivers p.design choice is (now_in p V)) (drop-some order (k - 1) i at)))
    (λ s b off. (off, off))
  where
    again : k ≡ k - 1 + 1
    again = omega arith

-- and one more mask
pub masks-more : (old middle new : Program) (m : Mask) (k : ℕ) (masks : List Mask) → 0 < k → slice_get masks (k - 1) ≡ Some m
    → Pushes old middle (cleared_now (drop k masks)) none → Pushes middle new (masked_now m) none
    → Pushes old new (cleared_now (drop (k - 1) masks)) none
masks-more old middle new m k masks some at lower upper =
    Pushes-on old middle new (masked_now m) (cleared_now (drop k masks)) (cleared_now (drop (k - 1) masks)) none none none lower upper
    (λ p choice V W grown turned.
    ap (blended (covers (drop k masks)) zeros) turned.now
    ∙ ap (λ n. blended (covers (drop n masks)) zeros (blended (in_mask m) zeros (now_in p V))) again
    ∙ blended-next masks (k - 1) m zeros (now_in p V) at)
    (λ s b off. (refl, refl))
  where
    again : k ≡ k - 1 + 1
    again = omega arith

-- the number of a signal is written
pub now-put : (p : Program) (signal n : ℕ) (V : Valuation) (width : ℕ) → signal < count_of p
    → now_in p (with_bits V signal 0 width (bit n)) ≡ with_bits (now_in p V) signal 0 width (bit n)
now-put p signal n V width low = fun_ext (λ s. fun_ext (λ b. at s b (s == signal && nat_le 0 b && nat_lt b (0 + width)) refl))
  where
    at : (s b : ℕ) (t : Bool) → (s == signal && nat_le 0 b && nat_lt b (0 + width)) ≡ t
        → (nat_lt s (count_of p) && (if t then bit n (b - 0) else V s b)) ≡ (if t then bit n (b - 0) else (nat_lt s (count_of p) && V s b))
    at s b false e = refl
    at s b true e =
        let same : s ≡ signal = eqb-true s signal
        (and_parts (s == signal) (nat_le 0 b) (and_parts (s == signal && nat_le 0 b) (nat_lt b (0 + width)) e).0).0 in
        ap (λ t. t && bit n (b - 0)) (lt-ltb s (count_of p) (omega arith))

-- and the other cells stay
pub Turned-put : (p : Program) (signal n count : ℕ) (V : Valuation) (now : Valuation) → signal < count_of p
    → with_bits (now_in p V) signal 0 (width_in p.widths signal) (bit n) ≡ now
    → Turned p count now none V (with_held p.widths signal n V)
Turned-put p signal n count V now low is = record {
  now = now-put p signal n V (width_in p.widths signal) low ∙ is;
  later = λ s b off. ap (λ t. t) (shifted s b (nat_lt s (count_of p)));
  keeps = λ cell b from to. ap (λ f. f b) (with_held-other p.widths signal n V cell (λ same. absurd (omega arith)));
}
  where
    shifted : (s b : ℕ) (t : Bool) → (t && with_held p.widths signal n V (count_of p + s) b) ≡ (t && V (count_of p + s) b)
    shifted s b t = ap (λ f. t && f b) (with_held-other p.widths signal n V (count_of p + s) (λ same. absurd (omega arith)))

-- the computing of an operand leaves all that was there before its cell was given
pub Turned-kept : (p : Program) (count : ℕ) (V W : Valuation) → count_of p + count_of p ≤ count → Keeps count V W
    → Turned p count (now_in p V) none V W
Turned-kept p count V W most keeps = record {
  now = below-kept (count_of p) count V W (omega arith) keeps;
  later = λ s b off. ap (λ f. f s b) (below-kept (count_of p) (count - count_of p) (λ s. V (count_of p + s))
      (λ s. W (count_of p + s)) (omega arith) (λ c b h. keeps (count_of p + c) b (omega arith)));
  keeps = λ cell b from to. keeps cell b to;
}

-- ---- ranges
-- the room is among the cells that stay
room-stays : (p old : Program) (V W : Valuation) → IsSound old → Grown old p → Untouched (count_of p + count_of p) (length old.widths) V W
    → room_in p W ≡ room_in p V
room-stays p old V W sound grown keeps =
    let most : count_of old + count_of old + count_of old ≤ length old.widths = sound-cells old sound in
    let same : count_of p ≡ count_of old = count-grown old p grown in
    fun_ext (λ s. fun_ext (λ b. at s b (nat_lt s (count_of p)) refl (omega arith)))
  where
    at : (s b : ℕ) (t : Bool) → nat_lt s (count_of p) ≡ t → count_of p + count_of p + count_of p ≤ length old.widths
        → (t && W (count_of p + count_of p + s) b) ≡ (t && V (count_of p + count_of p + s) b)
    at s b false e most = refl
    at s b true e most =
        let low : s < count_of p = ltb-true s (count_of p) e in
        keeps (count_of p + count_of p + s) b (omega arith) (omega arith)

-- where a run of a range ends
ended : (p : Program) (choice : Choice) (at lower : ℕ) (V W : Valuation) → Leads p choice at V lower W → run p choice lower at V ≡ W
ended p choice at lower V W leads = leads.run lower (omega arith) ∙ run-end p choice lower lower W (omega arith)

-- a statement that was pushed
pub Carries-pushed : (old new : Program) (range : Range) (statement : Stmt) → IsSound old
    → range.from ≡ length new.instructions → range.to ≡ length old.instructions
    → Runs old new statement → Carries new range statement
Carries-pushed old new range statement sound from to runs = record {
  within = omega (arith, from);
  updates = λ q choice V grown has.
      let left = runs.leaves q choice V grown has in
      ap (updates_in (count_of q)) (same q choice V left.W left.leads) ∙ left.updates;
  spares = λ q choice V grown has.
      let left = runs.leaves q choice V grown has in
      subst (Spares q V) (sym (same q choice V left.W left.leads))
      (record {
        room = room-stays q old V left.W sound (Grown-trans old new q runs.grown grown) left.keeps;
        constants =
            left.leads.constants;
      });
}
  where
    same : (q : Program) (choice : Choice) (V W : Valuation) → Leads q choice (length new.instructions) V (length old.instructions) W
        → run q choice range.to range.from V ≡ W
    same q choice V W leads =
        ap (λ n. run q choice n range.from V) to ∙ ap (λ n. run q choice (length old.instructions) n V) from
        ∙ ended q choice (length new.instructions) (length old.instructions) V W leads

-- drivers that were pushed
pub Drives-pushed : (old new : Program) (range : Range) (order : List ℕ) (d : Design) → IsSound old → old.design ≡ d
    → range.from ≡ length new.instructions
    → range.to ≡ length old.instructions
    → Pushes old new (λ p choice V. with_drivers p.design choice order (now_in p V)) (is_driven d) → Drives new range order
Drives-pushed old new range order d sound is from to pushes = record {
  within = omega (arith, from);
  now = λ q choice V grown has.
      let left = pushes.leaves q choice V grown has in
      ap (now_in q) (same q choice V left.W left.leads) ∙ left.turned.now;
  later = λ q choice V grown has s b off.
      let left = pushes.leaves q choice V grown has in
      ap (λ X. later_in q X s b) (same q choice V left.W left.leads)
      ∙ left.turned.later s b (ap (λ x. is_driven x s b) (sym ((Grown-trans old new q pushes.grown grown).design ∙ is)) ∙ off);
  spares = λ q choice V grown has.
      let left = pushes.leaves q choice V grown has in
      subst (Spares q V) (sym (same q choice V left.W left.leads))
      (record {
        room = room-stays q old V left.W sound (Grown-trans old new q pushes.grown grown) left.turned.keeps;
        constants = left.leads.constants;
      });
}
  where
    same : (q : Program) (choice : Choice) (V W : Valuation) → Leads q choice (length new.instructions) V (length old.instructions) W
        → run q choice range.to range.from V ≡ W
    same q choice V W leads =
        ap (λ n. run q choice n range.from V) to ∙ ap (λ n. run q choice (length old.instructions) n V) from
        ∙ ended q choice (length new.instructions) (length old.instructions) V W leads

-- ---- as a program grows
-- it has at least as many instructions
pub steps-grown : (p q : Program) → Grown p q → length p.instructions ≤ length q.instructions
steps-grown p q grown = elim (cases_lt (length q.instructions) (length p.instructions)) [
  | inl less ↦ let more : length q.instructions < length q.instructions =
      Grows-length p.instructions q.instructions grown.instructions (length q.instructions) less in omega arith
  | inr high ↦ high
]

pub Carries-grown : (p q : Program) (range : Range) (statement : Stmt) → Grown p q → Carries p range statement → Carries q range statement
Carries-grown p q range statement grown carries =
    let more = steps-grown p q grown in
    let within : range.from ≤ length p.instructions = carries.within in
    record {
      within = omega arith;
      updates = λ r choice V after has. carries.updates r choice V (Grown-trans p q r grown after) has;
      spares = λ r choice V after has. carries.spares r choice V (Grown-trans p q r grown after) has;
    }

pub Drives-grown : (p q : Program) (range : Range) (order : List ℕ) → Grown p q → Drives p range order → Drives q range order
Drives-grown p q range order grown drives =
    let more = steps-grown p q grown in
    let within : range.from ≤ length p.instructions = drives.within in
    record {
      within = omega arith;
      now = λ r choice V after has. drives.now r choice V (Grown-trans p q r grown after) has;
      later = λ r choice V after has. drives.later r choice V (Grown-trans p q r grown after) has;
      spares = λ r choice V after has. drives.spares r choice V (Grown-trans p q r grown after) has;
    }

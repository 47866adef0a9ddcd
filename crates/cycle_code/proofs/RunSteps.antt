-- The steps of a run: its end, one instruction, and that more of them than its number change nothing.
use Rattle.std.proofs.Common.{◌≡◌, ℕ, zero, suc, ◌-◌, ◌<◌, ◌≤◌, arith, sym, refl, ◌∙◌, ap}
use Rattle.std.specs.Prelude.{Bool, true, false, not, ◌==◌, bit_or, if◌then◌else◌, nat_le, slice_get, Option, Some, None}
use Rattle.std.specs.Option.{option_map_or}
use Rattle.std.proofs.lemmas.Bool.{le-leb, lt-leb, leb-true}
use Rattle.design_core.specs.Valuation.{Valuation}
use Rattle.design_core.specs.After.{Choice}
use Rattle.cycle_code.specs.declared.instruction.Instruction.{Instruction}
use Rattle.cycle_code.specs.declared.instruction.Instruction.TheVariants.{Jump, JumpIf, JumpUnless, JumpEqual, JumpUnlike, JumpNoMatch, Move, Slice, Join, Repeat, Resize, Unary, Binary, Add, Subtract, And, Or, Xor, Not, Equal, Unlike, Value, Set, Put, Assign, Store}
use Rattle.cycle_code.specs.Program.{Program}
use Rattle.design_core.specs.Operator.{is_true}
use Rattle.cycle_code.specs.Effects.{held_in, effect, next, jumped}
use Rattle.cycle_code.specs.Running.{run_for, run}

-- ---- where a run goes on
-- a jump leads down
jumped-below : (q to : ℕ) (jumps : Bool) → jumped q to jumps ≤ q
jumped-below q to false = omega arith
jumped-below q to true = at (nat_le to q) refl
  where
    at : (b : Bool) → nat_le to q ≡ b → (if b then to else q) ≤ q
    at true e = leb-true to q e
    at false e = omega arith

-- it leads where it says, where that is no higher
pub jumped-at : (q to : ℕ) (jumps : Bool) → to ≤ q → jumped q to jumps ≡ (if jumps then to else q)
jumped-at q to false h = refl
jumped-at q to true h = rw (le-leb to q h) refl

-- no instruction leads up
pub next-below : (p : Program) (i : Instruction) (q : ℕ) (V : Valuation) → next p i q V ≤ q
next-below p (Jump to) q V = jumped-below q to true
next-below p (JumpIf cell to) q V = jumped-below q to (is_true (held_in p V cell))
next-below p (JumpUnless cell to) q V = jumped-below q to (not (is_true (held_in p V cell)))
next-below p (JumpEqual left right to) q V = jumped-below q to (held_in p V left == held_in p V right)
next-below p (JumpUnlike left right to) q V = jumped-below q to (not (held_in p V left == held_in p V right))
next-below p (JumpNoMatch subject label wild to) q V =
    jumped-below q to (not (bit_or (held_in p V subject) (held_in p V wild) == bit_or (held_in p V label) (held_in p V wild)))
next-below p (Move from to) q V = omega arith
next-below p (Slice arg from width to) q V = omega arith
next-below p (Join high low to) q V = omega arith
next-below p (Repeat times part to) q V = omega arith
next-below p (Resize arg signed to) q V = omega arith
next-below p (Unary op arg to) q V = omega arith
next-below p (Binary op left left_signed right right_signed to) q V = omega arith
next-below p (Add left right to) q V = omega arith
next-below p (Subtract left right to) q V = omega arith
next-below p (And left right to) q V = omega arith
next-below p (Or left right to) q V = omega arith
next-below p (Xor left right to) q V = omega arith
next-below p (Not arg to) q V = omega arith
next-below p (Equal left right to) q V = omega arith
next-below p (Unlike left right to) q V = omega arith
next-below p (Value tree to) q V = omega arith
next-below p (Set place value to) q V = omega arith
next-below p (Put value to) q V = omega arith
next-below p (Assign target place value later) q V = omega arith
next-below p (Store target value later) q V = omega arith

-- ---- a run
run_for-end : (fuel : ℕ) (p : Program) (choice : Choice) (to at : ℕ) (V : Valuation) → at ≤ to → run_for fuel p choice to at V ≡ V
unfolding run_for
run_for-end zero p choice to at V h = refl
run_for-end (suc fuel) p choice to at V h = rw (le-leb at to h) refl

-- more instructions than the number of the first one change nothing
pub run_for-enough : (fuel more : ℕ) (p : Program) (choice : Choice) (to at : ℕ) (V : Valuation) → at ≤ fuel → at ≤ more
    → run_for fuel p choice to at V ≡ run_for more p choice to at V
unfolding run_for
run_for-enough zero more p choice to at V one other = sym (run_for-end more p choice to at V (omega arith))
run_for-enough (suc fuel) zero p choice to at V one other = run_for-end (suc fuel) p choice to at V (omega arith)
run_for-enough (suc fuel) (suc more) p choice to at V one other =
    test (λ V' q low. run_for-enough fuel more p choice to q V' (omega arith) (omega arith)) (nat_le at to) refl
  where
    same : ((V' : Valuation) (q : ℕ) → q ≤ at - 1 → run_for fuel p choice to q V' ≡ run_for more p choice to q V')
        → (o : Option Instruction)
        → option_map_or (λ i. run_for fuel p choice to (next p i (at - 1) V) (effect p choice i V)) o V
        ≡ option_map_or (λ i. run_for more p choice to (next p i (at - 1) V) (effect p choice i V)) o V
    same left None = refl
    same left (Some i) = left (effect p choice i V) (next p i (at - 1) V) (next-below p i (at - 1) V)

    test : ((V' : Valuation) (q : ℕ) → q ≤ at - 1 → run_for fuel p choice to q V' ≡ run_for more p choice to q V')
        → (b : Bool) → nat_le at to ≡ b
        → (if b then V else option_map_or (λ i. run_for fuel p choice to (next p i (at - 1) V) (effect p choice i V))
        (slice_get p.instructions (at - 1)) V)
        ≡ (if b then V else option_map_or (λ i. run_for more p choice to (next p i (at - 1) V) (effect p choice i V))
        (slice_get p.instructions (at - 1)) V)
    test left true e = refl
    test left false e = same left (slice_get p.instructions (at - 1))

-- the end of a run
pub run-end : (p : Program) (choice : Choice) (to at : ℕ) (V : Valuation) → at ≤ to → run p choice to at V ≡ V
unfolding run
run-end p choice to at V h = run_for-end at p choice to at V h

-- one instruction of a run
pub run-step : (p : Program) (choice : Choice) (to at : ℕ) (i : Instruction) (V : Valuation)
    → to < at → slice_get p.instructions (at - 1) ≡ Some i
    → run p choice to at V ≡ run p choice to (next p i (at - 1) V) (effect p choice i V)
unfolding run run_for
run-step p choice to zero i V h is = absurd (omega arith)
run-step p choice to (suc k) i V h is =
    let low : next p i (suc k - 1) V ≤ suc k - 1 = next-below p i (suc k - 1) V in
    ap (λ b. if b then V else option_map_or (λ j. run_for k p choice to (next p j (suc k - 1) V) (effect p choice j V))
    (slice_get p.instructions (suc k - 1)) V)
    (lt-leb (suc k) to h)
    ∙ ap (λ o. option_map_or (λ j. run_for k p choice to (next p j (suc k - 1) V) (effect p choice j V)) o V) is
    ∙ run_for-enough k (next p i (suc k - 1) V) p choice to (next p i (suc k - 1) V) (effect p choice i V) (omega arith) (omega arith)

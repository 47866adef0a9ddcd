-- Constants hold what they held before the first run: no instruction that fits writes one.
use Rattle.std.proofs.Common.{◌≡◌, ◌≢◌, ℕ, zero, suc, ◌+◌, ◌-◌, ◌*◌, ◌<◌, ◌≤◌, List, length, map, arith, sym, refl, ◌∙◌, ap, inl, inr}
use Rattle.std.specs.Prelude.{Bool, true, false, if◌then◌else◌, nat_le, IsTrue, slice_get, Option, Some, None, option_map}
use Rattle.std.specs.Option.{option_map_or}
use Rattle.std.proofs.lemmas.Bool.{and_parts}
use Rattle.std.proofs.lemmas.Option.{slice_get_within, slice_get-map}
use Rattle.std.proofs.lemmas.Bool.{cases_lt, lt-ltb}
use Rattle.loc_base.proofs.ShelfOptions.{Some-same, option_map-some}
use Rattle.loc_base.specs.declared.bits.Bits.{Bits}
use Rattle.loc_base.specs.Bits.{width_of, value_of}
use Rattle.design_core.specs.declared.expression.UnaryOp.TheVariants as unary_op
use Rattle.design_core.specs.declared.expression.BinaryOp.{BinaryOp}
use Rattle.design_core.specs.declared.expression.BinaryOp.TheVariants as binary_op
use Rattle.design_core.specs.declared.expression.Typed.{Typed}
use Rattle.design_core.specs.declared.statement.Part.{Part}
use Rattle.design_core.specs.declared.design.Design.{Design}
use Rattle.design_core.specs.Valuation.{Valuation, number, bit}
use Rattle.design_core.specs.After.{Choice, Updates, assigned, after_set}
use Rattle.design_core.specs.Value.{value}
use Rattle.design_core.specs.Words.{valuation_of}
use Rattle.plain_values.proofs.EvaluateWords.{number-word}
use Rattle.cycle_code.specs.declared.code.Code.{Code}
use Rattle.cycle_code.specs.declared.instruction.Instruction.{Instruction}
use Rattle.cycle_code.specs.declared.instruction.Instruction.TheVariants.{Jump, JumpIf, JumpUnless, JumpEqual, JumpUnlike, JumpNoMatch, Move, Slice, Join, Repeat, Resize, Unary, Binary, Add, Subtract, And, Or, Xor, Not, Equal, Unlike, Value, Set, Put, Assign, Store}
use Rattle.cycle_code.specs.Program.{Program, signals_of, count_of, program_of, Grown}
use Rattle.cycle_code.specs.Cells.{width_in, held, below, updates_in, with_updates, HasConstants}
use Rattle.cycle_code.specs.Effects.{held_in, with_held_in, with_operated, with_assigned, effect, next}
use Rattle.cycle_code.specs.Fitting.{is_cell, is_open, is_own, has_width, is_place, tree_fits, operands_fit, fits, IsSound}
use Rattle.cycle_code.specs.Running.{run_for, run}
use Rattle.cycle_code.proofs.CellLaws.{held-with_other, with_updates-past}
use Rattle.cycle_code.proofs.GrowthLaws.{width_in-grown, is_open-free, is_own-open, of_three, of_four, of_five, operand_fits-parts, operands_fit-parts}

-- the first cells, those of the signals, are no constants
abbrev pub AreFree : Program → Type 0
AreFree p = (cell : ℕ) → cell < count_of p + count_of p + count_of p → slice_get p.fixed cell ≡ Some false

-- they go on to be none
pub AreFree-grown : (p r : Program) → Grown p r → AreFree p → AreFree r
AreFree-grown p r grown free cell h =
    let same : count_of r ≡ count_of p = ap (λ (d : Design). length d.signals.items) grown.design in
    grown.fixed cell false (free cell (omega arith))

-- ---- an instruction
-- a write to a cell that is no constant
constants-written : (p : Program) (cell n : ℕ) (V : Valuation) → IsTrue (is_open p cell) → HasConstants p V
    → HasConstants p (with_held_in p cell n V)
constants-written p cell n V unfixed has = record {
  constants = λ c w fixed is.
      let other : c ≢ cell = λ same. absurd (differ (Some-same (sym fixed ∙ ap (slice_get p.fixed) same ∙ is_open-free p cell unfixed))) in
      held-with_other p.widths cell n V c other ∙ has.constants c w fixed is;
}
  where
    differ : true ≡ false → ⊥
    differ same = absurd cc

-- a write to the cells of the signals
constants-assigned : (p : Program) (m : Updates) (V : Valuation) → AreFree p → HasConstants p V
    → HasConstants p (with_updates (count_of p) m V)
constants-assigned p m V free has = record {
  constants = λ c w fixed is.
      ap (number (width_in p.widths c)) (with_updates-past (count_of p) m V c (past c fixed)) ∙ has.constants c w fixed is;
}
  where
    differ : true ≡ false → ⊥
    differ same = absurd cc

    past : (c : ℕ) → slice_get p.fixed c ≡ Some true → count_of p + count_of p ≤ c
    past c fixed = elim (cases_lt c (count_of p + count_of p)) [
      | inl low ↦ absurd (differ (Some-same (sym fixed ∙ free c (omega arith))))
      | inr high ↦ high
    ]

-- a write to the cell of an operator
constants-operated : (p : Program) (op : BinaryOp) (left right to : ℕ) (V : Valuation)
    → IsTrue (operands_fit p op left right to) → HasConstants p V
    → HasConstants p (with_operated p op left right to V)
constants-operated p op left right to V h has =
    constants-written p to _ V (is_own-open p to (operands_fit-parts p op left right to h).0) has

-- constants stay
pub constants-effect : (p : Program) (choice : Choice) (q : ℕ) (i : Instruction) (V : Valuation) → IsTrue (fits p q i)
    → AreFree p → HasConstants p V
    → HasConstants p (effect p choice i V)
constants-effect p choice q (Jump lower) V h free has = has
constants-effect p choice q (JumpIf cell lower) V h free has = has
constants-effect p choice q (JumpUnless cell lower) V h free has = has
constants-effect p choice q (JumpEqual left right lower) V h free has = has
constants-effect p choice q (JumpUnlike left right lower) V h free has = has
constants-effect p choice q (JumpNoMatch subject label wild lower) V h free has = has
constants-effect p choice q (Move from to) V h free has =
    let t = of_three (is_own p to) (is_cell p from) (has_width p from (width_in p.widths to)) h in
    constants-written p to _ V (is_own-open p to t.0) has
constants-effect p choice q (Slice arg from width to) V h free has =
    let t = of_five (is_own p to) (is_cell p arg) (nat_le 1 width) (has_width p to width)
    (nat_le (from + width) (width_in p.widths arg)) h in
    constants-written p to _ V (is_own-open p to t.0) has
constants-effect p choice q (Join high low to) V h free has =
    let t = of_four (is_own p to) (is_cell p high) (is_cell p low) (has_width p to (width_in p.widths high + width_in p.widths low)) h in
    constants-written p to _ V (is_own-open p to t.0) has
constants-effect p choice q (Repeat times part to) V h free has =
    let t = of_four (is_own p to) (is_cell p part) (nat_le 1 times) (has_width p to (times * width_in p.widths part)) h in
    constants-written p to _ V (is_own-open p to t.0) has
constants-effect p choice q (Resize arg signed to) V h free has =
    let t = and_parts (is_own p to) (is_cell p arg) h in
    constants-written p to _ V (is_own-open p to t.0) has
constants-effect p choice q (Unary op arg to) V h free has =
    constants-written p to _ V (is_own-open p to (operand_fits-parts p op arg to h).0) has
constants-effect p choice q (Binary op left left_signed right right_signed to) V h free has =
    constants-written p to _ V (is_own-open p to (operands_fit-parts p op left right to h).0) has
constants-effect p choice q (Add left right to) V h free has = constants-operated p binary_op.Add left right to V h has
constants-effect p choice q (Subtract left right to) V h free has = constants-operated p binary_op.Subtract left right to V h has
constants-effect p choice q (And left right to) V h free has = constants-operated p binary_op.And left right to V h has
constants-effect p choice q (Or left right to) V h free has = constants-operated p binary_op.Or left right to V h has
constants-effect p choice q (Xor left right to) V h free has = constants-operated p binary_op.Xor left right to V h has
constants-effect p choice q (Not arg to) V h free has =
    constants-written p to _ V (is_own-open p to (operand_fits-parts p unary_op.Not arg to h).0) has
constants-effect p choice q (Equal left right to) V h free has = constants-operated p binary_op.Equal left right to V h has
constants-effect p choice q (Unlike left right to) V h free has = constants-operated p binary_op.NotEqual left right to V h has
constants-effect p choice q (Value tree to) V h free has =
    let t = and_parts (is_own p to) (option_map_or (tree_fits p (width_in p.widths to)) (slice_get p.trees tree) false) h in
    found (slice_get p.trees tree) (is_own-open p to t.0)
  where
    found : (o : Option Typed) → IsTrue (is_open p to)
        → HasConstants p (option_map_or (λ e. with_held_in p to (value (signals_of p) (below (count_of p) V) e) V) o V)
    found None unfixed = has
    found (Some e) unfixed = constants-written p to (value (signals_of p) (below (count_of p) V) e) V unfixed has
constants-effect p choice q (Set place value to) V h free has =
    let t = of_three (is_open p to) (is_cell p value) (is_place p place) h in
    constants-written p to _ V t.0 has
constants-effect p choice q (Put value to) V h free has =
    let t = and_parts (is_open p to) (is_cell p value) h in
    constants-written p to _ V t.0 has
constants-effect p choice q (Assign target place value later) V h free has = found (slice_get p.targets target)
  where
    found : (o : Option (List Part))
        → HasConstants p (option_map_or (λ parts. with_assigned p parts (assigned choice place (held_in p V value)) later V) o V)
    found None = has
    found (Some parts) =
        constants-assigned p (after_set (signals_of p) parts (bit (assigned choice place (held_in p V value))) later
        (updates_in (count_of p) V)) V free has
constants-effect p choice q (Store target value later) V h free has = found (slice_get p.targets target)
  where
    found : (o : Option (List Part)) → HasConstants p (option_map_or (λ parts. with_assigned p parts (held_in p V value) later V) o V)
    found None = has
    found (Some parts) =
        constants-assigned p (after_set (signals_of p) parts (bit (held_in p V value)) later (updates_in (count_of p) V)) V free has

-- ---- a run
constants-run_for : (fuel : ℕ) (p : Program) (choice : Choice) (to at : ℕ) (V : Valuation) → IsSound p → HasConstants p V
    → HasConstants p (run_for fuel p choice to at V)
unfolding run_for
constants-run_for zero p choice to at V sound has = has
constants-run_for (suc fuel) p choice to at V sound has =
    test (λ V' q held. constants-run_for fuel p choice to q V' sound held) (nat_le at to)
  where
    found : ((V' : Valuation) (q : ℕ) → HasConstants p V' → HasConstants p (run_for fuel p choice to q V')) → (o : Option Instruction)
        → slice_get p.instructions (at - 1) ≡ o
        → HasConstants p (option_map_or (λ i. run_for fuel p choice to (next p i (at - 1) V) (effect p choice i V)) o V)
    found left None is = has
    found left (Some i) is =
        left (effect p choice i V) (next p i (at - 1) V)
        (constants-effect p choice (at - 1) i V (sound.instructions (at - 1) i is) sound.signals has)

    test : ((V' : Valuation) (q : ℕ) → HasConstants p V' → HasConstants p (run_for fuel p choice to q V')) → (b : Bool)
        → HasConstants p
        (if b then V else option_map_or (λ i. run_for fuel p choice to (next p i (at - 1) V) (effect p choice i V))
        (slice_get p.instructions (at - 1)) V)
    test left true = has
    test left false = found left (slice_get p.instructions (at - 1)) refl

-- constants stay through a run
pub constants-run : (p : Program) (choice : Choice) (to at : ℕ) (V : Valuation) → IsSound p → HasConstants p V
    → HasConstants p (run p choice to at V)
unfolding run
constants-run p choice to at V sound has = constants-run_for at p choice to at V sound has

-- ---- other programs
-- the constants of a program are among those of one that has all that it has
pub constants-grown : (p r : Program) (V : Valuation) → IsSound p → Grown p r → HasConstants r V → HasConstants p V
constants-grown p r V sound grown has = record {
  constants = λ c w fixed is.
      let within : c < length p.widths = omega (arith, slice_get_within p.values c w is, sound.values) in
      ap (λ n. number n (V c)) (sym (width_in-grown p r c grown (lt-ltb c (length p.widths) within)))
      ∙ has.constants c w (grown.fixed c true fixed) (grown.values c w is);
}

-- before the first run each constant holds its number
pub constants-start : (code : Code) → HasConstants (program_of code) (valuation_of code.cells.items)
constants-start code = record {
  constants = λ c w fixed is.
      at c w (option_map-some value_of (slice_get code.cells.items c) w (sym (slice_get-map value_of code.cells.items c) ∙ is));
}
  where
    at : (c w : ℕ) → (word : Bits) × (slice_get code.cells.items c ≡ Some word) × (value_of word ≡ w)
        → held (map width_of code.cells.items) (valuation_of code.cells.items) c ≡ w
    at c w found =
        ap (λ o. number (option_map_or (λ width. width) o 0) (valuation_of code.cells.items c))
        (slice_get-map width_of code.cells.items c ∙ ap (option_map width_of) found.1)
        ∙ number-word code.cells.items c found.0 found.1
        ∙ found.2

-- The resets of the clocked blocks, one after another, in the words of the values and of the states.
use Rattle.std.proofs.Common.{ℕ, ◌+◌, ◌≡◌, ◌≤◌, Bool, true, false, not, ◌&&◌, List, [], ◌∷◌, drop, length, refl, ap, sym, subst, ◌∙◌, arith, ◌⊎◌, inl, inr, Option, Some, None}
use Rattle.std.specs.Prelude.{◌==◌, if◌then◌else◌, slice_get, Contains}
use Rattle.std.specs.Option.{option_map_or}
use Rattle.std.proofs.lemmas.List.{drop_all}
use Rattle.std.proofs.lemmas.Bool.{and_parts, cases_Bool, eqb-true}
use Rattle.design_core.specs.declared.signal.Signal.{Signal}
use Rattle.design_core.specs.declared.signal.SignalKind.{SignalKind}
use Rattle.design_core.specs.declared.signal.SignalKind.TheVariants.{Input, Net, Reg}
use Rattle.design_core.specs.declared.driver.Reset.{Reset}
use Rattle.design_core.specs.declared.driver.Clocked.{Clocked}
use Rattle.design_core.specs.declared.design.Design.{Design}
use Rattle.design_core.specs.Valuation.{Valuation}
use Rattle.design_core.specs.After.{Choice, after}
use Rattle.design_core.specs.Drives.{is_reg, driver_drives, is_driven, block_drives, is_register_bit, is_listed}
use Rattle.design_core.specs.Cycle.{left, left_from, is_active}
use Rattle.design_core.specs.WellFormed.{is_input, input_fits, clocked_fits, IsWellFormed}
use Rattle.design_core.specs.DrivenOnce.{IsDrivenOnce}
use Rattle.design_core.specs.Steps.{with_reset, with_resets}
use Rattle.design_core.proofs.Widened.{list_all-member}
use Rattle.design_core.proofs.CycleLaws.{list_any-found, Contains-at, reset-listed}
use Rattle.plain_sim.proofs.EvaluateSteps.{drop-some}
use Rattle.cycle_sim.specs.Masks.{is_own}
use Rattle.cycle_sim.specs.Blocks.{reset_leaves, WithReset, AreReset}
use Rattle.cycle_sim.proofs.ConstantReads.{reset_values-agree}

-- ---- bits of inputs and registers
pub register-undriven : (d : Design) (s b : ℕ) → is_register_bit d s b ≡ true → is_driven d s b ≡ false
register-undriven d s b register =
    not-true (is_driven d s b) (and_parts (option_map_or (λ signal. is_reg signal.kind) (slice_get d.signals.items s) false)
    (not (is_driven d s b)) register).1
  where
    not-true : (x : Bool) → not x ≡ true → x ≡ false
    not-true true e = cc
    not-true false e = refl

pub listed-undriven : (d : Design) → IsDrivenOnce d → (s b : ℕ) → is_listed d s ≡ true → is_driven d s b ≡ false
listed-undriven d once s b listed = at (cases_Bool (is_driven d s b))
  where
    not_both : (x : Bool) → x ≡ true → not x ≡ true → ⊥
    not_both true p q = cc
    not_both false p q = cc

    at : (is_driven d s b ≡ true) ⊎ (is_driven d s b ≡ false) → is_driven d s b ≡ false
    at (inr none) = none
    at (inl some) =
        let (driver, member, drives) = list_any-found (driver_drives d.signals.items s b) d.drivers.items some in
        absurd (not_both (is_listed d s) listed (once.inputs driver s b member drives))

pub listed-no_register : (d : Design) → IsWellFormed d → (s b : ℕ) → is_listed d s ≡ true → is_register_bit d s b ≡ false
listed-no_register d well s b listed =
    let (input, member, same) = list_any-found (λ input. input == s) d.inputs.items listed in
    let fits : input_fits d.signals.items s ≡ true =
    subst (λ n. input_fits d.signals.items n ≡ true) (eqb-true input s same)
    (list_all-member (input_fits d.signals.items) d.inputs.items input well.inputs member) in
    at (slice_get d.signals.items s) fits
  where
    by_kind : (kind : SignalKind) → is_input kind ≡ true → (is_reg kind && not (is_driven d s b)) ≡ false
    by_kind Input is = refl
    by_kind Net is = cc
    by_kind Reg is = cc

    at : (o : Option Signal) → option_map_or (λ signal. is_input signal.kind) o false ≡ true
        → (option_map_or (λ signal. is_reg signal.kind) o false && not (is_driven d s b)) ≡ false
    at None is = cc
    at (Some signal) is = by_kind signal.kind is

-- a reset is active in one valuation where it is in another that has the same inputs
pub active-alike : (d : Design) (V W : Valuation) → IsWellFormed d → ((s b : ℕ) → is_listed d s ≡ true → V s b ≡ W s b)
    → (block : Clocked) → Contains d.clocked.items block → is_active V block ≡ is_active W block
active-alike d V W well same block member = at block.reset refl
  where
    active : Valuation → Option Reset → Bool
    active U o = option_map_or (λ (r : Reset). if r.level then U r.signal 0 else not (U r.signal 0)) o false

    at : (o : Option Reset) → block.reset ≡ o → active V block.reset ≡ active W block.reset
    at None e = ap (active V) e ∙ sym (ap (active W) e)
    at (Some r) e =
        let listed : is_listed d r.signal ≡ true =
        reset-listed d block r e (list_all-member (clocked_fits d) d.clocked.items block well.clocked member) in
        ap (active V) e ∙ ap (λ x. if r.level then x else not x) (same r.signal 0 listed) ∙ sym (ap (active W) e)

-- ---- the definition, bit by bit
pub with_resets-same : (d : Design) (choice : Choice) (E : Valuation) (blocks : List Clocked) (V W : Valuation) (s b : ℕ) → V s b ≡ W s b
    → with_resets d choice E blocks V s b ≡ with_resets d choice E blocks W s b
with_resets-same d choice E [] V W s b same = same
with_resets-same d choice E (block ∷ blocks) V W s b same =
    with_resets-same d choice E blocks (with_reset d choice E block V) (with_reset d choice E block W) s b
    (ap (λ x. if is_active E block && (is_register_bit d s b && block_drives d.signals.items s b block)
    then option_map_or (λ r. left_from d.signals.items choice block E r.values s b) block.reset false else x) same)

-- the state after some blocks: V and S are what E and they leave, the blocks from i on being still to come
pub record ResetSoFar (d : Design) (choice : Choice) (E V S : Valuation) (i : ℕ) : Type 0 where
  pub values : (s b : ℕ) → is_driven d s b ≡ false
      → with_resets d choice E (drop i d.clocked.items) V s b ≡ with_resets d choice E d.clocked.items E s b
  pub state : (s b : ℕ) → is_register_bit d s b ≡ true → S s b ≡ V s b
  pub others : (s b : ℕ) → is_driven d s b ≡ false → is_register_bit d s b ≡ false → V s b ≡ E s b
  pub ahead : (j : ℕ) (block : Clocked) (s b : ℕ) → i ≤ j → slice_get d.clocked.items j ≡ Some block
      → is_own d block s b ≡ true → V s b ≡ E s b

pub reset-begin : (d : Design) (choice : Choice) (E V S : Valuation) → ((s b : ℕ) → is_driven d s b ≡ false → V s b ≡ E s b)
    → ((s b : ℕ) → is_register_bit d s b ≡ true → S s b ≡ V s b) → ResetSoFar d choice E V S 0
reset-begin d choice E V S same state =
    record {
      values = λ s b none. with_resets-same d choice E d.clocked.items V E s b (same s b none);
      state = state;
      others = λ s b none other. same s b none;
      ahead = λ j block s b low at own.
          same s b (register-undriven d s b (and_parts (is_register_bit d s b) (block_drives d.signals.items s b block) own).0);
    }

if-test : (t u x y : Bool) → t ≡ u → (if t then x else y) ≡ (if u then x else y)
if-test t u x y e = ap (λ t. if t then x else y) e

pub if-on : (t x y : Bool) → t ≡ true → (if t then x else y) ≡ x
if-on t x y e = ap (λ t. if t then x else y) e

pub if-off : (t x y : Bool) → t ≡ false → (if t then x else y) ≡ y
if-off t x y e = ap (λ t. if t then x else y) e

pub reset-next : (d : Design) (choice : Choice) (E V S V' S' : Valuation) (i : ℕ) (block : Clocked) → IsWellFormed d
    → IsDrivenOnce d → slice_get d.clocked.items i ≡ Some block
    → ResetSoFar d choice E V S i → WithReset d choice block V S V' S' → ResetSoFar d choice E V' S' (i + 1)
reset-next d choice E V S V' S' i block well once at before r =
    record {
      values = λ s b none.
          with_resets-same d choice E (drop (i + 1) d.clocked.items) V' (with_reset d choice E block V) s b (one s b)
          ∙ sym (ap (λ blocks. with_resets d choice E blocks V s b) (drop-some d.clocked.items i block at))
          ∙ before.values s b none;
      state = λ s b register. r.state s b register ∙ held s b register
          (cases_Bool (is_active V block && block_drives d.signals.items s b block));
      others = λ s b none other. r.values s b ∙ if-off (is_active V block && is_own d block s b)
          (reset_leaves d choice block V S s b) (V s b) (no_own s b other) ∙ before.others s b none other;
      ahead = λ j next s b low there own.
          r.values s b ∙ apart j next s b low there own (cases_Bool (is_active V block && is_own d block s b))
          ∙ before.ahead j next s b (omega (arith, low)) there own;
    }
  where
    member : Contains d.clocked.items block
    member = Contains-at d.clocked.items i block at

    active : is_active V block ≡ is_active E block
    active =
        active-alike d V E well (λ s b listed. before.others s b (listed-undriven d once s b listed)
        (listed-no_register d well s b listed)) block member

    no_own : (s b : ℕ) → is_register_bit d s b ≡ false → (is_active V block && is_own d block s b) ≡ false
    no_own s b other = quiet (is_active V block) (is_register_bit d s b) (block_drives d.signals.items s b block) other
      where
        quiet : (x y z : Bool) → y ≡ false → (x && (y && z)) ≡ false
        quiet true true z e = cc
        quiet true false z e = refl
        quiet false y z e = refl

    -- a bit as the definition has it
    one : (s b : ℕ) → V' s b ≡ with_reset d choice E block V s b
    one s b = r.values s b ∙ if-test (is_active V block && is_own d block s b) (is_active E block && is_own d block s b)
        (reset_leaves d choice block V S s b) (V s b) (ap (λ a. a && is_own d block s b) active)
        ∙ by_case (cases_Bool (is_active E block && is_own d block s b))
      where
        to : Bool
        to = option_map_or (λ r. left_from d.signals.items choice block E r.values s b) block.reset false

        given : (o : Option Reset) → block.reset ≡ o → is_own d block s b ≡ true → reset_leaves d choice block V S s b ≡ to
        given None e own =
            ap (λ o. option_map_or (λ (r : Reset). left block
            (after d.signals.items choice r.values (record { now = V; later = S })) s b) o false) e
            ∙ sym (ap (λ o. option_map_or (λ (r : Reset). left_from d.signals.items choice block E r.values s b) o false) e)
        given (Some r) e own =
            let now : V s b ≡ E s b = before.ahead i block s b (omega arith) at own in
            let later : S s b ≡ E s b =
            before.state s b (and_parts (is_register_bit d s b) (block_drives d.signals.items s b block) own).0 ∙ now in
            ap (λ o. option_map_or (λ (r : Reset). left block
            (after d.signals.items choice r.values (record { now = V; later = S })) s b) o false) e
            ∙ reset_values-agree d choice block r V S E s b e
            (list_all-member (clocked_fits d) d.clocked.items block well.clocked member) now later
            ∙ sym (ap (λ o. option_map_or (λ (r : Reset). left_from d.signals.items choice block E r.values s b) o false) e)

        by_case : ((is_active E block && is_own d block s b) ≡ true) ⊎ ((is_active E block && is_own d block s b) ≡ false)
            → (if is_active E block && is_own d block s b then reset_leaves d choice block V S s b else V s b)
            ≡ (if is_active E block && is_own d block s b then to else V s b)
        by_case (inl on) =
            ap (λ x. if is_active E block && is_own d block s b then x else V s b)
            (given block.reset refl (and_parts (is_active E block) (is_own d block s b) on).1)
        by_case (inr off) =
            if-off (is_active E block && is_own d block s b) (reset_leaves d choice block V S s b) (V s b) off
            ∙ sym (if-off (is_active E block && is_own d block s b) to (V s b) off)

    held : (s b : ℕ) → is_register_bit d s b ≡ true
        → ((is_active V block && block_drives d.signals.items s b block) ≡ true) ⊎
        ((is_active V block && block_drives d.signals.items s b block) ≡ false)
        → (if is_active V block && block_drives d.signals.items s b block then V' s b else S s b) ≡ V' s b
    held s b register (inl on) = if-on (is_active V block && block_drives d.signals.items s b block) (V' s b) (S s b) on
    held s b register (inr off) =
        if-off (is_active V block && block_drives d.signals.items s b block) (V' s b) (S s b) off
        ∙ before.state s b register
        ∙ sym (r.values s b ∙ if-off (is_active V block && is_own d block s b) (reset_leaves d choice block V S s b) (V s b)
        (narrower (is_active V block) (is_register_bit d s b) (block_drives d.signals.items s b block) off))
      where
        narrower : (x y z : Bool) → (x && z) ≡ false → (x && (y && z)) ≡ false
        narrower true true z e = e
        narrower true false z e = refl
        narrower false y z e = refl

    apart : (j : ℕ) (next : Clocked) (s b : ℕ) → i + 1 ≤ j → slice_get d.clocked.items j ≡ Some next → is_own d next s b ≡ true
        → ((is_active V block && is_own d block s b) ≡ true) ⊎ ((is_active V block && is_own d block s b) ≡ false)
        → (if is_active V block && is_own d block s b then reset_leaves d choice block V S s b else V s b) ≡ V s b
    apart j next s b low there own (inr off) =
        if-off (is_active V block && is_own d block s b) (reset_leaves d choice block V S s b) (V s b) off
    apart j next s b low there own (inl on) =
        let mine = and_parts (is_register_bit d s b) (block_drives d.signals.items s b block)
        (and_parts (is_active V block) (is_own d block s b) on).1 in
        let other = and_parts (is_register_bit d s b) (block_drives d.signals.items s b next) own in
        let same : i ≡ j = once.blocks i j block next s b at there mine.0 mine.1 other.1 in
        absurd (omega (arith, same, low))

pub reset-end : (d : Design) (choice : Choice) (E V S : Valuation) (i : ℕ) → length d.clocked.items ≤ i
    → ResetSoFar d choice E V S i → AreReset d choice E V S
reset-end d choice E V S i past all =
    record {
      values = λ s b none. sym (ap (λ blocks. with_resets d choice E blocks V s b) (drop_all i d.clocked.items past)) ∙ all.values s b none;
      state = all.state;
    }

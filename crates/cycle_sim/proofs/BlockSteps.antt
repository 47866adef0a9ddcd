-- One clocked block carried out in place.
use Rattle.std.proofs.Common.{ℕ, ◌≡◌, Bool, true, false, not, ◌&&◌, List, refl, ap, sym, ◌∙◌, ◌⊎◌, inl, inr, Some}
use Rattle.std.specs.Prelude.{if◌then◌else◌, ◌==◌, slice_get}
use Rattle.std.specs.Option.{option_map_or}
use Rattle.std.proofs.Math.Path.{fun_ext}
use Rattle.std.proofs.lemmas.Bool.{or_parts, and_parts, cases_Bool}
use Rattle.design_core.specs.declared.signal.Signal.{Signal}
use Rattle.design_core.specs.declared.place.Place.{Place}
use Rattle.design_core.specs.declared.statement.Stmt.{Stmt}
use Rattle.design_core.specs.declared.driver.Reset.{Reset}
use Rattle.design_core.specs.declared.driver.Clocked.{Clocked}
use Rattle.design_core.specs.declared.design.Design.{Design}
use Rattle.design_core.specs.Valuation.{Valuation}
use Rattle.design_core.specs.After.{Choice, Updates, after}
use Rattle.design_core.specs.Drives.{is_listed, block_drives, block_assigns_later, is_register_bit, statement_drives}
use Rattle.design_core.specs.Cycle.{left, is_active}
use Rattle.design_core.specs.Valuation.{width_at}
use Rattle.design_core.specs.Given.{CanRun}
use Rattle.design_core.specs.WellFormed.{statement_fits, is_reset_values, reset_fits, clocked_fits}
use Rattle.design_core.proofs.Widened.{list_all-member}
use Rattle.design_core.proofs.CycleLaws.{Contains-at}
use Rattle.design_core.proofs.StoreOutside.{after-leaves}
use Rattle.plain_sim.specs.EvaluateCycle.{blended}
use Rattle.cycle_sim.specs.declared.mask.Mask.{Mask}
use Rattle.cycle_sim.specs.Masks.{covers, is_own, left_in, assigns_now, AreBlockMasks}
use Rattle.cycle_sim.specs.Blocks.{reset_leaves, WithReset, WithBody}
use Rattle.cycle_sim.proofs.StatementNow.{now-leaves}
use Rattle.cycle_sim.proofs.Resets.{if-on, if-off}

-- ---- the values are as before
either-same : (t x y : Bool) → (t ≡ false → y ≡ x) → (if t then x else y) ≡ x
either-same true x y same = refl
either-same false x y same = same refl

pub restored : (masks : List Mask) (V R V1 R1 V2 : Valuation) → R1 ≡ blended (covers masks) V R → V2 ≡ blended (covers masks) R1 V1
    → ((s b : ℕ) → covers masks s b ≡ false → V1 s b ≡ V s b) → V2 ≡ V
restored masks V R V1 R1 V2 r v same =
    v ∙ fun_ext (λ s. fun_ext (λ b. at s b (cases_Bool (covers masks s b))))
  where
    at : (s b : ℕ) → (covers masks s b ≡ true) ⊎ (covers masks s b ≡ false) → (if covers masks s b then R1 s b else V1 s b) ≡ V s b
    at s b (inl on) =
        ap (λ t. if t then R1 s b else V1 s b) on ∙ ap (λ (X : Valuation). X s b) r ∙ ap (λ t. if t then V s b else R s b) on
    at s b (inr off) = ap (λ t. if t then R1 s b else V1 s b) off ∙ same s b off

pub now-same : (signals : List Signal) (places : List Place) (choice : Choice) (statement : Stmt) (masks : List Mask)
    (V S V1 S1 : Valuation) → statement_fits signals places statement ≡ true
    → ((s b : ℕ) → covers masks s b ≡ false → assigns_now signals s b statement ≡ false)
    → record { now = V1; later = S1 } ≡ after signals choice statement (record { now = V; later = S })
    → (s b : ℕ) → covers masks s b ≡ false → V1 s b ≡ V s b
now-same signals places choice statement masks V S V1 S1 fits all e s b off =
    ap (λ (m : Updates). m.now s b) e ∙ now-leaves signals places choice statement (record { now = V; later = S }) s b fits (all s b off)

pub left-is : (signals : List Signal) (choice : Choice) (statement : Stmt) (masks : List Mask) (V S V1 S1 X : Valuation)
    → record { now = V1; later = S1 } ≡ after signals choice statement (record { now = V; later = S }) → X ≡ blended (covers masks) V1 S1
    → X ≡ left_in signals choice masks statement V S
left-is signals choice statement masks V S V1 S1 X e x =
    x ∙ ap (λ (m : Updates). blended (covers masks) m.now m.later) e

-- ---- what is left for a register
now_or_later : (own later x y : Bool) → own ≡ true → (if own && not later then x else y) ≡ (if later then y else x)
now_or_later true true x y e = refl
now_or_later true false x y e = refl
now_or_later false later x y e = cc

own-left : (d : Design) (choice : Choice) (block : Clocked) (own once current : List Mask) (statement : Stmt)
    (V S : Valuation) (s b : ℕ) → AreBlockMasks d block own once current
    → is_own d block s b ≡ true
    → left_in d.signals.items choice current statement V S s b ≡ left block
    (after d.signals.items choice statement (record { now = V; later = S })) s b
own-left d choice block own once current statement V S s b m is =
    let n : Updates = after d.signals.items choice statement (record { now = V; later = S }) in
    ap (λ t. if t then n.now s b else n.later s b) (m.now.same s b)
    ∙ now_or_later (is_own d block s b) (block_assigns_later s block) (n.now s b) (n.later s b) is

-- a bit that the block does not drive keeps its state
kept-left : (d : Design) (choice : Choice) (block : Clocked) (own once current : List Mask) (statement : Stmt)
    (V S : Valuation) (s b : ℕ) → AreBlockMasks d block own once current
    → statement_fits d.signals.items d.places.items statement ≡ true → block_drives d.signals.items s b block ≡ false
    → statement_drives d.signals.items s b statement ≡ false
    → left_in d.signals.items choice current statement V S s b ≡ S s b
kept-left d choice block own once current statement V S s b m fits none quiet =
    let n : Updates = after d.signals.items choice statement (record { now = V; later = S }) in
    ap (λ t. if t then n.now s b else n.later s b)
    (m.now.same s b ∙ out (is_register_bit d s b) (block_drives d.signals.items s b block) (block_assigns_later s block) none)
    ∙ (after-leaves d.signals.items d.places.items choice statement (record { now = V; later = S }) s b fits quiet).later
  where
    out : (x y z : Bool) → y ≡ false → ((x && y) && not z) ≡ false
    out true true z e = cc
    out true false z e = refl
    out false y z e = refl

own-from : (d : Design) (block : Clocked) (s b : ℕ) → is_register_bit d s b ≡ true
    → block_drives d.signals.items s b block ≡ true → is_own d block s b ≡ true
own-from d block s b register drives = ap (λ t. t && block_drives d.signals.items s b block) register ∙ drives

-- ---- a reset
pub reset-step : (d : Design) (choice : Choice) (block : Clocked) (r : Reset) (own once current : List Mask)
    (V S V0 S1 V1 : Valuation) → AreBlockMasks d block own once current
    → block.reset ≡ Some r → is_active V block ≡ true → statement_fits d.signals.items d.places.items r.values ≡ true → V0 ≡ V
    → S1 ≡ left_in d.signals.items choice current r.values V S → V1 ≡ blended (covers own) S1 V0 → WithReset d choice block V S V1 S1
reset-step d choice block r own once current V S V0 S1 V1 m is active fits v0 s1 v1 = record { values = values; state = state }
  where
    given : (s b : ℕ)
        → reset_leaves d choice block V S s b ≡ left block (after d.signals.items choice r.values (record { now = V; later = S })) s b
    given s b = ap (λ o. option_map_or (λ (r : Reset). left block
        (after d.signals.items choice r.values (record { now = V; later = S })) s b) o false) is

    values_by : (s b : ℕ) → (is_own d block s b ≡ true) ⊎ (is_own d block s b ≡ false)
        → (if is_own d block s b then S1 s b else V s b) ≡ (if is_own d block s b then reset_leaves d choice block V S s b else V s b)
    values_by s b (inl on) =
        ap (λ x. if is_own d block s b then x else V s b)
        (ap (λ (X : Valuation). X s b) s1 ∙ own-left d choice block own once current r.values V S s b m on ∙ sym (given s b))
    values_by s b (inr off) =
        if-off (is_own d block s b) (S1 s b) (V s b) off ∙ sym
        (if-off (is_own d block s b) (reset_leaves d choice block V S s b) (V s b) off)

    values : (s b : ℕ) → V1 s b ≡ (if is_active V block && is_own d block s b then reset_leaves d choice block V S s b else V s b)
    values s b =
        ap (λ (X : Valuation). X s b) v1
        ∙ ap (λ t. if t then S1 s b else V0 s b) (m.own.same s b)
        ∙ ap (λ (X : Valuation). if is_own d block s b then S1 s b else X s b) v0
        ∙ values_by s b (cases_Bool (is_own d block s b))
        ∙ sym (ap (λ t. if t && is_own d block s b then reset_leaves d choice block V S s b else V s b) active)

    state_by : (s b : ℕ) → is_register_bit d s b ≡ true
        → (block_drives d.signals.items s b block ≡ true) ⊎ (block_drives d.signals.items s b block ≡ false)
        → S1 s b ≡ (if block_drives d.signals.items s b block then V1 s b else S s b)
    state_by s b register (inl drives) =
        sym (if-on (block_drives d.signals.items s b block) (V1 s b) (S s b) drives
        ∙ ap (λ (X : Valuation). X s b) v1 ∙ if-on (covers own s b) (S1 s b) (V0 s b)
        (m.own.same s b ∙ own-from d block s b register drives))
    state_by s b register (inr none) =
        ap (λ (X : Valuation). X s b) s1
        ∙ kept-left d choice block own once current r.values V S s b m fits none
        (sym (ap (λ o. option_map_or (λ (r : Reset). statement_drives d.signals.items s b r.values) o false) is)
        ∙ (or_parts (statement_drives d.signals.items s b block.body) _ none).1)
        ∙ sym (if-off (block_drives d.signals.items s b block) (V1 s b) (S s b) none)

    state : (s b : ℕ) → is_register_bit d s b ≡ true
        → S1 s b ≡ (if is_active V block && block_drives d.signals.items s b block then V1 s b else S s b)
    state s b register =
        state_by s b register (cases_Bool (block_drives d.signals.items s b block))
        ∙ sym (ap (λ t. if t && block_drives d.signals.items s b block then V1 s b else S s b) active)

pub reset-quiet : (d : Design) (choice : Choice) (block : Clocked) (V S : Valuation) → is_active V block ≡ false
    → WithReset d choice block V S V S
reset-quiet d choice block V S quiet =
    record {
      values = λ s b. sym (ap (λ t. if t && is_own d block s b then reset_leaves d choice block V S s b else V s b) quiet);
      state = λ s b register. sym (ap (λ t. if t && block_drives d.signals.items s b block then V s b else S s b) quiet);
    }

-- ---- a body
pub body-step : (d : Design) (choice : Choice) (block : Clocked) (own once current : List Mask) (V S S1 : Valuation)
    → AreBlockMasks d block own once current
    → is_active V block ≡ false → statement_fits d.signals.items d.places.items block.body ≡ true
    → S1 ≡ left_in d.signals.items choice current block.body V S
    → WithBody d choice block V S S1
body-step d choice block own once current V S S1 m quiet fits s1 =
    record { state = λ s b register. at s b register (cases_Bool (block_drives d.signals.items s b block)) }
  where
    whole : (s b : ℕ) → Bool
    whole s b = left block (after d.signals.items choice block.body (record { now = V; later = S })) s b

    at : (s b : ℕ) → is_register_bit d s b ≡ true
        → (block_drives d.signals.items s b block ≡ true) ⊎ (block_drives d.signals.items s b block ≡ false)
        → S1 s b ≡ (if not (is_active V block) && block_drives d.signals.items s b block then whole s b else S s b)
    at s b register (inl drives) =
        ap (λ (X : Valuation). X s b) s1
        ∙ own-left d choice block own once current block.body V S s b m (own-from d block s b register drives)
        ∙ sym (ap (λ t. if not t && block_drives d.signals.items s b block then whole s b else S s b) quiet
        ∙ if-on (block_drives d.signals.items s b block) (whole s b) (S s b) drives)
    at s b register (inr none) =
        ap (λ (X : Valuation). X s b) s1
        ∙ kept-left d choice block own once current block.body V S s b m fits none
        (or_parts (statement_drives d.signals.items s b block.body) _ none).0
        ∙ sym (ap (λ t. if not t && block_drives d.signals.items s b block then whole s b else S s b) quiet
        ∙ if-off (block_drives d.signals.items s b block) (whole s b) (S s b) none)

pub body-active : (d : Design) (choice : Choice) (block : Clocked) (V S : Valuation) → is_active V block ≡ true
    → WithBody d choice block V S S
body-active d choice block V S active =
    record {
      state = λ s b register.
          sym (ap (λ t. if not t && block_drives d.signals.items s b block then left block
          (after d.signals.items choice block.body (record { now = V; later = S })) s b else S s b) active);
    }

-- ---- statements that fit
pub body-fits : (d : Design) (i : ℕ) (block : Clocked) → CanRun d → slice_get d.clocked.items i ≡ Some block
    → statement_fits d.signals.items d.places.items block.body ≡ true
body-fits d i block can at =
    (and_parts (statement_fits d.signals.items d.places.items block.body) (option_map_or (reset_fits d) block.reset true)
    (list_all-member (clocked_fits d) d.clocked.items block can.clocked (Contains-at d.clocked.items i block at))).0

pub values-fit : (d : Design) (i : ℕ) (block : Clocked) (r : Reset) → CanRun d → slice_get d.clocked.items i ≡ Some block
    → block.reset ≡ Some r
    → statement_fits d.signals.items d.places.items r.values ≡ true
values-fit d i block r can at is =
    let both = and_parts (statement_fits d.signals.items d.places.items block.body) (option_map_or (reset_fits d) block.reset true)
    (list_all-member (clocked_fits d) d.clocked.items block can.clocked (Contains-at d.clocked.items i block at)) in
    (and_parts (is_listed d r.signal && (width_at d.signals.items r.signal == 1) && is_reset_values r.values)
    (statement_fits d.signals.items d.places.items r.values)
    (sym (ap (λ o. option_map_or (reset_fits d) o true) is) ∙ both.1)).1

-- What a step leaves is the cycle.
use Rattle.std.proofs.Common.{ℕ, ◌≡◌, ◌<◌, ◌≤◌, Bool, true, false, not, ◌&&◌, ◌||◌, List, refl, ap, sym, subst, ◌∙◌, ◌⊎◌, inl, inr}
use Rattle.std.specs.Prelude.{if◌then◌else◌, slice_get, Contains, nat_lt}
use Rattle.std.proofs.Math.Path.{fun_ext}
use Rattle.std.proofs.lemmas.Bool.{and_parts, and_from, cases_Bool, both_ways, cases_lt, lt-ltb, le-ltb}
use Rattle.loc_base.specs.declared.bits.Bits.{Bits}
use Rattle.loc_base.proofs.ShelfOptions.{Some-same}
use Rattle.design_core.specs.declared.driver.Clocked.{Clocked}
use Rattle.design_core.specs.declared.design.Design.{Design}
use Rattle.design_core.specs.Valuation.{Valuation, width_at}
use Rattle.design_core.specs.WellFormed.{IsWellFormed}
use Rattle.cycle_sim.specs.declared.mask.Mask.{Mask}
use Rattle.design_core.specs.After.{Choice}
use Rattle.design_core.specs.Drives.{is_driven, is_listed, block_drives, is_register_bit}
use Rattle.design_core.specs.Cycle.{before, sampled, is_active, is_reset, is_clocked, Cycle}
use Rattle.design_core.specs.Steps.{with_resets, with_drivers, kept, computed_now, computed_next}
use Rattle.design_core.proofs.CycleLaws.{list_any-found, list_any-none, Contains-place}
use Rattle.design_core.proofs.CycleExists.{cycle-exists, with_drivers-undriven}
use Rattle.design_core.proofs.DriversForget.{drivers-forget}
use Rattle.cycle_sim.specs.Masks.{covers, AreRegisters}
use Rattle.cycle_sim.specs.Holding.{AreQuiet}
use Rattle.cycle_sim.specs.Blocks.{AreReset, AreRun}
use Rattle.cycle_sim.specs.Simulated.{IsSimulable}
use Rattle.cycle_sim.proofs.Resets.{register-undriven, listed-no_register}

-- the block that drives a register bit is one
same-block : (d : Design) (order : List ℕ) → IsSimulable d order → (one other : Clocked) (s b : ℕ)
    → Contains d.clocked.items one → Contains d.clocked.items other
    → is_register_bit d s b ≡ true → block_drives d.signals.items s b one ≡ true
    → block_drives d.signals.items s b other ≡ true → one ≡ other
same-block d order k one other s b member member' register drives drives' =
    let (i, at_i) = Contains-place d.clocked.items one member in
    let (j, at_j) = Contains-place d.clocked.items other member' in
    Some-same (sym at_i ∙ ap (slice_get d.clocked.items) (k.once.blocks i j one other s b at_i at_j register drives drives') ∙ at_j)

-- whether a block resets a bit in V
abbrev resets : Design → Valuation → ℕ → ℕ → Clocked → Bool
resets d V s b block = is_active V block && block_drives d.signals.items s b block

-- the next states
next-is : (d : Design) (order : List ℕ) → IsSimulable d order
    → (samples : List Bits) (state : Valuation) (choice : Choice) (V N S : Valuation)
    → Cycle d samples state choice V N → AreRun d choice V S → (s b : ℕ) → N s b ≡ kept d S s b
next-is d order k samples state choice V N S c run s b = by_register (cases_Bool (is_register_bit d s b))
  where
    kept-at : is_register_bit d s b ≡ true → kept d S s b ≡ S s b
    kept-at register = ap (λ t. t && S s b) register

    by_block : (block : Clocked) → Contains d.clocked.items block → block_drives d.signals.items s b block ≡ true
        → is_register_bit d s b ≡ true → is_reset d V s b ≡ false
        → (is_active V block ≡ true) ⊎ (is_active V block ≡ false) → N s b ≡ S s b
    by_block block member drives register quiet (inl active) =
        absurd (both_ways (resets d V s b block) (list_any-none (resets d V s b) d.clocked.items block member quiet)
        (and_from (is_active V block) (block_drives d.signals.items s b block) active drives))
    by_block block member drives register quiet (inr inactive) =
        c.next_clocked block s b member (ap not inactive) drives register
        ∙ sym (run.clocked block s b member inactive
        (and_from (is_register_bit d s b) (block_drives d.signals.items s b block) register drives))

    by_clocked : is_register_bit d s b ≡ true → is_reset d V s b ≡ false
        → (is_clocked d s b ≡ true) ⊎ (is_clocked d s b ≡ false) → N s b ≡ S s b
    by_clocked register quiet (inl clocked) =
        let (block, member, drives) = list_any-found (block_drives d.signals.items s b) d.clocked.items clocked in
        by_block block member drives register quiet (cases_Bool (is_active V block))
    by_clocked register quiet (inr none) =
        c.next_kept s b register (ap not none)
        ∙ sym (c.register s b register (ap not quiet))
        ∙ sym (run.kept s b register (λ block member inactive drives. both_ways (block_drives d.signals.items s b block)
        (list_any-none (block_drives d.signals.items s b) d.clocked.items block member none) drives))

    by_reset : is_register_bit d s b ≡ true → (is_reset d V s b ≡ true) ⊎ (is_reset d V s b ≡ false) → N s b ≡ S s b
    by_reset register (inr quiet) = by_clocked register quiet (cases_Bool (is_clocked d s b))
    by_reset register (inl reset) =
        let (block, member, active) = list_any-found (resets d V s b) d.clocked.items reset in
        let both = and_parts (is_active V block) (block_drives d.signals.items s b block) active in
        c.next_reset s b register reset
        ∙ sym (run.kept s b register (λ other at inactive drives.
        both_ways (is_active V other) inactive (ap (is_active V)
        (same-block d order k other block s b at member register drives both.1) ∙ both.0)))

    by_register : (is_register_bit d s b ≡ true) ⊎ (is_register_bit d s b ≡ false) → N s b ≡ kept d S s b
    by_register (inl register) = by_reset register (cases_Bool (is_reset d V s b)) ∙ sym (kept-at register)
    by_register (inr none) = c.next_other s b (ap not none) ∙ sym (ap (λ t. t && S s b) none)

-- what resets, drivers and bodies leave, one after another
pub stepped : (d : Design) (order : List ℕ) → IsSimulable d order
    → (samples : List Bits) (state : Valuation) (choice : Choice) (V1 S1 V S : Valuation)
    → AreReset d choice (before d samples state) V1 S1 → V ≡ with_drivers d choice order V1 → AreRun d choice V S
    → Cycle d samples state choice V (kept d S)
stepped d order k samples state choice V1 S1 V S reset drivers run =
    subst (λ N. Cycle d samples state choice V N)
    (fun_ext (λ s. fun_ext (λ b. next-is d order k samples state choice V next S cycle run s b))) cycle
  where
    E : Valuation
    E = before d samples state

    next : Valuation
    next = computed_next d state choice V

    computed : V ≡ computed_now d order samples state choice
    computed = drivers ∙ drivers-forget d order choice V1 (with_resets d choice E d.clocked.items E) k.well_formed k.ordered
        (λ s b none. reset.values s b none)

    cycle : Cycle d samples state choice V next
    cycle = subst (λ W. Cycle d samples state choice W (computed_next d state choice W)) (sym computed)
        (cycle-exists d order k.well_formed k.once k.ordered samples state choice)

-- after the drivers the states of the registers are still their values
pub states-hold : (d : Design) (choice : Choice) (order : List ℕ) (E V1 S1 V S : Valuation) → AreReset d choice E V1 S1
    → V ≡ with_drivers d choice order V1
    → ((s b : ℕ) → is_driven d s b ≡ false → S s b ≡ S1 s b) → (s b : ℕ) → is_register_bit d s b ≡ true → S s b ≡ V s b
states-hold d choice order E V1 S1 V S reset drivers same s b register =
    let none : is_driven d s b ≡ false = register-undriven d s b register in
    same s b none ∙ reset.state s b register
    ∙ sym (ap (λ (W : Valuation). W s b) drivers ∙ with_drivers-undriven d choice order V1 s b none)

-- ---- what a cycle begins with
-- bits past a signal's width are 0
abbrev pub IsNarrow : Design → Valuation → Type 0
IsNarrow d V = (s b : ℕ) → width_at d.signals.items s ≤ b → V s b ≡ false

-- samples, states and what was there before
abbrev pub Begun : Design → List Bits → List Mask → Valuation → Valuation → Valuation → Type 0
Begun d samples registers S O V =
    (s b : ℕ) → V s b ≡ (if is_listed d s then sampled d.inputs.items samples s b else if covers registers s b then S s b else O s b)

-- the bit of a signal that traces don't give
unlisted-begun : (d : Design) (samples : List Bits) (registers : List Mask) (S O V : Valuation) (s b : ℕ)
    → Begun d samples registers S O V → AreRegisters d registers → is_listed d s ≡ false
    → V s b ≡ (if is_register_bit d s b && nat_lt b (width_at d.signals.items s) then S s b else O s b)
unlisted-begun d samples registers S O V s b begun r none =
    begun s b ∙ ap (λ t. if t then sampled d.inputs.items samples s b else if covers registers s b then S s b else O s b) none
    ∙ ap (λ t. if t then S s b else O s b) (r.same s b)

register-begun : (d : Design) (samples : List Bits) (registers : List Mask) (S O V : Valuation) (s b : ℕ)
    → Begun d samples registers S O V → AreRegisters d registers
    → IsNarrow d S → IsNarrow d O → is_listed d s ≡ false → is_register_bit d s b ≡ true → V s b ≡ S s b
register-begun d samples registers S O V s b begun r narrow old none register =
    unlisted-begun d samples registers S O V s b begun r none ∙ at (cases_lt b (width_at d.signals.items s))
  where
    at : (b < width_at d.signals.items s) ⊎ (width_at d.signals.items s ≤ b)
        → (if is_register_bit d s b && nat_lt b (width_at d.signals.items s) then S s b else O s b) ≡ S s b
    at (inl low) = ap (λ t. if t && nat_lt b (width_at d.signals.items s) then S s b else O s b) register
        ∙ ap (λ t. if t then S s b else O s b) (lt-ltb b (width_at d.signals.items s) low)
    at (inr high) =
        ap (λ t. if t && nat_lt b (width_at d.signals.items s) then S s b else O s b) register
        ∙ ap (λ t. if t then S s b else O s b) (le-ltb b (width_at d.signals.items s) high)
        ∙ old s b high ∙ sym (narrow s b high)

-- the values of all bits that no driver drives
pub begun-before : (d : Design) (samples : List Bits) (registers : List Mask) (S O V : Valuation)
    → Begun d samples registers S O V → AreRegisters d registers
    → IsNarrow d S → IsNarrow d O → AreQuiet d O → (s b : ℕ) → is_driven d s b ≡ false → V s b ≡ before d samples (kept d S) s b
begun-before d samples registers S O V begun r narrow old quiet s b undriven =
    by_listed (cases_Bool (is_listed d s)) (cases_Bool (is_register_bit d s b))
  where
    by_listed : (is_listed d s ≡ true) ⊎ (is_listed d s ≡ false)
        → (is_register_bit d s b ≡ true) ⊎ (is_register_bit d s b ≡ false) → V s b ≡ before d samples (kept d S) s b
    by_listed (inl listed) register =
        begun s b ∙ ap (λ t. if t then sampled d.inputs.items samples s b else if covers registers s b then S s b else O s b) listed
        ∙ sym (ap (λ t. if t then sampled d.inputs.items samples s b else (is_register_bit d s b && kept d S s b)) listed)
    by_listed (inr none) (inl register) =
        register-begun d samples registers S O V s b begun r narrow old none register
        ∙ sym (ap (λ t. if t then sampled d.inputs.items samples s b else (is_register_bit d s b && kept d S s b)) none
        ∙ ap (λ t. t && (t && S s b)) register)
    by_listed (inr none) (inr other) =
        unlisted-begun d samples registers S O V s b begun r none
        ∙ ap (λ t. if t && nat_lt b (width_at d.signals.items s) then S s b else O s b) other
        ∙ quiet s b none other undriven
        ∙ sym (ap (λ t. if t then sampled d.inputs.items samples s b else (is_register_bit d s b && kept d S s b)) none
        ∙ ap (λ t. t && (t && S s b)) other)

-- the states are the registers' values
pub begun-states : (d : Design) → IsWellFormed d → (samples : List Bits) (registers : List Mask) (S O V : Valuation)
    → Begun d samples registers S O V → AreRegisters d registers
    → IsNarrow d S → IsNarrow d O → (s b : ℕ) → is_register_bit d s b ≡ true → S s b ≡ V s b
begun-states d well samples registers S O V begun r narrow old s b register = at (cases_Bool (is_listed d s))
  where
    at : (is_listed d s ≡ true) ⊎ (is_listed d s ≡ false) → S s b ≡ V s b
    at (inl listed) = absurd (both_ways (is_register_bit d s b) (listed-no_register d well s b listed) register)
    at (inr none) = sym (register-begun d samples registers S O V s b begun r narrow old none register)

-- what a cycle leaves is 0 where nothing gives a value
pub cycle-quiet : (d : Design) (samples : List Bits) (state : Valuation) (choice : Choice) (V N : Valuation)
    → Cycle d samples state choice V N → AreQuiet d V
cycle-quiet d samples state choice V N c s b none other undriven =
    c.other s b (all (is_listed d s) (is_register_bit d s b) (is_driven d s b) none other undriven)
  where
    all : (x y z : Bool) → x ≡ false → y ≡ false → z ≡ false → not (x || y || z) ≡ true
    all true y z p q r = cc
    all false true z p q r = cc
    all false false true p q r = cc
    all false false false p q r = refl

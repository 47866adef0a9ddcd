-- In a well-formed design whose drivers stand in an order, what is computed is the cycle, where there is one.
use Rattle.std.proofs.Common.{◌≡◌, ℕ, zero, suc, ◌+◌, ◌<◌, List, [], ◌∷◌, length, drop, ap, ◌∙◌, sym, refl, subst, arith, ◌⊎◌, inl, inr}
use Rattle.std.specs.Prelude.{Bool, true, false, not, ◌&&◌, ◌||◌, if◌then◌else◌, slice_get, Option, Some, None, Contains}
use Rattle.std.specs.Option.{option_map_or}
use Rattle.std.specs.List.{list_any}
use Rattle.std.proofs.Math.Path.{fun_ext}
use Rattle.std.proofs.Math.Seq.{drop-length}
use Rattle.std.proofs.lemmas.Bool.{both_ways, or_cases, and_parts, and_from, cases_Bool, cases_order, not_from_false}
use Rattle.std.proofs.lemmas.Option.{slice_get_within, get_or_from_slice_get}
use Rattle.loc_base.specs.declared.bits.Bits.{Bits}
use Rattle.loc_base.proofs.ShelfLists.{Contains-at, Contains-first, Contains-later, Contains-place, list_all-member, list_any-found, slice_get-some}
use Rattle.loc_base.proofs.ShelfOptions.{Some-same}
use Rattle.design_core.specs.declared.driver.Driver.{Driver}
use Rattle.design_core.specs.declared.driver.Reset.{Reset}
use Rattle.design_core.specs.declared.driver.Clocked.{Clocked}
use Rattle.design_core.specs.declared.design.Design.{Design}
use Rattle.design_core.specs.Valuation.{Valuation}
use Rattle.design_core.specs.After.{Choice}
use Rattle.design_core.specs.Drives.{driver_drives, is_driven, block_drives, is_register_bit, is_listed}
use Rattle.design_core.specs.Cycle.{Cycle, sampled, before, driven, left_from, is_active, is_reset, is_clocked}
use Rattle.design_core.specs.WellFormed.{driver_fits, clocked_fits, IsWellFormed}
use Rattle.design_core.specs.Reads.{driver_reads, IsOrder}
use Rattle.design_core.specs.Steps.{with_reset, with_resets, with_driver, with_drivers, with_body, with_bodies, kept, computed_now, computed_next}
use Rattle.plain_sim.proofs.EvaluateSteps.{drop-some, if-all, if-second, if-both}
use Rattle.design_core.proofs.CycleLaws.{driven-agrees, list_any-alike, list_any-none, reset-listed, active-reset, earlier}

-- a cycle of a design whose drivers stand in an order
record Known (d : Design) (samples : List Bits) (state : Valuation) (choice : Choice) (V next : Valuation) : Type 0 where
  well : IsWellFormed d
  cycle : Cycle d samples state choice V next

-- ---- the registers that are reset
before-listed : (d : Design) (samples : List Bits) (state : Valuation) (choice : Choice) (V next : Valuation) → Known d samples state choice V next
    → (s b : ℕ) → is_listed d s ≡ true → before d samples state s b ≡ V s b
before-listed d samples state choice V next k s b listed =
    ap (λ t. if t then sampled d.inputs.items samples s b else (is_register_bit d s b && state s b)) listed ∙ sym (k.cycle.input s b listed)

before-unlisted : (d : Design) (samples : List Bits) (state : Valuation) (s b : ℕ) → is_listed d s ≡ false → before d samples state s b ≡ (is_register_bit d s b && state s b)
before-unlisted d samples state s b listed = ap (λ t. if t then sampled d.inputs.items samples s b else (is_register_bit d s b && state s b)) listed

active-as : (d : Design) (samples : List Bits) (state : Valuation) (choice : Choice) (V next : Valuation) → Known d samples state choice V next
    → (block : Clocked) → Contains d.clocked.items block → is_active (before d samples state) block ≡ is_active V block
active-as d samples state choice V next k block member = at block.reset refl
  where
    E : Valuation
    E = before d samples state

    at : (o : Option Reset) → block.reset ≡ o → is_active E block ≡ is_active V block
    at None e =
        ap (λ o. option_map_or (λ (r : Reset). if r.level then E r.signal 0 else not (E r.signal 0)) o false) e
        ∙ sym (ap (λ o. option_map_or (λ (r : Reset). if r.level then V r.signal 0 else not (V r.signal 0)) o false) e)
    at (Some r) e =
        let listed : is_listed d r.signal ≡ true = reset-listed d block r e (list_all-member (clocked_fits d) d.clocked.items block k.well.clocked member) in
        ap (λ o. option_map_or (λ (r : Reset). if r.level then E r.signal 0 else not (E r.signal 0)) o false) e
        ∙ ap (λ x. if r.level then x else not x) (before-listed d samples state choice V next k r.signal 0 listed)
        ∙ sym (ap (λ o. option_map_or (λ (r : Reset). if r.level then V r.signal 0 else not (V r.signal 0)) o false) e)

with_resets-other : (d : Design) (choice : Choice) (E : Valuation) (blocks : List Clocked) (W : Valuation) (s b : ℕ) → is_register_bit d s b ≡ false
    → with_resets d choice E blocks W s b ≡ W s b
with_resets-other d choice E [] W s b none = refl
with_resets-other d choice E (block ∷ blocks) W s b none =
    with_resets-other d choice E blocks (with_reset d choice E block W) s b none
    ∙ if-second (is_active E block) (is_register_bit d s b) (block_drives d.signals.items s b block)
    (option_map_or (λ r. left_from d.signals.items choice block E r.values s b) block.reset false) (W s b) none

-- one block's reset gives a register its value, or leaves it
reset-value : (d : Design) (samples : List Bits) (state : Valuation) (choice : Choice) (V next : Valuation) → Known d samples state choice V next
    → (block : Clocked) → Contains d.clocked.items block → (W : Valuation) (s b : ℕ) → is_register_bit d s b ≡ true
    → (is_active (before d samples state) block && block_drives d.signals.items s b block) ≡ true
    → with_reset d choice (before d samples state) block W s b ≡ V s b
reset-value d samples state choice V next k block member W s b register passes =
    let E : Valuation = before d samples state in
    let parts = and_parts (is_active E block) (block_drives d.signals.items s b block) passes in
    let (r, is) = active-reset E block parts.0 in
    if-all (is_active E block) (is_register_bit d s b) (block_drives d.signals.items s b block)
    (option_map_or (λ r. left_from d.signals.items choice block E r.values s b) block.reset false) (W s b) parts.0 register parts.1
    ∙ ap (λ o. option_map_or (λ r. left_from d.signals.items choice block E r.values s b) o false) is
    ∙ sym (k.cycle.reset block r s b member is (sym (active-as d samples state choice V next k block member) ∙ parts.0) parts.1 register)

with_resets-value : (d : Design) (samples : List Bits) (state : Valuation) (choice : Choice) (V next : Valuation) → Known d samples state choice V next
    → (blocks : List Clocked) → ((block : Clocked) → Contains blocks block → Contains d.clocked.items block) → (W : Valuation) (s b : ℕ) → is_register_bit d s b ≡ true
    → (W s b ≡ V s b) ⊎ (list_any (λ block. is_active (before d samples state) block && block_drives d.signals.items s b block) blocks ≡ true)
    → with_resets d choice (before d samples state) blocks W s b ≡ V s b
with_resets-value d samples state choice V next k [] within W s b register (inl same) = same
with_resets-value d samples state choice V next k [] within W s b register (inr some) = absurd (both_ways false refl some)
with_resets-value d samples state choice V next k (block ∷ blocks) within W s b register given =
    with_resets-value d samples state choice V next k blocks (λ x member. within x (Contains-later block blocks x member)) (with_reset d choice (before d samples state) block W) s b register
    (at (cases_Bool here) given)
  where
    E : Valuation
    E = before d samples state

    here : Bool
    here = is_active E block && block_drives d.signals.items s b block

    later : Bool
    later = list_any (λ block. is_active E block && block_drives d.signals.items s b block) blocks

    at : (here ≡ true) ⊎ (here ≡ false) → (W s b ≡ V s b) ⊎ (list_any (λ block. is_active E block && block_drives d.signals.items s b block) (block ∷ blocks) ≡ true)
        → (with_reset d choice E block W s b ≡ V s b) ⊎ (later ≡ true)
    at (inl passes) given = inl (reset-value d samples state choice V next k block (within block (Contains-first block blocks)) W s b register passes)
    at (inr fails) (inl same) =
        inl
        (if-both (is_active E block) (is_register_bit d s b) (block_drives d.signals.items s b block)
        (option_map_or (λ r. left_from d.signals.items choice block E r.values s b) block.reset false) (W s b) fails
        ∙ same)
    at (inr fails) (inr some) = elim (or_cases here later some) [ inl passes ↦ absurd (both_ways here fails passes) | inr rest ↦ inr rest ]

-- ---- before the drivers: each bit that none drives has its value
begun-register : (d : Design) (samples : List Bits) (state : Valuation) (choice : Choice) (V next : Valuation) → Known d samples state choice V next
    → (s b : ℕ) → is_register_bit d s b ≡ true → with_resets d choice (before d samples state) d.clocked.items (before d samples state) s b ≡ V s b
begun-register d samples state choice V next k s b register =
    with_resets-value d samples state choice V next k d.clocked.items (λ block member. member) E s b register (at (cases_Bool (is_reset d V s b)))
  where
    E : Valuation
    E = before d samples state

    by_list : is_reset d V s b ≡ false → (is_listed d s ≡ true) ⊎ (is_listed d s ≡ false) → E s b ≡ V s b
    by_list quiet (inl listed) = before-listed d samples state choice V next k s b listed
    by_list quiet (inr listed) =
        before-unlisted d samples state s b listed ∙ ap (λ t. t && state s b) register
        ∙ sym (k.cycle.register s b register (not_from_false (is_reset d V s b) quiet))

    at : (is_reset d V s b ≡ true) ⊎ (is_reset d V s b ≡ false)
        → (E s b ≡ V s b) ⊎ (list_any (λ block. is_active E block && block_drives d.signals.items s b block) d.clocked.items ≡ true)
    at (inl active) =
        inr
        (list_any-alike (λ block. is_active E block && block_drives d.signals.items s b block) (λ block. is_active V block && block_drives d.signals.items s b block) d.clocked.items
        (λ block member. ap (λ t. t && block_drives d.signals.items s b block) (active-as d samples state choice V next k block member))
        ∙ active)
    at (inr quiet) = inl (by_list quiet (cases_Bool (is_listed d s)))

begun-undriven : (d : Design) (samples : List Bits) (state : Valuation) (choice : Choice) (V next : Valuation) → Known d samples state choice V next
    → (s b : ℕ) → is_driven d s b ≡ false → with_resets d choice (before d samples state) d.clocked.items (before d samples state) s b ≡ V s b
begun-undriven d samples state choice V next k s b none = at (cases_Bool (is_register_bit d s b)) (cases_Bool (is_listed d s))
  where
    E : Valuation
    E = before d samples state

    outside : (x y z : Bool) → x ≡ false → y ≡ false → z ≡ false → not (x || y || z) ≡ true
    outside true y z p q r = cc
    outside false true z p q r = cc
    outside false false true p q r = cc
    outside false false false p q r = refl

    at : (is_register_bit d s b ≡ true) ⊎ (is_register_bit d s b ≡ false) → (is_listed d s ≡ true) ⊎ (is_listed d s ≡ false)
        → with_resets d choice E d.clocked.items E s b ≡ V s b
    at (inl register) listed = begun-register d samples state choice V next k s b register
    at (inr register) (inl listed) = with_resets-other d choice E d.clocked.items E s b register ∙ before-listed d samples state choice V next k s b listed
    at (inr register) (inr listed) =
        with_resets-other d choice E d.clocked.items E s b register
        ∙ before-unlisted d samples state s b listed ∙ ap (λ t. t && state s b) register
        ∙ sym (k.cycle.other s b (outside (is_listed d s) (is_register_bit d s b) (is_driven d s b) listed register none))

-- ---- the drivers: the bits that none drives, and those of the drivers before a place of the order, have their values
record Agrees (d : Design) (order : List ℕ) (V W : Valuation) (k : ℕ) : Type 0 where
  undriven : (s b : ℕ) → is_driven d s b ≡ false → W s b ≡ V s b
  before : (l i : ℕ) (driver : Driver) (s b : ℕ) → l < k → slice_get order l ≡ Some i → slice_get d.drivers.items i ≡ Some driver
      → driver_drives d.signals.items s b driver ≡ true → W s b ≡ V s b

carried : (d : Design) (choice : Choice) (W : Valuation) (i : ℕ) (driver : Driver) (s b : ℕ) → slice_get d.drivers.items i ≡ Some driver
    → with_driver d choice i W s b ≡ (if driver_drives d.signals.items s b driver then driven d.signals.items choice W driver s b else W s b)
carried d choice W i driver s b at =
    ap (λ o. option_map_or (λ driver. if driver_drives d.signals.items s b driver then driven d.signals.items choice W driver s b else W s b) o (W s b)) at

agrees-next : (d : Design) (order : List ℕ) (samples : List Bits) (state : Valuation) (choice : Choice) (V next : Valuation) → IsOrder d order → Known d samples state choice V next
    → (W : Valuation) (k i : ℕ) (driver : Driver) → slice_get order k ≡ Some i → slice_get d.drivers.items i ≡ Some driver → Agrees d order V W k
    → Agrees d order V (with_driver d choice i W) (k + 1)
agrees-next d order samples state choice V next h known W k i driver at_k at_i g =
    record {
      undriven = λ s b none.
          other s b (list_any-none (driver_drives d.signals.items s b) d.drivers.items driver member none) ∙ g.undriven s b none;
      before = λ l j source s b below at_l at_j drives. at l j source s b below at_l at_j drives (cases_Bool (driver_drives d.signals.items s b driver)) (cases_order l k);
    }
  where
    member : Contains d.drivers.items driver
    member = Contains-at d.drivers.items i driver at_i

    other : (s b : ℕ) → driver_drives d.signals.items s b driver ≡ false → with_driver d choice i W s b ≡ W s b
    other s b none = carried d choice W i driver s b at_i ∙ ap (λ t. if t then driven d.signals.items choice W driver s b else W s b) none

    read_same : (s b : ℕ) → driver_reads d.signals.items s b driver ≡ true → (is_driven d s b ≡ true) ⊎ (is_driven d s b ≡ false) → W s b ≡ V s b
    read_same s b read (inr none) = g.undriven s b none
    read_same s b read (inl by) =
        let (source, source_member, drives) = list_any-found (driver_drives d.signals.items s b) d.drivers.items by in
        let (j, at_j) = Contains-place d.drivers.items source source_member in
        let (l, at_l) = Contains-place order j (h.complete j (slice_get_within d.drivers.items j source at_j)) in
        g.before l j source s b
        (earlier d order h k l i j at_k at_l (record { reader = driver; source = source; is_reader = at_i; is_source = at_j; signal = s; position = b; read = read; driven = drives }))
        at_l at_j drives

    own : (s b : ℕ) → driver_drives d.signals.items s b driver ≡ true → with_driver d choice i W s b ≡ V s b
    own s b drives =
        carried d choice W i driver s b at_i
        ∙ ap (λ t. if t then driven d.signals.items choice W driver s b else W s b) drives
        ∙ driven-agrees d.signals.items d.places.items choice W V driver s b (list_all-member (driver_fits d.signals.items d.places.items) d.drivers.items driver known.well.drivers member)
        (record { same = λ s b read. read_same s b read (cases_Bool (is_driven d s b)) }) drives
        ∙ sym (known.cycle.driver driver s b member drives)

    at : (l j : ℕ) (source : Driver) (s b : ℕ) → l < k + 1 → slice_get order l ≡ Some j → slice_get d.drivers.items j ≡ Some source
        → driver_drives d.signals.items s b source ≡ true → (driver_drives d.signals.items s b driver ≡ true) ⊎ (driver_drives d.signals.items s b driver ≡ false)
        → (l ≡ k) ⊎ ((l < k) ⊎ (k < l)) → with_driver d choice i W s b ≡ V s b
    at l j source s b below at_l at_j drives (inl mine) place = own s b mine
    at l j source s b below at_l at_j drives (inr none) (inr (inl low)) = other s b none ∙ g.before l j source s b low at_l at_j drives
    at l j source s b below at_l at_j drives (inr none) (inr (inr high)) = absurd (omega (arith, below, high))
    at l j source s b below at_l at_j drives (inr none) (inl e) =
        let which : j ≡ i = Some-same (sym at_l ∙ ap (slice_get order) e ∙ at_k) in
        let same : source ≡ driver = Some-same (sym at_j ∙ ap (slice_get d.drivers.items) which ∙ at_i) in
        absurd (both_ways (driver_drives d.signals.items s b driver) none (sym (ap (driver_drives d.signals.items s b) same) ∙ drives))

agrees-all : (d : Design) (order : List ℕ) (samples : List Bits) (state : Valuation) (choice : Choice) (V next : Valuation) → IsOrder d order → Known d samples state choice V next
    → (n k : ℕ) (W : Valuation) → k + n ≡ length order → Agrees d order V W k → Agrees d order V (with_drivers d choice (drop k order) W) (length order)
agrees-all d order samples state choice V next h known zero k W e g =
    let all : k ≡ length order = omega (arith, e) in
    subst (λ xs. Agrees d order V (with_drivers d choice xs W) (length order)) (sym (ap (λ n. drop n order) all ∙ drop-length order))
    (subst (λ n. Agrees d order V W n) all g)
agrees-all d order samples state choice V next h known (suc n) k W e g =
    let (i, at_k) = slice_get-some order k (omega (arith, e)) in
    let within : i < length d.drivers.items = subst (λ j. j < length d.drivers.items) (get_or_from_slice_get order k i 0 at_k) (h.numbers k 0 (slice_get_within order k i at_k)) in
    let (driver, at_i) = slice_get-some d.drivers.items i within in
    subst (λ xs. Agrees d order V (with_drivers d choice xs W) (length order)) (sym (drop-some order k i at_k))
    (agrees-all d order samples state choice V next h known n (k + 1) (with_driver d choice i W) (omega (arith, e)) (agrees-next d order samples state choice V next h known W k i driver at_k at_i g))

pub now-computed : (d : Design) (order : List ℕ) (samples : List Bits) (state : Valuation) (choice : Choice) (V next : Valuation) → IsWellFormed d → IsOrder d order
    → Cycle d samples state choice V next → computed_now d order samples state choice ≡ V
now-computed d order samples state choice V next well h cycle = fun_ext (λ s. fun_ext (λ b. at s b (cases_Bool (is_driven d s b))))
  where
    known : Known d samples state choice V next
    known = record { well = well; cycle = cycle }

    begun : Valuation
    begun = with_resets d choice (before d samples state) d.clocked.items (before d samples state)

    all : Agrees d order V (with_drivers d choice order begun) (length order)
    all =
        agrees-all d order samples state choice V next h known (length order) 0 begun (omega arith)
        (record { undriven = begun-undriven d samples state choice V next known; before = λ l i driver s b below at_l at_i drives. absurd (omega (arith, below)) })

    at : (s b : ℕ) → (is_driven d s b ≡ true) ⊎ (is_driven d s b ≡ false) → with_drivers d choice order begun s b ≡ V s b
    at s b (inr none) = all.undriven s b none
    at s b (inl by) =
        let (driver, member, drives) = list_any-found (driver_drives d.signals.items s b) d.drivers.items by in
        let (i, at_i) = Contains-place d.drivers.items driver member in
        let (l, at_l) = Contains-place order i (h.complete i (slice_get_within d.drivers.items i driver at_i)) in
        all.before l i driver s b (slice_get_within order l i at_l) at_l at_i drives

-- ---- the next states
with_bodies-other : (d : Design) (choice : Choice) (V : Valuation) (blocks : List Clocked) (N : Valuation) (s b : ℕ) → is_register_bit d s b ≡ false
    → with_bodies d choice V blocks N s b ≡ N s b
with_bodies-other d choice V [] N s b none = refl
with_bodies-other d choice V (block ∷ blocks) N s b none =
    with_bodies-other d choice V blocks (with_body d choice V block N) s b none
    ∙ if-second (not (is_active V block)) (is_register_bit d s b) (block_drives d.signals.items s b block) (left_from d.signals.items choice block V block.body s b) (N s b) none

with_bodies-value : (d : Design) (samples : List Bits) (state : Valuation) (choice : Choice) (V next : Valuation) → Cycle d samples state choice V next
    → (blocks : List Clocked) → ((block : Clocked) → Contains blocks block → Contains d.clocked.items block) → (N : Valuation) (s b : ℕ) → is_register_bit d s b ≡ true
    → (N s b ≡ next s b) ⊎ (list_any (λ block. not (is_active V block) && block_drives d.signals.items s b block) blocks ≡ true)
    → with_bodies d choice V blocks N s b ≡ next s b
with_bodies-value d samples state choice V next c [] within N s b register (inl same) = same
with_bodies-value d samples state choice V next c [] within N s b register (inr some) = absurd (both_ways false refl some)
with_bodies-value d samples state choice V next c (block ∷ blocks) within N s b register given =
    with_bodies-value d samples state choice V next c blocks (λ x member. within x (Contains-later block blocks x member)) (with_body d choice V block N) s b register (at (cases_Bool here) given)
  where
    here : Bool
    here = not (is_active V block) && block_drives d.signals.items s b block

    later : Bool
    later = list_any (λ block. not (is_active V block) && block_drives d.signals.items s b block) blocks

    left_value : Bool
    left_value = left_from d.signals.items choice block V block.body s b

    at : (here ≡ true) ⊎ (here ≡ false) → (N s b ≡ next s b) ⊎ (list_any (λ block. not (is_active V block) && block_drives d.signals.items s b block) (block ∷ blocks) ≡ true)
        → (with_body d choice V block N s b ≡ next s b) ⊎ (later ≡ true)
    at (inl passes) given =
        let parts = and_parts (not (is_active V block)) (block_drives d.signals.items s b block) passes in
        inl
        (if-all (not (is_active V block)) (is_register_bit d s b) (block_drives d.signals.items s b block) left_value (N s b) parts.0 register parts.1
        ∙ sym (c.next_clocked block s b (within block (Contains-first block blocks)) parts.0 parts.1 register))
    at (inr fails) (inl same) =
        inl (if-both (not (is_active V block)) (is_register_bit d s b) (block_drives d.signals.items s b block) left_value (N s b) fails ∙ same)
    at (inr fails) (inr some) = elim (or_cases here later some) [ inl passes ↦ absurd (both_ways here fails passes) | inr rest ↦ inr rest ]

pub next-computed : (d : Design) (samples : List Bits) (state : Valuation) (choice : Choice) (V next : Valuation)
    → Cycle d samples state choice V next → computed_next d state choice V ≡ next
next-computed d samples state choice V next c =
    fun_ext (λ s. fun_ext (λ b. at s b (cases_Bool (is_register_bit d s b)) (cases_Bool (is_reset d V s b)) (cases_Bool (is_clocked d s b))))
  where
    bodies : ℕ → ℕ → Bool
    bodies s b = with_bodies d choice V d.clocked.items (kept d state) s b

    active_value : (x y a e : Bool) → x ≡ true → y ≡ true → (if x && y then a else e) ≡ a
    active_value x y a e p q = ap (λ t. if t then a else e) (and_from x y p q)

    quiet_value : (x y a e : Bool) → y ≡ false → (if x && y then a else e) ≡ e
    quiet_value true true a e q = cc
    quiet_value true false a e q = refl
    quiet_value false y a e q = refl

    other_value : (x y a e : Bool) → x ≡ false → (if x && y then a else e) ≡ e
    other_value true y a e p = cc
    other_value false y a e p = refl

    at : (s b : ℕ) → (is_register_bit d s b ≡ true) ⊎ (is_register_bit d s b ≡ false) → (is_reset d V s b ≡ true) ⊎ (is_reset d V s b ≡ false)
        → (is_clocked d s b ≡ true) ⊎ (is_clocked d s b ≡ false) → computed_next d state choice V s b ≡ next s b
    at s b (inr none) reset clocked =
        other_value (is_register_bit d s b) (is_reset d V s b) (V s b) (bodies s b) none
        ∙ with_bodies-other d choice V d.clocked.items (kept d state) s b none
        ∙ ap (λ t. t && state s b) none
        ∙ sym (c.next_other s b (not_from_false (is_register_bit d s b) none))
    at s b (inl register) (inl reset) clocked =
        active_value (is_register_bit d s b) (is_reset d V s b) (V s b) (bodies s b) register reset ∙ sym (c.next_reset s b register reset)
    at s b (inl register) (inr quiet) (inr unclocked) =
        quiet_value (is_register_bit d s b) (is_reset d V s b) (V s b) (bodies s b) quiet
        ∙ with_bodies-value d samples state choice V next c d.clocked.items (λ block member. member) (kept d state) s b register
        (inl (ap (λ t. t && state s b) register ∙ sym (c.next_kept s b register (not_from_false (is_clocked d s b) unclocked))))
    at s b (inl register) (inr quiet) (inl clocked) =
        quiet_value (is_register_bit d s b) (is_reset d V s b) (V s b) (bodies s b) quiet
        ∙ with_bodies-value d samples state choice V next c d.clocked.items (λ block member. member) (kept d state) s b register
        (inr
        (list_any-alike (λ block. not (is_active V block) && block_drives d.signals.items s b block) (block_drives d.signals.items s b) d.clocked.items
        (λ block member. inactive block (list_any-none (λ block. is_active V block && block_drives d.signals.items s b block) d.clocked.items block member quiet))
        ∙ clocked))
      where
        inactive : (block : Clocked) → (is_active V block && block_drives d.signals.items s b block) ≡ false
            → (not (is_active V block) && block_drives d.signals.items s b block) ≡ block_drives d.signals.items s b block
        inactive block none = by_parts (is_active V block) (block_drives d.signals.items s b block) none
          where
            by_parts : (x y : Bool) → (x && y) ≡ false → (not x && y) ≡ y
            by_parts true true e = cc
            by_parts true false e = refl
            by_parts false y e = refl

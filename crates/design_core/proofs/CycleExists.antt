-- In a well-formed design in which each bit gets its value once and whose drivers stand in an order, what is computed
-- step by step is a cycle.
use Rattle.std.proofs.Common.{ℕ, ◌≡◌, Bool, true, false, not, ◌&&◌, ◌||◌, List, [], ◌∷◌, refl, ap, sym, ◌∙◌, subst, ◌⊎◌, inl, inr, Option, Some, None}
use Rattle.std.specs.Prelude.{◌==◌, ◌≢◌, if◌then◌else◌, slice_get, All, AllPairs, Contains}
use Rattle.std.specs.List.{list_any}
use Rattle.std.specs.Option.{option_map_or}
use Rattle.std.proofs.lemmas.Bool.{or_cases, or_parts, and_parts, and_from, cases_Bool, both_ways, eqb-true}
use Rattle.std.proofs.lemmas.Option.{slice_get_within}
use Rattle.loc_base.specs.declared.bits.Bits.{Bits}
use Rattle.loc_base.proofs.ShelfBools.{not-true}
use Rattle.loc_base.proofs.ShelfLists.{All-member, Contains-at, Contains-cons, Contains-empty, Contains-first, Contains-later, Contains-place, list_all-member, list_any-found, list_any-member}
use Rattle.loc_base.proofs.ShelfOptions.{Some-same}
use Rattle.design_core.specs.declared.signal.Signal.{Signal}
use Rattle.design_core.specs.declared.signal.SignalKind.{SignalKind}
use Rattle.design_core.specs.declared.signal.SignalKind.TheVariants.{Input, Net, Reg}
use Rattle.design_core.specs.declared.driver.Driver.{Driver}
use Rattle.design_core.specs.declared.driver.Reset.{Reset}
use Rattle.design_core.specs.declared.driver.Clocked.{Clocked}
use Rattle.design_core.specs.declared.design.Design.{Design}
use Rattle.design_core.specs.Valuation.{Valuation}
use Rattle.design_core.specs.After.{Choice}
use Rattle.design_core.specs.Drives.{is_reg, driver_drives, is_driven, block_drives, is_register_bit, is_listed}
use Rattle.design_core.specs.Cycle.{sampled, before, driven, left_from, is_active, is_reset, is_clocked, Cycle}
use Rattle.design_core.specs.WellFormed.{is_input, input_fits, driver_fits, clocked_fits, IsWellFormed}
use Rattle.design_core.specs.Reads.{driver_reads, Depends, IsOrder}
use Rattle.design_core.specs.DrivenOnce.{IsDrivenOnce}
use Rattle.design_core.specs.Steps.{with_reset, with_resets, with_driver, with_drivers, with_body, with_bodies, kept, computed_now, computed_next}
use Rattle.design_core.proofs.Lists.{All-later, AllPairs-first, AllPairs-later}
use Rattle.design_core.proofs.CycleLaws.{driven-agrees, list_any-alike, list_any-none, reset-listed}

-- ---- tests
taken-where : (x y z a e : Bool) → (x && z) ≡ true → y ≡ true → (if x && (y && z) then a else e) ≡ a
taken-where true true true a e p q = refl
taken-where true true false a e p q = cc
taken-where true false z a e p q = cc
taken-where false y z a e p q = cc

left-where : (x y z a e : Bool) → (x && z) ≡ false → (if x && (y && z) then a else e) ≡ e
left-where true true true a e p = cc
left-where true true false a e p = refl
left-where true false z a e p = refl
left-where false y z a e p = refl

left-outside : (x y z a e : Bool) → y ≡ false → (if x && (y && z) then a else e) ≡ e
left-outside true true z a e q = cc
left-outside true false z a e q = refl
left-outside false y z a e q = refl

-- a test that no element passes
list_any-all_fail : {X : Type 0} (test : X → Bool) (xs : List X) → ((x : X) → Contains xs x → test x ≡ true → ⊥) → list_any test xs ≡ false
list_any-all_fail test xs fail = at (cases_Bool (list_any test xs))
  where
    at : (list_any test xs ≡ true) ⊎ (list_any test xs ≡ false) → list_any test xs ≡ false
    at (inl some) = let (x, member, passes) = list_any-found test xs some in absurd (fail x member passes)
    at (inr none) = none

-- ---- the drivers, one after another
pub with_driver-at : (d : Design) (choice : Choice) (W : Valuation) (i : ℕ) (driver : Driver) (s b : ℕ) → slice_get d.drivers.items i ≡ Some driver
    → with_driver d choice i W s b ≡ (if driver_drives d.signals.items s b driver then driven d.signals.items choice W driver s b else W s b)
with_driver-at d choice W i driver s b at =
    ap (λ o. option_map_or (λ driver. if driver_drives d.signals.items s b driver then driven d.signals.items choice W driver s b else W s b) o (W s b)) at

-- a driver of a number gives nothing to a bit that it doesn't drive
pub with_driver-other : (d : Design) (choice : Choice) (W : Valuation) (i s b : ℕ)
    → ((driver : Driver) → slice_get d.drivers.items i ≡ Some driver → driver_drives d.signals.items s b driver ≡ false) → with_driver d choice i W s b ≡ W s b
with_driver-other d choice W i s b none = at (slice_get d.drivers.items i) refl
  where
    gives : Driver → Bool
    gives driver = if driver_drives d.signals.items s b driver then driven d.signals.items choice W driver s b else W s b

    at : (o : Option Driver) → slice_get d.drivers.items i ≡ o → option_map_or gives (slice_get d.drivers.items i) (W s b) ≡ W s b
    at None e = ap (λ o. option_map_or gives o (W s b)) e
    at (Some driver) e =
        ap (λ o. option_map_or gives o (W s b)) e
        ∙ ap (λ t. if t then driven d.signals.items choice W driver s b else W s b) (none driver e)

-- and so do all of some
pub with_drivers-other : (d : Design) (choice : Choice) (order : List ℕ) (W : Valuation) (s b : ℕ)
    → ((i : ℕ) (driver : Driver) → Contains order i → slice_get d.drivers.items i ≡ Some driver → driver_drives d.signals.items s b driver ≡ false)
    → with_drivers d choice order W s b ≡ W s b
with_drivers-other d choice [] W s b none = refl
with_drivers-other d choice (i ∷ order) W s b none =
    with_drivers-other d choice order (with_driver d choice i W) s b (λ j driver member at. none j driver (Contains-later i order j member) at)
    ∙ with_driver-other d choice W i s b (λ driver at. none i driver (Contains-first i order) at)

pub with_drivers-undriven : (d : Design) (choice : Choice) (order : List ℕ) (W : Valuation) (s b : ℕ) → is_driven d s b ≡ false → with_drivers d choice order W s b ≡ W s b
with_drivers-undriven d choice order W s b none =
    with_drivers-other d choice order W s b
    (λ i driver member at. list_any-none (driver_drives d.signals.items s b) d.drivers.items driver (Contains-at d.drivers.items i driver at) none)

-- numbers of which none stands twice or depends on itself or on a later one
pub record IsSorted (d : Design) (order : List ℕ) : Type 0 where
  pub distinct : AllPairs (λ i j. i ≢ j) order
  pub not_itself : All (λ i. ¬ Depends d i i) order
  pub not_later : AllPairs (λ i j. ¬ Depends d i j) order

pub sorted-later : (d : Design) (i : ℕ) (order : List ℕ) → IsSorted d (i ∷ order) → IsSorted d order
sorted-later d i order h = record {
  distinct = AllPairs-later (λ i j. i ≢ j) i order h.distinct;
  not_itself = All-later (λ i. ¬ Depends d i i) i order h.not_itself;
  not_later = AllPairs-later (λ i j. ¬ Depends d i j) i order h.not_later;
}

-- each driver's bits are what it gives them in the end
first-settled : (d : Design) (choice : Choice) (i : ℕ) (order : List ℕ) (W : Valuation) → IsWellFormed d → IsDrivenOnce d → IsSorted d (i ∷ order)
    → (driver : Driver) (s b : ℕ) → slice_get d.drivers.items i ≡ Some driver → driver_drives d.signals.items s b driver ≡ true
    → with_drivers d choice (i ∷ order) W s b ≡ driven d.signals.items choice (with_drivers d choice (i ∷ order) W) driver s b
first-settled d choice i order W well once h driver s b at_i drives =
    with_drivers-other d choice order (with_driver d choice i W) s b (λ j source member at_j. alone j source member at_j (cases_Bool (driver_drives d.signals.items s b source)))
    ∙ with_driver-at d choice W i driver s b at_i
    ∙ ap (λ t. if t then driven d.signals.items choice W driver s b else W s b) drives
    ∙ driven-agrees d.signals.items d.places.items choice W (with_drivers d choice (i ∷ order) W) driver s b
    (list_all-member (driver_fits d.signals.items d.places.items) d.drivers.items driver well.drivers (Contains-at d.drivers.items i driver at_i))
    (record {
      same = λ s b read. sym (with_drivers-other d choice (i ∷ order) W s b
          (λ j source member at_j. unread j source s b read at_j (Contains-cons i order j member) (cases_Bool (driver_drives d.signals.items s b source))));
    }) drives
  where
    alone : (j : ℕ) (source : Driver) → Contains order j → slice_get d.drivers.items j ≡ Some source
        → (driver_drives d.signals.items s b source ≡ true) ⊎ (driver_drives d.signals.items s b source ≡ false) → driver_drives d.signals.items s b source ≡ false
    alone j source member at_j (inr none) = none
    alone j source member at_j (inl too) = absurd (AllPairs-first (λ i j. i ≢ j) i order j h.distinct member (once.drivers i j driver source s b at_i at_j drives too))

    depends : (j : ℕ) (source : Driver) (s b : ℕ) → driver_reads d.signals.items s b driver ≡ true → slice_get d.drivers.items j ≡ Some source
        → driver_drives d.signals.items s b source ≡ true → Depends d i j
    depends j source s b read at_j by =
        record { reader = driver; source = source; is_reader = at_i; is_source = at_j; signal = s; position = b; read = read; driven = by }

    unread : (j : ℕ) (source : Driver) (s b : ℕ) → driver_reads d.signals.items s b driver ≡ true → slice_get d.drivers.items j ≡ Some source
        → (i ≡ j) ⊎ Contains order j
        → (driver_drives d.signals.items s b source ≡ true) ⊎ (driver_drives d.signals.items s b source ≡ false) → driver_drives d.signals.items s b source ≡ false
    unread j source s b read at_j place (inr none) = none
    unread j source s b read at_j (inl same) (inl by) =
        absurd (All-member (λ i. ¬ Depends d i i) (i ∷ order) i h.not_itself (Contains-first i order) (subst (Depends d i) (sym same) (depends j source s b read at_j by)))
    unread j source s b read at_j (inr member) (inl by) =
        absurd (AllPairs-first (λ i j. ¬ Depends d i j) i order j h.not_later member (depends j source s b read at_j by))

settled : (d : Design) (choice : Choice) (order : List ℕ) (W : Valuation) → IsWellFormed d → IsDrivenOnce d → IsSorted d order
    → (i : ℕ) (driver : Driver) (s b : ℕ) → Contains order i → slice_get d.drivers.items i ≡ Some driver → driver_drives d.signals.items s b driver ≡ true
    → with_drivers d choice order W s b ≡ driven d.signals.items choice (with_drivers d choice order W) driver s b
settled d choice [] W well once h i driver s b member at_i drives = absurd (Contains-empty i member)
settled d choice (j ∷ order) W well once h i driver s b member at_i drives = elim (Contains-cons j order i member) [
  | inl same ↦ first-settled d choice j order W well once h driver s b (ap (slice_get d.drivers.items) same ∙ at_i) drives
  | inr later ↦ settled d choice order (with_driver d choice j W) well once (sorted-later d j order h) i driver s b later at_i drives
]

-- ---- the registers that are reset
with_resets-other : (d : Design) (choice : Choice) (E : Valuation) (blocks : List Clocked) (W : Valuation) (s b : ℕ) → is_register_bit d s b ≡ false
    → with_resets d choice E blocks W s b ≡ W s b
with_resets-other d choice E [] W s b none = refl
with_resets-other d choice E (block ∷ blocks) W s b none =
    with_resets-other d choice E blocks (with_reset d choice E block W) s b none
    ∙ left-outside (is_active E block) (is_register_bit d s b) (block_drives d.signals.items s b block)
    (option_map_or (λ r. left_from d.signals.items choice block E r.values s b) block.reset false) (W s b) none

-- a value that each active block gives a register, where one does or the register has it already
with_resets-to : (d : Design) (choice : Choice) (E : Valuation) (blocks : List Clocked) (W : Valuation) (s b : ℕ) (x : Bool) → is_register_bit d s b ≡ true
    → ((block : Clocked) → Contains blocks block → (is_active E block && block_drives d.signals.items s b block) ≡ true
    → option_map_or (λ r. left_from d.signals.items choice block E r.values s b) block.reset false ≡ x)
    → (W s b ≡ x) ⊎ (list_any (λ block. is_active E block && block_drives d.signals.items s b block) blocks ≡ true)
    → with_resets d choice E blocks W s b ≡ x
with_resets-to d choice E [] W s b x register gives (inl same) = same
with_resets-to d choice E [] W s b x register gives (inr some) = absurd (both_ways false refl some)
with_resets-to d choice E (block ∷ blocks) W s b x register gives given =
    with_resets-to d choice E blocks (with_reset d choice E block W) s b x register (λ other member. gives other (Contains-later block blocks other member))
    (at (cases_Bool here) given)
  where
    here : Bool
    here = is_active E block && block_drives d.signals.items s b block

    later : Bool
    later = list_any (λ block. is_active E block && block_drives d.signals.items s b block) blocks

    own : Bool
    own = option_map_or (λ r. left_from d.signals.items choice block E r.values s b) block.reset false

    at : (here ≡ true) ⊎ (here ≡ false) → (W s b ≡ x) ⊎ ((here || later) ≡ true) → (with_reset d choice E block W s b ≡ x) ⊎ (later ≡ true)
    at (inl passes) given =
        inl (taken-where (is_active E block) (is_register_bit d s b) (block_drives d.signals.items s b block) own (W s b) passes register
        ∙ gives block (Contains-first block blocks) passes)
    at (inr fails) (inl same) = inl (left-where (is_active E block) (is_register_bit d s b) (block_drives d.signals.items s b block) own (W s b) fails ∙ same)
    at (inr fails) (inr some) = elim (or_cases here later some) [ inl passes ↦ absurd (both_ways here fails passes) | inr rest ↦ inr rest ]

-- ---- the bodies of the clocked blocks
with_bodies-other : (d : Design) (choice : Choice) (V : Valuation) (blocks : List Clocked) (N : Valuation) (s b : ℕ) → is_register_bit d s b ≡ false
    → with_bodies d choice V blocks N s b ≡ N s b
with_bodies-other d choice V [] N s b none = refl
with_bodies-other d choice V (block ∷ blocks) N s b none =
    with_bodies-other d choice V blocks (with_body d choice V block N) s b none
    ∙ left-outside (not (is_active V block)) (is_register_bit d s b) (block_drives d.signals.items s b block) (left_from d.signals.items choice block V block.body s b) (N s b) none

with_bodies-to : (d : Design) (choice : Choice) (V : Valuation) (blocks : List Clocked) (N : Valuation) (s b : ℕ) (x : Bool) → is_register_bit d s b ≡ true
    → ((block : Clocked) → Contains blocks block → (not (is_active V block) && block_drives d.signals.items s b block) ≡ true
    → left_from d.signals.items choice block V block.body s b ≡ x)
    → (N s b ≡ x) ⊎ (list_any (λ block. not (is_active V block) && block_drives d.signals.items s b block) blocks ≡ true)
    → with_bodies d choice V blocks N s b ≡ x
with_bodies-to d choice V [] N s b x register gives (inl same) = same
with_bodies-to d choice V [] N s b x register gives (inr some) = absurd (both_ways false refl some)
with_bodies-to d choice V (block ∷ blocks) N s b x register gives given =
    with_bodies-to d choice V blocks (with_body d choice V block N) s b x register (λ other member. gives other (Contains-later block blocks other member))
    (at (cases_Bool here) given)
  where
    here : Bool
    here = not (is_active V block) && block_drives d.signals.items s b block

    later : Bool
    later = list_any (λ block. not (is_active V block) && block_drives d.signals.items s b block) blocks

    own : Bool
    own = left_from d.signals.items choice block V block.body s b

    at : (here ≡ true) ⊎ (here ≡ false) → (N s b ≡ x) ⊎ ((here || later) ≡ true) → (with_body d choice V block N s b ≡ x) ⊎ (later ≡ true)
    at (inl passes) given =
        inl (taken-where (not (is_active V block)) (is_register_bit d s b) (block_drives d.signals.items s b block) own (N s b) passes register
        ∙ gives block (Contains-first block blocks) passes)
    at (inr fails) (inl same) = inl (left-where (not (is_active V block)) (is_register_bit d s b) (block_drives d.signals.items s b block) own (N s b) fails ∙ same)
    at (inr fails) (inr some) = elim (or_cases here later some) [ inl passes ↦ absurd (both_ways here fails passes) | inr rest ↦ inr rest ]

-- ---- inputs and registers
-- an input that traces give is no register
listed-no_register : (d : Design) → IsWellFormed d → (s b : ℕ) → is_listed d s ≡ true → is_register_bit d s b ≡ false
listed-no_register d well s b listed =
    let (input, member, same) = list_any-found (λ input. input == s) d.inputs.items listed in
    let fits : input_fits d.signals.items s ≡ true =
    subst (λ n. input_fits d.signals.items n ≡ true) (eqb-true input s same) (list_all-member (input_fits d.signals.items) d.inputs.items input well.inputs member) in
    at (slice_get d.signals.items s) fits
  where
    by_kind : (kind : SignalKind) → is_input kind ≡ true → (is_reg kind && not (is_driven d s b)) ≡ false
    by_kind Input is = refl
    by_kind Net is = cc
    by_kind Reg is = cc

    at : (o : Option Signal) → option_map_or (λ signal. is_input signal.kind) o false ≡ true
        → (option_map_or (λ signal. is_reg signal.kind) o false && not (is_driven d s b)) ≡ false
    at None is = cc
    at (Some signal) is = by_kind signal.kind is

register-unlisted : (d : Design) → IsWellFormed d → (s b : ℕ) → is_register_bit d s b ≡ true → is_listed d s ≡ false
register-unlisted d well s b register = at (cases_Bool (is_listed d s))
  where
    at : (is_listed d s ≡ true) ⊎ (is_listed d s ≡ false) → is_listed d s ≡ false
    at (inl listed) = absurd (both_ways (is_register_bit d s b) (listed-no_register d well s b listed) register)
    at (inr unlisted) = unlisted

register-undriven : (d : Design) (s b : ℕ) → is_register_bit d s b ≡ true → is_driven d s b ≡ false
register-undriven d s b register =
    not-true (is_driven d s b) (and_parts (option_map_or (λ signal. is_reg signal.kind) (slice_get d.signals.items s) false) (not (is_driven d s b)) register).1

listed-undriven : (d : Design) → IsDrivenOnce d → (s b : ℕ) → is_listed d s ≡ true → is_driven d s b ≡ false
listed-undriven d once s b listed =
    list_any-all_fail (driver_drives d.signals.items s b) d.drivers.items
    (λ driver member drives. not_both (is_listed d s) listed (once.inputs driver s b member drives))
  where
    not_both : (x : Bool) → x ≡ true → not x ≡ true → ⊥
    not_both true p q = cc
    not_both false p q = cc

-- the block that drives a register is one
same-block : (d : Design) → IsDrivenOnce d → (one other : Clocked) (s b : ℕ) → Contains d.clocked.items one → Contains d.clocked.items other
    → is_register_bit d s b ≡ true → block_drives d.signals.items s b one ≡ true → block_drives d.signals.items s b other ≡ true → one ≡ other
same-block d once one other s b member member' register drives drives' =
    let (i, at_i) = Contains-place d.clocked.items one member in
    let (j, at_j) = Contains-place d.clocked.items other member' in
    let same : i ≡ j = once.blocks i j one other s b at_i at_j register drives drives' in
    Some-same (sym at_i ∙ ap (slice_get d.clocked.items) same ∙ at_j)

before-listed : (d : Design) (samples : List Bits) (state : Valuation) (s b : ℕ) → is_listed d s ≡ true → before d samples state s b ≡ sampled d.inputs.items samples s b
before-listed d samples state s b listed = ap (λ t. if t then sampled d.inputs.items samples s b else (is_register_bit d s b && state s b)) listed

before-unlisted : (d : Design) (samples : List Bits) (state : Valuation) (s b : ℕ) → is_listed d s ≡ false → before d samples state s b ≡ (is_register_bit d s b && state s b)
before-unlisted d samples state s b listed = ap (λ t. if t then sampled d.inputs.items samples s b else (is_register_bit d s b && state s b)) listed

-- a reset is active in one valuation where it is in another that has the same inputs
active-alike : (d : Design) (V W : Valuation) → IsWellFormed d → ((s b : ℕ) → is_listed d s ≡ true → V s b ≡ W s b)
    → (block : Clocked) → Contains d.clocked.items block → is_active V block ≡ is_active W block
active-alike d V W well same block member = at block.reset refl
  where
    active : Valuation → Option Reset → Bool
    active U o = option_map_or (λ (r : Reset). if r.level then U r.signal 0 else not (U r.signal 0)) o false

    at : (o : Option Reset) → block.reset ≡ o → active V block.reset ≡ active W block.reset
    at None e = ap (active V) e ∙ sym (ap (active W) e)
    at (Some r) e =
        let listed : is_listed d r.signal ≡ true = reset-listed d block r e (list_all-member (clocked_fits d) d.clocked.items block well.clocked member) in
        ap (active V) e ∙ ap (λ x. if r.level then x else not x) (same r.signal 0 listed) ∙ sym (ap (active W) e)

-- ---- the cycle
first_of_two : (x y a e : Bool) → x ≡ true → y ≡ true → (if x && y then a else e) ≡ a
first_of_two x y a e p q = ap (λ t. if t then a else e) (and_from x y p q)

quiet_of_two : (x y a e : Bool) → y ≡ false → (if x && y then a else e) ≡ e
quiet_of_two true true a e q = cc
quiet_of_two true false a e q = refl
quiet_of_two false y a e q = refl

other_of_two : (x y a e : Bool) → x ≡ false → (if x && y then a else e) ≡ e
other_of_two true y a e p = cc
other_of_two false y a e p = refl

-- what is computed
abbrev computed_begun : Design → List Bits → Valuation → Choice → Valuation
computed_begun d samples state choice = with_resets d choice (before d samples state) d.clocked.items (before d samples state)

-- a design as the law wants it
record Ordered (d : Design) (order : List ℕ) : Type 0 where
  well : IsWellFormed d
  once : IsDrivenOnce d
  sorted : IsOrder d order

undriven-now : (d : Design) (order : List ℕ) (samples : List Bits) (state : Valuation) (choice : Choice) (s b : ℕ) → is_driven d s b ≡ false
    → computed_now d order samples state choice s b ≡ computed_begun d samples state choice s b
undriven-now d order samples state choice s b none = with_drivers-undriven d choice order (computed_begun d samples state choice) s b none

listed-now : (d : Design) (order : List ℕ) → Ordered d order → (samples : List Bits) (state : Valuation) (choice : Choice) (s b : ℕ) → is_listed d s ≡ true
    → computed_now d order samples state choice s b ≡ before d samples state s b
listed-now d order k samples state choice s b listed =
    undriven-now d order samples state choice s b (listed-undriven d k.once s b listed)
    ∙ with_resets-other d choice (before d samples state) d.clocked.items (before d samples state) s b (listed-no_register d k.well s b listed)

active-now : (d : Design) (order : List ℕ) → Ordered d order → (samples : List Bits) (state : Valuation) (choice : Choice) (block : Clocked) → Contains d.clocked.items block
    → is_active (computed_now d order samples state choice) block ≡ is_active (before d samples state) block
active-now d order k samples state choice block member =
    active-alike d (computed_now d order samples state choice) (before d samples state) k.well (listed-now d order k samples state choice) block member

-- a register that an active block drives has its reset value
reset-now : (d : Design) (order : List ℕ) → Ordered d order → (samples : List Bits) (state : Valuation) (choice : Choice) (block : Clocked) (r : Reset) (s b : ℕ)
    → Contains d.clocked.items block → block.reset ≡ Some r → is_active (computed_now d order samples state choice) block ≡ true
    → block_drives d.signals.items s b block ≡ true → is_register_bit d s b ≡ true
    → computed_now d order samples state choice s b ≡ left_from d.signals.items choice block (before d samples state) r.values s b
reset-now d order k samples state choice block r s b member is active drives register =
    undriven-now d order samples state choice s b (register-undriven d s b register)
    ∙ with_resets-to d choice E d.clocked.items E s b (left_from d.signals.items choice block E r.values s b) register
    (λ other at passes. gives other (same-block d k.once block other s b member at register drives
    (and_parts (is_active E other) (block_drives d.signals.items s b other) passes).1))
    (inr (list_any-member (λ block. is_active E block && block_drives d.signals.items s b block) d.clocked.items block member
    (and_from (is_active E block) (block_drives d.signals.items s b block) (sym (active-now d order k samples state choice block member) ∙ active) drives)))
  where
    E : Valuation
    E = before d samples state

    gives : (other : Clocked) → block ≡ other → option_map_or (λ r. left_from d.signals.items choice other E r.values s b) other.reset false ≡ left_from d.signals.items choice block E r.values s b
    gives other same =
        ap (λ (c : Clocked). option_map_or (λ r. left_from d.signals.items choice c E r.values s b) c.reset false) (sym same)
        ∙ ap (λ o. option_map_or (λ r. left_from d.signals.items choice block E r.values s b) o false) is

-- one that no active block drives has its state
register-now : (d : Design) (order : List ℕ) → Ordered d order → (samples : List Bits) (state : Valuation) (choice : Choice) (s b : ℕ)
    → is_register_bit d s b ≡ true → is_reset d (computed_now d order samples state choice) s b ≡ false → computed_now d order samples state choice s b ≡ state s b
register-now d order k samples state choice s b register quiet =
    undriven-now d order samples state choice s b (register-undriven d s b register)
    ∙ with_resets-to d choice E d.clocked.items E s b (E s b) register
    (λ other at passes. absurd (both_ways (is_active E other && block_drives d.signals.items s b other)
    (list_any-none (λ block. is_active E block && block_drives d.signals.items s b block) d.clocked.items other at (sym alike ∙ quiet)) passes))
    (inl refl)
    ∙ before-unlisted d samples state s b (register-unlisted d k.well s b register)
    ∙ ap (λ t. t && state s b) register
  where
    E : Valuation
    E = before d samples state

    alike : is_reset d (computed_now d order samples state choice) s b ≡ is_reset d E s b
    alike =
        list_any-alike (λ block. is_active (computed_now d order samples state choice) block && block_drives d.signals.items s b block)
        (λ block. is_active E block && block_drives d.signals.items s b block) d.clocked.items
        (λ block member. ap (λ a. a && block_drives d.signals.items s b block) (active-now d order k samples state choice block member))

-- where a block is not active, no other resets a register that it drives
quiet-where : (d : Design) → IsDrivenOnce d → (V : Valuation) (block : Clocked) (s b : ℕ) → Contains d.clocked.items block → not (is_active V block) ≡ true
    → block_drives d.signals.items s b block ≡ true → is_register_bit d s b ≡ true → is_reset d V s b ≡ false
quiet-where d once V block s b member inactive drives register =
    list_any-all_fail (λ block. is_active V block && block_drives d.signals.items s b block) d.clocked.items
    (λ other at passes.
    let parts = and_parts (is_active V other) (block_drives d.signals.items s b other) passes in
    let same : block ≡ other = same-block d once block other s b member at register drives parts.1 in
    not_both (is_active V block) (ap (is_active V) same ∙ parts.0) inactive)
  where
    not_both : (x : Bool) → x ≡ true → not x ≡ true → ⊥
    not_both true p q = cc
    not_both false p q = cc

-- the next states
next-of : (d : Design) (state : Valuation) (choice : Choice) (V : Valuation) (s b : ℕ) → is_reset d V s b ≡ false
    → computed_next d state choice V s b ≡ with_bodies d choice V d.clocked.items (kept d state) s b
next-of d state choice V s b quiet =
    quiet_of_two (is_register_bit d s b) (is_reset d V s b) (V s b) (with_bodies d choice V d.clocked.items (kept d state) s b) quiet

next-left : (d : Design) → IsDrivenOnce d → (state : Valuation) (choice : Choice) (V : Valuation) (block : Clocked) (s b : ℕ) → Contains d.clocked.items block
    → not (is_active V block) ≡ true → block_drives d.signals.items s b block ≡ true → is_register_bit d s b ≡ true
    → computed_next d state choice V s b ≡ left_from d.signals.items choice block V block.body s b
next-left d once state choice V block s b member inactive drives register =
    next-of d state choice V s b (quiet-where d once V block s b member inactive drives register)
    ∙ with_bodies-to d choice V d.clocked.items (kept d state) s b (left_from d.signals.items choice block V block.body s b) register
    (λ other at passes. ap (λ (c : Clocked). left_from d.signals.items choice c V c.body s b)
    (sym (same-block d once block other s b member at register drives (and_parts (not (is_active V other)) (block_drives d.signals.items s b other) passes).1)))
    (inr (list_any-member (λ block. not (is_active V block) && block_drives d.signals.items s b block) d.clocked.items block member
    (and_from (not (is_active V block)) (block_drives d.signals.items s b block) inactive drives)))

next-kept : (d : Design) (state : Valuation) (choice : Choice) (V : Valuation) (s b : ℕ) → is_register_bit d s b ≡ true → is_clocked d s b ≡ false
    → computed_next d state choice V s b ≡ state s b
next-kept d state choice V s b register unclocked =
    next-of d state choice V s b
    (list_any-all_fail (λ block. is_active V block && block_drives d.signals.items s b block) d.clocked.items
    (λ block at passes. undriving block at (and_parts (is_active V block) (block_drives d.signals.items s b block) passes).1))
    ∙ with_bodies-to d choice V d.clocked.items (kept d state) s b (state s b) register
    (λ block at passes. absurd (undriving block at (and_parts (not (is_active V block)) (block_drives d.signals.items s b block) passes).1))
    (inl (ap (λ t. t && state s b) register))
  where
    undriving : (block : Clocked) → Contains d.clocked.items block → block_drives d.signals.items s b block ≡ true → ⊥
    undriving block at drives = both_ways (block_drives d.signals.items s b block) (list_any-none (block_drives d.signals.items s b) d.clocked.items block at unclocked) drives

next-other : (d : Design) (state : Valuation) (choice : Choice) (V : Valuation) (s b : ℕ) → is_register_bit d s b ≡ false → computed_next d state choice V s b ≡ false
next-other d state choice V s b none =
    other_of_two (is_register_bit d s b) (is_reset d V s b) (V s b) (with_bodies d choice V d.clocked.items (kept d state) s b) none
    ∙ with_bodies-other d choice V d.clocked.items (kept d state) s b none
    ∙ ap (λ t. t && state s b) none

-- what is computed step by step is a cycle
pub cycle-exists : (d : Design) (order : List ℕ) → IsWellFormed d → IsDrivenOnce d → IsOrder d order → (samples : List Bits) (state : Valuation) (choice : Choice)
    → Cycle d samples state choice (computed_now d order samples state choice) (computed_next d state choice (computed_now d order samples state choice))
cycle-exists d order well once h samples state choice =
    record {
      input = λ s b listed. listed-now d order k samples state choice s b listed ∙ before-listed d samples state s b listed;
      reset = λ block r s b member is active drives register. reset-now d order k samples state choice block r s b member is active drives register;
      register = λ s b register quiet. register-now d order k samples state choice s b register (not-true (is_reset d V s b) quiet);
      driver = λ driver s b member drives. by_driver driver s b drives (Contains-place d.drivers.items driver member);
      other = λ s b none. outside s b (not-true (is_listed d s || is_register_bit d s b || is_driven d s b) none);
      next_clocked = λ block s b member inactive drives register. next-left d once state choice V block s b member inactive drives register;
      next_reset = λ s b register reset.
          first_of_two (is_register_bit d s b) (is_reset d V s b) (V s b) (with_bodies d choice V d.clocked.items (kept d state) s b) register reset;
      next_kept = λ s b register unclocked. next-kept d state choice V s b register (not-true (is_clocked d s b) unclocked);
      next_other = λ s b none. next-other d state choice V s b (not-true (is_register_bit d s b) none);
    }
  where
    k : Ordered d order
    k = record { well = well; once = once; sorted = h }

    E : Valuation
    E = before d samples state

    V : Valuation
    V = computed_now d order samples state choice

    by_driver : (driver : Driver) (s b : ℕ) → driver_drives d.signals.items s b driver ≡ true → (i : ℕ) × (slice_get d.drivers.items i ≡ Some driver)
        → V s b ≡ driven d.signals.items choice V driver s b
    by_driver driver s b drives (i, at) =
        settled d choice order (computed_begun d samples state choice) well once
        (record { distinct = h.distinct; not_itself = h.not_itself; not_later = h.not_later })
        i driver s b (h.complete i (slice_get_within d.drivers.items i driver at)) at drives

    outside : (s b : ℕ) → (is_listed d s || is_register_bit d s b || is_driven d s b) ≡ false → V s b ≡ false
    outside s b none =
        let both = or_parts (is_listed d s || is_register_bit d s b) (is_driven d s b) none in
        let first = or_parts (is_listed d s) (is_register_bit d s b) both.0 in
        undriven-now d order samples state choice s b both.1
        ∙ with_resets-other d choice E d.clocked.items E s b first.1
        ∙ before-unlisted d samples state s b first.0 ∙ ap (λ t. t && state s b) first.1

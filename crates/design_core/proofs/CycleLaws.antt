-- For given samples, states and choices a design whose drivers depend on each other in no circle has one cycle at most.
use Rattle.std.proofs.Common.{ℕ, zero, suc, ◌≡◌, ◌<◌, Bool, true, false, not, ◌&&◌, ◌||◌, List, [], ◌∷◌, length, refl, ap, sym, ◌∙◌, subst, arith, ◌⊎◌, inl, inr, Option, Some, None, get_or}
use Rattle.std.specs.Prelude.{◌==◌, if◌then◌else◌, slice_get, Contains}
use Rattle.std.specs.List.{list_any}
use Rattle.std.specs.Option.{option_map_or}
use Rattle.std.proofs.Math.Path.{fun_ext}
use Rattle.std.proofs.lemmas.Bool.{or_from, or_parts, and_parts, cases_Bool, cases_order, not_from_false, both_ways}
use Rattle.std.proofs.lemmas.Option.{slice_get_within, get_or_from_slice_get}
use Rattle.loc_base.specs.declared.bits.Bits.{Bits}
use Rattle.loc_base.proofs.ShelfLists.{Contains-cons, Contains-empty, Contains-first, Contains-later, list_all-member}
pub use Rattle.loc_base.proofs.ShelfLists.{Contains-at, Contains-place, list_any-found}
use Rattle.loc_base.proofs.ShelfOptions.{Some-same}
use Rattle.design_core.specs.declared.signal.Signal.{Signal}
use Rattle.design_core.specs.declared.place.Place.{Place}
use Rattle.design_core.specs.declared.statement.Stmt.{Stmt}
use Rattle.design_core.specs.declared.driver.Driver.{Driver}
use Rattle.design_core.specs.declared.driver.Driver.TheVariants.{Cont, Comb}
use Rattle.design_core.specs.declared.driver.Reset.{Reset}
use Rattle.design_core.specs.declared.driver.Clocked.{Clocked}
use Rattle.design_core.specs.declared.design.Design.{Design}
use Rattle.design_core.specs.Valuation.{Valuation, bit, width_at}
use Rattle.design_core.specs.Value.{value}
use Rattle.design_core.specs.Store.{store}
use Rattle.design_core.specs.After.{Choice, after}
use Rattle.design_core.specs.Drives.{driver_drives, is_driven, block_drives, is_register_bit, is_listed}
use Rattle.design_core.specs.Cycle.{before, without, cont_assigned, driven, left_from, is_active, is_reset, is_clocked, Cycle}
use Rattle.design_core.specs.WellFormed.{driver_fits, statement_fits, is_reset_values, reset_fits, clocked_fits, IsWellFormed}
use Rattle.design_core.specs.Reads.{AgreeOn, reads, part_reads, statement_reads, driver_reads, Depends, IsOrder}
use Rattle.design_core.proofs.ValueAgrees.{agree_left, agree_right, value-agrees}
use Rattle.design_core.proofs.StatementAgrees.{store-agrees, after-agrees, after-agrees_later}
use Rattle.design_core.proofs.Widened.{begun}

-- a driver's own bits are 0 in what it starts from, and the others as they are
without-own : (signals : List Signal) (driver : Driver) (V : Valuation) (s b : ℕ) → driver_drives signals s b driver ≡ true → without signals driver V s b ≡ false
without-own signals driver V s b drives = ap (λ t. not t && V s b) drives

without-agrees : (signals : List Signal) (driver : Driver) (V W : Valuation) (test : ℕ → ℕ → Bool) → AgreeOn test V W
    → AgreeOn test (without signals driver V) (without signals driver W)
without-agrees signals driver V W test h = record { same = λ s b passes. ap (λ x. not (driver_drives signals s b driver) && x) (h.same s b passes) }

-- what a driver gives its bits is the same where the bits that it reads are the same
pub driven-agrees : (signals : List Signal) (places : List Place) (choice : Choice) (V W : Valuation) (driver : Driver) (s b : ℕ)
    → driver_fits signals places driver ≡ true
    → AgreeOn (λ s b. driver_reads signals s b driver) V W → driver_drives signals s b driver ≡ true
    → driven signals choice V driver s b ≡ driven signals choice W driver s b
driven-agrees signals places choice V W (Cont target e place span) s b fits h drives =
    let own : Driver = Cont target e place span in
    let test : ℕ → ℕ → Bool = λ s b. reads signals s b e in
    let indexes : ℕ → ℕ → Bool = λ s b. list_any (part_reads signals s b) target.parts in
    let from : Valuation = without signals own V in
    let to : Valuation = without signals own W in
    ap (λ v. store signals from from target.parts (bit (cont_assigned choice place v)) s b) (value-agrees signals V W e (agree_left test indexes V W h))
    ∙ store-agrees signals from to from to target.parts (bit (cont_assigned choice place (value signals W e))) s b
    (without-agrees signals own V W indexes (agree_right test indexes V W h))
    (inl (without-own signals own V s b drives ∙ sym (without-own signals own W s b drives)))
driven-agrees signals places choice V W (Comb body span) s b fits h drives =
    let own : Driver = Comb body span in
    after-agrees signals places choice body (begun (without signals own V)) (begun (without signals own W)) s b fits
    (without-agrees signals own V W (λ s b. statement_reads signals s b body) h)
    (inl (without-own signals own V s b drives ∙ sym (without-own signals own W s b drives)))

-- what a clocked block leaves for a register is the same in a bit that is the same before, where the bits that its
-- statement reads are the same
pub left_from-agrees : (signals : List Signal) (places : List Place) (choice : Choice) (block : Clocked) (V W : Valuation) (statement : Stmt) (s b : ℕ)
    → statement_fits signals places statement ≡ true
    → AgreeOn (λ s b. statement_reads signals s b statement) V W → V s b ≡ W s b
    → left_from signals choice block V statement s b ≡ left_from signals choice block W statement s b
left_from-agrees signals places choice block V W statement s b fits h same =
    let later : (after signals choice statement (begun V)).later s b ≡ (after signals choice statement (begun W)).later s b =
    after-agrees_later signals places choice statement (begun V) (begun W) s b fits h same in
    let now : (after signals choice statement (begun V)).now s b ≡ (after signals choice statement (begun W)).now s b =
    after-agrees signals places choice statement (begun V) (begun W) s b fits h (inl same) in
    cc

-- two tests that all elements of a list answer alike
pub list_any-alike : {X : Type 0} (p q : X → Bool) (xs : List X) → ((x : X) → Contains xs x → p x ≡ q x) → list_any p xs ≡ list_any q xs
list_any-alike p q [] same = refl
list_any-alike p q (x ∷ xs) same =
    let here : p x ≡ q x = same x (Contains-first x xs) in
    let later : list_any p xs ≡ list_any q xs = list_any-alike p q xs (λ y member. same y (Contains-later x xs y member)) in
    cc

-- two cycles with the same samples, states and choice
record Two (d : Design) (V W : Valuation) : Type 0 where
  samples : List Bits
  state : Valuation
  choice : Choice
  next : Valuation
  next' : Valuation
  one : Cycle d samples state choice V next
  other : Cycle d samples state choice W next'

input-same : (d : Design) (V W : Valuation) (t : Two d V W) (s b : ℕ) → is_listed d s ≡ true → V s b ≡ W s b
input-same d V W t s b listed = t.one.input s b listed ∙ sym (t.other.input s b listed)

-- a reset's signal is listed
pub reset-listed : (d : Design) (block : Clocked) (r : Reset) → block.reset ≡ Some r → clocked_fits d block ≡ true → is_listed d r.signal ≡ true
reset-listed d block r e fits =
    let fit = and_parts (statement_fits d.signals.items d.places.items block.body) (option_map_or (reset_fits d) block.reset true) fits in
    let here : reset_fits d r ≡ true = sym (ap (λ o. option_map_or (reset_fits d) o true) e) ∙ fit.1 in
    let parts = and_parts (is_listed d r.signal && (width_at d.signals.items r.signal == 1) && is_reset_values r.values)
    (statement_fits d.signals.items d.places.items r.values) here in
    let more = and_parts (is_listed d r.signal && (width_at d.signals.items r.signal == 1)) (is_reset_values r.values) parts.0 in
    (and_parts (is_listed d r.signal) (width_at d.signals.items r.signal == 1) more.0).0

active-same : (d : Design) (V W : Valuation) → IsWellFormed d → Two d V W → (block : Clocked) → Contains d.clocked.items block
    → is_active V block ≡ is_active W block
active-same d V W well t block member = at block.reset refl
  where
    at : (o : Option Reset) → block.reset ≡ o → is_active V block ≡ is_active W block
    at None e =
        ap (λ o. option_map_or (λ (r : Reset). if r.level then V r.signal 0 else not (V r.signal 0)) o false) e
        ∙ sym (ap (λ o. option_map_or (λ (r : Reset). if r.level then W r.signal 0 else not (W r.signal 0)) o false) e)
    at (Some r) e =
        let listed : is_listed d r.signal ≡ true = reset-listed d block r e (list_all-member (clocked_fits d) d.clocked.items block well.clocked member) in
        ap (λ o. option_map_or (λ (r : Reset). if r.level then V r.signal 0 else not (V r.signal 0)) o false) e
        ∙ ap (λ x. if r.level then x else not x) (input-same d V W t r.signal 0 listed)
        ∙ sym (ap (λ o. option_map_or (λ (r : Reset). if r.level then W r.signal 0 else not (W r.signal 0)) o false) e)

-- a block that is active has a reset
pub active-reset : (V : Valuation) (block : Clocked) → is_active V block ≡ true → (r : Reset) × (block.reset ≡ Some r)
active-reset V block active = at block.reset refl active
  where
    at : (o : Option Reset) → block.reset ≡ o → option_map_or (λ (r : Reset). if r.level then V r.signal 0 else not (V r.signal 0)) o false ≡ true
        → (r : Reset) × (block.reset ≡ Some r)
    at None e active = cc
    at (Some r) e active = (r, e)

reset-same : (d : Design) (V W : Valuation) → IsWellFormed d → Two d V W → (s b : ℕ) → is_reset d V s b ≡ is_reset d W s b
reset-same d V W well t s b =
    list_any-alike (λ block. is_active V block && block_drives d.signals.items s b block) (λ block. is_active W block && block_drives d.signals.items s b block) d.clocked.items
    (λ block member. ap (λ a. a && block_drives d.signals.items s b block) (active-same d V W well t block member))

register-same : (d : Design) (V W : Valuation) → IsWellFormed d → Two d V W → (s b : ℕ) → is_register_bit d s b ≡ true → V s b ≡ W s b
register-same d V W well t s b register = at (cases_Bool (is_reset d V s b))
  where
    at : (is_reset d V s b ≡ true) ⊎ (is_reset d V s b ≡ false) → V s b ≡ W s b
    at (inl active) =
        let (block, member, here) = list_any-found (λ block. is_active V block && block_drives d.signals.items s b block) d.clocked.items active in
        let parts = and_parts (is_active V block) (block_drives d.signals.items s b block) here in
        let (r, e) = active-reset V block parts.0 in
        t.one.reset block r s b member e parts.0 parts.1 register
        ∙ sym (t.other.reset block r s b member e (sym (active-same d V W well t block member) ∙ parts.0) parts.1 register)
    at (inr quiet) =
        t.one.register s b register (not_from_false (is_reset d V s b) quiet)
        ∙ sym (t.other.register s b register (not_from_false (is_reset d W s b) (sym (reset-same d V W well t s b) ∙ quiet)))

-- a bit is the same where it is in the drivers that drive it
bit-same : (d : Design) (V W : Valuation) → IsWellFormed d → Two d V W → (s b : ℕ)
    → ((driver : Driver) → Contains d.drivers.items driver → driver_drives d.signals.items s b driver ≡ true → V s b ≡ W s b)
    → V s b ≡ W s b
bit-same d V W well t s b by_driver = at (cases_Bool (is_listed d s)) (cases_Bool (is_register_bit d s b)) (cases_Bool (is_driven d s b))
  where
    at : (is_listed d s ≡ true) ⊎ (is_listed d s ≡ false) → (is_register_bit d s b ≡ true) ⊎ (is_register_bit d s b ≡ false)
        → (is_driven d s b ≡ true) ⊎ (is_driven d s b ≡ false) → V s b ≡ W s b
    at (inl listed) register by = input-same d V W t s b listed
    at (inr listed) (inl register) by = register-same d V W well t s b register
    at (inr listed) (inr register) (inl by) =
        let (driver, member, drives) = list_any-found (driver_drives d.signals.items s b) d.drivers.items by in by_driver driver member drives
    at (inr listed) (inr register) (inr by) =
        let none : not (is_listed d s || is_register_bit d s b || is_driven d s b) ≡ true =
        not_from_false (is_listed d s || is_register_bit d s b || is_driven d s b)
        (or_from (is_listed d s || is_register_bit d s b) (is_driven d s b) (or_from (is_listed d s) (is_register_bit d s b) listed register) by) in
        t.one.other s b none ∙ sym (t.other.other s b none)

-- the bits of the drivers that stand before a place of the order are the same
record SameBefore (d : Design) (order : List ℕ) (V W : Valuation) (k : ℕ) : Type 0 where
  same : (l i : ℕ) (driver : Driver) (s b : ℕ) → l < k → slice_get order l ≡ Some i → slice_get d.drivers.items i ≡ Some driver
      → driver_drives d.signals.items s b driver ≡ true → V s b ≡ W s b

-- a driver that another depends on stands before it
pub earlier : (d : Design) (order : List ℕ) → IsOrder d order → (k l i j : ℕ) → slice_get order k ≡ Some i → slice_get order l ≡ Some j → Depends d i j → l < k
earlier d order h k l i j at_k at_l depends = at (cases_order l k)
  where
    at : (l ≡ k) ⊎ ((l < k) ⊎ (k < l)) → l < k
    at (inl e) =
        let same : j ≡ i = Some-same (sym at_l ∙ ap (slice_get order) e ∙ at_k) in
        let here : get_or order k 0 ≡ i = get_or_from_slice_get order k i 0 at_k in
        let P : ℕ → Type 0 = λ n. Depends d n n → ⊥ in
        let Q : ℕ → Type 0 = λ n. Depends d i n in
        absurd (subst P here (h.not_itself k 0 (slice_get_within order k i at_k)) (subst Q same depends))
    at (inr (inl lt)) = lt
    at (inr (inr gt)) =
        let P : ℕ → Type 0 = λ n. Depends d n (get_or order l 0) → ⊥ in
        let Q : ℕ → Type 0 = λ n. Depends d i n → ⊥ in
        let first = subst P (get_or_from_slice_get order k i 0 at_k) (h.not_later k l 0 gt (slice_get_within order l j at_l)) in
        absurd (subst Q (get_or_from_slice_get order l j 0 at_l) first depends)

driver-same : (d : Design) (order : List ℕ) (V W : Valuation) → IsWellFormed d → IsOrder d order → Two d V W → (k : ℕ)
    → SameBefore d order V W k → (i : ℕ) (driver : Driver) (s b : ℕ) → slice_get order k ≡ Some i → slice_get d.drivers.items i ≡ Some driver
    → driver_drives d.signals.items s b driver ≡ true → V s b ≡ W s b
driver-same d order V W well h t k before i driver s b at_k at_i drives =
    let member : Contains d.drivers.items driver = Contains-at d.drivers.items i driver at_i in
    let fits = list_all-member (driver_fits d.signals.items d.places.items) d.drivers.items driver well.drivers member in
    let agree : AgreeOn (λ s b. driver_reads d.signals.items s b driver) V W =
    record {
      same = λ s b read. bit-same d V W well t s b (λ source member drives.
          let (j, at_j) = Contains-place d.drivers.items source member in
          let (l, at_l) = Contains-place order j (h.complete j (slice_get_within d.drivers.items j source at_j)) in
          before.same l j source s b
          (earlier d order h k l i j at_k at_l (record { reader = driver; source = source; is_reader = at_i; is_source = at_j; signal = s; position = b; read = read; driven = drives }))
          at_l at_j drives);
    } in
    t.one.driver driver s b member drives ∙ driven-agrees d.signals.items d.places.items t.choice V W driver s b fits agree drives ∙ sym (t.other.driver driver s b member drives)

all-before : (d : Design) (order : List ℕ) (V W : Valuation) → IsWellFormed d → IsOrder d order → Two d V W → (k : ℕ) → SameBefore d order V W k
all-before d order V W well h t zero = record { same = λ l i driver s b below at_l at_i drives. absurd (omega arith) }
all-before d order V W well h t (suc k) =
    let before : SameBefore d order V W k = all-before d order V W well h t k in
    record { same = λ l i driver s b below at_l at_i drives. at l i driver s b below at_l at_i drives before (cases_order l k) }
  where
    at : (l i : ℕ) (driver : Driver) (s b : ℕ) → l < suc k → slice_get order l ≡ Some i → slice_get d.drivers.items i ≡ Some driver
        → driver_drives d.signals.items s b driver ≡ true → SameBefore d order V W k → (l ≡ k) ⊎ ((l < k) ⊎ (k < l)) → V s b ≡ W s b
    at l i driver s b below at_l at_i drives before (inl e) =
        driver-same d order V W well h t k before i driver s b (ap (slice_get order) (sym e) ∙ at_l) at_i drives
    at l i driver s b below at_l at_i drives before (inr (inl lt)) = before.same l i driver s b lt at_l at_i drives
    at l i driver s b below at_l at_i drives before (inr (inr gt)) = absurd (omega arith)

bits-same : (d : Design) (order : List ℕ) (V W : Valuation) → IsWellFormed d → IsOrder d order → Two d V W → V ≡ W
bits-same d order V W well h t =
    let before : SameBefore d order V W (length order) = all-before d order V W well h t (length order) in
    fun_ext (λ s. fun_ext (λ b. bit-same d V W well t s b (λ driver member drives.
    let (i, at_i) = Contains-place d.drivers.items driver member in
    let (l, at_l) = Contains-place order i (h.complete i (slice_get_within d.drivers.items i driver at_i)) in
    before.same l i driver s b (slice_get_within order l i at_l) at_l at_i drives)))

-- an element that fails a test that none passes
pub list_any-none : {X : Type 0} (test : X → Bool) (xs : List X) (x : X) → Contains xs x → list_any test xs ≡ false → test x ≡ false
list_any-none test [] x member none = absurd (Contains-empty x member)
list_any-none test (y ∷ ys) x member none =
    at (Contains-cons y ys x member) (λ later. list_any-none test ys x later (or_parts (test y) (list_any test ys) none).1)
  where
    at : (y ≡ x) ⊎ Contains ys x → (Contains ys x → test x ≡ false) → test x ≡ false
    at (inl same) behind = ap test (sym same) ∙ (or_parts (test y) (list_any test ys) none).0
    at (inr later) behind = behind later

pub first-false : (x y : Bool) → (x && y) ≡ false → y ≡ true → x ≡ false
first-false true y none is = absurd (both_ways y none is)
first-false false y none is = refl

-- two next states after one valuation are the same
next-same : (d : Design) (samples : List Bits) (state : Valuation) (choice : Choice) (V next next' : Valuation)
    → Cycle d samples state choice V next → Cycle d samples state choice V next' → next ≡ next'
next-same d samples state choice V next next' one other =
    fun_ext (λ s. fun_ext (λ b. at s b (cases_Bool (is_register_bit d s b)) (cases_Bool (is_reset d V s b)) (cases_Bool (is_clocked d s b))))
  where
    at : (s b : ℕ) → (is_register_bit d s b ≡ true) ⊎ (is_register_bit d s b ≡ false) → (is_reset d V s b ≡ true) ⊎ (is_reset d V s b ≡ false)
        → (is_clocked d s b ≡ true) ⊎ (is_clocked d s b ≡ false) → next s b ≡ next' s b
    at s b (inr not_register) reset clocked =
        let outside = not_from_false (is_register_bit d s b) not_register in
        one.next_other s b outside ∙ sym (other.next_other s b outside)
    at s b (inl register) (inl reset) clocked = one.next_reset s b register reset ∙ sym (other.next_reset s b register reset)
    at s b (inl register) (inr quiet) (inr unclocked) =
        let kept = not_from_false (is_clocked d s b) unclocked in
        one.next_kept s b register kept ∙ sym (other.next_kept s b register kept)
    at s b (inl register) (inr quiet) (inl clocked) =
        let (block, member, drives) = list_any-found (block_drives d.signals.items s b) d.clocked.items clocked in
        let none = list_any-none (λ block. is_active V block && block_drives d.signals.items s b block) d.clocked.items block member quiet in
        let inactive : not (is_active V block) ≡ true = not_from_false (is_active V block) (first-false (is_active V block) (block_drives d.signals.items s b block) none drives) in
        one.next_clocked block s b member inactive drives register ∙ sym (other.next_clocked block s b member inactive drives register)

-- there is at most one valuation and one next state
pub cycle-unique : (d : Design) (order : List ℕ) → IsWellFormed d → IsOrder d order
    → (samples : List Bits) (state : Valuation) (choice : Choice) (V next W next' : Valuation)
    → Cycle d samples state choice V next → Cycle d samples state choice W next' → (V ≡ W) × (next ≡ next')
cycle-unique d order well h samples state choice V next W next' one other =
    let two : Two d V W = record { samples = samples; state = state; choice = choice; next = next; next' = next'; one = one; other = other } in
    let same : V ≡ W = bits-same d order V W well h two in
    let P : Valuation → Type 0 = λ U. Cycle d samples state choice U next' in
    (same, next-same d samples state choice V next next' one (subst P (sym same) other))

-- A cycle stays one where more places are freed and the added ones are given what they compute in it.
use Rattle.std.proofs.Common.{ℕ, ◌≡◌, ◌≤◌, true, ◌&&◌, List, [], ◌∷◌, refl, ap, sym, ◌∙◌, arith, ◌⊎◌, inl, inr, Some, None}
use Rattle.std.specs.Prelude.{◌==◌, nat_lt, if◌then◌else◌, sum_by, Contains}
use Rattle.std.specs.List.{list_any}
use Rattle.std.specs.Option.{option_map_or}
use Rattle.std.proofs.lemmas.Bool.{and_parts, lt-ltb, le-ltb, eq-eqb, cond-true, cond-false}
use Rattle.std.proofs.lemmas.List.Sums.{sum_by-cons}
use Rattle.loc_base.specs.declared.bits.Bits.{Bits}
use Rattle.loc_base.proofs.ShelfLists.{Contains-cons, Contains-empty}
pub use Rattle.loc_base.proofs.ShelfLists.{list_all-member}
use Rattle.design_core.specs.declared.signal.Signal.{Signal}
use Rattle.design_core.specs.declared.place.Place.{Place}
use Rattle.design_core.specs.declared.statement.Stmt.{Stmt}
use Rattle.design_core.specs.declared.driver.Driver.{Driver}
use Rattle.design_core.specs.declared.driver.Driver.TheVariants.{Cont, Comb}
use Rattle.design_core.specs.declared.driver.Reset.{Reset}
use Rattle.design_core.specs.declared.driver.Clocked.{Clocked}
use Rattle.design_core.specs.declared.design.Design.{Design}
use Rattle.design_core.specs.Valuation.{Valuation, bit, width_at}
use Rattle.design_core.specs.Value.{value}
use Rattle.design_core.specs.Store.{parts_width}
use Rattle.design_core.specs.After.{Choice, assigned, Updates}
use Rattle.design_core.specs.Cycle.{before, without, driven, left, left_from, Cycle}
use Rattle.design_core.specs.WellFormed.{place_fits, assignment_fits, statement_fits, driver_fits, is_reset_values, reset_fits, clocked_fits, times_in, times_in_driver, times_in_clocked, times_in_design, IsWellFormed}
use Rattle.design_core.proofs.StoreBits.{store-bits}
use Rattle.design_core.proofs.Computed.{computed, SamePlaces, place_fits-at, narrowed, after-wider}

-- the value of the first element of a list that has one, else another
abbrev pub first_of : {X : Type 0} → (X → ℕ) → (X → ℕ) → List X → ℕ → ℕ
first_of times values [] other = other
first_of times values (x ∷ xs) other = if nat_lt 0 (times x) then values x else first_of times values xs other

-- a member has no more than all have together
pub sum_by-member : {X : Type 0} (times : X → ℕ) (xs : List X) (x : X) → Contains xs x → times x ≤ sum_by times xs
sum_by-member times [] x member = absurd (Contains-empty x member)
sum_by-member times (y ∷ ys) x member = at (Contains-cons y ys x member) (λ later. sum_by-member times ys x later)
  where
    at : (y ≡ x) ⊎ Contains ys x → (Contains ys x → times x ≤ sum_by times ys) → times x ≤ sum_by times (y ∷ ys)
    at (inl same) below = omega (arith, sum_by-cons times y ys, ap times same)
    at (inr later) below = omega (arith, sum_by-cons times y ys, below later)

pub first_of-member : {X : Type 0} (times values : X → ℕ) (xs : List X) (other : ℕ) (x : X) → Contains xs x → 1 ≤ times x → sum_by times xs ≤ 1
    → first_of times values xs other ≡ values x
first_of-member times values [] other x member stands once = absurd (Contains-empty x member)
first_of-member times values (y ∷ ys) other x member stands once =
    at (Contains-cons y ys x member) (λ later. first_of-member times values ys other x later stands (omega (arith, once, sum_by-cons times y ys)))
  where
    at : (y ≡ x) ⊎ Contains ys x → (Contains ys x → first_of times values ys other ≡ values x) → first_of times values (y ∷ ys) other ≡ values x
    at (inl same) behind =
        cond-true (nat_lt 0 (times y)) (values y) (first_of times values ys other) (lt-ltb 0 (times y) (omega (arith, stands, ap times same))) ∙ ap values same
    at (inr later) behind =
        cond-false (nat_lt 0 (times y)) (values y) (first_of times values ys other)
        (le-ltb 0 (times y) (omega (arith, stands, once, sum_by-cons times y ys, sum_by-member times ys x later))) ∙ behind later

pub first_of-none : {X : Type 0} (times values : X → ℕ) (xs : List X) (other : ℕ) → sum_by times xs ≡ 0 → first_of times values xs other ≡ other
first_of-none times values [] other none = refl
first_of-none times values (x ∷ xs) other none =
    cond-false (nat_lt 0 (times x)) (values x) (first_of times values xs other) (le-ltb 0 (times x) (omega (arith, none, sum_by-cons times x xs)))
    ∙ first_of-none times values xs other (omega (arith, none, sum_by-cons times x xs))

-- a statement begun with no later updates
abbrev pub begun : Valuation → Updates
begun V = record { now = V; later = V }

-- what a place of a driver computes, where the bits are as in V
abbrev pub computed_driver : List Signal → Choice → Valuation → ℕ → Driver → ℕ
computed_driver signals choice V p (Cont target e place span) = value signals V e
computed_driver signals choice V p (Comb body span) = computed signals choice p body (begun (without signals (Comb body span) V))

-- what a place of a clocked block computes: its body is begun in V, its reset's values in M
abbrev pub computed_clocked : List Signal → Choice → Valuation → Valuation → ℕ → Clocked → ℕ
computed_clocked signals choice V M p block =
    if nat_lt 0 (times_in p block.body)
    then computed signals choice p block.body (begun V)
    else option_map_or (λ r. computed signals choice p r.values (begun M)) block.reset 0

-- what a place computes in a cycle
abbrev pub computed_cycle : Design → Choice → Valuation → Valuation → ℕ → ℕ
computed_cycle d choice V M p =
    first_of (times_in_driver p) (computed_driver d.signals.items choice V p) d.drivers.items
    (first_of (times_in_clocked p) (computed_clocked d.signals.items choice V M p) d.clocked.items 0)

pub driven-wider : (signals : List Signal) (places : List Place) (choice wider : Choice) (V : Valuation) (driver : Driver)
    → driver_fits signals places driver ≡ true
    → SamePlaces places choice wider (λ p. times_in_driver p driver) (λ p. computed_driver signals choice V p driver)
    → driven signals wider V driver ≡ driven signals choice V driver
driven-wider signals places choice wider V (Cont target e None span) fits h = refl
driven-wider signals places choice wider V (Cont target e (Some p) span) fits h =
    let fit = and_parts (assignment_fits signals target.parts e) (place_fits places (parts_width signals target.parts) p) fits in
    let (place, at, width) = place_fits-at places (parts_width signals target.parts) p fit.1 in
    let times : ℕ = if p == p then 1 else 0 in
    let one : times ≡ 1 = cond-true (p == p) 1 0 (eq-eqb p p refl) in
    let rest : Valuation = without signals (Cont target e (Some p) span) V in
    store-bits signals rest rest target.parts (bit (assigned wider p (value signals V e))) (bit (assigned choice p (value signals V e)))
    (λ b below. h.same p place at (omega (arith, one)) b (omega (arith, width)))
driven-wider signals places choice wider V (Comb body span) fits h =
    ap (λ m. m.now) (after-wider signals places choice wider body (begun (without signals (Comb body span) V)) fits h)

left_from-wider : (signals : List Signal) (places : List Place) (choice wider : Choice) (block : Clocked) (V : Valuation) (statement : Stmt)
    → statement_fits signals places statement ≡ true
    → SamePlaces places choice wider (λ p. times_in p statement) (λ p. computed signals choice p statement (begun V))
    → left_from signals wider block V statement ≡ left_from signals choice block V statement
left_from-wider signals places choice wider block V statement fits h = ap (left block) (after-wider signals places choice wider statement (begun V) fits h)

-- what is said of the places of the design is said of those of each of its drivers
pub driver-places : (d : Design) (choice wider : Choice) (V M : Valuation) (driver : Driver) → Contains d.drivers.items driver
    → SamePlaces d.places.items choice wider (times_in_design d) (computed_cycle d choice V M)
    → SamePlaces d.places.items choice wider (λ p. times_in_driver p driver) (λ p. computed_driver d.signals.items choice V p driver)
driver-places d choice wider V M driver member h =
    narrowed d.places.items choice wider (times_in_design d) (λ p. times_in_driver p driver)
    (computed_cycle d choice V M) (λ p. computed_driver d.signals.items choice V p driver) h
    (λ p. omega (arith, sum_by-member (times_in_driver p) d.drivers.items driver member))
    (λ p stands once. first_of-member (times_in_driver p) (computed_driver d.signals.items choice V p) d.drivers.items
    (first_of (times_in_clocked p) (computed_clocked d.signals.items choice V M p) d.clocked.items 0) driver member stands (omega arith))

-- and of those of each of its clocked blocks
pub clocked-places : (d : Design) (choice wider : Choice) (V M : Valuation) (block : Clocked) → Contains d.clocked.items block
    → SamePlaces d.places.items choice wider (times_in_design d) (computed_cycle d choice V M)
    → SamePlaces d.places.items choice wider (λ p. times_in_clocked p block) (λ p. computed_clocked d.signals.items choice V M p block)
clocked-places d choice wider V M block member h =
    narrowed d.places.items choice wider (times_in_design d) (λ p. times_in_clocked p block)
    (computed_cycle d choice V M) (λ p. computed_clocked d.signals.items choice V M p block) h
    (λ p. omega (arith, sum_by-member (times_in_clocked p) d.clocked.items block member))
    (λ p stands once.
    let behind : ℕ = first_of (times_in_clocked p) (computed_clocked d.signals.items choice V M p) d.clocked.items 0 in
    let most = sum_by-member (times_in_clocked p) d.clocked.items block member in
    first_of-none (times_in_driver p) (computed_driver d.signals.items choice V p) d.drivers.items behind (omega (arith, most))
    ∙ first_of-member (times_in_clocked p) (computed_clocked d.signals.items choice V M p) d.clocked.items 0 block member stands (omega arith))

body-places : (d : Design) (choice wider : Choice) (V M : Valuation) (block : Clocked)
    → SamePlaces d.places.items choice wider (λ p. times_in_clocked p block) (λ p. computed_clocked d.signals.items choice V M p block)
    → SamePlaces d.places.items choice wider (λ p. times_in p block.body) (λ p. computed d.signals.items choice p block.body (begun V))
body-places d choice wider V M block h =
    let of_reset : ℕ → ℕ = λ p. option_map_or (λ r. computed d.signals.items choice p r.values (begun M)) block.reset 0 in
    narrowed d.places.items choice wider (λ p. times_in_clocked p block) (λ p. times_in p block.body)
    (λ p. computed_clocked d.signals.items choice V M p block) (λ p. computed d.signals.items choice p block.body (begun V)) h
    (λ p. omega arith)
    (λ p stands once. cond-true (nat_lt 0 (times_in p block.body)) (computed d.signals.items choice p block.body (begun V)) (of_reset p) (lt-ltb 0 (times_in p block.body) (omega arith)))

reset-places : (d : Design) (choice wider : Choice) (V M : Valuation) (block : Clocked) (r : Reset) → block.reset ≡ Some r
    → SamePlaces d.places.items choice wider (λ p. times_in_clocked p block) (λ p. computed_clocked d.signals.items choice V M p block)
    → SamePlaces d.places.items choice wider (λ p. times_in p r.values) (λ p. computed d.signals.items choice p r.values (begun M))
reset-places d choice wider V M block r e h =
    let of_reset : ℕ → ℕ = λ p. option_map_or (λ r. computed d.signals.items choice p r.values (begun M)) block.reset 0 in
    let times : (p : ℕ) → option_map_or (λ r. times_in p r.values) block.reset 0 ≡ times_in p r.values =
    λ p. ap (λ o. option_map_or (λ r. times_in p r.values) o 0) e in
    narrowed d.places.items choice wider (λ p. times_in_clocked p block) (λ p. times_in p r.values)
    (λ p. computed_clocked d.signals.items choice V M p block) (λ p. computed d.signals.items choice p r.values (begun M)) h
    (λ p. omega (arith, times p))
    (λ p stands once.
    cond-false (nat_lt 0 (times_in p block.body)) (computed d.signals.items choice p block.body (begun V)) (of_reset p)
    (le-ltb 0 (times_in p block.body) (omega (arith, times p)))
    ∙ ap (λ o. option_map_or (λ r. computed d.signals.items choice p r.values (begun M)) o 0) e)

-- a reset's values fit where its block does
reset-fits : (d : Design) (block : Clocked) (r : Reset) → block.reset ≡ Some r → clocked_fits d block ≡ true
    → statement_fits d.signals.items d.places.items r.values ≡ true
reset-fits d block r e fits =
    let fit = and_parts (statement_fits d.signals.items d.places.items block.body) (option_map_or (reset_fits d) block.reset true) fits in
    let here : reset_fits d r ≡ true = sym (ap (λ o. option_map_or (reset_fits d) o true) e) ∙ fit.1 in
    (and_parts (list_any (λ input. input == r.signal) d.inputs.items && (width_at d.signals.items r.signal == 1) && is_reset_values r.values)
    (statement_fits d.signals.items d.places.items r.values) here).1

-- a cycle is one where more places are freed, and assign the same bits
pub cycle-wider : (d : Design) (samples : List Bits) (state : Valuation) (choice wider : Choice) (V next : Valuation) → IsWellFormed d
    → SamePlaces d.places.items choice wider (times_in_design d) (computed_cycle d choice V (before d samples state))
    → Cycle d samples state choice V next → Cycle d samples state wider V next
cycle-wider d samples state choice wider V next well h cycle =
    let signals : List Signal = d.signals.items in
    let M : Valuation = before d samples state in
    let in_block = λ (block : Clocked) (member : Contains d.clocked.items block). clocked-places d choice wider V M block member h in
    let block_fits = λ (block : Clocked) (member : Contains d.clocked.items block). list_all-member (clocked_fits d) d.clocked.items block well.clocked member in
    let reset_left : (block : Clocked) (r : Reset) → Contains d.clocked.items block → block.reset ≡ Some r
    → left_from signals wider block M r.values ≡ left_from signals choice block M r.values =
    λ block r member e. left_from-wider signals d.places.items choice wider block M r.values
    (reset-fits d block r e (block_fits block member)) (reset-places d choice wider V M block r e (in_block block member)) in
    let body_left : (block : Clocked) → Contains d.clocked.items block → left_from signals wider block V block.body ≡ left_from signals choice block V block.body =
    λ block member. left_from-wider signals d.places.items choice wider block V block.body
    (and_parts (statement_fits signals d.places.items block.body) (option_map_or (reset_fits d) block.reset true) (block_fits block member)).0
    (body-places d choice wider V M block (in_block block member)) in
    let of_driver : (driver : Driver) → Contains d.drivers.items driver → driven signals wider V driver ≡ driven signals choice V driver =
    λ driver member. driven-wider signals d.places.items choice wider V driver
    (list_all-member (driver_fits signals d.places.items) d.drivers.items driver well.drivers member) (driver-places d choice wider V M driver member h) in
    record {
      input = cycle.input;
      register = cycle.register;
      other = cycle.other;
      next_reset = cycle.next_reset;
      next_kept = cycle.next_kept;
      next_other = cycle.next_other;
      reset = λ block r s b member e active drives register.
          cycle.reset block r s b member e active drives register ∙ sym (ap (λ (W : Valuation). W s b) (reset_left block r member e));
      driver = λ driver s b member drives. cycle.driver driver s b member drives ∙ sym (ap (λ (W : Valuation). W s b) (of_driver driver member));
      next_clocked = λ block s b member inactive drives register.
          cycle.next_clocked block s b member inactive drives register ∙ sym (ap (λ (W : Valuation). W s b) (body_left block member));
    }

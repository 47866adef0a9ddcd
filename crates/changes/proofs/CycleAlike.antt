-- A cycle stays one by another choice that assigns the same bits to each place that is carried out in it, and each place computes the
-- same in it.
use Rattle.std.proofs.Common.{ℕ, ◌≡◌, ◌≤◌, Bool, true, false, ◌&&◌, List, [], ◌∷◌, refl, ap, sym, ◌∙◌, arith, ◌⊎◌, inl, inr, Option, Some, None}
use Rattle.std.specs.Prelude.{◌==◌, if◌then◌else◌, sum_by, Contains, option_and_then}
use Rattle.std.specs.List.{list_all}
use Rattle.std.specs.Option.{option_map_or, option_or}
use Rattle.std.proofs.lemmas.Bool.{and_parts, cond-true, cond-false, not-true}
use Rattle.std.proofs.lemmas.List.Sums.{sum_by-cons}
use Rattle.loc_base.specs.declared.bits.Bits.{Bits}
use Rattle.loc_base.proofs.ShelfLists.{Contains-cons, Contains-empty, Contains-first, Contains-later, list_all-member}
use Rattle.design_core.specs.declared.signal.Signal.{Signal}
use Rattle.design_core.specs.declared.place.Place.{Place}
use Rattle.design_core.specs.declared.statement.Stmt.{Stmt, Row_of-Stmt, end_of-Stmt, more_of-Stmt}
use Rattle.design_core.specs.declared.statement.Stmt.TheVariants.{Nothing, Block', If', Case', Set}
use Rattle.design_core.specs.declared.driver.Driver.{Driver}
use Rattle.design_core.specs.declared.driver.Driver.TheVariants.{Cont, Comb}
use Rattle.design_core.specs.declared.driver.Reset.{Reset}
use Rattle.design_core.specs.declared.driver.Clocked.{Clocked}
use Rattle.design_core.specs.declared.design.Design.{Design}
use Rattle.design_core.specs.Valuation.{Valuation, bit}
use Rattle.design_core.specs.Value.{value}
use Rattle.design_core.specs.Store.{parts_width}
use Rattle.design_core.specs.Constant.{is_constant}
use Rattle.design_core.specs.After.{Choice, assigned, Updates, after}
use Rattle.design_core.specs.Cycle.{before, without, driven, left, left_from, is_active, Cycle}
use Rattle.design_core.specs.WellFormed.{place_fits, assignment_fits, statement_fits, driver_fits, is_fixed, is_reset_values, are_reset_values, reset_fits, clocked_fits, times_in, times_in_driver, times_in_clocked, times_in_design, IsWellFormed}
use Rattle.design_core.proofs.StoreBits.{store-bits}
use Rattle.design_core.proofs.ValueAgrees.{constant-value}
use Rattle.design_core.proofs.Widened.{sum_by-member}
use Rattle.changes.specs.Reached.{fitted, reached_set, reached_in, reached_all, begun, reached_driver, reached_clocked, first_reached, reached}
use Rattle.changes.proofs.ReachedLaws.{SameReached, narrowed, set_none, stands, reached_in-none, set-same, after-alike, reached_in-alike}

-- ---- the first element that gives a number
pub first_reached-none : {X : Type 0} (times : X → ℕ) (reaches : X → Option ℕ) (xs : List X) → ((x : X) → times x ≡ 0 → reaches x ≡ None)
    → sum_by times xs ≡ 0 → first_reached reaches xs ≡ None
first_reached-none times reaches [] none zero = refl
first_reached-none times reaches (x ∷ xs) none zero =
    ap (λ o. option_or o (first_reached reaches xs)) (none x (omega (arith, zero, sum_by-cons times x xs)))
    ∙ first_reached-none times reaches xs none (omega (arith, zero, sum_by-cons times x xs))

-- where all give one together, an element that gives a number is the first that does
pub first_reached-member : {X : Type 0} (times : X → ℕ) (reaches : X → Option ℕ) (xs : List X) (x : X) (v : ℕ)
    → ((x : X) → times x ≡ 0 → reaches x ≡ None) → Contains xs x → sum_by times xs ≤ 1 → reaches x ≡ Some v
    → first_reached reaches xs ≡ Some v
first_reached-member times reaches [] x v none member once is = absurd (Contains-empty x member)
first_reached-member times reaches (y ∷ ys) x v none member once is =
    at (Contains-cons y ys x member)
    (λ later. first_reached-member times reaches ys x v none later (omega (arith, once, sum_by-cons times y ys)) is)
  where
    at : (y ≡ x) ⊎ Contains ys x → (Contains ys x → first_reached reaches ys ≡ Some v) → first_reached reaches (y ∷ ys) ≡ Some v
    at (inl same) behind = ap (λ o. option_or o (first_reached reaches ys)) (ap reaches same ∙ is)
    at (inr later) behind =
        let here : 1 ≤ times x = stands (times x) (reaches x) v (none x) is in
        ap (λ o. option_or o (first_reached reaches ys))
        (none y (omega (arith, once, sum_by-cons times y ys, sum_by-member times ys x later, here)))
        ∙ behind later

-- where each element gives the same
pub first_reached-alike : {X : Type 0} (f g : X → Option ℕ) (xs : List X) → ((x : X) → Contains xs x → f x ≡ g x)
    → first_reached f xs ≡ first_reached g xs
first_reached-alike f g [] same = refl
first_reached-alike f g (x ∷ xs) same =
    ap (λ o. option_or o (first_reached f xs)) (same x (Contains-first x xs))
    ∙ ap (option_or (g x)) (first_reached-alike f g xs (λ y member. same y (Contains-later x xs y member)))

-- ---- places that do not stand in a driver or in a clocked block
pub reached_driver-none : (signals : List Signal) (A : Choice) (V : Valuation) (p : ℕ) (driver : Driver) → times_in_driver p driver ≡ 0
    → reached_driver signals A V p driver ≡ None
reached_driver-none signals A V p (Cont target e None span) none = refl
reached_driver-none signals A V p (Cont target e (Some place) span) none = set_none (place == p)
    (fitted signals target.parts (value signals V e)) none
reached_driver-none signals A V p (Comb body span) none = reached_in-none signals A p body (begun (without signals (Comb body span) V)) none

-- in a reset, where it has values
abbrev pub in_reset : List Signal → Choice → Updates → ℕ → Option Reset → Option ℕ
in_reset signals A m p reset = option_and_then (λ r. reached_in signals A p r.values m) reset

in_reset-none : (signals : List Signal) (A : Choice) (m : Updates) (p : ℕ) (reset : Option Reset)
    → option_map_or (λ r. times_in p r.values) reset 0 ≡ 0
    → in_reset signals A m p reset ≡ None
in_reset-none signals A m p None none = refl
in_reset-none signals A m p (Some r) none = reached_in-none signals A p r.values m none

both_none : (t : Bool) (x y : Option ℕ) → x ≡ None → y ≡ None → (if t then x else y) ≡ None
both_none true x y first second = first
both_none false x y first second = second

pub reached_clocked-none : (signals : List Signal) (A : Choice) (V : Valuation) (p : ℕ) (block : Clocked) → times_in_clocked p block ≡ 0
    → reached_clocked signals A V p block ≡ None
reached_clocked-none signals A V p block none =
    both_none (is_active V block) (in_reset signals A (begun V) p block.reset) (reached_in signals A p block.body (begun V))
    (in_reset-none signals A (begun V) p block.reset (omega (arith, none)))
    (reached_in-none signals A p block.body (begun V) (omega (arith, none)))

-- ---- a reset's values are constants: what they compute doesn't depend on what they are begun in
mutual
  pub reset-constant : (signals : List Signal) (A : Choice) (p : ℕ) (statement : Stmt) (m n : Updates) → is_reset_values statement ≡ true
      → reached_in signals A p statement m ≡ reached_in signals A p statement n
  reset-constant signals A p Nothing m n are = refl
  reset-constant signals A p (Block' _ statements) m n are = resets-constant signals A p statements m n are
  reset-constant signals A p (If' _ _ _ _ _) m n are = cc
  reset-constant signals A p (Case' _ _ _ _ _ _) m n are = cc
  reset-constant signals A p (Set place target e later) m n are =
      let parts = and_parts (is_constant e.node) (list_all is_fixed target.parts) are in
      ap (λ v. reached_set place p (fitted signals target.parts v)) (constant-value signals m.now n.now e.width e.node parts.0)

  pub resets-constant : {shape : _} (signals : List Signal) (A : Choice) (p : ℕ) (statements : Row_of-Stmt shape)
      (m n : Updates) → are_reset_values statements ≡ true
      → reached_all signals A p statements m ≡ reached_all signals A p statements n
  resets-constant signals A p end_of-Stmt m n are = refl
  resets-constant signals A p (more_of-Stmt statement rest) m n are =
      let parts = and_parts (is_reset_values statement) (are_reset_values rest) are in
      ap (λ o. option_or o (reached_all signals A p rest (after signals A statement m))) (reset-constant signals A p statement m n parts.0)
      ∙ ap (option_or (reached_in signals A p statement n))
      (resets-constant signals A p rest (after signals A statement m) (after signals A statement n) parts.1)

-- ---- what is said of the places of the design is said of those of each of its drivers and clocked blocks
of_driver : (d : Design) (A B : Choice) (V : Valuation) (driver : Driver) → Contains d.drivers.items driver
    → SameReached d.places.items A B (times_in_design d) (reached d A V)
    → SameReached d.places.items A B (λ p. times_in_driver p driver) (λ p. reached_driver d.signals.items A V p driver)
of_driver d A B V driver member h =
    let signals : List Signal = d.signals.items in
    narrowed d.places.items A B (times_in_design d) (λ p. times_in_driver p driver) (reached d A V)
    (λ p. reached_driver signals A V p driver) h
    (λ p. omega (arith, sum_by-member (times_in_driver p) d.drivers.items driver member))
    (λ p v once is.
    ap (λ o. option_or o (first_reached (reached_clocked signals A V p) d.clocked.items))
    (first_reached-member (times_in_driver p) (reached_driver signals A V p) d.drivers.items driver v
    (reached_driver-none signals A V p) member (omega (arith, once)) is))

of_block : (d : Design) (A B : Choice) (V : Valuation) (block : Clocked) → Contains d.clocked.items block
    → SameReached d.places.items A B (times_in_design d) (reached d A V)
    → SameReached d.places.items A B (λ p. times_in_clocked p block) (λ p. reached_clocked d.signals.items A V p block)
of_block d A B V block member h =
    let signals : List Signal = d.signals.items in
    narrowed d.places.items A B (times_in_design d) (λ p. times_in_clocked p block) (reached d A V)
    (λ p. reached_clocked signals A V p block) h
    (λ p. omega (arith, sum_by-member (times_in_clocked p) d.clocked.items block member))
    (λ p v once is.
    let here : 1 ≤ times_in_clocked p block = stands (times_in_clocked p block)
    (reached_clocked signals A V p block) v (reached_clocked-none signals A V p block) is in
    let most = sum_by-member (times_in_clocked p) d.clocked.items block member in
    ap (λ o. option_or o (first_reached (reached_clocked signals A V p) d.clocked.items))
    (first_reached-none (times_in_driver p) (reached_driver signals A V p) d.drivers.items
    (reached_driver-none signals A V p) (omega (arith, once, here, most)))
    ∙ first_reached-member (times_in_clocked p) (reached_clocked signals A V p) d.clocked.items block v
    (reached_clocked-none signals A V p) member (omega (arith, once)) is)

-- of a block whose reset is not active, of its body
of_body : (signals : List Signal) (places : List Place) (A B : Choice) (V : Valuation) (block : Clocked) → is_active V block ≡ false
    → SameReached places A B (λ p. times_in_clocked p block) (λ p. reached_clocked signals A V p block)
    → SameReached places A B (λ p. times_in p block.body) (λ p. reached_in signals A p block.body (begun V))
of_body signals places A B V block quiet h =
    narrowed places A B (λ p. times_in_clocked p block) (λ p. times_in p block.body) (λ p. reached_clocked signals A V p block)
    (λ p. reached_in signals A p block.body (begun V)) h (λ p. omega arith)
    (λ p v once is. cond-false (is_active V block) (in_reset signals A (begun V) p block.reset)
    (reached_in signals A p block.body (begun V)) quiet ∙ is)

-- of one whose reset is active, of the reset's values
of_values : (signals : List Signal) (places : List Place) (A B : Choice) (V : Valuation) (block : Clocked) (r : Reset)
    (m : Updates) → block.reset ≡ Some r
    → is_active V block ≡ true → is_reset_values r.values ≡ true
    → SameReached places A B (λ p. times_in_clocked p block) (λ p. reached_clocked signals A V p block)
    → SameReached places A B (λ p. times_in p r.values) (λ p. reached_in signals A p r.values m)
of_values signals places A B V block r m e active are h =
    narrowed places A B (λ p. times_in_clocked p block) (λ p. times_in p r.values) (λ p. reached_clocked signals A V p block)
    (λ p. reached_in signals A p r.values m) h
    (λ p. omega (arith, ap (λ o. option_map_or (λ (r : Reset). times_in p r.values) o 0) e))
    (λ p v once is.
    cond-true (is_active V block) (in_reset signals A (begun V) p block.reset) (reached_in signals A p block.body (begun V)) active
    ∙ ap (in_reset signals A (begun V) p) e ∙ reset-constant signals A p r.values (begun V) m are ∙ is)

-- ---- drivers and blocks
driven-alike : (signals : List Signal) (places : List Place) (A B : Choice) (V : Valuation) (driver : Driver)
    → driver_fits signals places driver ≡ true
    → SameReached places A B (λ p. times_in_driver p driver) (λ p. reached_driver signals A V p driver)
    → driven signals B V driver ≡ driven signals A V driver
driven-alike signals places A B V (Cont target e None span) fits h = refl
driven-alike signals places A B V (Cont target e (Some p) span) fits h =
    let fit = and_parts (assignment_fits signals target.parts e) (place_fits places (parts_width signals target.parts) p) fits in
    let rest : Valuation = without signals (Cont target e (Some p) span) V in
    store-bits signals rest rest target.parts (bit (assigned B p (value signals V e))) (bit (assigned A p (value signals V e)))
    (set-same signals places A B p (value signals V e) target.parts fit.1 h)
driven-alike signals places A B V (Comb body span) fits h =
    ap (λ m. m.now) (after-alike signals places A B body (begun (without signals (Comb body span) V)) fits h)

reached_driver-alike : (signals : List Signal) (places : List Place) (A B : Choice) (V : Valuation) (q : ℕ)
    (driver : Driver) → driver_fits signals places driver ≡ true
    → SameReached places A B (λ p. times_in_driver p driver) (λ p. reached_driver signals A V p driver)
    → reached_driver signals B V q driver ≡ reached_driver signals A V q driver
reached_driver-alike signals places A B V q (Cont target e None span) fits h = refl
reached_driver-alike signals places A B V q (Cont target e (Some p) span) fits h = refl
reached_driver-alike signals places A B V q (Comb body span) fits h =
    reached_in-alike signals places A B q body (begun (without signals (Comb body span) V)) fits h

-- a block's body and its reset's values fit
body_fits : (d : Design) (block : Clocked) → clocked_fits d block ≡ true → statement_fits d.signals.items d.places.items block.body ≡ true
body_fits d block fits = (and_parts (statement_fits d.signals.items d.places.items block.body)
    (option_map_or (reset_fits d) block.reset true) fits).0

values_fit : (d : Design) (block : Clocked) (r : Reset) → block.reset ≡ Some r → clocked_fits d block ≡ true
    → (is_reset_values r.values ≡ true) × (statement_fits d.signals.items d.places.items r.values ≡ true)
values_fit d block r e fits =
    let fit = and_parts (statement_fits d.signals.items d.places.items block.body) (option_map_or (reset_fits d) block.reset true) fits in
    let here : reset_fits d r ≡ true = sym (ap (λ o. option_map_or (reset_fits d) o true) e) ∙ fit.1 in
    let parts = and_parts (_ && is_reset_values r.values) (statement_fits d.signals.items d.places.items r.values) here in
    ((and_parts _ (is_reset_values r.values) parts.0).1, parts.1)

reached_clocked-alike : (d : Design) (A B : Choice) (V : Valuation) (q : ℕ) (block : Clocked) → clocked_fits d block ≡ true
    → SameReached d.places.items A B (λ p. times_in_clocked p block) (λ p. reached_clocked d.signals.items A V p block)
    → reached_clocked d.signals.items B V q block ≡ reached_clocked d.signals.items A V q block
reached_clocked-alike d A B V q block fits h = at (is_active V block) refl block.reset refl
  where
    signals : List Signal
    signals = d.signals.items

    at : (t : Bool) → is_active V block ≡ t → (o : Option Reset) → block.reset ≡ o
        → (if t then in_reset signals B (begun V) q o else reached_in signals B q block.body (begun V))
        ≡ (if t then in_reset signals A (begun V) q o else reached_in signals A q block.body (begun V))
    at true active None e = refl
    at true active (Some r) e =
        let fit = values_fit d block r e fits in
        reached_in-alike signals d.places.items A B q r.values (begun V) fit.1
        (of_values signals d.places.items A B V block r (begun V) e active fit.0 h)
    at false quiet o e =
        reached_in-alike signals d.places.items A B q block.body (begun V) (body_fits d block fits)
        (of_body signals d.places.items A B V block quiet h)

-- ---- each place computes the same in a cycle
pub reached-alike : (d : Design) (A B : Choice) (V : Valuation) (q : ℕ) → IsWellFormed d
    → SameReached d.places.items A B (times_in_design d) (reached d A V) → reached d B V q ≡ reached d A V q
reached-alike d A B V q well h =
    let signals : List Signal = d.signals.items in
    ap (λ o. option_or o (first_reached (reached_clocked signals B V q) d.clocked.items))
    (first_reached-alike (reached_driver signals B V q) (reached_driver signals A V q) d.drivers.items
    (λ driver member. reached_driver-alike signals d.places.items A B V q driver
    (list_all-member (driver_fits signals d.places.items) d.drivers.items driver well.drivers member) (of_driver d A B V driver member h)))
    ∙ ap (option_or (first_reached (reached_driver signals A V q) d.drivers.items))
    (first_reached-alike (reached_clocked signals B V q) (reached_clocked signals A V q) d.clocked.items
    (λ block member. reached_clocked-alike d A B V q block
    (list_all-member (clocked_fits d) d.clocked.items block well.clocked member) (of_block d A B V block member h)))

-- ---- and the cycle is one by the other choice
pub cycle-alike : (d : Design) (samples : List Bits) (state : Valuation) (A B : Choice) (V next : Valuation) → IsWellFormed d
    → SameReached d.places.items A B (times_in_design d) (reached d A V)
    → Cycle d samples state A V next → Cycle d samples state B V next
cycle-alike d samples state A B V next well h cycle =
    let signals : List Signal = d.signals.items in
    let M : Valuation = before d samples state in
    let block_fits = λ (block : Clocked) (member : Contains d.clocked.items block). list_all-member
    (clocked_fits d) d.clocked.items block well.clocked member in
    let reset_left : (block : Clocked) (r : Reset) → Contains d.clocked.items block → block.reset ≡ Some r → is_active V block ≡ true
    → left_from signals B block M r.values ≡ left_from signals A block M r.values =
    λ block r member e active. let fit = values_fit d block r e (block_fits block member) in
    ap (left block) (after-alike signals d.places.items A B r.values (begun M) fit.1
    (of_values signals d.places.items A B V block r (begun M) e active fit.0 (of_block d A B V block member h))) in
    let body_left : (block : Clocked) → Contains d.clocked.items block → is_active V block ≡ false
    → left_from signals B block V block.body ≡ left_from signals A block V block.body =
    λ block member quiet. ap (left block)
    (after-alike signals d.places.items A B block.body (begun V) (body_fits d block (block_fits block member))
    (of_body signals d.places.items A B V block quiet (of_block d A B V block member h))) in
    let of_driver' : (driver : Driver) → Contains d.drivers.items driver → driven signals B V driver ≡ driven signals A V driver =
    λ driver member. driven-alike signals d.places.items A B V driver
    (list_all-member (driver_fits signals d.places.items) d.drivers.items driver well.drivers member) (of_driver d A B V driver member h) in
    record {
      input = cycle.input;
      register = cycle.register;
      other = cycle.other;
      next_reset = cycle.next_reset;
      next_kept = cycle.next_kept;
      next_other = cycle.next_other;
      reset = λ block r s b member e active drives register.
          cycle.reset block r s b member e active drives register
          ∙ sym (ap (λ (W : Valuation). W s b) (reset_left block r member e active));
      driver = λ driver s b member drives. cycle.driver driver s b member drives
          ∙ sym (ap (λ (W : Valuation). W s b) (of_driver' driver member));
      next_clocked = λ block s b member inactive drives register.
          cycle.next_clocked block s b member inactive drives register
          ∙ sym (ap (λ (W : Valuation). W s b) (body_left block member (not-true (is_active V block) inactive)));
    }

-- A driver carried out in place, its own bits being put at 0 first.
use Rattle.std.proofs.Common.{ℕ, ◌+◌, ◌≡◌, ◌<◌, Bool, true, false, not, ◌&&◌, List, drop, refl, ap, sym, ◌∙◌, ◌⊎◌, inl, inr, Option, Some}
use Rattle.std.specs.Prelude.{if◌then◌else◌, slice_get, All}
use Rattle.std.specs.Option.{option_map_or}
use Rattle.std.specs.List.{list_all}
use Rattle.std.proofs.Math.Path.{fun_ext}
use Rattle.std.proofs.lemmas.Bool.{and_parts, cases_Bool}
use Rattle.loc_base.specs.declared.span.Span.{Span}
use Rattle.design_core.specs.declared.signal.Signal.{Signal}
use Rattle.design_core.specs.declared.place.Place.{Place}
use Rattle.design_core.specs.declared.expression.Typed.{Typed}
use Rattle.design_core.specs.declared.statement.Target.{Target}
use Rattle.design_core.specs.declared.statement.Stmt.{Stmt}
use Rattle.design_core.specs.declared.driver.Driver.{Driver}
use Rattle.design_core.specs.declared.driver.Driver.TheVariants.{Cont, Comb}
use Rattle.design_core.specs.declared.design.Design.{Design}
use Rattle.design_core.specs.Valuation.{Valuation, bit}
use Rattle.design_core.specs.Constant.{zeros}
use Rattle.design_core.specs.Value.{value}
use Rattle.design_core.specs.Store.{store, parts_width}
use Rattle.design_core.specs.After.{Choice, Updates, after}
use Rattle.design_core.specs.Drives.{driver_drives, is_driven}
use Rattle.design_core.specs.Cycle.{without, cont_assigned, driven}
use Rattle.design_core.specs.Steps.{with_driver, with_drivers}
use Rattle.design_core.specs.WellFormed.{part_fits, place_fits, assignment_fits, driver_fits, statement_fits, is_width, typed_fits}
use Rattle.design_core.proofs.StoreOutside.{store-outside, after-leaves}
use Rattle.design_core.proofs.CycleLaws.{list_any-none, Contains-at}
use Rattle.design_core.proofs.CycleExists.{with_driver-at}
use Rattle.design_core.proofs.Lists.{All-member}
use Rattle.plain_sim.specs.EvaluateCycle.{blended}
use Rattle.plain_sim.proofs.EvaluateSteps.{drop-some}
use Rattle.cycle_sim.specs.declared.mask.Mask.{Mask}
use Rattle.cycle_sim.specs.Masks.{covers, AreMasksFor, with_own}
use Rattle.cycle_sim.proofs.StatementNow.{now-alike}
use Rattle.std.specs.Prelude.{nat_le}

off_or : (t x : Bool) → (if t then false else x) ≡ (not t && x)
off_or true x = refl
off_or false x = refl

-- the own bits are at 0
cleared : (signals : List Signal) (masks : List Mask) (driver : Driver) (V W : Valuation)
    → AreMasksFor signals masks (λ s b. driver_drives signals s b driver)
    → W ≡ blended (covers masks) zeros V → W ≡ without signals driver V
cleared signals masks driver V W m e =
    e ∙ fun_ext (λ s. fun_ext (λ b. ap (λ t. if t then false else V s b) (m.same s b) ∙ off_or (driver_drives signals s b driver) (V s b)))

own-by : (signals : List Signal) (choice : Choice) (driver : Driver) (V N : Valuation) → N ≡ driven signals choice V driver
    → ((s b : ℕ) → driver_drives signals s b driver ≡ false → driven signals choice V driver s b ≡ without signals driver V s b)
    → N ≡ with_own signals choice driver V
own-by signals choice driver V N is outside = is ∙ fun_ext (λ s. fun_ext (λ b. at s b (cases_Bool (driver_drives signals s b driver))))
  where
    at : (s b : ℕ) → (driver_drives signals s b driver ≡ true) ⊎ (driver_drives signals s b driver ≡ false)
        → driven signals choice V driver s b ≡ (if driver_drives signals s b driver then driven signals choice V driver s b else V s b)
    at s b (inl drives) = sym (ap (λ t. if t then driven signals choice V driver s b else V s b) drives)
    at s b (inr none) =
        outside s b none ∙ ap (λ t. not t && V s b) none ∙ sym (ap (λ t. if t then driven signals choice V driver s b else V s b) none)

-- an assignment that fits has parts that do
pub cont-parts : (signals : List Signal) (places : List Place) (target : Target) (e : Typed) (place : Option ℕ) (span : Span)
    → driver_fits signals places (Cont target e place span) ≡ true → list_all (part_fits signals) target.parts ≡ true
cont-parts signals places target e place span fits =
    let own = and_parts (assignment_fits signals target.parts e)
    (option_map_or (place_fits places (parts_width signals target.parts)) place true) fits in
    let values = and_parts (list_all (part_fits signals) target.parts && is_width (parts_width signals target.parts)
    && typed_fits signals e) (nat_le (parts_width signals target.parts) e.width) own.0 in
    let widths = and_parts (list_all (part_fits signals) target.parts && is_width (parts_width signals target.parts))
    (typed_fits signals e) values.0 in
    (and_parts (list_all (part_fits signals) target.parts) (is_width (parts_width signals target.parts)) widths.0).0

pub cont-own : (signals : List Signal) (places : List Place) (choice : Choice) (target : Target) (e : Typed)
    (place : Option ℕ) (span : Span) (masks : List Mask) (V W N : Valuation)
    → AreMasksFor signals masks (λ s b. driver_drives signals s b (Cont target e place span))
    → driver_fits signals places (Cont target e place span) ≡ true
    → W ≡ blended (covers masks) zeros V → N ≡ store signals W W target.parts (bit (cont_assigned choice place (value signals V e)))
    → N ≡ with_own signals choice (Cont target e place span) V
cont-own signals places choice target e place span masks V W N m fits w n =
    own-by signals choice driver V N (n ∙ ap (λ X. store signals X X target.parts
    (bit (cont_assigned choice place (value signals V e)))) rest)
    (λ s b none. store-outside signals (without signals driver V) (without signals driver V) target.parts
    (bit (cont_assigned choice place (value signals V e))) s b
    (cont-parts signals places target e place span fits) none)
  where
    driver : Driver
    driver = Cont target e place span

    rest : W ≡ without signals driver V
    rest = cleared signals masks driver V W m w

pub comb-own : (signals : List Signal) (places : List Place) (choice : Choice) (body : Stmt) (span : Span) (masks : List Mask)
    (V W L N : Valuation)
    → AreMasksFor signals masks (λ s b. driver_drives signals s b (Comb body span)) → statement_fits signals places body ≡ true
    → W ≡ blended (covers masks) zeros V → N ≡ (after signals choice body (record { now = W; later = L })).now
    → N ≡ with_own signals choice (Comb body span) V
comb-own signals places choice body span masks V W L N m fits w n =
    own-by signals choice driver V N
    (n ∙ ap (λ X. (after signals choice body (record { now = X; later = L })).now) rest
    ∙ fun_ext (λ s. fun_ext (λ b. now-alike signals places choice body begun L begun s b fits)))
    (λ s b none. (after-leaves signals places choice body (record { now = begun; later = begun }) s b fits none).now)
  where
    driver : Driver
    driver = Comb body span

    begun : Valuation
    begun = without signals driver V

    rest : W ≡ without signals driver V
    rest = cleared signals masks driver V W m w

-- the later updates keep what a combinational block does not assign
pub comb-later : (signals : List Signal) (places : List Place) (choice : Choice) (body : Stmt) (span : Span) (m : Updates)
    (L : Valuation) → statement_fits signals places body ≡ true
    → L ≡ (after signals choice body m).later → (s b : ℕ) → driver_drives signals s b (Comb body span) ≡ false → L s b ≡ m.later s b
comb-later signals places choice body span m L fits e s b none =
    ap (λ (X : Valuation). X s b) e ∙ (after-leaves signals places choice body m s b fits none).later

-- ---- by its number
pub own-with : (d : Design) (choice : Choice) (V N : Valuation) (i : ℕ) (driver : Driver) → slice_get d.drivers.items i ≡ Some driver
    → N ≡ with_own d.signals.items choice driver V → N ≡ with_driver d choice i V
own-with d choice V N i driver at e = e ∙ fun_ext (λ s. fun_ext (λ b. sym (with_driver-at d choice V i driver s b at)))

pub undriven-by : (d : Design) (i s b : ℕ) (driver : Driver) → slice_get d.drivers.items i ≡ Some driver
    → is_driven d s b ≡ false → driver_drives d.signals.items s b driver ≡ false
undriven-by d i s b driver at none =
    list_any-none (driver_drives d.signals.items s b) d.drivers.items driver (Contains-at d.drivers.items i driver at) none

-- ---- in an order
pub drivers-next : (d : Design) (choice : Choice) (order : List ℕ) (k i : ℕ) (V N : Valuation) → slice_get order k ≡ Some i
    → N ≡ with_driver d choice i V
    → with_drivers d choice (drop (k + 1) order) N ≡ with_drivers d choice (drop k order) V
drivers-next d choice order k i V N at e =
    ap (with_drivers d choice (drop (k + 1) order)) e ∙ sym (ap (λ is. with_drivers d choice is V) (drop-some order k i at))

pub all-at : (n : ℕ) (order : List ℕ) (k i : ℕ) → All (λ i. i < n) order → slice_get order k ≡ Some i → i < n
all-at n order k i all at = All-member (λ i. i < n) order i all (Contains-at order k i at)

-- The first combinational block that holds a bit, from the masks of what it drives and of what it assigns on each path.
use Rattle.std.proofs.Common.{ℕ, zero, suc, ◌≡◌, ◌≢◌, ◌<◌, ◌≤◌, ◌+◌, List, [], ◌∷◌, length, get_or, take, true, false, refl, sym, subst, ◌∙◌, ap, ap₂, arith, Some, ◌⊎◌, inl, inr}
use Rattle.std.specs.Prelude.{◌&&◌, not, slice_get, Contains}
use Rattle.std.specs.List.{list_any}
use Rattle.std.proofs.lemmas.Bool.{false≢true, and_parts, cases_lt}
use Rattle.std.proofs.lemmas.List.{take_all}
use Rattle.loc_base.proofs.ShelfBools.{not-true}
use Rattle.loc_base.proofs.ShelfLists.{slice_get-at, list_any-member, list_all-member, Contains-at}
use Rattle.design_core.specs.declared.signal.Signal.{Signal}
use Rattle.design_core.specs.declared.driver.Driver.{Driver}
use Rattle.design_core.specs.declared.driver.Driver.TheVariants as driver
use Rattle.design_core.specs.declared.design.Design.{Design}
use Rattle.design_core.specs.Valuation.{bit}
use Rattle.design_core.specs.Drives.{driver_drives}
use Rattle.design_core.specs.Given.{CanRun}
use Rattle.design_core.specs.WellFormed.{driver_fits}
use Rattle.design_bits.specs.Masks.{exceeds, has}
use Rattle.design_bits.specs.Paths.{block_assigns}
use Rattle.design_bits.proofs.Masks.{bit-zero}
use Rattle.design_bits.proofs.DrivesWithin.{driver-below, width-within}
use Rattle.design_bits.proofs.ShareLaws.{exceeds-found, exceeds-bit}
use Rattle.design_rules.specs.Held.{HasMore, comb_drives}
use Rattle.design_rules.specs.Latches.{IsLatch, driver_holds}

-- ---- two sets
pub more-here : (own sure : List ℕ) (s : ℕ) → s < length own → exceeds (get_or own s 0) (get_or sure s 0) ≡ true → HasMore own sure
more-here own sure s within some =
    let b = exceeds-found (get_or own s 0) (get_or sure s 0) some in
    record { signal = s; position = b.0; within = within; below = b.1; driven = b.2; missed = b.3 }

pub more-none : (own sure xs : List ℕ) (i : ℕ) → length xs ≤ i → ((s : ℕ) → get_or own s 0 ≢ 0 → Contains xs s)
    → list_any (λ s. exceeds (get_or own s 0) (get_or sure s 0)) (take i xs) ≡ false → HasMore own sure → ⊥
more-none own sure xs i past all none m =
    let there : Contains xs m.signal = all m.signal (λ zero_mask. false≢true (sym (ap (λ n. bit n m.position) zero_mask ∙ bit-zero m.position) ∙ m.driven)) in
    let some = exceeds-bit (get_or own m.signal 0) (get_or sure m.signal 0) m.position m.below m.driven m.missed in
    false≢true
    (sym none ∙ ap (list_any (λ s. exceeds (get_or own s 0) (get_or sure s 0))) (take_all i xs past)
    ∙ list_any-member (λ s. exceeds (get_or own s 0) (get_or sure s 0)) xs m.signal there some)

-- ---- a driver
holds-same : (signals : List Signal) (s b : ℕ) (x : Driver) → driver_holds signals s b x ≡ (comb_drives signals s b x && not (block_assigns signals s b x))
holds-same signals s b (driver.Cont target value place span) = refl
holds-same signals s b (driver.Comb body span) = refl

comb-driven : (signals : List Signal) (s b : ℕ) (x : Driver) → comb_drives signals s b x ≡ true → driver_drives signals s b x ≡ true
comb-driven signals s b (driver.Cont target value place span) drives = absurd (false≢true drives)
comb-driven signals s b (driver.Comb body span) drives = drives

pub is-latch : (d : Design) (i : ℕ) (x : Driver) (own sure : List ℕ) → i < length d.drivers.items → x ≡ get_or d.drivers.items i x → length own ≡ length d.signals.items
    → ((s b : ℕ) → s < length d.signals.items → b < 128 → has own s b ≡ comb_drives d.signals.items s b x)
    → ((s b : ℕ) → s < length d.signals.items → b < 128 → has sure s b ≡ block_assigns d.signals.items s b x) → HasMore own sure → IsLatch d i
is-latch d i x own sure below is long drives assigns m =
    let within : m.signal < length d.signals.items = subst (λ n. m.signal < n) long m.within in
    record {
      driver = x;
      is_driver = slice_get-at d.drivers.items i x below is;
      signal = m.signal;
      position = m.position;
      holds = holds-same d.signals.items m.signal m.position x
          ∙ ap₂ (λ v w. v && not w) (sym (drives m.signal m.position within m.below) ∙ m.driven) (sym (assigns m.signal m.position within m.below) ∙ m.missed);
    }

same-driver : (d : Design) (i : ℕ) (x y : Driver) → slice_get d.drivers.items i ≡ Some x → slice_get d.drivers.items i ≡ Some y → y ≡ x
same-driver d i x y one other = cc

pub not-latch : (d : Design) (i : ℕ) (x : Driver) (own sure : List ℕ) → CanRun d → i < length d.drivers.items → x ≡ get_or d.drivers.items i x → length own ≡ length d.signals.items
    → ((s b : ℕ) → s < length d.signals.items → b < 128 → has own s b ≡ comb_drives d.signals.items s b x)
    → ((s b : ℕ) → s < length d.signals.items → b < 128 → has sure s b ≡ block_assigns d.signals.items s b x) → (HasMore own sure → ⊥) → IsLatch d i → ⊥
not-latch d i x own sure well below is long drives assigns none latch =
    let at = slice_get-at d.drivers.items i x below is in
    let same = same-driver d i x latch.driver at latch.is_driver in
    let both = and_parts (comb_drives d.signals.items latch.signal latch.position x) (not (block_assigns d.signals.items latch.signal latch.position x))
    (sym (holds-same d.signals.items latch.signal latch.position x) ∙ ap (driver_holds d.signals.items latch.signal latch.position) (sym same) ∙ latch.holds) in
    let fits = list_all-member (driver_fits d.signals.items d.places.items) d.drivers.items x well.drivers (Contains-at d.drivers.items i x at) in
    let inside = width-within d.signals.items latch.signal latch.position well.signals
    (driver-below d.signals.items d.places.items latch.signal latch.position x fits (comb-driven d.signals.items latch.signal latch.position x both.0)) in
    none
    (record {
      signal = latch.signal;
      position = latch.position;
      within = subst (λ n. latch.signal < n) (sym long) inside.0;
      below = inside.1;
      driven = drives latch.signal latch.position inside.0 inside.1 ∙ both.0;
      missed = assigns latch.signal latch.position inside.0 inside.1 ∙ not-true (block_assigns d.signals.items latch.signal latch.position x) both.1;
    })

-- ---- all drivers
pub latch-more : (d : Design) (i : ℕ) → ((k : ℕ) → k < i → IsLatch d k → ⊥) → (IsLatch d i → ⊥) → (k : ℕ) → k < i + 1 → IsLatch d k → ⊥
latch-more d i before here k below latch = at (cases_lt k i)
  where
    at : (k < i) ⊎ (i ≤ k) → ⊥
    at (inl lower) = before k lower latch
    at (inr past) =
        let same : k ≡ i = omega (arith, below, past) in here (subst (IsLatch d) same latch)

get-within : (xs : List Driver) (k : ℕ) (x : Driver) → slice_get xs k ≡ Some x → k < length xs
get-within [] k x is = absurd cc
get-within (y ∷ ys) zero x is = omega arith
get-within (y ∷ ys) (suc k) x is = let rest = get-within ys k x is in omega (arith, rest)

pub no-latches : (d : Design) (i : ℕ) → length d.drivers.items ≤ i → ((k : ℕ) → k < i → IsLatch d k → ⊥) → (k : ℕ) → IsLatch d k → ⊥
no-latches d i past none k latch =
    let within = get-within d.drivers.items k latch.driver latch.is_driver in none k (omega (arith, within, past)) latch

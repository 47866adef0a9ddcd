-- A cycle of a network has one valuation: the one that its assignments make in its order.
use Rattle.std.proofs.Common.{◌≡◌, ℕ, ◌<◌, ◌≤◌, ◌⊎◌, inl, inr, Bool, true, false, not, ◌||◌, if◌then◌else◌, List, ◌∷◌, length, refl, ap, sym, ◌∙◌, subst, arith, get_or}
use Rattle.std.specs.Prelude.{IsTrue, Contains, slice_get, Option, Some, None}
use Rattle.std.proofs.lemmas.Grind.{common_steps}
use Rattle.std.proofs.lemmas.Option.{slice_get-get_or, slice_get_within, get_or_from_slice_get}
use Rattle.std.proofs.lemmas.List.Folds.{list_any_none}
use Rattle.loc_base.specs.declared.bits.Bits.{Bits}
use Rattle.loc_base.proofs.ShelfLists.{Contains-empty, list_any-member}
use Rattle.loc_base.proofs.ShelfOptions.{Some-same}
use Rattle.design_core.specs.declared.signal.Signal.{Signal}
use Rattle.design_core.specs.declared.driver.Driver.{Driver}
use Rattle.design_core.specs.declared.design.Design.{Design}
use Rattle.design_core.specs.Valuation.{Valuation, width_at}
use Rattle.design_core.specs.After.{Choice}
use Rattle.design_core.specs.Drives.{is_listed, is_driven, is_register_bit, driver_drives}
use Rattle.design_core.specs.Cycle.{Cycle, before, sampled, driven}
use Rattle.plain_list.specs.Network.{target_of, Assigns, IsNetwork, settled}
use Rattle.plain_list.proofs.Rising.{All-implied}
use Rattle.plain_list.proofs.Settled.{IsPending, Goes, Once, true-false, lt_or_ge, settled-kept, settled-high, settled-given, settled-only, driven-at, drives-at, drives-only}

pub network-goes : (d : Design) (order : List ℕ) → IsNetwork d order → Goes d order
network-goes d order n =
    record {
      assigned = All-implied (λ i. i < length d.drivers.items) (λ i. (s : ℕ) × Assigns d i s) order (λ i h. n.assigned i h) n.order_numbers;
      self = n.order_self;
      later = n.order_later;
    }

pub network-once : (d : Design) (order : List ℕ) → IsNetwork d order → Once d
network-once d order n = record { once = n.once }

-- a network has no register
pub no_register : (d : Design) (order : List ℕ) (s b : ℕ) → IsNetwork d order → is_register_bit d s b ≡ false
no_register d order s b n = by_signal (slice_get d.signals.items s) refl
  where
    by_signal : (o : Option Signal) → slice_get d.signals.items s ≡ o → is_register_bit d s b ≡ false
    by_signal None e = rw e refl
    by_signal (Some signal) e = rw (e, n.no_registers s signal e) refl

-- before anything is computed, only inputs are not 0
pub before-state : (d : Design) (order : List ℕ) (samples : List Bits) (state : Valuation) (s b : ℕ) → IsNetwork d order
    → before d samples state s b ≡ (if is_listed d s then sampled d.inputs.items samples s b else false)
before-state d order samples state s b n = rw (no_register d order s b n) refl

-- a bit of a driver of the list is one that some driver assigns, and that is still to come at first
pub driver-number : (d : Design) (driver : Driver) → Contains d.drivers.items driver → (i : ℕ) × (slice_get d.drivers.items i ≡ Some driver)
driver-number d driver (i, h, e) = (i, slice_get-get_or d.drivers.items i driver h ∙ ap Some e)

-- what drives a bit of a network assigns its net
pub drives-assigns : (d : Design) (order : List ℕ) (i : ℕ) (driver : Driver) (s b : ℕ) → IsNetwork d order → slice_get d.drivers.items i ≡ Some driver
    → driver_drives d.signals.items s b driver ≡ true → (target_of driver ≡ Some s) × (b < width_at d.signals.items s)
drives-assigns d order i driver s b n at h = found (n.assigned i (slice_get_within d.drivers.items i driver at))
  where
    found : (t : ℕ) × Assigns d i t → (target_of driver ≡ Some s) × (b < width_at d.signals.items s)
    found (t, (other, at', to)) =
        let same : other ≡ driver = Some-same (sym at' ∙ at) in
        let only : (s ≡ t) × (b < width_at d.signals.items t) = drives-only d.signals.items driver t s b (sym (ap target_of same) ∙ to) h in
        (sym (ap target_of same) ∙ to ∙ ap Some (sym only.0), subst (λ m. b < width_at d.signals.items m) (sym only.0) only.1)

-- a bit of no net that is assigned, or past its width, is driven by none
pub undriven : (d : Design) (order : List ℕ) (s b : ℕ) → IsNetwork d order → (IsPending d order s → ⊥) ⊎ (width_at d.signals.items s ≤ b) → is_driven d s b ≡ false
undriven d order s b n h =
    list_any_none (driver_drives d.signals.items s b) d.drivers.items
    (λ k x l. false_of (driver_drives d.signals.items s b (get_or d.drivers.items k x)) (λ t. none k x l (drives-assigns d order k (get_or d.drivers.items k x) s b n (slice_get-get_or d.drivers.items k x l) t)))
  where
    false_of : (x : Bool) → (x ≡ true → ⊥) → x ≡ false
    false_of true g = absurd (g refl)
    false_of false g = refl

    none : (k : ℕ) (x : Driver) → k < length d.drivers.items → (target_of (get_or d.drivers.items k x) ≡ Some s) × (b < width_at d.signals.items s) → ⊥
    none k x l t = elim h [
      | inl free ↦ free (k, n.order_all k l, (get_or d.drivers.items k x, slice_get-get_or d.drivers.items k x l, t.0))
      | inr high ↦ omega (arith, high, t.1)
    ]

-- the other way round: an assigned net's bits are driven
pub assigned-driver : (d : Design) (i s : ℕ) (a : Assigns d i s) → Contains d.drivers.items a.0
assigned-driver d i s (driver, at, to) = (i, slice_get_within d.drivers.items i driver at, get_or_from_slice_get d.drivers.items i driver driver at)

-- the assignments carried out in order give a cycle
pub settled-cycle : (d : Design) (order : List ℕ) (samples : List Bits) (state : Valuation) (choice : Choice) → IsNetwork d order
    → Cycle d samples state choice (settled d order samples choice) (λ _ _. false)
settled-cycle d order samples state choice n =
    record {
      input = λ s b l. settled-kept d choice order first s b goes (λ (i, c, a). true-false (sym l ∙ n.inputs_free i s a)) ∙ before-state d order samples (λ _ _. false) s b n ∙ ap (λ x. if x then sampled d.inputs.items samples s b else false) l;
      reset = λ block r s b c e act dr reg. absurd (Contains-empty block (subst (λ xs. Contains xs block) n.unclocked c));
      register = λ s b reg free. absurd (true-false (sym reg ∙ no_register d order s b n));
      driver = λ driver s b c dr. equation driver s b (driver-number d driver c) dr;
      other = λ s b free. rest s b (not_any (is_listed d s) (is_register_bit d s b) (is_driven d s b) free);
      next_clocked = λ block s b c act dr reg. absurd (Contains-empty block (subst (λ xs. Contains xs block) n.unclocked c));
      next_reset = λ s b reg act. absurd (true-false (sym reg ∙ no_register d order s b n));
      next_kept = λ s b reg free. absurd (true-false (sym reg ∙ no_register d order s b n));
      next_other = λ s b reg. refl;
    }
  where
    first : Valuation
    first = before d samples (λ _ _. false)

    goes : Goes d order
    goes = network-goes d order n

    V : Valuation
    V = settled d order samples choice

    equation : (driver : Driver) (s b : ℕ) → (i : ℕ) × (slice_get d.drivers.items i ≡ Some driver) → driver_drives d.signals.items s b driver ≡ true → V s b ≡ driven d.signals.items choice V driver s b
    equation driver s b (i, at) dr =
        let t : (target_of driver ≡ Some s) × (b < width_at d.signals.items s) = drives-assigns d order i driver s b n at dr in
        settled-given d choice order first i s b (driver, at, t.0) (network-once d order n) goes (n.order_all i (slice_get_within d.drivers.items i driver at)) t.1
        ∙ sym (driven-at d.signals.items choice V driver s b t.0 t.1)

    not_any : (x y z : Bool) → IsTrue (not (x || y || z)) → (x ≡ false) × (z ≡ false)
    not_any x y z h = (grind (arith, common_steps), grind (arith, common_steps))

    rest : (s b : ℕ) → (is_listed d s ≡ false) × (is_driven d s b ≡ false) → V s b ≡ false
    rest s b h = elim (lt_or_ge b (width_at d.signals.items s)) [
      | inl low ↦ settled-kept d choice order first s b goes (λ (i, c, a). true-false (sym (driven_by i a low) ∙ h.1)) ∙ zero
      | inr high ↦ settled-high d choice order first s b goes high ∙ zero
    ]
      where
        zero : first s b ≡ false
        zero = before-state d order samples (λ _ _. false) s b n ∙ ap (λ x. if x then sampled d.inputs.items samples s b else false) h.0

        driven_by : (i : ℕ) → Assigns d i s → b < width_at d.signals.items s → is_driven d s b ≡ true
        driven_by i a low = list_any-member (driver_drives d.signals.items s b) d.drivers.items a.0 (assigned-driver d i s a) (drives-at d.signals.items a.0 s b a.2 low)

-- and the only one
pub settled-unique : (d : Design) (order : List ℕ) (samples : List Bits) (state : Valuation) (choice : Choice) (V next : Valuation) → IsNetwork d order
    → Cycle d samples state choice V next → (s b : ℕ) → V s b ≡ settled d order samples choice s b
settled-unique d order samples state choice V next n c s b =
    settled-only d choice order V (before d samples (λ _ _. false)) (network-once d order n) (network-goes d order n)
    (λ i s b a in_order low. c.driver a.0 s b (assigned-driver d i s a) (drives-at d.signals.items a.0 s b a.2 low) ∙ driven-at d.signals.items choice V a.0 s b a.2 low)
    (λ s b free. same s b (undriven d order s b n free))
    s b
  where
    same : (s b : ℕ) → is_driven d s b ≡ false → V s b ≡ before d samples (λ _ _. false) s b
    same s b undriven = by_input (is_listed d s) refl
      where
        none : (x y z : Bool) → x ≡ false → y ≡ false → z ≡ false → IsTrue (not (x || y || z))
        none x y z h k l = rw (h, k, l) refl

        by_input : (x : Bool) → is_listed d s ≡ x → V s b ≡ before d samples (λ _ _. false) s b
        by_input true e = c.input s b e ∙ sym (before-state d order samples (λ _ _. false) s b n ∙ ap (λ x. if x then sampled d.inputs.items samples s b else false) e)
        by_input false e =
            c.other s b (none (is_listed d s) (is_register_bit d s b) (is_driven d s b) e (no_register d order s b n) undriven)
            ∙ sym (before-state d order samples (λ _ _. false) s b n ∙ ap (λ x. if x then sampled d.inputs.items samples s b else false) e)

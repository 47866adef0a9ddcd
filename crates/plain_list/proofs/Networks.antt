-- A well-formed design of assignments to whole nets is a network.
use Rattle.std.proofs.Common.{◌≡◌, ℕ, zero, suc, ◌<◌, ◌≤◌, Bool, true, false, not, ◌||◌, List, [], ◌∷◌, length, refl, ap, sym, ◌∙◌, subst, arith, get_or}
use Rattle.std.specs.Prelude.{◌==◌, Contains, slice_get, Option, Some, None, is_some}
use Rattle.std.specs.List.{list_any}
use Rattle.std.proofs.lemmas.Bool.{or_left}
use Rattle.loc_base.proofs.ShelfBools.{equal-true, not-true}
use Rattle.loc_base.proofs.ShelfLists.{Contains-first, Contains-later, list_any-member}
use Rattle.design_core.specs.declared.signal.Signal.{Signal}
use Rattle.design_core.specs.declared.driver.Driver.{Driver}
use Rattle.design_core.specs.declared.driver.Driver.TheVariants.{Cont, Comb}
use Rattle.design_core.specs.declared.design.Design.{Design}
use Rattle.design_core.specs.Valuation.{width_at}
use Rattle.design_core.specs.Drives.{is_reg, is_listed, is_driven, driver_drives}
use Rattle.design_core.specs.Reads.{part_reads, driver_reads, reads, Depends, IsOrder}
use Rattle.design_core.specs.WellFormed.{IsWellFormed, driver_fits}
use Rattle.plain_list.specs.Network.{target_of, value_reads, Assigns, IsFreeOf, IsNetwork}
use Rattle.plain_list.specs.Assignments.{is_whole, IsOfAssignments}
use Rattle.plain_list.proofs.Rising.{All-implied}
use Rattle.plain_list.proofs.Settled.{true-false, whole_of-parts, drives-at}
use Rattle.plain_list.proofs.OneCycle.{assigned-driver}
use Rattle.plain_list.proofs.Assigning.{Fits, cont_fits, list_all-at}
use Rattle.design_core.proofs.ReadsWithin.{reads-below}

-- a driver that fits, and what it assigns
pub driver-fits : (d : Design) (driver : Driver) (s : ℕ) → driver_fits d.signals.items d.places.items driver ≡ true → target_of driver ≡ Some s
    → (1 ≤ width_at d.signals.items s) × ((t b : ℕ) → value_reads d.signals.items t b driver ≡ true → b < width_at d.signals.items t)
driver-fits d (Cont target computed place span) s fits to =
    let f : Fits d s computed place = cont_fits d target.parts s computed place (whole_of-parts target.parts s to) fits in
    (f.least, λ t b r. reads-below d.signals.items t b computed f.typed r)
driver-fits d (Comb _ _) s fits to = cc

-- what the value of a driver reads the driver reads
pub value-reads : (signals : List Signal) (s b : ℕ) (driver : Driver) → value_reads signals s b driver ≡ true → driver_reads signals s b driver ≡ true
value-reads signals s b (Cont target computed place span) h = or_left (reads signals s b computed) (list_any (part_reads signals s b) target.parts) h
value-reads signals s b (Comb _ _) h = cc

not_true : (x : Bool) → (x ≡ true → ⊥) → x ≡ false
not_true true h = absurd (h refl)
not_true false h = refl

some-of : (o : Option ℕ) → is_some o ≡ true → (s : ℕ) × (o ≡ Some s)
some-of None h = cc
some-of (Some s) h = (s, refl)

-- an input of the list is one of the inputs
listed-Contains : (inputs : List ℕ) (s : ℕ) → list_any (λ input. input == s) inputs ≡ true → Contains inputs s
listed-Contains [] s h = cc
listed-Contains (input ∷ inputs) s h = by_test (input == s) refl (λ later. listed-Contains inputs s later)
  where
    by_test : (x : Bool) → (input == s) ≡ x → (list_any (λ i. i == s) inputs ≡ true → Contains inputs s) → Contains (input ∷ inputs) s
    by_test true e rest = subst (Contains (input ∷ inputs)) (equal-true input s e) (Contains-first input inputs)
    by_test false e rest = Contains-later input inputs s (rest (sym (ap (λ x. x || list_any (λ i. i == s) inputs) e) ∙ h))

-- a driver's net has a bit, and what it reads is within its signals
assigned-fits : (d : Design) (i s : ℕ) (driver : Driver) → IsWellFormed d → slice_get d.drivers.items i ≡ Some driver → target_of driver ≡ Some s
    → (1 ≤ width_at d.signals.items s) × ((t b : ℕ) → value_reads d.signals.items t b driver ≡ true → b < width_at d.signals.items t)
assigned-fits d i s driver w at to = driver-fits d driver s (list_all-at (driver_fits d.signals.items d.places.items) d.drivers.items i driver w.drivers at) to

-- each driver assigns a whole net
whole-assigns : (d : Design) (i : ℕ) (driver : Driver) → IsOfAssignments d → slice_get d.drivers.items i ≡ Some driver → (s : ℕ) × (target_of driver ≡ Some s)
whole-assigns d i driver a at = some-of (target_of driver) (list_all-at is_whole d.drivers.items i driver a.whole at)

-- where the driver of the one number does not depend on that of the other, it is free of it
free-of : (d : Design) (i j : ℕ) → IsWellFormed d → IsOfAssignments d → (Depends d i j → ⊥) → IsFreeOf d i j
free-of d i j w a apart driver s b at (source, at', to) = not_true (value_reads d.signals.items s b driver) (λ r. apart (depends r (whole-assigns d i driver a at)))
  where
    depends : value_reads d.signals.items s b driver ≡ true → (t : ℕ) × (target_of driver ≡ Some t) → Depends d i j
    depends r (t, own) =
        record {
          reader = driver;
          source = source;
          is_reader = at;
          is_source = at';
          signal = s;
          position = b;
          read = value-reads d.signals.items s b driver r;
          driven = drives-at d.signals.items source s b to ((assigned-fits d i t driver w at own).1 s b r);
        }

pub network-of : (d : Design) (order : List ℕ) → IsWellFormed d → IsOfAssignments d → IsOrder d order → IsNetwork d order
network-of d order w a o =
    record {
      well_formed = w;
      assigned = λ i h. assigned i (whole_at i h);
      once = λ i j s one other. a.one_driver i j one.0 other.0 s 0 one.1 other.1 (drives i s one) (drives j s other);
      inputs_free = λ i s one. not_true (is_listed d s) (λ l. true-false (sym (driven i s one) ∙ a.inputs s 0 (listed-Contains d.inputs.items s l)));
      unclocked = a.clocked;
      no_registers = λ s signal at. not-true (is_reg signal.kind) (list_all-at (λ signal. not (is_reg signal.kind)) d.signals.items s signal a.no_registers at);
      order_all = o.complete;
      order_numbers = o.numbers;
      order_self = All-implied (λ i. ¬ Depends d i i) (λ i. IsFreeOf d i i) order (λ i h. free-of d i i w a h) o.not_itself;
      order_later = λ i j e h k. (o.distinct i j e h k, free-of d (get_or order i e) (get_or order j e) w a (o.not_later i j e h k));
    }
  where
    whole_at : (i : ℕ) → i < length d.drivers.items → (driver : Driver) × (slice_get d.drivers.items i ≡ Some driver)
    whole_at i h = first d.drivers.items i h
      where
        first : (drivers : List Driver) (i : ℕ) → i < length drivers → (driver : Driver) × (slice_get drivers i ≡ Some driver)
        first [] i h = absurd (omega (arith, h))
        first (driver ∷ drivers) zero h = (driver, refl)
        first (driver ∷ drivers) (suc i) h = first drivers i (omega (arith, h))

    assigned : (i : ℕ) → (driver : Driver) × (slice_get d.drivers.items i ≡ Some driver) → (s : ℕ) × Assigns d i s
    assigned i (driver, at) = let to : (s : ℕ) × (target_of driver ≡ Some s) = whole-assigns d i driver a at in (to.0, (driver, at, to.1))

    drives : (i s : ℕ) (one : Assigns d i s) → driver_drives d.signals.items s 0 one.0 ≡ true
    drives i s one = drives-at d.signals.items one.0 s 0 one.2 (omega (arith, (assigned-fits d i s one.0 w one.1 one.2).0))

    driven : (i s : ℕ) → Assigns d i s → is_driven d s 0 ≡ true
    driven i s one = list_any-member (driver_drives d.signals.items s 0) d.drivers.items one.0 (assigned-driver d i s one) (drives i s one)

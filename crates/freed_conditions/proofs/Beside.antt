-- A freed design beside the design: signals, drivers and clocked blocks, each beside its own.
use Rattle.std.proofs.Common.{ℕ, zero, suc, ◌+◌, ◌≡◌, ◌<◌, ◌≤◌, Bool, true, false, not, ◌||◌, List, [], ◌∷◌, ◌++◌, length, refl, ap, ◌∙◌, sym, subst, arith, ◌⊎◌, inl, inr, Some, None}
use Rattle.std.specs.Prelude.{◌==◌, slice_get, Contains}
use Rattle.std.specs.Option.{option_map_or}
use Rattle.std.specs.List.{AllZip, list_any}
use Rattle.std.proofs.lemmas.Bool.{and_parts, cases_lt, both_ways, eqb-true}
use Rattle.loc_base.proofs.ShelfLists.{Contains-first, Contains-later, Contains-cons, Contains-empty, list_any-found, list_all-member}
use Rattle.design_core.specs.declared.signal.Signal.{Signal}
use Rattle.design_core.specs.declared.place.Place.{Place}
use Rattle.design_core.specs.declared.driver.Driver.{Driver}
use Rattle.design_core.specs.declared.driver.Driver.TheVariants.{Cont, Comb}
use Rattle.design_core.specs.declared.design.Design.{Design}
use Rattle.design_core.specs.Valuation.{width_at}
use Rattle.design_core.specs.After.{Choice}
use Rattle.design_core.specs.Drives.{is_reg, driver_drives, is_driven, is_register_bit, is_listed}
use Rattle.design_core.specs.Store.{parts_width}
use Rattle.design_core.specs.WellFormed.{is_input, input_fits, driver_fits, assignment_fits, place_fits, IsWellFormed}
use Rattle.freed_conditions.specs.Kept.{behind}
use Rattle.freed_conditions.specs.Widths.{widths_of_drivers, widths_of_clocked}
use Rattle.freed_conditions.specs.IsFreed.{begins, condition_widths, freed_drivers, connected, freed_clocked, IsKeptIn, IsFreed}
use Rattle.freed_conditions.specs.Alike.{Room}
use Rattle.freed_conditions.specs.Old.{FreesOld}
use Rattle.freed_conditions.proofs.SignalsMore.{slice_get-before, slice_get-behind, slice_get-none}
use Rattle.freed_conditions.proofs.Rooms.{room-left, room-right}
use Rattle.freed_conditions.proofs.DrivesFreed.{parts_drive-outside, drives-outside}
use Rattle.freed_conditions.proofs.DriversFreed.{DriverAlike, assignment-parts, drivers-alike}
use Rattle.freed_conditions.proofs.ClockedFreed.{ClockedAlike, blocks-alike}

-- ---- two lists, element by element
pub zip-member : {X Y : Type 0} (R : X → Y → Type 0) (xs : List X) (ys : List Y) (x : X) → AllZip R xs ys → Contains xs x → (y : Y) × Contains ys y × R x y
zip-member R [] ys x all member = absurd (Contains-empty x member)
zip-member R (a ∷ xs) [] x all member = absurd all
zip-member {X} {Y} R (a ∷ xs) (b ∷ ys) x all member = at (Contains-cons a xs x member) (λ later. zip-member R xs ys x all.1 later)
  where
    at : (a ≡ x) ⊎ Contains xs x → (Contains xs x → (y : Y) × Contains ys y × R x y) → (y : Y) × Contains (b ∷ ys) y × R x y
    at (inl same) behind = (b, Contains-first b ys, subst (λ z. R z b) same all.0)
    at (inr later) behind = let (y, in_ys, related) = behind later in (y, Contains-later b ys y in_ys, related)

pub zip-any : {X Y : Type 0} (R : X → Y → Type 0) (p : X → Bool) (q : Y → Bool) (xs : List X) (ys : List Y) → AllZip R xs ys
    → ((x : X) (y : Y) → R x y → q y ≡ p x) → list_any q ys ≡ list_any p xs
zip-any R p q [] [] all same = refl
zip-any R p q [] (b ∷ ys) all same = absurd all
zip-any R p q (a ∷ xs) [] all same = absurd all
zip-any R p q (a ∷ xs) (b ∷ ys) all same =
    ap (λ t. t || list_any q ys) (same a b all.0) ∙ ap (λ t. p a || t) (zip-any R p q xs ys all.1 same)

-- ---- what the design and the freed one have in common
pub record Beside (d e : Design) (choice : Choice) : Type 0 where
  pub signals : (s : ℕ) → s < length d.signals.items → slice_get e.signals.items s ≡ slice_get d.signals.items s
  pub drivers : AllZip (DriverAlike d.signals.items e.signals.items choice) d.drivers.items e.drivers.items
  pub clocked : AllZip (ClockedAlike d.signals.items e.signals.items choice) d.clocked.items e.clocked.items
  pub inputs : e.inputs.items ≡ d.inputs.items
  pub listed : (s : ℕ) → is_listed d s ≡ true → s < length d.signals.items
  pub driven : (driver : Driver) (s b : ℕ) → Contains d.drivers.items driver → driver_drives d.signals.items s b driver ≡ true → s < length d.signals.items
  pub register : (s b : ℕ) → is_register_bit d s b ≡ true → s < length d.signals.items

-- an input is a signal
pub listed-below : (d : Design) → IsWellFormed d → (s : ℕ) → is_listed d s ≡ true → s < length d.signals.items
listed-below d well s listed =
    let (input, member, same) = list_any-found (λ input. input == s) d.inputs.items listed in
    let fits : input_fits d.signals.items input ≡ true = list_all-member (input_fits d.signals.items) d.inputs.items input well.inputs member in
    at (cases_lt s (length d.signals.items)) (eqb-true input s same) fits
  where
    at : {input : ℕ} → (s < length d.signals.items) ⊎ (length d.signals.items ≤ s) → input ≡ s → input_fits d.signals.items input ≡ true → s < length d.signals.items
    at (inl below) same fits = below
    at (inr above) same fits =
        let none : slice_get d.signals.items s ≡ None = slice_get-none d.signals.items s above in
        let fails : input_fits d.signals.items s ≡ false = ap (λ o. option_map_or (λ (signal : Signal). is_input signal.kind) o false) none in
        absurd (both_ways (input_fits d.signals.items s) fails (sym (ap (input_fits d.signals.items) same) ∙ fits))

driver_drives-outside : (signals : List Signal) (places : List Place) (driver : Driver) (s b : ℕ) → driver_fits signals places driver ≡ true → length signals ≤ s
    → driver_drives signals s b driver ≡ false
driver_drives-outside signals places (Cont target e place _) s b fits above =
    let own = and_parts (assignment_fits signals target.parts e) (option_map_or (place_fits places (parts_width signals target.parts)) place true) fits in
    parts_drive-outside signals s b target.parts above (assignment-parts signals target.parts e own.0).0
driver_drives-outside signals places (Comb body _) s b fits above = drives-outside signals places body s b fits above

pub driven-below : (d : Design) → IsWellFormed d → (driver : Driver) (s b : ℕ) → Contains d.drivers.items driver → driver_drives d.signals.items s b driver ≡ true
    → s < length d.signals.items
driven-below d well driver s b member drives = at (cases_lt s (length d.signals.items))
  where
    at : (s < length d.signals.items) ⊎ (length d.signals.items ≤ s) → s < length d.signals.items
    at (inl below) = below
    at (inr above) =
        absurd (both_ways (driver_drives d.signals.items s b driver)
        (driver_drives-outside d.signals.items d.places.items driver s b
        (list_all-member (driver_fits d.signals.items d.places.items) d.drivers.items driver well.drivers member) above) drives)

pub register-below : (d : Design) (s b : ℕ) → is_register_bit d s b ≡ true → s < length d.signals.items
register-below d s b is = at (cases_lt s (length d.signals.items))
  where
    at : (s < length d.signals.items) ⊎ (length d.signals.items ≤ s) → s < length d.signals.items
    at (inl below) = below
    at (inr above) =
        let none : slice_get d.signals.items s ≡ None = slice_get-none d.signals.items s above in
        let fails : option_map_or (λ (signal : Signal). is_reg signal.kind) (slice_get d.signals.items s) false ≡ false =
        ap (λ o. option_map_or (λ (signal : Signal). is_reg signal.kind) o false) none in
        absurd (both_ways (option_map_or (λ (signal : Signal). is_reg signal.kind) (slice_get d.signals.items s) false) fails
        (and_parts (option_map_or (λ (signal : Signal). is_reg signal.kind) (slice_get d.signals.items s) false) (not (is_driven d s b)) is).0)

-- ---- the nets of the conditions
kept-wide : (widths : List ℕ) (hidden : List Signal) (i w : ℕ) → AllZip IsKeptIn widths hidden → slice_get widths i ≡ Some w → width_at hidden i ≡ w
kept-wide [] hidden i w all at = cc
kept-wide (a ∷ widths) [] i w all at = absurd all
kept-wide (a ∷ widths) (signal ∷ hidden) zero w all at = let own : signal.width ≡ a = all.0.width in cc
kept-wide (a ∷ widths) (signal ∷ hidden) (suc i) w all at = kept-wide widths hidden i w all.1 at

pub room-whole : (d e : Design) (f : IsFreed d e) (frees : ℕ → Bool) → FreesOld d frees → Room d.signals.items f.hidden frees (begins d) (condition_widths d)
room-whole d e f frees old = record {
  behind = omega arith;
  wide = λ i w at.
      ap (λ o. option_map_or (λ (signal : Signal). signal.width) o 0) (slice_get-behind d.signals.items f.hidden i)
      ∙ kept-wide (condition_widths d) f.hidden i w f.are_kept_in at;
  unfreed = old.unfreed;
}

pub beside : (d e : Design) → IsWellFormed d → IsFreed d e → (choice : Choice) → FreesOld d choice.frees → Beside d e choice
beside d e well f choice old =
    let room : Room d.signals.items f.hidden choice.frees (begins d) (widths_of_drivers d.drivers.items ++ widths_of_clocked d.clocked.items) = room-whole d e f choice.frees old in
    let drivers : AllZip (DriverAlike d.signals.items (d.signals.items ++ f.hidden) choice) d.drivers.items
    (connected (length d.places.items + length (condition_widths d)) (freed_drivers (begins d) d.drivers.items)) =
    drivers-alike d.signals.items f.hidden d.places.items choice (begins d) (length d.places.items + length (condition_widths d)) d.drivers.items well.drivers
    (room-left d.signals.items f.hidden choice.frees (begins d) (widths_of_drivers d.drivers.items) (widths_of_clocked d.clocked.items) room)
    (λ p above. old.unfreed p (omega arith)) in
    let clocked : AllZip (ClockedAlike d.signals.items (d.signals.items ++ f.hidden) choice) d.clocked.items
    (freed_clocked (behind (widths_of_drivers d.drivers.items) (begins d)) d.clocked.items) =
    blocks-alike d f.hidden choice (behind (widths_of_drivers d.drivers.items) (begins d)) d.clocked.items (listed-below d well) well.clocked
    (room-right d.signals.items f.hidden choice.frees (begins d) (widths_of_drivers d.drivers.items) (widths_of_clocked d.clocked.items) room) in
    record {
      signals = λ s below. ap (λ (signals : List Signal). slice_get signals s) f.signals ∙ slice_get-before d.signals.items f.hidden s below;
      drivers = subst (λ (more : List Signal). AllZip (DriverAlike d.signals.items more choice) d.drivers.items e.drivers.items) (sym f.signals)
          (subst (AllZip (DriverAlike d.signals.items (d.signals.items ++ f.hidden) choice) d.drivers.items) (sym f.drivers) drivers);
      clocked = subst (λ (more : List Signal). AllZip (ClockedAlike d.signals.items more choice) d.clocked.items e.clocked.items) (sym f.signals)
          (subst (AllZip (ClockedAlike d.signals.items (d.signals.items ++ f.hidden) choice) d.clocked.items) (sym f.clocked) clocked);
      inputs = f.inputs;
      listed = listed-below d well;
      driven = driven-below d well;
      register = register-below d;
    }

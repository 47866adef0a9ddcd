-- A bit that some entry of a well-formed design drives is one of a signal.
use Rattle.std.proofs.Common.{ℕ, ◌≡◌, ◌<◌, ◌≤◌, List, [], ◌∷◌, Bool, true, false, refl, arith, ◌⊎◌, inl, inr}
use Rattle.std.specs.Prelude.{count_by}
use Rattle.std.specs.List.{list_all}
use Rattle.std.proofs.lemmas.Bool.{and_parts, cases_lt}
use Rattle.loc_base.proofs.ShelfBools.{count-false}
use Rattle.design_core.specs.declared.design.Design.{Design}
use Rattle.design_core.specs.Valuation.{width_at}
use Rattle.design_core.specs.Drives.{driver_drives, block_drives}
use Rattle.design_core.specs.Given.{CanRun}
use Rattle.design_core.specs.WellFormed.{driver_fits, clocked_fits}
use Rattle.design_bits.proofs.DrivesWithin.{driver-below, block-below}
use Rattle.design_rules.specs.Entries.{driven_times}
use Rattle.design_rules.proofs.OneDriverLaws.{count_by-cons}

-- a list of which some are counted has one that passes
counted-below : {X : Type 0} (test fits : X → Bool) (G : Type 0) (xs : List X) → list_all fits xs ≡ true → 1 ≤ count_by test xs → ((x : X) → fits x ≡ true → test x ≡ true → G) → G
counted-below test fits G [] all some use_it = absurd (omega (arith, some))
counted-below test fits G (x ∷ xs) all some use_it =
    let both = and_parts (fits x) (list_all fits xs) all in
    at (test x) refl both.0 (λ rest. counted-below test fits G xs both.1 rest use_it)
  where
    at : (b : Bool) → test x ≡ b → fits x ≡ true → (1 ≤ count_by test xs → G) → G
    at true is fit rest = use_it x fit is
    at false is fit rest = rest (omega (arith, some, count_by-cons test x xs, count-false (test x) is))

-- a bit that some entry drives is one of a signal
pub driven-below : (d : Design) (s b : ℕ) → CanRun d → 1 ≤ driven_times d s b → b < width_at d.signals.items s
driven-below d s b well some = at (cases_lt 0 (count_by (driver_drives d.signals.items s b) d.drivers.items))
  where
    at : (0 < count_by (driver_drives d.signals.items s b) d.drivers.items) ⊎ (count_by (driver_drives d.signals.items s b) d.drivers.items ≤ 0) → b < width_at d.signals.items s
    at (inl drivers) =
        counted-below (driver_drives d.signals.items s b) (driver_fits d.signals.items d.places.items) (b < width_at d.signals.items s) d.drivers.items well.drivers drivers
        (λ x fit drives. driver-below d.signals.items d.places.items s b x fit drives)
    at (inr none) =
        counted-below (block_drives d.signals.items s b) (clocked_fits d) (b < width_at d.signals.items s) d.clocked.items well.clocked (omega (arith, some, none))
        (λ x fit drives. block-below d s b x fit drives)

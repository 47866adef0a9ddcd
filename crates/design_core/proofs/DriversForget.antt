-- Drivers that are carried out in an order leave the same from two valuations that agree on the bits that none drives.
use Rattle.std.proofs.Common.{ℕ, ◌≡◌, Bool, true, false, List, [], ◌∷◌, refl, ap, sym, ◌∙◌, subst, ◌⊎◌, inl, inr, Option, Some, None}
use Rattle.std.specs.Prelude.{if◌then◌else◌, slice_get, Contains}
use Rattle.std.proofs.Math.Path.{fun_ext}
use Rattle.std.proofs.lemmas.Bool.{cases_Bool}
use Rattle.std.proofs.lemmas.Option.{slice_get_within}
use Rattle.loc_base.proofs.ShelfLists.{All-member, Contains-at, Contains-cons, Contains-empty, Contains-first, Contains-place, list_all-member, list_any-found}
use Rattle.design_core.specs.declared.driver.Driver.{Driver}
use Rattle.design_core.specs.declared.design.Design.{Design}
use Rattle.design_core.specs.Valuation.{Valuation}
use Rattle.design_core.specs.After.{Choice}
use Rattle.design_core.specs.Drives.{driver_drives, is_driven}
use Rattle.design_core.specs.Cycle.{driven}
use Rattle.design_core.specs.WellFormed.{driver_fits, IsWellFormed}
use Rattle.design_core.specs.Reads.{driver_reads, Depends, IsOrder}
use Rattle.design_core.specs.Steps.{with_driver, with_drivers}
use Rattle.design_core.proofs.Lists.{AllPairs-first}
use Rattle.design_core.proofs.CycleLaws.{driven-agrees}
use Rattle.design_core.proofs.CycleExists.{IsSorted, sorted-later, with_driver-at, with_driver-other}

-- two valuations that agree on the bits that none of them drives
record AgreeElsewhere (d : Design) (order : List ℕ) (V W : Valuation) : Type 0 where
  same : (s b : ℕ) → ((i : ℕ) (driver : Driver) → Contains order i → slice_get d.drivers.items i ≡ Some driver → driver_drives d.signals.items s b driver ≡ false)
      → V s b ≡ W s b

elsewhere-next : (d : Design) (choice : Choice) (i : ℕ) (order : List ℕ) (V W : Valuation) → IsWellFormed d → IsSorted d (i ∷ order) → AgreeElsewhere d (i ∷ order) V W
    → AgreeElsewhere d order (with_driver d choice i V) (with_driver d choice i W)
elsewhere-next d choice i order V W well h a = record { same = λ s b none. at s b none (slice_get d.drivers.items i) refl }
  where
    -- a bit that the first does not drive either
    apart : (s b : ℕ) → ((j : ℕ) (driver : Driver) → Contains order j → slice_get d.drivers.items j ≡ Some driver → driver_drives d.signals.items s b driver ≡ false)
        → ((driver : Driver) → slice_get d.drivers.items i ≡ Some driver → driver_drives d.signals.items s b driver ≡ false)
        → with_driver d choice i V s b ≡ with_driver d choice i W s b
    apart s b none own =
        with_driver-other d choice V i s b own
        ∙ a.same s b (λ j driver member at. elim (Contains-cons i order j member) [
          | inl same ↦ own driver (ap (slice_get d.drivers.items) same ∙ at)
          | inr later ↦ none j driver later at
        ])
        ∙ sym (with_driver-other d choice W i s b own)

    same-driver : (one other : Driver) → Some one ≡ Some other → one ≡ other
    same-driver one other e = cc

    -- no driver from here on drives what the first one reads
    unread : (driver : Driver) → slice_get d.drivers.items i ≡ Some driver → (s b : ℕ) → driver_reads d.signals.items s b driver ≡ true
        → (j : ℕ) (source : Driver) → Contains (i ∷ order) j → slice_get d.drivers.items j ≡ Some source
        → (driver_drives d.signals.items s b source ≡ true) ⊎ (driver_drives d.signals.items s b source ≡ false) → driver_drives d.signals.items s b source ≡ false
    unread driver at_i s b read j source member at_j (inr none) = none
    unread driver at_i s b read j source member at_j (inl by) =
        let depends : Depends d i j =
        record { reader = driver; source = source; is_reader = at_i; is_source = at_j; signal = s; position = b; read = read; driven = by } in
        elim (Contains-cons i order j member) [
          | inl same ↦ absurd (All-member (λ i. ¬ Depends d i i) (i ∷ order) i h.not_itself (Contains-first i order) (subst (Depends d i) (sym same) depends))
          | inr later ↦ absurd (AllPairs-first (λ i j. ¬ Depends d i j) i order j h.not_later later depends)
        ]

    own : (driver : Driver) → slice_get d.drivers.items i ≡ Some driver → (s b : ℕ) → driver_drives d.signals.items s b driver ≡ true
        → with_driver d choice i V s b ≡ with_driver d choice i W s b
    own driver at_i s b drives =
        with_driver-at d choice V i driver s b at_i
        ∙ ap (λ t. if t then driven d.signals.items choice V driver s b else V s b) drives
        ∙ driven-agrees d.signals.items d.places.items choice V W driver s b
        (list_all-member (driver_fits d.signals.items d.places.items) d.drivers.items driver well.drivers (Contains-at d.drivers.items i driver at_i))
        (record {
          same = λ s b read. a.same s b (λ j source member at_j. unread driver at_i s b read j source member at_j (cases_Bool (driver_drives d.signals.items s b source)));
        }) drives
        ∙ sym (ap (λ t. if t then driven d.signals.items choice W driver s b else W s b) drives)
        ∙ sym (with_driver-at d choice W i driver s b at_i)

    at : (s b : ℕ) → ((j : ℕ) (driver : Driver) → Contains order j → slice_get d.drivers.items j ≡ Some driver → driver_drives d.signals.items s b driver ≡ false)
        → (o : Option Driver) → slice_get d.drivers.items i ≡ o → with_driver d choice i V s b ≡ with_driver d choice i W s b
    at s b none None e = apart s b none (λ driver at. absurd (absent (sym e ∙ at)))
      where
        absent : {driver : Driver} → None ≡ Some driver → ⊥
        absent e = cc
    at s b none (Some driver) e = by_test (cases_Bool (driver_drives d.signals.items s b driver))
      where
        by_test : (driver_drives d.signals.items s b driver ≡ true) ⊎ (driver_drives d.signals.items s b driver ≡ false) → with_driver d choice i V s b ≡ with_driver d choice i W s b
        by_test (inl drives) = own driver e s b drives
        by_test (inr silent) =
            apart s b none (λ other at. ap (driver_drives d.signals.items s b) (same-driver other driver (sym at ∙ e)) ∙ silent)

elsewhere-all : (d : Design) (choice : Choice) (order : List ℕ) (V W : Valuation) → IsWellFormed d → IsSorted d order → AgreeElsewhere d order V W
    → (s b : ℕ) → with_drivers d choice order V s b ≡ with_drivers d choice order W s b
elsewhere-all d choice [] V W well h a s b = a.same s b (λ i driver member at. absurd (Contains-empty i member))
elsewhere-all d choice (i ∷ order) V W well h a s b =
    elsewhere-all d choice order (with_driver d choice i V) (with_driver d choice i W) well (sorted-later d i order h) (elsewhere-next d choice i order V W well h a) s b

-- what drivers leave does not depend on what their bits were before
pub drivers-forget : (d : Design) (order : List ℕ) (choice : Choice) (V W : Valuation) → IsWellFormed d → IsOrder d order
    → ((s b : ℕ) → is_driven d s b ≡ false → V s b ≡ W s b) → with_drivers d choice order V ≡ with_drivers d choice order W
drivers-forget d order choice V W well h same =
    fun_ext (λ s. fun_ext (λ b.
    elsewhere-all d choice order V W well (record { distinct = h.distinct; not_itself = h.not_itself; not_later = h.not_later })
    (record { same = λ s b none. same s b (undriven s b none (cases_Bool (is_driven d s b))) }) s b))
  where
    undriven : (s b : ℕ) → ((i : ℕ) (driver : Driver) → Contains order i → slice_get d.drivers.items i ≡ Some driver → driver_drives d.signals.items s b driver ≡ false)
        → (is_driven d s b ≡ true) ⊎ (is_driven d s b ≡ false) → is_driven d s b ≡ false
    undriven s b none (inr off) = off
    undriven s b none (inl on) =
        let (driver, member, drives) = list_any-found (driver_drives d.signals.items s b) d.drivers.items on in
        let (i, at) = Contains-place d.drivers.items driver member in
        absurd (contrary (driver_drives d.signals.items s b driver) (none i driver (h.complete i (slice_get_within d.drivers.items i driver at)) at) drives)
      where
        contrary : (x : Bool) → x ≡ false → x ≡ true → ⊥
        contrary true p q = cc
        contrary false p q = cc

-- The drivers of a freed design, one for each of the design: they drive its bits alike, and give them the same values.
use Rattle.std.proofs.Common.{ℕ, ◌+◌, ◌≡◌, ◌<◌, ◌≤◌, true, false, not, ◌&&◌, List, [], ◌∷◌, ◌++◌, length, refl, ap, ◌∙◌, arith, Option, Some, None}
use Rattle.std.specs.Prelude.{nat_le}
use Rattle.std.specs.List.{AllZip, list_any, list_all}
use Rattle.std.proofs.lemmas.Bool.{and_parts}
use Rattle.loc_base.specs.declared.span.Span.{Span}
use Rattle.design_core.specs.declared.signal.Signal.{Signal}
use Rattle.design_core.specs.declared.place.Place.{Place}
use Rattle.design_core.specs.declared.expression.Typed.{Typed}
use Rattle.design_core.specs.declared.statement.Part.{Part}
use Rattle.design_core.specs.declared.statement.Target.{Target}
use Rattle.design_core.specs.declared.statement.Stmt.{Stmt}
use Rattle.design_core.specs.declared.driver.Driver.{Driver}
use Rattle.design_core.specs.declared.driver.Driver.TheVariants.{Cont, Comb}
use Rattle.design_core.specs.Valuation.{Valuation, bit}
use Rattle.design_core.specs.Value.{value}
use Rattle.design_core.specs.Store.{parts_width, store}
use Rattle.design_core.specs.After.{Choice}
use Rattle.design_core.specs.Drives.{part_drives, statement_drives, driver_drives}
use Rattle.design_core.specs.Cycle.{without, cont_assigned, driven}
use Rattle.design_core.specs.WellFormed.{is_width, part_fits, typed_fits, place_fits, assignment_fits, statement_fits, driver_fits}
use Rattle.freed_conditions.specs.Kept.{Next, behind}
use Rattle.freed_conditions.specs.Widths.{widths, widths_of_drivers}
use Rattle.freed_conditions.specs.Freed.{freed}
use Rattle.freed_conditions.specs.IsFreed.{freed_drivers, connected}
use Rattle.freed_conditions.specs.Alike.{AgreeBelow, Room}
use Rattle.freed_conditions.proofs.ValueAlike.{value-alike}
use Rattle.freed_conditions.proofs.StoreAlike.{store-alike}
use Rattle.freed_conditions.proofs.Rooms.{room-left, room-right}
use Rattle.freed_conditions.proofs.KeptLaws.{unfreed-assigned}
use Rattle.freed_conditions.proofs.AfterFreed.{after-follows}
use Rattle.freed_conditions.proofs.DrivesFreed.{parts_drive-more, drives-freed}

-- a driver of the freed design, over more signals, beside that of the design
pub record DriverAlike (signals more : List Signal) (choice : Choice) (own other : Driver) : Type 0 where
  pub drives : (s b : ℕ) → s < length signals → driver_drives more s b other ≡ driver_drives signals s b own
  pub driven : (V W : Valuation) → AgreeBelow (length signals) W V → AgreeBelow (length signals) (driven more choice W other) (driven signals choice V own)

-- the bits that others drive
without-alike : (signals more : List Signal) (own other : Driver) (V W : Valuation)
    → ((s b : ℕ) → s < length signals → driver_drives more s b other ≡ driver_drives signals s b own)
    → AgreeBelow (length signals) W V → AgreeBelow (length signals) (without more other W) (without signals own V)
without-alike signals more own other V W drives agree = record {
  same = λ s b below.
      ap (λ x. not x && W s b) (drives s b below) ∙ ap (λ x. not (driver_drives signals s b own) && x) (agree.same s b below);
}

pub assignment-parts : (signals : List Signal) (parts : List Part) (e : Typed) → assignment_fits signals parts e ≡ true
    → (list_all (part_fits signals) parts ≡ true) × (typed_fits signals e ≡ true)
assignment-parts signals parts e fits =
    let front = and_parts (list_all (part_fits signals) parts && is_width (parts_width signals parts) && typed_fits signals e) (nat_le (parts_width signals parts) e.width) fits in
    let more = and_parts (list_all (part_fits signals) parts && is_width (parts_width signals parts)) (typed_fits signals e) front.0 in
    ((and_parts (list_all (part_fits signals) parts) (is_width (parts_width signals parts)) more.0).0, more.1)

-- a continuous assignment, whose place may be new, where it assigns the same
cont-alike : (signals hidden : List Signal) (choice : Choice) (target : Target) (e : Typed) (place place' : Option ℕ) (span : Span)
    → assignment_fits signals target.parts e ≡ true → ((v : ℕ) → cont_assigned choice place' v ≡ cont_assigned choice place v)
    → DriverAlike signals (signals ++ hidden) choice (Cont target e place span) (Cont target e place' span)
cont-alike signals hidden choice target e place place' span fits same =
    let fit = assignment-parts signals target.parts e fits in
    let drives : (s b : ℕ) → s < length signals → list_any (part_drives (signals ++ hidden) s b) target.parts ≡ list_any (part_drives signals s b) target.parts =
    λ s b below. parts_drive-more signals hidden s b target.parts below fit.0 in
    record {
      drives = drives;
      driven = λ V W agree.
          let W' : Valuation = without (signals ++ hidden) (Cont target e place' span) W in
          let V' : Valuation = without signals (Cont target e place span) V in
          let rest : AgreeBelow (length signals) W' V' =
          without-alike signals (signals ++ hidden) (Cont target e place span) (Cont target e place' span) V W drives agree in
          record {
            same = λ s b below.
                ap (λ v. store (signals ++ hidden) W' W' target.parts (bit v) s b)
                (same (value (signals ++ hidden) W e) ∙ ap (cont_assigned choice place) (value-alike signals hidden W V e fit.1 agree))
                ∙ store-alike signals hidden W' V' W' V' target.parts (bit (cont_assigned choice place (value signals V e))) s b fit.0 rest (rest.same s b below);
          };
    }

-- a combinational block
comb-alike : (signals hidden : List Signal) (places : List Place) (choice : Choice) (n : Next) (body : Stmt) (span : Span)
    → statement_fits signals places body ≡ true → Room signals hidden choice.frees n (widths body)
    → DriverAlike signals (signals ++ hidden) choice (Comb body span) (Comb (freed n body) span)
comb-alike signals hidden places choice n body span fits room =
    let drives : (s b : ℕ) → s < length signals → statement_drives (signals ++ hidden) s b (freed n body) ≡ statement_drives signals s b body =
    λ s b below. drives-freed signals hidden places n body s b fits room.behind below in
    record {
      drives = drives;
      driven = λ V W agree.
          let W' : Valuation = without (signals ++ hidden) (Comb (freed n body) span) W in
          let V' : Valuation = without signals (Comb body span) V in
          let rest : AgreeBelow (length signals) W' V' =
          without-alike signals (signals ++ hidden) (Comb body span) (Comb (freed n body) span) V W drives agree in
          (after-follows signals hidden places choice body fits n (record { now = V'; later = V' }) (record { now = W'; later = W' }) room (record { now = rest; later = rest })).now;
    }

pub drivers-alike : (signals hidden : List Signal) (places : List Place) (choice : Choice) (n : Next) (place : ℕ) (drivers : List Driver)
    → list_all (driver_fits signals places) drivers ≡ true → Room signals hidden choice.frees n (widths_of_drivers drivers)
    → ((p : ℕ) → place ≤ p → choice.frees p ≡ false)
    → AllZip (DriverAlike signals (signals ++ hidden) choice) drivers (connected place (freed_drivers n drivers))
drivers-alike signals hidden places choice n place [] fits room unfreed = tt
drivers-alike signals hidden places choice n place (Cont target e None span ∷ rest) fits room unfreed =
    let fit = and_parts (driver_fits signals places (Cont target e None span)) (list_all (driver_fits signals places) rest) fits in
    let own = and_parts (assignment_fits signals target.parts e) true fit.0 in (
      cont-alike signals hidden choice target e None (Some place) span own.0 (λ v. unfreed-assigned choice place v (unfreed place (omega arith))),
      drivers-alike signals hidden places choice n (place + 1) rest fit.1 room (λ p above. unfreed p (omega arith)),
    )
drivers-alike signals hidden places choice n place (Cont target e (Some p) span ∷ rest) fits room unfreed =
    let fit = and_parts (driver_fits signals places (Cont target e (Some p) span)) (list_all (driver_fits signals places) rest) fits in
    let own = and_parts (assignment_fits signals target.parts e) (place_fits places (parts_width signals target.parts) p) fit.0 in
    (cont-alike signals hidden choice target e (Some p) (Some p) span own.0 (λ v. refl), drivers-alike signals hidden places choice n place rest fit.1 room unfreed)
drivers-alike signals hidden places choice n place (Comb body span ∷ rest) fits room unfreed =
    let fit = and_parts (statement_fits signals places body) (list_all (driver_fits signals places) rest) fits in (
      comb-alike signals hidden places choice n body span fit.0 (room-left signals hidden choice.frees n (widths body) (widths_of_drivers rest) room),
      drivers-alike signals hidden places choice (behind (widths body) n) place rest fit.1
          (room-right signals hidden choice.frees n (widths body) (widths_of_drivers rest) room) unfreed,
    )

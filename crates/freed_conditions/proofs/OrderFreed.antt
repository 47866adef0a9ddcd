-- The drivers of a freed design depend on each other as the design's do: an order of these is one of those, and the least order is the same.
use Rattle.std.proofs.Common.{ℕ, zero, suc, ◌+◌, ◌≡◌, ◌<◌, ◌≤◌, true, false, ◌||◌, List, [], ◌∷◌, ◌++◌, length, refl, ap, ◌∙◌, sym, subst, arith, ◌⊎◌, inl, inr, Option, Some, None}
use Rattle.std.specs.Prelude.{◌↔◌, slice_get, slice_index_or}
use Rattle.std.proofs.lemmas.List.Elements.{All-weaker}
use Rattle.std.specs.List.{AllZip, list_any, list_all}
use Rattle.std.proofs.lemmas.Bool.{and_parts, both_ways, cases_lt}
use Rattle.loc_base.proofs.ShelfLists.{AllZip-length, Contains-at}
use Rattle.loc_base.specs.declared.span.Span.{Span}
use Rattle.design_core.specs.declared.signal.Signal.{Signal}
use Rattle.design_core.specs.declared.place.Place.{Place}
use Rattle.design_core.specs.declared.expression.Typed.{Typed}
use Rattle.design_core.specs.declared.statement.Target.{Target}
use Rattle.design_core.specs.declared.statement.Stmt.{Stmt}
use Rattle.design_core.specs.declared.driver.Driver.{Driver}
use Rattle.design_core.specs.declared.driver.Driver.TheVariants.{Cont, Comb}
use Rattle.design_core.specs.declared.design.Design.{Design}
use Rattle.design_core.specs.Store.{parts_width}
use Rattle.design_core.specs.Drives.{driver_drives}
use Rattle.design_core.specs.Reads.{driver_reads, Depends, IsOrder}
use Rattle.design_core.specs.Order.{IsLeastOrderOf, IsLeastOrder}
use Rattle.design_core.specs.WellFormed.{place_fits, assignment_fits, statement_fits, driver_fits, IsWellFormed}
use Rattle.design_core.proofs.OrderLaws.{least-alike}
use Rattle.freed_conditions.specs.Kept.{Next, behind}
use Rattle.freed_conditions.specs.Widths.{widths, widths_of_drivers, widths_of_clocked}
use Rattle.freed_conditions.specs.Freed.{freed}
use Rattle.freed_conditions.specs.IsFreed.{freed_drivers, connected, begins, condition_widths, IsFreed}
use Rattle.freed_conditions.specs.Alike.{Room}
use Rattle.freed_conditions.specs.Old.{IsRunnable}
use Rattle.freed_conditions.proofs.Rooms.{room-left, room-right}
use Rattle.freed_conditions.proofs.DrivesFreed.{parts_drive-more, drives-freed}
use Rattle.freed_conditions.proofs.DriversFreed.{assignment-parts}
use Rattle.freed_conditions.proofs.Beside.{driven-below, room-whole}
use Rattle.freed_conditions.proofs.WellFreed.{zip-get, well-freed}
use Rattle.freed_conditions.proofs.OnceFreed.{once-freed}
use Rattle.freed_conditions.proofs.ReadsFreed.{set_reads-more, set_reads-none}
use Rattle.freed_conditions.proofs.ReadsBefore.{nothing_freed, before-freed, before-none}

-- a driver of the freed design, over more signals, beside that of the design: it drives and reads the same bits of the design's signals,
-- and of those behind them it reads none
pub record ReadsAlike (signals more : List Signal) (own other : Driver) : Type 0 where
  pub drives : (s b : ℕ) → s < length signals → driver_drives more s b other ≡ driver_drives signals s b own
  pub reads : (s b : ℕ) → s < length signals → driver_reads more s b other ≡ driver_reads signals s b own
  pub unread : (s b : ℕ) → length signals ≤ s → driver_reads more s b other ≡ false

cont-reads : (signals hidden : List Signal) (target : Target) (e : Typed) (place place' : Option ℕ) (span : Span) → assignment_fits signals target.parts e ≡ true
    → ReadsAlike signals (signals ++ hidden) (Cont target e place span) (Cont target e place' span)
cont-reads signals hidden target e place place' span fits = record {
  drives = λ s b below. parts_drive-more signals hidden s b target.parts below (assignment-parts signals target.parts e fits).0;
  reads = λ s b below. set_reads-more signals hidden s b target.parts e fits;
  unread = λ s b above. set_reads-none signals hidden s b target.parts e fits above;
}

comb-reads : (signals hidden : List Signal) (places : List Place) (n : Next) (body : Stmt) (span : Span) → statement_fits signals places body ≡ true
    → Room signals hidden nothing_freed n (widths body) → ReadsAlike signals (signals ++ hidden) (Comb body span) (Comb (freed n body) span)
comb-reads signals hidden places n body span fits room = record {
  drives = λ s b below. drives-freed signals hidden places n body s b fits room.behind below;
  reads = λ s b below. before-freed signals hidden places n body s b fits room.behind below;
  unread = λ s b above. before-none signals hidden places n body s b fits room above;
}

drivers-read : (signals hidden : List Signal) (places : List Place) (n : Next) (place : ℕ) (drivers : List Driver) → list_all (driver_fits signals places) drivers ≡ true
    → Room signals hidden nothing_freed n (widths_of_drivers drivers)
    → AllZip (ReadsAlike signals (signals ++ hidden)) drivers (connected place (freed_drivers n drivers))
drivers-read signals hidden places n place [] fits room = tt
drivers-read signals hidden places n place (Cont target e None span ∷ rest) fits room =
    let fit = and_parts (driver_fits signals places (Cont target e None span)) (list_all (driver_fits signals places) rest) fits in
    let own = and_parts (assignment_fits signals target.parts e) true fit.0 in
    (cont-reads signals hidden target e None (Some place) span own.0, drivers-read signals hidden places n (place + 1) rest fit.1 room)
drivers-read signals hidden places n place (Cont target e (Some p) span ∷ rest) fits room =
    let fit = and_parts (driver_fits signals places (Cont target e (Some p) span)) (list_all (driver_fits signals places) rest) fits in
    let own = and_parts (assignment_fits signals target.parts e) (place_fits places (parts_width signals target.parts) p) fit.0 in
    (cont-reads signals hidden target e (Some p) (Some p) span own.0, drivers-read signals hidden places n place rest fit.1 room)
drivers-read signals hidden places n place (Comb body span ∷ rest) fits room =
    let fit = and_parts (statement_fits signals places body) (list_all (driver_fits signals places) rest) fits in (
      comb-reads signals hidden places n body span fit.0 (room-left signals hidden nothing_freed n (widths body) (widths_of_drivers rest) room),
      drivers-read signals hidden places (behind (widths body) n) place rest fit.1
          (room-right signals hidden nothing_freed n (widths body) (widths_of_drivers rest) room),
    )

all-read : (d e : Design) → IsWellFormed d → IsFreed d e → AllZip (ReadsAlike d.signals.items e.signals.items) d.drivers.items e.drivers.items
all-read d e well f =
    let room : Room d.signals.items f.hidden nothing_freed (begins d) (widths_of_drivers d.drivers.items ++ widths_of_clocked d.clocked.items) =
    room-whole d e f nothing_freed (record { unfreed = λ p above. refl }) in
    let all : AllZip (ReadsAlike d.signals.items (d.signals.items ++ f.hidden)) d.drivers.items
    (connected (length d.places.items + length (condition_widths d)) (freed_drivers (begins d) d.drivers.items)) =
    drivers-read d.signals.items f.hidden d.places.items (begins d) (length d.places.items + length (condition_widths d)) d.drivers.items well.drivers
    (room-left d.signals.items f.hidden nothing_freed (begins d) (widths_of_drivers d.drivers.items) (widths_of_clocked d.clocked.items) room) in
    subst (λ (more : List Signal). AllZip (ReadsAlike d.signals.items more) d.drivers.items e.drivers.items) (sym f.signals)
    (subst (AllZip (ReadsAlike d.signals.items (d.signals.items ++ f.hidden)) d.drivers.items) (sym f.drivers) all)

-- an element of two lists, by the second's
zip-from : {X Y : Type 0} (R : X → Y → Type 0) (xs : List X) (ys : List Y) (i : ℕ) (y : Y) → AllZip R xs ys → slice_get ys i ≡ Some y
    → (x : X) × (slice_get xs i ≡ Some x) × R x y
zip-from R [] [] i y all at = cc
zip-from R [] (b ∷ ys) i y all at = absurd all
zip-from R (a ∷ xs) [] i y all at = cc
zip-from R (a ∷ xs) (b ∷ ys) zero y all at = let same : b ≡ y = cc in (a, refl, subst (R a) same all.0)
zip-from R (a ∷ xs) (b ∷ ys) (suc i) y all at = zip-from R xs ys i y all.1 at

-- ---- who depends on whom
pub depends-on : (d e : Design) → IsWellFormed d → IsFreed d e → (i j : ℕ) → Depends d i j → Depends e i j
depends-on d e well f i j on =
    let all = all-read d e well f in
    let R : Driver → Driver → Type 0 = ReadsAlike d.signals.items e.signals.items in
    let (reader, at_reader, reads) = zip-get R d.drivers.items e.drivers.items i on.reader all on.is_reader in
    let (source, at_source, drives) = zip-get R d.drivers.items e.drivers.items j on.source all on.is_source in
    let below : on.signal < length d.signals.items =
    driven-below d well on.source on.signal on.position (Contains-at d.drivers.items j on.source on.is_source) on.driven in
    record {
      reader = reader;
      source = source;
      is_reader = at_reader;
      is_source = at_source;
      signal = on.signal;
      position = on.position;
      read = reads.reads on.signal on.position below ∙ on.read;
      driven = drives.drives on.signal on.position below ∙ on.driven;
    }

pub depends-back : (d e : Design) → IsWellFormed d → IsFreed d e → (i j : ℕ) → Depends e i j → Depends d i j
depends-back d e well f i j on =
    let all = all-read d e well f in
    let R : Driver → Driver → Type 0 = ReadsAlike d.signals.items e.signals.items in
    let (reader, at_reader, reads) = zip-from R d.drivers.items e.drivers.items i on.reader all on.is_reader in
    let (source, at_source, drives) = zip-from R d.drivers.items e.drivers.items j on.source all on.is_source in
    at reader source at_reader at_source reads drives (cases_lt on.signal (length d.signals.items))
  where
    at : (reader source : Driver) → slice_get d.drivers.items i ≡ Some reader → slice_get d.drivers.items j ≡ Some source
        → ReadsAlike d.signals.items e.signals.items reader on.reader → ReadsAlike d.signals.items e.signals.items source on.source
        → (on.signal < length d.signals.items) ⊎ (length d.signals.items ≤ on.signal) → Depends d i j
    at reader source at_reader at_source reads drives (inl below) = record {
      reader = reader;
      source = source;
      is_reader = at_reader;
      is_source = at_source;
      signal = on.signal;
      position = on.position;
      read = sym (reads.reads on.signal on.position below) ∙ on.read;
      driven = sym (drives.drives on.signal on.position below) ∙ on.driven;
    }
    at reader source at_reader at_source reads drives (inr above) =
        absurd (both_ways (driver_reads e.signals.items on.signal on.position on.reader) (reads.unread on.signal on.position above) on.read)

-- ---- and the orders
drivers-many : (d e : Design) → IsWellFormed d → IsFreed d e → length d.drivers.items ≡ length e.drivers.items
drivers-many d e well f = AllZip-length (ReadsAlike d.signals.items e.signals.items) d.drivers.items e.drivers.items (all-read d e well f)

-- two designs with as many drivers, of which the second's depend on each other where the first's do
order-alike : (d e : Design) (order : List ℕ) → length d.drivers.items ≡ length e.drivers.items → ((i j : ℕ) → Depends e i j → Depends d i j)
    → IsOrder d order → IsOrder e order
order-alike d e order many back in_order = record {
  numbers = All-weaker (λ i. i < length d.drivers.items) (λ i. i < length e.drivers.items) (λ i below. omega (arith, below, many)) order in_order.numbers;
  complete = λ i below. in_order.complete i (omega (arith, below, many));
  distinct = in_order.distinct;
  not_itself = All-weaker (λ i. ¬ Depends d i i) (λ i. ¬ Depends e i i) (λ i not on. not (back i i on)) order in_order.not_itself;
  not_later = λ k m x before within on. in_order.not_later k m x before within (back (slice_index_or order k x) (slice_index_or order m x) on);
}

pub same-order : (d e : Design) → IsWellFormed d → IsFreed d e → (order : List ℕ) → IsOrder d order ↔ IsOrder e order
same-order d e well f order =
    let many : length d.drivers.items ≡ length e.drivers.items = drivers-many d e well f in
    (order-alike d e order many (depends-back d e well f), order-alike e d order (sym many) (depends-on d e well f))

pub same-least : (d e : Design) → IsWellFormed d → IsFreed d e → (order : List ℕ) → IsLeastOrder d order ↔ IsLeastOrder e order
same-least d e well f order =
    let many : length d.drivers.items ≡ length e.drivers.items = drivers-many d e well f in
    let on = depends-on d e well f in
    let back = depends-back d e well f in (
      λ least. subst (λ n. IsLeastOrderOf (Depends e) n order) many (least-alike (Depends d) (Depends e) (length d.drivers.items) order on back least),
      λ least. subst (λ n. IsLeastOrderOf (Depends d) n order) (sym many) (least-alike (Depends e) (Depends d) (length e.drivers.items) order back on least),
    )

-- so the freed design can be run where the design can
pub runnable-freed : (d e : Design) (order : List ℕ) → IsRunnable d order → IsFreed d e → IsRunnable e order
runnable-freed d e order own f = record {
  well_formed = well-freed d e own.well_formed f;
  once = once-freed d e own.well_formed own.once f;
  in_order = (same-order d e own.well_formed f order).0 own.in_order;
}

-- Circles of drivers.
use Rattle.std.proofs.Common.{◌≡◌, ℕ, ◌<◌, ◌≤◌, List, [], ◌∷◌, length, sym, ap, ◌∙◌, subst, arith, Option, Some, All}
use Rattle.std.specs.Prelude.{slice_get, Contains, IsTrue}
use Rattle.std.specs.Option.{option_map_or}
use Rattle.std.proofs.lemmas.List.Elements.{All-cons, All-nil}
use Rattle.std.proofs.lemmas.Option.{slice_get_within}
use Rattle.loc_base.specs.declared.span.Span.{Span}
use Rattle.loc_base.proofs.ShelfLists.{All-member}
use Rattle.design_core.specs.declared.driver.Driver.{Driver}
use Rattle.design_core.specs.declared.design.Design.{Design}
use Rattle.design_core.specs.Drives.{driver_drives}
use Rattle.design_core.specs.Reads.{driver_reads, Depends}
use Rattle.design_core.specs.Order.{Leads, HasCircle}
use Rattle.design_core.proofs.OrderLaws.{circle-alike}
use Rattle.design_order.specs.Circle.{IsCircle}
use Rattle.aiger_design.specs.Laws.{AreAlike}
use Rattle.aiger_front_end.specs.Refusals.{span_of, ShowsCircle}

pub circle-some : (d : Design) (drivers : List ℕ) → IsCircle d drivers → 0 < length drivers
circle-some d [] circle = absurd circle
circle-some d (i ∷ path) circle = omega arith

pub has-circle : (d : Design) (drivers : List ℕ) → IsCircle d drivers → HasCircle d
has-circle d [] circle = absurd circle
has-circle d (i ∷ path) (within, leads) = record { number = i; path = path; within = within; leads = leads }

-- its numbers are those of drivers
path-within : (d : Design) (i : ℕ) (path : List ℕ) (last : ℕ) → i < length d.drivers.items
    → Leads (Depends d) i path last
    → All (λ k. k < length d.drivers.items) (i ∷ path)
path-within d i [] last within leads = All-cons (λ k. k < length d.drivers.items) i [] within
    (All-nil (λ k. k < length d.drivers.items))
path-within d i (j ∷ path) last within (first, rest) =
    All-cons (λ k. k < length d.drivers.items) i (j ∷ path) within
    (path-within d j path last (slice_get_within d.drivers.items j first.source first.is_source) rest)

circle-within : (d : Design) (drivers : List ℕ) → IsCircle d drivers → All (λ k. k < length d.drivers.items) drivers
circle-within d [] circle = absurd circle
circle-within d (i ∷ path) (within, leads) = path-within d i path i within leads

pub member-within : (d : Design) (drivers : List ℕ) (k : ℕ) → IsCircle d drivers → Contains drivers k
    → k < length d.drivers.items
member-within d drivers k circle there = All-member (λ k. k < length d.drivers.items) drivers k
    (circle-within d drivers circle) there

-- its least driver shows it
pub shows : (d : Design) (drivers : List ℕ) (k : ℕ) (driver : Driver) (span : Span) → IsCircle d drivers
    → Contains drivers k → All (λ i. k ≤ i) drivers
    → slice_get d.drivers.items k ≡ Some driver → span ≡ span_of driver → ShowsCircle d span
shows d drivers k driver span circle there least at is = record {
  drivers = drivers;
  circle = circle;
  number = k;
  stands = there;
  least = least;
  shown = is ∙ sym (ap (λ (o : Option Driver). option_map_or span_of o (record { from = 0; to = 0 })) at);
}

-- ---- designs with the same lists have the same circles
depends-moved : (d e : Design) → AreAlike d e → (i j : ℕ) → Depends d i j → Depends e i j
depends-moved d e same i j on = record {
  reader = on.reader;
  source = on.source;
  is_reader = subst (λ drivers. slice_get drivers i ≡ Some on.reader) same.drivers on.is_reader;
  is_source = subst (λ drivers. slice_get drivers j ≡ Some on.source) same.drivers on.is_source;
  signal = on.signal;
  position = on.position;
  read = subst (λ signals. IsTrue (driver_reads signals on.signal on.position on.reader)) same.signals on.read;
  driven = subst (λ signals. IsTrue (driver_drives signals on.signal on.position on.source)) same.signals on.driven;
}

pub circle-moved : (d e : Design) → AreAlike d e → HasCircle d → HasCircle e
circle-moved d e same circle =
    let on = circle-alike (Depends d) (Depends e) _ (depends-moved d e same) circle in
    record {
      number = on.number;
      path = on.path;
      within = subst (λ drivers. on.number < length drivers) same.drivers on.within;
      leads = on.leads;
    }

-- What is known of a design is known of each design with the same lists.
use Rattle.std.proofs.Common.{◌≡◌, ℕ, ◌+◌, ◌<◌, ◌≤◌, inl, inr, Bool, true, false, not, List, Option, Some, None, refl, sym, subst}
use Rattle.std.specs.Prelude.{◌==◌, ◌&&◌, ◌||◌, if◌then◌else◌, nat_lt, IsTrue, count_by, length, slice_get}
use Rattle.std.specs.List.{list_any}
use Rattle.std.proofs.lemmas.Option.{none-some}
use Rattle.loc_base.specs.declared.span.Span.{Span}
use Rattle.design_core.specs.declared.signal.Signal.{Signal}
use Rattle.design_core.specs.declared.driver.Driver.{Driver}
use Rattle.design_core.specs.declared.driver.Clocked.{Clocked}
use Rattle.design_core.specs.declared.statement.Part.{Part}
use Rattle.design_core.specs.declared.design.Design.{Design}
use Rattle.design_core.specs.Valuation.{width_at}
use Rattle.design_core.specs.Drives.{driver_drives, block_drives}
use Rattle.design_core.specs.Mentions.{driver_mentions, block_mentions}
use Rattle.design_core.specs.Reads.{driver_reads, Depends}
use Rattle.design_core.specs.Order.{HasCircle}
use Rattle.design_core.specs.WellFormed.{input_fits}
use Rattle.design_core.proofs.OrderLaws.{circle-alike}
use Rattle.design_rules.specs.Size.{is_too_large}
use Rattle.design_rules.specs.Entries.{is_net, is_variable}
use Rattle.design_rules.specs.OneDriver.{IsDrivenTwice}
use Rattle.design_rules.specs.DrivenReads.{IsUndriven}
use Rattle.design_rules.specs.Latches.{driver_holds, IsLatch}
use Rattle.design_rules.specs.Assignments.{by_equals, by_arrow, by_either, driver_sets, clocked_sets, connects}
use Rattle.design_rules.specs.Races.{others, IsRace}
use Rattle.v_binding.specs.declared.error.BindErr.{BindErr}
use Rattle.v_binding.specs.declared.error.BindErr.TheVariants as fault
use Rattle.bind_rules.specs.Beside.{Beside}
use Rattle.bind_rules.specs.Rules.{driver_span, is_initial, is_mixed, mixed_span, span_at, First, Races, Assigns, AtClock, Clocks, Latches, Undriven, Driven, AtSize, IsFirstBroken}
use Rattle.verilog_front_end.specs.Laws.{AreAlike}

-- what is said of the lists of one is said of those of the other
moved : (P : List Signal → List Driver → List Clocked → List ℕ → Type 0) (d e : Design) → AreAlike d e
    → P d.signals.items d.drivers.items d.clocked.items d.outputs.items
    → P e.signals.items e.drivers.items e.clocked.items e.outputs.items
moved P d e same said =
    subst (P e.signals.items e.drivers.items e.clocked.items) same.outputs
    (subst (λ clocked. P e.signals.items e.drivers.items clocked d.outputs.items) same.clocked
    (subst (λ drivers. P e.signals.items drivers d.clocked.items d.outputs.items) same.drivers
    (subst (λ signals. P signals d.drivers.items d.clocked.items d.outputs.items) same.signals said)))

-- ---- drivers that depend on each other
depends-moved : (d e : Design) → AreAlike d e → (i j : ℕ) → Depends d i j → Depends e i j
depends-moved d e same i j on = record {
  reader = on.reader;
  source = on.source;
  is_reader = moved (λ signals drivers clocked outputs. slice_get drivers i ≡ Some on.reader) d e same on.is_reader;
  is_source = moved (λ signals drivers clocked outputs. slice_get drivers j ≡ Some on.source) d e same on.is_source;
  signal = on.signal;
  position = on.position;
  read = moved (λ signals drivers clocked outputs. IsTrue (driver_reads signals on.signal on.position on.reader))
      d e same on.read;
  driven = moved (λ signals drivers clocked outputs. IsTrue (driver_drives signals on.signal on.position on.source))
      d e same on.driven;
}

pub circle-moved : (d e : Design) → AreAlike d e → HasCircle d → HasCircle e
circle-moved d e same circle =
    let on = circle-alike (Depends d) (Depends e) _ (depends-moved d e same) circle in
    record {
      number = on.number;
      path = on.path;
      within = moved (λ signals drivers clocked outputs. on.number < length drivers) d e same on.within;
      leads = on.leads;
    }

-- ---- the rules
large-moved : (d e : Design) → AreAlike d e → is_too_large d ≡ is_too_large e
large-moved d e same = rw (same.places, same.signals, same.drivers, same.clocked) refl

twice-moved : (d e : Design) → AreAlike d e → (s : ℕ) → IsDrivenTwice d s → IsDrivenTwice e s
twice-moved d e same s is = record {
  position = is.position;
  driven = moved
      (λ signals drivers clocked outputs. (if input_fits signals s then 1 else 2)
      ≤ count_by (driver_drives signals s is.position) drivers
      + count_by (block_drives signals s is.position) clocked)
      d e same is.driven;
}

undriven-moved : (d e : Design) → AreAlike d e → (s : ℕ) → IsUndriven d s → IsUndriven e s
undriven-moved d e same s is = record {
  position = is.position;
  net = moved (λ signals drivers clocked outputs. IsTrue (is_net signals s)) d e same is.net;
  used = moved
      (λ signals drivers clocked outputs. IsTrue ((list_any (driver_mentions signals s is.position) drivers
      || list_any (block_mentions signals s is.position) clocked)
      || (list_any (λ output. output == s) outputs && nat_lt is.position (width_at signals s))))
      d e same is.used;
  none = moved
      (λ signals drivers clocked outputs. count_by (driver_drives signals s is.position) drivers
      + count_by (block_drives signals s is.position) clocked ≡ 0)
      d e same is.none;
}

latch-moved : (d e : Design) → AreAlike d e → (i : ℕ) → IsLatch d i → IsLatch e i
latch-moved d e same i is = record {
  driver = is.driver;
  is_driver = moved (λ signals drivers clocked outputs. slice_get drivers i ≡ Some is.driver) d e same is.is_driver;
  signal = is.signal;
  position = is.position;
  holds = moved (λ signals drivers clocked outputs. IsTrue (driver_holds signals is.signal is.position is.driver))
      d e same is.holds;
}

-- whether some assignment of the blocks passes a test
some_block : (List Part → Bool → Bool) → List Driver → List Clocked → Bool
some_block test drivers clocked = list_any (driver_sets test) drivers || list_any (clocked_sets test) clocked

mixed-moved : (d e : Design) → AreAlike d e → (b : Beside) (s : ℕ) → is_mixed d b s ≡ true → is_mixed e b s ≡ true
unfolding some_block
mixed-moved d e same b s is =
    moved
    (λ signals drivers clocked outputs. (((some_block (by_equals b.homes s) drivers clocked && some_block (by_arrow b.homes s) drivers clocked)
    || list_any (driver_sets (by_arrow b.homes s)) drivers
    || (is_variable signals s && list_any (connects b.homes s) drivers)
    || (not (is_variable signals s) && some_block (by_either b.homes s) drivers clocked))
    || (not (is_variable signals s) && list_any (is_initial s) b.initial)) ≡ true)
    d e same is

race-moved : (d e : Design) → AreAlike d e → (homes : List ℕ) (h : ℕ) → IsRace d homes h → IsRace e homes h
race-moved d e same homes h is = record {
  number = is.number;
  block = is.block;
  is_block = moved (λ signals drivers clocked outputs. slice_get clocked is.number ≡ Some is.block)
      d e same is.is_block;
  assigned = is.assigned;
  signal = is.signal;
  position = is.position;
  at_home = is.at_home;
  used = moved
      (λ signals drivers clocked outputs. IsTrue (list_any (driver_mentions signals is.signal is.position) drivers
      || list_any (block_mentions signals is.signal is.position) (others is.number clocked)
      || (list_any (λ output. output == is.signal) outputs && nat_lt is.position (width_at signals is.signal))))
      d e same is.used;
}

-- ---- one rule after the other: where one design breaks none, the other breaks none
none-other : (fault : BindErr) → None ≡ Some fault → ⊥
none-other fault is = none-some fault is

next-rule : (P Q : ℕ → Type 0) (one other : ℕ → BindErr) (Next Later : Option BindErr → Type 0) (e : BindErr)
    → ((n : ℕ) → Q n → P n)
    → (Next None → Later (Some e) → ⊥) → First P one Next None → First Q other Later (Some e) → ⊥
next-rule P Q one other Next Later e back rest (inl broken) found = none-other (one broken.0) broken.2
next-rule P Q one other Next Later e back rest (inr fine) (inl found) = fine.0 found.0 (back found.0 found.1.0)
next-rule P Q one other Next Later e back rest (inr fine) (inr none) = rest fine.1 none.1

clock-rule : (fault : Option Span) (Next Later : Option BindErr → Type 0) (e : BindErr)
    → (Next None → Later (Some e) → ⊥)
    → AtClock fault Next None → AtClock fault Later (Some e) → ⊥
clock-rule (Some span) Next Later e rest fine found = none-other (fault.Clock span) fine
clock-rule None Next Later e rest fine found = rest fine found

size-rule : (large : Bool) (Next Later : Option BindErr → Type 0) (e : BindErr) → (Next None → Later (Some e) → ⊥)
    → AtSize large Next None → AtSize large Later (Some e) → ⊥
size-rule true Next Later e rest fine found = none-other fault.Places fine
size-rule false Next Later e rest fine found = rest fine found

pub none-broken : (d other : Design) (b : Beside) (e : BindErr) → AreAlike other d → IsFirstBroken d b None
    → IsFirstBroken other b (Some e) → ⊥
none-broken d other b e same fine found =
    size-rule (is_too_large d) (Driven d b) (Driven other b) e driven fine
    (subst (λ large. AtSize large (Driven other b) (Some e)) (large-moved other d same) found)
  where
    races : Races d b None → Races other b (Some e) → ⊥
    races =
        next-rule (IsRace d b.homes) (IsRace other b.homes) (λ s. fault.RaceRead (span_at b.spans s))
        (λ s. fault.RaceRead (span_at b.spans s)) (λ answer. answer ≡ None) (λ answer. answer ≡ None) e
        (race-moved other d same b.homes)
        (λ none some. none-other e (sym some))

    assigns : Assigns d b None → Assigns other b (Some e) → ⊥
    assigns =
        next-rule (λ s. is_mixed d b s ≡ true) (λ s. is_mixed other b s ≡ true)
        (λ s. fault.MixedAssign (mixed_span d b s))
        (λ s. fault.MixedAssign (mixed_span other b s)) (Races d b) (Races other b) e
        (mixed-moved other d same b) races

    clocks : Clocks d b None → Clocks other b (Some e) → ⊥
    clocks = clock-rule b.clock_fault (Assigns d b) (Assigns other b) e assigns

    latches : Latches d b None → Latches other b (Some e) → ⊥
    latches =
        next-rule (IsLatch d) (IsLatch other) (λ i. fault.Latch (driver_span d i))
        (λ i. fault.Latch (driver_span other i)) (Clocks d b) (Clocks other b) e
        (latch-moved other d same) clocks

    undriven : Undriven d b None → Undriven other b (Some e) → ⊥
    undriven =
        next-rule (IsUndriven d) (IsUndriven other) (λ s. fault.Undriven (span_at b.spans s))
        (λ s. fault.Undriven (span_at b.spans s)) (Latches d b)
        (Latches other b) e (undriven-moved other d same) latches

    driven : Driven d b None → Driven other b (Some e) → ⊥
    driven =
        next-rule (IsDrivenTwice d) (IsDrivenTwice other) (λ s. fault.MultiDriver (span_at b.spans s))
        (λ s. fault.MultiDriver (span_at b.spans s))
        (Undriven d b) (Undriven other b) e (twice-moved other d same) undriven

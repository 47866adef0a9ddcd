-- What a step of binding keeps: places only grow, and what is bound fits the whole design.
use Rattle.std.proofs.Common.{◌≡◌, ℕ, ◌+◌, Bool, true, List, [], ◌∷◌, ◌++◌, length, Some, arith}
use Rattle.std.specs.Prelude.{sum_by}
use Rattle.std.proofs.lemmas.Bool.{and_from}
use Rattle.std.proofs.lemmas.List.Sums.{sum_by-append, sum_by-cons}
use Rattle.loc_base.specs.declared.span.Span.{Span}
use Rattle.design_core.specs.declared.place.Place.{Place}
use Rattle.design_core.specs.declared.place.PlaceKind.{PlaceKind}
use Rattle.design_core.specs.declared.driver.Driver.{Driver}
use Rattle.design_core.specs.declared.driver.Driver.TheVariants as driver
use Rattle.design_core.specs.declared.driver.Clocked.{Clocked}
use Rattle.design_core.specs.declared.expression.Typed.{Typed}
use Rattle.design_core.specs.WellFormed.{is_width, driver_fits, times_in_driver, times_in_clocked}
use Rattle.v_syntax.specs.declared.site.Site.{Site}
use Rattle.v_binding.specs.declared.left.Left.{Left}
use Rattle.v_binding.specs.Places.{Home, place}
use Rattle.v_binding.specs.Starts.{Start, Initial}
use Rattle.v_binding.specs.Bound.{Root, Bound, with_places, with_driver, with_clocked, with_words, with_declared, with_initial, with_root, with_misclocked, with_clock_read}
use Rattle.v_binding.specs.Blocks.{Frame}
use Rattle.v_binding.specs.Assignments.{driven, driven_at}
use Rattle.bind_laws.specs.Fit.{Begins}
use Rattle.bind_laws.specs.Whole.{Whole, below, clocked_fits, RootFits, StartFits, BoundFits}
use Rattle.bind_laws.proofs.Lists.{list_all-push, Every-push, begins-front}
use Rattle.bind_laws.proofs.Statements.{below-push}
use Rattle.bind_laws.proofs.Bodies.{all_wide, Assigns, assignment-fits, place-fits}

-- ---- from one step to the next
-- what is bound before a step, where all that is bound behind it is part of the design
pub record Moves (w : Whole) (b c : Bound) : Type 0 where
  pub front : Begins b.places w.places
  pub keeps : BoundFits w b → BoundFits w c

abbrev pub Goes : Whole → Bound → Bound → Type 0
Goes w b c = Begins c.places w.places → Moves w b c

pub goes-nowhere : (w : Whole) (b : Bound) → Goes w b b
goes-nowhere w b begins = record { front = begins; keeps = λ fits. fits }

pub goes-on : (w : Whole) (a b c : Bound) → Goes w a b → Goes w b c → Goes w a c
goes-on w a b c one other begins =
    let second = other begins in
    let first = one second.front in
    record { front = first.front; keeps = λ fits. second.keeps (first.keeps fits) }

-- ---- one more
pub sum-push : {X : Type 0} (f : X → ℕ) (xs : List X) (x : X) → sum_by f (xs ++ x ∷ []) ≡ sum_by f xs + f x
sum-push f xs x =
    let one : sum_by f (x ∷ []) ≡ f x + 0 = sum_by-cons f x [] in
    omega (arith, sum_by-append f xs (x ∷ []), one)

-- a driver that fits, with the places that it makes
pub driver-more : (w : Whole) (places : List Place) (d : Driver) (b : Bound) → driver_fits w.signals w.places d ≡ true
    → ((p : ℕ) → times_in_driver p d + below p (length b.places) ≡ below p (length places))
    → (all_wide b.places ≡ true → all_wide places ≡ true) → BoundFits w b
    → BoundFits w (with_driver d (with_places places b))
driver-more w places d b fits once widths f = record {
  drivers = list_all-push (driver_fits w.signals w.places) b.drivers d f.drivers fits;
  clocked = f.clocked;
  once = λ p. omega (arith, f.once p, once p, sum-push (times_in_driver p) b.drivers d);
  roots = f.roots;
  declared = f.declared;
  initial = f.initial;
  places = widths f.places;
}

-- a clocked block that fits
pub clocked-more : (w : Whole) (places : List Place) (block : Clocked) (b : Bound) → clocked_fits w block ≡ true
    → ((p : ℕ) → times_in_clocked p block + below p (length b.places) ≡ below p (length places))
    → (all_wide b.places ≡ true → all_wide places ≡ true) → BoundFits w b
    → BoundFits w (with_clocked block (with_places places b))
clocked-more w places block b fits once widths f = record {
  drivers = f.drivers;
  clocked = list_all-push (clocked_fits w) b.clocked block f.clocked fits;
  once = λ p. omega (arith, f.once p, once p, sum-push (times_in_clocked p) b.clocked block);
  roots = f.roots;
  declared = f.declared;
  initial = f.initial;
  places = widths f.places;
}

pub root-more : (w : Whole) (r : Root) (b : Bound) → RootFits w r.input → BoundFits w b → BoundFits w (with_root r b)
root-more w r b fits f = record {
  drivers = f.drivers;
  clocked = f.clocked;
  once = f.once;
  roots = Every-push (λ (x : Root). RootFits w x.input) b.roots r f.roots fits;
  declared = f.declared;
  initial = f.initial;
  places = f.places;
}

pub declared-more : (w : Whole) (x : Start) (b : Bound) → StartFits w x → BoundFits w b
    → BoundFits w (with_declared x b)
declared-more w x b fits f = record {
  drivers = f.drivers;
  clocked = f.clocked;
  once = f.once;
  roots = f.roots;
  declared = Every-push (StartFits w) b.declared x f.declared fits;
  initial = f.initial;
  places = f.places;
}

pub initial-more : (w : Whole) (x : Initial) (b : Bound) → StartFits w x.start → BoundFits w b
    → BoundFits w (with_initial x b)
initial-more w x b fits f = record {
  drivers = f.drivers;
  clocked = f.clocked;
  once = f.once;
  roots = f.roots;
  declared = f.declared;
  initial = Every-push (λ (i : Initial). StartFits w i.start) b.initial x f.initial fits;
  places = f.places;
}

-- what only the rules want to know
pub read-more : (w : Whole) (reads : Bool) (span : Span) (b : Bound) → BoundFits w b
    → BoundFits w (with_clock_read reads span b)
read-more w reads span b f = record { drivers = f.drivers; clocked = f.clocked; once = f.once; roots = f.roots; declared = f.declared; initial = f.initial; places = f.places }

pub misclocked-more : (w : Whole) (breaks : Bool) (span : Span) (b : Bound) → BoundFits w b
    → BoundFits w (with_misclocked breaks span b)
misclocked-more w breaks span b f = record { drivers = f.drivers; clocked = f.clocked; once = f.once; roots = f.roots; declared = f.declared; initial = f.initial; places = f.places }

pub words-more : (w : Whole) (words : ℕ) (b : Bound) → BoundFits w b → BoundFits w (with_words words b)
words-more w words b f = record { drivers = f.drivers; clocked = f.clocked; once = f.once; roots = f.roots; declared = f.declared; initial = f.initial; places = f.places }

-- ---- drivers
-- a driver that is no place
pub driven-goes : (w : Whole) (f : Frame) (span : Span) (d : Driver) (b : Bound)
    → driver_fits w.signals w.places d ≡ true → ((p : ℕ) → times_in_driver p d ≡ 0)
    → Goes w b (driven f span d b)
driven-goes w f span d b fits none begins = record {
  front = begins;
  keeps = λ before. read-more w _ span (with_driver d b) (driver-more w b.places d b fits (λ p. omega (arith, none p)) (λ all. all) before);
}

-- a driver that is a place
pub driven_at-goes : (w : Whole) (f : Frame) (home : Home) (kind : PlaceKind) (site : Site) (copy : ℕ) (span : Span)
    (l : Left) (e : Typed) (b : Bound)
    → Assigns w.signals l e → Goes w b (driven_at f home kind site copy span l e b)
driven_at-goes w f home kind site copy span l e b assigns begins =
    let one = place kind home site copy l in
    let d = driver.Cont (record { parts = l.parts }) e (Some (length b.places)) span in
    record {
      front = begins-front b.places (one ∷ []) w.places begins;
      keeps = λ before. read-more w _ span (with_driver d (with_places (b.places ++ one ∷ []) b))
          (driver-more w (b.places ++ one ∷ []) d b
          (and_from _ _ (assignment-fits w.signals l e assigns) (place-fits w.signals w.places b.places kind home site copy l assigns.target begins))
          (λ p. below-push p b.places one) (λ all. list_all-push (λ (p : Place). is_width p.width) b.places one all assigns.target.width) before);
    }

-- The maps that drivers leave, one after another, show the values that are computed so.
use Rattle.std.proofs.Common.{◌≡◌, ℕ, ◌<◌, ◌≤◌, Bool, true, false, not, List, [], ◌∷◌, Option, Some, None, refl, sym, ◌∙◌, ap, subst, arith, ◌⊎◌, inl, inr}
use Rattle.std.specs.Prelude.{◌&&◌, ◌≢◌, nat_le, if◌then◌else◌, slice_get, Contains, AllPairs}
use Rattle.std.specs.Option.{option_map_or}
use Rattle.std.specs.List.{list_all}
use Rattle.std.proofs.Math.Path.{fun_ext}
use Rattle.std.proofs.lemmas.Bool.{and_parts, leb-true, cases_Bool}
use Rattle.loc_base.proofs.ShelfLists.{Contains-at}
use Rattle.design_core.specs.declared.signal.Signal.{Signal}
use Rattle.design_core.specs.declared.place.Place.{Place}
use Rattle.design_core.specs.declared.driver.Driver.{Driver}
use Rattle.design_core.specs.declared.driver.Driver.TheVariants.{Cont, Comb}
use Rattle.design_core.specs.declared.design.Design.{Design}
use Rattle.design_core.specs.Valuation.{Valuation, bit, number}
use Rattle.design_core.specs.Value.{value}
use Rattle.design_core.specs.Store.{parts_width, store}
use Rattle.design_core.specs.After.{Choice, assigned, after}
use Rattle.design_core.specs.Drives.{driver_drives}
use Rattle.design_core.specs.Cycle.{without, cont_assigned, driven}
use Rattle.design_core.specs.Steps.{with_driver, with_drivers}
use Rattle.design_core.specs.DrivenOnce.{IsDrivenOnce}
use Rattle.design_core.specs.WellFormed.{is_width, signal_fits, typed_fits, part_fits, place_fits, assignment_fits, driver_fits, IsWellFormed}
use Rattle.design_core.proofs.Lists.{Contains-first, Contains-later, AllPairs-first, AllPairs-later}
use Rattle.design_core.proofs.Widened.{list_all-member}
use Rattle.design_core.proofs.StoreOutside.{store-outside, after-leaves}
use Rattle.design_core.proofs.CycleExists.{with_driver-at, with_driver-other}
use Rattle.word_net.specs.declared.node.Operand.{Operand}
use Rattle.word_net.specs.declared.node.Operation.TheVariants as operation
use Rattle.word_net.specs.declared.node.WordNode.{WordNode}
use Rattle.word_net.specs.Values.{Source}
use Rattle.word_net.specs.Build.{Made, Means, Grown}
use Rattle.word_net.proofs.Meaning.{grown-then, grown-none, pushed-gives}
use Rattle.synth_parts.specs.Expression.{Prepared, unsigned, typed_made}
use Rattle.synth_parts.specs.Statement.{maps}
use Rattle.synth_parts.specs.Driver.{assigned_made, driver_made, driver_at_made, drivers_made}
use Rattle.synth_parts.specs.Meaning.{Shows, ShowsIn}
use Rattle.synth_parts.proofs.Base.{bit-number, keep-shows}
use Rattle.synth_parts.proofs.Expression.{expression-law}
use Rattle.synth_parts.proofs.MergeLaws.{shows-same}
use Rattle.synth_parts.proofs.StatementLaws.{assigned-law, statement-law}

-- ---- one driver

-- what is assigned is a word of at least the left side's width, with its bits
record Assigned (e : Source) (nodes : List WordNode) (p : Prepared) (width x : ℕ) : Type 0 where
  grown : Grown nodes p.nodes
  number_is : ℕ
  means : Means e p.nodes p.operand.node p.operand.width number_is
  wide : width ≤ p.operand.width
  same : (b : ℕ) → b < width → bit number_is b ≡ bit x b

assigned_word-law : {e : Source} {nodes : List WordNode} (places : List Place) (place : Option ℕ) (width v : ℕ) (computed : Operand) → is_width width ≡ true
    → width ≤ computed.width → Means e nodes computed.node computed.width v → Assigned e nodes (assigned_made nodes place width computed) width (cont_assigned e.choice place v)
unfolding assigned_made
assigned_word-law {e} {nodes} places None width v computed wide within m = record { grown = grown-none nodes; number_is = v; means = m; wide = within; same = λ b low. refl }
assigned_word-law {e} {nodes} places (Some place) width v computed wide within m =
    let x : ℕ = assigned e.choice place v in
    let f = pushed-gives e nodes width (operation.Free place computed) (number width (bit x)) wide (m.there, within) (ap (λ n. number width (bit (assigned e.choice place n))) m.is) in
    record { grown = f.grown; number_is = number width (bit x); means = f.means; wide = omega arith; same = λ b low. bit-number width (bit x) b low }

-- a driver whose own bits are 0
pub driver-law : {e : Source} {signals : List Signal} {nodes : List WordNode} {nodes_of : List ℕ} {W : Valuation} (places : List Place) (driver : Driver) → list_all signal_fits signals ≡ true
    → driver_fits signals places driver ≡ true → without signals driver W ≡ W → Shows e signals nodes nodes_of W
    → ShowsIn e signals nodes (driver_made signals nodes nodes_of driver) (driven signals e.choice W driver)
unfolding driver_made
driver-law {e} {signals} {nodes} {nodes_of} {W} places (Cont target computed place span) own fits quiet shows =
    let width : ℕ = parts_width signals target.parts in
    let all : Bool = list_all (part_fits signals) target.parts in
    let f = and_parts (assignment_fits signals target.parts computed) (option_map_or (place_fits places width) place true) fits in
    let g = and_parts (all && is_width width && typed_fits signals computed) (nat_le width computed.width) f.0 in
    let h = and_parts (all && is_width width) (typed_fits signals computed) g.0 in
    let k = and_parts all (is_width width) h.0 in
    let v = expression-law computed.width computed.signed computed.node own h.1 shows in
    let mv : Made = typed_made signals nodes_of nodes computed in
    let x : ℕ = cont_assigned e.choice place (value signals W computed) in
    let a = assigned_word-law places place width (value signals W computed) (unsigned mv.node computed.width) k.1 (leb-true width computed.width g.1) v.means in
    let ma : Prepared = assigned_made mv.nodes place width (unsigned mv.node computed.width) in
    let now = keep-shows (grown-then v.grown a.grown) shows in
    let s = assigned-law target.parts a.number_is ma.operand (bit x) own k.0 a.wide now now a.means a.same in
    record {
      grown = grown-then v.grown (grown-then a.grown s.grown);
      shows = subst (λ rest. Shows e signals (driver_made signals nodes nodes_of (Cont target computed place span)).nodes (driver_made signals nodes nodes_of (Cont target computed place span)).each (store signals rest rest target.parts (bit x))) (sym quiet) s.shows;
    }
driver-law {e} {signals} {nodes} {nodes_of} {W} places (Comb body span) own fits quiet shows =
    let all = statement-law places body (maps nodes nodes_of nodes_of) own fits (record { now = shows; later = shows }) in
    record {
      grown = all.grown;
      shows = subst (λ rest. Shows e signals (driver_made signals nodes nodes_of (Comb body span)).nodes (driver_made signals nodes nodes_of (Comb body span)).each (after signals e.choice body (record { now = rest; later = rest })).now) (sym quiet) all.shows.now;
    }

-- a driver gives nothing to bits that it doesn't drive
driven-outside : (signals : List Signal) (places : List Place) (choice : Choice) (W : Valuation) (driver : Driver) (s b : ℕ) → driver_fits signals places driver ≡ true
    → without signals driver W ≡ W → driver_drives signals s b driver ≡ false → driven signals choice W driver s b ≡ W s b
driven-outside signals places choice W (Cont target computed place span) s b fits quiet out =
    let width : ℕ = parts_width signals target.parts in
    let all : Bool = list_all (part_fits signals) target.parts in
    let rest : Valuation = without signals (Cont target computed place span) W in
    let f = and_parts (assignment_fits signals target.parts computed) (option_map_or (place_fits places width) place true) fits in
    let g = and_parts (all && is_width width && typed_fits signals computed) (nat_le width computed.width) f.0 in
    let h = and_parts (all && is_width width) (typed_fits signals computed) g.0 in
    store-outside signals rest rest target.parts (bit (cont_assigned choice place (value signals W computed))) s b (and_parts all (is_width width) h.0).0 out
    ∙ ap (λ V. V s b) quiet
driven-outside signals places choice W (Comb body span) s b fits quiet out =
    let rest : Valuation = without signals (Comb body span) W in
    (after-leaves signals places choice body (record { now = rest; later = rest }) s b fits out).now ∙ ap (λ V. V s b) quiet

-- ---- drivers in an order

-- a driver's bits are 0
abbrev pub IsQuiet : List Signal → Valuation → Driver → Type 0
IsQuiet signals W driver = (s b : ℕ) → driver_drives signals s b driver ≡ true → W s b ≡ false

quiet-without : (signals : List Signal) (W : Valuation) (driver : Driver) → IsQuiet signals W driver → without signals driver W ≡ W
quiet-without signals W driver quiet = fun_ext (λ s. fun_ext (λ b. at s b (driver_drives signals s b driver) refl))
  where
    at : (s b : ℕ) (t : Bool) → driver_drives signals s b driver ≡ t → (not (driver_drives signals s b driver) && W s b) ≡ W s b
    at s b true is = ap (λ t. not t && W s b) is ∙ sym (quiet s b is)
    at s b false is = ap (λ t. not t && W s b) is

driver_at-law : {e : Source} {nodes : List WordNode} {nodes_of : List ℕ} {W : Valuation} (d : Design) (i : ℕ) (o : Option Driver) → IsWellFormed d → slice_get d.drivers.items i ≡ o
    → ((driver : Driver) → slice_get d.drivers.items i ≡ Some driver → IsQuiet d.signals.items W driver) → Shows e d.signals.items nodes nodes_of W
    → ShowsIn e d.signals.items nodes (driver_at_made d.signals.items nodes nodes_of o) (with_driver d e.choice i W)
unfolding driver_at_made
driver_at-law {e} {nodes} {nodes_of} {W} d i None well at quiet shows =
    record { grown = grown-none nodes; shows = shows-same (with_driver d e.choice i W) (λ s b within. sym (with_driver-other d e.choice W i s b (λ driver is. absurd (none driver is)))) shows }
  where
    none : (driver : Driver) → slice_get d.drivers.items i ≡ Some driver → ⊥
    none driver is = let both : None ≡ Some driver = sym at ∙ is in absurd cc
driver_at-law {e} {nodes} {nodes_of} {W} d i (Some driver) well at quiet shows =
    let fits = list_all-member (driver_fits d.signals.items d.places.items) d.drivers.items driver well.drivers (Contains-at d.drivers.items i driver at) in
    let still = quiet-without d.signals.items W driver (quiet driver at) in
    let m = driver-law d.places.items driver well.signals fits still shows in
    record {
      grown = m.grown;
      shows = shows-same (with_driver d e.choice i W) (λ s b within. sym (with_driver-at d e.choice W i driver s b at ∙ given s b fits still (driver_drives d.signals.items s b driver) refl)) m.shows;
    }
  where
    given : (s b : ℕ) → driver_fits d.signals.items d.places.items driver ≡ true → without d.signals.items driver W ≡ W → (t : Bool) → driver_drives d.signals.items s b driver ≡ t
        → (if driver_drives d.signals.items s b driver then driven d.signals.items e.choice W driver s b else W s b) ≡ driven d.signals.items e.choice W driver s b
    given s b fits still true is = rw is refl
    given s b fits still false is = rw is (sym (driven-outside d.signals.items d.places.items e.choice W driver s b fits still is))

-- the drivers that are still to come
abbrev pub AreQuiet : Design → List ℕ → Valuation → Type 0
AreQuiet d order W = (i : ℕ) (driver : Driver) → Contains order i → slice_get d.drivers.items i ≡ Some driver → IsQuiet d.signals.items W driver

quiet-next : (d : Design) (choice : Choice) (i : ℕ) (order : List ℕ) (W : Valuation) → IsDrivenOnce d → AllPairs (λ i j. i ≢ j) (i ∷ order) → AreQuiet d (i ∷ order) W
    → AreQuiet d order (with_driver d choice i W)
quiet-next d choice i order W once distinct quiet j other member at_j s b drives =
    with_driver-other d choice W i s b (λ driver at_i. alone driver at_i (cases_Bool (driver_drives d.signals.items s b driver)))
    ∙ quiet j other (Contains-later i order j member) at_j s b drives
  where
    alone : (driver : Driver) → slice_get d.drivers.items i ≡ Some driver → (driver_drives d.signals.items s b driver ≡ true) ⊎ (driver_drives d.signals.items s b driver ≡ false)
        → driver_drives d.signals.items s b driver ≡ false
    alone driver at_i (inl too) = absurd (AllPairs-first (λ i j. i ≢ j) i order j distinct member (once.drivers i j driver other s b at_i at_j too drives))
    alone driver at_i (inr none) = none

pub drivers-law : {e : Source} (d : Design) (order : List ℕ) {nodes : List WordNode} {nodes_of : List ℕ} {W : Valuation} → IsWellFormed d → IsDrivenOnce d → AllPairs (λ i j. i ≢ j) order
    → AreQuiet d order W → Shows e d.signals.items nodes nodes_of W
    → ShowsIn e d.signals.items nodes (drivers_made d.signals.items d.drivers.items nodes nodes_of order) (with_drivers d e.choice order W)
unfolding drivers_made
drivers-law {e} d [] {nodes} well once distinct quiet shows = record { grown = grown-none nodes; shows = shows }
drivers-law {e} d (i ∷ order) {nodes} {nodes_of} {W} well once distinct quiet shows =
    let one = driver_at-law d i (slice_get d.drivers.items i) well refl (λ driver at. quiet i driver (Contains-first i order) at) shows in
    let rest = drivers-law d order well once (AllPairs-later (λ i j. i ≢ j) i order distinct) (quiet-next d e.choice i order W once distinct quiet) one.shows in
    record { grown = grown-then one.grown rest.grown; shows = rest.shows }

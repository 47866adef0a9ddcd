-- Drivers that were pushed: each gives its own bits.
use Rattle.std.proofs.Common.{◌≡◌, ℕ, List, [], ◌∷◌, length, sym, refl, ◌∙◌, ap, subst, Option}
use Rattle.std.specs.Prelude.{Bool, true, false, ◌&&◌, IsTrue, slice_get, slice_index_or, Some}
use Rattle.std.specs.Option.{option_map_or}
use Rattle.std.proofs.lemmas.Bool.{lt-ltb}
use Rattle.loc_base.specs.declared.span.Span.{Span}
use Rattle.design_core.specs.declared.place.Place.{Place}
use Rattle.design_core.specs.declared.expression.Typed.{Typed}
use Rattle.design_core.specs.declared.statement.Part.TheVariants.{Whole}
use Rattle.design_core.specs.declared.statement.Target.{Target}
use Rattle.design_core.specs.declared.statement.Stmt.{Stmt}
use Rattle.design_core.specs.declared.driver.Driver.{Driver}
use Rattle.design_core.specs.declared.driver.Driver.TheVariants.{Cont, Comb}
use Rattle.design_core.specs.declared.design.Design.{Design}
use Rattle.design_core.specs.Valuation.{Valuation}
use Rattle.design_core.specs.Constant.{zeros}
use Rattle.design_core.specs.After.{Choice, Updates, after}
use Rattle.design_core.specs.Drives.{driver_drives, is_driven}
use Rattle.design_core.specs.Store.{parts_width}
use Rattle.design_core.specs.WellFormed.{assignment_fits, place_fits, driver_fits, statement_fits}
use Rattle.plain_values.proofs.EvaluateStatement.{place-within}
use Rattle.plain_sim.specs.EvaluateCycle.{blended}
use Rattle.cycle_code.specs.Program.{Program, Grown, signals_of, count_of}
use Rattle.cycle_code.specs.Cells.{updates_in}
use Rattle.cycle_code.specs.Fitting.{is_place}
use Rattle.cycle_code.proofs.GrowthLaws.{Grown-trans}
use Rattle.cycle_compile.specs.Compiling.{Runs}
use Rattle.cycle_compile.proofs.Statements.{statement-fits-grown}
use Rattle.cycle_sim.specs.declared.mask.Mask.{Mask}
use Rattle.cycle_sim.specs.Masks.{covers, AreMasksFor, AreDriverMasks}
use Rattle.cycle_sim.specs.Compiled.{Pushes, none, now_in, later_in, cleared_now, whole_now, parts_now, driver_now, number_now}
use Rattle.cycle_sim.proofs.Driving.{cont-own, comb-own, comb-later, own-with, undriven-by}
use Rattle.cycle_sim.proofs.Pushing.{Pushes-on}
use Rattle.cycle_sim.proofs.Wholes.{whole-own}

-- the bits that a driver drives, in the signals of a program
abbrev pub drives_in : Program → Driver → ℕ → ℕ → Bool
drives_in p driver s b = driver_drives (signals_of p) s b driver

-- ---- by other words
-- the same words, where more bits of later updates may be changed
pub Pushes-as : (old new : Program) (now whole : Program → Choice → Valuation → Valuation) (one other : ℕ → ℕ → Bool)
    → ((p : Program) (choice : Choice) (V : Valuation) → Grown old p → now p choice V ≡ whole p choice V)
    → ((s b : ℕ) → other s b ≡ false → one s b ≡ false) → Pushes old new now one → Pushes old new whole other
Pushes-as old new now whole one other same off pushes = record {
  grown = pushes.grown;
  leaves = λ p choice V grown has.
      let left = pushes.leaves p choice V grown has in
      record {
        W = left.W;
        leads = left.leads;
        turned = record {
          now = left.turned.now ∙ same p choice V (Grown-trans old new p pushes.grown grown);
          later = λ s b quiet. left.turned.later s b (off s b quiet);
          keeps = left.turned.keeps;
        };
      };
}

-- what speaks of the signals alone stays as a program grows
masks-grown : (old p : Program) (masks : List Mask) (driver : Driver) → Grown old p
    → AreMasksFor (signals_of old) masks (drives_in old driver)
    → AreMasksFor (signals_of p) masks (drives_in p driver)
masks-grown old p masks driver grown m =
    subst (λ (d : Design). AreMasksFor d.signals.items masks (λ s b. driver_drives d.signals.items s b driver)) (sym grown.design) m

driver-fits-grown : (old p : Program) (driver : Driver) → Grown old p → driver_fits (signals_of old) old.design.places.items driver ≡ true
    → driver_fits (signals_of p) p.design.places.items driver ≡ true
driver-fits-grown old p driver grown fits = ap (λ (d : Design). driver_fits d.signals.items d.places.items driver) grown.design ∙ fits

drives-grown : (old p : Program) (driver : Driver) (s b : ℕ) → Grown old p → drives_in p driver s b ≡ drives_in old driver s b
drives-grown old p driver s b grown = ap (λ (d : Design). driver_drives d.signals.items s b driver) grown.design

-- the masks of a driver are those of its row
pub driver-masks : (e d : Design) (rows : List (List Mask)) (i : ℕ) (driver : Driver) (row : List Mask) → e ≡ d → AreDriverMasks d rows
    → slice_get d.drivers.items i ≡ Some driver → row ≡ slice_index_or rows i []
    → AreMasksFor e.signals.items row (λ s b. driver_drives e.signals.items s b driver)
driver-masks e d rows i driver row same masks at is =
    subst (λ (x : Design). AreMasksFor x.signals.items row (λ s b. driver_drives x.signals.items s b driver)) (sym same)
    (subst (λ (ms : List Mask). AreMasksFor d.signals.items ms (λ s b. driver_drives d.signals.items s b driver)) (sym is)
    (masks.each i driver at))

-- ---- a continuous assignment
-- its place is one of the design's
pub cont-place : (p : Program) (target : Target) (e : Typed) (place : Option ℕ) (span : Span)
    → driver_fits (signals_of p) p.design.places.items (Cont target e place span) ≡ true → (n : ℕ) → place ≡ Some n → IsTrue (is_place p n)
cont-place p target e place span fits n is =
    let places : List Place = p.design.places.items in
    let width : ℕ = parts_width (signals_of p) target.parts in
    let whole : Bool = assignment_fits (signals_of p) target.parts e in
    lt-ltb n (length places) (place-within places width n whole
    (sym (ap (λ o. whole && option_map_or (place_fits places width) o true) is) ∙ fits))

-- to a whole signal
pub driver-whole : (old new : Program) (target : Target) (e : Typed) (place : Option ℕ) (span : Span) (signal : ℕ)
    → target.parts ≡ Whole signal ∷ []
    → Pushes old new (whole_now signal place e) none
    → Pushes old new (driver_now (Cont target e place span)) (drives_in old (Cont target e place span))
driver-whole old new target e place span signal only pushes =
    Pushes-as old new (whole_now signal place e) (driver_now (Cont target e place span)) none (drives_in old (Cont target e place span))
    (λ p choice V grown. whole-own (signals_of p) choice target e place span (now_in p V)
    (whole_now signal place e p choice V) signal only refl)
    (λ s b off. refl) pushes

-- to any left side
pub driver-parts : (old new : Program) (target : Target) (e : Typed) (place : Option ℕ) (span : Span) (masks : List Mask)
    → AreMasksFor (signals_of old) masks (drives_in old (Cont target e place span))
    → driver_fits (signals_of old) old.design.places.items (Cont target e place span) ≡ true
    → Pushes old new (parts_now masks target.parts place e) none
    → Pushes old new (driver_now (Cont target e place span)) (drives_in old (Cont target e place span))
driver-parts old new target e place span masks are fits pushes =
    Pushes-as old new (parts_now masks target.parts place e) (driver_now (Cont target e place span)) none
    (drives_in old (Cont target e place span))
    (λ p choice V grown.
    cont-own (signals_of p) p.design.places.items choice target e place span masks (now_in p V) (blended (covers masks) zeros (now_in p V))
    (parts_now masks target.parts place e p choice V) (masks-grown old p masks (Cont target e place span) grown are)
    (driver-fits-grown old p (Cont target e place span) grown fits) refl refl)
    (λ s b off. refl) pushes

-- ---- a combinational block
-- the words that its body leaves to be read
abbrev pub body_now : Stmt → Program → Choice → Valuation → Valuation
body_now body p choice V = (after (signals_of p) choice body (updates_in (count_of p) V)).now

Pushes-body : (old new : Program) (body : Stmt) (span : Span)
    → statement_fits (signals_of old) old.design.places.items body ≡ true → Runs old new body
    → Pushes old new (body_now body) (drives_in old (Comb body span))
Pushes-body old new body span fits runs = record {
  grown = runs.grown;
  leaves = λ p choice V grown has.
      let left = runs.leaves p choice V grown has in
      let from : Grown old p = Grown-trans old new p runs.grown grown in
      record {
        W = left.W;
        leads = left.leads;
        turned = record {
          now = ap (λ (m : Updates). m.now) left.updates;
          later = λ s b off.
              comb-later (signals_of p) p.design.places.items choice body span (updates_in (count_of p) V) (later_in p left.W)
              (statement-fits-grown old p body from fits) (ap (λ (m : Updates). m.later) left.updates) s b
              (drives-grown old p (Comb body span) s b from ∙ off);
          keeps = left.keeps;
        };
      };
}

-- its own bits are put at 0 first
pub driver-comb : (old middle new : Program) (body : Stmt) (span : Span) (masks : List Mask)
    → AreMasksFor (signals_of old) masks (drives_in old (Comb body span))
    → statement_fits (signals_of old) old.design.places.items body ≡ true
    → Runs old middle body → Pushes middle new (cleared_now masks) none
    → Pushes old new (driver_now (Comb body span)) (drives_in old (Comb body span))
driver-comb old middle new body span masks are fits runs cleared =
    Pushes-on old middle new (cleared_now masks) (body_now body) (driver_now (Comb body span)) none
    (drives_in old (Comb body span)) (drives_in old (Comb body span))
    (Pushes-body old middle body span fits runs) cleared
    (λ p choice V W grown turned.
    let from : Grown old p = Grown-trans old middle p runs.grown (Grown-trans middle new p cleared.grown grown) in
    comb-own (signals_of p) p.design.places.items choice body span masks (now_in p V) (now_in p W) (later_in p W) (body_now body p choice W)
    (masks-grown old p masks (Comb body span) from are) (statement-fits-grown old p body from fits) turned.now refl)
    (λ s b off. (refl, off))

-- ---- by its number
pub driver-numbered : (old new : Program) (d : Design) (i : ℕ) (driver : Driver) → old.design ≡ d
    → slice_get d.drivers.items i ≡ Some driver
    → Pushes old new (driver_now driver) (drives_in old driver) → Pushes old new (number_now i) (is_driven d)
driver-numbered old new d i driver is at pushes =
    Pushes-as old new (driver_now driver) (number_now i) (drives_in old driver) (is_driven d)
    (λ p choice V grown.
    own-with p.design choice (now_in p V) (driver_now driver p choice V) i driver
    (ap (λ (x : Design). slice_get x.drivers.items i) (grown.design ∙ is) ∙ at) refl)
    (λ s b off. ap (λ (x : Design). driver_drives x.signals.items s b driver) is ∙ undriven-by d i s b driver at off) pushes

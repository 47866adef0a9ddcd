-- A driver of a well-formed design drives bits of its signals alone.
use Rattle.std.proofs.Common.{ℕ, zero, suc, ◌≡◌, ◌<◌, ◌≤◌, List, [], ◌∷◌, length, Bool, true, false, refl, sym, subst, arith, Some, None, ◌⊎◌, inl, inr}
use Rattle.std.specs.Prelude.{◌==◌, ◌&&◌, ◌||◌, nat_lt, nat_le, Option}
use Rattle.std.specs.Option.{option_map_or}
use Rattle.std.specs.List.{list_any, list_all}
use Rattle.std.proofs.lemmas.Bool.{false≢true, ltb-true, leb-true, and_parts, or_cases}
use Rattle.loc_base.proofs.ShelfBools.{equal-true}
use Rattle.design_core.specs.declared.signal.Signal.{Signal}
use Rattle.design_core.specs.declared.place.Place.{Place}
use Rattle.design_core.specs.declared.statement.Part.{Part}
use Rattle.design_core.specs.declared.statement.Part.TheVariants as part
use Rattle.design_core.specs.declared.statement.Stmt.{Stmt, Row_of-Stmt, end_of-Stmt, more_of-Stmt, Row_of-CaseItem, end_of-CaseItem, more_of-CaseItem}
use Rattle.design_core.specs.declared.statement.Stmt.TheVariants as stmt
use Rattle.design_core.specs.declared.driver.Driver.{Driver}
use Rattle.design_core.specs.declared.driver.Driver.TheVariants as driver
use Rattle.design_core.specs.declared.driver.Reset.{Reset}
use Rattle.design_core.specs.declared.driver.Clocked.{Clocked}
use Rattle.design_core.specs.declared.design.Design.{Design}
use Rattle.design_core.specs.declared.expression.Typed.{Typed}
use Rattle.loc_base.specs.Bits.{width_of}
use Rattle.design_core.specs.Valuation.{width_at, distance_of}
use Rattle.design_core.specs.Store.{parts_width}
use Rattle.design_core.specs.Pick.{may_pick}
use Rattle.design_core.specs.Drives.{is_among, part_drives, some_set, some_set_of, some_set_in, statement_drives, driver_drives, block_drives}
use Rattle.design_core.specs.WellFormed.{is_width, spans, signal_fits, typed_fits, part_fits, assignment_fits, place_fits, label_fits, statement_fits, statements_fit, items_fit, driver_fits, reset_fits, clocked_fits, is_reset_values}
use Rattle.design_core.proofs.ReadsWithin.{slice-below, may_pick-below}

named : (s signal : ℕ) (t : Bool) → ((s == signal) && t) ≡ true → (s ≡ signal) × (t ≡ true)
named s signal t h = let parts = and_parts (s == signal) t h in (equal-true s signal parts.0, parts.1)

part-below : (signals : List Signal) (s b : ℕ) (p : Part) → part_fits signals p ≡ true → part_drives signals s b p ≡ true → b < width_at signals s
part-below signals s b (part.Whole signal) fits drives =
    let own = named s signal (nat_lt b (width_at signals signal)) drives in
    subst (λ n. b < width_at signals n) (sym own.0) (ltb-true b (width_at signals signal) own.1)
part-below signals s b (part.Slice signal from width) fits drives =
    let own = named s signal (is_among from width b) drives in
    subst (λ n. b < width_at signals n) (sym own.0) (slice-below signals signal from width b fits own.1)
part-below signals s b (part.Pick signal index offsets) fits drives =
    let own = named s signal (may_pick signals signal index.width index.signed index.node offsets b) drives in
    subst (λ n. b < width_at signals n) (sym own.0) (may_pick-below signals signal index.width index.signed index.node offsets b own.1)
part-below signals s b (part.Word first count low index from width) fits drives =
    ltb-true b (width_at signals s) (and_parts (is_among first count s) (nat_lt b (width_at signals s)) drives).1

parts-below : (signals : List Signal) (s b : ℕ) (parts : List Part) → list_all (part_fits signals) parts ≡ true → list_any (part_drives signals s b) parts ≡ true → b < width_at signals s
parts-below signals s b [] fits drives = absurd (false≢true drives)
parts-below signals s b (p ∷ parts) fits drives =
    let both = and_parts (part_fits signals p) (list_all (part_fits signals) parts) fits in
    at both.0 (or_cases (part_drives signals s b p) (list_any (part_drives signals s b) parts) drives) (λ later. parts-below signals s b parts both.1 later)
  where
    at : part_fits signals p ≡ true → (part_drives signals s b p ≡ true) ⊎ (list_any (part_drives signals s b) parts ≡ true)
        → (list_any (part_drives signals s b) parts ≡ true → b < width_at signals s) → b < width_at signals s
    at fit (inl here) rest = part-below signals s b p fit here
    at fit (inr later) rest = rest later

-- one of two that pass
either : (x y : Bool) (G : Type 0) → (x || y) ≡ true → (x ≡ true → G) → (y ≡ true → G) → G
either true y G h f g = f refl
either false y G h f g = g h

first_of_four : (a b c d : Bool) → (a && b && c && d) ≡ true → a ≡ true
first_of_four true b c d h = refl
first_of_four false b c d h = h

assigned-below : (signals : List Signal) (s b : ℕ) (parts : List Part) (value : Typed) → assignment_fits signals parts value ≡ true → list_any (part_drives signals s b) parts ≡ true
    → b < width_at signals s
assigned-below signals s b parts value fits drives =
    parts-below signals s b parts
    (first_of_four (list_all (part_fits signals) parts) (is_width (parts_width signals parts)) (typed_fits signals value) (nat_le (parts_width signals parts) value.width) fits) drives

two_of : (a b : Bool) → (a && b) ≡ true → (a ≡ true) × (b ≡ true)
two_of a b h = and_parts a b h

last_two : (a b c : Bool) → (a && b && c) ≡ true → (b ≡ true) × (c ≡ true)
last_two true b c h = and_parts b c h
last_two false b c h = absurd (false≢true h)

-- the test of what a statement drives
abbrev drives_at : List Signal → ℕ → ℕ → List Part → Bool → Bool
drives_at signals s b parts later = list_any (part_drives signals s b) parts

mutual
  pub statement-below : (signals : List Signal) (places : List Place) (s b : ℕ) (st : Stmt) → statement_fits signals places st ≡ true
      → some_set (drives_at signals s b) st ≡ true → b < width_at signals s
  statement-below signals places s b stmt.Nothing fits drives = absurd (false≢true drives)
  statement-below signals places s b (stmt.Block' _ statements) fits drives = statements-below signals places s b statements fits drives
  statement-below signals places s b (stmt.If' e _ (more_of-Stmt on_true end_of-Stmt) _ (more_of-Stmt on_false end_of-Stmt)) fits drives =
      let fit = last_two (typed_fits signals e) (statement_fits signals places on_true) (statement_fits signals places on_false) fits in
      either (some_set (drives_at signals s b) on_true) (some_set (drives_at signals s b) on_false) (b < width_at signals s) drives
      (λ one. statement-below signals places s b on_true fit.0 one)
      (λ other. statement-below signals places s b on_false fit.1 other)
  statement-below signals places s b (stmt.Case' subject _ items _ (more_of-Stmt other end_of-Stmt) _) fits drives =
      let fit = last_two (typed_fits signals subject) (items_fit signals places subject.width items) (statement_fits signals places other) fits in
      either (some_set_in (drives_at signals s b) items) (some_set (drives_at signals s b) other) (b < width_at signals s) drives
      (λ one. items-below signals places subject.width s b items fit.0 one)
      (λ last. statement-below signals places s b other fit.1 last)
  statement-below signals places s b (stmt.Set place target value later) fits drives =
      assigned-below signals s b target.parts value
      (two_of (assignment_fits signals target.parts value) (place_fits places (parts_width signals target.parts) place) fits).0 drives

  statements-below : {shape : _} (signals : List Signal) (places : List Place) (s b : ℕ) (row : Row_of-Stmt shape) → statements_fit signals places row ≡ true
      → some_set_of (drives_at signals s b) row ≡ true → b < width_at signals s
  statements-below signals places s b end_of-Stmt fits drives = absurd (false≢true drives)
  statements-below signals places s b (more_of-Stmt statement rest) fits drives =
      let fit = two_of (statement_fits signals places statement) (statements_fit signals places rest) fits in
      either (some_set (drives_at signals s b) statement) (some_set_of (drives_at signals s b) rest) (b < width_at signals s) drives
      (λ one. statement-below signals places s b statement fit.0 one)
      (λ later. statements-below signals places s b rest fit.1 later)

  items-below : {shape : _} (signals : List Signal) (places : List Place) (width s b : ℕ) (row : Row_of-CaseItem shape) → items_fit signals places width row ≡ true
      → some_set_in (drives_at signals s b) row ≡ true → b < width_at signals s
  items-below signals places width s b end_of-CaseItem fits drives = absurd (false≢true drives)
  items-below signals places width s b (more_of-CaseItem labels body rest) fits drives =
      let fit = last_two (list_all (label_fits signals width) labels) (statement_fits signals places body) (items_fit signals places width rest) fits in
      either (some_set (drives_at signals s b) body) (some_set_in (drives_at signals s b) rest) (b < width_at signals s) drives
      (λ one. statement-below signals places s b body fit.0 one)
      (λ later. items-below signals places width s b rest fit.1 later)

pub driver-below : (signals : List Signal) (places : List Place) (s b : ℕ) (x : Driver) → driver_fits signals places x ≡ true → driver_drives signals s b x ≡ true → b < width_at signals s
driver-below signals places s b (driver.Cont target value place span) fits drives =
    assigned-below signals s b target.parts value
    (two_of (assignment_fits signals target.parts value) (option_map_or (place_fits places (parts_width signals target.parts)) place true) fits).0 drives
driver-below signals places s b (driver.Comb body span) fits drives = statement-below signals places s b body fits drives

four_last : (a b c d : Bool) → (a && b && c && d) ≡ true → d ≡ true
four_last a b c d h = (and_parts (a && b && c) d h).1

reset-below : (d : Design) (s b : ℕ) (o : Option Reset) → option_map_or (reset_fits d) o true ≡ true
    → option_map_or (λ r. statement_drives d.signals.items s b r.values) o false ≡ true → b < width_at d.signals.items s
reset-below d s b None fits drives = absurd (false≢true drives)
reset-below d s b (Some r) fits drives =
    let fit = four_last (list_any (λ input. input == r.signal) d.inputs.items) (width_at d.signals.items r.signal == 1) (is_reset_values r.values) (statement_fits d.signals.items d.places.items r.values) fits in
    statement-below d.signals.items d.places.items s b r.values fit drives

pub block-below : (d : Design) (s b : ℕ) (x : Clocked) → clocked_fits d x ≡ true → block_drives d.signals.items s b x ≡ true → b < width_at d.signals.items s
block-below d s b x fits drives =
    let fit = two_of (statement_fits d.signals.items d.places.items x.body) (option_map_or (reset_fits d) x.reset true) fits in
    either (statement_drives d.signals.items s b x.body) (option_map_or (λ r. statement_drives d.signals.items s b r.values) x.reset false) (b < width_at d.signals.items s) drives
    (λ one. statement-below d.signals.items d.places.items s b x.body fit.0 one)
    (λ other. reset-below d s b x.reset fit.1 other)

-- a bit of a signal is one of at most 128
pub width-within : (signals : List Signal) (k p : ℕ) → list_all signal_fits signals ≡ true → p < width_at signals k → (k < length signals) × (p < 128)
width-within [] k p fits below = absurd (omega (arith, below))
width-within (s ∷ signals) zero p fits below =
    let own = and_parts (signal_fits s) (list_all signal_fits signals) fits in
    let front = and_parts (is_width s.width && spans s.width (distance_of s.left s.right s.left)) (width_of s.start == s.width) own.0 in
    let width = and_parts (is_width s.width) (spans s.width (distance_of s.left s.right s.left)) front.0 in
    let both = and_parts (nat_le 1 s.width) (nat_le s.width 128) width.0 in
    (omega arith, omega (arith, below, leb-true s.width 128 both.1))
width-within (s ∷ signals) (suc k) p fits below =
    let rest = width-within signals k p (and_parts (signal_fits s) (list_all signal_fits signals) fits).1 below in
    (omega (arith, rest.0), rest.1)

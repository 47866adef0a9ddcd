-- An entry of a well-formed design reads bits of its signals alone.
use Rattle.std.proofs.Common.{ℕ, ◌≡◌, ◌<◌, List, length, Bool, true, false, refl, ◌∙◌, ap, arith, Some, None}
use Rattle.std.specs.Prelude.{◌==◌, ◌&&◌, ◌||◌, nat_le, Option}
use Rattle.std.specs.Option.{option_map_or}
use Rattle.std.specs.List.{list_any, list_all}
use Rattle.std.proofs.lemmas.Bool.{false≢true, and_parts}
use Rattle.loc_base.proofs.ShelfBools.{equal-true}
use Rattle.loc_base.proofs.ShelfLists.{list_any-found, list_all-member}
use Rattle.design_core.specs.declared.signal.Signal.{Signal}
use Rattle.design_core.specs.declared.place.Place.{Place}
use Rattle.design_core.specs.declared.statement.Part.{Part}
use Rattle.design_core.specs.declared.statement.Part.TheVariants as part
use Rattle.design_core.specs.declared.statement.Label.{Label}
use Rattle.design_core.specs.declared.statement.Stmt.{Stmt, Row_of-Stmt, end_of-Stmt, more_of-Stmt, Row_of-CaseItem, end_of-CaseItem, more_of-CaseItem}
use Rattle.design_core.specs.declared.statement.Stmt.TheVariants as stmt
use Rattle.design_core.specs.declared.driver.Driver.{Driver}
use Rattle.design_core.specs.declared.driver.Driver.TheVariants as driver
use Rattle.design_core.specs.declared.driver.Reset.{Reset}
use Rattle.design_core.specs.declared.driver.Clocked.{Clocked}
use Rattle.design_core.specs.declared.design.Design.{Design}
use Rattle.design_core.specs.declared.expression.Typed.{Typed}
use Rattle.loc_base.specs.Bits.{width_of}
use Rattle.design_core.specs.Valuation.{width_at}
use Rattle.design_core.specs.Store.{parts_width}
use Rattle.design_core.specs.Reads.{reads, part_reads}
use Rattle.design_core.specs.Mentions.{statement_mentions, statements_mention, items_mention, driver_mentions, reset_mentions, block_mentions}
use Rattle.design_core.specs.WellFormed.{is_width, is_signal, words_fit, typed_fits, part_fits, assignment_fits, place_fits, label_fits, statement_fits, statements_fit, items_fit, driver_fits, reset_fits, clocked_fits, is_reset_values}
use Rattle.design_core.proofs.ReadsWithin.{reads-below}

-- one of two that pass
either : (x y : Bool) (G : Type 0) → (x || y) ≡ true → (x ≡ true → G) → (y ≡ true → G) → G
either true y G h f g = f refl
either false y G h f g = g h

part-below : (signals : List Signal) (s b : ℕ) (p : Part) → part_fits signals p ≡ true → part_reads signals s b p ≡ true → b < width_at signals s
part-below signals s b (part.Whole signal) fits read = absurd (false≢true read)
part-below signals s b (part.Slice signal from width) fits read = absurd (false≢true read)
part-below signals s b (part.Pick signal index offsets) fits read =
    reads-below signals s b index (and_parts (is_signal signals signal && is_width (length offsets)) (typed_fits signals index) fits).1 read
part-below signals s b (part.Word first count low index from width) fits read =
    reads-below signals s b index (and_parts (words_fit signals first count from width) (typed_fits signals index) fits).1 read

parts-below : (signals : List Signal) (s b : ℕ) (parts : List Part) → list_all (part_fits signals) parts ≡ true → list_any (part_reads signals s b) parts ≡ true → b < width_at signals s
parts-below signals s b parts fits read =
    let found = list_any-found (part_reads signals s b) parts read in
    part-below signals s b found.0 (list_all-member (part_fits signals) parts found.0 fits found.1) found.2

assigned-below : (signals : List Signal) (s b : ℕ) (parts : List Part) (value : Typed) → assignment_fits signals parts value ≡ true
    → (reads signals s b value || list_any (part_reads signals s b) parts) ≡ true → b < width_at signals s
assigned-below signals s b parts value fits read =
    let three = and_parts (list_all (part_fits signals) parts && is_width (parts_width signals parts) && typed_fits signals value) (nat_le (parts_width signals parts) value.width) fits in
    let two = and_parts (list_all (part_fits signals) parts && is_width (parts_width signals parts)) (typed_fits signals value) three.0 in
    let one = and_parts (list_all (part_fits signals) parts) (is_width (parts_width signals parts)) two.0 in
    either (reads signals s b value) (list_any (part_reads signals s b) parts) (b < width_at signals s) read
    (λ h. reads-below signals s b value two.1 h) (λ h. parts-below signals s b parts one.0 h)

label-fit : (signals : List Signal) (width : ℕ) (label : Label) → label_fits signals width label ≡ true → typed_fits signals label.value ≡ true
label-fit signals width label fits =
    (and_parts (typed_fits signals label.value) (label.value.width == width) (and_parts (typed_fits signals label.value && (label.value.width == width)) (width_of label.wild == width) fits).0).0

labels-below : (signals : List Signal) (width s b : ℕ) (labels : List Label) → list_all (label_fits signals width) labels ≡ true → list_any (λ label. reads signals s b label.value) labels ≡ true
    → b < width_at signals s
labels-below signals width s b labels fits read =
    let found = list_any-found (λ (label : Label). reads signals s b label.value) labels read in
    reads-below signals s b found.0.value (label-fit signals width found.0 (list_all-member (label_fits signals width) labels found.0 fits found.1)) found.2

three_of : (a b c : Bool) → (a && b && c) ≡ true → (a ≡ true) × (b ≡ true) × (c ≡ true)
three_of a b c h = let front = and_parts (a && b) c h in let two = and_parts a b front.0 in (two.0, two.1, front.1)

mutual
  pub statement-below : (signals : List Signal) (places : List Place) (s b : ℕ) (st : Stmt) → statement_fits signals places st ≡ true
      → statement_mentions signals s b st ≡ true → b < width_at signals s
  statement-below signals places s b stmt.Nothing fits read = absurd (false≢true read)
  statement-below signals places s b (stmt.Block' _ statements) fits read = statements-below signals places s b statements fits read
  statement-below signals places s b (stmt.If' e _ (more_of-Stmt on_true end_of-Stmt) _ (more_of-Stmt on_false end_of-Stmt)) fits read =
      let fit = three_of (typed_fits signals e) (statement_fits signals places on_true) (statement_fits signals places on_false) fits in
      either (reads signals s b e) (statement_mentions signals s b on_true || statement_mentions signals s b on_false) (b < width_at signals s) read
      (λ h. reads-below signals s b e fit.0 h)
      (λ rest.
      either (statement_mentions signals s b on_true) (statement_mentions signals s b on_false) (b < width_at signals s) rest
      (λ h. statement-below signals places s b on_true fit.1 h) (λ h. statement-below signals places s b on_false fit.2 h))
  statement-below signals places s b (stmt.Case' subject _ items _ (more_of-Stmt other end_of-Stmt) _) fits read =
      let fit = three_of (typed_fits signals subject) (items_fit signals places subject.width items) (statement_fits signals places other) fits in
      either (reads signals s b subject) (items_mention signals s b items || statement_mentions signals s b other) (b < width_at signals s) read
      (λ h. reads-below signals s b subject fit.0 h)
      (λ rest.
      either (items_mention signals s b items) (statement_mentions signals s b other) (b < width_at signals s) rest
      (λ h. items-below signals places subject.width s b items fit.1 h) (λ h. statement-below signals places s b other fit.2 h))
  statement-below signals places s b (stmt.Set place target value later) fits read =
      assigned-below signals s b target.parts value (and_parts (assignment_fits signals target.parts value) (place_fits places (parts_width signals target.parts) place) fits).0 read

  statements-below : {shape : _} (signals : List Signal) (places : List Place) (s b : ℕ) (row : Row_of-Stmt shape) → statements_fit signals places row ≡ true
      → statements_mention signals s b row ≡ true → b < width_at signals s
  statements-below signals places s b end_of-Stmt fits read = absurd (false≢true read)
  statements-below signals places s b (more_of-Stmt statement rest) fits read =
      let fit = and_parts (statement_fits signals places statement) (statements_fit signals places rest) fits in
      either (statement_mentions signals s b statement) (statements_mention signals s b rest) (b < width_at signals s) read
      (λ h. statement-below signals places s b statement fit.0 h) (λ h. statements-below signals places s b rest fit.1 h)

  items-below : {shape : _} (signals : List Signal) (places : List Place) (width s b : ℕ) (row : Row_of-CaseItem shape) → items_fit signals places width row ≡ true
      → items_mention signals s b row ≡ true → b < width_at signals s
  items-below signals places width s b end_of-CaseItem fits read = absurd (false≢true read)
  items-below signals places width s b (more_of-CaseItem labels body rest) fits read =
      let fit = three_of (list_all (label_fits signals width) labels) (statement_fits signals places body) (items_fit signals places width rest) fits in
      either (list_any (λ label. reads signals s b label.value) labels) (statement_mentions signals s b body || items_mention signals s b rest) (b < width_at signals s) read
      (λ h. labels-below signals width s b labels fit.0 h)
      (λ later.
      either (statement_mentions signals s b body) (items_mention signals s b rest) (b < width_at signals s) later
      (λ h. statement-below signals places s b body fit.1 h) (λ h. items-below signals places width s b rest fit.2 h))

pub driver-reads-below : (signals : List Signal) (places : List Place) (s b : ℕ) (x : Driver) → driver_fits signals places x ≡ true → driver_mentions signals s b x ≡ true → b < width_at signals s
driver-reads-below signals places s b (driver.Cont target value place span) fits read =
    assigned-below signals s b target.parts value
    (and_parts (assignment_fits signals target.parts value) (option_map_or (place_fits places (parts_width signals target.parts)) place true) fits).0 read
driver-reads-below signals places s b (driver.Comb body span) fits read = statement-below signals places s b body fits read

four_of : (a b c d : Bool) → (a && b && c && d) ≡ true → (b ≡ true) × (d ≡ true)
four_of a b c d h =
    let front = and_parts (a && b && c) d h in
    let two = and_parts (a && b) c front.0 in ((and_parts a b two.0).1, front.1)

reset-below : (d : Design) (s b : ℕ) (o : Option Reset) → option_map_or (reset_fits d) o true ≡ true → option_map_or (reset_mentions d.signals.items s b) o false ≡ true → b < width_at d.signals.items s
reset-below d s b None fits read = absurd (false≢true read)
reset-below d s b (Some r) fits read =
    let fit = four_of (list_any (λ input. input == r.signal) d.inputs.items) (width_at d.signals.items r.signal == 1) (is_reset_values r.values) (statement_fits d.signals.items d.places.items r.values) fits in
    either ((s == r.signal) && (b == 0)) (statement_mentions d.signals.items s b r.values) (b < width_at d.signals.items s) read
    (λ h.
    let own = and_parts (s == r.signal) (b == 0) h in
    let same : width_at d.signals.items s ≡ 1 = ap (width_at d.signals.items) (equal-true s r.signal own.0) ∙ equal-true (width_at d.signals.items r.signal) 1 fit.0 in
    let zero_bit : b ≡ 0 = equal-true b 0 own.1 in
    omega (arith, same, zero_bit))
    (λ h. statement-below d.signals.items d.places.items s b r.values fit.1 h)

pub block-reads-below : (d : Design) (s b : ℕ) (x : Clocked) → clocked_fits d x ≡ true → block_mentions d.signals.items s b x ≡ true → b < width_at d.signals.items s
block-reads-below d s b x fits read =
    let fit = and_parts (statement_fits d.signals.items d.places.items x.body) (option_map_or (reset_fits d) x.reset true) fits in
    either (statement_mentions d.signals.items s b x.body) (option_map_or (reset_mentions d.signals.items s b) x.reset false) (b < width_at d.signals.items s) read
    (λ h. statement-below d.signals.items d.places.items s b x.body fit.0 h) (λ h. reset-below d s b x.reset fit.1 h)

-- An expression, and a left side by its indexes, reads the bits that it reads without the signals behind a design's own, and of these none.
use Rattle.std.proofs.Common.{ℕ, ◌+◌, ◌*◌, ◌≡◌, ◌<◌, ◌≤◌, Bool, true, false, ◌&&◌, ◌||◌, List, [], ◌∷◌, ◌++◌, length, refl, ap, arith}
use Rattle.std.specs.Prelude.{◌==◌, nat_le, nat_lt}
use Rattle.std.specs.List.{list_any, list_all}
use Rattle.std.proofs.lemmas.Bool.{and_parts, and_left, and_right, le-ltb}
use Rattle.design_core.specs.declared.signal.Signal.{Signal}
use Rattle.design_core.specs.declared.expression.Typed.{Typed}
use Rattle.design_core.specs.declared.expression.Node.{Node, Row_of-Typed, end_of-Typed, more_of-Typed}
use Rattle.design_core.specs.declared.expression.Node.TheVariants as node
use Rattle.design_core.specs.declared.statement.Part.{Part}
use Rattle.design_core.specs.declared.statement.Part.TheVariants as part
use Rattle.design_core.specs.Valuation.{width_at}
use Rattle.design_core.specs.Pick.{may_pick}
use Rattle.design_core.specs.Drives.{is_among}
use Rattle.design_core.specs.Reads.{node_reads, parts_read, reads, part_reads}
use Rattle.design_core.specs.WellFormed.{is_signal, is_width, slice_fits, words_fit, unary_fits, binary_fits, signs_fit, same_widths, joined_width, node_fits, parts_fit, typed_fits, part_fits, assignment_fits}
use Rattle.freed_conditions.proofs.SignalsMore.{signal-below}
use Rattle.freed_conditions.proofs.ValueAlike.{slice-below, words-below}
use Rattle.freed_conditions.proofs.DriversFreed.{assignment-parts}
use Rattle.freed_conditions.proofs.DrivesFreed.{or_alike, another, may_pick-more}

-- the signal of a part by an index, and the signals of a word of an array, are the design's
pick-below : (signals : List Signal) (s width count : ℕ) (rest : Bool) → (is_width width && is_signal signals s && count == width && rest) ≡ true → s < length signals
pick-below signals s width count rest fits =
    let front = and_parts (is_width width && is_signal signals s && count == width) rest fits in
    let own = and_parts (is_width width && is_signal signals s) (count == width) front.0 in
    signal-below signals s (and_parts (is_width width) (is_signal signals s) own.0).1

-- ---- the bits that an expression reads
mutual
  pub node_reads-more : (signals hidden : List Signal) (s b width : ℕ) (signed : Bool) (e : Node) → node_fits signals width signed e ≡ true
      → node_reads (signals ++ hidden) s b width e ≡ node_reads signals s b width e
  node_reads-more signals hidden s b width signed (node.Const _) fits = refl
  node_reads-more signals hidden s b width signed (node.Whole signal) fits = refl
  node_reads-more signals hidden s b width signed (node.Slice signal from size) fits = refl
  node_reads-more signals hidden s b width signed (node.Pick' signal _ (more_of-Typed index_width index_signed index end_of-Typed) offsets) fits =
      let below = pick-below signals signal width (length offsets) (node_fits signals index_width index_signed index) fits in
      let fit = and_parts (is_width width && is_signal signals signal && length offsets == width) (node_fits signals index_width index_signed index) fits in
      or_alike (s == signal && may_pick (signals ++ hidden) signal index_width index_signed index offsets b) (s == signal && may_pick signals signal index_width index_signed index offsets b)
      (node_reads (signals ++ hidden) s b index_width index) (node_reads signals s b index_width index)
      (ap (λ x. s == signal && x) (may_pick-more signals hidden signal index_width index_signed index offsets b below))
      (node_reads-more signals hidden s b index_width index_signed index fit.1)
  node_reads-more signals hidden s b width signed (node.Word' first count low _ (more_of-Typed index_width index_signed index end_of-Typed) from size) fits =
      let fit = and_parts (words_fit signals first count from size && size == width) (node_fits signals index_width index_signed index) fits in
      ap (λ x. (is_among first count s && is_among from size b) || x) (node_reads-more signals hidden s b index_width index_signed index fit.1)
  node_reads-more signals hidden s b width signed (node.Unary' op _ (more_of-Typed arg_width arg_signed arg end_of-Typed)) fits =
      let fit = and_parts (is_width width && unary_fits op width arg_width) (node_fits signals arg_width arg_signed arg) fits in
      node_reads-more signals hidden s b arg_width arg_signed arg fit.1
  node_reads-more signals hidden s b width signed (node.Binary' op _ (more_of-Typed left_width left_signed left end_of-Typed) _ (more_of-Typed right_width right_signed right end_of-Typed)) fits =
      let fit = and_parts (is_width width && binary_fits op width left_width right_width && signs_fit op signed left_signed right_signed && node_fits signals left_width left_signed left)
      (node_fits signals right_width right_signed right) fits in
      let front = and_parts (is_width width && binary_fits op width left_width right_width && signs_fit op signed left_signed right_signed) (node_fits signals left_width left_signed left) fit.0 in
      or_alike (node_reads (signals ++ hidden) s b left_width left) (node_reads signals s b left_width left)
      (node_reads (signals ++ hidden) s b right_width right) (node_reads signals s b right_width right)
      (node_reads-more signals hidden s b left_width left_signed left front.1) (node_reads-more signals hidden s b right_width right_signed right fit.1)
  node_reads-more signals hidden s b width signed (node.Choose' _ (more_of-Typed cond_width cond_signed cond end_of-Typed) _ (more_of-Typed true_width true_signed on_true end_of-Typed) _ (more_of-Typed false_width false_signed on_false end_of-Typed)) fits =
      let fit = and_parts (same_widths width true_width false_width && node_fits signals cond_width cond_signed cond && node_fits signals true_width true_signed on_true)
      (node_fits signals false_width false_signed on_false) fits in
      let front = and_parts (same_widths width true_width false_width && node_fits signals cond_width cond_signed cond) (node_fits signals true_width true_signed on_true) fit.0 in
      let test = and_parts (same_widths width true_width false_width) (node_fits signals cond_width cond_signed cond) front.0 in
      let more : List Signal = signals ++ hidden in
      or_alike (node_reads more s b cond_width cond) (node_reads signals s b cond_width cond)
      (node_reads more s b true_width on_true || node_reads more s b false_width on_false) (node_reads signals s b true_width on_true || node_reads signals s b false_width on_false)
      (node_reads-more signals hidden s b cond_width cond_signed cond test.1)
      (or_alike (node_reads more s b true_width on_true) (node_reads signals s b true_width on_true)
      (node_reads more s b false_width on_false) (node_reads signals s b false_width on_false)
      (node_reads-more signals hidden s b true_width true_signed on_true front.1) (node_reads-more signals hidden s b false_width false_signed on_false fit.1))
  node_reads-more signals hidden s b width signed (node.Join' _ parts) fits =
      parts_read-more signals hidden s b parts (and_parts (is_width width && joined_width parts == width) (parts_fit signals parts) fits).1
  node_reads-more signals hidden s b width signed (node.Repeat' times _ (more_of-Typed part_width part_signed p end_of-Typed)) fits =
      node_reads-more signals hidden s b part_width part_signed p (and_parts (is_width width && times * part_width == width) (node_fits signals part_width part_signed p) fits).1
  node_reads-more signals hidden s b width signed (node.Resize' _ (more_of-Typed arg_width arg_signed arg end_of-Typed)) fits =
      node_reads-more signals hidden s b arg_width arg_signed arg (and_parts (is_width width) (node_fits signals arg_width arg_signed arg) fits).1

  parts_read-more : {shape : _} (signals hidden : List Signal) (s b : ℕ) (parts : Row_of-Typed shape) → parts_fit signals parts ≡ true
      → parts_read (signals ++ hidden) s b parts ≡ parts_read signals s b parts
  parts_read-more signals hidden s b end_of-Typed fits = refl
  parts_read-more signals hidden s b (more_of-Typed width signed e rest) fits =
      let fit = and_parts (node_fits signals width signed e) (parts_fit signals rest) fits in
      or_alike (node_reads (signals ++ hidden) s b width e) (node_reads signals s b width e) (parts_read (signals ++ hidden) s b rest) (parts_read signals s b rest)
      (node_reads-more signals hidden s b width signed e fit.0) (parts_read-more signals hidden s b rest fit.1)

-- an expression over a design's signals reads none behind them
mutual
  pub node_reads-none : (signals hidden : List Signal) (s b width : ℕ) (signed : Bool) (e : Node) → node_fits signals width signed e ≡ true
      → length signals ≤ s → node_reads (signals ++ hidden) s b width e ≡ false
  node_reads-none signals hidden s b width signed (node.Const _) fits above = refl
  node_reads-none signals hidden s b width signed (node.Whole signal) fits above =
      let front = and_parts (is_width width && is_signal signals signal) (width_at signals signal == width) fits in
      let own : signal < length signals = signal-below signals signal (and_parts (is_width width) (is_signal signals signal) front.0).1 in
      another s signal (nat_lt b width) (λ here. absurd (omega arith))
  node_reads-none signals hidden s b width signed (node.Slice signal from size) fits above =
      let own : signal < length signals = slice-below signals signal from size (and_parts (slice_fits signals signal from size) (size == width) fits).0 in
      another s signal (is_among from size b) (λ here. absurd (omega arith))
  node_reads-none signals hidden s b width signed (node.Pick' signal _ (more_of-Typed index_width index_signed index end_of-Typed) offsets) fits above =
      let own : signal < length signals = pick-below signals signal width (length offsets) (node_fits signals index_width index_signed index) fits in
      let fit = and_parts (is_width width && is_signal signals signal && length offsets == width) (node_fits signals index_width index_signed index) fits in
      or_alike (s == signal && may_pick (signals ++ hidden) signal index_width index_signed index offsets b) false (node_reads (signals ++ hidden) s b index_width index) false
      (another s signal (may_pick (signals ++ hidden) signal index_width index_signed index offsets b) (λ here. absurd (omega arith)))
      (node_reads-none signals hidden s b index_width index_signed index fit.1 above)
  node_reads-none signals hidden s b width signed (node.Word' first count low _ (more_of-Typed index_width index_signed index end_of-Typed) from size) fits above =
      let fit = and_parts (words_fit signals first count from size && size == width) (node_fits signals index_width index_signed index) fits in
      let within : first + count ≤ length signals = words-below signals first count from size (and_parts (words_fit signals first count from size) (size == width) fit.0).0 in
      or_alike (is_among first count s && is_among from size b) false (node_reads (signals ++ hidden) s b index_width index) false
      (and_left (is_among first count s) (is_among from size b) (and_right (nat_le first s) (nat_lt s (first + count)) (le-ltb s (first + count) (omega arith))))
      (node_reads-none signals hidden s b index_width index_signed index fit.1 above)
  node_reads-none signals hidden s b width signed (node.Unary' op _ (more_of-Typed arg_width arg_signed arg end_of-Typed)) fits above =
      let fit = and_parts (is_width width && unary_fits op width arg_width) (node_fits signals arg_width arg_signed arg) fits in
      node_reads-none signals hidden s b arg_width arg_signed arg fit.1 above
  node_reads-none signals hidden s b width signed (node.Binary' op _ (more_of-Typed left_width left_signed left end_of-Typed) _ (more_of-Typed right_width right_signed right end_of-Typed)) fits above =
      let fit = and_parts (is_width width && binary_fits op width left_width right_width && signs_fit op signed left_signed right_signed && node_fits signals left_width left_signed left)
      (node_fits signals right_width right_signed right) fits in
      let front = and_parts (is_width width && binary_fits op width left_width right_width && signs_fit op signed left_signed right_signed) (node_fits signals left_width left_signed left) fit.0 in
      or_alike (node_reads (signals ++ hidden) s b left_width left) false (node_reads (signals ++ hidden) s b right_width right) false
      (node_reads-none signals hidden s b left_width left_signed left front.1 above) (node_reads-none signals hidden s b right_width right_signed right fit.1 above)
  node_reads-none signals hidden s b width signed (node.Choose' _ (more_of-Typed cond_width cond_signed cond end_of-Typed) _ (more_of-Typed true_width true_signed on_true end_of-Typed) _ (more_of-Typed false_width false_signed on_false end_of-Typed)) fits above =
      let fit = and_parts (same_widths width true_width false_width && node_fits signals cond_width cond_signed cond && node_fits signals true_width true_signed on_true)
      (node_fits signals false_width false_signed on_false) fits in
      let front = and_parts (same_widths width true_width false_width && node_fits signals cond_width cond_signed cond) (node_fits signals true_width true_signed on_true) fit.0 in
      let test = and_parts (same_widths width true_width false_width) (node_fits signals cond_width cond_signed cond) front.0 in
      let more : List Signal = signals ++ hidden in
      or_alike (node_reads more s b cond_width cond) false (node_reads more s b true_width on_true || node_reads more s b false_width on_false) false
      (node_reads-none signals hidden s b cond_width cond_signed cond test.1 above)
      (or_alike (node_reads more s b true_width on_true) false (node_reads more s b false_width on_false) false
      (node_reads-none signals hidden s b true_width true_signed on_true front.1 above) (node_reads-none signals hidden s b false_width false_signed on_false fit.1 above))
  node_reads-none signals hidden s b width signed (node.Join' _ parts) fits above =
      parts_read-none signals hidden s b parts (and_parts (is_width width && joined_width parts == width) (parts_fit signals parts) fits).1 above
  node_reads-none signals hidden s b width signed (node.Repeat' times _ (more_of-Typed part_width part_signed p end_of-Typed)) fits above =
      node_reads-none signals hidden s b part_width part_signed p (and_parts (is_width width && times * part_width == width) (node_fits signals part_width part_signed p) fits).1 above
  node_reads-none signals hidden s b width signed (node.Resize' _ (more_of-Typed arg_width arg_signed arg end_of-Typed)) fits above =
      node_reads-none signals hidden s b arg_width arg_signed arg (and_parts (is_width width) (node_fits signals arg_width arg_signed arg) fits).1 above

  parts_read-none : {shape : _} (signals hidden : List Signal) (s b : ℕ) (parts : Row_of-Typed shape) → parts_fit signals parts ≡ true
      → length signals ≤ s → parts_read (signals ++ hidden) s b parts ≡ false
  parts_read-none signals hidden s b end_of-Typed fits above = refl
  parts_read-none signals hidden s b (more_of-Typed width signed e rest) fits above =
      let fit = and_parts (node_fits signals width signed e) (parts_fit signals rest) fits in
      or_alike (node_reads (signals ++ hidden) s b width e) false (parts_read (signals ++ hidden) s b rest) false
      (node_reads-none signals hidden s b width signed e fit.0 above) (parts_read-none signals hidden s b rest fit.1 above)

pub reads-more : (signals hidden : List Signal) (s b : ℕ) (e : Typed) → typed_fits signals e ≡ true → reads (signals ++ hidden) s b e ≡ reads signals s b e
reads-more signals hidden s b e fits = node_reads-more signals hidden s b e.width e.signed e.node fits

pub reads-none : (signals hidden : List Signal) (s b : ℕ) (e : Typed) → typed_fits signals e ≡ true → length signals ≤ s → reads (signals ++ hidden) s b e ≡ false
reads-none signals hidden s b e fits above = node_reads-none signals hidden s b e.width e.signed e.node fits above

-- ---- the bits that a left side reads by its indexes
part_reads-more : (signals hidden : List Signal) (s b : ℕ) (p : Part) → part_fits signals p ≡ true → part_reads (signals ++ hidden) s b p ≡ part_reads signals s b p
part_reads-more signals hidden s b (part.Whole _) fits = refl
part_reads-more signals hidden s b (part.Slice _ _ _) fits = refl
part_reads-more signals hidden s b (part.Pick signal index offsets) fits =
    reads-more signals hidden s b index (and_parts (is_signal signals signal && is_width (length offsets)) (typed_fits signals index) fits).1
part_reads-more signals hidden s b (part.Word first count _ index from width) fits =
    reads-more signals hidden s b index (and_parts (words_fit signals first count from width) (typed_fits signals index) fits).1

part_reads-none : (signals hidden : List Signal) (s b : ℕ) (p : Part) → part_fits signals p ≡ true → length signals ≤ s → part_reads (signals ++ hidden) s b p ≡ false
part_reads-none signals hidden s b (part.Whole _) fits above = refl
part_reads-none signals hidden s b (part.Slice _ _ _) fits above = refl
part_reads-none signals hidden s b (part.Pick signal index offsets) fits above =
    reads-none signals hidden s b index (and_parts (is_signal signals signal && is_width (length offsets)) (typed_fits signals index) fits).1 above
part_reads-none signals hidden s b (part.Word first count _ index from width) fits above =
    reads-none signals hidden s b index (and_parts (words_fit signals first count from width) (typed_fits signals index) fits).1 above

pub left_reads-more : (signals hidden : List Signal) (s b : ℕ) (parts : List Part) → list_all (part_fits signals) parts ≡ true
    → list_any (part_reads (signals ++ hidden) s b) parts ≡ list_any (part_reads signals s b) parts
left_reads-more signals hidden s b [] fits = refl
left_reads-more signals hidden s b (p ∷ parts) fits =
    let fit = and_parts (part_fits signals p) (list_all (part_fits signals) parts) fits in
    or_alike (part_reads (signals ++ hidden) s b p) (part_reads signals s b p) (list_any (part_reads (signals ++ hidden) s b) parts) (list_any (part_reads signals s b) parts)
    (part_reads-more signals hidden s b p fit.0) (left_reads-more signals hidden s b parts fit.1)

pub left_reads-none : (signals hidden : List Signal) (s b : ℕ) (parts : List Part) → list_all (part_fits signals) parts ≡ true → length signals ≤ s
    → list_any (part_reads (signals ++ hidden) s b) parts ≡ false
left_reads-none signals hidden s b [] fits above = refl
left_reads-none signals hidden s b (p ∷ parts) fits above =
    let fit = and_parts (part_fits signals p) (list_all (part_fits signals) parts) fits in
    or_alike (part_reads (signals ++ hidden) s b p) false (list_any (part_reads (signals ++ hidden) s b) parts) false
    (part_reads-none signals hidden s b p fit.0 above) (left_reads-none signals hidden s b parts fit.1 above)

-- an assignment
pub set_reads-more : (signals hidden : List Signal) (s b : ℕ) (parts : List Part) (e : Typed) → assignment_fits signals parts e ≡ true
    → (reads (signals ++ hidden) s b e || list_any (part_reads (signals ++ hidden) s b) parts) ≡ (reads signals s b e || list_any (part_reads signals s b) parts)
set_reads-more signals hidden s b parts e fits =
    let fit = assignment-parts signals parts e fits in
    or_alike (reads (signals ++ hidden) s b e) (reads signals s b e) (list_any (part_reads (signals ++ hidden) s b) parts) (list_any (part_reads signals s b) parts)
    (reads-more signals hidden s b e fit.1) (left_reads-more signals hidden s b parts fit.0)

pub set_reads-none : (signals hidden : List Signal) (s b : ℕ) (parts : List Part) (e : Typed) → assignment_fits signals parts e ≡ true → length signals ≤ s
    → (reads (signals ++ hidden) s b e || list_any (part_reads (signals ++ hidden) s b) parts) ≡ false
set_reads-none signals hidden s b parts e fits above =
    let fit = assignment-parts signals parts e fits in
    or_alike (reads (signals ++ hidden) s b e) false (list_any (part_reads (signals ++ hidden) s b) parts) false
    (reads-none signals hidden s b e fit.1 above) (left_reads-none signals hidden s b parts fit.0 above)

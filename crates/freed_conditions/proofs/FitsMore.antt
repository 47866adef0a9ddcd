-- What fits over a design's signals and places fits with more behind them.
use Rattle.std.proofs.Common.{ℕ, ◌+◌, ◌*◌, ◌≡◌, ◌<◌, ◌≤◌, Bool, true, false, ◌&&◌, List, [], ◌∷◌, ◌++◌, length, take, drop, refl, ap, ◌∙◌, arith, length-append, length-drop, Option, Some, None}
use Rattle.std.specs.Prelude.{◌==◌, nat_le, slice_get}
use Rattle.std.specs.Option.{option_map_or}
use Rattle.std.specs.List.{list_all}
use Rattle.std.proofs.lemmas.Bool.{and_parts, and_from, lt-ltb, le-leb}
use Rattle.std.proofs.lemmas.List.{take-append-le, drop-append-le}
use Rattle.loc_base.specs.Bits.{width_of}
use Rattle.design_core.specs.declared.signal.Signal.{Signal}
use Rattle.design_core.specs.declared.place.Place.{Place}
use Rattle.design_core.specs.declared.expression.Typed.{Typed}
use Rattle.design_core.specs.declared.expression.Node.{Node, Row_of-Typed, end_of-Typed, more_of-Typed}
use Rattle.design_core.specs.declared.expression.Node.TheVariants.{Const, Whole, Slice, Pick', Word', Unary', Binary', Choose', Join', Repeat', Resize'}
use Rattle.design_core.specs.declared.statement.Part.{Part}
use Rattle.design_core.specs.declared.statement.Part.TheVariants as part
use Rattle.design_core.specs.declared.statement.Label.{Label}
use Rattle.design_core.specs.Valuation.{width_at}
use Rattle.design_core.specs.Store.{parts_width}
use Rattle.design_core.specs.WellFormed.{is_width, is_signal, slice_fits, words_fit, unary_fits, binary_fits, signs_fit, same_widths, joined_width, node_fits, parts_fit, typed_fits, part_fits, place_fits, assignment_fits, label_fits}
use Rattle.freed_conditions.proofs.SignalsMore.{slice_get-left, signal-below, width_at-more}
use Rattle.freed_conditions.proofs.ValueAlike.{slice-below, words-below}
use Rattle.freed_conditions.proofs.StoreAlike.{parts_width-more}

-- a second test stays true, or both do
pub and_second : (a b b' : Bool) → (b ≡ true → b' ≡ true) → (a && b) ≡ true → (a && b') ≡ true
and_second a b b' next both = let h = and_parts a b both in and_from a b' h.0 (next h.1)

pub and_map : (a b a' b' : Bool) → (a ≡ true → a' ≡ true) → (b ≡ true → b' ≡ true) → (a && b) ≡ true → (a' && b') ≡ true
and_map a b a' b' first second both = let h = and_parts a b both in and_from a' b' (first h.0) (second h.1)

pub is_signal-more : (signals hidden : List Signal) (s : ℕ) → is_signal signals s ≡ true → is_signal (signals ++ hidden) s ≡ true
is_signal-more signals hidden s is =
    let below : s < length signals = signal-below signals s is in
    lt-ltb s (length (signals ++ hidden)) (omega (arith, length-append signals hidden))

pub slice_fits-more : (signals hidden : List Signal) (s from width : ℕ) → slice_fits signals s from width ≡ true → slice_fits (signals ++ hidden) s from width ≡ true
slice_fits-more signals hidden s from width fits =
    let fit = and_parts (is_signal signals s && is_width width) (nat_le (from + width) (width_at signals s)) fits in
    let front = and_parts (is_signal signals s) (is_width width) fit.0 in
    and_from (is_signal (signals ++ hidden) s && is_width width) (nat_le (from + width) (width_at (signals ++ hidden) s))
    (and_from (is_signal (signals ++ hidden) s) (is_width width) (is_signal-more signals hidden s front.0) front.1)
    (ap (nat_le (from + width)) (width_at-more signals hidden s (signal-below signals s front.0)) ∙ fit.1)

-- the words of an array are the same signals
words-more : (signals hidden : List Signal) (first count : ℕ) → first + count ≤ length signals
    → take count (drop first (signals ++ hidden)) ≡ take count (drop first signals)
words-more signals hidden first count within =
    ap (take count) (drop-append-le first signals hidden (omega arith))
    ∙ take-append-le count (drop first signals) hidden (omega (arith, length-drop first signals))

pub words_fit-more : (signals hidden : List Signal) (first count from width : ℕ) → words_fit signals first count from width ≡ true
    → words_fit (signals ++ hidden) first count from width ≡ true
words_fit-more signals hidden first count from width fits =
    let more : List Signal = signals ++ hidden in
    let same : Bool = list_all (λ s. s.width == width_at signals first) (take count (drop first signals)) in
    let fit = and_parts (nat_le 1 count && nat_le (first + count) (length signals) && slice_fits signals first from width) same fits in
    let front = and_parts (nat_le 1 count && nat_le (first + count) (length signals)) (slice_fits signals first from width) fit.0 in
    let ends = and_parts (nat_le 1 count) (nat_le (first + count) (length signals)) front.0 in
    let within : first + count ≤ length signals = words-below signals first count from width fits in
    and_from (nat_le 1 count && nat_le (first + count) (length more) && slice_fits more first from width) (list_all (λ s. s.width == width_at more first) (take count (drop first more)))
    (and_from (nat_le 1 count && nat_le (first + count) (length more)) (slice_fits more first from width)
    (and_from (nat_le 1 count) (nat_le (first + count) (length more)) ends.0 (le-leb (first + count) (length more) (omega (arith, length-append signals hidden))))
    (slice_fits-more signals hidden first from width front.1))
    (ap (λ w. list_all (λ (s : Signal). s.width == w) (take count (drop first more))) (width_at-more signals hidden first (slice-below signals first from width front.1))
    ∙ ap (list_all (λ (s : Signal). s.width == width_at signals first)) (words-more signals hidden first count within) ∙ fit.1)

mutual
  pub node_fits-more : (signals hidden : List Signal) (width : ℕ) (signed : Bool) (e : Node) → node_fits signals width signed e ≡ true
      → node_fits (signals ++ hidden) width signed e ≡ true
  node_fits-more signals hidden width signed (Const word) fits = fits
  node_fits-more signals hidden width signed (Whole s) fits =
      let fit = and_parts (is_width width && is_signal signals s) (width_at signals s == width) fits in
      let front = and_parts (is_width width) (is_signal signals s) fit.0 in
      and_from (is_width width && is_signal (signals ++ hidden) s) (width_at (signals ++ hidden) s == width)
      (and_from (is_width width) (is_signal (signals ++ hidden) s) front.0 (is_signal-more signals hidden s front.1))
      (ap (λ w. w == width) (width_at-more signals hidden s (signal-below signals s front.1)) ∙ fit.1)
  node_fits-more signals hidden width signed (Slice s from size) fits =
      and_map (slice_fits signals s from size) (size == width) (slice_fits (signals ++ hidden) s from size) (size == width)
      (slice_fits-more signals hidden s from size) (λ is. is) fits
  node_fits-more signals hidden width signed (Pick' s _ (more_of-Typed index_width index_signed index end_of-Typed) offsets) fits =
      and_map (is_width width && is_signal signals s && length offsets == width) (node_fits signals index_width index_signed index)
      (is_width width && is_signal (signals ++ hidden) s && length offsets == width) (node_fits (signals ++ hidden) index_width index_signed index)
      (and_map (is_width width && is_signal signals s) (length offsets == width) (is_width width && is_signal (signals ++ hidden) s) (length offsets == width)
      (and_second (is_width width) (is_signal signals s) (is_signal (signals ++ hidden) s) (is_signal-more signals hidden s)) (λ is. is))
      (node_fits-more signals hidden index_width index_signed index) fits
  node_fits-more signals hidden width signed (Word' first count _ _ (more_of-Typed index_width index_signed index end_of-Typed) from size) fits =
      and_map (words_fit signals first count from size && size == width) (node_fits signals index_width index_signed index)
      (words_fit (signals ++ hidden) first count from size && size == width) (node_fits (signals ++ hidden) index_width index_signed index)
      (and_map (words_fit signals first count from size) (size == width) (words_fit (signals ++ hidden) first count from size) (size == width)
      (words_fit-more signals hidden first count from size) (λ is. is))
      (node_fits-more signals hidden index_width index_signed index) fits
  node_fits-more signals hidden width signed (Unary' op _ (more_of-Typed arg_width arg_signed arg end_of-Typed)) fits =
      and_second (is_width width && unary_fits op width arg_width) (node_fits signals arg_width arg_signed arg) (node_fits (signals ++ hidden) arg_width arg_signed arg)
      (node_fits-more signals hidden arg_width arg_signed arg) fits
  node_fits-more signals hidden width signed (Binary' op _ (more_of-Typed left_width left_signed left end_of-Typed) _ (more_of-Typed right_width right_signed right end_of-Typed)) fits =
      let front : Bool = is_width width && binary_fits op width left_width right_width && signs_fit op signed left_signed right_signed in
      and_map (front && node_fits signals left_width left_signed left) (node_fits signals right_width right_signed right)
      (front && node_fits (signals ++ hidden) left_width left_signed left) (node_fits (signals ++ hidden) right_width right_signed right)
      (and_second front (node_fits signals left_width left_signed left) (node_fits (signals ++ hidden) left_width left_signed left) (node_fits-more signals hidden left_width left_signed left))
      (node_fits-more signals hidden right_width right_signed right) fits
  node_fits-more signals hidden width signed (Choose' _ (more_of-Typed cond_width cond_signed cond end_of-Typed) _ (more_of-Typed true_width true_signed on_true end_of-Typed) _ (more_of-Typed false_width false_signed on_false end_of-Typed)) fits =
      let front : Bool = same_widths width true_width false_width in
      and_map (front && node_fits signals cond_width cond_signed cond && node_fits signals true_width true_signed on_true) (node_fits signals false_width false_signed on_false)
      (front && node_fits (signals ++ hidden) cond_width cond_signed cond && node_fits (signals ++ hidden) true_width true_signed on_true) (node_fits (signals ++ hidden) false_width false_signed on_false)
      (and_map (front && node_fits signals cond_width cond_signed cond) (node_fits signals true_width true_signed on_true)
      (front && node_fits (signals ++ hidden) cond_width cond_signed cond) (node_fits (signals ++ hidden) true_width true_signed on_true)
      (and_second front (node_fits signals cond_width cond_signed cond) (node_fits (signals ++ hidden) cond_width cond_signed cond) (node_fits-more signals hidden cond_width cond_signed cond))
      (node_fits-more signals hidden true_width true_signed on_true))
      (node_fits-more signals hidden false_width false_signed on_false) fits
  node_fits-more signals hidden width signed (Join' _ parts) fits =
      and_second (is_width width && joined_width parts == width) (parts_fit signals parts) (parts_fit (signals ++ hidden) parts) (parts_fit-more signals hidden parts) fits
  node_fits-more signals hidden width signed (Repeat' times _ (more_of-Typed part_width part_signed part end_of-Typed)) fits =
      and_second (is_width width && times * part_width == width) (node_fits signals part_width part_signed part) (node_fits (signals ++ hidden) part_width part_signed part)
      (node_fits-more signals hidden part_width part_signed part) fits
  node_fits-more signals hidden width signed (Resize' _ (more_of-Typed arg_width arg_signed arg end_of-Typed)) fits =
      and_second (is_width width) (node_fits signals arg_width arg_signed arg) (node_fits (signals ++ hidden) arg_width arg_signed arg)
      (node_fits-more signals hidden arg_width arg_signed arg) fits

  pub parts_fit-more : {shape : _} (signals hidden : List Signal) (parts : Row_of-Typed shape) → parts_fit signals parts ≡ true → parts_fit (signals ++ hidden) parts ≡ true
  parts_fit-more signals hidden end_of-Typed fits = refl
  parts_fit-more signals hidden (more_of-Typed width signed node rest) fits =
      and_map (node_fits signals width signed node) (parts_fit signals rest) (node_fits (signals ++ hidden) width signed node) (parts_fit (signals ++ hidden) rest)
      (node_fits-more signals hidden width signed node) (parts_fit-more signals hidden rest) fits

pub typed_fits-more : (signals hidden : List Signal) (e : Typed) → typed_fits signals e ≡ true → typed_fits (signals ++ hidden) e ≡ true
typed_fits-more signals hidden e fits = node_fits-more signals hidden e.width e.signed e.node fits

pub part_fits-more : (signals hidden : List Signal) (p : Part) → part_fits signals p ≡ true → part_fits (signals ++ hidden) p ≡ true
part_fits-more signals hidden (part.Whole s) fits = is_signal-more signals hidden s fits
part_fits-more signals hidden (part.Slice s from width) fits = slice_fits-more signals hidden s from width fits
part_fits-more signals hidden (part.Pick s index offsets) fits =
    and_map (is_signal signals s && is_width (length offsets)) (typed_fits signals index) (is_signal (signals ++ hidden) s && is_width (length offsets)) (typed_fits (signals ++ hidden) index)
    (and_map (is_signal signals s) (is_width (length offsets)) (is_signal (signals ++ hidden) s) (is_width (length offsets)) (is_signal-more signals hidden s) (λ is. is))
    (typed_fits-more signals hidden index) fits
part_fits-more signals hidden (part.Word first count _ index from width) fits =
    and_map (words_fit signals first count from width) (typed_fits signals index) (words_fit (signals ++ hidden) first count from width) (typed_fits (signals ++ hidden) index)
    (words_fit-more signals hidden first count from width) (typed_fits-more signals hidden index) fits

all_fit-more : (signals hidden : List Signal) (parts : List Part) → list_all (part_fits signals) parts ≡ true → list_all (part_fits (signals ++ hidden)) parts ≡ true
all_fit-more signals hidden [] fits = refl
all_fit-more signals hidden (p ∷ parts) fits =
    and_map (part_fits signals p) (list_all (part_fits signals) parts) (part_fits (signals ++ hidden) p) (list_all (part_fits (signals ++ hidden)) parts)
    (part_fits-more signals hidden p) (all_fit-more signals hidden parts) fits

pub labels_fit-more : (signals hidden : List Signal) (width : ℕ) (labels : List Label) → list_all (label_fits signals width) labels ≡ true
    → list_all (label_fits (signals ++ hidden) width) labels ≡ true
labels_fit-more signals hidden width [] fits = refl
labels_fit-more signals hidden width (label ∷ labels) fits =
    and_map (label_fits signals width label) (list_all (label_fits signals width) labels) (label_fits (signals ++ hidden) width label) (list_all (label_fits (signals ++ hidden) width) labels)
    (and_map (typed_fits signals label.value && label.value.width == width) (width_of label.wild == width) (typed_fits (signals ++ hidden) label.value && label.value.width == width) (width_of label.wild == width)
    (and_map (typed_fits signals label.value) (label.value.width == width) (typed_fits (signals ++ hidden) label.value) (label.value.width == width)
    (typed_fits-more signals hidden label.value) (λ is. is)) (λ is. is))
    (labels_fit-more signals hidden width labels) fits

pub place_fits-more : (places more : List Place) (width p : ℕ) → place_fits places width p ≡ true → place_fits (places ++ more) width p ≡ true
place_fits-more places more width p fits = at (slice_get places p) refl fits
  where
    at : (o : Option Place) → slice_get places p ≡ o → option_map_or (λ (place : Place). place.width == width) o false ≡ true → place_fits (places ++ more) width p ≡ true
    at None is fits = cc
    at (Some place) is fits = ap (λ o. option_map_or (λ (place : Place). place.width == width) o false) (slice_get-left places more p place is) ∙ fits

-- an assignment, and the width that its place has
pub assignment_fits-more : (signals hidden : List Signal) (places more : List Place) (parts : List Part) (e : Typed) (p : ℕ)
    → (assignment_fits signals parts e && place_fits places (parts_width signals parts) p) ≡ true
    → (assignment_fits (signals ++ hidden) parts e && place_fits (places ++ more) (parts_width (signals ++ hidden) parts) p) ≡ true
assignment_fits-more signals hidden places more parts e p fits =
    let fit = and_parts (assignment_fits signals parts e) (place_fits places (parts_width signals parts) p) fits in
    let front = and_parts (list_all (part_fits signals) parts && is_width (parts_width signals parts) && typed_fits signals e) (nat_le (parts_width signals parts) e.width) fit.0 in
    let left = and_parts (list_all (part_fits signals) parts && is_width (parts_width signals parts)) (typed_fits signals e) front.0 in
    let own = and_parts (list_all (part_fits signals) parts) (is_width (parts_width signals parts)) left.0 in
    let same : parts_width (signals ++ hidden) parts ≡ parts_width signals parts = parts_width-more signals hidden parts own.0 in
    let w : ℕ = parts_width (signals ++ hidden) parts in
    and_from (assignment_fits (signals ++ hidden) parts e) (place_fits (places ++ more) w p)
    (and_from (list_all (part_fits (signals ++ hidden)) parts && is_width w && typed_fits (signals ++ hidden) e) (nat_le w e.width)
    (and_from (list_all (part_fits (signals ++ hidden)) parts && is_width w) (typed_fits (signals ++ hidden) e)
    (and_from (list_all (part_fits (signals ++ hidden)) parts) (is_width w) (all_fit-more signals hidden parts own.0) (ap is_width same ∙ own.1))
    (typed_fits-more signals hidden e left.1)) (ap (λ x. nat_le x e.width) same ∙ front.1))
    (ap (λ x. place_fits (places ++ more) x p) same ∙ place_fits-more places more (parts_width signals parts) p fit.1)

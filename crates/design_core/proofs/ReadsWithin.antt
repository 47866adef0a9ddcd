-- What an expression of a well-formed design reads: bits that its signals have.
use Rattle.std.proofs.Common.{ℕ, zero, suc, ◌+◌, ◌*◌, ◌≡◌, ◌<◌, ◌≤◌, ◌⊎◌, inl, inr, Bool, true, ◌&&◌, ◌||◌, List, [], ◌∷◌, length, take, drop, refl, ap, ◌∙◌, sym, subst, arith, Option, Some, None}
use Rattle.std.specs.Prelude.{ℤ, ◌+ℤ◌, ◌==◌, nat_lt, nat_le}
use Rattle.std.specs.Option.{option_map_or}
use Rattle.std.specs.List.{list_all}
use Rattle.std.proofs.lemmas.Bool.{or_cases, and_parts, ltb-true, leb-true, eqb-true}
use Rattle.design_core.specs.declared.signal.Signal.{Signal}
use Rattle.design_core.specs.declared.expression.Typed.{Typed}
use Rattle.design_core.specs.declared.expression.Node.{Node, Row_of-Typed, end_of-Typed, more_of-Typed}
use Rattle.design_core.specs.declared.expression.Node.TheVariants.{Const, Whole, Slice, Pick', Word', Unary', Binary', Choose', Join', Repeat', Resize'}
use Rattle.design_core.specs.Valuation.{width_at, position_at}
use Rattle.design_core.specs.Operator.{integer_of}
use Rattle.design_core.specs.Constant.{constant_of}
use Rattle.design_core.specs.Pick.{is_at, has_bit, may_pick}
use Rattle.design_core.specs.Drives.{is_among}
use Rattle.design_core.specs.Reads.{node_reads, parts_read, reads}
use Rattle.design_core.specs.WellFormed.{is_width, is_signal, slice_fits, words_fit, unary_fits, same_widths, binary_fits, joined_width, node_fits, parts_fit, typed_fits, signs_fit}
use Rattle.design_core.proofs.ValueAgrees.{position_at-below}

-- the parts of three and of four tests
and3 : (x y z : Bool) → (x && y && z) ≡ true → (x ≡ true) × (y ≡ true) × (z ≡ true)
and3 x y z h = let front : (x ≡ true) × (y ≡ true) = and_parts x y (and_parts (x && y) z h).0 in (front.0, front.1, (and_parts (x && y) z h).1)

and4 : (x y z w : Bool) → (x && y && z && w) ≡ true → (x ≡ true) × (y ≡ true) × (z ≡ true) × (w ≡ true)
and4 x y z w h = let front : (x ≡ true) × (y ≡ true) × (z ≡ true) = and3 x y z (and_parts (x && y && z) w h).0 in (front.0, front.1, front.2, (and_parts (x && y && z) w h).1)

-- a signal that is read is the one that is named
own : (s signal : ℕ) (t : Bool) → ((s == signal) && t) ≡ true → (s ≡ signal) × (t ≡ true)
own s signal t h = (eqb-true s signal (and_parts (s == signal) t h).0, (and_parts (s == signal) t h).1)

-- a bit of a part that fits its signal
pub slice-below : (signals : List Signal) (signal from width b : ℕ) → slice_fits signals signal from width ≡ true → is_among from width b ≡ true → b < width_at signals signal
slice-below signals signal from width b fits among =
    let wide : from + width ≤ width_at signals signal =
    leb-true (from + width) (width_at signals signal) (and3 (is_signal signals signal) (is_width width) (nat_le (from + width) (width_at signals signal)) fits).2 in
    let below : b < from + width = ltb-true b (from + width) (and_parts (nat_le from b) (nat_lt b (from + width)) among).1 in
    omega (arith, wide, below)

-- a bit that an index has
pub has_bit-below : (signals : List Signal) (signal : ℕ) (index : ℤ) (offsets : List ℤ) (b : ℕ) → has_bit signals signal index offsets b ≡ true → b < width_at signals signal
has_bit-below signals signal index [] b h = cc
has_bit-below signals signal index (k ∷ offsets) b h =
    either (or_cases (is_at b (position_at signals signal (index +ℤ k))) (has_bit signals signal index offsets b) h) (λ later. has_bit-below signals signal index offsets b later)
  where
    here : (o : Option ℕ) → position_at signals signal (index +ℤ k) ≡ o → is_at b o ≡ true → b < width_at signals signal
    here None e at = cc
    here (Some p) e at = subst (λ n. n < width_at signals signal) (eqb-true p b at) (position_at-below signals signal (index +ℤ k) p e)

    either : (is_at b (position_at signals signal (index +ℤ k)) ≡ true) ⊎ (has_bit signals signal index offsets b ≡ true)
        → (has_bit signals signal index offsets b ≡ true → b < width_at signals signal) → b < width_at signals signal
    either (inl at) rest = here (position_at signals signal (index +ℤ k)) refl at
    either (inr later) rest = rest later

pub may_pick-below : (signals : List Signal) (signal index_width : ℕ) (signed : Bool) (index : Node) (offsets : List ℤ) (b : ℕ)
    → may_pick signals signal index_width signed index offsets b ≡ true → b < width_at signals signal
may_pick-below signals signal index_width signed index offsets b h = by_index (constant_of index_width index) h
  where
    by_index : (c : Option ℕ)
        → option_map_or (λ value. has_bit signals signal (integer_of signed index_width value) offsets b) c (nat_lt b (width_at signals signal)) ≡ true → b < width_at signals signal
    by_index None h = ltb-true b (width_at signals signal) h
    by_index (Some value) h = has_bit-below signals signal (integer_of signed index_width value) offsets b h

-- the words of an array have one width
word-width : (signals : List Signal) (width first count k : ℕ) → list_all (λ s. s.width == width) (take count (drop first signals)) ≡ true
    → k < count → first + count ≤ length signals → width_at signals (first + k) ≡ width
word-width [] width first count k same below within = absurd (omega (arith, below, within))
word-width (signal ∷ signals) width zero zero k same below within = absurd (omega (arith, below))
word-width (signal ∷ signals) width zero (suc count) zero same below within =
    eqb-true signal.width width (and_parts (signal.width == width) (list_all (λ s. s.width == width) (take count signals)) same).0
word-width (signal ∷ signals) width zero (suc count) (suc k) same below within =
    let plain : (n : ℕ) → 0 + n ≡ n = λ n. omega arith in
    subst (λ n. width_at (signal ∷ signals) n ≡ width) (sym (plain (suc k)))
    (subst (λ n. width_at signals n ≡ width) (plain k)
    (word-width signals width 0 count k (and_parts (signal.width == width) (list_all (λ s. s.width == width) (take count signals)) same).1 (omega (arith, below)) (omega (arith, within))))
word-width (signal ∷ signals) width (suc first) count k same below within =
    let next : suc first + k ≡ suc (first + k) = omega arith in
    subst (λ n. width_at (signal ∷ signals) n ≡ width) (sym next) (word-width signals width first count k same below (omega (arith, within)))

pub word-below : (signals : List Signal) (first count from width s b : ℕ) → words_fit signals first count from width ≡ true → (is_among first count s && is_among from width b) ≡ true
    → b < width_at signals s
word-below signals first count from width s b fits among =
    let one : Bool = nat_le 1 count in
    let two : Bool = nat_le (first + count) (length signals) in
    let three : Bool = slice_fits signals first from width in
    let four : Bool = list_all (λ s. s.width == width_at signals first) (take count (drop first signals)) in
    let f : (one ≡ true) × (two ≡ true) × (three ≡ true) × (four ≡ true) = and4 one two three four fits in
    let there : is_among first count s ≡ true = (and_parts (is_among first count s) (is_among from width b) among).0 in
    let bits : is_among from width b ≡ true = (and_parts (is_among first count s) (is_among from width b) among).1 in
    let low : first ≤ s = leb-true first s (and_parts (nat_le first s) (nat_lt s (first + count)) there).0 in
    let high : s < first + count = ltb-true s (first + count) (and_parts (nat_le first s) (nat_lt s (first + count)) there).1 in
    at (leb-true (first + count) (length signals) f.1) f.3 (slice-below signals first from width b f.2 bits) (apart first s low) high
  where
    apart : (m n : ℕ) → m ≤ n → (k : ℕ) × (n ≡ m + k)
    apart zero n h = (n, omega arith)
    apart (suc m) zero h = absurd (omega (arith, h))
    apart (suc m) (suc n) h = next (apart m n (omega (arith, h)))
      where
        next : (k : ℕ) × (n ≡ m + k) → (k : ℕ) × (suc n ≡ suc m + k)
        next (k, e) = (k, omega (arith, e))

    at : first + count ≤ length signals → list_all (λ s. s.width == width_at signals first) (take count (drop first signals)) ≡ true → b < width_at signals first
        → (k : ℕ) × (s ≡ first + k) → s < first + count → b < width_at signals s
    at within same below (k, e) high =
        let wide : width_at signals (first + k) ≡ width_at signals first = word-width signals (width_at signals first) first count k same (omega (arith, e, high)) within in
        subst (λ n. b < n) (sym (ap (width_at signals) e ∙ wide)) below

-- one of two that are read
one_of : (p q : Bool) (G : Type 0) → (p || q) ≡ true → (p ≡ true → G) → (q ≡ true → G) → G
one_of p q G h f g = by_cases (or_cases p q h)
  where
    by_cases : (p ≡ true) ⊎ (q ≡ true) → G
    by_cases (inl e) = f e
    by_cases (inr e) = g e

mutual
  pub node_reads-below : (signals : List Signal) (s b width : ℕ) (signed : Bool) (e : Node) → node_fits signals width signed e ≡ true → node_reads signals s b width e ≡ true → b < width_at signals s
  node_reads-below signals s b width sign (Const word) fits h = cc
  node_reads-below signals s b width sign (Whole signal) fits h =
      let wide : width_at signals signal ≡ width =
      eqb-true (width_at signals signal) width (and3 (is_width width) (is_signal signals signal) (width_at signals signal == width) fits).2 in
      let r : (s ≡ signal) × (nat_lt b width ≡ true) = own s signal (nat_lt b width) h in
      subst (λ n. b < n) (sym (ap (width_at signals) r.0 ∙ wide)) (ltb-true b width r.1)
  node_reads-below signals s b width sign (Slice signal from size) fits h =
      let r : (s ≡ signal) × (is_among from size b ≡ true) = own s signal (is_among from size b) h in
      subst (λ n. b < width_at signals n) (sym r.0) (slice-below signals signal from size b (and_parts (slice_fits signals signal from size) (size == width) fits).0 r.1)
  node_reads-below signals s b width sign (Pick' signal _ (more_of-Typed index_width signed index end_of-Typed) offsets) fits h =
      let f : _ = and4 (is_width width) (is_signal signals signal) (length offsets == width) (node_fits signals index_width signed index) fits in
      one_of ((s == signal) && may_pick signals signal index_width signed index offsets b) (node_reads signals s b index_width index) (b < width_at signals s) h
      (λ here. let r : (s ≡ signal) × (may_pick signals signal index_width signed index offsets b ≡ true) = own s signal (may_pick signals signal index_width signed index offsets b) here in
      subst (λ n. b < width_at signals n) (sym r.0) (may_pick-below signals signal index_width signed index offsets b r.1))
      (λ later. node_reads-below signals s b index_width signed index f.3 later)
  node_reads-below signals s b width sign (Word' first count _ _ (more_of-Typed index_width signed index end_of-Typed) from size) fits h =
      let f : _ = and3 (words_fit signals first count from size) (size == width) (node_fits signals index_width signed index) fits in
      one_of (is_among first count s && is_among from size b) (node_reads signals s b index_width index) (b < width_at signals s) h
      (λ here. word-below signals first count from size s b f.0 here)
      (λ later. node_reads-below signals s b index_width signed index f.2 later)
  node_reads-below signals s b width sign (Unary' op _ (more_of-Typed arg_width signed arg end_of-Typed)) fits h =
      node_reads-below signals s b arg_width signed arg
      (and3 (is_width width) (unary_fits op width arg_width) (node_fits signals arg_width signed arg) fits).2 h
  node_reads-below signals s b width sign (Binary' op _ (more_of-Typed left_width left_signed left end_of-Typed) _ (more_of-Typed right_width right_signed right end_of-Typed)) fits h =
      let f : _ = and4 (is_width width && binary_fits op width left_width right_width) (signs_fit op sign left_signed right_signed)
      (node_fits signals left_width left_signed left) (node_fits signals right_width right_signed right) fits in
      one_of (node_reads signals s b left_width left) (node_reads signals s b right_width right) (b < width_at signals s) h
      (λ one. node_reads-below signals s b left_width left_signed left f.2 one)
      (λ other. node_reads-below signals s b right_width right_signed right f.3 other)
  node_reads-below signals s b width sign (Choose' _ (more_of-Typed cond_width cond_signed cond end_of-Typed) _ (more_of-Typed true_width true_signed on_true end_of-Typed) _ (more_of-Typed false_width false_signed on_false end_of-Typed)) fits h =
      let c : Bool = node_fits signals cond_width cond_signed cond in
      let t : Bool = node_fits signals true_width true_signed on_true in
      let u : Bool = node_fits signals false_width false_signed on_false in
      let f : _ = and4 (same_widths width true_width false_width) c t u fits in
      let arms : Bool = node_reads signals s b true_width on_true || node_reads signals s b false_width on_false in
      one_of (node_reads signals s b cond_width cond) arms (b < width_at signals s) h
      (λ test. node_reads-below signals s b cond_width cond_signed cond f.1 test)
      (λ arm. one_of (node_reads signals s b true_width on_true) (node_reads signals s b false_width on_false) (b < width_at signals s) arm
      (λ one. node_reads-below signals s b true_width true_signed on_true f.2 one)
      (λ other. node_reads-below signals s b false_width false_signed on_false f.3 other))
  node_reads-below signals s b width sign (Join' _ parts) fits h =
      parts_read-below signals s b parts (and3 (is_width width) (joined_width parts == width) (parts_fit signals parts) fits).2 h
  node_reads-below signals s b width sign (Repeat' times _ (more_of-Typed part_width signed part end_of-Typed)) fits h =
      node_reads-below signals s b part_width signed part (and3 (is_width width) (times * part_width == width) (node_fits signals part_width signed part) fits).2 h
  node_reads-below signals s b width sign (Resize' _ (more_of-Typed arg_width signed arg end_of-Typed)) fits h =
      node_reads-below signals s b arg_width signed arg (and_parts (is_width width) (node_fits signals arg_width signed arg) fits).1 h

  pub parts_read-below : {shape : _} (signals : List Signal) (s b : ℕ) (parts : Row_of-Typed shape) → parts_fit signals parts ≡ true → parts_read signals s b parts ≡ true → b < width_at signals s
  parts_read-below signals s b end_of-Typed fits h = cc
  parts_read-below signals s b (more_of-Typed width signed node rest) fits h =
      let f : (node_fits signals width signed node ≡ true) × (parts_fit signals rest ≡ true) = and_parts (node_fits signals width signed node) (parts_fit signals rest) fits in
      one_of (node_reads signals s b width node) (parts_read signals s b rest) (b < width_at signals s) h
      (λ one. node_reads-below signals s b width signed node f.0 one)
      (λ later. parts_read-below signals s b rest f.1 later)

-- an expression of a well-formed design reads bits that its signals have
pub reads-below : (signals : List Signal) (s b : ℕ) (e : Typed) → typed_fits signals e ≡ true → reads signals s b e ≡ true → b < width_at signals s
reads-below signals s b e fits h = node_reads-below signals s b e.width e.signed e.node fits h

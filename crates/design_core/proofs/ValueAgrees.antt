-- The value of an expression is the same in two valuations that agree on the bits that it reads.
use Rattle.std.proofs.Common.{ℕ, ◌+◌, ◌*◌, ◌^◌, ◌≡◌, ◌<◌, Bool, true, false, ◌&&◌, ◌||◌, List, refl, ap, ◌∙◌, sym, arith, Option, Some, None}
use Rattle.std.specs.Prelude.{ℤ, pos, negsuc, ◌+ℤ◌, ◌-ℤ◌, ◌==◌, nat_lt, nat_le, if◌then◌else◌, slice_get}
use Rattle.std.specs.Option.{option_and_then, option_map_or}
use Rattle.std.proofs.lemmas.Bool.{or_left, or_right, and_from, lt-ltb, le-leb, eq-eqb, ltb-true}
use Rattle.std.proofs.lemmas.Map.Keys.{any_passes_from_place}
use Rattle.loc_base.specs.Bits.{width_of, value_of}
use Rattle.design_core.specs.declared.signal.Signal.{Signal}
use Rattle.design_core.specs.declared.expression.Typed.{Typed}
use Rattle.design_core.specs.declared.expression.Node.{Node, Row_of-Typed, end_of-Typed, more_of-Typed}
use Rattle.design_core.specs.declared.expression.Node.TheVariants.{Const, Whole, Slice, Pick', Word', Unary', Binary', Choose', Join', Repeat', Resize'}
use Rattle.design_core.specs.Valuation.{Valuation, number, width_at, place_within, position_of, position_at, word_at, bit_or_zero, distance_of}
use Rattle.design_core.specs.Operator.{is_true, integer_of, unary, binary, repeated, resized}
use Rattle.design_core.specs.Value.{picked, word_value, node_value, joined, value, index_value}
use Rattle.design_core.specs.Constant.{is_constant, constant_of}
use Rattle.design_core.specs.Pick.{is_at, has_bit, may_pick}
use Rattle.design_core.specs.Drives.{is_among}
use Rattle.design_core.specs.Reads.{AgreeOn, node_reads, parts_read, reads}
use Rattle.design_core.proofs.NumberLaws.{number-same}

-- agreement on what either of two tests passes
pub agree_left : (p q : ℕ → ℕ → Bool) (V W : Valuation) → AgreeOn (λ s b. p s b || q s b) V W → AgreeOn p V W
agree_left p q V W h = record { same = λ s b t. h.same s b (or_left (p s b) (q s b) t) }

pub agree_right : (p q : ℕ → ℕ → Bool) (V W : Valuation) → AgreeOn (λ s b. p s b || q s b) V W → AgreeOn q V W
agree_right p q V W h = record { same = λ s b t. h.same s b (or_right (p s b) (q s b) t) }

-- a position or an address that there is lies within
pub place_within-below : (places : ℕ) (distance : ℤ) (p : ℕ) → place_within places distance ≡ Some p → p < places
place_within-below places (pos d) p e = within (nat_lt d places) refl e
  where
    within : (t : Bool) → nat_lt d places ≡ t → (if t then Some d else None) ≡ Some p → p < places
    within true t e = let lt : d < places = ltb-true d places t in let same : d ≡ p = cc in omega arith
    within false t e = cc
place_within-below places (negsuc _) p e = cc

pub position_at-below : (signals : List Signal) (signal : ℕ) (index : ℤ) (p : ℕ) → position_at signals signal index ≡ Some p → p < width_at signals signal
position_at-below signals signal index p e = within (slice_get signals signal) e
  where
    within : (o : Option Signal) → option_and_then (λ s. position_of s index) o ≡ Some p → p < option_map_or (λ s. s.width) o 0
    within None e = cc
    within (Some s) e = place_within-below s.width (distance_of s.left s.right index) p e

pub word_at-among : (first count : ℕ) (low address : ℤ) (w : ℕ) → word_at first count low address ≡ Some w → is_among first count w ≡ true
word_at-among first count low address w e = within (place_within count (address -ℤ low)) refl e
  where
    within : (o : Option ℕ) → place_within count (address -ℤ low) ≡ o → option_and_then (λ k. Some (first + k)) o ≡ Some w → is_among first count w ≡ true
    within None at e = cc
    within (Some k) at e =
        let below : k < count = place_within-below count (address -ℤ low) k at in
        let same : first + k ≡ w = cc in
        and_from (nat_le first w) (nat_lt w (first + count)) (le-leb first w (omega arith)) (lt-ltb w (first + count) (omega arith))

-- one of the bits from a position on
pub is_among-at : (from width b : ℕ) → b < width → is_among from width (from + b) ≡ true
is_among-at from width b below =
    and_from (nat_le from (from + b)) (nat_lt (from + b) (from + width)) (le-leb from (from + b) (omega arith)) (lt-ltb (from + b) (from + width) (omega arith))

pub bit_or_zero-same : (f g : ℕ → Bool) (o : Option ℕ) → ((p : ℕ) → o ≡ Some p → f p ≡ g p) → bit_or_zero f o ≡ bit_or_zero g o
bit_or_zero-same f g None h = refl
bit_or_zero-same f g (Some p) h = h p refl

-- a constant has one value in all valuations
pub constant-value : (signals : List Signal) (V W : Valuation) (width : ℕ) (e : Node) → is_constant e ≡ true → node_value signals V width e ≡ node_value signals W width e
constant-value signals V W width (Const word) is = refl
constant-value signals V W width (Resize' _ (more_of-Typed arg_width signed arg end_of-Typed)) is = ap (resized width signed arg_width) (constant-value signals V W arg_width arg is)
constant-value signals V W width _ is = cc

-- an index that is a constant has its value
pub constant_of-value : (signals : List Signal) (V : Valuation) (width : ℕ) (e : Node) (value : ℕ) → constant_of width e ≡ Some value
    → node_value signals V width e ≡ value
constant_of-value signals V width (Const word) value is = at (width_of word == width) is
  where
    at : (t : Bool) → (if t then Some (value_of word) else None) ≡ Some value → value_of word ≡ value
    at true is = cc
    at false is = cc
constant_of-value signals V width _ value is = cc

-- a bit that a part has is one that it may have
pub may_pick-at : (signals : List Signal) (V : Valuation) (signal index_width : ℕ) (signed : Bool) (index : Node) (offsets : List ℤ) (b p : ℕ)
    → option_and_then (λ k. position_at signals signal (integer_of signed index_width (node_value signals V index_width index) +ℤ k)) (slice_get offsets b) ≡ Some p
    → may_pick signals signal index_width signed index offsets p ≡ true
may_pick-at signals V signal index_width signed index offsets b p e = at (constant_of index_width index) refl (slice_get offsets b) refl e
  where
    at : (c : Option ℕ) → constant_of index_width index ≡ c → (o : Option ℤ) → slice_get offsets b ≡ o
        → option_and_then (λ k. position_at signals signal (integer_of signed index_width (node_value signals V index_width index) +ℤ k)) o ≡ Some p
        → option_map_or (λ value. has_bit signals signal (integer_of signed index_width value) offsets p) c (nat_lt p (width_at signals signal)) ≡ true
    at c is None got e = cc
    at (Some value) is (Some k) got e =
        let here : position_at signals signal (integer_of signed index_width value +ℤ k) ≡ Some p =
        ap (λ n. position_at signals signal (integer_of signed index_width n +ℤ k)) (sym (constant_of-value signals V index_width index value is)) ∙ e in
        any_passes_from_place (λ k. is_at p (position_at signals signal (integer_of signed index_width value +ℤ k))) offsets b k got
        (ap (is_at p) here ∙ eq-eqb p p refl)
    at None is (Some k) got e =
        lt-ltb p (width_at signals signal) (position_at-below signals signal (integer_of signed index_width (node_value signals V index_width index) +ℤ k) p e)

-- a bit of a part by an index, where all bits that it may have agree
pub picked-same : (signals : List Signal) (V W : Valuation) (signal : ℕ) (at : ℤ) (offsets : List ℤ) (b : ℕ)
    → ((p : ℕ) → option_and_then (λ k. position_at signals signal (at +ℤ k)) (slice_get offsets b) ≡ Some p → V signal p ≡ W signal p)
    → picked signals V signal at offsets b ≡ picked signals W signal at offsets b
picked-same signals V W signal at offsets b h =
    bit_or_zero-same (V signal) (W signal) (option_and_then (λ k. position_at signals signal (at +ℤ k)) (slice_get offsets b)) h

-- bits of a word of an array, where these bits of all words agree
pub word_value-same : (V W : Valuation) (from width : ℕ) (word : Option ℕ)
    → ((w b : ℕ) → word ≡ Some w → b < width → V w (from + b) ≡ W w (from + b))
    → word_value V from width word ≡ word_value W from width word
word_value-same V W from width None h = refl
word_value-same V W from width (Some w) h = number-same width (λ b. V w (from + b)) (λ b. W w (from + b)) (λ b below. h w b refl below)

-- the bits that a part of a signal reads
is_own : (signal s : ℕ) (t : Bool) → s ≡ signal → t ≡ true → ((s == signal) && t) ≡ true
is_own signal s t same holds = and_from (s == signal) t (eq-eqb s signal same) holds

mutual
  pub node_value-agrees : (signals : List Signal) (V W : Valuation) (width : ℕ) (e : Node)
      → AgreeOn (λ s b. node_reads signals s b width e) V W → node_value signals V width e ≡ node_value signals W width e
  node_value-agrees signals V W width (Const word) h = refl
  node_value-agrees signals V W width (Whole signal) h =
      number-same width (V signal) (W signal) (λ b below. h.same signal b (is_own signal signal (nat_lt b width) refl (lt-ltb b width below)))
  node_value-agrees signals V W width (Slice signal from size) h =
      number-same size (λ b. V signal (from + b)) (λ b. W signal (from + b))
      (λ b below. h.same signal (from + b) (is_own signal signal (is_among from size (from + b)) refl (is_among-at from size b below)))
  node_value-agrees signals V W width (Pick' signal _ (more_of-Typed index_width signed index end_of-Typed) offsets) h =
      let own : ℕ → ℕ → Bool = λ s b. (s == signal) && may_pick signals signal index_width signed index offsets b in
      let inner : ℕ → ℕ → Bool = λ s b. node_reads signals s b index_width index in
      let at : ℕ → ℤ = λ n. integer_of signed index_width n in
      let same : node_value signals V index_width index ≡ node_value signals W index_width index =
      node_value-agrees signals V W index_width index (agree_right own inner V W h) in
      ap (λ n. number width (picked signals V signal (at n) offsets)) same
      ∙ number-same width (picked signals V signal (at (node_value signals W index_width index)) offsets)
      (picked signals W signal (at (node_value signals W index_width index)) offsets)
      (λ b _. picked-same signals V W signal (at (node_value signals W index_width index)) offsets b
      (λ p is. (agree_left own inner V W h).same signal p (is_own signal signal (may_pick signals signal index_width signed index offsets p) refl
      (may_pick-at signals W signal index_width signed index offsets b p is))))
  node_value-agrees signals V W width (Word' first count low _ (more_of-Typed index_width signed index end_of-Typed) from size) h =
      let own : ℕ → ℕ → Bool = λ s b. is_among first count s && is_among from size b in
      let inner : ℕ → ℕ → Bool = λ s b. node_reads signals s b index_width index in
      let word : ℕ → Option ℕ = λ n. word_at first count low (integer_of signed index_width n) in
      let same : node_value signals V index_width index ≡ node_value signals W index_width index =
      node_value-agrees signals V W index_width index (agree_right own inner V W h) in
      let bits : (w b : ℕ) → word (node_value signals W index_width index) ≡ Some w → b < size → V w (from + b) ≡ W w (from + b) =
      λ w b e below. (agree_left own inner V W h).same w (from + b) (and_from (is_among first count w) (is_among from size (from + b))
      (word_at-among first count low (integer_of signed index_width (node_value signals W index_width index)) w e) (is_among-at from size b below)) in
      ap (λ n. word_value V from size (word n)) same
      ∙ word_value-same V W from size (word (node_value signals W index_width index)) bits
  node_value-agrees signals V W width (Unary' op _ (more_of-Typed arg_width _ arg end_of-Typed)) h =
      ap (unary op arg_width) (node_value-agrees signals V W arg_width arg h)
  node_value-agrees signals V W width (Binary' op _ (more_of-Typed left_width left_signed left end_of-Typed) _ (more_of-Typed right_width right_signed right end_of-Typed)) h =
      let p : ℕ → ℕ → Bool = λ s b. node_reads signals s b left_width left in
      let q : ℕ → ℕ → Bool = λ s b. node_reads signals s b right_width right in
      let one : node_value signals V left_width left ≡ node_value signals W left_width left =
      node_value-agrees signals V W left_width left (agree_left p q V W h) in
      let other : node_value signals V right_width right ≡ node_value signals W right_width right =
      node_value-agrees signals V W right_width right (agree_right p q V W h) in
      ap (λ n. binary op left_width left_signed right_signed n (node_value signals V right_width right)) one
      ∙ ap (binary op left_width left_signed right_signed (node_value signals W left_width left)) other
  node_value-agrees signals V W width (Choose' _ (more_of-Typed cond_width _ cond end_of-Typed) _ (more_of-Typed true_width _ on_true end_of-Typed) _ (more_of-Typed false_width _ on_false end_of-Typed)) h =
      let p : ℕ → ℕ → Bool = λ s b. node_reads signals s b cond_width cond in
      let q : ℕ → ℕ → Bool = λ s b. node_reads signals s b true_width on_true in
      let r : ℕ → ℕ → Bool = λ s b. node_reads signals s b false_width on_false in
      let arms : AgreeOn (λ s b. q s b || r s b) V W = agree_right p (λ s b. q s b || r s b) V W h in
      let test : node_value signals V cond_width cond ≡ node_value signals W cond_width cond =
      node_value-agrees signals V W cond_width cond (agree_left p (λ s b. q s b || r s b) V W h) in
      let yes : node_value signals V true_width on_true ≡ node_value signals W true_width on_true =
      node_value-agrees signals V W true_width on_true (agree_left q r V W arms) in
      let no : node_value signals V false_width on_false ≡ node_value signals W false_width on_false =
      node_value-agrees signals V W false_width on_false (agree_right q r V W arms) in
      ap (λ n. if is_true n then node_value signals V true_width on_true else node_value signals V false_width on_false) test
      ∙ (ap (λ n. if is_true (node_value signals W cond_width cond) then n else node_value signals V false_width on_false) yes
      ∙ ap (λ n. if is_true (node_value signals W cond_width cond) then node_value signals W true_width on_true else n) no)
  node_value-agrees signals V W width (Join' _ parts) h = joined-agrees signals V W 0 parts h
  node_value-agrees signals V W width (Repeat' times _ (more_of-Typed part_width _ part end_of-Typed)) h =
      ap (repeated times part_width) (node_value-agrees signals V W part_width part h)
  node_value-agrees signals V W width (Resize' _ (more_of-Typed arg_width signed arg end_of-Typed)) h =
      ap (resized width signed arg_width) (node_value-agrees signals V W arg_width arg h)

  pub joined-agrees : {shape : _} (signals : List Signal) (V W : Valuation) (left : ℕ) (parts : Row_of-Typed shape)
      → AgreeOn (λ s b. parts_read signals s b parts) V W → joined signals V left parts ≡ joined signals W left parts
  joined-agrees signals V W left end_of-Typed h = refl
  joined-agrees signals V W left (more_of-Typed width _ node rest) h =
      let p : ℕ → ℕ → Bool = λ s b. node_reads signals s b width node in
      let q : ℕ → ℕ → Bool = λ s b. parts_read signals s b rest in
      let one : node_value signals V width node ≡ node_value signals W width node =
      node_value-agrees signals V W width node (agree_left p q V W h) in
      ap (λ n. joined signals V (left * 2 ^ width + n) rest) one
      ∙ joined-agrees signals V W (left * 2 ^ width + node_value signals W width node) rest (agree_right p q V W h)

-- the value of an expression is the same in two valuations that agree on the bits that it reads
pub value-agrees : (signals : List Signal) (V W : Valuation) (e : Typed) → AgreeOn (λ s b. reads signals s b e) V W → value signals V e ≡ value signals W e
value-agrees signals V W e h = node_value-agrees signals V W e.width e.node h

pub index_value-agrees : (signals : List Signal) (V W : Valuation) (e : Typed) → AgreeOn (λ s b. reads signals s b e) V W → index_value signals V e ≡ index_value signals W e
index_value-agrees signals V W e h = ap (integer_of e.signed e.width) (value-agrees signals V W e h)

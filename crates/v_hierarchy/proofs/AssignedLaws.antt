-- Values that are assigned to what has a width, and their ranges.
use Rattle.std.proofs.Common.{◌≡◌, ℕ, ◌+◌, ◌-◌, ◌%◌, ◌^◌, ◌<◌, ◌≤◌, Bool, true, false, refl, ap, sym, ◌∙◌, subst, arith}
use Rattle.std.specs.Prelude.{if◌then◌else◌, max, ◌&&◌, pos, ◌-ℤ◌}
use Rattle.std.proofs.lemmas.Int.{ints}
use Rattle.std.proofs.Math.Nat.{mod-eq_of_lt, max-eq_right, max-eq_left}
use Rattle.loc_base.specs.declared.bits.Bits.{Bits}
use Rattle.loc_base.specs.Bits.{width_of, value_of, width_of-low, width_of-high, value_of-range}
use Rattle.loc_base.specs.Word.{extended, is_negative}
use Rattle.v_sizes.specs.declared.meaning.Const.{Const}
use Rattle.v_sizes.specs.Context.{HasRange}
use Rattle.v_sizes.specs.Literal.{limited}
use Rattle.v_sizes.specs.Word.{word}
use Rattle.v_sizes.proofs.SameWord.{same_word, limited-within}
use Rattle.v_hierarchy.specs.declared.bounds.Bounds.{Bounds}
use Rattle.v_hierarchy.specs.Constants.{assigned, down_from, width}
use Rattle.v_hierarchy.specs.Stands.{IsRange}
use Rattle.v_hierarchy.proofs.RangeLaws.{between}

word-width : (width value : ℕ) → width_of (word width value) ≡ limited width
unfolding word
word-width width value = refl

word-value : (width value : ℕ) → value_of (word width value) ≡ value % 2 ^ limited width
unfolding word
word-value width value = refl

-- a word of the width, with the value cut to it
as_word : (w : ℕ) (v : ℕ) (b : Bits) → 1 ≤ w → w ≤ 128 → width_of b ≡ w → value_of b ≡ v % 2 ^ w → b ≡ word w v
as_word w v b least most wide is =
    let limit : limited w ≡ w = limited-within w least most in
    same_word b (word w v) (wide ∙ sym limit ∙ sym (word-width w v)) (is ∙ sym (ap (λ k. v % 2 ^ k) limit) ∙ sym (word-value w v))

-- what is not carried to more bits is itself
extended-same : (signed : Bool) (w v : ℕ) → extended signed w w v ≡ v
extended-same signed w v = step (signed && is_negative w v)
  where
    step : (b : Bool) → (if b then v + (2 ^ w - 2 ^ w) else v) ≡ v
    step true = omega arith
    step false = refl

pub cut-assigned : (w : ℕ) (signed : Bool) (c : Const) (b : Bits) → 1 ≤ w → w ≤ 128 → w ≤ width_of c.bits → width_of b ≡ w → value_of b ≡ value_of c.bits % 2 ^ w
    → record { bits = b; signed = signed } ≡ assigned w signed c
cut-assigned w signed c b least most narrow wide is =
    let whole : extended c.signed (width_of c.bits) (max w (width_of c.bits)) (value_of c.bits) ≡ value_of c.bits =
    ap (λ k. extended c.signed (width_of c.bits) k (value_of c.bits)) (max-eq_right narrow) ∙ extended-same c.signed (width_of c.bits) (value_of c.bits) in
    ap (λ (x : Bits). record { bits = x; signed = signed }) (as_word w _ b least most wide (is ∙ ap (λ v. v % 2 ^ w) (sym whole)))

pub extended-assigned : (w : ℕ) (signed : Bool) (c : Const) (b : Bits) → 1 ≤ w → w ≤ 128 → width_of c.bits < w → width_of b ≡ w
    → value_of b ≡ extended c.signed (width_of c.bits) w (value_of c.bits) → record { bits = b; signed = signed } ≡ assigned w signed c
extended-assigned w signed c b least most wider wide is =
    let whole : extended c.signed (width_of c.bits) (max w (width_of c.bits)) (value_of c.bits) ≡ value_of b =
    ap (λ k. extended c.signed (width_of c.bits) k (value_of c.bits)) (max-eq_left (omega (arith, wider))) ∙ sym is in
    let below : value_of b < 2 ^ w = subst (λ k. value_of b < 2 ^ k) wide (value_of-range b) in
    ap (λ (x : Bits). record { bits = x; signed = signed }) (as_word w _ b least most wide (sym (mod-eq_of_lt below) ∙ ap (λ v. v % 2 ^ w) (sym whole)))

-- the range of a width that is not written
down-range : (w : ℕ) → 1 ≤ w → w ≤ 128 → HasRange w (down_from w).left (down_from w).right
down-range w least most = record { least = least; most = most; range = grind (arith, ints) }

pub bits_range : (b : Bits) → HasRange (width_of b) (down_from (width_of b)).left (down_from (width_of b)).right
bits_range b = down-range (width_of b) (width_of-low b) (width_of-high b)

pub assigned_range : (b : Bounds) (signed : Bool) (c : Const) → IsRange b → HasRange (width_of (assigned (width b) signed c).bits) b.left b.right
assigned_range b signed c range =
    subst (λ w. HasRange w b.left b.right) (sym (word-width (width b) _ ∙ limited-within (width b) range.least range.most)) range

pub counted_width : (signed : Bool) (c : Const) → width_of (assigned 32 signed c).bits ≡ 32
counted_width signed c = word-width 32 _ ∙ limited-within 32 (omega arith) (omega arith)

-- A word is the one that its width and its value make.
use Rattle.std.proofs.Common.{◌≡◌, ℕ, ◌%◌, ◌^◌, ◌≤◌, ◌<◌, ap, sym, ◌∙◌, refl}
use Rattle.std.specs.Prelude.{max}
use Rattle.std.proofs.Props.{props}
use Rattle.std.proofs.Math.Nat.{mod-eq_of_lt, mod-mod, min-eq_left, max-eq_right}
use mathlib.Core.HLevel.{is_prop→PathP}
use Rattle.loc_base.specs.declared.bits.Bits.{Bits}
use Rattle.loc_base.specs.Bits.{width_of, value_of, width_of-low, width_of-high, value_of-range}
use Rattle.v_sizes.specs.Literal.{limited}
use Rattle.v_sizes.specs.Word.{word}

pub same_word : (a b : Bits) → width_of a ≡ width_of b → value_of a ≡ value_of b → a ≡ b
same_word a b width value =
    λ i. record {
      width = width i;
      value = value i;
      at_least_one = is_prop→PathP (λ j. 1 ≤ width j) (λ j. hlevel props) a.at_least_one b.at_least_one i;
      at_most_128 = is_prop→PathP (λ j. width j ≤ 128) (λ j. hlevel props) a.at_most_128 b.at_most_128 i;
      in_range = is_prop→PathP (λ j. value j < 2 ^ width j) (λ j. hlevel props) a.in_range b.in_range i;
    }

pub limited-within : (w : ℕ) → 1 ≤ w → w ≤ 128 → limited w ≡ w
limited-within w least most = ap (max 1) (min-eq_left most) ∙ max-eq_right least

word-width : (width value : ℕ) → width_of (word width value) ≡ limited width
unfolding word
word-width width value = refl

word-value : (width value : ℕ) → value_of (word width value) ≡ value % 2 ^ limited width
unfolding word
word-value width value = refl

-- a word by its width and value
pub word-of : (w : Bits) → word (width_of w) (value_of w) ≡ w
word-of w =
    let limit : limited (width_of w) ≡ width_of w = limited-within (width_of w) (width_of-low w) (width_of-high w) in
    same_word (word (width_of w) (value_of w)) w (word-width (width_of w) (value_of w) ∙ limit)
    (word-value (width_of w) (value_of w) ∙ ap (λ k. value_of w % 2 ^ k) limit ∙ mod-eq_of_lt (value_of-range w))

-- only the low bits count
pub word-low : (width value : ℕ) → 1 ≤ width → width ≤ 128 → word width (value % 2 ^ width) ≡ word width value
word-low width value least most =
    let limit : limited width ≡ width = limited-within width least most in
    same_word (word width (value % 2 ^ width)) (word width value) (word-width width (value % 2 ^ width) ∙ sym (word-width width value))
    (word-value width (value % 2 ^ width) ∙ ap (λ k. value % 2 ^ width % 2 ^ k) limit ∙ mod-mod value (2 ^ width)
    ∙ sym (ap (λ k. value % 2 ^ k) limit) ∙ sym (word-value width value))

pub ruleset words = (word-of, word-low)

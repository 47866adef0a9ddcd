-- The word 0.
use Rattle.std.proofs.Common.{◌≡◌, ℕ, ◌%◌, ◌^◌, ◌≤◌, refl, sym, ◌∙◌}
use Rattle.std.proofs.lemmas.Nat.{pow_pos}
use Rattle.std.proofs.Math.Nat.{mod-eq_of_lt}
use Rattle.loc_base.specs.declared.bits.Bits.{Bits}
use Rattle.loc_base.specs.Bits.{width_of, value_of}
use Rattle.v_sizes.specs.Literal.{limited}
use Rattle.v_sizes.specs.Word.{word}
use Rattle.v_sizes.proofs.SameWord.{same_word, limited-within}

word-width : (w v : ℕ) → width_of (word w v) ≡ limited w
unfolding word
word-width w v = refl

word-value : (w v : ℕ) → value_of (word w v) ≡ v % 2 ^ limited w
unfolding word
word-value w v = refl

pub zero-word : (b : Bits) (w : ℕ) → 1 ≤ w → w ≤ 128 → width_of b ≡ w → value_of b ≡ 0 → b ≡ word w 0
zero-word b w least most wide none =
    same_word b (word w 0) (wide ∙ sym (limited-within w least most) ∙ sym (word-width w 0)) (none ∙ sym (mod-eq_of_lt (pow_pos (limited w))) ∙ sym (word-value w 0))

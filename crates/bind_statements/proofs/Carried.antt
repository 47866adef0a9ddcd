-- A word that is carried to a width, or cut to it.
use Rattle.std.proofs.Common.{◌≡◌, ℕ, ◌+◌, ◌-◌, ◌%◌, ◌^◌, ◌<◌, ◌≤◌, Bool, true, false, refl, ap, sym, subst, ◌∙◌, arith, cond}
use Rattle.std.specs.Prelude.{◌&&◌}
use Rattle.std.proofs.Math.Nat.{mod-eq_of_lt, pow-le-pow_right}
use Rattle.loc_base.specs.declared.bits.Bits.{Bits}
use Rattle.loc_base.specs.Bits.{width_of, value_of, value_of-range}
use Rattle.loc_base.specs.Word.{is_negative, extended}
use Rattle.v_sizes.specs.Word.{word}
use Rattle.v_sizes.proofs.SameWord.{word-of, word-low}

-- a word's value fits its width
pub fits-width : (w : Bits) (width number : ℕ) → width_of w ≡ width → value_of w ≡ number → value_of w ≡ number % 2 ^ width
fits-width w width number wide is =
    is ∙ sym (mod-eq_of_lt (subst (λ k. number < 2 ^ k) wide (subst (λ n. n < 2 ^ width_of w) is (value_of-range w))))

-- a word is not carried to a narrower one
pub carried-none : (signed : Bool) (from to value : ℕ) → to ≤ from → extended signed from to value ≡ value
carried-none signed from to value narrow = go (signed && is_negative from value)
  where
    least : 2 ^ to ≤ 2 ^ from
    least = pow-le-pow_right (omega arith) narrow

    go : (b : Bool) → cond b (value + (2 ^ to - 2 ^ from)) value ≡ value
    go true = omega (arith, least)
    go false = refl

-- a word by its width and its value
pub word-by : (w : Bits) (width number : ℕ) → 1 ≤ width → width ≤ 128 → width_of w ≡ width → value_of w ≡ number % 2 ^ width → w ≡ word width number
word-by w width number least most wide is =
    sym (word-of w) ∙ ap (λ k. word k (value_of w)) wide ∙ ap (word width) is ∙ word-low width number least most

pub ruleset carried_laws = (fits-width, carried-none)

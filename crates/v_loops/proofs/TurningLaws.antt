-- A value of a loop's variable: 32 bits and a sign, so that its whole number is an index.
use Rattle.std.proofs.Common.{◌≡◌, ℕ, ◌<◌, ◌^◌, List, Bool, true, false, refl, sym, ap, ◌∙◌, subst, arith}
use Rattle.std.specs.Prelude.{ℤ, Result, Ok, Err, IfOk}
use Rattle.std.proofs.lemmas.Grind.{common_steps}
use Rattle.loc_base.specs.Bits.{width_of, value_of, value_of-range}
use Rattle.v_syntax.specs.Tree.{Tree}
use Rattle.design_core.specs.Operator.{integer_of}
use Rattle.v_sizes.specs.declared.meaning.Const.{Const}
use Rattle.v_hierarchy.specs.declared.error.ElabErr.{ElabErr}
use Rattle.v_hierarchy.specs.Constants.{integer, is_index, constant_at}
use Rattle.v_hierarchy.specs.Names.{Entry, look_in}
use Rattle.v_hierarchy.specs.Steps.{◌>>=◌}
use Rattle.v_hierarchy.specs.Unrolled.{counted, counted_at}
use Rattle.v_loops.specs.Heads.{IsTurning}

-- what is counted has a sign
counted-signed : (frames : List (List Entry)) (e : Tree) (c : Const) → counted_at frames e ≡ Ok c → c.signed ≡ true
counted-signed frames e c is = go (constant_at (look_in frames) 32 e) is
  where
    go : (r : Result Const ElabErr) → r >>= (λ c. Ok (counted c)) ≡ Ok c → c.signed ≡ true
    go (Ok d) is = let same : counted d ≡ c = cc in ap (λ (x : Const). x.signed) (sym same)
    go (Err e) is = cc

-- and 32 bits
pub counted-fits : (frames : List (List Entry)) (e : Tree) (r : Result Const ElabErr)
    → IfOk r (λ c. counted_at frames e ≡ Ok c) → IfOk r (λ c. width_of c.bits ≡ 32) → IfOk r IsTurning
counted-fits frames e (Ok c) is width = record { width = width; signed = counted-signed frames e c is }
counted-fits frames e (Err x) is width = tt

word-index : (value : ℕ) → value < 4294967296 → is_index (integer_of true 32 value) ≡ true
word-index value below = grind (arith, common_steps)

-- its number is an index
pub turning-index : (c : Const) → IsTurning c → is_index (integer c) ≡ true
turning-index c is =
    let low : value_of c.bits < 2 ^ 32 = subst (λ w. value_of c.bits < 2 ^ w) is.width (value_of-range c.bits) in
    ap (λ s. is_index (integer_of s (width_of c.bits) (value_of c.bits))) is.signed
    ∙ ap (λ w. is_index (integer_of true w (value_of c.bits))) is.width ∙ word-index (value_of c.bits) low

pub ruleset turning_steps = (turning-index)

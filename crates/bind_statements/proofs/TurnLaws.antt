-- The variable of a loop at a turn.
use Rattle.std.proofs.Common.{◌≡◌, sym, subst, refl, arith}
use Rattle.std.specs.Prelude.{pos}
use Rattle.loc_base.specs.Bits.{width_of}
use Rattle.v_sizes.specs.declared.meaning.Const.{Const}
use Rattle.v_sizes.specs.Context.{HasRange, IsMeaning}
use Rattle.v_binding.specs.declared.known.Use.TheVariants.{AtTurn as at_turn}
use Rattle.v_binding.specs.Uses.{bare_meaning}

-- a word of 32 bits is what an integer can be
pub turn-stands : (value : Const) → width_of value.bits ≡ 32 → IsMeaning (bare_meaning (at_turn value))
turn-stands value is = subst (λ w. HasRange w (pos 31) (pos 0)) (sym is) (record { least = omega arith; most = omega arith; range = refl })

pub ruleset turn_laws = (turn-stands)

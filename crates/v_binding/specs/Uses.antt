-- What a name stands for in expressions.
use Rattle.std.specs.Prelude.{true, pos, Option, Some, None}
use Rattle.std.proofs.Props.{props}
use Rattle.v_sizes.specs.declared.meaning.Meaning.{Meaning}
use Rattle.v_sizes.specs.declared.meaning.Meaning.TheVariants as meaning
use Rattle.v_sizes.specs.Context.{IsMeaning}
use Rattle.v_binding.specs.declared.known.Use.{Use}
use Rattle.v_binding.specs.declared.known.Use.TheVariants.{Stands as stands, AtTurn as at_turn, Outside as outside}

-- as an expression has it: the variable of a loop is nothing outside its turns
abbrev pub meaning_of : Use → Option Meaning
meaning_of (stands m) = Some m
meaning_of (at_turn value) = Some (meaning.Constant value (pos 31) (pos 0))
meaning_of outside = None

-- the same, where the variable of a loop is a register outside its turns
abbrev pub bare_meaning : Use → Meaning
bare_meaning (stands m) = m
bare_meaning (at_turn value) = meaning.Constant value (pos 31) (pos 0)
bare_meaning outside = meaning.Signal 0 32 true (pos 31) (pos 0)

-- that a name stands for something of 1 to 128 bits is one fact
IsMeaning-prop : (m : Meaning) → IsProp (IsMeaning m)
IsMeaning-prop (meaning.Constant value left right) = Prim.hlevel props
IsMeaning-prop (meaning.Signal signal width signed left right) = Prim.hlevel props
IsMeaning-prop (meaning.Array first count low width signed left right) = Prim.hlevel props

pub IsUse-prop : (u : Use) → IsProp (IsMeaning (bare_meaning u))
IsUse-prop u = IsMeaning-prop (bare_meaning u)

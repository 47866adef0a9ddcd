-- That every name of a scope stands for something is one fact: it holds in one way.
use Rattle.std.specs.Prelude.{ℕ, ℤ}
use Rattle.std.proofs.Props.{props}
use Rattle.v_sizes.specs.declared.meaning.Meaning.{Meaning}
use Rattle.v_sizes.specs.declared.meaning.Meaning.TheVariants as meaning
use Rattle.v_sizes.specs.Look.{Look}
use Rattle.v_sizes.specs.Context.{HasRange, IsMeaning, IsScope}

HasRange-prop : (width : ℕ) (left right : ℤ) → IsProp (HasRange width left right)
HasRange-prop width left right = Prim.hlevel props

IsMeaning-prop : (m : Meaning) → IsProp (IsMeaning m)
IsMeaning-prop (meaning.Constant value left right) = Prim.hlevel props
IsMeaning-prop (meaning.Signal signal width signed left right) = Prim.hlevel props
IsMeaning-prop (meaning.Array first count low width signed left right) = Prim.hlevel props

pub IsScope-prop : (look : Look) → IsProp (IsScope look)
IsScope-prop look = Prim.hlevel (props, IsMeaning-prop)

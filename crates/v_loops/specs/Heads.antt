-- Values of the variables of loops (IEEE 1364-2005, 4.8: a genvar and an integer have 32 bits and a sign).
use Rattle.std.specs.Prelude.{◌≡◌, true}
use Rattle.loc_base.specs.Bits.{width_of}
use Rattle.v_sizes.specs.declared.meaning.Const.{Const}

pub record IsTurning (value : Const) : Type 0 where
  pub width : width_of value.bits ≡ 32
  pub signed : value.signed ≡ true

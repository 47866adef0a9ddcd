-- The code's whole numbers as contracts see them.
use Rattle.std.specs.Prelude.{ℤ, pos, negsuc}
use Rattle.v_selects.specs.declared.integer.Integer.{Integer}
use Rattle.v_selects.specs.declared.integer.Integer.TheVariants.{Natural, Below}

abbrev pub whole : Integer → ℤ
whole (Natural n) = pos n
whole (Below n) = negsuc n

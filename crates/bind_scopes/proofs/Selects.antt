-- Whether there are two selects, by their number.
use Rattle.std.proofs.Common.{◌≡◌, List, [], ◌∷◌, length, map, refl, arith}
use Rattle.std.specs.Prelude.{nat_le}
use Rattle.v_syntax.specs.declared.expression.Select.{Select}
use Rattle.v_syntax.specs.Tree.{selection_of, selections_of}
use Rattle.v_binding.specs.Unknown.{has_two}

pub two-selects : (ss : List Select) → has_two (selections_of (map selection_of ss)) ≡ nat_le 2 (length ss)
two-selects [] = refl
two-selects (one ∷ []) = refl
two-selects (one ∷ other ∷ rest) = grind arith

pub ruleset two_selects = (two-selects)

-- The last part of a concatenation, its parts as a list; only private contracts cite it.
use Rattle.std.specs.Prelude.{false, List, [], ◌∷◌}
use Rattle.design_core.specs.declared.expression.Typed.{Typed}
use Rattle.design_core.specs.declared.expression.Node.{Node}
use Rattle.v_sizes.specs.Sized.{constant}
use Rattle.v_binding.specs.Gates.{low_node}

abbrev pub last_low : List Typed → Node
last_low [] = (constant 1 false 0).node
last_low (one ∷ []) = low_node one.node
last_low (_ ∷ one ∷ rest) = last_low (one ∷ rest)

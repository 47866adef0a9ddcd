-- The paths of scopes and instances (IEEE 1364-2005, 12.5): parts joined by dots. A block without a label has its line instead,
-- and a turn of a loop its variable's value in brackets.
use Rattle.std.specs.Prelude.{ℕ, ℤ, List, [], ◌∷◌, ◌++◌, Some, None, decimal}
use Rattle.std.specs.Fmt.{signed_decimal}
use Rattle.v_syntax.specs.declared.site.Site.{Site}
use Rattle.v_syntax.specs.ItemTree.{PlainBlock, single, several}

-- path.part
abbrev pub below : List ℕ → List ℕ → List ℕ
below path part = path ++ 46 ∷ part

-- @line
abbrev pub line_part : Site → List ℕ
line_part s = 64 ∷ decimal s.line

abbrev pub block_part : PlainBlock → List ℕ
block_part (single s _) = line_part s
block_part (several s None _) = line_part s
block_part (several s (Some label) _) = label.name

-- part[turn]
abbrev pub turn_part : PlainBlock → ℤ → List ℕ
turn_part block turn = block_part block ++ 91 ∷ signed_decimal turn ++ 93 ∷ []

-- How the code reads the words and the types of declarations: the function on lists that each reader is. No public clause speaks
-- of it.
use Rattle.std.specs.Prelude.{ℕ, ◌+◌, List, Option, Some, None, Ok, Err, if◌then◌else◌, Bool, true, false}
use Rattle.v_lexer.specs.Lexeme.{Lexeme}
use Rattle.v_syntax.specs.declared.item.Direction.{Direction}
use Rattle.v_syntax.specs.declared.item.Direction.TheVariants as direction
use Rattle.v_syntax.specs.declared.item.NetKind.{NetKind}
use Rattle.v_syntax.specs.declared.item.NetKind.TheVariants as net
use Rattle.v_lexer.specs.declared.types.terminal.Terminal.TheVariants as mark
use Rattle.v_tree.specs.Marks.{mark_at, same}
use Rattle.v_tree.specs.Faults.{no_place}
use Rattle.v_tree.specs.Reading.{Read, ◌>>=◌}
use Rattle.v_syntax.specs.PartTree.{PlainRange}
use Rattle.v_syntax.specs.ItemTree.{PlainParameterType, vector_type, integer_type}
use Rattle.v_parts.specs.Reading.{optional_at, range_at}

unfoldable pub direction_at : List Lexeme → ℕ → Read Direction
direction_at tokens a =
    if same (mark_at tokens a) mark.Input then Ok (direction.Input, a + 1) else if same (mark_at tokens a) mark.Output then Ok (direction.Output, a + 1)
    else Err (no_place tokens a)

unfoldable pub net_if_at : List Lexeme → ℕ → Read (Option NetKind)
net_if_at tokens a =
    if same (mark_at tokens a) mark.Wire then Ok (Some net.Wire, a + 1) else if same (mark_at tokens a) mark.Reg then Ok (Some net.Reg, a + 1)
    else Ok (None, a)

unfoldable pub signed_if_at : List Lexeme → ℕ → Read Bool
signed_if_at tokens a = if same (mark_at tokens a) mark.Signed then Ok (true, a + 1) else Ok (false, a)

abbrev pub range_if_at : List Lexeme → ℕ → ℕ → Read (Option PlainRange)
range_if_at tokens nesting_left a = optional_at tokens mark.OpenBracket (range_at tokens nesting_left) a

unfoldable pub vector_type_at : List Lexeme → ℕ → ℕ → Read PlainParameterType
vector_type_at tokens nesting_left a = signed_if_at tokens a >>= λ s. range_if_at tokens nesting_left s.1 >>= λ r. Ok (vector_type s.0 r.0, r.1)

unfoldable pub parameter_type_at : List Lexeme → ℕ → ℕ → Read PlainParameterType
parameter_type_at tokens nesting_left a = if same (mark_at tokens a) mark.Integer then Ok (integer_type, a + 1) else vector_type_at tokens nesting_left a

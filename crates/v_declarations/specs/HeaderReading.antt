-- How the code reads the header of a module: the function on lists that each reader is. No public clause speaks of it.
use Rattle.std.specs.Prelude.{ℕ, ◌+◌, List, [], ◌∷◌, length, Option, None, Ok, Err, if◌then◌else◌, Bool, true, false}
use Rattle.v_lexer.specs.Lexeme.{Lexeme}
use Rattle.v_syntax.specs.declared.item.Direction.{Direction}
use Rattle.v_syntax.specs.declared.item.NetKind.{NetKind}
use Rattle.v_lexer.specs.declared.types.terminal.Terminal.TheVariants as mark
use Rattle.v_tree.specs.Marks.{mark_at, same}
use Rattle.v_tree.specs.Sites.{site}
use Rattle.v_tree.specs.Faults.{no_place}
use Rattle.v_syntax.specs.Tree.{Tree}
use Rattle.v_tree.specs.Reading.{Read, ◌>>=◌, expect}
use Rattle.v_syntax.specs.PartTree.{PlainRange}
use Rattle.v_syntax.specs.ModuleTree.{PlainHeaderParameter, PlainPort, declared_port, same_port, PlainPorts, no_ports, name_ports, declared_ports}
use Rattle.v_parts.specs.Reading.{optional_at, list_at, run_at, name_at, identifier_at, value_at, equals_at, unless_at}
use Rattle.v_declarations.specs.Types.{is_direction, is_output_reg}
use Rattle.v_declarations.specs.TypeReading.{direction_at, net_if_at, signed_if_at, range_if_at, parameter_type_at}
use Rattle.v_declarations.specs.Headers.{is_reg}

unfoldable pub parameter_word_at : List Lexeme → ℕ → Read Bool
parameter_word_at tokens a = if same (mark_at tokens a) mark.Parameter then Ok (true, a + 1) else Ok (false, a)

unfoldable pub header_parameter_at : List Lexeme → ℕ → ℕ → Read PlainHeaderParameter
header_parameter_at tokens nesting_left a =
    parameter_word_at tokens a >>= λ o. parameter_type_at tokens nesting_left o.1 >>= λ t. identifier_at tokens t.1 >>= λ x. expect tokens mark.Equals x.1 >>= λ m.
    value_at tokens nesting_left m >>= λ y. Ok (record { site = site tokens a y.1; opens = o.0; type_of = t.0; name = x.0; value = y.0 }, y.1)

-- parameters up to a closing parenthesis
unfoldable pub closed_parameters_at : List Lexeme → ℕ → ℕ → Read (List PlainHeaderParameter)
closed_parameters_at tokens nesting_left a = list_at tokens (header_parameter_at tokens nesting_left) a >>= λ xs. expect tokens mark.Close xs.1 >>= λ b. Ok (xs.0, b)

-- the word parameter stands before the first
unfoldable pub parameters_behind_at : List Lexeme → ℕ → ℕ → Read (List PlainHeaderParameter)
parameters_behind_at tokens nesting_left a = if same (mark_at tokens a) mark.Parameter then closed_parameters_at tokens nesting_left a else Err (no_place tokens a)

unfoldable pub parameters_at : List Lexeme → ℕ → ℕ → Read (List PlainHeaderParameter)
parameters_at tokens nesting_left a = expect tokens mark.Hash a >>= λ m. expect tokens mark.Open m >>= λ n. parameters_behind_at tokens nesting_left n

unfoldable pub header_parameters_at : List Lexeme → ℕ → ℕ → Read (List PlainHeaderParameter)
header_parameters_at tokens nesting_left a = if same (mark_at tokens a) mark.Hash then parameters_at tokens nesting_left a else Ok ([], a)

-- the value of an output reg; another port has none
unfoldable pub value_of_at : List Lexeme → ℕ → Bool → ℕ → Read (Option Tree)
value_of_at tokens nesting_left reg a = if reg then optional_at tokens mark.Equals (equals_at tokens nesting_left) a else unless_at tokens mark.Equals a (Ok (None, a))

unfoldable pub port_value_at : List Lexeme → ℕ → Bool → ℕ → Read (Option Tree)
port_value_at tokens nesting_left reg a = unless_at tokens mark.OpenBracket a (value_of_at tokens nesting_left reg a)

-- the name of a port that begins at `from`
unfoldable pub port_name_at : List Lexeme → ℕ → ℕ → Direction → Option NetKind → Bool → Option PlainRange → ℕ → Read PlainPort
port_name_at tokens nesting_left from direction net signed range a =
    identifier_at tokens a >>= λ x. port_value_at tokens nesting_left (is_output_reg direction net) x.1 >>= λ y.
    Ok (declared_port (site tokens from y.1) direction net signed range x.0 y.0, y.1)

unfoldable pub declared_port_at : List Lexeme → ℕ → ℕ → Read PlainPort
declared_port_at tokens nesting_left a =
    direction_at tokens a >>= λ d. net_if_at tokens d.1 >>= λ n. signed_if_at tokens n.1 >>= λ s. range_if_at tokens nesting_left s.1 >>= λ r.
    port_name_at tokens nesting_left a d.0 n.0 s.0 r.0 r.1

unfoldable pub same_port_at : List Lexeme → ℕ → Bool → ℕ → Read PlainPort
same_port_at tokens nesting_left reg a = identifier_at tokens a >>= λ x. port_value_at tokens nesting_left reg x.1 >>= λ y. Ok (same_port (site tokens a y.1) x.0 y.0, y.1)

unfoldable pub port_at : List Lexeme → ℕ → Bool → ℕ → Read PlainPort
port_at tokens nesting_left reg a = if is_direction (mark_at tokens a) then declared_port_at tokens nesting_left a else same_port_at tokens nesting_left reg a

unfoldable pub next_port_at : List Lexeme → ℕ → Bool → ℕ → Read PlainPort
next_port_at tokens nesting_left reg a = expect tokens mark.Comma a >>= λ m. port_at tokens nesting_left reg m

-- the ports behind the first
unfoldable pub ports_at : List Lexeme → ℕ → PlainPort → ℕ → Read (List PlainPort)
ports_at tokens nesting_left first a = run_at tokens mark.Close (next_port_at tokens nesting_left) is_reg (length tokens) (is_reg false first) a >>= λ xs. Ok (first ∷ xs.0, xs.1)

unfoldable pub port_list_at : List Lexeme → ℕ → ℕ → Read PlainPorts
port_list_at tokens nesting_left a = declared_port_at tokens nesting_left a >>= λ x. ports_at tokens nesting_left x.0 x.1 >>= λ xs. Ok (declared_ports xs.0, xs.1)

-- what stands behind the names; a value is left out
unfoldable pub close_names_at : List Lexeme → PlainPorts → ℕ → Read PlainPorts
close_names_at tokens ports a = unless_at tokens mark.Equals a (expect tokens mark.Close a >>= λ b. Ok (ports, b))

unfoldable pub name_list_at : List Lexeme → ℕ → Read PlainPorts
name_list_at tokens a = list_at tokens (identifier_at tokens) a >>= λ xs. close_names_at tokens (name_ports xs.0) xs.1

unfoldable pub some_ports_at : List Lexeme → ℕ → ℕ → Read PlainPorts
some_ports_at tokens nesting_left a = if is_direction (mark_at tokens a) then port_list_at tokens nesting_left a else name_list_at tokens a

unfoldable pub ports_behind_at : List Lexeme → ℕ → ℕ → Read PlainPorts
ports_behind_at tokens nesting_left a = if same (mark_at tokens a) mark.Close then Ok (no_ports, a + 1) else some_ports_at tokens nesting_left a

unfoldable pub ports_in_parens_at : List Lexeme → ℕ → ℕ → Read PlainPorts
ports_in_parens_at tokens nesting_left a = expect tokens mark.Open a >>= λ m. ports_behind_at tokens nesting_left m

unfoldable pub header_ports_at : List Lexeme → ℕ → ℕ → Read PlainPorts
header_ports_at tokens nesting_left a = if same (mark_at tokens a) mark.Open then ports_in_parens_at tokens nesting_left a else Ok (no_ports, a)

-- How the code reads assignments, gates and instances: the function on lists that each reader is. No public clause speaks of it.
use Rattle.std.specs.Prelude.{ℕ, ◌+◌, Bool, List, [], Option, Some, None, is_some, Ok, Err, if◌then◌else◌}
use Rattle.v_lexer.specs.Lexeme.{Lexeme}
use Rattle.v_syntax.specs.declared.declaration.Identifier.{Identifier}
use Rattle.v_syntax.specs.declared.item.GateKind.{GateKind}
use Rattle.v_lexer.specs.declared.types.terminal.Terminal.{Terminal}
use Rattle.v_lexer.specs.declared.types.terminal.Terminal.TheVariants as mark
use Rattle.v_tree.specs.Marks.{mark_at, same}
use Rattle.v_tree.specs.Sites.{site}
use Rattle.v_tree.specs.Faults.{no_place}
use Rattle.v_syntax.specs.Tree.{Tree}
use Rattle.v_tree.specs.Reading.{Read, ◌>>=◌, expect}
use Rattle.v_parts.specs.Reading.{optional_at, list_at, name_at, identifier_at, value_at, delay_at, left_at}
use Rattle.v_syntax.specs.ItemTree.{PlainItem, assign_item, gate_item, instance_item, PlainAssignment, PlainGate, PlainConnection, PlainConnections, ordered, named, PlainInstance}
use Rattle.v_declarations.specs.Structures.{gate_kind, ends_connection}

unfoldable pub assignment_at : List Lexeme → ℕ → ℕ → Read PlainAssignment
assignment_at tokens nesting_left a =
    left_at tokens nesting_left a >>= λ x. expect tokens mark.Equals x.1 >>= λ m. value_at tokens nesting_left m >>= λ y.
    Ok (record { site = site tokens a y.1; target = x.0; value = y.0 }, y.1)

unfoldable pub assigns_at : List Lexeme → ℕ → ℕ → Read PlainItem
assigns_at tokens nesting_left a =
    expect tokens mark.Assign a >>= λ m. optional_at tokens mark.Hash (delay_at tokens nesting_left) m >>= λ d.
    list_at tokens (assignment_at tokens nesting_left) d.1 >>= λ xs. expect tokens mark.Semicolon xs.1 >>= λ b.
    Ok (assign_item (site tokens a b) d.0 xs.0, b)

-- the gate of the word at a
abbrev pub kind_found : List Lexeme → ℕ → Option GateKind → Read GateKind
kind_found tokens a None = Err (no_place tokens a)
kind_found tokens a (Some kind) = Ok (kind, a + 1)

unfoldable pub gate_word_at : List Lexeme → ℕ → Read GateKind
gate_word_at tokens a = kind_found tokens a (gate_kind (mark_at tokens a))

unfoldable pub gate_at : List Lexeme → ℕ → ℕ → Read PlainGate
gate_at tokens nesting_left a =
    optional_at tokens mark.Name (name_at tokens) a >>= λ x. expect tokens mark.Open x.1 >>= λ m.
    list_at tokens (value_at tokens nesting_left) m >>= λ xs. expect tokens mark.Close xs.1 >>= λ b.
    Ok (record { site = site tokens a b; name = x.0; terminals = xs.0 }, b)

unfoldable pub gates_at : List Lexeme → ℕ → ℕ → Read PlainItem
gates_at tokens nesting_left a =
    gate_word_at tokens a >>= λ k. optional_at tokens mark.Hash (delay_at tokens nesting_left) k.1 >>= λ d.
    list_at tokens (gate_at tokens nesting_left) d.1 >>= λ xs. expect tokens mark.Semicolon xs.1 >>= λ b.
    Ok (gate_item (site tokens a b) k.0 d.0 xs.0, b)

unfoldable pub connection_at : List Lexeme → ℕ → ℕ → Read (Option Tree)
connection_at tokens nesting_left a = if ends_connection (mark_at tokens a) then Ok (None, a) else (value_at tokens nesting_left a >>= λ x. Ok (Some x.0, x.1))

unfoldable pub named_connection_at : List Lexeme → ℕ → ℕ → Read PlainConnection
named_connection_at tokens nesting_left a =
    expect tokens mark.Dot a >>= λ m. identifier_at tokens m >>= λ x. expect tokens mark.Open x.1 >>= λ n. connection_at tokens nesting_left n >>= λ y.
    expect tokens mark.Close y.1 >>= λ b. Ok (record { site = site tokens a b; name = x.0; value = y.0 }, b)

unfoldable pub by_name_at : List Lexeme → ℕ → ℕ → Read PlainConnections
by_name_at tokens nesting_left a = list_at tokens (named_connection_at tokens nesting_left) a >>= λ xs. Ok (named xs.0, xs.1)

unfoldable pub by_order_at : List Lexeme → ℕ → ℕ → Read PlainConnections
by_order_at tokens nesting_left a = list_at tokens (connection_at tokens nesting_left) a >>= λ xs. Ok (ordered xs.0, xs.1)

-- what stands between the parentheses
unfoldable pub connections_at : List Lexeme → ℕ → ℕ → Read PlainConnections
connections_at tokens nesting_left a =
    if same (mark_at tokens a) mark.Close then Ok (ordered [], a)
    else if same (mark_at tokens a) mark.Dot then by_name_at tokens nesting_left a
    else by_order_at tokens nesting_left a

unfoldable pub connected_at : List Lexeme → ℕ → ℕ → Read PlainConnections
connected_at tokens nesting_left a =
    expect tokens mark.Open a >>= λ m. connections_at tokens nesting_left m >>= λ x. expect tokens mark.Close x.1 >>= λ b. Ok (x.0, b)

unfoldable pub overrides_at : List Lexeme → ℕ → ℕ → Read PlainConnections
overrides_at tokens nesting_left a = expect tokens mark.Hash a >>= λ m. connected_at tokens nesting_left m

unfoldable pub instance_at : List Lexeme → ℕ → ℕ → Read PlainInstance
instance_at tokens nesting_left a =
    identifier_at tokens a >>= λ x. connected_at tokens nesting_left x.1 >>= λ y. Ok (record { site = site tokens a y.1; name = x.0; connections = y.0 }, y.1)

unfoldable pub instances_at : List Lexeme → ℕ → ℕ → Read PlainItem
instances_at tokens nesting_left a =
    identifier_at tokens a >>= λ x. optional_at tokens mark.Hash (overrides_at tokens nesting_left) x.1 >>= λ p.
    list_at tokens (instance_at tokens nesting_left) p.1 >>= λ xs. expect tokens mark.Semicolon xs.1 >>= λ b.
    Ok (instance_item (site tokens a b) x.0 p.0 xs.0, b)

-- whether it is a gate's word
abbrev pub is_gate : Terminal → Bool
is_gate word = is_some (gate_kind word)

unfoldable pub structure_at : List Lexeme → ℕ → ℕ → Read PlainItem
structure_at tokens nesting_left a =
    if same (mark_at tokens a) mark.Assign then assigns_at tokens nesting_left a
    else if is_gate (mark_at tokens a) then gates_at tokens nesting_left a
    else instances_at tokens nesting_left a

-- How the code reads declarations: the function on lists that each reader is. No public clause speaks of it.
use Rattle.std.specs.Prelude.{ℕ, ◌+◌, List, Option, Some, None, Ok, Err, if◌then◌else◌, Bool, true, false, ◌&&◌, not}
use Rattle.v_lexer.specs.Lexeme.{Lexeme}
use Rattle.v_syntax.specs.declared.declaration.Identifier.{Identifier}
use Rattle.v_syntax.specs.declared.item.Direction.{Direction}
use Rattle.v_syntax.specs.declared.item.NetKind.{NetKind}
use Rattle.v_syntax.specs.declared.item.NetKind.TheVariants as nets
use Rattle.v_syntax.specs.declared.item.ParameterKind.{ParameterKind}
use Rattle.v_syntax.specs.declared.item.ParameterKind.TheVariants as kinds
use Rattle.v_lexer.specs.declared.types.terminal.Terminal.{Terminal}
use Rattle.v_lexer.specs.declared.types.terminal.Terminal.TheVariants as mark
use Rattle.v_tree.specs.declared.fault.Fault.TheVariants.{Unsupported}
use Rattle.v_tree.specs.Marks.{mark_at, same}
use Rattle.v_tree.specs.Sites.{site}
use Rattle.v_tree.specs.Faults.{no_place}
use Rattle.v_tree.specs.Reading.{Read, ◌>>=◌, expect}
use Rattle.v_parts.specs.Reading.{optional_at, list_at, name_at, identifier_at, equals_at, range_at, delay_at, named_value_at, unless_at}
use Rattle.v_syntax.specs.PartTree.{PlainRange}
use Rattle.v_syntax.specs.ItemTree.{PlainDeclarator, PlainItem, port_item, net_item, integer_item, genvar_item, parameter_item}
use Rattle.v_declarations.specs.Types.{is_direction, is_output_reg}
use Rattle.v_declarations.specs.TypeReading.{direction_at, net_if_at, signed_if_at, range_if_at, parameter_type_at}

-- the end of names, where an [ and, unless they may have values elsewhere, an = are of forms that are left out
unfoldable pub close_names_at : List Lexeme → Bool → List Identifier → ℕ → Read (List Identifier)
close_names_at tokens plain names a =
    unless_at tokens mark.OpenBracket a
    (if plain && same (mark_at tokens a) mark.Equals then Err (Unsupported a) else (expect tokens mark.Semicolon a >>= λ b. Ok (names, b)))

unfoldable pub names_at : List Lexeme → Bool → ℕ → Read (List Identifier)
names_at tokens plain a = list_at tokens (identifier_at tokens) a >>= λ xs. close_names_at tokens plain xs.0 xs.1

-- the names of a port item that begins at `from`; only of an output reg a value may stand elsewhere
unfoldable pub port_names_at : List Lexeme → ℕ → Direction → Option NetKind → Bool → Option PlainRange → ℕ → Read PlainItem
port_names_at tokens from direction net signed range a =
    names_at tokens (not (is_output_reg direction net)) a >>= λ xs. Ok (port_item (site tokens from xs.1) direction net signed range xs.0, xs.1)

unfoldable pub ports_at : List Lexeme → ℕ → ℕ → Read PlainItem
ports_at tokens nesting_left a =
    direction_at tokens a >>= λ d. net_if_at tokens d.1 >>= λ n. signed_if_at tokens n.1 >>= λ s. range_if_at tokens nesting_left s.1 >>= λ r.
    port_names_at tokens a d.0 n.0 s.0 r.0 r.1

unfoldable pub integers_at : List Lexeme → ℕ → Read PlainItem
integers_at tokens a = expect tokens mark.Integer a >>= λ m. names_at tokens false m >>= λ xs. Ok (integer_item (site tokens a xs.1) xs.0, xs.1)

unfoldable pub genvars_at : List Lexeme → ℕ → Read PlainItem
genvars_at tokens a = expect tokens mark.Genvar a >>= λ m. names_at tokens false m >>= λ xs. Ok (genvar_item (site tokens a xs.1) xs.0, xs.1)

unfoldable pub net_at : List Lexeme → ℕ → Read NetKind
net_at tokens a =
    if same (mark_at tokens a) mark.Wire then Ok (nets.Wire, a + 1) else if same (mark_at tokens a) mark.Reg then Ok (nets.Reg, a + 1)
    else Err (no_place tokens a)

-- the range of a name that begins at `from`
unfoldable pub array_at : List Lexeme → ℕ → ℕ → Identifier → ℕ → Read PlainDeclarator
array_at tokens nesting_left from name a =
    range_at tokens nesting_left a >>= λ r. unless_at tokens mark.Equals r.1 (Ok (record { site = site tokens from r.1; name = name; range = Some r.0; value = None }, r.1))

-- the range of a name, which only that of a reg may have
abbrev pub array_of : List Lexeme → ℕ → NetKind → ℕ → Identifier → ℕ → Read PlainDeclarator
array_of tokens nesting_left nets.Wire from name a = Err (Unsupported a)
array_of tokens nesting_left nets.Reg from name a = array_at tokens nesting_left from name a

-- the value of a name that begins at `from`
unfoldable pub scalar_at : List Lexeme → ℕ → ℕ → Identifier → ℕ → Read PlainDeclarator
scalar_at tokens nesting_left from name a =
    optional_at tokens mark.Equals (equals_at tokens nesting_left) a >>= λ v. Ok (record { site = site tokens from v.1; name = name; range = None; value = v.0 }, v.1)

unfoldable pub behind_name_at : List Lexeme → ℕ → NetKind → ℕ → Identifier → ℕ → Read PlainDeclarator
behind_name_at tokens nesting_left net from name a =
    if same (mark_at tokens a) mark.OpenBracket then array_of tokens nesting_left net from name a else scalar_at tokens nesting_left from name a

unfoldable pub declarator_at : List Lexeme → ℕ → NetKind → ℕ → Read PlainDeclarator
declarator_at tokens nesting_left net a = identifier_at tokens a >>= λ x. behind_name_at tokens nesting_left net a x.0 x.1

-- the delay and the names of a net item that begins at `from`
unfoldable pub net_names_at : List Lexeme → ℕ → ℕ → NetKind → Bool → Option PlainRange → ℕ → Read PlainItem
net_names_at tokens nesting_left from net signed range a =
    optional_at tokens mark.Hash (delay_at tokens nesting_left) a >>= λ d. list_at tokens (declarator_at tokens nesting_left net) d.1 >>= λ xs. expect tokens mark.Semicolon xs.1 >>= λ b.
    Ok (net_item (site tokens from b) net signed range d.0 xs.0, b)

unfoldable pub nets_at : List Lexeme → ℕ → ℕ → Read PlainItem
nets_at tokens nesting_left a =
    net_at tokens a >>= λ n. signed_if_at tokens n.1 >>= λ s. range_if_at tokens nesting_left s.1 >>= λ r. net_names_at tokens nesting_left a n.0 s.0 r.0 r.1

unfoldable pub parameter_kind_at : List Lexeme → ℕ → Read ParameterKind
parameter_kind_at tokens a =
    if same (mark_at tokens a) mark.Parameter then Ok (kinds.Parameter, a + 1) else if same (mark_at tokens a) mark.Localparam then Ok (kinds.Local, a + 1)
    else Err (no_place tokens a)

unfoldable pub parameters_at : List Lexeme → ℕ → ℕ → Read PlainItem
parameters_at tokens nesting_left a =
    parameter_kind_at tokens a >>= λ k. parameter_type_at tokens nesting_left k.1 >>= λ t. list_at tokens (named_value_at tokens nesting_left) t.1 >>= λ xs.
    expect tokens mark.Semicolon xs.1 >>= λ b. Ok (parameter_item (site tokens a b) k.0 t.0 xs.0, b)

-- the marks that nets begin with
abbrev pub is_net : Terminal → Bool
is_net mark.Wire = true
is_net mark.Reg = true
is_net _ = false

-- an item that declares
unfoldable pub declaration_at : List Lexeme → ℕ → ℕ → Read PlainItem
declaration_at tokens nesting_left a =
    if is_direction (mark_at tokens a) then ports_at tokens nesting_left a
    else if is_net (mark_at tokens a) then nets_at tokens nesting_left a
    else if same (mark_at tokens a) mark.Integer then integers_at tokens a
    else if same (mark_at tokens a) mark.Genvar then genvars_at tokens a
    else parameters_at tokens nesting_left a

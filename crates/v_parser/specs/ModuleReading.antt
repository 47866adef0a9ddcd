-- How the code reads modules: the function on lists that each reader is. No public clause speaks of it.
use Rattle.std.specs.Prelude.{ℕ, zero, suc, List, [], ◌∷◌, length, Ok, if◌then◌else◌, nat_lt}
use Rattle.v_lexer.specs.Lexeme.{Lexeme}
use Rattle.v_lexer.specs.declared.types.terminal.Terminal.TheVariants as mark
use Rattle.v_syntax.specs.declared.declaration.Identifier.{Identifier}
use Rattle.v_tree.specs.Sites.{site}
use Rattle.v_tree.specs.Reading.{Read, ◌>>=◌, expect}
use Rattle.v_syntax.specs.ModuleTree.{PlainHeaderParameter, PlainPorts, PlainModule}
use Rattle.v_parts.specs.Reading.{identifier_at}
use Rattle.v_declarations.specs.HeaderReading.{header_parameters_at, header_ports_at}
use Rattle.v_parser.specs.ItemReading.{items_at, item_at}

-- the items of a module that begins at `from`
unfoldable pub module_items_at : List Lexeme → ℕ → ℕ → Identifier → List PlainHeaderParameter → PlainPorts → ℕ → Read PlainModule
module_items_at tokens nesting_left from name parameters ports a =
    items_at tokens mark.Endmodule (item_at tokens nesting_left) a >>= λ xs.
    Ok (record { site = site tokens from xs.1; name = name; parameters = parameters; ports = ports; items = xs.0 }, xs.1)

unfoldable pub module_at : List Lexeme → ℕ → ℕ → Read PlainModule
module_at tokens nesting_left a =
    expect tokens mark.Module a >>= λ b. identifier_at tokens b >>= λ x. header_parameters_at tokens nesting_left x.1 >>= λ ps. header_ports_at tokens nesting_left ps.1 >>= λ qs.
    expect tokens mark.Semicolon qs.1 >>= λ c. module_items_at tokens nesting_left a x.0 ps.0 qs.0 c

-- modules up to the end of the tokens, at most so many
unfoldable pub modules_at : List Lexeme → ℕ → ℕ → Read (List PlainModule)
modules_at tokens zero a = Ok ([], a)
modules_at tokens (suc n) a =
    if nat_lt a (length tokens) then (module_at tokens 256 a >>= λ x. modules_at tokens n x.1 >>= λ xs. Ok (x.0 ∷ xs.0, xs.1)) else Ok ([], a)

unfoldable pub source_at : List Lexeme → ℕ → Read (List PlainModule)
source_at tokens a = modules_at tokens (length tokens) a

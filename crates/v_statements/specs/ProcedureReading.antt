-- How the code reads always and initial blocks: the function on lists that each reader is. No public clause speaks of it.
use Rattle.std.specs.Prelude.{ℕ, List, Ok, if◌then◌else◌}
use Rattle.v_lexer.specs.Lexeme.{Lexeme}
use Rattle.v_lexer.specs.declared.types.terminal.Terminal.TheVariants as mark
use Rattle.v_tree.specs.Marks.{mark_at, same}
use Rattle.v_tree.specs.Sites.{site}
use Rattle.v_tree.specs.Reading.{Read, ◌>>=◌, expect}
use Rattle.v_statements.specs.StatementReading.{statement_at}
use Rattle.v_statements.specs.InitialReading.{initial_at}
use Rattle.v_syntax.specs.ItemTree.{PlainItem, always_item, initial_item}
use Rattle.v_statements.specs.SensitivityReading.{sensitivity_at}

unfoldable pub always_at : List Lexeme → ℕ → ℕ → Read PlainItem
always_at tokens nesting_left a =
    expect tokens mark.Always a >>= λ m. expect tokens mark.At m >>= λ n. sensitivity_at tokens nesting_left n >>= λ e. statement_at tokens nesting_left e.1 >>= λ y.
    Ok (always_item (site tokens a y.1) e.0 y.0, y.1)

unfoldable pub initial_item_at : List Lexeme → ℕ → ℕ → Read PlainItem
initial_item_at tokens nesting_left a =
    expect tokens mark.Initial a >>= λ m. initial_at tokens nesting_left m >>= λ y. Ok (initial_item (site tokens a y.1) y.0, y.1)

-- any other token has no place
unfoldable pub procedure_at : List Lexeme → ℕ → ℕ → Read PlainItem
procedure_at tokens nesting_left a = if same (mark_at tokens a) mark.Always then always_at tokens nesting_left a else initial_item_at tokens nesting_left a

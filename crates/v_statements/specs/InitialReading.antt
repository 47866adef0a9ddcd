-- How the code reads initial blocks: the function on lists that each reader is. No public clause speaks of it.
use Rattle.std.specs.Prelude.{ℕ, zero, suc, ◌+◌, List, None, Ok, Err, if◌then◌else◌}
use Rattle.v_lexer.specs.Lexeme.{Lexeme}
use Rattle.v_syntax.specs.declared.statement.AssignKind.TheVariants.{Blocking}
use Rattle.v_lexer.specs.declared.types.terminal.Terminal.TheVariants as mark
use Rattle.v_tree.specs.declared.fault.Fault.TheVariants.{Unsupported, Deep}
use Rattle.v_tree.specs.Marks.{mark_at, same}
use Rattle.v_tree.specs.Sites.{site}
use Rattle.v_syntax.specs.Tree.{no_select}
use Rattle.v_tree.specs.Reading.{Read, ◌>>=◌, expect, lower}
use Rattle.v_syntax.specs.PartTree.{name_left}
use Rattle.v_parts.specs.Reading.{optional_at, unless_at, name_at, value_at}
use Rattle.v_syntax.specs.StatementTree.{PlainStatement, assignment}
use Rattle.v_statements.specs.StatementReading.{Inner, label_at, body_at, close_block_at}
use Rattle.v_statements.specs.Initials.{is_left_out}

-- the value and what stands behind it
unfoldable pub initial_value_at : List Lexeme → ℕ → ℕ → List ℕ → ℕ → ℕ → Read PlainStatement
initial_value_at tokens nesting_left from name m a =
    value_at tokens nesting_left a >>= λ v. expect tokens mark.Semicolon v.1 >>= λ b.
    Ok (assignment (site tokens from b) (name_left (site tokens from m) name no_select) Blocking None v.0, b)

-- what stands behind the equals sign
unfoldable pub initial_right_at : List Lexeme → ℕ → ℕ → List ℕ → ℕ → ℕ → Read PlainStatement
initial_right_at tokens nesting_left from name m a = unless_at tokens mark.Hash a (initial_value_at tokens nesting_left from name m a)

-- what stands behind the name
unfoldable pub initial_equals_at : List Lexeme → ℕ → ℕ → List ℕ → ℕ → Read PlainStatement
initial_equals_at tokens nesting_left from name a =
    unless_at tokens mark.OpenBracket a
    (unless_at tokens mark.LessEqual a (expect tokens mark.Equals a >>= λ n. initial_right_at tokens nesting_left from name a n))

unfoldable pub initial_assign_at : List Lexeme → ℕ → ℕ → Read PlainStatement
initial_assign_at tokens nesting_left a = name_at tokens a >>= λ x. initial_equals_at tokens nesting_left a x.0 x.1

unfoldable pub initial_block_at : List Lexeme → ℕ → Inner → ℕ → Read PlainStatement
initial_block_at tokens nesting_left inner a =
    lower nesting_left a >>= λ less. optional_at tokens mark.Colon (label_at tokens) (a + 1) >>= λ l.
    body_at tokens inner l.1 >>= λ xs. close_block_at tokens a l.0 xs.0 xs.1

unfoldable pub initial_with : List Lexeme → ℕ → Inner → Inner
initial_with tokens nesting_left inner a =
    if same (mark_at tokens a) mark.Begin then initial_block_at tokens nesting_left inner a
    else if is_left_out (mark_at tokens a) then Err (Unsupported a)
    else initial_assign_at tokens nesting_left a

unfoldable pub initial_at : List Lexeme → ℕ → Inner
initial_at tokens zero = initial_with tokens zero (λ a. Err (Deep a))
initial_at tokens (suc nesting_left) = initial_with tokens (suc nesting_left) (initial_at tokens nesting_left)

abbrev pub initial_below : List Lexeme → ℕ → Inner
initial_below tokens zero = λ a. Err (Deep a)
initial_below tokens (suc nesting_left) = initial_at tokens nesting_left

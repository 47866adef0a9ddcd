-- How the code reads statements: the function on lists that each reader is. No public clause speaks of it.
use Rattle.std.specs.Prelude.{ℕ, zero, suc, ◌+◌, List, ◌∷◌, length, Option, Ok, Err, if◌then◌else◌, Bool, true, false, ◌||◌}
use Rattle.v_lexer.specs.Lexeme.{Lexeme}
use Rattle.v_syntax.specs.declared.declaration.Identifier.{Identifier}
use Rattle.v_syntax.specs.declared.statement.AssignKind.{AssignKind}
use Rattle.v_syntax.specs.declared.statement.AssignKind.TheVariants.{Blocking, Nonblocking}
use Rattle.v_syntax.specs.declared.statement.CaseKind.{CaseKind}
use Rattle.v_syntax.specs.declared.statement.CaseKind.TheVariants as kinds
use Rattle.v_lexer.specs.declared.types.terminal.Terminal.TheVariants as mark
use Rattle.v_tree.specs.declared.fault.Fault.TheVariants.{Unsupported, Deep}
use Rattle.v_tree.specs.Marks.{mark_at, same}
use Rattle.v_tree.specs.Sites.{site}
use Rattle.v_tree.specs.Faults.{no_place}
use Rattle.v_syntax.specs.Tree.{Tree}
use Rattle.v_tree.specs.Reading.{Read, ◌>>=◌, expect, lower, whole_expression}
use Rattle.v_syntax.specs.PartTree.{PlainLeft}
use Rattle.v_syntax.specs.StatementTree.{PlainHead, PlainStatement, empty, block, delayed, if_then, if_else, choice, loop, assignment, statements_of, PlainCaseItem, labelled, otherwise, case_items_of, is_default}
use Rattle.v_parts.specs.Reading.{optional_at, list_at, run_at, identifier_at, value_at, delay_at, left_at}
use Rattle.v_statements.specs.Statements.{may_follow_label}

abbrev pub Inner : Type 0
Inner = ℕ → Read PlainStatement

unfoldable pub label_at : List Lexeme → ℕ → Read Identifier
label_at tokens a = expect tokens mark.Colon a >>= λ m. identifier_at tokens m

unfoldable pub in_parens_at : List Lexeme → ℕ → ℕ → Read Tree
in_parens_at tokens nesting_left a = expect tokens mark.Open a >>= λ m. value_at tokens nesting_left m >>= λ x. expect tokens mark.Close x.1 >>= λ b. Ok (x.0, b)

-- statements up to an end
unfoldable pub body_at : List Lexeme → Inner → ℕ → Read (List PlainStatement)
body_at tokens inner a = run_at tokens mark.End (λ (s : Bool). inner) (λ s x. s) (length tokens) true a

unfoldable pub close_block_at : List Lexeme → ℕ → Option Identifier → List PlainStatement → ℕ → Read PlainStatement
close_block_at tokens from label body a = Ok (block (site tokens from a) label (statements_of body), a)

unfoldable pub block_at : List Lexeme → ℕ → Inner → ℕ → Read PlainStatement
block_at tokens nesting_left inner a =
    lower nesting_left a >>= λ less. optional_at tokens mark.Colon (label_at tokens) (a + 1) >>= λ l.
    body_at tokens inner l.1 >>= λ xs. close_block_at tokens a l.0 xs.0 xs.1

unfoldable pub delayed_at : List Lexeme → ℕ → Inner → ℕ → Read PlainStatement
delayed_at tokens nesting_left inner a =
    lower nesting_left a >>= λ less. delay_at tokens less a >>= λ x. inner x.1 >>= λ y. Ok (delayed (site tokens a y.1) x.0 y.0, y.1)

-- what stands behind the statement that a condition has
unfoldable pub else_at : List Lexeme → Inner → ℕ → Tree → PlainStatement → ℕ → Read PlainStatement
else_at tokens inner from condition taken a =
    if same (mark_at tokens a) mark.Else then (inner (a + 1) >>= λ y. Ok (if_else (site tokens from y.1) condition taken y.0, y.1))
    else Ok (if_then (site tokens from a) condition taken, a)

unfoldable pub if_at : List Lexeme → ℕ → Inner → ℕ → Read PlainStatement
if_at tokens nesting_left inner a =
    lower nesting_left a >>= λ less. in_parens_at tokens less (a + 1) >>= λ c. inner c.1 >>= λ x. else_at tokens inner a c.0 x.0 x.1

-- a number with wildcard digits is a whole label
unfoldable pub casez_label_at : List Lexeme → ℕ → ℕ → Read Tree
casez_label_at tokens nesting_left a =
    whole_expression tokens nesting_left a >>= λ x.
    (if same (mark_at tokens a) mark.Wild then (if may_follow_label (mark_at tokens x.1) then Ok x else Err (Unsupported a)) else Ok x)

abbrev pub case_label_at : List Lexeme → ℕ → CaseKind → ℕ → Read Tree
case_label_at tokens nesting_left kinds.Case = value_at tokens nesting_left
case_label_at tokens nesting_left kinds.Casez = casez_label_at tokens nesting_left

unfoldable pub labelled_at : List Lexeme → ℕ → CaseKind → Inner → ℕ → Read PlainCaseItem
labelled_at tokens nesting_left kind inner a =
    list_at tokens (case_label_at tokens nesting_left kind) a >>= λ xs. expect tokens mark.Colon xs.1 >>= λ m. inner m >>= λ y.
    Ok (labelled (site tokens a y.1) xs.0 y.0, y.1)

unfoldable pub colon_at : List Lexeme → ℕ → Read Bool
colon_at tokens a = if same (mark_at tokens a) mark.Colon then Ok (true, a + 1) else Ok (false, a)

unfoldable pub default_at : List Lexeme → Inner → ℕ → Read PlainCaseItem
default_at tokens inner a =
    expect tokens mark.Default a >>= λ n. colon_at tokens n >>= λ c. inner c.1 >>= λ y. Ok (otherwise (site tokens a y.1) y.0, y.1)

-- an item; a second default has no place
unfoldable pub case_item_at : List Lexeme → ℕ → CaseKind → Inner → Bool → ℕ → Read PlainCaseItem
case_item_at tokens nesting_left kind inner had a =
    if same (mark_at tokens a) mark.Default then (if had then Err (no_place tokens a) else default_at tokens inner a) else labelled_at tokens nesting_left kind inner a

abbrev pub has_default : Bool → PlainCaseItem → Bool
has_default had x = had || is_default x

-- the items behind the first
unfoldable pub case_items_at : List Lexeme → ℕ → CaseKind → Inner → PlainCaseItem → ℕ → Read (List PlainCaseItem)
case_items_at tokens nesting_left kind inner first a =
    run_at tokens mark.Endcase (case_item_at tokens nesting_left kind inner) has_default (length tokens) (has_default false first) a >>= λ xs. Ok (first ∷ xs.0, xs.1)

unfoldable pub case_at : List Lexeme → ℕ → CaseKind → Inner → ℕ → Read PlainStatement
case_at tokens nesting_left kind inner a =
    lower nesting_left a >>= λ less. in_parens_at tokens less (a + 1) >>= λ c. case_item_at tokens less kind inner false c.1 >>= λ x.
    case_items_at tokens less kind inner x.0 x.1 >>= λ xs. Ok (choice (site tokens a xs.1) kind c.0 (case_items_of xs.0), xs.1)

-- the step of a loop whose head begins at `from`
unfoldable pub loop_step_at : List Lexeme → ℕ → ℕ → Identifier → Tree → Tree → ℕ → Read PlainHead
loop_step_at tokens nesting_left from variable start condition a =
    identifier_at tokens a >>= λ w. expect tokens mark.Equals w.1 >>= λ f. value_at tokens nesting_left f >>= λ z. expect tokens mark.Close z.1 >>= λ g.
    Ok (record { site = site tokens from g; variable = variable; start = start; condition = condition; next = w.0; step = z.0 }, g)

-- the condition and the step
unfoldable pub loop_condition_at : List Lexeme → ℕ → ℕ → Identifier → Tree → ℕ → Read PlainHead
loop_condition_at tokens nesting_left from variable start a =
    value_at tokens nesting_left a >>= λ y. expect tokens mark.Semicolon y.1 >>= λ e. loop_step_at tokens nesting_left from variable start y.0 e

unfoldable pub head_at : List Lexeme → ℕ → ℕ → Read PlainHead
head_at tokens nesting_left a =
    expect tokens mark.Open a >>= λ b. identifier_at tokens b >>= λ v. expect tokens mark.Equals v.1 >>= λ c. value_at tokens nesting_left c >>= λ x.
    expect tokens mark.Semicolon x.1 >>= λ d. loop_condition_at tokens nesting_left a v.0 x.0 d

unfoldable pub loop_at : List Lexeme → ℕ → Inner → ℕ → Read PlainStatement
loop_at tokens nesting_left inner a =
    lower nesting_left a >>= λ less. head_at tokens less (a + 1) >>= λ h. inner h.1 >>= λ y. Ok (loop (site tokens a y.1) h.0 y.0, y.1)

unfoldable pub assign_kind_at : List Lexeme → ℕ → Read AssignKind
assign_kind_at tokens a =
    if same (mark_at tokens a) mark.Equals then Ok (Blocking, a + 1) else if same (mark_at tokens a) mark.LessEqual then Ok (Nonblocking, a + 1)
    else Err (no_place tokens a)

-- what stands behind the sign of an assignment that begins at `from`
unfoldable pub assigned_at : List Lexeme → ℕ → ℕ → PlainLeft → AssignKind → ℕ → Read PlainStatement
assigned_at tokens nesting_left from target kind a =
    optional_at tokens mark.Hash (delay_at tokens nesting_left) a >>= λ d. value_at tokens nesting_left d.1 >>= λ v. expect tokens mark.Semicolon v.1 >>= λ b.
    Ok (assignment (site tokens from b) target kind d.0 v.0, b)

unfoldable pub assign_at : List Lexeme → ℕ → ℕ → Read PlainStatement
assign_at tokens nesting_left a = left_at tokens nesting_left a >>= λ x. assign_kind_at tokens x.1 >>= λ k. assigned_at tokens nesting_left a x.0 k.0 k.1

-- a statement, with the reader of what nests in it
unfoldable pub statement_with : List Lexeme → ℕ → Inner → Inner
statement_with tokens nesting_left inner a =
    if same (mark_at tokens a) mark.Semicolon then Ok (empty (site tokens a (a + 1)), a + 1)
    else if same (mark_at tokens a) mark.Begin then block_at tokens nesting_left inner a
    else if same (mark_at tokens a) mark.Hash then delayed_at tokens nesting_left inner a
    else if same (mark_at tokens a) mark.If then if_at tokens nesting_left inner a
    else if same (mark_at tokens a) mark.Case then case_at tokens nesting_left kinds.Case inner a
    else if same (mark_at tokens a) mark.Casez then case_at tokens nesting_left kinds.Casez inner a
    else if same (mark_at tokens a) mark.For then loop_at tokens nesting_left inner a
    else assign_at tokens nesting_left a

unfoldable pub statement_at : List Lexeme → ℕ → Inner
statement_at tokens zero = statement_with tokens zero (λ a. Err (Deep a))
statement_at tokens (suc nesting_left) = statement_with tokens (suc nesting_left) (statement_at tokens nesting_left)

-- the statements within, where so much nesting is left
abbrev pub statement_below : List Lexeme → ℕ → Inner
statement_below tokens zero = λ a. Err (Deep a)
statement_below tokens (suc nesting_left) = statement_at tokens nesting_left

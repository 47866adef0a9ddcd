-- How the code reads expressions: the function that each reader is, on lists. No public clause speaks of it.
use Rattle.std.specs.Prelude.{ℕ, zero, suc, ◌+◌, ◌-◌, List, length, Option, Some, None, Result, Ok, Err, if◌then◌else◌, ◌==◌, nat_lt}
use Rattle.v_lexer.specs.Lexeme.{Lexeme}
use Rattle.v_lexer.specs.declared.types.terminal.Terminal.{Terminal}
use Rattle.v_lexer.specs.declared.types.terminal.Terminal.TheVariants as mark
use Rattle.v_syntax.specs.declared.operator.Unary.{Unary}
use Rattle.v_syntax.specs.declared.operator.Binary.{Binary}
use Rattle.v_syntax.specs.declared.operator.SystemFunction.{SystemFunction}
use Rattle.v_syntax.specs.declared.expression.PartKind.{PartKind}
use Rattle.v_tree.specs.declared.fault.Fault.{Fault}
use Rattle.v_tree.specs.declared.fault.Fault.TheVariants.{Unsupported, Deep}
use Rattle.v_tree.specs.Marks.{mark_at, same}
use Rattle.v_tree.specs.Sites.{text_at, site}
use Rattle.v_tree.specs.Operators.{unary_of, binary_of, strength, system_of, part_of}
use Rattle.v_syntax.specs.Tree.{Tree, number, wild, name, parens, concat, repeat, system, unary, binary, conditional, Trees, no_tree, tree, Selection, bit, part, Selections, no_select, select}
use Rattle.v_tree.specs.Depth.{levels}
use Rattle.v_tree.specs.Faults.{no_place}

infixl 10 ◌>>=◌
abbrev pub ◌>>=◌ : {A B : Type 0} → Result A Fault → (A → Result B Fault) → Result B Fault
(Ok x) >>= f = f x
(Err e) >>= f = Err e

-- a value, and the place behind its tokens
abbrev pub Read : Type 0 → Type 0
Read A = Result (A × ℕ) Fault

-- a reader of trees of so many levels at most, from a place on
abbrev pub Reader : Type 0
Reader = ℕ → ℕ → Read Tree

unfoldable pub expect : List Lexeme → Terminal → ℕ → Result ℕ Fault
expect tokens mark at = if same (mark_at tokens at) mark then Ok (at + 1) else Err (no_place tokens at)

-- one less, unless nothing is left
abbrev pub lower : ℕ → ℕ → Result ℕ Fault
lower left at = if left == 0 then Err (Deep at) else Ok (left - 1)

-- one level less, where one more still stands above a tree of so many levels
abbrev pub above : ℕ → ℕ → ℕ → Result ℕ Fault
above levels_left used at = if nat_lt used levels_left then Ok (levels_left - 1) else Err (Deep at)

-- (',' expr)*, at most so many
unfoldable pub more_parts : List Lexeme → Reader → ℕ → ℕ → ℕ → Read Trees
more_parts tokens whole levels_left zero a = Ok (no_tree, a)
more_parts tokens whole levels_left (suc n) a =
    if same (mark_at tokens a) mark.Comma then
    (whole levels_left (a + 1) >>= λ x. more_parts tokens whole levels_left n x.1 >>= λ xs. Ok (tree x.0 xs.0, xs.1))
    else Ok (no_tree, a)

-- expr,+ behind its first
unfoldable pub parts_from : List Lexeme → Reader → ℕ → Tree → ℕ → Read Trees
parts_from tokens whole levels_left first a = more_parts tokens whole levels_left (length tokens) a >>= λ xs. Ok (tree first xs.0, xs.1)

unfoldable pub close_parens : List Lexeme → ℕ → Tree → ℕ → Read Tree
close_parens tokens a inner m = expect tokens mark.Close m >>= λ b. Ok (parens (site tokens a b) inner, b)

unfoldable pub parens_at : List Lexeme → ℕ → Reader → Reader
parens_at tokens nesting_left whole levels_left a = lower nesting_left a >>= λ _. whole levels_left (a + 1) >>= λ x. close_parens tokens a x.0 x.1

unfoldable pub close_repeat : List Lexeme → ℕ → Tree → Trees → ℕ → Read Tree
close_repeat tokens a count parts m =
    expect tokens mark.CloseBrace m >>= λ n. expect tokens mark.CloseBrace n >>= λ b. Ok (repeat (site tokens a b) count parts, b)

unfoldable pub close_concat : List Lexeme → ℕ → Trees → ℕ → Read Tree
close_concat tokens a parts m = expect tokens mark.CloseBrace m >>= λ b. Ok (concat (site tokens a b) parts, b)

unfoldable pub repeat_at : List Lexeme → Reader → ℕ → ℕ → Tree → ℕ → Read Tree
repeat_at tokens whole levels_left a count m =
    whole levels_left (m + 1) >>= λ y. parts_from tokens whole levels_left y.0 y.1 >>= λ xs. close_repeat tokens a count xs.0 xs.1

unfoldable pub concat_at : List Lexeme → Reader → ℕ → ℕ → Tree → ℕ → Read Tree
concat_at tokens whole levels_left a first m = parts_from tokens whole levels_left first m >>= λ xs. close_concat tokens a xs.0 xs.1

unfoldable pub braces_at : List Lexeme → ℕ → Reader → Reader
braces_at tokens nesting_left whole levels_left a =
    lower nesting_left a >>= λ _. lower levels_left a >>= λ less. whole less (a + 1) >>= λ x.
    (if same (mark_at tokens x.1) mark.OpenBrace then repeat_at tokens whole less a x.0 x.1 else concat_at tokens whole less a x.0 x.1)

unfoldable pub close_system : List Lexeme → ℕ → SystemFunction → Tree → ℕ → Read Tree
close_system tokens a function argument m = expect tokens mark.Close m >>= λ b. Ok (system (site tokens a b) function argument, b)

unfoldable pub system_at : List Lexeme → ℕ → Reader → SystemFunction → Reader
system_at tokens nesting_left whole function levels_left a =
    lower nesting_left a >>= λ _. lower levels_left a >>= λ less. expect tokens mark.Open (a + 1) >>= λ m. whole less m >>= λ x. close_system tokens a function x.0 x.1

unfoldable pub unary_at : List Lexeme → ℕ → Reader → Unary → Reader
unary_at tokens nesting_left operand operator levels_left a =
    lower nesting_left a >>= λ _. lower levels_left a >>= λ less. operand less (a + 1) >>= λ x. Ok (unary (site tokens a x.1) operator x.0, x.1)

-- what stands behind the first expression of a select
unfoldable pub close_part : List Lexeme → ℕ → PartKind → Tree → Tree → ℕ → Read Selection
close_part tokens a kind left right m = expect tokens mark.CloseBracket m >>= λ b. Ok (part (site tokens a b) kind left right, b)

unfoldable pub close_bit : List Lexeme → ℕ → Tree → ℕ → Read Selection
close_bit tokens a index m = expect tokens mark.CloseBracket m >>= λ b. Ok (bit (site tokens a b) index, b)

abbrev pub behind_at : List Lexeme → Reader → ℕ → ℕ → Tree → ℕ → Option PartKind → Read Selection
behind_at tokens whole levels_left a left m (Some kind) = whole levels_left (m + 1) >>= λ y. close_part tokens a kind left y.0 y.1
behind_at tokens whole levels_left a left m None = close_bit tokens a left m

unfoldable pub select_at : List Lexeme → ℕ → Reader → ℕ → ℕ → Read Selection
select_at tokens nesting_left whole levels_left a =
    lower nesting_left a >>= λ _. lower levels_left a >>= λ less. whole less (a + 1) >>= λ x. behind_at tokens whole less a x.0 x.1 (part_of (mark_at tokens x.1))

-- at most so many selects
unfoldable pub selects_at : List Lexeme → ℕ → Reader → ℕ → ℕ → ℕ → Read Selections
selects_at tokens nesting_left whole levels_left zero a = Ok (no_select, a)
selects_at tokens nesting_left whole levels_left (suc n) a =
    if same (mark_at tokens a) mark.OpenBracket then
    (select_at tokens nesting_left whole levels_left a >>= λ x. selects_at tokens nesting_left whole levels_left n x.1 >>= λ xs. Ok (select x.0 xs.0, xs.1))
    else Ok (no_select, a)

unfoldable pub name_at : List Lexeme → ℕ → Reader → Reader
name_at tokens nesting_left whole levels_left a =
    selects_at tokens nesting_left whole levels_left 2 (a + 1) >>= λ xs. Ok (name (site tokens a xs.1) (text_at tokens a) xs.0, xs.1)

unfoldable pub plain_at : List Lexeme → ℕ → Reader → Terminal → Reader
plain_at tokens nesting_left whole at levels_left a =
    if same at mark.Number then Ok (number (site tokens a (a + 1)) (text_at tokens a), a + 1)
    else if same at mark.Name then name_at tokens nesting_left whole levels_left a
    else if same at mark.Open then parens_at tokens nesting_left whole levels_left a
    else if same at mark.OpenBrace then braces_at tokens nesting_left whole levels_left a
    else Err (no_place tokens a)

abbrev pub called_at : List Lexeme → ℕ → Reader → Terminal → Option SystemFunction → Reader
called_at tokens nesting_left whole at (Some function) = system_at tokens nesting_left whole function
called_at tokens nesting_left whole at None = plain_at tokens nesting_left whole at

abbrev pub signed_at : List Lexeme → ℕ → Reader → Reader → Terminal → Option Unary → Reader
signed_at tokens nesting_left operand whole at (Some operator) = unary_at tokens nesting_left operand operator
signed_at tokens nesting_left operand whole at None = called_at tokens nesting_left whole at (system_of at)

-- an operand, with the readers of what nests in it
unfoldable pub operand_with : List Lexeme → ℕ → Reader → Reader → Reader
operand_with tokens nesting_left operand whole levels_left a = signed_at tokens nesting_left operand whole (mark_at tokens a) (unary_of (mark_at tokens a)) levels_left a

-- binary operators of a level from `least` on behind `left`, which begins at `from`; `right` reads the operand behind an operator
abbrev pub chain_step : (Tree → ℕ → Read Tree) → List Lexeme → (ℕ → Reader) → ℕ → ℕ → ℕ → Tree → ℕ → Option Binary → Read Tree
chain_step again tokens right least levels_left from left a None = Ok (left, a)
chain_step again tokens right least levels_left from left a (Some operator) =
    if nat_lt (strength operator) least then Ok (left, a)
    else (above levels_left (levels left) a >>= λ less. right (strength operator + 1) less (a + 1) >>= λ y. again (binary (site tokens from y.1) operator left y.0) y.1)

unfoldable pub chain : List Lexeme → (ℕ → Reader) → ℕ → ℕ → ℕ → ℕ → Tree → ℕ → Read Tree
chain tokens right least levels_left from zero left a = Ok (left, a)
chain tokens right least levels_left from (suc n) left a =
    chain_step (chain tokens right least levels_left from n) tokens right least levels_left from left a (binary_of (mark_at tokens a))

-- an expression with binary operators of a level from `least` on, by so many nested levels
unfoldable pub climb : List Lexeme → Reader → ℕ → ℕ → Reader
climb tokens operand zero least levels_left a = operand levels_left a
climb tokens operand (suc n) least levels_left a =
    operand levels_left a >>= λ x. chain tokens (climb tokens operand n) least levels_left a (length tokens) x.0 x.1

unfoldable pub question_at : List Lexeme → ℕ → Reader → ℕ → ℕ → Tree → ℕ → Read Tree
question_at tokens nesting_left whole levels_left a condition m =
    lower nesting_left m >>= λ _. above levels_left (levels condition) m >>= λ less. whole less (m + 1) >>= λ y. expect tokens mark.Colon y.1 >>= λ n.
    whole less n >>= λ z. Ok (conditional (site tokens a z.1) condition y.0 z.0, z.1)

unfoldable pub whole_with : List Lexeme → ℕ → Reader → Reader → Reader
whole_with tokens nesting_left operand whole levels_left a =
    climb tokens operand 12 1 levels_left a >>= λ x.
    (if same (mark_at tokens x.1) mark.Question then question_at tokens nesting_left whole levels_left a x.0 x.1 else Ok x)

-- the readers of an operand and of an expression
pub record Readers : Type 0 where
  pub operand : Reader
  pub whole : Reader

-- below the deepest nesting nothing is read
abbrev pub shut : Readers
shut = record { operand = λ levels_left a. Err (Deep a); whole = λ levels_left a. Err (Deep a) }

abbrev pub readers_over : List Lexeme → ℕ → Readers → Readers
readers_over tokens nesting_left below =
    let operand = operand_with tokens nesting_left below.operand below.whole in record { operand = operand; whole = whole_with tokens nesting_left operand below.whole }

unfoldable pub readers : List Lexeme → ℕ → Readers
readers tokens zero = readers_over tokens zero shut
readers tokens (suc nesting_left) = readers_over tokens (suc nesting_left) (readers tokens nesting_left)

-- the readers within, where so much nesting is left
abbrev pub below : List Lexeme → ℕ → Readers
below tokens zero = shut
below tokens (suc nesting_left) = readers tokens nesting_left

abbrev pub wild_at : List Lexeme → ℕ → Option Binary → Read Tree
wild_at tokens a (Some operator) = Err (Unsupported a)
wild_at tokens a None =
    if same (mark_at tokens (a + 1)) mark.Question then Err (Unsupported a) else Ok (wild (site tokens a (a + 1)) (text_at tokens a), a + 1)

-- an expression of its own, or a number with wildcard digits
unfoldable pub whole_expression : List Lexeme → ℕ → ℕ → Read Tree
whole_expression tokens nesting_left a =
    if same (mark_at tokens a) mark.Wild then wild_at tokens a (binary_of (mark_at tokens (a + 1))) else (readers tokens nesting_left).whole 4096 a

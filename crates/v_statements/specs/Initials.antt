-- What stands in an initial block (IEEE 1364-2005, 9.9.1 and A.6.2): begin .. end and name = value, and no other statement.
use Rattle.std.specs.Prelude.{◌≡◌, ◌≢◌, ℕ, zero, suc, ◌+◌, ◌⊎◌, Bool, true, false, List, Option, None}
use Rattle.v_lexer.specs.Lexeme.{Lexeme}
use Rattle.v_syntax.specs.declared.declaration.Identifier.{Identifier}
use Rattle.v_syntax.specs.declared.statement.AssignKind.TheVariants.{Blocking}
use Rattle.v_lexer.specs.declared.types.terminal.Terminal.{Terminal}
use Rattle.v_lexer.specs.declared.types.terminal.Terminal.TheVariants.{OpenBracket, OpenBrace, Colon, Semicolon, Equals, LessEqual, Hash, Begin, End, If, Case, Casez, For}
use Rattle.v_tree.specs.Marks.{mark_at}
use Rattle.v_tree.specs.Sites.{site}
use Rattle.v_syntax.specs.Tree.{Tree, no_select}
use Rattle.v_syntax.specs.PartTree.{name_left}
use Rattle.v_parts.specs.Productions.{IsOptional, AreRun, IsName, IsValue}
use Rattle.v_syntax.specs.StatementTree.{PlainStatement, block, assignment, statements_of}
use Rattle.v_statements.specs.Statements.{Nested, IsLabel}

-- 'begin' (':' NAME)? initial* 'end'
abbrev pub IsInitialBlock : List Lexeme → ℕ → Nested → PlainStatement → ℕ → ℕ → Type 0
IsInitialBlock tokens nesting_left part x a b =
    (less : ℕ) × (less + 1 ≡ nesting_left) × (mark_at tokens a ≡ Begin)
    × ((label : Option Identifier) × (m : ℕ) × IsOptional tokens Colon (IsLabel tokens) label (a + 1) m
    × ((body : List PlainStatement) × (n : ℕ) × AreRun tokens End (λ (s : Bool). part) (λ s x. s) true body m n
    × ((x ≡ block (site tokens a n) label (statements_of body)) × (b ≡ n))))

-- NAME '=' expr ';', where no select, no <= and no delay stands
abbrev pub IsInitialAssign : List Lexeme → ℕ → PlainStatement → ℕ → ℕ → Type 0
IsInitialAssign tokens nesting_left x a b =
    (name : List ℕ) × (m : ℕ) × IsName tokens name a m
    × ((mark_at tokens m ≢ OpenBracket)
    × ((mark_at tokens m ≢ LessEqual)
    × ((mark_at tokens m ≡ Equals)
    × ((mark_at tokens (m + 1) ≢ Hash)
    × ((value : Tree) × (n : ℕ) × IsValue tokens nesting_left value (m + 1) n
    × ((mark_at tokens n ≡ Semicolon)
    × ((x ≡ assignment (site tokens a (n + 1)) (name_left (site tokens a m) name no_select) Blocking None value) × (b ≡ n + 1))))))))

-- the marks of statements that an initial block doesn't take
abbrev pub is_left_out : Terminal → Bool
is_left_out Semicolon = true
is_left_out Hash = true
is_left_out If = true
is_left_out Case = true
is_left_out Casez = true
is_left_out For = true
is_left_out OpenBrace = true
is_left_out _ = false

abbrev pub IsInitialWith : List Lexeme → ℕ → Nested → PlainStatement → ℕ → ℕ → Type 0
IsInitialWith tokens nesting_left part x a b = IsInitialBlock tokens nesting_left part x a b ⊎ IsInitialAssign tokens nesting_left x a b

-- what nests in it has one less of nesting left
abbrev pub IsInitial : List Lexeme → ℕ → PlainStatement → ℕ → ℕ → Type 0
IsInitial tokens zero = IsInitialWith tokens zero (λ x a b. ⊥)
IsInitial tokens (suc nesting_left) = IsInitialWith tokens (suc nesting_left) (IsInitial tokens nesting_left)

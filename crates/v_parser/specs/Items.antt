-- The items of a module (IEEE 1364-2005, 12.4, A.1.4 and A.4.2): which tree the tokens from a place up to another one spell,
-- where `nesting_left` levels of nesting are left. Each production stands as its comment, as in Productions.
use Rattle.std.specs.Prelude.{◌≡◌, ◌≢◌, ℕ, zero, suc, ◌+◌, ◌⊎◌, Bool, true, List, Option}
use Rattle.v_lexer.specs.Lexeme.{Lexeme}
use Rattle.v_syntax.specs.declared.declaration.Identifier.{Identifier}
use Rattle.v_lexer.specs.declared.types.terminal.Terminal.{Terminal}
use Rattle.v_lexer.specs.declared.types.terminal.Terminal.TheVariants.{Colon, Begin, End, Else, Endgenerate, For, Generate, If}
use Rattle.v_tree.specs.Marks.{mark_at}
use Rattle.v_tree.specs.Sites.{site}
use Rattle.v_syntax.specs.Tree.{Tree}
use Rattle.v_parts.specs.Productions.{IsOptional, AreRun}
use Rattle.v_syntax.specs.StatementTree.{PlainHead}
use Rattle.v_statements.specs.Statements.{IsLabel, IsInParens, IsHead}
use Rattle.v_syntax.specs.ItemTree.{PlainItem, PlainBlock, generate_item, loop_item, if_item, if_else_item, single, several, items_of}
use Rattle.v_declarations.specs.Declarations.{IsDeclaration}
use Rattle.v_declarations.specs.Structures.{IsStructure}
use Rattle.v_statements.specs.Procedures.{IsProcedure}

-- which items nest in one
abbrev pub NestedItem : Type 1
NestedItem = PlainItem → ℕ → ℕ → Type 0

-- item* and a token of the mark `last`
abbrev pub AreItemsUpTo : List Lexeme → Terminal → NestedItem → List PlainItem → ℕ → ℕ → Type 0
AreItemsUpTo tokens last part items a b = AreRun tokens last (λ (s : Bool). part) (λ s x. s) true items a b

-- 'generate' item* 'endgenerate'
abbrev pub IsGenerate : List Lexeme → ℕ → NestedItem → PlainItem → ℕ → ℕ → Type 0
IsGenerate tokens nesting_left part x a b =
    (less : ℕ) × (less + 1 ≡ nesting_left) × (mark_at tokens a ≡ Generate)
    × ((items : List PlainItem) × (m : ℕ) × AreItemsUpTo tokens Endgenerate part items (a + 1) m
    × ((x ≡ generate_item (site tokens a m) (items_of items)) × (b ≡ m)))

-- 'begin' (':' NAME)? item* 'end', which is no nesting of its own
abbrev pub IsSeveral : List Lexeme → NestedItem → PlainBlock → ℕ → ℕ → Type 0
IsSeveral tokens part x a b =
    (mark_at tokens a ≡ Begin)
    × ((label : Option Identifier) × (m : ℕ) × IsOptional tokens Colon (IsLabel tokens) label (a + 1) m
    × ((items : List PlainItem) × (n : ℕ) × AreItemsUpTo tokens End part items m n
    × ((x ≡ several (site tokens a n) label (items_of items)) × (b ≡ n))))

-- item
abbrev pub IsSingle : List Lexeme → NestedItem → PlainBlock → ℕ → ℕ → Type 0
IsSingle tokens part x a b = (item : PlainItem) × (m : ℕ) × part item a m × ((x ≡ single (site tokens a m) item) × (b ≡ m))

-- 'begin' (':' NAME)? item* 'end' | item
abbrev pub IsBlockItem : List Lexeme → NestedItem → PlainBlock → ℕ → ℕ → Type 0
IsBlockItem tokens part x a b = IsSeveral tokens part x a b ⊎ ((mark_at tokens a ≢ Begin) × IsSingle tokens part x a b)

-- 'for' head gblock
abbrev pub IsLoopItem : List Lexeme → ℕ → NestedItem → PlainItem → ℕ → ℕ → Type 0
IsLoopItem tokens nesting_left part x a b =
    (less : ℕ) × (less + 1 ≡ nesting_left) × (mark_at tokens a ≡ For)
    × ((head : PlainHead) × (m : ℕ) × IsHead tokens less head (a + 1) m
    × ((body : PlainBlock) × (n : ℕ) × IsBlockItem tokens part body m n
    × ((x ≡ loop_item (site tokens a n) head body) × (b ≡ n))))

-- 'else' gblock, or nothing where no else stands
abbrev pub IsElseItem : List Lexeme → NestedItem → ℕ → Tree → PlainBlock → PlainItem → ℕ → ℕ → Type 0
IsElseItem tokens part from condition then x a b =
    ((mark_at tokens a ≡ Else) × ((other : PlainBlock) × (n : ℕ) × IsBlockItem tokens part other (a + 1) n × ((x ≡ if_else_item (site tokens from n) condition then other) × (b ≡ n))))
    ⊎ ((mark_at tokens a ≢ Else) × ((x ≡ if_item (site tokens from a) condition then) × (b ≡ a)))

-- 'if' '(' expr ')' gblock ('else' gblock)?, where an else belongs to the nearest if
abbrev pub IsIfItem : List Lexeme → ℕ → NestedItem → PlainItem → ℕ → ℕ → Type 0
IsIfItem tokens nesting_left part x a b =
    (less : ℕ) × (less + 1 ≡ nesting_left) × (mark_at tokens a ≡ If)
    × ((condition : Tree) × (m : ℕ) × IsInParens tokens less condition (a + 1) m
    × ((then : PlainBlock) × (n : ℕ) × IsBlockItem tokens part then m n
    × IsElseItem tokens part a condition then x n b))

-- a generate region, loop or condition
abbrev pub IsGenerated : List Lexeme → ℕ → NestedItem → PlainItem → ℕ → ℕ → Type 0
IsGenerated tokens nesting_left part x a b = IsGenerate tokens nesting_left part x a b ⊎ (IsLoopItem tokens nesting_left part x a b ⊎ IsIfItem tokens nesting_left part x a b)

-- an item, with those that nest in it
abbrev pub IsItemWith : List Lexeme → ℕ → NestedItem → PlainItem → ℕ → ℕ → Type 0
IsItemWith tokens nesting_left part x a b =
    IsDeclaration tokens nesting_left x a b
    ⊎ (IsStructure tokens nesting_left x a b
    ⊎ (IsProcedure tokens nesting_left x a b
    ⊎ IsGenerated tokens nesting_left part x a b))

-- an item: what nests in it has one less of nesting left
abbrev pub IsItem : List Lexeme → ℕ → PlainItem → ℕ → ℕ → Type 0
IsItem tokens zero = IsItemWith tokens zero (λ x a b. ⊥)
IsItem tokens (suc nesting_left) = IsItemWith tokens (suc nesting_left) (IsItem tokens nesting_left)

-- Statements (IEEE 1364-2005, clause 9 and A.6): which tree the tokens from a place up to another one spell, where `nesting_left`
-- levels of nesting are left. Each production stands as its comment, as in Productions.
use Rattle.std.specs.Prelude.{◌≡◌, ◌≢◌, ℕ, zero, suc, ◌+◌, ◌⊎◌, Bool, true, false, ◌||◌, List, ◌∷◌, Option}
use Rattle.v_lexer.specs.Lexeme.{Lexeme}
use Rattle.v_syntax.specs.declared.declaration.Identifier.{Identifier}
use Rattle.v_syntax.specs.declared.statement.AssignKind.{AssignKind}
use Rattle.v_syntax.specs.declared.statement.AssignKind.TheVariants.{Blocking, Nonblocking}
use Rattle.v_syntax.specs.declared.statement.CaseKind.{CaseKind}
use Rattle.v_syntax.specs.declared.statement.CaseKind.TheVariants as kinds
use Rattle.v_lexer.specs.declared.types.terminal.Terminal.{Terminal}
use Rattle.v_lexer.specs.declared.types.terminal.Terminal.TheVariants.{Nothing, Wild, Open, Close, Comma, Colon, Semicolon, Equals, LessEqual, Hash, Begin, End, If, Else, Case, Casez, Endcase, Default, For}
use Rattle.v_tree.specs.Marks.{mark_at}
use Rattle.v_tree.specs.Sites.{site}
use Rattle.v_syntax.specs.Tree.{Tree}
use Rattle.v_tree.specs.Expressions.{IsWhole}
use Rattle.v_syntax.specs.PartTree.{PlainDelay, PlainLeft}
use Rattle.v_parts.specs.Productions.{IsOptional, AreListed, AreRun, IsIdentifier, IsValue, IsDelay, IsLeft}
use Rattle.v_syntax.specs.StatementTree.{PlainHead, PlainStatement, empty, block, delayed, if_then, if_else, choice, loop, assignment, statements_of, PlainCaseItem, labelled, otherwise, case_items_of, is_default}

-- which statements nest in one
abbrev pub Nested : Type 1
Nested = PlainStatement → ℕ → ℕ → Type 0

-- ':' NAME
abbrev pub IsLabel : List Lexeme → Identifier → ℕ → ℕ → Type 0
IsLabel tokens label a b = (mark_at tokens a ≡ Colon) × IsIdentifier tokens label (a + 1) b

-- '(' expr ')'
abbrev pub IsInParens : List Lexeme → ℕ → Tree → ℕ → ℕ → Type 0
IsInParens tokens nesting_left e a b =
    (mark_at tokens a ≡ Open)
    × ((value : Tree) × (m : ℕ) × IsValue tokens nesting_left value (a + 1) m
    × ((mark_at tokens m ≡ Close)
    × ((e ≡ value) × (b ≡ m + 1))))

-- ';'
abbrev pub IsEmpty : List Lexeme → PlainStatement → ℕ → ℕ → Type 0
IsEmpty tokens x a b = (mark_at tokens a ≡ Semicolon) × ((x ≡ empty (site tokens a (a + 1))) × (b ≡ a + 1))

-- 'begin' (':' NAME)? stmt* 'end'
abbrev pub IsBlock : List Lexeme → ℕ → Nested → PlainStatement → ℕ → ℕ → Type 0
IsBlock tokens nesting_left part x a b =
    (less : ℕ) × (less + 1 ≡ nesting_left) × (mark_at tokens a ≡ Begin)
    × ((label : Option Identifier) × (m : ℕ) × IsOptional tokens Colon (IsLabel tokens) label (a + 1) m
    × ((body : List PlainStatement) × (n : ℕ) × AreRun tokens End (λ (s : Bool). part) (λ s x. s) true body m n
    × ((x ≡ block (site tokens a n) label (statements_of body)) × (b ≡ n))))

-- delay stmt
abbrev pub IsDelayed : List Lexeme → ℕ → Nested → PlainStatement → ℕ → ℕ → Type 0
IsDelayed tokens nesting_left part x a b =
    (less : ℕ) × (less + 1 ≡ nesting_left) × (mark_at tokens a ≡ Hash)
    × ((delay : PlainDelay) × (m : ℕ) × IsDelay tokens less delay a m
    × ((body : PlainStatement) × (n : ℕ) × part body m n
    × ((x ≡ delayed (site tokens a n) delay body) × (b ≡ n))))

-- 'else' stmt, or nothing where no else stands
abbrev pub IsElse : List Lexeme → Nested → ℕ → Tree → PlainStatement → PlainStatement → ℕ → ℕ → Type 0
IsElse tokens part from condition then x a b =
    ((mark_at tokens a ≡ Else) × ((other : PlainStatement) × (n : ℕ) × part other (a + 1) n × ((x ≡ if_else (site tokens from n) condition then other) × (b ≡ n))))
    ⊎ ((mark_at tokens a ≢ Else) × ((x ≡ if_then (site tokens from a) condition then) × (b ≡ a)))

-- 'if' '(' expr ')' stmt ('else' stmt)?, where an else belongs to the nearest if
abbrev pub IsIf : List Lexeme → ℕ → Nested → PlainStatement → ℕ → ℕ → Type 0
IsIf tokens nesting_left part x a b =
    (less : ℕ) × (less + 1 ≡ nesting_left) × (mark_at tokens a ≡ If)
    × ((condition : Tree) × (m : ℕ) × IsInParens tokens less condition (a + 1) m
    × ((then : PlainStatement) × (n : ℕ) × part then m n
    × IsElse tokens part a condition then x n b))

-- what may stand behind a number with wildcard digits that is a label
abbrev pub may_follow_label : Terminal → Bool
may_follow_label Comma = true
may_follow_label Colon = true
may_follow_label Nothing = true
may_follow_label _ = false

-- a label of a casez: an expression, or a number with wildcard digits that is the whole label
pub record IsCasezLabel (tokens : List Lexeme) (nesting_left : ℕ) (label : Tree) (a b : ℕ) : Type 0 where
  pub whole : IsWhole tokens nesting_left label a b
  pub alone : mark_at tokens a ≡ Wild → may_follow_label (mark_at tokens b) ≡ true

abbrev pub IsCaseLabel : List Lexeme → ℕ → CaseKind → Tree → ℕ → ℕ → Type 0
IsCaseLabel tokens nesting_left kinds.Case = IsValue tokens nesting_left
IsCaseLabel tokens nesting_left kinds.Casez = IsCasezLabel tokens nesting_left

-- label,+ ':' stmt
abbrev pub IsLabelled : List Lexeme → ℕ → CaseKind → Nested → PlainCaseItem → ℕ → ℕ → Type 0
IsLabelled tokens nesting_left kind part x a b =
    (labels : List Tree) × (m : ℕ) × AreListed tokens (IsCaseLabel tokens nesting_left kind) labels a m
    × ((mark_at tokens m ≡ Colon)
    × ((body : PlainStatement) × (n : ℕ) × part body (m + 1) n
    × ((x ≡ labelled (site tokens a n) labels body) × (b ≡ n))))

-- ':'?
abbrev pub IsColonIf : List Lexeme → Bool → ℕ → ℕ → Type 0
IsColonIf tokens stands a b = ((mark_at tokens a ≡ Colon) × ((stands ≡ true) × (b ≡ a + 1))) ⊎ ((mark_at tokens a ≢ Colon) × ((stands ≡ false) × (b ≡ a)))

-- 'default' ':'? stmt
abbrev pub IsOtherwise : List Lexeme → Nested → PlainCaseItem → ℕ → ℕ → Type 0
IsOtherwise tokens part x a b =
    (mark_at tokens a ≡ Default)
    × ((colon : Bool) × (m : ℕ) × IsColonIf tokens colon (a + 1) m × ((body : PlainStatement) × (n : ℕ) × part body m n
    × ((x ≡ otherwise (site tokens a n) body) × (b ≡ n))))

-- 'default' ':'? stmt, where none stood before, or label,+ ':' stmt
abbrev pub IsCaseItem : List Lexeme → ℕ → CaseKind → Nested → Bool → PlainCaseItem → ℕ → ℕ → Type 0
IsCaseItem tokens nesting_left kind part had x a b =
    ((mark_at tokens a ≡ Default) × (had ≡ false) × IsOtherwise tokens part x a b) ⊎ ((mark_at tokens a ≢ Default) × IsLabelled tokens nesting_left kind part x a b)

-- citem* 'endcase' behind the first item
abbrev pub AreItems : List Lexeme → ℕ → CaseKind → Nested → PlainCaseItem → List PlainCaseItem → ℕ → ℕ → Type 0
AreItems tokens nesting_left kind part first items a b =
    (others : List PlainCaseItem) × (n : ℕ)
    × AreRun tokens Endcase (IsCaseItem tokens nesting_left kind part) (λ had y. had || is_default y) (false || is_default first) others a n
    × ((items ≡ first ∷ others) × (b ≡ n))

-- 'case' or 'casez'
abbrev pub case_word : CaseKind → Terminal
case_word kinds.Case = Case
case_word kinds.Casez = Casez

-- ('case' | 'casez') '(' expr ')' citem* 'endcase', at least one item and one default at most
abbrev pub IsCase : List Lexeme → ℕ → CaseKind → Nested → PlainStatement → ℕ → ℕ → Type 0
IsCase tokens nesting_left kind part x a b =
    (less : ℕ) × (less + 1 ≡ nesting_left) × (mark_at tokens a ≡ case_word kind)
    × ((subject : Tree) × (m : ℕ) × IsInParens tokens less subject (a + 1) m
    × ((first : PlainCaseItem) × (n : ℕ) × IsCaseItem tokens less kind part false first m n
    × ((items : List PlainCaseItem) × (k : ℕ) × AreItems tokens less kind part first items n k
    × ((x ≡ choice (site tokens a k) kind subject (case_items_of items)) × (b ≡ k)))))

-- '(' NAME '=' expr ';' expr ';' NAME '=' expr ')'
abbrev pub IsHead : List Lexeme → ℕ → PlainHead → ℕ → ℕ → Type 0
IsHead tokens nesting_left head a b =
    (mark_at tokens a ≡ Open)
    × ((variable : Identifier) × (c : ℕ) × IsIdentifier tokens variable (a + 1) c
    × ((mark_at tokens c ≡ Equals)
    × ((start : Tree) × (d : ℕ) × IsValue tokens nesting_left start (c + 1) d
    × ((mark_at tokens d ≡ Semicolon)
    × ((condition : Tree) × (e : ℕ) × IsValue tokens nesting_left condition (d + 1) e
    × ((mark_at tokens e ≡ Semicolon)
    × ((next : Identifier) × (f : ℕ) × IsIdentifier tokens next (e + 1) f
    × ((mark_at tokens f ≡ Equals)
    × ((step : Tree) × (g : ℕ) × IsValue tokens nesting_left step (f + 1) g
    × ((mark_at tokens g ≡ Close)
    × ((head ≡ record { site = site tokens a (g + 1); variable = variable; start = start; condition = condition; next = next; step = step }) × (b ≡ g + 1))))))))))))

-- 'for' head stmt
abbrev pub IsLoop : List Lexeme → ℕ → Nested → PlainStatement → ℕ → ℕ → Type 0
IsLoop tokens nesting_left part x a b =
    (less : ℕ) × (less + 1 ≡ nesting_left) × (mark_at tokens a ≡ For)
    × ((head : PlainHead) × (m : ℕ) × IsHead tokens less head (a + 1) m
    × ((body : PlainStatement) × (n : ℕ) × part body m n
    × ((x ≡ loop (site tokens a n) head body) × (b ≡ n))))

-- '=' | '<='
abbrev pub IsAssignKind : List Lexeme → AssignKind → ℕ → ℕ → Type 0
IsAssignKind tokens kind a b =
    ((mark_at tokens a ≡ Equals) × ((kind ≡ Blocking) × (b ≡ a + 1))) ⊎ ((mark_at tokens a ≡ LessEqual) × ((kind ≡ Nonblocking) × (b ≡ a + 1)))

-- left ('=' | '<=') delay? expr ';'
abbrev pub IsAssign : List Lexeme → ℕ → PlainStatement → ℕ → ℕ → Type 0
IsAssign tokens nesting_left x a b =
    (target : PlainLeft) × (m : ℕ) × IsLeft tokens nesting_left target a m
    × ((kind : AssignKind) × (n : ℕ) × IsAssignKind tokens kind m n
    × ((delay : Option PlainDelay) × (k : ℕ) × IsOptional tokens Hash (IsDelay tokens nesting_left) delay n k
    × ((value : Tree) × (l : ℕ) × IsValue tokens nesting_left value k l
    × ((mark_at tokens l ≡ Semicolon)
    × ((x ≡ assignment (site tokens a (l + 1)) target kind delay value) × (b ≡ l + 1))))))

-- a statement, with those that nest in it
abbrev pub IsStatementWith : List Lexeme → ℕ → Nested → PlainStatement → ℕ → ℕ → Type 0
IsStatementWith tokens nesting_left part x a b =
    IsEmpty tokens x a b
    ⊎ (IsBlock tokens nesting_left part x a b
    ⊎ (IsDelayed tokens nesting_left part x a b
    ⊎ (IsIf tokens nesting_left part x a b
    ⊎ (IsCase tokens nesting_left kinds.Case part x a b
    ⊎ (IsCase tokens nesting_left kinds.Casez part x a b
    ⊎ (IsLoop tokens nesting_left part x a b
    ⊎ IsAssign tokens nesting_left x a b))))))

-- a statement: what nests in it has one less of nesting left
abbrev pub IsStatement : List Lexeme → ℕ → PlainStatement → ℕ → ℕ → Type 0
IsStatement tokens zero = IsStatementWith tokens zero (λ x a b. ⊥)
IsStatement tokens (suc nesting_left) = IsStatementWith tokens (suc nesting_left) (IsStatement tokens nesting_left)

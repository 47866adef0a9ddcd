-- Expressions (IEEE 1364-2005, clause 5 and A.8): which tree the tokens from a place up to another one spell. The places are
-- numbers of tokens. Each production stands as its comment: x? is optional, x,+ is one or more with commas between.
use Rattle.std.specs.Prelude.{◌≡◌, ◌≢◌, ℕ, ◌+◌, ◌<◌, ◌≤◌, ◌⊎◌, Bool, true, false, List, Some, None, nat_lt}
use Rattle.v_lexer.specs.Lexeme.{Lexeme}
use Rattle.v_lexer.specs.declared.types.terminal.Terminal.TheVariants.{Number, Wild, Name, Open, Close, OpenBracket, CloseBracket, OpenBrace, CloseBrace, Comma, Colon, Question}
use Rattle.v_tree.specs.Marks.{mark_at}
use Rattle.v_tree.specs.Sites.{text_at, site}
use Rattle.v_tree.specs.Operators.{unary_of, binary_of, strength, system_of, part_of}
use Rattle.v_syntax.specs.Tree.{Tree, number, wild, name, parens, concat, repeat, system, unary, binary, conditional, Trees, no_tree, tree, Selection, bit, part, Selections, no_select, select}
use Rattle.v_tree.specs.Depth.{nesting, levels}

-- the level of a tree's outermost operator: 0 for ?:, 12 for a unary operator and for what has no operator
abbrev pub tightness : Tree → ℕ
tightness (binary s operator left right) = strength operator
tightness (conditional s condition then other) = 0
tightness _ = 12

abbrev pub how_many : Selections → ℕ
how_many no_select = 0
how_many (select s ss) = how_many ss + 1

abbrev mutual
  -- the tokens from a up to b spell the expression
  pub IsExpr : List Lexeme → Tree → ℕ → ℕ → Type 0
  -- NUMBER
  IsExpr tokens (number s text) a b = (mark_at tokens a ≡ Number) × (text ≡ text_at tokens a) × (b ≡ a + 1) × (s ≡ site tokens a b)
  -- a number with wildcard digits is no operand
  IsExpr tokens (wild s text) a b = ⊥
  -- NAME select? select?
  IsExpr tokens (name s text selects) a b =
      (mark_at tokens a ≡ Name) × (text ≡ text_at tokens a) × AreSelects tokens selects (a + 1) b × (how_many selects ≤ 2) × (s ≡ site tokens a b)
  -- '(' expr ')'
  IsExpr tokens (parens s inner) a b =
      (m : ℕ) × (mark_at tokens a ≡ Open) × IsExpr tokens inner (a + 1) m × (mark_at tokens m ≡ Close) × (b ≡ m + 1) × (s ≡ site tokens a b)
  -- '{' expr,+ '}'
  IsExpr tokens (concat s parts) a b =
      (m : ℕ) × (mark_at tokens a ≡ OpenBrace) × AreParts tokens parts (a + 1) m × (mark_at tokens m ≡ CloseBrace) × (b ≡ m + 1) × (s ≡ site tokens a b)
  -- '{' expr '{' expr,+ '}' '}'
  IsExpr tokens (repeat s count parts) a b =
      (m n : ℕ) × (mark_at tokens a ≡ OpenBrace) × IsExpr tokens count (a + 1) m × (mark_at tokens m ≡ OpenBrace) × AreParts tokens parts (m + 1) n
      × (mark_at tokens n ≡ CloseBrace) × (mark_at tokens (n + 1) ≡ CloseBrace) × (b ≡ n + 1 + 1) × (s ≡ site tokens a b)
  -- SYSNAME '(' expr ')'
  IsExpr tokens (system s function argument) a b =
      (m : ℕ) × (system_of (mark_at tokens a) ≡ Some function) × (mark_at tokens (a + 1) ≡ Open) × IsExpr tokens argument (a + 1 + 1) m
      × (mark_at tokens m ≡ Close) × (b ≡ m + 1) × (s ≡ site tokens a b)
  -- a unary operator stands before an operand, or before another one
  IsExpr tokens (unary s operator operand) a b =
      (unary_of (mark_at tokens a) ≡ Some operator) × IsExpr tokens operand (a + 1) b × (12 ≤ tightness operand) × (s ≡ site tokens a b)
  -- binary operators associate to the left
  IsExpr tokens (binary s operator left right) a b =
      (m : ℕ) × IsExpr tokens left a m × (strength operator ≤ tightness left) × (binary_of (mark_at tokens m) ≡ Some operator)
      × IsExpr tokens right (m + 1) b × (strength operator < tightness right) × (s ≡ site tokens a b)
  -- condition '?' then ':' other, which associates to the right
  IsExpr tokens (conditional s condition then other) a b =
      (m n : ℕ) × IsExpr tokens condition a m × (1 ≤ tightness condition) × (mark_at tokens m ≡ Question) × IsExpr tokens then (m + 1) n
      × (mark_at tokens n ≡ Colon) × IsExpr tokens other (n + 1) b × (s ≡ site tokens a b)

  -- expr,+
  pub AreParts : List Lexeme → Trees → ℕ → ℕ → Type 0
  AreParts tokens no_tree a b = ⊥
  AreParts tokens (tree first rest) a b = (m : ℕ) × IsExpr tokens first a m × AreMore tokens rest m b

  -- (',' expr)*
  pub AreMore : List Lexeme → Trees → ℕ → ℕ → Type 0
  AreMore tokens no_tree a b = b ≡ a
  AreMore tokens (tree first rest) a b = (m : ℕ) × (mark_at tokens a ≡ Comma) × IsExpr tokens first (a + 1) m × AreMore tokens rest m b

  pub IsSelect : List Lexeme → Selection → ℕ → ℕ → Type 0
  -- '[' expr ']'
  IsSelect tokens (bit s index) a b =
      (m : ℕ) × (mark_at tokens a ≡ OpenBracket) × IsExpr tokens index (a + 1) m × (mark_at tokens m ≡ CloseBracket) × (b ≡ m + 1) × (s ≡ site tokens a b)
  -- '[' expr (':' | '+:' | '-:') expr ']'
  IsSelect tokens (part s kind left right) a b =
      (m n : ℕ) × (mark_at tokens a ≡ OpenBracket) × IsExpr tokens left (a + 1) m × (part_of (mark_at tokens m) ≡ Some kind)
      × IsExpr tokens right (m + 1) n × (mark_at tokens n ≡ CloseBracket) × (b ≡ n + 1) × (s ≡ site tokens a b)

  pub AreSelects : List Lexeme → Selections → ℕ → ℕ → Type 0
  AreSelects tokens no_select a b = b ≡ a
  AreSelects tokens (select first rest) a b = (m : ℕ) × IsSelect tokens first a m × AreSelects tokens rest m b

-- the token is a number with wildcard digits, and the tree is that number
abbrev pub IsWild : List Lexeme → Tree → ℕ → ℕ → Type 0
IsWild tokens (wild s text) a b = (mark_at tokens a ≡ Wild) × (text ≡ text_at tokens a) × (b ≡ a + 1) × (s ≡ site tokens a b)
IsWild tokens _ a b = ⊥

-- the last token belongs to a name that could have one more select
abbrev pub takes_select : Tree → Bool
takes_select (name s text selects) = nat_lt (how_many selects) 2
takes_select (unary s operator operand) = takes_select operand
takes_select (binary s operator left right) = takes_select right
takes_select (conditional s condition then other) = takes_select other
takes_select _ = false

-- the token at b doesn't go on with the expression: it is no binary operator, no ?, and no [ behind such a name
pub record Ends (tokens : List Lexeme) (e : Tree) (b : ℕ) : Type 0 where
  pub no_operator : binary_of (mark_at tokens b) ≡ None
  pub no_question : mark_at tokens b ≢ Question
  pub no_select : takes_select e ≡ true → mark_at tokens b ≢ OpenBracket

-- within the limits: at most so deep, and at most 4096 levels
pub record Within (nesting_left : ℕ) (e : Tree) : Type 0 where
  pub nests : nesting e ≤ nesting_left
  pub rises : levels e ≤ 4096

-- the expression that begins at a and goes on as far as it can, up to b: a number with wildcard digits may be the whole of it
pub record IsWhole (tokens : List Lexeme) (nesting_left : ℕ) (e : Tree) (a b : ℕ) : Type 0 where
  pub spelled : IsExpr tokens e a b ⊎ IsWild tokens e a b
  pub ends : Ends tokens e b
  pub within : Within nesting_left e

-- Names, ranges, delays and left sides (IEEE 1364-2005, A.2, A.6, A.8.5 and A.9.3): which tree the tokens from a place up to
-- another one spell, where `nesting_left` levels of nesting are left. The places are numbers of tokens. Each production stands as its comment:
-- x? is x where its first token stands and nothing elsewhere, x,+ is one or more with commas between, as far as commas go.
use Rattle.std.specs.Prelude.{◌≡◌, ◌≢◌, ℕ, zero, suc, ◌+◌, ◌<◌, ◌≤◌, ◌⊎◌, List, [], ◌∷◌, Option, Some, None}
use Rattle.v_lexer.specs.Lexeme.{Lexeme}
use Rattle.v_syntax.specs.declared.declaration.Identifier.{Identifier}
use Rattle.v_lexer.specs.declared.types.terminal.Terminal.{Terminal}
use Rattle.v_lexer.specs.declared.types.terminal.Terminal.TheVariants.{Number, Name, Open, Close, OpenBracket, CloseBracket, OpenBrace, CloseBrace, Comma, Colon, Equals, Hash}
use Rattle.v_tree.specs.Marks.{mark_at}
use Rattle.v_tree.specs.Sites.{text_at, site}
use Rattle.v_syntax.specs.Tree.{Tree, Selections}
use Rattle.v_tree.specs.Depth.{nesting_of_selects, levels_of_selects}
use Rattle.v_tree.specs.Expressions.{IsExpr, AreSelects, how_many, Ends, Within}
use Rattle.v_syntax.specs.PartTree.{PlainRange, PlainNamed, PlainDelay, number_delay, name_delay, parens_delay, PlainLeft, name_left, concat_left, lefts_of}

-- x?
abbrev pub IsOptional : {A : Type 0} → List Lexeme → Terminal → (A → ℕ → ℕ → Type 0) → Option A → ℕ → ℕ → Type 0
IsOptional tokens first part None a b = (mark_at tokens a ≢ first) × (b ≡ a)
IsOptional tokens first part (Some x) a b = (mark_at tokens a ≡ first) × part x a b

-- (',' x)*
abbrev pub AreMore : {A : Type 0} → List Lexeme → (A → ℕ → ℕ → Type 0) → List A → ℕ → ℕ → Type 0
AreMore tokens part [] a b = (mark_at tokens a ≢ Comma) × (b ≡ a)
AreMore tokens part (x ∷ xs) a b = (m : ℕ) × (mark_at tokens a ≡ Comma) × part x (a + 1) m × AreMore tokens part xs m b

-- x,+
abbrev pub AreListed : {A : Type 0} → List Lexeme → (A → ℕ → ℕ → Type 0) → List A → ℕ → ℕ → Type 0
AreListed tokens part [] a b = ⊥
AreListed tokens part (x ∷ xs) a b = (m : ℕ) × part x a m × AreMore tokens part xs m b

-- x* and a token of the mark `last`, which no x begins with; each x may change what is taken behind it
abbrev pub AreRun : {S A : Type 0} → List Lexeme → Terminal → (S → A → ℕ → ℕ → Type 0) → (S → A → S) → S → List A → ℕ → ℕ → Type 0
AreRun tokens last part next s [] a b = (mark_at tokens a ≡ last) × (b ≡ a + 1)
AreRun tokens last part next s (x ∷ xs) a b = (m : ℕ) × (mark_at tokens a ≢ last) × part s x a m × AreRun tokens last part next (next s x) xs m b

-- NAME
abbrev pub IsName : List Lexeme → List ℕ → ℕ → ℕ → Type 0
IsName tokens name a b = (mark_at tokens a ≡ Name) × (name ≡ text_at tokens a) × (b ≡ a + 1)

-- NAME, with where it stands
abbrev pub IsIdentifier : List Lexeme → Identifier → ℕ → ℕ → Type 0
IsIdentifier tokens x a b = (name : List ℕ) × (m : ℕ) × IsName tokens name a m × ((x ≡ record { site = site tokens a m; name = name }) × (b ≡ m))

-- expr, without a number with wildcard digits, as far as it goes and within the limits
pub record IsValue (tokens : List Lexeme) (nesting_left : ℕ) (e : Tree) (a b : ℕ) : Type 0 where
  pub spelled : IsExpr tokens e a b
  pub ends : Ends tokens e b
  pub within : Within nesting_left e

-- '=' expr
abbrev pub IsEquals : List Lexeme → ℕ → Tree → ℕ → ℕ → Type 0
IsEquals tokens nesting_left e a b = (mark_at tokens a ≡ Equals) × IsValue tokens nesting_left e (a + 1) b

-- '[' expr ':' expr ']'
abbrev pub IsRange : List Lexeme → ℕ → PlainRange → ℕ → ℕ → Type 0
IsRange tokens nesting_left range a b =
    (less : ℕ) × (less + 1 ≡ nesting_left) × (mark_at tokens a ≡ OpenBracket)
    × ((left : Tree) × (m : ℕ) × IsValue tokens less left (a + 1) m
    × ((mark_at tokens m ≡ Colon)
    × ((right : Tree) × (n : ℕ) × IsValue tokens less right (m + 1) n
    × ((mark_at tokens n ≡ CloseBracket)
    × ((range ≡ record { site = site tokens a (n + 1); left = left; right = right }) × (b ≡ n + 1))))))

-- NUMBER, behind the # at `from`
abbrev pub IsNumberDelay : List Lexeme → ℕ → PlainDelay → ℕ → ℕ → Type 0
IsNumberDelay tokens from delay a b = (mark_at tokens a ≡ Number) × ((delay ≡ number_delay (site tokens from (a + 1)) (text_at tokens a)) × (b ≡ a + 1))

-- '(' expr ')'
abbrev pub IsParensDelay : List Lexeme → ℕ → ℕ → PlainDelay → ℕ → ℕ → Type 0
IsParensDelay tokens nesting_left from delay a b =
    (less : ℕ) × (less + 1 ≡ nesting_left) × (mark_at tokens a ≡ Open)
    × ((value : Tree) × (m : ℕ) × IsValue tokens less value (a + 1) m
    × ((mark_at tokens m ≡ Close)
    × ((delay ≡ parens_delay (site tokens from (m + 1)) value) × (b ≡ m + 1))))

-- NAME
abbrev pub IsNameDelay : List Lexeme → ℕ → PlainDelay → ℕ → ℕ → Type 0
IsNameDelay tokens from delay a b = (name : List ℕ) × (m : ℕ) × IsName tokens name a m × ((delay ≡ name_delay (site tokens from m) name) × (b ≡ m))

-- '#' (NUMBER | '(' expr ')' | NAME)
abbrev pub IsDelay : List Lexeme → ℕ → PlainDelay → ℕ → ℕ → Type 0
IsDelay tokens nesting_left delay a b =
    (mark_at tokens a ≡ Hash)
    × (IsNumberDelay tokens a delay (a + 1) b ⊎ (IsParensDelay tokens nesting_left a delay (a + 1) b ⊎ IsNameDelay tokens a delay (a + 1) b))

-- select? select?, where each index is an expression of its own
pub record AreIndexes (tokens : List Lexeme) (nesting_left : ℕ) (selects : Selections) (a b : ℕ) : Type 0 where
  pub spelled : AreSelects tokens selects a b
  pub two : how_many selects ≤ 2
  pub ends : how_many selects < 2 → mark_at tokens b ≢ OpenBracket
  pub nests : nesting_of_selects selects ≤ nesting_left
  pub rises : levels_of_selects selects ≤ 4097

-- NAME select? select?
abbrev pub IsNameLeft : List Lexeme → ℕ → PlainLeft → ℕ → ℕ → Type 0
IsNameLeft tokens nesting_left left a b =
    (name : List ℕ) × (m : ℕ) × IsName tokens name a m
    × ((selects : Selections) × (n : ℕ) × AreIndexes tokens nesting_left selects m n
    × ((left ≡ name_left (site tokens a n) name selects) × (b ≡ n)))

-- '{' left,+ '}', whose parts are left sides where less nesting is left
abbrev pub IsConcatLeft : List Lexeme → ℕ → (PlainLeft → ℕ → ℕ → Type 0) → PlainLeft → ℕ → ℕ → Type 0
IsConcatLeft tokens nesting_left part left a b =
    (less : ℕ) × (less + 1 ≡ nesting_left) × (mark_at tokens a ≡ OpenBrace)
    × ((parts : List PlainLeft) × (m : ℕ) × AreListed tokens part parts (a + 1) m
    × ((mark_at tokens m ≡ CloseBrace)
    × ((left ≡ concat_left (site tokens a (m + 1)) (lefts_of parts)) × (b ≡ m + 1))))

-- '{' left,+ '}' | NAME select? select?
abbrev pub IsLeftWith : List Lexeme → ℕ → (PlainLeft → ℕ → ℕ → Type 0) → PlainLeft → ℕ → ℕ → Type 0
IsLeftWith tokens nesting_left part left a b = IsConcatLeft tokens nesting_left part left a b ⊎ IsNameLeft tokens nesting_left left a b

abbrev pub IsLeft : List Lexeme → ℕ → PlainLeft → ℕ → ℕ → Type 0
IsLeft tokens zero = IsLeftWith tokens zero (λ left a b. ⊥)
IsLeft tokens (suc nesting_left) = IsLeftWith tokens (suc nesting_left) (IsLeft tokens nesting_left)

-- NAME '=' expr
abbrev pub IsNamedValue : List Lexeme → ℕ → PlainNamed → ℕ → ℕ → Type 0
IsNamedValue tokens nesting_left named a b =
    (name : Identifier) × (m : ℕ) × IsIdentifier tokens name a m
    × ((mark_at tokens m ≡ Equals)
    × ((value : Tree) × (n : ℕ) × IsValue tokens nesting_left value (m + 1) n
    × ((named ≡ record { site = site tokens a n; name = name; value = value }) × (b ≡ n))))

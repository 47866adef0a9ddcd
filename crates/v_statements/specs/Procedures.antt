-- Always and initial blocks (IEEE 1364-2005, 9.9 and A.6.2): which tree the tokens from a place up to another one spell, where
-- `nesting_left` levels of nesting are left. Each production stands as its comment, as in Productions.
use Rattle.std.specs.Prelude.{◌≡◌, ℕ, ◌+◌, ◌⊎◌, List}
use Rattle.v_lexer.specs.Lexeme.{Lexeme}
use Rattle.v_lexer.specs.declared.types.terminal.Terminal.TheVariants.{At, Always, Initial}
use Rattle.v_tree.specs.Marks.{mark_at}
use Rattle.v_tree.specs.Sites.{site}
use Rattle.v_syntax.specs.StatementTree.{PlainStatement}
use Rattle.v_statements.specs.Statements.{IsStatement}
use Rattle.v_statements.specs.Initials.{IsInitial}
use Rattle.v_syntax.specs.ItemTree.{PlainSensitivity, PlainItem, always_item, initial_item}
use Rattle.v_statements.specs.Sensitivities.{IsSensitivity}

-- 'always' '@' sens stmt
abbrev pub IsAlways : List Lexeme → ℕ → PlainItem → ℕ → ℕ → Type 0
IsAlways tokens nesting_left x a b =
    (mark_at tokens a ≡ Always)
    × ((mark_at tokens (a + 1) ≡ At)
    × ((events : PlainSensitivity) × (m : ℕ) × IsSensitivity tokens nesting_left events (a + 1 + 1) m
    × ((body : PlainStatement) × (n : ℕ) × IsStatement tokens nesting_left body m n
    × ((x ≡ always_item (site tokens a n) events body) × (b ≡ n)))))

-- 'initial' initial
abbrev pub IsInitialItem : List Lexeme → ℕ → PlainItem → ℕ → ℕ → Type 0
IsInitialItem tokens nesting_left x a b =
    (mark_at tokens a ≡ Initial)
    × ((body : PlainStatement) × (n : ℕ) × IsInitial tokens nesting_left body (a + 1) n
    × ((x ≡ initial_item (site tokens a n) body) × (b ≡ n)))

-- 'always' '@' sens stmt | 'initial' initial
abbrev pub IsProcedure : List Lexeme → ℕ → PlainItem → ℕ → ℕ → Type 0
IsProcedure tokens nesting_left x a b = IsAlways tokens nesting_left x a b ⊎ IsInitialItem tokens nesting_left x a b

-- What the reading of an expression answers.
use Rattle.std.specs.Prelude.{◌≡◌, ℕ, ◌+◌, ◌≤◌, List, true, length, Result, MatchResult}
use Rattle.v_lexer.specs.Lexeme.{Lexeme}
use Rattle.v_lexer.specs.declared.types.terminal.Terminal.TheVariants as mark
use Rattle.v_syntax.specs.declared.expression.Expr.{Expr}
use Rattle.v_tree.specs.declared.fault.Fault.{Fault}
use Rattle.v_tree.specs.declared.fault.ParseErr.{ParseErr}
use Rattle.v_tree.specs.declared.fault.ParseErr.TheVariants as error
use Rattle.v_tree.specs.Marks.{mark_at}
use Rattle.v_syntax.specs.Tree.{Tree, tree_of}
use Rattle.v_tree.specs.Expressions.{IsWhole}
use Rattle.v_tree.specs.Faults.{fault_place, is_unsupported, is_deep, error_of_fault, Begins, told_by}

-- no tokens that begin as these do, up to the one that tells of the fault, have an expression from a on; the place behind the
-- last token stands for the end, so there it is said of these tokens alone
pub record Refuses (tokens : List Lexeme) (nesting_left a : ℕ) (fault : Fault) : Type 0 where
  pub after : a ≤ fault_place fault
  pub inside : fault_place fault ≤ length tokens
  pub no_tree : (others : List Lexeme) → Begins tokens others (told_by tokens (fault_place fault)) → (e : Tree) (b : ℕ) → IsWhole others nesting_left e a b → ⊥
  -- a reserved word that is left out is unsupported
  pub refused : mark_at tokens (fault_place fault) ≡ mark.Refused → is_unsupported fault ≡ true
  -- a limit is passed only behind 256 tokens
  pub deep : is_deep fault ≡ true → a + 256 ≤ fault_place fault

-- the answer is that expression and the place behind it, unless memory ran out
abbrev pub IsAnswer : Result (Expr × ℕ) ParseErr → Tree → ℕ → Type 0
IsAnswer result e b = MatchResult result (λ found. (tree_of found.0 ≡ e) × (found.1 ≡ b)) (λ refusal. refusal ≡ error.NoMemory)

-- the error shows a fault that refuses, or want of memory
pub record ShowsFault (tokens : List Lexeme) (nesting_left a : ℕ) (refusal : ParseErr) : Type 0 where
  pub fault : Fault
  pub shown : refusal ≡ error_of_fault tokens fault
  pub refuses : Refuses tokens nesting_left a fault

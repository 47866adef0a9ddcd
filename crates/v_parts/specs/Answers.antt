-- What the reading of a production answers.
use Rattle.std.specs.Prelude.{◌≡◌, ℕ, ◌+◌, ◌≤◌, List, true, length, Result, MatchResult}
use Rattle.v_lexer.specs.Lexeme.{Lexeme}
use Rattle.v_lexer.specs.declared.types.terminal.Terminal.TheVariants as mark
use Rattle.v_syntax.specs.declared.statement.Statement.{Statement}
use Rattle.v_tree.specs.declared.fault.Fault.{Fault}
use Rattle.v_tree.specs.declared.fault.ParseErr.{ParseErr}
use Rattle.v_tree.specs.declared.fault.ParseErr.TheVariants as error
use Rattle.v_tree.specs.Marks.{mark_at}
use Rattle.v_tree.specs.Faults.{fault_place, is_unsupported, is_deep, error_of_fault, Begins, told_by}
use Rattle.v_syntax.specs.StatementTree.{PlainStatement, statement_of}

-- no tokens that begin as these do, up to the one that tells of the fault, have a tree of the production from a on; the place
-- behind the last token stands for the end, so there it is said of these tokens alone
pub record Refuses {A : Type 0} (production : List Lexeme → A → ℕ → ℕ → Type 0) (tokens : List Lexeme) (a : ℕ) (fault : Fault) : Type 0 where
  pub after : a ≤ fault_place fault
  pub inside : fault_place fault ≤ length tokens
  pub no_tree : (others : List Lexeme) → Begins tokens others (told_by tokens (fault_place fault)) → (x : A) (b : ℕ) → production others x a b → ⊥
  -- a reserved word that is left out is unsupported
  pub refused : mark_at tokens (fault_place fault) ≡ mark.Refused → is_unsupported fault ≡ true
  -- a limit is passed only behind 256 tokens
  pub deep : is_deep fault ≡ true → a + 256 ≤ fault_place fault

-- the answer is that statement and the place behind it, unless memory ran out
abbrev pub IsAnswer : Result (Statement × ℕ) ParseErr → PlainStatement → ℕ → Type 0
IsAnswer result s b = MatchResult result (λ found. (statement_of found.0 ≡ s) × (found.1 ≡ b)) (λ refusal. refusal ≡ error.NoMemory)

-- the error shows a fault that refuses, or want of memory
pub record ShowsFault {A : Type 0} (production : List Lexeme → A → ℕ → ℕ → Type 0) (tokens : List Lexeme) (a : ℕ) (refusal : ParseErr) : Type 0 where
  pub fault : Fault
  pub shown : refusal ≡ error_of_fault tokens fault
  pub refuses : Refuses production tokens a fault

-- A statement of a text has one default in a case at most.
use Rattle.std.proofs.Common.{ℕ, zero, suc, Bool, true, false, List, [], ◌∷◌, sym, subst, inl, inr}
use Rattle.std.specs.Prelude.{◌||◌}
use Rattle.loc_base.proofs.ShelfBools.{or-false, or-true}
use Rattle.v_lexer.specs.Lexeme.{Lexeme}
use Rattle.v_lexer.specs.declared.types.terminal.Terminal.TheVariants.{End, Endcase}
use Rattle.v_syntax.specs.declared.statement.CaseKind.{CaseKind}
use Rattle.v_syntax.specs.declared.statement.CaseKind.TheVariants as kinds
use Rattle.v_syntax.specs.Tree.{Tree}
use Rattle.v_syntax.specs.StatementTree.{PlainStatement, statements_of, PlainCaseItem, item, case_items_of, is_default}
use Rattle.v_parts.specs.Productions.{AreRun}
use Rattle.v_statements.specs.Statements.{Nested, IsBlock, IsElse, IsCaseItem, IsCase, IsStatementWith, IsStatement}
use Rattle.bind_laws.specs.Every.{Every}
use Rattle.bind_laws.specs.Written.{WrittenStatement, WrittenStatements, WrittenArms}
use Rattle.verilog_front_end.proofs.Steps.{run-every}

-- what nests in a statement is so
abbrev pub AllWritten : Nested → Type 0
AllWritten part = (x : PlainStatement) (a b : ℕ) → part x a b → WrittenStatement x

written-all : (xs : List PlainStatement) → Every WrittenStatement xs → WrittenStatements (statements_of xs)
written-all [] all = tt
written-all (x ∷ xs) all = (all.0, written-all xs all.1)

block-written : (tokens : List Lexeme) (n : ℕ) (part : Nested) → AllWritten part → (x : PlainStatement) (a b : ℕ)
    → IsBlock tokens n part x a b → WrittenStatement x
block-written tokens n part each x a b (less, one, begin, (label, m, named, (body, k, run, (is, end)))) =
    subst WrittenStatement (sym is) (written-all body (run-every tokens End (λ (s : Bool). part) (λ s x. s) WrittenStatement (λ s. each) true body m k run))

else-written : (tokens : List Lexeme) (part : Nested) → AllWritten part
    → (from : ℕ) (condition : Tree) (then x : PlainStatement) (a b : ℕ) → WrittenStatement then
    → IsElse tokens part from condition then x a b → WrittenStatement x
else-written tokens part each from condition then x a b first (inl (mark, (other, n, here, (is, end)))) = subst WrittenStatement (sym is) (first, each other _ n here)
else-written tokens part each from condition then x a b first (inr (mark, (is, end))) = subst WrittenStatement (sym is) first

-- an arm, with those behind it
arm-written : (tokens : List Lexeme) (n : ℕ) (kind : CaseKind) (part : Nested) → AllWritten part
    → (had : Bool) (x : PlainCaseItem) (a b : ℕ) (rest : _)
    → IsCaseItem tokens n kind part had x a b → WrittenArms (had || is_default x) rest → WrittenArms had (item x rest)
arm-written tokens n kind part each had x a b rest (inl (mark, none, (word, (colon, m, stands, (body, k, here, (is, end)))))) =
    subst (λ (y : PlainCaseItem). WrittenArms (had || is_default y) rest → WrittenArms had (item y rest)) (sym is)
    (λ later. (none, each body m k here, subst (λ h. WrittenArms h rest) (or-true had) later))
arm-written tokens n kind part each had x a b rest (inr (mark, (labels, m, listed, (colon, (body, k, here, (is, end)))))) =
    subst (λ (y : PlainCaseItem). WrittenArms (had || is_default y) rest → WrittenArms had (item y rest)) (sym is)
    (λ later. (each body _ k here, subst (λ h. WrittenArms h rest) (or-false had) later))

arms-written : (tokens : List Lexeme) (n : ℕ) (kind : CaseKind) (part : Nested) → AllWritten part
    → (had : Bool) (xs : List PlainCaseItem) (a b : ℕ)
    → AreRun tokens Endcase (IsCaseItem tokens n kind part) (λ h y. h || is_default y) had xs a b
    → WrittenArms had (case_items_of xs)
arms-written tokens n kind part each had [] a b run = tt
arms-written tokens n kind part each had (x ∷ xs) a b (m, other, here, rest) =
    arm-written tokens n kind part each had x a m (case_items_of xs) here (arms-written tokens n kind part each (had || is_default x) xs m b rest)

case-written : (tokens : List Lexeme) (n : ℕ) (kind : CaseKind) (part : Nested) → AllWritten part
    → (x : PlainStatement) (a b : ℕ) → IsCase tokens n kind part x a b → WrittenStatement x
case-written tokens n kind part each x a b (less, one, word, (subject, m, parens, (first, k, here, (items, l, (others, o, run, (list, last)), (is, end))))) =
    subst WrittenStatement (sym is)
    (subst (λ xs. WrittenArms false (case_items_of xs)) (sym list)
    (arm-written tokens less kind part each false first m k (case_items_of others) here (arms-written tokens less kind part each (false || is_default first) others k o run)))

with-written : (tokens : List Lexeme) (n : ℕ) (part : Nested) → AllWritten part → (x : PlainStatement) (a b : ℕ)
    → IsStatementWith tokens n part x a b → WrittenStatement x
with-written tokens n part each x a b (inl (mark, (is, end))) = subst WrittenStatement (sym is) tt
with-written tokens n part each x a b (inr (inl here)) = block-written tokens n part each x a b here
with-written tokens n part each x a b (inr (inr (inl (less, one, hash, (delay, m, waits, (body, k, here, (is, end))))))) = subst WrittenStatement (sym is) (each body m k here)
with-written tokens n part each x a b (inr (inr (inr (inl (less, one, word, (condition, m, parens, (then, k, here, others))))))) =
    else-written tokens part each a condition then x k b (each then m k here) others
with-written tokens n part each x a b (inr (inr (inr (inr (inl here))))) = case-written tokens n kinds.Case part each x a b here
with-written tokens n part each x a b (inr (inr (inr (inr (inr (inl here)))))) = case-written tokens n kinds.Casez part each x a b here
with-written tokens n part each x a b (inr (inr (inr (inr (inr (inr (inl (less, one, word, (head, m, heads, (body, k, here, (is, end))))))))))) = subst WrittenStatement (sym is) (each body m k here)
with-written tokens n part each x a b (inr (inr (inr (inr (inr (inr (inr (target, m, left, (kind, k, sets, (delay, l, waits, (value, o, valued, (semicolon, (is, end))))))))))))) = subst WrittenStatement (sym is) tt

pub statement-written : (tokens : List Lexeme) (n : ℕ) (x : PlainStatement) (a b : ℕ) → IsStatement tokens n x a b
    → WrittenStatement x
statement-written tokens zero x a b is = with-written tokens zero (λ x a b. ⊥) (λ x a b none. absurd none) x a b is
statement-written tokens (suc n) x a b is = with-written tokens (suc n) (IsStatement tokens n) (statement-written tokens n) x a b is

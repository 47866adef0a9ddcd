-- The steps of a log, one after another.
use Rattle.std.proofs.Common.{◌≡◌, ℕ, ◌+◌, ◌<◌, ◌≤◌, Option, None, Some, cond, List, length, take, arith, All}
use Rattle.std.specs.Prelude.{MatchOption, IsNone}
use Rattle.std.proofs.lemmas.List.Elements.{All-push}
use Rattle.std.proofs.lemmas.List.Sums.{sum_by_more}
use Rattle.clause_base.specs.declared.literal.Lit.{Lit}
use Rattle.clause_base.specs.declared.log.Step.{Step}
use Rattle.clause_base.specs.declared.log.StepKind.{StepKind}
use Rattle.clause_base.specs.declared.log.StepKind.TheVariants.{Block, Learned, Derived}
use Rattle.clause_base.specs.Steps.{step_at, no_step}
use Rattle.clause_base.specs.Acceptance.{clauses_of, blocks_in, is_block, is_block_kind, IsAcceptedAs, IsAcceptedAt}
use Rattle.clause_base.proofs.Accepted.{clauses_of-more, accepted-each}
use Rattle.proof_check.specs.declared.marks.Mark.{Mark}
use Rattle.proof_check.specs.Marks.{AreInTable}

pub from_none : {A : Type 0} (P : Type 0) (Q : A → Type 0) (answer : Option A) → IsNone answer → MatchOption answer P Q → P
from_none P Q None none at = at
from_none P Q (Some x) none at = cc

-- the number of blocks with one more step
pub blocks_in-more : (log : List Step) (place : ℕ) → place < length log → blocks_in (take (place + 1) log) ≡ blocks_in (take place log) + cond (is_block (step_at log place)) 1 0
blocks_in-more log place within = sum_by_more (λ (step : Step). cond (is_block step) 1 0) log place no_step within

blocks_as-le : (kind : StepKind) (form blocks : List (List Lit)) (earlier : List Step) (step : Step) (seen : ℕ) → seen ≡ blocks_in earlier → seen ≤ length blocks → IsAcceptedAs kind form blocks earlier step
    → seen + cond (is_block_kind kind) 1 0 ≤ length blocks
blocks_as-le Block form blocks earlier step seen count few accepted = omega (arith, accepted.0)
blocks_as-le Learned form blocks earlier step seen count few accepted = omega arith
blocks_as-le Derived form blocks earlier step seen count few accepted = omega arith

-- an accepted step leaves no more blocks behind than there are
pub blocks-le : (form blocks : List (List Lit)) (log : List Step) (place seen : ℕ) → seen ≡ blocks_in (take place log) → seen ≤ length blocks → IsAcceptedAt form blocks log place
    → seen + cond (is_block (step_at log place)) 1 0 ≤ length blocks
blocks-le form blocks log place seen count few accepted = blocks_as-le (step_at log place).kind form blocks (take place log) (step_at log place) seen count few accepted

-- an accepted step's clause has its variables in the table, as the earlier ones have
pub in_table-more : (old new : List Mark) (form blocks : List (List Lit)) (log : List Step) (place : ℕ) → place < length log → length new ≡ length old → AreInTable old blocks
    → AreInTable old (clauses_of form (take place log)) → IsAcceptedAt form blocks log place → AreInTable new (clauses_of form (take (place + 1) log))
in_table-more old new form blocks log place within same in_blocks in_earlier accepted =
    let last : All (λ l. l.var < length old) (step_at log place).clause = accepted-each (λ l. l.var < length old) form blocks (take place log) (step_at log place) in_blocks in_earlier accepted in
    rw (same, clauses_of-more form log place within) (All-push (λ clause. All (λ l. l.var < length old) clause) (clauses_of form (take place log)) (step_at log place).clause in_earlier last)

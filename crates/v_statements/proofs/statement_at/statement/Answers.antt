use Rattle.std.proofs.Common.{subst, sym, ◌∙◌}
use Rattle.v_syntax.specs.StatementTree.{statement_of}
use Rattle.v_statements.specs.Statements.{IsStatement}
use Rattle.v_statements.specs.StatementReading.{statement_at}
use Rattle.v_parts.specs.Answers.{ShowsFault}
use Rattle.v_statements.proofs.StatementAnswers.{statement_law}
use Rattle.v_parts.proofs.AnswerLemmas.{found_one, found_only, refused_only, shows_fault}
use Rattle.v_statements.proofs.statement_at.statement.Goals as goal

pub returns-in-Ok-clause-found : goal.returns-in-Ok-clause-found
returns-in-Ok-clause-found c =
    found_one (λ t a. statement_at t 256 a) (λ t. IsStatement t 256) statement_law c.args.tokens.now c.args.at c.requires.inside (statement_of c.in-Ok.found.0) c.in-Ok.found.1 c.in-Ok.ensures.gives

pub returns-in-Ok-clause-only : goal.returns-in-Ok-clause-only
returns-in-Ok-clause-only c =
    found_only (λ t a. statement_at t 256 a) (λ t. IsStatement t 256) statement_law c.args.tokens.now c.args.at c.requires.inside (statement_of c.in-Ok.found.0) c.in-Ok.found.1 c.in-Ok.ensures.gives

pub returns-in-Err-clause-only : goal.returns-in-Err-clause-only
returns-in-Err-clause-only c s b h =
    c.error_of.ensures
    ∙ refused_only (λ t a. statement_at t 256 a) (λ t. IsStatement t 256) statement_law c.args.tokens.now c.args.at c.requires.inside c.in-Err.stop c.in-Err.ensures.gives s b h

pub returns-in-Err-clause-refused : goal.returns-in-Err-clause-refused
returns-in-Err-clause-refused c some =
    subst (ShowsFault (λ t. IsStatement t 256) c.args.tokens.now c.args.at) (sym c.error_of.ensures)
    (shows_fault (λ t a. statement_at t 256 a) (λ t. IsStatement t 256) statement_law c.args.tokens.now c.args.at c.requires.inside c.in-Err.stop c.in-Err.ensures.gives (λ h. some (c.error_of.ensures ∙ h)))

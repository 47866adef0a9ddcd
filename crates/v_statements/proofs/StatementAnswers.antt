-- The laws of the statements that begin at a place, before which nothing is open.
use Rattle.v_statements.specs.Statements.{IsStatement}
use Rattle.v_statements.specs.StatementReading.{statement_at}
use Rattle.v_statements.specs.Initials.{IsInitial}
use Rattle.v_statements.specs.InitialReading.{initial_at}
use Rattle.v_parts.proofs.AnswerLemmas.{LawAt, start_at}
use Rattle.v_statements.proofs.StatementLaws.{taking_statement}
use Rattle.v_statements.proofs.InitialLaws.{taking_initial}

pub statement_law : LawAt (λ t a. statement_at t 256 a) (λ t. IsStatement t 256)
statement_law t u a h = (taking_statement a t u 256 a (start_at t a h)).law

pub initial_law : LawAt (λ t a. initial_at t 256 a) (λ t. IsInitial t 256)
initial_law t u a h = (taking_initial a t u 256 a (start_at t a h)).law

use Rattle.std.proofs.Common.{◌≡◌, drop, map}
use Rattle.v_syntax.specs.StatementTree.{statement_of, statements_of}
use Rattle.v_binding.specs.Assignments.{initial_all}
use Rattle.v_binding.specs.Seen.{names_in}
use Rattle.bind_items.proofs.initials.+initial.Given as goal

abbrev pub invariant-initial_all-loop-statement : goal.invariant-initial_all-loop-statement
invariant-initial_all-loop-statement l =
    initial_all (names_in l.names) (statements_of (map statement_of (drop l.statement-index l.statements))) l.bound
    ≡ initial_all (names_in l.names) (statements_of (map statement_of l.statements)) l.initial.bound

use Rattle.std.proofs.Common.{◌≡◌, ◌+◌, ◌-◌, ◌*◌, ◌≤◌, length, Bool, true}
use Rattle.v_lexer.specs.declared.types.terminal.Terminal.TheVariants as marks
use Rattle.v_parts.specs.Reading.{run_at}
use Rattle.v_syntax.specs.StatementTree.{statement_of}
use Rattle.v_statements.specs.StatementReading.{body_at}
use Rattle.v_statements.specs.InitialReading.{initial_at}
use Rattle.v_parts.proofs.ListSteps.{with_front}
use Rattle.v_statements.proofs.initials.+initial.Given as goal

abbrev pub decreases-initial : goal.decreases-initial
decreases-initial l = 3 * l.nesting_left + 1

abbrev pub decreases-initial_block : goal.decreases-initial_block
decreases-initial_block l = 3 * l.nesting_left

abbrev pub decreases-initials : goal.decreases-initials
decreases-initials l = 3 * l.nesting_left + 2

abbrev pub invariant-initials-loop : goal.invariant-initials-loop
invariant-initials-loop l =
    let inner = initial_at l.tokens l.nesting_left in
    record {
      inside : l.end-2 ≤ length l.tokens;
      goes_on : body_at l.tokens inner l.at ≡ with_front statement_of l.list.items (run_at l.tokens marks.End (λ (s : Bool). inner) (λ s x. s) (l.end - l.counter) true l.end-2);
    }

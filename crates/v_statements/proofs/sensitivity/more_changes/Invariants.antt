use Rattle.std.proofs.Common.{◌≡◌, ◌-◌, ◌≤◌, length, Bool, true}
use Rattle.v_lexer.specs.declared.types.terminal.Terminal.TheVariants as marks
use Rattle.v_parts.specs.Reading.{run_at}
use Rattle.v_syntax.specs.ItemTree.{event_of}
use Rattle.v_statements.specs.SensitivityReading.{next_change_at, more_changes_at}
use Rattle.v_parts.proofs.ListSteps.{with_front}
use Rattle.v_statements.proofs.sensitivity.more_changes.Given as goal

abbrev pub invariant-loop : goal.invariant-loop
invariant-loop l =
    record {
      inside : l.end-2 ≤ length l.tokens;
      goes_on : more_changes_at l.tokens l.nesting_left (event_of l.fn.first) l.at
          ≡ with_front event_of l.list.items (run_at l.tokens marks.Close (λ (s : Bool). next_change_at l.tokens l.nesting_left) (λ s x. s) (l.end - l.counter) true l.end-2);
    }

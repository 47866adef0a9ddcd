use Rattle.std.proofs.Common.{◌≡◌, ◌+◌, ◌-◌, ◌*◌, ◌≤◌, length, Bool, true}
use Rattle.v_lexer.specs.declared.types.terminal.Terminal.TheVariants as marks
use Rattle.v_parts.specs.Reading.{run_at}
use Rattle.v_syntax.specs.StatementTree.{statement_of, case_item_of}
use Rattle.v_statements.specs.StatementReading.{statement_at, body_at, case_items_at, case_item_at, has_default}
use Rattle.v_parts.proofs.ListSteps.{with_front}
use Rattle.v_statements.proofs.statements.+statement.Given as goal

abbrev pub decreases-statement : goal.decreases-statement
decreases-statement l = 10 * l.nesting_left + 5

abbrev pub decreases-block : goal.decreases-block
decreases-block l = 10 * l.nesting_left + 4

abbrev pub decreases-statements : goal.decreases-statements
decreases-statements l = 10 * l.nesting_left + 6

abbrev pub decreases-delayed : goal.decreases-delayed
decreases-delayed l = 10 * l.nesting_left + 4

abbrev pub decreases-condition : goal.decreases-condition
decreases-condition l = 10 * l.nesting_left + 4

abbrev pub decreases-cases : goal.decreases-cases
decreases-cases l = 10 * l.nesting_left + 4

abbrev pub decreases-case_items : goal.decreases-case_items
decreases-case_items l = 10 * l.nesting_left + 8

abbrev pub decreases-case_item : goal.decreases-case_item
decreases-case_item l = 10 * l.nesting_left + 7

abbrev pub decreases-labelled : goal.decreases-labelled
decreases-labelled l = 10 * l.nesting_left + 6

abbrev pub decreases-otherwise : goal.decreases-otherwise
decreases-otherwise l = 10 * l.nesting_left + 6

abbrev pub decreases-repeated : goal.decreases-repeated
decreases-repeated l = 10 * l.nesting_left + 4

abbrev pub invariant-statements-loop : goal.invariant-statements-loop
invariant-statements-loop l =
    let inner = statement_at l.tokens l.nesting_left in
    record {
      inside : l.end-2 ≤ length l.tokens;
      goes_on : body_at l.tokens inner l.at ≡ with_front statement_of l.list.items (run_at l.tokens marks.End (λ (s : Bool). inner) (λ s x. s) (l.end - l.counter) true l.end-2);
    }

abbrev pub invariant-case_items-loop : goal.invariant-case_items-loop
invariant-case_items-loop l =
    let inner = statement_at l.tokens l.nesting_left in
    record {
      inside : l.end-2 ≤ length l.tokens;
      goes_on : case_items_at l.tokens l.nesting_left l.kind inner (case_item_of l.fn.first) l.at
          ≡ with_front case_item_of l.list.items (run_at l.tokens marks.Endcase (case_item_at l.tokens l.nesting_left l.kind inner) has_default (l.end - l.counter) l.had l.end-2);
    }

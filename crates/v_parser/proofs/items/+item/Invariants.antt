use Rattle.std.proofs.Common.{◌≡◌, ◌+◌, ◌-◌, ◌*◌, ◌≤◌, length, Bool, true}
use Rattle.v_parts.specs.Reading.{run_at}
use Rattle.v_syntax.specs.ItemTree.{item_of}
use Rattle.v_parser.specs.ItemReading.{item_at, items_at}
use Rattle.v_parts.proofs.ListSteps.{with_front}
use Rattle.v_parser.proofs.items.+item.Given as goal

abbrev pub decreases-item : goal.decreases-item
decreases-item l = 8 * l.nesting_left + 4

abbrev pub decreases-generated : goal.decreases-generated
decreases-generated l = 8 * l.nesting_left + 3

abbrev pub decreases-items : goal.decreases-items
decreases-items l = 8 * l.nesting_left + 5

abbrev pub decreases-generate : goal.decreases-generate
decreases-generate l = 8 * l.nesting_left + 2

abbrev pub decreases-several : goal.decreases-several
decreases-several l = 8 * l.nesting_left + 6

abbrev pub decreases-single : goal.decreases-single
decreases-single l = 8 * l.nesting_left + 6

abbrev pub decreases-block : goal.decreases-block
decreases-block l = 8 * l.nesting_left + 7

abbrev pub decreases-generate_for : goal.decreases-generate_for
decreases-generate_for l = 8 * l.nesting_left + 2

abbrev pub decreases-generate_if : goal.decreases-generate_if
decreases-generate_if l = 8 * l.nesting_left + 2

abbrev pub invariant-items-loop : goal.invariant-items-loop
invariant-items-loop l =
    let inner = item_at l.tokens l.nesting_left in
    record {
      inside : l.end-2 ≤ length l.tokens;
      goes_on : items_at l.tokens l.last inner l.at ≡ with_front item_of l.list.items (run_at l.tokens l.last (λ (s : Bool). inner) (λ s x. s) (l.end - l.counter) true l.end-2);
    }

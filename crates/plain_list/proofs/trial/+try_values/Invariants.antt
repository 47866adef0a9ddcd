use Rattle.std.proofs.Common.{◌≡◌, ◌<◌, ◌≤◌, ◌-◌, List, ℕ, length, take, get_or}
use Rattle.design_core.specs.Words.{AreWordsOf}
use Rattle.plain_list.specs.Trial.{AreNumbersFor}
use Rattle.plain_list.specs.Rightness.{AreRight}
use Rattle.plain_list.proofs.trial.+try_values.Given as goal

abbrev pub decreases-try_values : goal.decreases-try_values
decreases-try_values l = length l.numbers.now - l.next

abbrev pub invariant-loop-next : goal.invariant-loop-next
invariant-loop-next l =
    AreWordsOf l.d.signals.items l.words
    × AreNumbersFor l.d l.places l.numbers
    × (take l.next l.numbers ≡ take l.next l.initial.numbers)
    × (l.number ≤ l.largest)
    × ((tried : List ℕ) → AreNumbersFor l.d l.places tried → take l.next tried ≡ take l.next l.initial.numbers → get_or tried l.next 0 < l.number
    → ¬ AreRight l.d l.order l.samples l.expected l.places tried)

abbrev pub decreases-loop-next : goal.decreases-loop-next
decreases-loop-next l = l.largest - l.number

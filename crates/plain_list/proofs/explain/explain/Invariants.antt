use Rattle.std.proofs.Common.{ℕ}
use Rattle.design_core.specs.Words.{AreWordsOf}
use Rattle.plain_list.specs.Trial.{AreNumbersFor}
use Rattle.plain_list.specs.Rows.{AreAdded}
use Rattle.design_core.specs.Explained.{AreRows}
use Rattle.plain_list.proofs.explain.explain.Given as goal

abbrev pub invariant-loop-cycle : goal.invariant-loop-cycle
invariant-loop-cycle l =
    AreWordsOf l.d.signals.items l.words
    × AreNumbersFor l.d l.places l.numbers
    × ((first : ℕ) → AreRows l.d l.places l.initial.rows.items first → AreAdded l.d l.order l.trace l.places l.initial.rows.items l.rows.items first l.cycle)

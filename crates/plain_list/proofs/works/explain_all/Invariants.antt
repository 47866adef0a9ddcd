use Rattle.design_core.specs.Words.{AreWordsOf}
use Rattle.plain_list.specs.Trial.{AreNumbersFor}
use Rattle.plain_list.specs.Rows.{AreExplained}
use Rattle.plain_list.proofs.works.explain_all.Given as goal

abbrev pub invariant-loop-trace : goal.invariant-loop-trace
invariant-loop-trace l =
    AreWordsOf l.d.signals.items l.words
    × AreNumbersFor l.d l.places l.numbers
    × AreExplained l.d l.order l.traces l.places l.rows.items l.trace-index

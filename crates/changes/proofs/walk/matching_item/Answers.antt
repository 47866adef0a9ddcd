use Rattle.std.proofs.Common.{sym}
use Rattle.loc_base.specs.Bits.{value_of}
use Rattle.design_core.specs.Words.{valuation_of}
use Rattle.plain_values.specs.Evaluate.{item_matches}
use Rattle.plain_values.proofs.EvaluateStatement.{found-first}
use Rattle.changes.proofs.walk.matching_item.Goals as goal

pub returns-then-some_label_matches-clause-first : goal.returns-then-some_label_matches-clause-first
returns-then-some_label_matches-clause-first c =
    found-first (item_matches c.args.moment.now.design.now.signals.items (valuation_of c.args.words.now)
    (value_of c.args.subject)) c.args.items.now c.loop-i.i c.index-items-i.result c.loop-i-test.true c.index-items-i.is
    (sym (rw (c.deref.ensures.value, c.deref-in-loop-i.ensures) at c.if-some_label_matches.ensures)) c.loop-i.invariant.first

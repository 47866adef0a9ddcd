use Rattle.std.proofs.Common.{◌≡◌, drop, IsTrue}
use Rattle.std.specs.List.{list_all}
use Rattle.design_core.specs.WellFormed.{statement_fits}
use Rattle.design_core.specs.Words.{valuation_of, AreWordsOf, choice_of}
use Rattle.plain_values.specs.Evaluate.{after_list}
use Rattle.plain_values.proofs.EvaluateStore.{updates}
use Rattle.plain_values.proofs.statement.+run.Given as goal

abbrev pub invariant-run_all-loop-statement : goal.invariant-run_all-loop-statement
invariant-run_all-loop-statement l =
    let signals = l.design.signals.items in
    let choice = choice_of l.freed l.chosen in
    record {
      now : AreWordsOf signals l.now;
      later : AreWordsOf signals l.later;
      fits : IsTrue (list_all (statement_fits signals l.design.places.items) (drop l.statement-index l.statements));
      value : after_list signals choice (drop l.statement-index l.statements) (updates (valuation_of l.now) (valuation_of l.later))
          ≡ after_list signals choice l.statements (updates (valuation_of l.initial.now) (valuation_of l.initial.later));
    }

use Rattle.std.proofs.Common.{◌≡◌, ◌+◌, ◌*◌, drop, false, IsTrue}
use Rattle.std.specs.List.{list_all}
use Rattle.design_core.specs.declared.statement.Stmt.{size-Stmt}
use Rattle.design_core.specs.declared.statement.Stmt.TheVariants.{Case, If}
use Rattle.design_core.specs.WellFormed.{statement_fits}
use Rattle.design_core.specs.Words.{AreWordsOf}
use Rattle.plain_values.specs.Evaluate.{after_list}
use Rattle.changes.specs.Lists.{executed_list}
use Rattle.changes.specs.Moments.{as_updates, choice_in}
use Rattle.changes.proofs.walk.+walk.Given as goal

abbrev pub invariant-walk_all-loop-statement : goal.invariant-walk_all-loop-statement
invariant-walk_all-loop-statement l =
    let signals = l.seek.moment.design.now.signals.items in
    let choice = choice_in l.seek.moment in
    record {
      now : AreWordsOf signals l.now;
      later : AreWordsOf signals l.later;
      fits : IsTrue (list_all (statement_fits signals l.seek.moment.design.now.places.items) (drop l.statement-index l.statements));
      executes : executed_list signals choice l.seek.place (drop l.statement-index l.statements) (as_updates l.now l.later)
          ≡ executed_list signals choice l.seek.place l.statements (as_updates l.initial.now l.initial.later);
      leaves : after_list signals choice (drop l.statement-index l.statements) (as_updates l.now l.later)
          ≡ after_list signals choice l.statements (as_updates l.initial.now l.initial.later);
    }

-- by the depth of the statement; an arm or an item stands below its own, and a list of statements above each of them
abbrev pub decreases-walk : goal.decreases-walk
decreases-walk l = 4 * size-Stmt l.statement.now + 2

abbrev pub decreases-walk_if : goal.decreases-walk_if
decreases-walk_if l = 4 * size-Stmt (If l.cond.now l.yes.now l.no.now) + 1

abbrev pub decreases-walk_case : goal.decreases-walk_case
decreases-walk_case l = 4 * size-Stmt (Case l.subject.now l.items.now l.other.now false) + 1

abbrev pub decreases-walk_all : goal.decreases-walk_all
decreases-walk_all l = 4 * goal.size-walk_all l + 3

use Rattle.std.proofs.Common.{sym, subst}
use Rattle.std.specs.Prelude.{All}
use Rattle.report_doc.specs.Shape.{AreKinds, AreValues}
use Rattle.report_sets.proofs.SetRows.{values-of_sets}
use Rattle.report_sets.proofs.findings.report_of.Goals as goal

pub returns-clause-can_be_written : goal.returns-clause-can_be_written
returns-clause-can_be_written c = record {
  kinds = subst AreKinds (sym c.in_ok-names_of.ensures) c.requires.kinds;
  size = c.requires.size;
  values = subst (All (λ set. All AreValues set.values)) (sym c.in_ok-sets_of.ensures)
      (values-of_sets c.args.found.now.traces.now c.args.found.now.sets.now);
}

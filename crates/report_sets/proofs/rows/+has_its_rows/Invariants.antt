use Rattle.std.proofs.Common.{length}
use Rattle.report_sets.proofs.rows.+has_its_rows.Given as goal

abbrev pub decreases-has_its_rows : goal.decreases-has_its_rows
decreases-has_its_rows l = length l.traces.now

use Rattle.report_reading.proofs.Writable.{written_again}
use Rattle.report_reading.proofs.reading.read_report.Goals as goal

pub returns-clause-can_be_written : goal.returns-clause-can_be_written
returns-clause-can_be_written c = written_again _ c.read.result c.read.ensures

use Rattle.vcd_traces.proofs.FinishLaws.{finish_trace}
use Rattle.vcd_traces.proofs.rows.Rows.finish.Goals as goal

pub returns-in-None : goal.returns-in-None
returns-in-None c w events times are =
    finish_trace w events times c.args.self are c.if-cycles-eq0.false c.if-cycles-gt-MOST_CYCLES.false c.in-None.is

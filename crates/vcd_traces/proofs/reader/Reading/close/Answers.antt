use Rattle.std.proofs.Common.{refl, sym, ◌∙◌}
use Rattle.vcd_traces.specs.declared.moment.Moment.{Moment}
use Rattle.vcd_traces.specs.Rows.{rows_of}
use Rattle.vcd_traces.proofs.CloseLaws.{closes_cycle}
use Rattle.vcd_traces.proofs.reader.Reading.close.Goals as goal

pub returns-in_ok-push-clause-rows : goal.returns-in_ok-push-clause-rows
returns-in_ok-push-clause-rows c =
    let m : Moment = record { running = c.as_slice.result; clocked = c.is_some.result; time = c.in-Some.time } in
    closes_cycle c.args.watched.now c.args.self.now.levels (rows_of c.args.self.now.rows) (rows_of c.push.new.self) m c.in-Some.time c.in-Some.is c.as_slice.ensures.value
    c.is_some.ensures refl (sym c.if-is_cycle.true ∙ c.is_cycle.ensures) c.in_ok-push.ensures

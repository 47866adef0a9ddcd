use Rattle.std.proofs.Common.{refl}
use Rattle.vcd_words.specs.Words.{words_left}
use Rattle.vcd_reading.specs.Changes.{timed}
use Rattle.vcd_traces.specs.Table.{cell_codes}
use Rattle.vcd_traces.proofs.PieceLaws.{stays_timed, goes_done, goes_refused}
use Rattle.vcd_traces.proofs.reader.Reading.take_stamp.Goals as goal

pub returns-in_err-take_time-clause-goes : goal.returns-in_err-take_time-clause-goes
returns-in_err-take_time-clause-goes c text ports w past plan holding =
    let deed = timed past c.args.time c.args.word.start in
    goes_refused text w c.args.plan.now past deed deed c.take_time.new.self (words_left text c.args.word.stop) c.in_err-take_time.field-0.0 _ refl
    (c.in_err-take_time.ensures w (cell_codes c.args.plan.now.table) past plan.watched holding.1) c.from_residual.ensures.1

pub returns-clause-goes : goal.returns-clause-goes
returns-clause-goes c text ports w past plan holding =
    let deed = timed past c.args.time c.args.word.start in
    goes_done text w c.args.plan.now past deed deed c.take_time.new.self c.args.word.stop refl (stays_timed past c.args.time c.args.word.start)
    (c.in_ok-take_time.ensures w (cell_codes c.args.plan.now.table) past plan.watched holding.1)

use Rattle.std.proofs.Common.{refl, Ok}
use Rattle.vcd_words.specs.Words.{Placed}
use Rattle.vcd_traces.specs.Table.{cell_codes}
use Rattle.vcd_traces.specs.declared.reader.Reading.{Reading}
use Rattle.vcd_traces.proofs.TakeLaws.{takes_change}
use Rattle.vcd_traces.proofs.reader.Reading.take_change.Goals as goal

pub returns : goal.returns
returns c ports w past table holds =
    let place : Placed = record { at = c.args.change.now.code_at; word = c.args.change.now.code.now } in
    let new : Reading = record { levels = c.change.new.self; rows = c.args.self.now.rows } in
    takes_change w (cell_codes c.args.table.now) ports past c.args.level c.args.digits c.args.change.now.value_at place c.args.self.now new (Ok tt) holds refl
    (c.in_ok-change.ensures ports past table holds.levels)

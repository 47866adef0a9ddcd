use Rattle.std.proofs.Common.{◌∙◌, ap}
use Rattle.vcd_reading.specs.NameView.{number_at}
use Rattle.vcd_reading.proofs.IndexLaws.{index_some, index_none}
use Rattle.vcd_reading.proofs.found.index.Goals as goal
use Rattle.vcd_reading.proofs.found.index.Goals.{in-Some+in_ok-add, in_default}

pub loop-i-preserved : goal.loop-i-preserved
loop-i-preserved c scope name =
    elim c.match-variable.branch [
      | in-Some+in_ok-add w ↦
          ap (λ names. number_at names scope name) w.names-is ∙ w.in_ok-add.ensures scope name
          ∙ index_some c.args.variables.now c.loop-i.i _ (number_at c.loop-i.names) w.in-Some.scope scope name c.loop-i-test.true (c.loop-i.invariant scope name) w.in-Some.is
      | in_default w ↦
          ap (λ names. number_at names scope name) w.names-is
          ∙ index_none c.args.variables.now c.loop-i.i _ scope name (number_at c.loop-i.names scope name) c.loop-i-test.true (c.loop-i.invariant scope name) w.in_default.is
    ]

use Rattle.vcd_waves.proofs.LineSteps.{appended3}
use Rattle.vcd_waves.proofs.header.write_scope.Goals as goal

pub returns : goal.returns
returns c = appended3 _ _ _ _ _ _ _ c.in_ok-append.ensures.ok c.in_ok-append-2.ensures.ok c.in_ok-append-3.ensures.ok

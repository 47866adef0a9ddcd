use Rattle.std.proofs.Common.{map, take}
use Rattle.vcd_reading.specs.HeaderView.{opened_of}
use Rattle.vcd_reading.specs.Paths.{IsMet}
use Rattle.vcd_reading.specs.Scopes.{paths_of}
use Rattle.vcd_reading.proofs.paths.scope_at.Given as goal

abbrev pub invariant-loop-scope : goal.invariant-loop-scope
invariant-loop-scope l = IsMet l.path (paths_of (map opened_of (take l.scope-index l.scopes))) l.met

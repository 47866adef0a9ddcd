use Rattle.std.proofs.Common.{◌≡◌, None, take}
use Rattle.std.specs.List.{find}
use Rattle.vcd_traces.specs.Moment.{has_unknown}
use Rattle.vcd_traces.proofs.moment.Moment.unknown_in.Given as goal

abbrev pub invariant-loop-watch : goal.invariant-loop-watch
invariant-loop-watch l = find (has_unknown l.self) (take l.watch-index l.watches) ≡ None

use Rattle.std.proofs.Common.{◌≡◌, take, false}
use Rattle.std.specs.List.{list_any}
use Rattle.bind_clocks.proofs.ReadLaws.{is_rooted}
use Rattle.bind_clocks.proofs.driven.carries.Given as goal

abbrev pub invariant-loop-signal : goal.invariant-loop-signal
invariant-loop-signal l = list_any (is_rooted l.set l.roots l.input) (take l.signal-index l.signal-items) ≡ false

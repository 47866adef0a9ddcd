use Rattle.std.proofs.Common.{◌≡◌, take, length}
use Rattle.design_order.specs.Sources.{AreSources}
use Rattle.design_order.proofs.sources.sources_of.Given as goal

abbrev pub invariant-loop-number : goal.invariant-loop-number
invariant-loop-number l =
    (length l.own ≡ length l.design.signals.items) × AreSources l.design.signals.items (take l.number l.design.drivers.items) l.sources.items

use Rattle.std.proofs.Common.{◌&&◌, ◌==◌, take}
use Rattle.std.specs.List.{list_any}
use Rattle.design_bits.specs.Masks.{has}
use Rattle.design_order.specs.Sources.{AddsSource}
use Rattle.design_order.proofs.sources.add_source.Given as goal

abbrev pub invariant-loop-signal : goal.invariant-loop-signal
invariant-loop-signal l = AddsSource l.initial.sources.items l.sources.items l.driver (λ s b. list_any (λ t. t == s) (take l.signal-index l.signal-items) && has l.own s b)

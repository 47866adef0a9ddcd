use Rattle.std.proofs.Common.{◌≡◌, length}
use Rattle.design_order.specs.Sources.{AreNeeds}
use Rattle.design_order.proofs.needs.needs_of.Given as goal

abbrev pub invariant-loop-driver : goal.invariant-loop-driver
invariant-loop-driver l = (length l.reads ≡ length l.design.signals.items) × AreNeeds l.design l.driver-index l.rows

use Rattle.std.proofs.Common.{◌≡◌, drop}
use Rattle.design_core.specs.Explained.{is_one_of}
use Rattle.change_lines.proofs.names.is_one_of.Given as goal

abbrev pub invariant-loop-own : goal.invariant-loop-own
invariant-loop-own l = is_one_of (drop l.own-index l.places) l.place ≡ is_one_of l.places l.place

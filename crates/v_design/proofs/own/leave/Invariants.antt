use Rattle.std.proofs.Common.{◌≡◌, drop}
use Rattle.v_binding.specs.Seen.{names_in}
use Rattle.v_design.proofs.own.leave.Given as goal

abbrev pub invariant-loop-place : goal.invariant-loop-place
invariant-loop-place l = names_in l.names ≡ drop l._place (names_in l.initial.names)

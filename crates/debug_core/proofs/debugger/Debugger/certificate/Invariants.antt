use Rattle.std.proofs.Common.{◌≡◌, ◌-◌, ◌≤◌, drop, length, take}
use Rattle.debug_core.proofs.debugger.Debugger.certificate.Given as goal

abbrev pub invariant-loop-place : goal.invariant-loop-place
invariant-loop-place l = record {
  steps : l.steps ≡ take (l.place - l.first) (drop l.first l.kept);
  low : l.first ≤ l.place;
  end : l.place-end ≡ length l.kept;
}

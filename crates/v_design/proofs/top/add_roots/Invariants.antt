use Rattle.std.proofs.Common.{◌≡◌, drop}
use Rattle.v_binding.specs.Steps.{through}
use Rattle.v_binding.specs.Bound.{with_root}
use Rattle.v_design.proofs.top.add_roots.Given as goal

abbrev pub invariant-loop-root : goal.invariant-loop-root
invariant-loop-root l = through with_root (drop l.root-index l.roots) l.bound ≡ through with_root l.roots l.initial.bound

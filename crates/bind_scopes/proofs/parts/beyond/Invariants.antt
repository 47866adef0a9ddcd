use Rattle.std.proofs.Common.{◌≡◌}
use Rattle.v_sizes.specs.Sized.{offsets_to}
use Rattle.v_binding.specs.Lefts.{beyond_offset}
use Rattle.bind_scopes.proofs.parts.beyond.Given as goal

abbrev pub invariant-loop-place : goal.invariant-loop-place
invariant-loop-place l = l.offsets ≡ offsets_to (beyond_offset l.down) l.place

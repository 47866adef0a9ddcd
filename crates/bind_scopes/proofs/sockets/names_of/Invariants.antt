use Rattle.std.proofs.Common.{◌≡◌, ◌-◌, map, length, drop}
use Rattle.v_binding.specs.Held.{known_of}
use Rattle.v_binding.specs.Seen.{names_in}
use Rattle.bind_scopes.proofs.sockets.names_of.Given as goal

abbrev pub invariant-loop-back : goal.invariant-loop-back
invariant-loop-back l = names_in l.names ≡ map known_of (drop (length l.list - l.back) l.list)

use Rattle.std.proofs.Common.{◌≡◌, drop, map}
use Rattle.v_binding.specs.Names.{within}
use Rattle.v_binding.specs.Held.{known_of}
use Rattle.v_binding.specs.Seen.{names_in}
use Rattle.v_design.proofs.own.enter.Given as goal

abbrev pub invariant-loop-known : goal.invariant-loop-known
invariant-loop-known l = within (map known_of (drop l.known-index l.own)) (names_in l.names) ≡ within (map known_of l.own) (names_in l.initial.names)

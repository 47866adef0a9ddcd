use Rattle.std.proofs.Common.{◌++◌, take}
use Rattle.std.specs.Prelude.{codes}
use Rattle.std.specs.List.{flat_map}
use Rattle.run_digest.specs.Feeding.{Took}
use Rattle.run_digest.proofs.digest.feed_others.Given as goal

abbrev pub invariant-loop-name : goal.invariant-loop-name
invariant-loop-name l = Took l.initial.hasher l.hasher (flat_map (λ name. codes "," ++ name) (take l.name-index l.names))

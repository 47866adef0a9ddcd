use Rattle.std.proofs.Common.{◌≡◌, replicate}
use Rattle.std.specs.Prelude.{codes}
use Rattle.design_tests.specs.Own.{nobody}
use Rattle.design_tests.proofs.own.CrowdGranularity.groups.Given as goal

abbrev pub invariant-loop-number : goal.invariant-loop-number
invariant-loop-number l = l.groups ≡ replicate l.number (nobody (codes "stmt"))

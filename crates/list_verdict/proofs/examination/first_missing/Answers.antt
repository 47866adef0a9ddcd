use Rattle.std.proofs.Common.{arith}
use Rattle.debug_core.specs.Problems.{problem_of}
use Rattle.list_verdict.specs.Claims.{claim_of}
use Rattle.list_verdict.proofs.Asked.{can-simulate}
use Rattle.list_verdict.proofs.Examined.{values-say}
use Rattle.list_verdict.proofs.Replayed.{found-fits}
use Rattle.list_verdict.proofs.examination.first_missing.Goals as goal

pub replay_all-requires-clause-can : goal.replay_all-requires-clause-can
replay_all-requires-clause-can g c = λ _ _. can-simulate (problem_of c.args.listed.now.question.now) c.requires.can.problem

pub replay_all-requires-clause-sets : goal.replay_all-requires-clause-sets
replay_all-requires-clause-sets g c = λ _ _. omega (arith, c.requires.found.long, c.requires.can.few_sets)

pub replay_all-requires-clause-values : goal.replay_all-requires-clause-values
replay_all-requires-clause-values g c = λ _ _.
    found-fits (claim_of c.args.listed.now) c.requires.can.problem c.args.found.now c.requires.found

pub returns : goal.returns
returns g c =
    values-say (claim_of c.args.listed.now) c.requires.can.problem c.args.found.now c.requires.found c.replay_all.result c.replay_all.ensures

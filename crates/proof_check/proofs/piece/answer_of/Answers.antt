use Rattle.proof_check.proofs.Pieced.{follows}
use Rattle.proof_check.proofs.piece.answer_of.Goals as goal

pub returns-in-None-clause-sound : goal.returns-in-None-clause-sound
returns-in-None-clause-sound c =
    follows c.args.claim.now.form.now.clauses c.args.claim.now.blocks.now c.args.claim.now.log.now c.left_over.result c.len-clauses.ensures.distinct c.len-steps.ensures.distinct c.left_over.ensures

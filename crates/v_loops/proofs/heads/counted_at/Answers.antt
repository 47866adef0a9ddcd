use Rattle.v_syntax.specs.Tree.{tree_of}
use Rattle.v_scopes.specs.Around.{frames_of}
use Rattle.v_loops.proofs.TurningLaws.{counted-fits}
use Rattle.v_loops.proofs.heads.counted_at.Goals as goal

pub returns-clause-fits : goal.returns-clause-fits
returns-clause-fits c = counted-fits (frames_of c.args.scopes.now) (tree_of c.args.e.now) _ c.counted_at.ensures.ok c.counted_at.ensures.fits

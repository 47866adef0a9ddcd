use Rattle.std.proofs.Common.{◌∙◌, sym}
use Rattle.sat_core.proofs.Denying.{reason_number}
use Rattle.sat_core.proofs.analysis.Analysis.redundant_by.Goals as goal

pub clause-requires : goal.clause-requires
clause-requires c = reason_number c.args.trail.now c.args.l.var c.in_ok-reason.reason c.requires.trail (sym c.reason.ensures ∙ c.in_ok-reason.was)

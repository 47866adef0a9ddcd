use Rattle.std.proofs.Common.{◌∙◌, sym}
use Rattle.loc_base.proofs.ShelfOptions.{is_some-false}
use Rattle.trail_core.proofs.Propagating.{forced_rests}
use Rattle.trail_core.proofs.sweep.force_last.Goals as goal

pub returns-clause-rests : goal.returns-clause-rests
returns-clause-rests c = λ _. forced_rests c.args.trail.now c.force.new.self c.args.last c.args.number (c.requires.reason (sym c.value.ensures ∙ is_some-false c.value.result (sym c.is_some.ensures ∙ c.if-is_some.false))) c.force.ensures.after

use Rattle.freed_conditions.proofs.ValueAlike.{value-more}
use Rattle.freed_conditions.proofs.laws.value_with_more_signals.Goals as goal

pub returns : goal.returns
returns g c = value-more g.of.signals g.of.hidden g.of.values g.of.expression c.requires

use Rattle.change_lines.proofs.LineLaws.{line-is_change}
use Rattle.change_lines.proofs.laws.line_is_change.Goals as goal

pub returns : goal.returns
returns g c = line-is_change g.of.site g.of.order g.of.choice g.of.values g.of.place c.requires.0 c.requires.1

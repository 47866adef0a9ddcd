use Rattle.changes.proofs.ChangeLaws.{values-run}
use Rattle.changes.proofs.laws.lean_meets.Goals as goal

pub returns : goal.returns
returns g c =
    let lean = c.requires.1 in (
      lean.run,
      values-run g.of.design g.of.trace g.of.places g.of.values lean.ch lean.run c.requires.0 lean.are,
      lean.right,
    )

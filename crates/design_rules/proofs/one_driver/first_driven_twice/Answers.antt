use Rattle.std.proofs.Common.{sym, subst}
use Rattle.design_rules.specs.Tallies.{AreTooOften}
use Rattle.design_rules.proofs.FirstTwice.{first-twice}
use Rattle.design_rules.proofs.one_driver.first_driven_twice.Goals as goal

pub returns : goal.returns
returns c =
    let d = c.args.design.now in
    let found = c.first_set.ensures in
    first-twice d c.deref.result.now c.first_set.result c.requires (subst (AreTooOften d) (sym c.deref.ensures.value) c.in_ok-twice.ensures)
    found.none found.within found.some found.small found.first

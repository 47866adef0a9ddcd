use Rattle.bind_laws.proofs.Designs.{lists-fit, design-well_formed}
use Rattle.bind_laws.proofs.laws.binding_is_well_formed.Goals as goal

pub returns : goal.returns
returns g c =
    let lists = lists-fit g.of.instances g.of.clock g.of.binding c.requires.0 c.requires.1.0 c.requires.1.1.1.0 c.requires.1.1.0 in
    design-well_formed g.of.binding g.of.design lists.0 c.requires.1.1.1.1 lists.1

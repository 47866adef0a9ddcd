use Rattle.std.proofs.Common.{map}
use Rattle.v_binding.specs.Seen.{names_in}
use Rattle.v_binding.specs.Homes.{home_of}
use Rattle.bind_scopes.specs.Views.{socket_of}
use Rattle.bind_items.proofs.OrderLaws.{child-alone}
use Rattle.bind_items.proofs.connections.child.Goals as goal

pub returns-in-None-clause-ok : goal.returns-in-None-clause-ok
returns-in-None-clause-ok c =
    child-alone c.args.scene.frame.now (home_of c.args.scene.home) (names_in c.args.names.now) (map socket_of c.args.joined.ports.now) c.args.joined.child.now c.args.bound.now c.in-None.is

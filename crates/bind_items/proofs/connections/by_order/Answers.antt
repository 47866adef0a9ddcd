use Rattle.std.proofs.Common.{◌∙◌, sym, arith}
use Rattle.v_binding.specs.Seen.{names_in}
use Rattle.v_binding.specs.Homes.{home_of}
use Rattle.bind_items.proofs.OrderLaws.{order-end}
use Rattle.bind_items.proofs.connections.by_order.Goals as goal

pub returns-clause-ok : goal.returns-clause-ok
returns-clause-ok c =
    sym c.loop-i.invariant
    ∙ order-end c.args.scene.frame.now (home_of c.args.scene.home) (names_in c.args.names.now) c.args.all.copy c.loop-i.i c.args.all.ports.now c.args.all.values.now c.loop-i.bound
    (omega (arith, c.min-count.ensures, c.loop-i-test.false))

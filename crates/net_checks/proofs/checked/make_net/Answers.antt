use Rattle.std.proofs.Common.{true, rules}
use Rattle.std.specs.Prelude.{IsTrue}
use Rattle.net_checks.proofs.FitSteps.{is-net}
use Rattle.net_checks.proofs.checked.make_net.Goals as goal

yes : IsTrue true
yes = search rules

pub returns : goal.returns
returns c = λ few.
    is-net c.args.nodes.now c.args.outputs.now c.args.next.nodes.now c.args.start.now c.args.next.widths.now c.requires
    (c.if-not-all_fit.ensures yes) (c.if-not-are_below.ensures yes) (c.if-not-are_below-2.ensures yes)
    (c.if-not-are_held.ensures yes) (c.if-not-free_once.ensures yes) (c.has_few_sources.ensures few)

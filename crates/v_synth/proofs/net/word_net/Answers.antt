use Rattle.std.proofs.Common.{sym, subst}
use Rattle.v_synth.specs.Matches.{IsNetOf}
use Rattle.v_synth.proofs.NetSteps.{parts-fit}
use Rattle.v_synth.proofs.NetKeeps.{parts-keep, cycle-means}
use Rattle.v_synth.proofs.net.word_net.Goals as goal

pub into_net-requires : goal.into_net-requires
into_net-requires c =
    let p = c.in_ok-parts.field-0 in
    parts-keep c.args.design.now c.args.order.now (record { nodes = p.nodes; outputs = p.outputs; next = p.next; start = p.start }) c.requires.well_formed c.requires.once c.requires.ordered c.requires.few
    (parts-fit c.args.design.now c.args.order.now c.requires.well_formed).few_inputs c.in_ok-parts.ensures

pub returns-clause-cycles : goal.returns-clause-cycles
returns-clause-cycles c =
    λ of same_design same_order cycle.
    cycle-means c.args.design.now c.args.order.now c.into_net.result c.requires.well_formed c.requires.once c.requires.ordered
    (subst (IsNetOf c.args.design.now c.args.order.now) (sym c.into_net.ensures) c.in_ok-parts.ensures) of same_design same_order cycle

use Rattle.std.proofs.Common.{◌∙◌, ap, sym, subst}
use Rattle.bit_circuit.specs.Circuits.{IsCircuit, words_at}
use Rattle.bit_circuit.proofs.CircuitKept.{circuit-kept, put-together}
use Rattle.bit_circuit.proofs.expand.blast.Goals as goal

pub new-requires : goal.new-requires
new-requires c =
    let together = put-together c.args.net.now c.in_ok-maker.field-0.maker.maker.nodes c.in_ok-maker.field-0.words c.in_ok-maker.ensures.ok
    c.into_nodes.ensures.value
    (c.in_ok-outputs.ensures ∙ ap (words_at c.in_ok-maker.field-0.words) c.outputs.ensures)
    (c.in_ok-next.ensures ∙ ap (words_at c.in_ok-maker.field-0.words) c.next.ensures)
    (c.into_vec-start.ensures ∙ c.in_ok-copy_of.ensures ∙ c.start.ensures) in
    subst IsCircuit (sym together) (circuit-kept c.args.net.now c.in_ok-maker.ensures.net)

pub returns-clause-ok : goal.returns-clause-ok
returns-clause-ok c =
    c.new.ensures
    ∙ put-together c.args.net.now c.in_ok-maker.field-0.maker.maker.nodes c.in_ok-maker.field-0.words c.in_ok-maker.ensures.ok
    c.into_nodes.ensures.value
    (c.in_ok-outputs.ensures ∙ ap (words_at c.in_ok-maker.field-0.words) c.outputs.ensures)
    (c.in_ok-next.ensures ∙ ap (words_at c.in_ok-maker.field-0.words) c.next.ensures)
    (c.into_vec-start.ensures ∙ c.in_ok-copy_of.ensures ∙ c.start.ensures)

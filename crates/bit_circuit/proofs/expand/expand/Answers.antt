use Rattle.std.proofs.Common.{◌∙◌, ◌<◌, ◌≤◌, [], ap, subst, arith}
use Rattle.std.proofs.lemmas.Grind.{common_steps}
use Rattle.gate_base.specs.Arena.{UnlessNoMemory}
use Rattle.gate_base.specs.Nodes.{counted, sources_in}
use Rattle.gate_base.proofs.Counts.{refused-more}
use Rattle.bit_circuit.specs.Circuits.{expanded}
use Rattle.bit_circuit.specs.Nodes.{literals_made}
use Rattle.bit_circuit.proofs.ExpandSteps.{reached-few, counted-reached, reached-end}
use Rattle.bit_circuit.proofs.expand.expand.Goals as goal

pub literals-requires-clause-few : goal.literals-requires-clause-few
literals-requires-clause-few c =
    rw (ap (λ m. sources_in m.nodes) c.clear.ensures.maker)
    (reached-few c.loop-node.invariant.reached c.node-item.result c.loop-node-test.true c.node-item.is)

pub returns-in_err-literals-clause-err : goal.returns-in_err-literals-clause-err
returns-in_err-literals-clause-err c =
    let count = counted (literals_made c.loop-node.maker.maker.nodes c.loop-node.words c.node-item.result).nodes in
    let whole : count ≤ counted (expanded [] [] c.args.net.now.nodes).nodes =
    subst (λ nodes. count ≤ counted (expanded [] [] nodes).nodes) c.nodes-nodes.ensures.value
    (counted-reached c.loop-node.invariant.reached c.node-item.result c.loop-node-test.true c.node-item.is) in
    let cause : UnlessNoMemory c.in_err-literals.field-0.0 (c.loop-node.maker.maker.limit < count) =
    subst (λ m. UnlessNoMemory c.in_err-literals.field-0.0 (m.limit < counted (literals_made m.nodes c.loop-node.words c.node-item.result).nodes))
    c.clear.ensures.maker c.in_err-literals.ensures.err in
    let more : UnlessNoMemory c.in_err-literals.field-0.0 (4000000 < counted (expanded [] [] c.args.net.now.nodes).nodes) =
    refused-more c.in_err-literals.field-0.0 4000000 count (counted (expanded [] [] c.args.net.now.nodes).nodes) whole
    (subst (λ limit. UnlessNoMemory c.in_err-literals.field-0.0 (limit < count)) c.loop-node.invariant.limit cause) in
    grind (arith, common_steps, more)

pub returns-clause-ok : goal.returns-clause-ok
returns-clause-ok c =
    reached-end c.nodes-nodes.result.now c.loop-node.node-index c.loop-node.maker.maker.nodes c.loop-node.words
    c.loop-node-test.false c.loop-node.invariant.reached
    ∙ ap (expanded [] []) c.nodes-nodes.ensures.value

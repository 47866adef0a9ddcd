use Rattle.std.proofs.Common.{◌≡◌, ◌<◌, ◌≤◌, [], length, set, ap, refl, ◌∙◌, arith}
use Rattle.std.proofs.lemmas.List.{length-set}
use Rattle.word_net.specs.Given.{Given, source_of}
use Rattle.word_net.specs.Values.{values}
use Rattle.net_values.proofs.Nodes.{so_far-next, so_far-end}
use Rattle.net_values.proofs.evaluate.eval_into.Goals as goal

pub loop-i-preserved : goal.loop-i-preserved
loop-i-preserved c =
    let g : Given = record { states = c.args.state.now; inputs = c.args.inputs.now; freed = c.args.freed.now; chosen = c.args.choice.now } in
    let same : length c.nodes-nodes.result.now ≡ length c.args.net.now.nodes = ap length c.nodes-nodes.ensures.value in
    let inside : c.loop-i.i < length c.loop-i.out = omega (arith, same, c.loop-i.invariant.long, c.requires.room, c.loop-i-test.true) in
    record {
      long = length-set c.loop-i.out c.loop-i.i c.value-word.result ∙ c.loop-i.invariant.long;
      rest = so_far-next g c.nodes-nodes.result.now c.loop-i.out (set c.loop-i.out c.loop-i.i c.value-word.result) c.loop-i.i c.index-nodes-i.result c.value-word.result
          c.loop-i-test.true inside c.index-nodes-i.is c.loop-i.invariant.rest c.value-word.ensures.width c.value-word.ensures.value refl;
    }

pub returns-clause-values : goal.returns-clause-values
returns-clause-values c =
    let g : Given = record { states = c.args.state.now; inputs = c.args.inputs.now; freed = c.args.freed.now; chosen = c.args.choice.now } in
    let same : length c.nodes-nodes.result.now ≡ length c.args.net.now.nodes = ap length c.nodes-nodes.ensures.value in
    let past : length c.nodes-nodes.result.now ≤ c.loop-i.i = omega (arith, c.loop-i-test.false) in
    let full : length c.loop-i.out ≤ c.loop-i.i = omega (arith, same, past, c.loop-i.invariant.long, c.requires.room) in
    (so_far-end g c.nodes-nodes.result.now c.loop-i.out c.loop-i.i c.loop-i.invariant.rest past full).0 ∙ ap (values (source_of g) []) c.nodes-nodes.ensures.value

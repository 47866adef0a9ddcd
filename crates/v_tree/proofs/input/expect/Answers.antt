use Rattle.std.proofs.Common.{◌<◌, length, arith, rules}
use Rattle.v_tree.proofs.PlaceLemmas.{found_inside}
use Rattle.v_tree.proofs.input.expect.Goals as goal

pub overflow_add-result : goal.overflow_add-result
overflow_add-result c =
    let inside : c.args.at < length c.args.tokens.now = found_inside c.args.tokens.now c.args.at c.args.mark (grind arith) c.requires in
    search (rules, inside)

pub returns-then-same-clause-within : goal.returns-then-same-clause-within
returns-then-same-clause-within c =
    let inside : c.args.at < length c.args.tokens.now = found_inside c.args.tokens.now c.args.at c.args.mark (grind arith) c.requires in
    omega (arith, inside)

use Rattle.std.proofs.Common.{◌<◌, length, arith, rules}
use Rattle.v_tree.proofs.ClassLemmas.{number_inside}
use Rattle.v_tree.proofs.close.number.Goals as goal

pub overflow_add-at : goal.overflow_add-at
overflow_add-at c = let inside : c.args.at < length c.args.tokens.now = number_inside _ _ c.requires.number in search (rules, inside)

pub site-site-requires : goal.site-site-requires
site-site-requires c = let inside : c.args.at < length c.args.tokens.now = number_inside _ _ c.requires.number in omega (arith, inside, c.requires.short)

pub overflow_add-result : goal.overflow_add-result
overflow_add-result c = let inside : c.args.at < length c.args.tokens.now = number_inside _ _ c.requires.number in search (rules, inside)

pub returns-clause-sized : goal.returns-clause-sized
returns-clause-sized c =
    let inside : c.args.at < length c.args.tokens.now = number_inside _ _ c.requires.number in
    record { counts = search rules; rises = omega arith; within = omega (arith, inside) }

use Rattle.std.proofs.Common.{◌<◌, length, arith}
use Rattle.v_tree.proofs.ClassLemmas.{name_inside}
use Rattle.v_tree.proofs.close.name.Goals as goal

pub site-site-requires : goal.site-site-requires
site-site-requires c = let inside : c.args.at < length c.args.tokens.now = name_inside _ _ c.requires.name in omega (arith, inside, c.requires.short)

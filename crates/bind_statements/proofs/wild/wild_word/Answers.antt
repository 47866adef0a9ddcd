use Rattle.v_syntax.specs.Tree.{tree_of}
use Rattle.v_binding.specs.Cases.{wild_bits}
use Rattle.bind_statements.specs.Contexts.{context_of}
use Rattle.bind_statements.proofs.Carried.{word-by}
use Rattle.bind_statements.proofs.wild.wild_word.Goals as goal

pub returns : goal.returns
returns c =
    word-by c.wild_bits.result c.args.context.width (wild_bits (context_of c.args.context) (tree_of c.args.e.now))
    c.args.context.least c.args.context.most c.wild_bits.ensures.width c.wild_bits.ensures.value

use Rattle.v_syntax.specs.Tree.{tree_of}
use Rattle.bind_scopes.proofs.NamedWidth.{own-least, own-most}
use Rattle.bind_scopes.proofs.expressions.own_size.Goals as goal

pub returns-clause-least : goal.returns-clause-least
returns-clause-least c = own-least c.scope.result.now (tree_of c.args.e.now) c.in_ok-own.own.width c.in_ok-own.ensures.width

pub returns-clause-most : goal.returns-clause-most
returns-clause-most c = own-most c.scope.result.now (tree_of c.args.e.now) c.in_ok-own.own.width c.in_ok-own.ensures.width

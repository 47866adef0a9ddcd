use Rattle.v_syntax.specs.Tree.{tree_of}
use Rattle.v_sizes.specs.Scopes.{look_of}
use Rattle.v_widths.proofs.Answered.{answered-closed}
use Rattle.v_widths.proofs.sizes.constant_in.Goals as goal

pub returns-clause-ok : goal.returns-clause-ok
returns-clause-ok c =
    let done = c.in_ok-typed in
    answered-closed (look_of c.args.scope.now) c.args.scope.now.stands (tree_of c.args.e.now) c.args.context c.requires done.field-0
    done.ensures (cc (done.fault-is, c.in-None.is)) c.word_in.result (cc (done.typed-is, c.word_in.ensures.width)) (cc (done.typed-is, c.word_in.ensures.value))

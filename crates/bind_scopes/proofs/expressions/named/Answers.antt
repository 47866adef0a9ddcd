use Rattle.std.proofs.Common.{map}
use Rattle.v_syntax.specs.Tree.{Tree, selection_of, selections_of}
use Rattle.v_syntax.specs.Tree as written
use Rattle.v_sizes.specs.Scopes.{look_of}
use Rattle.v_binding.specs.Seen.{names_in}
use Rattle.bind_scopes.proofs.NamedWidth.{typed-most}
use Rattle.bind_scopes.proofs.BySelf.{accepted, refused-by}
use Rattle.bind_scopes.proofs.expressions.named.Goals as goal

pub returns-in-Ok-clause-ok : goal.returns-in-Ok-clause-ok
returns-in-Ok-clause-ok c =
    accepted (names_in c.args.names.now) (written.name c.args.site c.args.name.now (selections_of (map selection_of c.args.selects.now)))
    (look_of c.scope.result.now) c.in-Ok.typed c.scope.ensures c.in-Ok.ensures.ok c.in-Ok.ensures.accepted

pub returns-in-Ok-clause-most : goal.returns-in-Ok-clause-most
returns-in-Ok-clause-most c =
    typed-most c.scope.result.now (written.name c.args.site c.args.name.now (selections_of (map selection_of c.args.selects.now)))
    c.in-Ok.typed c.in-Ok.ensures.ok c.in-Ok.ensures.accepted

pub returns-in-Err-clause-err : goal.returns-in-Err-clause-err
returns-in-Err-clause-err c =
    let e = written.name c.args.site c.args.name.now (selections_of (map selection_of c.args.selects.now)) in
    refused-by (names_in c.args.names.now) e (look_of c.scope.result.now) c.in-Err.wrong c.fault_of_name.result
    c.scope.ensures c.in-Err.ensures.refused (c.fault_of_name.ensures c.args.site)

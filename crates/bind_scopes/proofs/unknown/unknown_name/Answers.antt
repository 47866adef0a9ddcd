use Rattle.std.proofs.Common.{map}
use Rattle.v_syntax.specs.Tree.{selection_of, selections_of}
use Rattle.v_sizes.specs.Scopes.{look_of}
use Rattle.v_binding.specs.Seen.{names_in}
use Rattle.bind_scopes.proofs.UnknownLaws.{unknown-nothing, unknown-meant}
use Rattle.bind_scopes.proofs.unknown.unknown_name.Goals as goal

pub returns-in-None : goal.returns-in-None
returns-in-None c =
    unknown-nothing (names_in c.args.names.now) c.args.name.now (selections_of (map selection_of c.args.selects.now)) (look_of c.scope.result.now) c.find.result
    c.is_loop_variable.result c.scope.ensures c.find.ensures c.in-None.is c.is_loop_variable.ensures

pub returns-in-Some : goal.returns-in-Some
returns-in-Some c =
    unknown-meant (names_in c.args.names.now) c.args.name.now (selections_of (map selection_of c.args.selects.now)) (look_of c.scope.result.now) c.find.result
    c.in-Some.meaning c.unknown_meaning.result c.scope.ensures c.find.ensures c.in-Some.is c.unknown_meaning.ensures

use Rattle.std.proofs.Common.{◌∙◌}
use Rattle.v_lexer.proofs.TextRows.{escaped_all}
use Rattle.v_lexer.proofs.state.is_escaped_name.Goals as goal

pub returns-in-Some : goal.returns-in-Some
returns-in-Some c = c.are_visible.ensures ∙ escaped_all c.args.name.now _ _ c.in-Some.ensures

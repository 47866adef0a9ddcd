use Rattle.std.proofs.Common.{◌∙◌}
use Rattle.v_lexer.proofs.MacroRows.{table_has}
use Rattle.v_lexer.proofs.macros.Macros.contains.Goals as goal

pub returns : goal.returns
returns c = c.contains_key.ensures ∙ table_has c.args.self.now c.self.inside.texts.entries c.args.name.now c.self.view_is

use Rattle.v_lexer.proofs.MacroRows.{table_removed}
use Rattle.v_lexer.proofs.macros.Macros.remove.Goals as goal

pub returns : goal.returns
returns c = table_removed c.args.self.now c.self.inside.texts c.swap_remove.new.self c.args.name.now c.self.view_is c.swap_remove.ensures.updates

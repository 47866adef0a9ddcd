use Rattle.std.proofs.Common.{rules}
use Rattle.v_lexer.proofs.MacroRows.{table_inserted}
use Rattle.v_lexer.proofs.macros.Macros.insert.Goals as goal

pub returns : goal.returns
returns c = table_inserted c.args.self.now c.self.inside.texts c.insert.new.self c.in_ok-name.name c.in_ok-text.text c.args.name.now c.args.text.now c.self.view_is (search rules) (search rules) (c.in_ok-insert.ensures.updates)

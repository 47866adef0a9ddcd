use Rattle.std.proofs.Common.{◌∙◌, sym, ap, Some, None}
use Rattle.v_lexer.proofs.MacroRows.{table_found}
use Rattle.v_lexer.proofs.macros.Macros.text.Goals as goal

pub returns-in-Some-clause-some : goal.returns-in-Some-clause-some
returns-in-Some-clause-some c = table_found c.args.self.now c.self.inside.texts.entries c.args.name.now (Some c.in-Some.text.now) c.self.view_is c.in-Some.ensures.value ∙ ap (λ l. Some l) (sym c.as_slice.ensures.value)

pub returns-in-None-clause-none : goal.returns-in-None-clause-none
returns-in-None-clause-none c = table_found c.args.self.now c.self.inside.texts.entries c.args.name.now None c.self.view_is c.in-None.ensures.value

use Rattle.std.proofs.Common.{◌≡◌, [], ◌∷◌, List, Option, ap, sym, ◌∙◌, reverse}
use Rattle.std.specs.Prelude.{slice_get}
use Rattle.v_lexer.specs.declared.conditionals.Conditional.{Conditional}
use Rattle.v_lexer.specs.Conditionals.{outermost}
use Rattle.v_lexer.proofs.ConditionalRows.{outermost_first}
use Rattle.v_lexer.proofs.conditionals.Conditionals.outermost.Goals as goal

at_first : (items : List Conditional) (stack : List Conditional) (o : Option Conditional) → o ≡ slice_get items 0 → reverse items ≡ stack → o ≡ outermost stack
at_first [] stack o found same = found ∙ ap outermost same
at_first (x ∷ xs) stack o found same = found ∙ sym (outermost_first x xs) ∙ ap outermost same

pub returns : goal.returns
returns c = at_first c.self.inside.items.items c.args.self.now c.copied.result (c.copied.ensures ∙ c.first.ensures.value ∙ ap (λ l. slice_get l 0) c.deref.ensures.value) c.self.view_is

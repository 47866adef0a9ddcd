-- What an expression is by itself, or why it is refused, by what the code finds of it.
use Rattle.std.proofs.Common.{◌≡◌, ◌⊎◌, inl, inr, false, Option, Some, None, sym, ap, ◌∙◌}
use Rattle.std.specs.Prelude.{Result, Ok, Err}
use Rattle.v_syntax.specs.Tree.{Tree}
use Rattle.design_core.specs.declared.expression.Typed.{Typed}
use Rattle.v_sizes.specs.declared.error.WidthErr.{WidthErr}
use Rattle.v_sizes.specs.declared.error.WidthErr.TheVariants as width_fault
use Rattle.v_sizes.specs.Look.{Look}
use Rattle.v_sizes.specs.Context.{typed_in, refusal_in}
use Rattle.v_binding.specs.declared.error.BindErr.{BindErr}
use Rattle.v_binding.specs.Names.{Names, look_in}
use Rattle.v_binding.specs.Unknown.{fault_in}
use Rattle.v_binding.specs.Expressions.{by_itself}
use Rattle.bind_scopes.specs.Refuses.{Refuses}

abbrev answer : Names → Tree → Typed → Option WidthErr → Result Typed BindErr
answer names e t refused = elim refused [
  | None ↦ Ok t
  | Some wrong ↦ Err (fault_in names e wrong)
]

pub accepted : (names : Names) (e : Tree) (look : Look) (t : Typed) → look ≡ look_in names → t ≡ typed_in look e 0 false → refusal_in look e 0 false ≡ None → by_itself names e ≡ Ok t
accepted names e look t same is none =
    ap (answer names e (typed_in (look_in names) e 0 false)) (ap (λ l. refusal_in l e 0 false) (sym same) ∙ none)
    ∙ ap Ok (ap (λ l. typed_in l e 0 false) (sym same) ∙ sym is)

-- a refusal where memory was not wanting is the definition's
pub refused-by : (names : Names) (e : Tree) (look : Look) (wrong : WidthErr) (f : BindErr) → look ≡ look_in names
    → (wrong ≡ width_fault.NoMemory) ⊎ (refusal_in look e 0 false ≡ Some wrong) → f ≡ fault_in names e wrong → Refuses (by_itself names e) f
refused-by names e look wrong f same (inl memory) made = inl (made ∙ ap (fault_in names e) memory)
refused-by names e look wrong f same (inr is) made =
    inr (ap (answer names e (typed_in (look_in names) e 0 false)) (ap (λ l. refusal_in l e 0 false) (sym same) ∙ is) ∙ ap Err (sym made))

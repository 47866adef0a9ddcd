-- An expression that isn't refused fits, and is as wide as its context.
use Rattle.std.proofs.Common.{◌≡◌, ℕ, ◌≤◌, Bool, true, false, List, Option, Some, None, refl, sym, ap, subst, arith, ◌∙◌}
use Rattle.std.specs.Prelude.{max, Result, Ok, Err}
use Rattle.std.proofs.Math.Nat.{max-le, le-max_left, le-max_right}
use Rattle.design_core.specs.declared.signal.Signal.{Signal}
use Rattle.design_core.specs.declared.expression.Typed.{Typed}
use Rattle.design_core.specs.WellFormed.{typed_fits}
use Rattle.v_syntax.specs.Tree.{Tree}
use Rattle.v_sizes.specs.declared.error.WidthErr.{WidthErr}
use Rattle.v_sizes.specs.Look.{Look}
use Rattle.v_sizes.specs.Sizing.{sizing}
use Rattle.v_sizes.specs.Context.{context_width, context_sign, typed_in, refusal_in}
use Rattle.v_sizes.proofs.Meant.{Within}
use Rattle.v_sizes.proofs.Sound.{width-within}
use Rattle.v_sizes.proofs.Expressions.{law}
use Rattle.v_binding.specs.declared.error.BindErr.{BindErr}
use Rattle.v_binding.specs.Names.{Names, look_in}
use Rattle.v_binding.specs.Unknown.{fault_in}
use Rattle.v_binding.specs.Expressions.{sized_in}
use Rattle.bind_laws.specs.Fit.{NamesFit}
use Rattle.bind_laws.proofs.Lists.{Ok-same, Err-Ok}
use Rattle.bind_laws.proofs.Names.{names-stand}

-- the width of an expression by itself
abbrev pub own_width : Names → Tree → ℕ
own_width names e = (sizing (look_in names) e).width

pub own-within : (signals : List Signal) (names : Names) (e : Tree) → NamesFit signals names
    → Within (own_width names e)
own-within signals names e fit = width-within (look_in names) (names-stand signals names fit).scope e

-- a sized expression in a context of a width, 0 for none
pub record IsSized (signals : List Signal) (names : Names) (e : Tree) (context : ℕ) (unsigned : Bool) (x : Typed) : Type 0 where
  pub is : x ≡ typed_in (look_in names) e context unsigned
  pub of_width : x.width ≡ max context (own_width names e)
  pub fits : typed_fits signals x ≡ true

pub sized_in-fits : (signals : List Signal) (names : Names) (e : Tree) (context : ℕ) (unsigned : Bool) (x : Typed)
    → NamesFit signals names → context ≤ 128 → sized_in names e context unsigned ≡ Ok x
    → IsSized signals names e context unsigned x
sized_in-fits signals names e context unsigned x fit most is = by (refusal_in look e context unsigned) refl is
  where
    look : Look
    look = look_in names

    by : (o : Option WidthErr) → refusal_in look e context unsigned ≡ o
        → ◌≡◌ {A = Result Typed BindErr} (elim o [
          | None ↦ Ok (typed_in look e context unsigned)
          | Some wrong ↦ Err (fault_in names e wrong)
        ]) (Ok x)
        → IsSized signals names e context unsigned x
    by (Some wrong) accepted is = Err-Ok is
    by None accepted is =
        let own = own-within signals names e fit in
        let within : Within (context_width look e context) =
        record { least = omega (arith, own.least, le-max_right context (own_width names e)); most = max-le most own.most } in
        let meant = law signals look false (names-stand signals names fit) e (context_width look e context) (context_sign look e unsigned) within
        (le-max_right context (own_width names e)) accepted in
        let same = Ok-same is in
        record {
          is = sym same;
          of_width = ap (λ t. t.width) (sym same) ∙ meant.of_width;
          fits = ap (typed_fits signals) (sym same) ∙ meant.fits;
        }

-- the right side of an assignment has at least as many bits as the left one
pub assigned-wide : (signals : List Signal) (names : Names) (e : Tree) (context : ℕ) (unsigned : Bool) (x : Typed)
    → IsSized signals names e context unsigned x → context ≤ x.width
assigned-wide signals names e context unsigned x sized = subst (λ w. context ≤ w) (sym sized.of_width) (le-max_left context (own_width names e))

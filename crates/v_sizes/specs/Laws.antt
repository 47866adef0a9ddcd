-- Laws of the definitions: a sized expression means what the expression means in its context, and fits it.
use Rattle.std.specs.Prelude.{ℕ, ◌≡◌, Bool, true, false, List, None}
use Rattle.loc_base.specs.declared.span.Span.{Span}
use Rattle.v_syntax.specs.declared.token_kind.TokenKind.{TokenKind}
use Rattle.v_syntax.specs.Tree.{Tree}
use Rattle.design_core.specs.declared.signal.Signal.{Signal}
use Rattle.design_core.specs.WellFormed.{typed_fits}
use Rattle.v_sizes.specs.Look.{Look}
use Rattle.v_sizes.specs.Refusals.{refusal}
use Rattle.v_sizes.specs.Sized.{typed}
use Rattle.v_sizes.specs.Context.{IsScope, IsScopeOf, IsContext}

-- an expression that isn't refused in a context, and the design that its names are of
pub record Stands (signals : List Signal) (look : Look) (e : Tree) (width : ℕ) (signed : Bool) : Type 0 where
  pub scope : IsScope look
  pub of_design : IsScopeOf signals look
  pub context : IsContext look e width
  pub accepted : refusal look false e width signed ≡ None

-- the sized expression is of the context's width and sign, and its parts fit it
pub record IsSized (signals : List Signal) (look : Look) (e : Tree) (width : ℕ) (signed : Bool) : Type 0 where
  pub of_width : (typed look e width signed).width ≡ width
  pub of_sign : (typed look e width signed).signed ≡ signed
  pub fits : typed_fits signals (typed look e width signed) ≡ true

-- an expression in a context
pub record InContext : Type 0 where
  pub signals : List Signal
  pub look : Look
  pub e : Tree
  pub width : ℕ
  pub signed : Bool

-- the text of a number, and where it stands
pub record Numeral : Type 0 where
  pub span : Span
  pub text : List ℕ
  pub kind : TokenKind

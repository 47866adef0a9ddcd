-- A sized expression has the width of its context.
use Rattle.std.proofs.Common.{◌≡◌, ℕ, ◌≤◌, Bool, false, None, sym, ap, ◌∙◌, subst, arith, lit≤}
use Rattle.std.proofs.Math.Nat.{le-max_right, max-le}
use Rattle.v_syntax.specs.Tree.{Tree}
use Rattle.design_core.specs.declared.expression.Typed.{Typed}
use Rattle.v_sizes.specs.declared.scope.Scope.{Scope}
use Rattle.v_sizes.specs.Look.{Look}
use Rattle.v_sizes.specs.Scopes.{look_of}
use Rattle.v_sizes.specs.Sizing.{sizing}
use Rattle.v_sizes.specs.Context.{IsScope, context_width, context_sign, typed_in, refusal_in}
use Rattle.v_widths.proofs.Opened.{opened-law}

-- the widths of expressions are 1 to 128
pub sizing-most : (look : Look) → IsScope look → (e : Tree) → (sizing look e).width ≤ 128
sizing-most look scope e = (opened-law look false scope e).within.most

pub typed-width : (look : Look) → IsScope look → (e : Tree) (context : ℕ) (unsigned : Bool) → context ≤ 128
    → refusal_in look e context unsigned ≡ None → (typed_in look e context unsigned).width ≡ context_width look e context
typed-width look scope e context unsigned most accepted =
    let is = opened-law look false scope e in
    let width = context_width look e context in
    let least : 1 ≤ width = omega (arith, is.within.least, le-max_right context (sizing look e).width) in
    let closes = is.closes width (context_sign look e unsigned) (record { least = least; most = max-le most is.within.most }) (le-max_right context (sizing look e).width) in
    sym (ap (λ t. t.width) (closes.made accepted)) ∙ closes.of_width

-- of an expression by itself, with what the names of a scope stand for
pub own-least : (scope : Scope) (e : Tree) (width : ℕ) → width ≡ (sizing (look_of scope) e).width → 1 ≤ width
own-least scope e width is = subst (λ w. 1 ≤ w) (sym is) (opened-law (look_of scope) false scope.stands e).within.least

pub own-most : (scope : Scope) (e : Tree) (width : ℕ) → width ≡ (sizing (look_of scope) e).width → width ≤ 128
own-most scope e width is = subst (λ w. w ≤ 128) (sym is) (sizing-most (look_of scope) scope.stands e)

pub typed-most : (scope : Scope) (e : Tree) (t : Typed) → t ≡ typed_in (look_of scope) e 0 false → refusal_in (look_of scope) e 0 false ≡ None → t.width ≤ 128
typed-most scope e t is accepted =
    subst (λ w. w ≤ 128) (sym (ap (λ x. x.width) is ∙ typed-width (look_of scope) scope.stands e 0 false (lit≤ tt) accepted))
    (max-le (lit≤ tt) (sizing-most (look_of scope) scope.stands e))

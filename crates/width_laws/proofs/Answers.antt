-- An expression that isn't refused in an assignment of a width means what its sized expression means, and so does a constant.
use Rattle.std.proofs.Common.{◌≡◌, ℕ, ◌≤◌, ◌<◌, ◌^◌, ◌%◌, Bool, true, false, List, None, ap, sym, ◌∙◌, arith}
use Rattle.std.proofs.Math.Nat.{le-max_right, max-le, mod-eq_of_lt}
use Rattle.loc_base.specs.Bits.{value_of}
use Rattle.loc_base.proofs.ShelfBools.{and-true}
use Rattle.v_syntax.specs.Tree.{Tree}
use Rattle.design_core.specs.declared.signal.Signal.{Signal}
use Rattle.design_core.specs.declared.expression.Typed.{Typed}
use Rattle.design_core.specs.Constant.{zeros}
use Rattle.design_core.specs.Valuation.{Valuation}
use Rattle.v_sizes.specs.Look.{Look}
use Rattle.v_sizes.specs.Refusals.{refusal}
use Rattle.v_sizes.specs.Sizing.{sizing}
use Rattle.v_sizes.specs.Sized.{typed}
use Rattle.v_sizes.specs.Word.{word}
use Rattle.v_sizes.specs.Context.{IsScope, IsScopeOf, context_width, context_sign, typed_in, refusal_in, constant_of, constant_refusal_in}
use Rattle.v_sizes.proofs.Expressions.{law}
use Rattle.v_sizes.proofs.Meant.{Within, Meant, below, limited-within}
use Rattle.v_sizes.proofs.Sound.{width-within}
use Rattle.v_sizes.proofs.Steady.{sizing-steady}
use Rattle.v_widths.proofs.OnlyConstants.{only-constant}
use Rattle.v_widths.proofs.Opened.{opened-law}
use Rattle.width_laws.specs.Meaning.{meaning_in}

-- the width that an assignment gives an expression is one
within-context : (look : Look) (e : Tree) (context : ℕ) → IsScope look → context ≤ 128 → Within (context_width look e context)
within-context look e context scope most =
    let own = width-within look scope e in
    record { least = omega (arith, own.least, le-max_right context (sizing look e).width); most = max-le most own.most }

-- an expression that isn't refused
meant : (signals : List Signal) (look : Look) (only : Bool) (e : Tree) (context : ℕ) (signed : Bool) → IsScope look → IsScopeOf signals look → context ≤ 128
    → refusal look only e (context_width look e context) signed ≡ None
    → Meant signals (typed look e (context_width look e context) signed) (context_width look e context) signed
    (λ V. (sizing look e).value V (context_width look e context) signed)
meant signals look only e context signed scope of_design most accepted =
    law signals look only (record { scope = scope; of_design = of_design }) e (context_width look e context) signed
    (within-context look e context scope most) (le-max_right context (sizing look e).width) accepted

pub typed-meant : (signals : List Signal) (look : Look) (e : Tree) (context : ℕ) (unsigned : Bool) → IsScope look → IsScopeOf signals look → context ≤ 128
    → refusal_in look e context unsigned ≡ None
    → Meant signals (typed_in look e context unsigned) (context_width look e context) (context_sign look e unsigned) (meaning_in look e context unsigned)
typed-meant signals look e context unsigned scope of_design most accepted =
    meant signals look false e context (context_sign look e unsigned) scope of_design most accepted

-- the width and the sign of a sized expression, in any scope
pub typed-size : (look : Look) (e : Tree) (context : ℕ) (unsigned : Bool) → IsScope look → context ≤ 128 → refusal_in look e context unsigned ≡ None
    → ((typed_in look e context unsigned).width ≡ context_width look e context) × ((typed_in look e context unsigned).signed ≡ context_sign look e unsigned)
typed-size look e context unsigned scope most accepted =
    let closes = (opened-law look false scope e).closes (context_width look e context) (context_sign look e unsigned)
    (within-context look e context scope most) (le-max_right context (sizing look e).width) in
    (ap (λ (t : Typed). t.width) (sym (closes.made accepted)) ∙ closes.of_width, ap (λ (t : Typed). t.signed) (sym (closes.made accepted)) ∙ closes.of_sign)

-- the context of a constant has its own sign
own-sign : (look : Look) (e : Tree) → context_sign look e false ≡ (sizing look e).signed
own-sign look e = and-true (sizing look e).signed

-- the number of a word that is wide enough
word-number : (width number : ℕ) → Within width → number < 2 ^ width → value_of (word width number) ≡ number
unfolding word
word-number width number within low = ap (λ w. number % 2 ^ w) (limited-within width within) ∙ mod-eq_of_lt low

pub constant-meant : (signals : List Signal) (look : Look) (e : Tree) (context : ℕ) → IsScope look → IsScopeOf signals look → context ≤ 128
    → constant_refusal_in look e context ≡ None → (V : Valuation) → value_of (constant_of look e context).bits ≡ meaning_in look e context false V
constant-meant signals look e context scope of_design most accepted V =
    let size = context_width look e context in
    let signed = (sizing look e).signed in
    let of = λ (U : Valuation). (sizing look e).value U size signed in
    let low : of zeros < 2 ^ size = below signals (typed look e size signed) size signed of (meant signals look true e context signed scope of_design most accepted) zeros in
    word-number size (of zeros) (within-context look e context scope most) low
    ∙ sym (sizing-steady look e (only-constant look e size signed accepted) V size signed)
    ∙ ap (λ s. (sizing look e).value V size s) (sym (own-sign look e))

pub constant-alone : (look : Look) (e : Tree) (context : ℕ) → constant_refusal_in look e context ≡ None → (sizing look e).constant ≡ true
constant-alone look e context accepted = only-constant look e (context_width look e context) (sizing look e).signed accepted

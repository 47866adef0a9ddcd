-- What an expression becomes in the context that a call gives it.
use Rattle.std.proofs.Common.{◌≡◌, ℕ, ◌≤◌, Bool, true, false, ◌&&◌, None, refl, ap, sym, subst, ◌∙◌, arith, List, lit≤}
use Rattle.std.specs.Prelude.{max, not}
use Rattle.std.proofs.Math.Nat.{le-max_right, max-le}
use Rattle.loc_base.specs.declared.bits.Bits.{Bits}
use Rattle.loc_base.specs.Bits.{width_of, value_of}
use Rattle.v_syntax.specs.Tree.{Tree, Selections}
use Rattle.v_syntax.specs.Tree as written
use Rattle.design_core.specs.declared.expression.Typed.{Typed}
use Rattle.design_core.specs.Constant.{zeros}
use Rattle.v_sizes.specs.declared.meaning.Const.{Const}
use Rattle.v_sizes.specs.Look.{Look}
use Rattle.v_sizes.specs.Refusals.{refusal, only_first, only_later}
use Rattle.v_sizes.specs.Sizing.{sizing}
use Rattle.v_sizes.specs.Sized.{constant, typed}
use Rattle.v_sizes.specs.Context.{IsScope, context_width, context_sign, constant_of, constant_refusal_in, typed_in, refusal_in}
use Rattle.v_sizes.specs.Word.{word}
use Rattle.v_sizes.proofs.SameWord.{same_word}
use Rattle.v_selects.specs.declared.closed.Closed.{Closed}
use Rattle.v_selects.specs.Folding.{const_number, const_width}
use Rattle.v_widths.specs.Closing.{closed}
use Rattle.v_widths.specs.Named.{named}
use Rattle.v_widths.specs.Opening.{opened, opened_selects}
use Rattle.v_widths.proofs.Agrees.{IsClosed}
use Rattle.v_widths.proofs.Opened.{opened-law}
use Rattle.v_widths.proofs.OnlyConstants.{only-constant}
use Rattle.v_syntax.specs.declared.site.Site.{Site}
use Rattle.v_widths.specs.declared.measured.Measured.{Measured}

pub opened-least : (look : Look) (only : Bool) → IsScope look → (e : Tree) → 1 ≤ (opened look only e).width
opened-least look only scope e =
    let is = opened-law look only scope e in
    subst (λ w. 1 ≤ w) (sym is.width) is.within.least

pub opened-most : (look : Look) (only : Bool) → IsScope look → (e : Tree) → (opened look only e).width ≤ 128
opened-most look only scope e =
    let is = opened-law look only scope e in
    subst (λ w. w ≤ 128) (sym is.width) is.within.most

-- in a context that isn't narrower than the expression
in-context : (look : Look) (only : Bool) → IsScope look → (e : Tree) (context : ℕ) (signed : Bool) → context ≤ 128
    → IsClosed (sizing look e) (refusal look only e (context_width look e context) signed) (typed look e (context_width look e context) signed) (context_width look e context) signed
    (closed (opened look only e) (context_width look e context) signed)
in-context look only scope e context signed most =
    let is = opened-law look only scope e in
    is.closes (context_width look e context) signed
    (record { least = omega (arith, is.within.least, le-max_right context (sizing look e).width); most = max-le most is.within.most }) (le-max_right context (sizing look e).width)

-- what the code closes is that context
same-context : (look : Look) (only : Bool) → IsScope look → (e : Tree) (context : ℕ) (unsigned : Bool)
    → closed (opened look only e) (max (opened look only e).width context) ((opened look only e).signed && not unsigned)
    ≡ closed (opened look only e) (context_width look e context) (context_sign look e unsigned)
same-context look only scope e context unsigned =
    let is = opened-law look only scope e in
    let width : max (opened look only e).width context ≡ context_width look e context = omega (arith, is.width) in
    ap (λ w. closed (opened look only e) w ((opened look only e).signed && not unsigned)) width
    ∙ ap (λ s. closed (opened look only e) (context_width look e context) (s && not unsigned)) is.signed

pub answered-fault : (look : Look) (only : Bool) → IsScope look → (e : Tree) (context : ℕ) (unsigned : Bool) → context ≤ 128
    → (closed (opened look only e) (max (opened look only e).width context) ((opened look only e).signed && not unsigned)).fault
    ≡ refusal look only e (context_width look e context) (context_sign look e unsigned)
answered-fault look only scope e context unsigned most =
    ap (λ c. c.fault) (same-context look only scope e context unsigned) ∙ (in-context look only scope e context (context_sign look e unsigned) most).fault

pub answered-typed : (look : Look) (only : Bool) → IsScope look → (e : Tree) (context : ℕ) (unsigned : Bool) → context ≤ 128
    → refusal look only e (context_width look e context) (context_sign look e unsigned) ≡ None
    → (closed (opened look only e) (max (opened look only e).width context) ((opened look only e).signed && not unsigned)).typed
    ≡ typed look e (context_width look e context) (context_sign look e unsigned)
answered-typed look only scope e context unsigned most accepted =
    ap (λ c. c.typed) (same-context look only scope e context unsigned) ∙ (in-context look only scope e context (context_sign look e unsigned) most).made accepted

-- ---- constants
same-sign : (look : Look) (e : Tree) → context_sign look e false ≡ (sizing look e).signed
same-sign look e = by (sizing look e).signed
  where
    by : (b : Bool) → (b && true) ≡ b
    by true = refl
    by false = refl

pub answered-refusal : (look : Look) → IsScope look → (e : Tree) (context : ℕ) → context ≤ 128
    → (closed (opened look true e) (max (opened look true e).width context) ((opened look true e).signed && not false)).fault ≡ constant_refusal_in look e context
answered-refusal look scope e context most =
    answered-fault look true scope e context false most ∙ ap (refusal look true e (context_width look e context)) (same-sign look e)

constant-word : (t : Typed) (bits : Bits) (width number : ℕ) (signed : Bool) → t ≡ constant width signed number → width_of bits ≡ const_width t.node
    → value_of bits ≡ const_number t.node → bits ≡ word width number
constant-word t bits width number signed is wide value =
    same_word bits (word width number) (wide ∙ ap (λ (x : Typed). const_width x.node) is) (value ∙ ap (λ (x : Typed). const_number x.node) is)

abbrev const_with : Bits → Bool → Const
const_with bits signed = record { bits = bits; signed = signed }

pub answered-constant : (look : Look) → IsScope look → (e : Tree) (context : ℕ) → context ≤ 128 → constant_refusal_in look e context ≡ None
    → (t : Typed) → t ≡ (closed (opened look true e) (max (opened look true e).width context) ((opened look true e).signed && not false)).typed
    → (bits : Bits) → width_of bits ≡ const_width t.node → value_of bits ≡ const_number t.node
    → const_with bits t.signed ≡ constant_of look e context
answered-constant look scope e context most accepted t is bits wide value =
    let size = context_width look e context in
    let signed = (sizing look e).signed in
    let closes = in-context look true scope e context signed most in
    let same : t ≡ (closed (opened look true e) size signed).typed =
    is ∙ ap (λ c. c.typed) (same-context look true scope e context false ∙ ap (closed (opened look true e) size) (same-sign look e)) in
    let known = same ∙ closes.known (only-constant look e size signed accepted) in
    ap (λ b. const_with b t.signed) (constant-word t bits size ((sizing look e).value zeros size signed) signed known wide value)
    ∙ ap (const_with (word size ((sizing look e).value zeros size signed))) (ap (λ x. x.signed) known)

-- the same of what the code closes
pub answered-closed : (look : Look) → IsScope look → (e : Tree) (context : ℕ) → context ≤ 128 → (c : Closed)
    → c ≡ closed (opened look true e) (max (opened look true e).width context) ((opened look true e).signed && not false) → c.fault ≡ None
    → (bits : Bits) → width_of bits ≡ const_width c.typed.node → value_of bits ≡ const_number c.typed.node
    → const_with bits c.typed.signed ≡ constant_of look e context
answered-closed look scope e context most c is accepted bits wide value =
    answered-constant look scope e context most (sym (answered-refusal look scope e context most) ∙ sym (ap (λ x. x.fault) is) ∙ accepted)
    c.typed (ap (λ x. x.typed) is) bits wide value

-- a name by itself
pub name-least : (look : Look) (only : Bool) → IsScope look → (site : Site) (text : List ℕ) (selects : Selections)
    → 1 ≤ (named site.span only (look text) (opened_selects look (only_first only (look text)) (only_later only (look text)) selects)).width
name-least look only scope site text selects = opened-least look only scope (written.name site text selects)

pub name-most : (look : Look) (only : Bool) → IsScope look → (site : Site) (text : List ℕ) (selects : Selections)
    → (named site.span only (look text) (opened_selects look (only_first only (look text)) (only_later only (look text)) selects)).width ≤ 128
name-most look only scope site text selects = opened-most look only scope (written.name site text selects)

pub opened-width : (look : Look) (only : Bool) → IsScope look → (e : Tree) → (opened look only e).width ≡ (sizing look e).width
opened-width look only scope e = (opened-law look only scope e).width

pub opened-signed : (look : Look) (only : Bool) → IsScope look → (e : Tree) → (opened look only e).signed ≡ (sizing look e).signed
opened-signed look only scope e = (opened-law look only scope e).signed

-- a name by itself, as the code closes it
pub closed-name : (look : Look) → IsScope look → (site : Site) (text : List ℕ) (selects : Selections) (c : Closed) (m : Measured)
    → c ≡ closed m (max m.width 0) (m.signed && not false)
    → m ≡ named site.span false (look text) (opened_selects look (only_first false (look text)) (only_later false (look text)) selects)
    → (c.fault ≡ refusal_in look (written.name site text selects) 0 false)
    × (refusal_in look (written.name site text selects) 0 false ≡ None → c.typed ≡ typed_in look (written.name site text selects) 0 false)
closed-name look scope site text selects c m closes is =
    let e : Tree = written.name site text selects in
    let same : c ≡ closed (opened look false e) (max (opened look false e).width 0) ((opened look false e).signed && not false) =
    closes ∙ ap (λ (x : Measured). closed x (max x.width 0) (x.signed && not false)) is in (
      ap (λ x. x.fault) same ∙ answered-fault look false scope e 0 false (lit≤ tt),
      λ accepted. ap (λ x. x.typed) same ∙ answered-typed look false scope e 0 false (lit≤ tt) accepted,
    )

pub ruleset typed_answers = (answered-fault, answered-typed)

pub ruleset constant_answers = (answered-refusal, answered-closed)

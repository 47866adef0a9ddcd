-- The law of sized expressions, whole.
use Rattle.std.proofs.lemmas.Bool.{not-false}
use Rattle.std.proofs.Common.{◌≡◌, ℕ, zero, suc, ◌+◌, ◌*◌, ◌^◌, ◌<◌, ◌≤◌, Bool, true, false, ◌&&◌, List, [], ◌∷◌, Option, Some, None, refl, ap, sym, subst, ◌∙◌, arith, lit≤}
use Rattle.std.specs.Prelude.{min, if◌then◌else◌, max, not, ◌||◌, ◌==◌, nat_le, ℤ, int_lt, pos, negsuc}
use Rattle.std.proofs.Math.Nat.{le-max_left, le-max_right, add-mul}
use Rattle.loc_base.specs.declared.span.Span.{Span}
use Rattle.v_syntax.specs.declared.site.Site.{Site}
use Rattle.v_syntax.specs.declared.operator.Unary.{Unary}
use Rattle.v_syntax.specs.declared.operator.Binary.{Binary}
use Rattle.v_syntax.specs.declared.operator.SystemFunction.{SystemFunction}
use Rattle.v_syntax.specs.declared.operator.SystemFunction.TheVariants as function
use Rattle.v_syntax.specs.Tree.{Tree, Trees, no_tree, tree, Selections, no_select, select}
use Rattle.v_syntax.specs.Tree as written
use Rattle.design_core.specs.declared.signal.Signal.{Signal}
use Rattle.design_core.specs.declared.expression.Node.TheVariants as node
use Rattle.design_core.specs.Constant.{zeros}
use Rattle.v_sizes.specs.declared.error.WidthErr.{WidthErr}
use Rattle.v_sizes.specs.declared.error.WidthErr.TheVariants as fault
use Rattle.v_sizes.specs.Look.{Look}
use Rattle.v_sizes.specs.Literal.{written_width}
use Rattle.v_sizes.specs.Operations.{Class, by_context, shift, comparison, logical, quotient, remainder, power, class_of, keeps_width, is_below_0, logarithm_from, ceiling_of_logarithm}
use Rattle.v_sizes.specs.declared.meaning.Meaning.{Meaning}
use Rattle.v_sizes.specs.declared.meaning.Meaning.TheVariants as meaning
use Rattle.v_sizes.specs.Selected.{descends}
use Rattle.v_sizes.specs.Sizing.{Chosen, one_bit, some_bits, Sizing, sizing, sizings, own, known, times_of, joined_width, chosen_of, class_sizing, unary_sizing, called, conditional}
use Rattle.v_sizes.specs.Refusals.{refusal, parts_refusal, selects_refusal, only_first, only_later, is_bound, word_fault, when, is_bad_width, name_fault, division_fault, power_fault, concat_fault, repeat_fault, called_fault}
use Rattle.v_sizes.specs.Sized.{sized, constant, typed, typed_parts, selects_of, folded, with_sign, with_width}
use Rattle.v_sizes.specs.Context.{IsScope}
use Rattle.v_sizes.proofs.Steady.{IsSteady, sizing-steady}
use Rattle.v_sizes.proofs.Accepted.{or-none, or_false, first_of-none, when-none, good-width, max-within}
use Rattle.v_sizes.proofs.Meant.{Within, Meant, folded-meant, with_sign-meant, with_width-meant}
use Rattle.v_sizes.proofs.Joins.{MeantAll, choose-meant}
use Rattle.v_sizes.proofs.Joins as parts
use Rattle.v_sizes.proofs.Names.{limits, one_index, two_indexes}
use Rattle.v_sizes.proofs.Meanings.{MeantSelects}
use Rattle.v_sizes.proofs.Meanings as selects
use Rattle.v_sizes.proofs.Operands.{class-fits}
use Rattle.v_sizes.proofs.Law.{folded-by, extended-below}
use Rattle.v_sizes.proofs.Sound.{width-within, class_refusal, binary-refusal}
use Rattle.v_sizes.proofs.Whole.{Standing, InContext, OperandsStand, class_shape, kept_sizing, bit_sizing, literal-meant, name-law, concat-law, repeat-law, unary-law, class-law}

-- an operand in every context in which it isn't refused
abbrev Everywhere : List Signal → Look → Bool → Tree → Type 0
Everywhere signals look only e = (w : ℕ) (s : Bool) → Within w → (sizing look e).width ≤ w → refusal look only e w s ≡ None → InContext signals look e w s

-- ---- operands
division-constant : (span : Span) (left right : Sizing) (divisor : ℕ) → division_fault span left right divisor ≡ None → (left.constant && right.constant) ≡ true
division-constant span left right divisor h =
    not-false (left.constant && right.constant)
    (when-none (not (left.constant && right.constant)) (fault.NotConstant span) (when (divisor == 0) (fault.ZeroDivisor span) None) h).0

power-constant : (span : Span) (left right : Sizing) → power_fault span left right ≡ None → (left.constant && right.constant) ≡ true
power-constant span left right h =
    not-false (left.constant && right.constant)
    (or_false (not (left.constant && right.constant)) (is_below_0 (known right))
    (when-none (not (left.constant && right.constant) || is_below_0 (known right)) (fault.NotConstant span) None h).0).0

operands-stand : (signals : List Signal) (look : Look) (only : Bool) → IsScope look → (span : Span) (c : Class) (left right : Tree) (size : ℕ) (signed : Bool) → Within size
    → (class_sizing c (sizing look left) (sizing look right)).width ≤ size → class_refusal look only span c left right size signed ≡ None
    → Everywhere signals look only left → Everywhere signals look only right → OperandsStand signals look c left right size signed
operands-stand signals look only scope span (by_context op) left right size signed within wide h one other =
    let l = (sizing look left).width in
    let r = (sizing look right).width in
    let parts = first_of-none (refusal look only left size signed) (refusal look only right size signed) None h in
    (one size signed within (omega (arith, wide, le-max_left l r)) parts.0, other size signed within (omega (arith, wide, le-max_right l r)) parts.1)
operands-stand signals look only scope span (shift op) left right size signed within wide h one other =
    let r = sizing look right in
    let parts = first_of-none (refusal look only left size signed) (refusal look only right r.width r.signed) None h in
    (one size signed within wide parts.0, other r.width r.signed (width-within look scope right) (omega arith) parts.1)
operands-stand signals look only scope span (comparison op) left right size signed within wide h one other =
    let l = (sizing look left).width in
    let r = (sizing look right).width in
    let w = max l r in
    let s = (sizing look left).signed && (sizing look right).signed in
    let parts = first_of-none (refusal look only left w s) (refusal look only right w s) None h in
    let both = max-within l r (width-within look scope left) (width-within look scope right) in
    (one w s both (le-max_left l r) parts.0, other w s both (le-max_right l r) parts.1)
operands-stand signals look only scope span (logical op) left right size signed within wide h one other =
    let l = sizing look left in
    let r = sizing look right in
    let parts = first_of-none (refusal look only left l.width l.signed) (refusal look only right r.width r.signed) None h in (
      one l.width l.signed (width-within look scope left) (omega arith) parts.0,
      other r.width r.signed (width-within look scope right) (omega arith) parts.1,
    )
operands-stand signals look only scope span quotient left right size signed within wide h one other =
    division-constant span (sizing look left) (sizing look right) ((sizing look right).value zeros size signed)
    (first_of-none (refusal look only left size signed) (refusal look only right size signed)
    (division_fault span (sizing look left) (sizing look right) ((sizing look right).value zeros size signed)) h).2
operands-stand signals look only scope span remainder left right size signed within wide h one other =
    division-constant span (sizing look left) (sizing look right) ((sizing look right).value zeros size signed)
    (first_of-none (refusal look only left size signed) (refusal look only right size signed)
    (division_fault span (sizing look left) (sizing look right) ((sizing look right).value zeros size signed)) h).2
operands-stand signals look only scope span power left right size signed within wide h one other =
    power-constant span (sizing look left) (sizing look right)
    (first_of-none (refusal look only left size signed) (refusal look only right (sizing look right).width (sizing look right).signed)
    (power_fault span (sizing look left) (sizing look right)) h).2

-- the shape of a binary operator is that of its class
binary-shape : (look : Look) (site : Site) (op : Binary) (left right : Tree) (size : ℕ) (signed : Bool)
    → typed look (written.binary site op left right) size signed
    ≡ folded (class_sizing (class_of op) (sizing look left) (sizing look right)) size signed (class_shape look (class_of op) left right size signed)
binary-shape look site op left right size signed = by (class_of op)
  where
    by : (c : Class) → folded (class_sizing c (sizing look left) (sizing look right)) size signed
        (elim c [
          | by_context made ↦ class_shape look (by_context made) left right size signed
          | shift made ↦ class_shape look (shift made) left right size signed
          | comparison made ↦ class_shape look (comparison made) left right size signed
          | logical made ↦ class_shape look (logical made) left right size signed
          | quotient ↦ constant size signed 0
          | remainder ↦ constant size signed 0
          | power ↦ constant size signed 0
        ]
        )
        ≡ folded (class_sizing c (sizing look left) (sizing look right)) size signed (class_shape look c left right size signed)
    by (by_context made) = refl
    by (shift made) = refl
    by (comparison made) = refl
    by (logical made) = refl
    by quotient = refl
    by remainder = refl
    by power = refl

-- ---- replications
some-times : (times width : ℕ) → 1 ≤ times → width ≤ times * width
some-times zero width some = absurd (omega (arith, some))
some-times (suc times) width some =
    let spread : (times + 1) * width ≡ times * width + 1 * width = add-mul times 1 width in
    let next : suc times * width ≡ (times + 1) * width = ap (λ n. n * width) (omega arith) in
    omega (arith, spread, next)

pub one-part : (times width : ℕ) → 1 ≤ times → Within (times * width) → Within width
one-part times zero some within = let nothing : times * 0 ≡ 0 = omega arith in absurd (omega (arith, nothing, within.least))
one-part times (suc width) some within = record { least = omega arith; most = omega (arith, within.most, some-times times (suc width) some) }

counts : (z : ℤ) → 1 ≤ times_of z
counts (pos n) = le-max_left 1 (min n 255)
counts (negsuc n) = lit≤ tt

-- ---- system functions
logarithm-most : (more bits n : ℕ) → logarithm_from more bits n ≤ bits + more
unfolding logarithm_from
logarithm-most zero bits n = omega arith
logarithm-most (suc more) bits n = by (nat_le n (2 ^ bits)) (logarithm-most more (bits + 1) n)
  where
    by : (holds : Bool) → logarithm_from more (bits + 1) n ≤ bits + 1 + more → (if holds then bits else logarithm_from more (bits + 1) n) ≤ bits + suc more
    by true h = omega arith
    by false h = omega (arith, h)

pub logarithm-low : (n : ℕ) → ceiling_of_logarithm n < 2 ^ 32
logarithm-low n = omega (arith, logarithm-most 128 0 n)

called-law : (signals : List Signal) (look : Look) (name : SystemFunction) (argument : Tree) (size : ℕ) (signed : Bool) (span : Span) → Within size
    → Within (sizing look argument).width → InContext signals look argument (sizing look argument).width (sizing look argument).signed
    → called_fault span name (sizing look argument) ≡ None → IsSteady (called name (sizing look argument)) → (called name (sizing look argument)).width ≤ size
    → Meant signals
    (folded (called name (sizing look argument)) size signed (with_width size (with_sign signed (typed look argument (sizing look argument).width (sizing look argument).signed))))
    size signed (λ V. (called name (sizing look argument)).value V size signed)
called-law signals look function.Signed argument size signed span within own_within meant accepted steady wide =
    let e = sizing look argument in
    let t = typed look argument e.width e.signed in
    folded-meant signals (called function.Signed e) size signed (with_width size (with_sign signed t)) within steady
    (with_width-meant signals (with_sign signed t) e.width size signed (own e) within wide (with_sign-meant signals t e.width signed e.signed (own e) own_within meant))
called-law signals look function.Unsigned argument size signed span within own_within meant accepted steady wide =
    let e = sizing look argument in
    let t = typed look argument e.width e.signed in
    folded-meant signals (called function.Unsigned e) size signed (with_width size (with_sign signed t)) within steady
    (with_width-meant signals (with_sign signed t) e.width size signed (own e) within wide (with_sign-meant signals t e.width signed e.signed (own e) own_within meant))
called-law signals look function.Clog2 argument size signed span within own_within meant accepted steady wide =
    let e = sizing look argument in
    let fixed = not-false e.constant (when-none (not e.constant) (fault.NotConstant span) None accepted).0 in
    folded-by signals (called function.Clog2 e) size signed (with_width size (with_sign signed (typed look argument e.width e.signed))) within steady
    (extended-below signed 32 size (ceiling_of_logarithm (own e zeros)) (logarithm-low (own e zeros)) wide)
    (λ varies. never fixed varies)
  where
    never : {A : Type 0} {b : Bool} → b ≡ true → b ≡ false → A
    never {A} {b} one other = cc

-- ---- unary operators
abbrev width_of_sizing : Sizing → ℕ
width_of_sizing s = s.width

kept-wide : (op : Unary) (e : Sizing) (size : ℕ) → keeps_width op ≡ true → (unary_sizing op e).width ≤ size → e.width ≤ size
kept-wide op e size is wide = subst (λ w. w ≤ size) (ap (λ holds. width_of_sizing (if holds then kept_sizing op e else bit_sizing op e)) is) wide

when-kept : (holds : Bool) (one other : Option WidthErr) → holds ≡ true → (if holds then one else other) ≡ None → one ≡ None
when-kept true one other is h = h
when-kept false one other is h = cc

when-reduced : (holds : Bool) (one other : Option WidthErr) → holds ≡ false → (if holds then one else other) ≡ None → other ≡ None
when-reduced true one other is h = cc
when-reduced false one other is h = h

-- ---- names: what may stand where constants alone may stand may stand elsewhere
pub never-signal : (span : Span) (all down : Bool) (cs : List Chosen) {A : Type 0} → word_fault span true all down cs ≡ None → A
never-signal span all down [] accepted = cc
never-signal span all down (c ∷ []) accepted = cc
never-signal span all down (c ∷ d ∷ rest) accepted = cc

name-lenient : (span : Span) (only : Bool) (m : Option Meaning) (cs : List Chosen) → name_fault span only m cs ≡ None → name_fault span false m cs ≡ None
name-lenient span false m cs accepted = accepted
name-lenient span true None cs accepted = cc
name-lenient span true (Some (meaning.Constant value left right)) cs accepted = accepted
name-lenient span true (Some (meaning.Signal signal width signed left right)) cs accepted = never-signal span false (descends left right) cs accepted
name-lenient span true (Some (meaning.Array first count low width signed left right)) [] accepted = cc
name-lenient span true (Some (meaning.Array first count low width signed left right)) (some_bits k x y ∷ rest) accepted = cc
name-lenient span true (Some (meaning.Array first count low width signed left right)) (one_bit x ∷ rest) accepted =
    never-signal span true (descends left right) rest accepted

-- ---- every expression
mutual
  pub law : (signals : List Signal) (look : Look) (only : Bool) → Standing signals look → (e : Tree) → Everywhere signals look only e
  law signals look only standing (written.number site text) size signed within wide accepted =
      literal-meant signals text size signed (limits (written_width text)) within wide
  law signals look only standing (written.wild site text) size signed within wide accepted =
      literal-meant signals text size signed (limits (written_width text)) within wide
  law signals look only standing (written.name site text selects) size signed within wide accepted =
      let first = only_first only (look text) in
      let later = only_later only (look text) in
      let split = or-none (selects_refusal look first later selects) (name_fault site.span only (look text) (chosen_of look selects)) accepted in
      name-law signals (look text) size signed site.span (λ n found. (standing.scope text n found, standing.of_design text n found))
      (selects-law signals look first later standing selects split.0) (name-lenient site.span only (look text) (chosen_of look selects) split.1) within
      (sizing-steady look (written.name site text selects)) wide
  law signals look only standing (written.parens site inner) size signed within wide accepted = law signals look only standing inner size signed within wide accepted
  law signals look only standing (written.concat site ts) size signed within wide accepted =
      let split = or-none (parts_refusal look only ts) (concat_fault site.span (sizings look ts)) accepted in
      concat-law signals size signed (good-width (joined_width (sizings look ts)) (when-none (is_bad_width (joined_width (sizings look ts))) (fault.Range site.span) None split.1).0)
      (parts-law signals look only standing ts split.0) within (sizing-steady look (written.concat site ts)) wide
  law signals look only standing (written.repeat site count ts) size signed within wide accepted =
      let c = sizing look count in
      let es = sizings look ts in
      let split = first_of-none (refusal look true count c.width c.signed) (parts_refusal look only ts) (repeat_fault site.span c es) accepted in
      let bad = not (int_lt (pos 0) (known c)) || is_bad_width (times_of (known c) * joined_width es) in
      let sized_well = (when-none (not c.constant) (fault.NotConstant site.span) (when bad (fault.Range site.span) None) split.2).1 in
      let all = good-width (times_of (known c) * joined_width es)
      (or_false (not (int_lt (pos 0) (known c))) (is_bad_width (times_of (known c) * joined_width es)) (when-none bad (fault.Range site.span) None sized_well).0).1 in
      repeat-law signals c size signed all (one-part (times_of (known c)) (joined_width es) (counts (known c)) all)
      (parts-law signals look only standing ts split.1) within (sizing-steady look (written.repeat site count ts)) wide
  law signals look only standing (written.system site name argument) size signed within wide accepted =
      let e = sizing look argument in
      let split = or-none (refusal look only argument e.width e.signed) (called_fault site.span name e) accepted in
      let own_within = width-within look standing.scope argument in
      called-law signals look name argument size signed site.span within own_within
      (law signals look only standing argument e.width e.signed own_within (omega arith) split.0) split.1 (sizing-steady look (written.system site name argument)) wide
  law signals look only standing (written.unary site op operand) size signed within wide accepted =
      let e = sizing look operand in
      let kept = refusal look only operand size signed in
      let reduced = refusal look only operand e.width e.signed in
      unary-law signals look op operand size signed within
      (λ is. law signals look only standing operand size signed within (kept-wide op e size is wide) (when-kept (keeps_width op) kept reduced is accepted))
      (λ is.
      let h = when-reduced (keeps_width op) kept reduced is accepted in
      law signals look only standing operand e.width e.signed (width-within look standing.scope operand) (omega arith) h)
      (sizing-steady look (written.unary site op operand))
  law signals look only standing (written.binary site op left right) size signed within wide accepted =
      subst (λ t. Meant signals t size signed (λ V. (class_sizing (class_of op) (sizing look left) (sizing look right)).value V size signed)) (sym (binary-shape look site op left right size signed))
      (class-law signals look (class_of op) left right size signed (class-fits op) within
      (operands-stand signals look only standing.scope site.span (class_of op) left right size signed within wide (sym (binary-refusal look only site op left right size signed) ∙ accepted)
      (λ w s fits narrow h. law signals look only standing left w s fits narrow h) (λ w s fits narrow h. law signals look only standing right w s fits narrow h)
      )
      (sizing-steady look (written.binary site op left right))
      )
  law signals look only standing (written.conditional site condition on_true on_false) size signed within wide accepted =
      let c = sizing look condition in
      let a = sizing look on_true in
      let b = sizing look on_false in
      let split = first_of-none (refusal look only condition c.width c.signed) (refusal look only on_true size signed) (refusal look only on_false size signed) accepted in
      let own_within = width-within look standing.scope condition in
      folded-meant signals (conditional c a b) size signed
      (sized size signed (node.Choose (typed look condition c.width c.signed) (typed look on_true size signed) (typed look on_false size signed))) within
      (sizing-steady look (written.conditional site condition on_true on_false))
      (choose-meant signals (typed look condition c.width c.signed) (typed look on_true size signed) (typed look on_false size signed) c.width size c.signed signed
      (own c) (λ V. a.value V size signed) (λ V. b.value V size signed)
      (law signals look only standing condition c.width c.signed own_within (omega arith) split.0)
      (law signals look only standing on_true size signed within (omega (arith, wide, le-max_left a.width b.width)) split.1)
      (law signals look only standing on_false size signed within (omega (arith, wide, le-max_right a.width b.width)) split.2)
      )

  parts-law : (signals : List Signal) (look : Look) (only : Bool) → Standing signals look → (ts : Trees) → parts_refusal look only ts ≡ None → MeantAll signals (typed_parts look ts) (sizings look ts)
  parts-law signals look only standing no_tree accepted = parts.none
  parts-law signals look only standing (tree one rest) accepted =
      let e = sizing look one in
      let split = or-none (refusal look only one e.width e.signed) (parts_refusal look only rest) accepted in
      parts.more (law signals look only standing one e.width e.signed (width-within look standing.scope one) (omega arith) split.0)
      (parts-law signals look only standing rest split.1)

  selects-law : (signals : List Signal) (look : Look) (first later : Bool) → Standing signals look → (ss : Selections) → selects_refusal look first later ss ≡ None
      → MeantSelects signals (selects_of look ss) (chosen_of look ss)
  selects-law signals look first later standing no_select accepted = selects.none
  selects-law signals look first later standing (select (written.bit site index) rest) accepted =
      let e = sizing look index in
      let split = or-none (refusal look first index e.width e.signed) (selects_refusal look later later rest) accepted in
      selects.more
      (one_index (sizing-steady look index) (law signals look first standing index e.width e.signed (width-within look standing.scope index) (omega arith) split.0))
      (selects-law signals look later later standing rest split.1)
  selects-law signals look first later standing (select (written.part site k one other) rest) accepted =
      let x = sizing look one in
      let y = sizing look other in
      let bound = first || is_bound k in
      let split = first_of-none (refusal look bound one x.width x.signed) (refusal look true other y.width y.signed) (selects_refusal look later later rest) accepted in
      selects.more
      (two_indexes
      (sizing-steady look one) (law signals look bound standing one x.width x.signed (width-within look standing.scope one) (omega arith) split.0)
      (sizing-steady look other) (law signals look true standing other y.width y.signed (width-within look standing.scope other) (omega arith) split.1)
      )
      (selects-law signals look later later standing rest split.2)

-- The law of sized expressions, by the expression.
use Rattle.std.proofs.Common.{◌≡◌, ℕ, ◌-◌, ◌*◌, ◌%◌, ◌^◌, ◌<◌, ◌≤◌, Bool, true, false, ◌&&◌, List, Option, Some, None, refl, ap, sym, subst, ◌∙◌, lit≤}
use Rattle.std.specs.Prelude.{if◌then◌else◌, max}
use Rattle.std.proofs.Math.Nat.{mod-lt, mod-eq_of_lt}
use Rattle.std.proofs.lemmas.Nat.{pow_pos}
use Rattle.loc_base.specs.Word.{extended}
use Rattle.loc_base.specs.declared.span.Span.{Span}
use Rattle.v_syntax.specs.declared.operator.Unary.{Unary}
use Rattle.v_syntax.specs.Tree.{Tree}
use Rattle.design_core.specs.declared.signal.Signal.{Signal}
use Rattle.design_core.specs.declared.expression.Typed.{Typed}
use Rattle.design_core.specs.declared.expression.Node.TheVariants as node
use Rattle.design_core.specs.Valuation.{Valuation}
use Rattle.design_core.specs.Constant.{zeros}
use Rattle.design_core.specs.Operator as operator
use Rattle.design_core.specs.Operator.{is_true}
use Rattle.v_sizes.specs.declared.meaning.Meaning.{Meaning}
use Rattle.v_sizes.specs.Look.{Look}
use Rattle.v_sizes.specs.Literal.{limited, literal_width, literal_value}
use Rattle.v_sizes.specs.Operations.{unary_of, Class, by_context, shift, comparison, logical, quotient, remainder, power, keeps_width, word_of}
use Rattle.v_sizes.specs.Sizing.{Sizing, sizing, own, known, times_of, joined_width, joined_value, Chosen, meaning_sizing, name_sizing, class_sizing, unary_sizing, by_itself, joined, replicated}
use Rattle.v_sizes.specs.Refusals.{name_fault}
use Rattle.v_sizes.specs.Sized.{sized, constant, typed, carried, folded, meaning_node, name_node}
use Rattle.v_sizes.specs.Context.{IsScope, IsScopeOf, IsMeaning, IsAmong}
use Rattle.v_sizes.proofs.Steady.{IsSteady}
use Rattle.v_sizes.proofs.Meant.{Within, limited-within, Meant, constant-meant, folded-meant, below, carried-meant, unary-meant, Operands, binary-meant}
use Rattle.v_sizes.proofs.Joins.{MeantAll, join-meant, repeat-meant}
use Rattle.v_sizes.proofs.Meanings.{MeantSelects}
use Rattle.v_sizes.proofs.Operands.{keeps-fits, bit-fits, Fits}
use Rattle.v_sizes.proofs.Law.{folded-by, extended-below, meaning-below, meaning-meant}

-- a design with the scope of its names
pub record Standing (signals : List Signal) (look : Look) : Type 0 where
  pub scope : IsScope look
  pub of_design : IsScopeOf signals look

one_bit-within : Within 1
one_bit-within = record { least = lit≤ tt; most = lit≤ tt }

-- ---- numbers
pub literal-meant : (signals : List Signal) (text : List ℕ) (size : ℕ) (signed : Bool) → Within (literal_width text) → Within size → literal_width text ≤ size
    → Meant signals (constant size signed (extended signed (literal_width text) size (literal_value text))) size signed (λ V. extended signed (literal_width text) size (literal_value text))
literal-meant signals text size signed own_within within wide =
    constant-meant signals size signed (extended signed (literal_width text) size (literal_value text)) within
    (extended-below signed (literal_width text) size (literal_value text) (value-low text) wide)
  where
    value-low : (t : List ℕ) → literal_value t < 2 ^ literal_width t
    value-low t = mod-lt _ (pow_pos (literal_width t))

-- ---- names
pub name-law : (signals : List Signal) {ss : _} {cs : List Chosen} (m : Option Meaning) (size : ℕ) (signed : Bool) (span : Span)
    → ((n : Meaning) → m ≡ Some n → IsMeaning n × IsAmong signals n) → MeantSelects signals ss cs → name_fault span false m cs ≡ None → Within size
    → IsSteady (name_sizing m cs) → (name_sizing m cs).width ≤ size
    → Meant signals (folded (name_sizing m cs) size signed (carried size signed (name_sizing m cs).width (name_node m ss))) size signed (λ V. (name_sizing m cs).value V size signed)
name-law signals None size signed span stands selected accepted within steady wide = cc
name-law signals {ss = ss} {cs = cs} (Some m) size signed span stands selected accepted within steady wide =
    let s = stands m refl in
    folded-by signals (meaning_sizing m cs) size signed (carried size signed (meaning_sizing m cs).width (meaning_node m ss)) within steady
    (meaning-below m cs zeros size signed wide)
    (λ varies. meaning-meant signals m size signed span s.0 s.1 selected accepted within varies wide)

-- ---- concatenations
cut-low : (width value : ℕ) → Within width → value < 2 ^ width → value % 2 ^ limited width ≡ value
cut-low width value within low = ap (λ w. value % 2 ^ w) (limited-within width within) ∙ mod-eq_of_lt low

pub concat-law : (signals : List Signal) {ts : List Typed} {es : List Sizing} (size : ℕ) (signed : Bool) → Within (joined_width es) → MeantAll signals ts es → Within size
    → IsSteady (joined es) → limited (joined_width es) ≤ size
    → Meant signals (folded (joined es) size signed (carried size signed (limited (joined_width es)) (node.Join ts))) size signed (λ V. (joined es).value V size signed)
concat-law signals {ts = ts} {es = es} size signed own_within meant within steady wide =
    let width = joined_width es in
    let same : limited width ≡ width = limited-within width own_within in
    let shape = join-meant signals ts es signed own_within meant in
    let values : (V : Valuation) → joined_value 0 es V ≡ joined_value 0 es V % 2 ^ limited width =
    λ V. sym (cut-low width (joined_value 0 es V) own_within (below signals (sized width signed (node.Join ts)) width signed (joined_value 0 es) shape V)) in
    let carries : Meant signals (carried size signed (limited width) (node.Join ts)) size signed (λ V. extended signed (limited width) size (joined_value 0 es V % 2 ^ limited width)) =
    subst (λ w. Meant signals (carried size signed w (node.Join ts)) size signed (λ V. extended signed w size (joined_value 0 es V % 2 ^ limited width))) (sym same)
    (carried-meant signals (node.Join ts) width size signed (λ V. joined_value 0 es V % 2 ^ limited width) within (subst (λ w. w ≤ size) same wide)
    (record { of_width = shape.of_width; of_sign = shape.of_sign; means = λ V. shape.means V ∙ values V; fits = shape.fits })) in
    folded-meant signals (joined es) size signed (carried size signed (limited width) (node.Join ts)) within steady carries

pub repeat-law : (signals : List Signal) {ts : List Typed} {es : List Sizing} (count : Sizing) (size : ℕ) (signed : Bool) → Within (times_of (known count) * joined_width es)
    → Within (joined_width es) → MeantAll signals ts es → Within size
    → IsSteady (replicated count es) → limited (times_of (known count) * joined_width es) ≤ size
    → Meant signals
    (folded (replicated count es) size signed
    (carried size signed (limited (times_of (known count) * joined_width es)) (node.Repeat (times_of (known count)) (sized (joined_width es) false (node.Join ts))))
    ) size signed (λ V. (replicated count es).value V size signed)
repeat-law signals {ts = ts} {es = es} count size signed own_within part_within meant within steady wide =
    let times = times_of (known count) in
    let width = times * joined_width es in
    let same : limited width ≡ width = limited-within width own_within in
    let part = sized (joined_width es) false (node.Join ts) in
    let shape = repeat-meant signals part times (joined_width es) signed false (joined_value 0 es) own_within (join-meant signals ts es false part_within meant) in
    let of : Valuation → ℕ = λ V. operator.repeated times (joined_width es) (joined_value 0 es V) in
    let values : (V : Valuation) → of V ≡ of V % 2 ^ limited width =
    λ V. sym (cut-low width (of V) own_within (below signals (sized width signed (node.Repeat times part)) width signed of shape V)) in
    let carries : Meant signals (carried size signed (limited width) (node.Repeat times part)) size signed (λ V. extended signed (limited width) size (of V % 2 ^ limited width)) =
    subst (λ w. Meant signals (carried size signed w (node.Repeat times part)) size signed (λ V. extended signed w size (of V % 2 ^ limited width))) (sym same)
    (carried-meant signals (node.Repeat times part) width size signed (λ V. of V % 2 ^ limited width) within (subst (λ w. w ≤ size) same wide)
    (record { of_width = shape.of_width; of_sign = shape.of_sign; means = λ V. shape.means V ∙ values V; fits = shape.fits })) in
    folded-meant signals (replicated count es) size signed (carried size signed (limited width) (node.Repeat times part)) within steady carries

-- ---- operators
abbrev pub kept_sizing : Unary → Sizing → Sizing
kept_sizing op e =
    record { width = e.width; signed = e.signed; constant = e.constant; value = λ V size signed. operator.unary (unary_of op) size (e.value V size signed) }

abbrev pub bit_sizing : Unary → Sizing → Sizing
bit_sizing op e = by_itself 1 false e.constant (λ V. operator.unary (unary_of op) e.width (own e V))

abbrev value_in : Sizing → Valuation → ℕ → Bool → ℕ
value_in e = e.value

-- an operand in its context: sized, it means its value there
abbrev pub InContext : List Signal → Look → Tree → ℕ → Bool → Type 0
InContext signals look e w s = Meant signals (typed look e w s) w s (λ V. (sizing look e).value V w s)

pub unary-law : (signals : List Signal) (look : Look) (op : Unary) (operand : Tree) (size : ℕ) (signed : Bool) → Within size
    → (keeps_width op ≡ true → InContext signals look operand size signed)
    → (keeps_width op ≡ false → InContext signals look operand (sizing look operand).width (sizing look operand).signed)
    → IsSteady (unary_sizing op (sizing look operand))
    → Meant signals
    (folded (unary_sizing op (sizing look operand)) size signed
    (if keeps_width op
    then sized size signed (node.Unary (unary_of op) (typed look operand size signed))
    else carried size signed 1 (node.Unary (unary_of op) (typed look operand (sizing look operand).width (sizing look operand).signed))
    )
    ) size signed (λ V. (unary_sizing op (sizing look operand)).value V size signed)
unary-law signals look op operand size signed within kept reduced steady = by (keeps_width op) refl steady
  where
    by : (holds : Bool) → keeps_width op ≡ holds
        → IsSteady (if holds then kept_sizing op (sizing look operand) else bit_sizing op (sizing look operand))
        → Meant signals
        (folded (if holds then kept_sizing op (sizing look operand) else bit_sizing op (sizing look operand)) size signed
        (if holds
        then sized size signed (node.Unary (unary_of op) (typed look operand size signed))
        else carried size signed 1 (node.Unary (unary_of op) (typed look operand (sizing look operand).width (sizing look operand).signed))
        )
        ) size signed (λ V. value_in (if holds then kept_sizing op (sizing look operand) else bit_sizing op (sizing look operand)) V size signed)
    by true is steady_too =
        folded-meant signals (kept_sizing op (sizing look operand)) size signed (sized size signed (node.Unary (unary_of op) (typed look operand size signed))) within steady_too
        (unary-meant signals (unary_of op) (typed look operand size signed) size size signed signed (λ V. (sizing look operand).value V size signed) within (keeps-fits op size is) (kept is))
    by false is steady_too =
        folded-meant signals (bit_sizing op (sizing look operand)) size signed
        (carried size signed 1 (node.Unary (unary_of op) (typed look operand (sizing look operand).width (sizing look operand).signed))) within steady_too
        (carried-meant signals (node.Unary (unary_of op) (typed look operand (sizing look operand).width (sizing look operand).signed)) 1 size signed
        (λ V. operator.unary (unary_of op) (sizing look operand).width (own (sizing look operand) V)) within within.least
        (unary-meant signals (unary_of op) (typed look operand (sizing look operand).width (sizing look operand).signed) (sizing look operand).width 1 signed (sizing look operand).signed
        (own (sizing look operand)) one_bit-within (bit-fits op (sizing look operand).width is) (reduced is))
        )

-- two operands of a binary operator
abbrev operands : (signals : List Signal) (look : Look) (left right : Tree) (lw rw : ℕ) (ls rs : Bool) → InContext signals look left lw ls → InContext signals look right rw rs → Operands signals
operands signals look left right lw rw ls rs one other = record {
  left = typed look left lw ls;
  left_width = lw;
  left_signed = ls;
  left_of = λ V. (sizing look left).value V lw ls;
  left_meant = one;
  right = typed look right rw rs;
  right_width = rw;
  right_signed = rs;
  right_of = λ V. (sizing look right).value V rw rs;
  right_meant = other;
}

-- the shape of an operator of two operands, by its class
abbrev pub class_shape : Look → Class → Tree → Tree → ℕ → Bool → Typed
class_shape look (by_context op) left right size signed = sized size signed (node.Binary op (typed look left size signed) (typed look right size signed))
class_shape look (shift op) left right size signed =
    sized size signed (node.Binary op (typed look left size signed) (typed look right (sizing look right).width (sizing look right).signed))
class_shape look (comparison op) left right size signed =
    let w = max (sizing look left).width (sizing look right).width in
    let s = (sizing look left).signed && (sizing look right).signed in
    carried size signed 1 (node.Binary op (typed look left w s) (typed look right w s))
class_shape look (logical op) left right size signed =
    carried size signed 1 (node.Binary op (typed look left (sizing look left).width (sizing look left).signed) (typed look right (sizing look right).width (sizing look right).signed))
class_shape look quotient left right size signed = constant size signed 0
class_shape look remainder left right size signed = constant size signed 0
class_shape look power left right size signed = constant size signed 0

-- what is known of the operands where an operator isn't refused: each is in the context that its class gives it
abbrev pub OperandsStand : List Signal → Look → Class → Tree → Tree → ℕ → Bool → Type 0
OperandsStand signals look (by_context op) left right size signed = InContext signals look left size signed × InContext signals look right size signed
OperandsStand signals look (shift op) left right size signed =
    InContext signals look left size signed × InContext signals look right (sizing look right).width (sizing look right).signed
OperandsStand signals look (comparison op) left right size signed =
    let w = max (sizing look left).width (sizing look right).width in
    let s = (sizing look left).signed && (sizing look right).signed in
    InContext signals look left w s × InContext signals look right w s
OperandsStand signals look (logical op) left right size signed =
    InContext signals look left (sizing look left).width (sizing look left).signed × InContext signals look right (sizing look right).width (sizing look right).signed
OperandsStand signals look quotient left right size signed = (class_sizing quotient (sizing look left) (sizing look right)).constant ≡ true
OperandsStand signals look remainder left right size signed = (class_sizing remainder (sizing look left) (sizing look right)).constant ≡ true
OperandsStand signals look power left right size signed = (class_sizing power (sizing look left) (sizing look right)).constant ≡ true

pub word_of-low : (width : ℕ) (negative : Bool) (distance : ℕ) → word_of width negative distance < 2 ^ width
word_of-low width true distance = mod-lt (2 ^ width - distance % 2 ^ width) (pow_pos width)
word_of-low width false distance = mod-lt distance (pow_pos width)

never : {A : Type 0} {b : Bool} → b ≡ true → b ≡ false → A
never {A} {b} one other = cc

pub class-law : (signals : List Signal) (look : Look) (c : Class) (left right : Tree) (size : ℕ) (signed : Bool) → Fits c → Within size → OperandsStand signals look c left right size signed
    → IsSteady (class_sizing c (sizing look left) (sizing look right))
    → Meant signals (folded (class_sizing c (sizing look left) (sizing look right)) size signed (class_shape look c left right size signed)) size signed
    (λ V. (class_sizing c (sizing look left) (sizing look right)).value V size signed)
class-law signals look (by_context op) left right size signed suits within stand steady =
    folded-meant signals (class_sizing (by_context op) (sizing look left) (sizing look right)) size signed (class_shape look (by_context op) left right size signed) within steady
    (binary-meant signals op size signed (operands signals look left right size size signed signed stand.0 stand.1) within (suits.widths size) (suits.signs signed))
class-law signals look (shift op) left right size signed suits within stand steady =
    let r = sizing look right in
    folded-meant signals (class_sizing (shift op) (sizing look left) r) size signed (class_shape look (shift op) left right size signed) within steady
    (binary-meant signals op size signed (operands signals look left right size r.width signed r.signed stand.0 stand.1) within (suits.widths size r.width) (suits.signs signed r.signed))
class-law signals look (comparison op) left right size signed suits within stand steady =
    let w = max (sizing look left).width (sizing look right).width in
    let s = (sizing look left).signed && (sizing look right).signed in
    let o = operands signals look left right w w s s stand.0 stand.1 in
    folded-meant signals (class_sizing (comparison op) (sizing look left) (sizing look right)) size signed (class_shape look (comparison op) left right size signed) within steady
    (carried-meant signals (node.Binary op (typed look left w s) (typed look right w s)) 1 size signed
    (λ V. operator.binary op w s s ((sizing look left).value V w s) ((sizing look right).value V w s)) within within.least
    (binary-meant signals op 1 signed o one_bit-within (suits.widths w) (suits.signs signed s))
    )
class-law signals look (logical op) left right size signed suits within stand steady =
    let l = sizing look left in
    let r = sizing look right in
    let o = operands signals look left right l.width r.width l.signed r.signed stand.0 stand.1 in
    folded-meant signals (class_sizing (logical op) l r) size signed (class_shape look (logical op) left right size signed) within steady
    (carried-meant signals (node.Binary op (typed look left l.width l.signed) (typed look right r.width r.signed)) 1 size signed
    (λ V. operator.binary op l.width l.signed r.signed (own l V) (own r V)) within within.least
    (binary-meant signals op 1 signed o one_bit-within (suits.widths l.width r.width) (suits.signs signed l.signed r.signed))
    )
class-law signals look quotient left right size signed suits within stand steady =
    folded-by signals (class_sizing quotient (sizing look left) (sizing look right)) size signed (constant size signed 0) within steady
    (word_of-low size _ _) (λ varies. never stand varies)
class-law signals look remainder left right size signed suits within stand steady =
    folded-by signals (class_sizing remainder (sizing look left) (sizing look right)) size signed (constant size signed 0) within steady
    (word_of-low size _ _) (λ varies. never stand varies)
class-law signals look power left right size signed suits within stand steady =
    folded-by signals (class_sizing power (sizing look left) (sizing look right)) size signed (constant size signed 0) within steady
    (mod-lt _ (pow_pos size)) (λ varies. never stand varies)

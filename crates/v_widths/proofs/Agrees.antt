-- When a measured expression is what its definition says: its width and sign by itself, whether it is a constant, and in each
-- context that isn't narrower its fault and its sized expression.
use Rattle.std.proofs.Common.{◌≡◌, ℕ, ◌%◌, ◌^◌, ◌<◌, ◌≤◌, Bool, true, false, ◌&&◌, Option, Some, None, refl, ap, sym, subst, ◌∙◌, arith}
use Rattle.std.specs.Prelude.{if◌then◌else◌, ◌==◌, max, pos, is_some}
use Rattle.std.specs.Option.{option_or}
use Rattle.std.proofs.lemmas.Bool.{eqb-true}
use Rattle.std.proofs.Math.Nat.{mod-eq_of_lt}
use Rattle.loc_base.specs.Bits.{width_of, value_of}
use Rattle.loc_base.specs.Word.{extended}
use Rattle.design_core.specs.declared.expression.Typed.{Typed}
use Rattle.design_core.specs.declared.expression.Node.{Node}
use Rattle.design_core.specs.declared.expression.Node.TheVariants as node
use Rattle.design_core.specs.Constant.{zeros}
use Rattle.design_core.specs.Operator.{integer_of, resized}
use Rattle.v_sizes.specs.declared.error.WidthErr.{WidthErr}
use Rattle.v_sizes.specs.Literal.{limited}
use Rattle.v_sizes.specs.Sizing.{Sizing, own, known}
use Rattle.v_sizes.specs.Sized.{sized, constant, with_width, carried, folded}
use Rattle.v_sizes.specs.Word.{word}
use Rattle.v_sizes.proofs.Meant.{Within, limited-within, resized-wider}
use Rattle.v_sizes.proofs.Law.{extended-below}
use Rattle.v_selects.specs.declared.closed.Closed.{Closed}
use Rattle.v_widths.specs.declared.measured.Measured.{Measured}
use Rattle.v_selects.specs.Folding.{const_number, const_width, number_in}
use Rattle.v_widths.specs.Closing.{closed, closed_with, alone, low}
use Rattle.v_selects.specs.Leaves.{kept}
use Rattle.v_widths.specs.Measuring.{own_measured, number_of}
use Rattle.v_selects.specs.Taken.{taken}
use Rattle.v_widths.proofs.ClosedSteps.{closed_own}

-- ---- both operands, each replaced by what is equal to it
pub and-same : (a b c d : Bool) → a ≡ c → b ≡ d → (a && b) ≡ (c && d)
and-same a b c d one other = ap (λ x. x && b) one ∙ ap (λ x. c && x) other

pub max-same : (a b c d : ℕ) → a ≡ c → b ≡ d → max a b ≡ max c d
max-same a b c d one other = ap (λ x. max x b) one ∙ ap (max c) other

pub or-nothing : (f : Option WidthErr) → option_or f None ≡ f
or-nothing None = refl
or-nothing (Some x) = refl

-- an expression in a context, as its size, its fault and its sized expression say
pub record IsClosed (of : Sizing) (refused : Option WidthErr) (gives : Typed) (size : ℕ) (signed : Bool) (c : Closed) : Type 0 where
  pub of_constant : c.constant ≡ of.constant
  pub fault : c.fault ≡ refused
  pub of_width : c.typed.width ≡ size
  pub of_sign : c.typed.signed ≡ signed
  pub known : of.constant ≡ true → c.typed ≡ constant size signed (of.value zeros size signed)
  pub made : refused ≡ None → c.typed ≡ gives

pub record IsMeasured (of : Sizing) (refused : ℕ → Bool → Option WidthErr) (gives : ℕ → Bool → Typed) (m : Measured) : Type 0 where
  pub width : m.width ≡ of.width
  pub signed : m.signed ≡ of.signed
  pub constant : m.constant ≡ of.constant
  pub within : Within of.width
  pub below : (size : ℕ) (signed : Bool) → Within size → of.width ≤ size → of.constant ≡ true → of.value zeros size signed < 2 ^ size
  pub closes : (size : ℕ) (signed : Bool) → Within size → of.width ≤ size → IsClosed of (refused size signed) (gives size signed) size signed (closed m size signed)

-- the same faults and sized expressions in other words
pub measured-as : {of : Sizing} {refused other : ℕ → Bool → Option WidthErr} {gives as_other : ℕ → Bool → Typed} {m : Measured} → IsMeasured of refused gives m
    → ((size : ℕ) (signed : Bool) → refused size signed ≡ other size signed) → ((size : ℕ) (signed : Bool) → gives size signed ≡ as_other size signed)
    → IsMeasured of other as_other m
measured-as {of} {refused} {other} {gives} {as_other} {m} is faults typeds =
    record {
      width = is.width;
      signed = is.signed;
      constant = is.constant;
      within = is.within;
      below = is.below;
      closes = λ size signed within wide.
          subst (λ f. IsClosed of f (as_other size signed) size signed (closed m size signed)) (faults size signed)
          (subst (λ t. IsClosed of (refused size signed) t size signed (closed m size signed)) (typeds size signed) (is.closes size signed within wide));
    }

pub never : {A : Type 0} → true ≡ false → A
never h = cc

-- ---- constants
pub word-number : (size number : ℕ) → Within size → number < 2 ^ size → value_of (word size number) ≡ number
unfolding word
word-number size number within low = ap (λ w. number % 2 ^ w) (limited-within size within) ∙ mod-eq_of_lt low

pub word-wide : (size number : ℕ) → Within size → width_of (word size number) ≡ size
unfolding word
word-wide size number within = limited-within size within

pub low-constant : (size number : ℕ) (signed : Bool) (t : Typed) → Within size → number < 2 ^ size → t ≡ constant size signed number → low size t ≡ number
low-constant size number signed t within small is =
    ap (low size) is ∙ ap (λ n. n % 2 ^ size) (word-number size number within small) ∙ mod-eq_of_lt small

pub number-constant : (size number : ℕ) (signed : Bool) (t : Typed) → Within size → number < 2 ^ size → t ≡ constant size signed number → number_in t ≡ number
number-constant size number signed t within small is = ap number_in is ∙ word-number size number within small

-- ---- what is a constant where its size says so, else what its parts make
pub folded-closed : (of : Sizing) (refused fault : Option WidthErr) (gives : Typed) (size : ℕ) (signed c : Bool) (known_as made shape : Typed)
    → c ≡ of.constant → fault ≡ refused → (refused ≡ None → gives ≡ folded of size signed shape)
    → (of.constant ≡ true → known_as ≡ constant size signed (of.value zeros size signed))
    → made.width ≡ size → made.signed ≡ signed → (refused ≡ None → of.constant ≡ false → made ≡ shape)
    → IsClosed of refused gives size signed (closed_with (if c then known_as else made) c fault)
folded-closed of refused fault gives size signed c known_as made shape same_constant same_fault is_folded knows width sign makes = by c refl
  where
    folds : (b : Bool) → of.constant ≡ b → refused ≡ None → gives ≡ (if b then constant size signed (of.value zeros size signed) else shape)
    folds b is accepted = is_folded accepted ∙ ap (λ x. if x then constant size signed (of.value zeros size signed) else shape) is

    by : (b : Bool) → c ≡ b → IsClosed of refused gives size signed (closed_with (if b then known_as else made) b fault)
    by true is =
        let holds : of.constant ≡ true = sym same_constant ∙ is in
        record {
          of_constant = sym holds;
          fault = same_fault;
          of_width = ap (λ t. t.width) (knows holds);
          of_sign = ap (λ t. t.signed) (knows holds);
          known = λ h. knows holds;
          made = λ accepted. knows holds ∙ sym (folds true holds accepted);
        }
    by false is =
        let fails : of.constant ≡ false = sym same_constant ∙ is in
        record {
          of_constant = sym fails;
          fault = same_fault;
          of_width = width;
          of_sign = sign;
          known = λ h. never (sym h ∙ fails);
          made = λ accepted. makes accepted fails ∙ sym (folds false fails accepted);
        }

-- ---- what has its width by itself
pub with_width-width : (size : ℕ) (t : Typed) → (with_width size t).width ≡ size
with_width-width size t = by (t.width == size) refl
  where
    width_in : Typed → ℕ
    width_in e = e.width

    by : (b : Bool) → (t.width == size) ≡ b → width_in (if b then t else sized size t.signed (node.Resize t)) ≡ size
    by true is = eqb-true t.width size is
    by false is = refl

pub with_width-sign : (size : ℕ) (t : Typed) → (with_width size t).signed ≡ t.signed
with_width-sign size t = by (t.width == size)
  where
    sign_in : Typed → Bool
    sign_in e = e.signed

    by : (b : Bool) → sign_in (if b then t else sized size t.signed (node.Resize t)) ≡ t.signed
    by true = refl
    by false = refl

-- the word of a constant, carried to the context
pub word-carried : (w size number : ℕ) (signed : Bool) → Within w → w ≤ size → number < 2 ^ w
    → resized size signed (width_of (word w number)) (value_of (word w number)) ≡ extended signed w size number
word-carried w size number signed within wide small =
    ap (λ k. resized size signed k (value_of (word w number))) (word-wide w number within)
    ∙ ap (resized size signed w) (word-number w number within small) ∙ resized-wider signed w size number wide

-- a form that has its width by itself, and one sized expression in it
pub own-law : (of : Sizing) (refused fault : Option WidthErr) (gives : ℕ → Bool → Typed) (w : ℕ) (s c : Bool) (number : ℕ) (n shape : Node)
    → w ≡ of.width → s ≡ of.signed → c ≡ of.constant → Within w → fault ≡ refused
    → (of.constant ≡ true → number < 2 ^ w)
    → ((size : ℕ) (signed : Bool) → of.constant ≡ true → of.value zeros size signed ≡ extended signed w size number)
    → ((size : ℕ) (signed : Bool) → refused ≡ None → gives size signed ≡ folded of size signed (carried size signed w shape))
    → (fault ≡ None → of.constant ≡ false → n ≡ shape)
    → IsMeasured of (λ size signed. refused) gives (own_measured w s c fault number n)
own-law of refused fault gives w s c number n shape same_width same_sign same_constant within same_fault small values typeds makes =
    record {
      width = same_width;
      signed = same_sign;
      constant = same_constant;
      within = subst Within same_width within;
      below = λ size signed wide_enough wide holds.
          subst (λ v. v < 2 ^ size) (sym (values size signed holds))
          (extended-below signed w size number (small holds) (subst (λ k. k ≤ size) (sym same_width) wide));
      closes = λ size signed wide_enough wide.
          subst (IsClosed of refused (gives size signed) size signed) (sym (closed_own w s c (kept c fault w number n) fault size signed))
          (folded-closed of refused fault (gives size signed) size signed c
          (constant size signed (resized size signed (const_width (kept c fault w number n)) (const_number (kept c fault w number n))))
          (carried size signed w (kept c fault w number n)) (carried size signed w shape)
          same_constant same_fault (typeds size signed)
          (λ holds.
          ap (λ b. constant size signed (resized size signed (const_width (kept b fault w number n)) (const_number (kept b fault w number n)))) (same_constant ∙ holds)
          ∙ ap (constant size signed) (word-carried w size number signed within (subst (λ k. k ≤ size) (sym same_width) wide) (small holds) ∙ sym (values size signed holds)))
          (with_width-width size (sized w signed (kept c fault w number n))) (with_width-sign size (sized w signed (kept c fault w number n)))
          (λ accepted fails.
          ap (λ b. carried size signed w (kept b fault w number n)) (same_constant ∙ fails)
          ∙ ap (λ f. carried size signed w (if is_some f then node.Whole 0 else n)) (same_fault ∙ accepted)
          ∙ ap (carried size signed w) (makes (same_fault ∙ accepted) fails))
          );
    }

-- ---- an operand by itself
pub alone-closed : {of : Sizing} {refused : ℕ → Bool → Option WidthErr} {gives : ℕ → Bool → Typed} {m : Measured} → IsMeasured of refused gives m
    → IsClosed of (refused of.width of.signed) (gives of.width of.signed) of.width of.signed (alone m)
alone-closed {of} {refused} {gives} {m} is =
    let same : limited m.width ≡ of.width = ap limited is.width ∙ limited-within of.width is.within in
    subst (λ s. IsClosed of (refused of.width of.signed) (gives of.width of.signed) of.width of.signed (closed m (limited m.width) s)) (sym is.signed)
    (subst (λ w. IsClosed of (refused of.width of.signed) (gives of.width of.signed) of.width of.signed (closed m w of.signed)) (sym same)
    (is.closes of.width of.signed is.within (omega arith)))

-- what a finished operand shows
pub record IsTaken (of : Sizing) (c : Closed) : Type 0 where
  pub width : limited c.typed.width ≡ of.width
  pub signed : c.typed.signed ≡ of.signed
  pub constant : c.constant ≡ of.constant
  pub number : of.constant ≡ true → number_of c ≡ own of zeros
  pub raw : of.constant ≡ true → number_in c.typed ≡ own of zeros
  pub same_known : known (taken c) ≡ known of

pub taken-as : {of : Sizing} {refused : ℕ → Bool → Option WidthErr} {gives : ℕ → Bool → Typed} {m : Measured} → IsMeasured of refused gives m → IsTaken of (alone m)
taken-as {of} {refused} {gives} {m} is =
    let c : Closed = alone m in
    let closes = alone-closed is in
    let width : limited c.typed.width ≡ of.width = ap limited closes.of_width ∙ limited-within of.width is.within in
    let small : of.constant ≡ true → own of zeros < 2 ^ of.width = λ holds. is.below of.width of.signed is.within (omega arith) holds in
    let raw : of.constant ≡ true → number_in c.typed ≡ own of zeros =
    λ holds. number-constant of.width (own of zeros) of.signed c.typed is.within (small holds) (closes.known holds) in
    let number : of.constant ≡ true → number_of c ≡ own of zeros =
    λ holds. ap (λ n. n % 2 ^ limited c.typed.width) (raw holds) ∙ ap (λ w. own of zeros % 2 ^ w) width ∙ mod-eq_of_lt (small holds) in
    record {
      width = width;
      signed = closes.of_sign;
      constant = closes.of_constant;
      number = number;
      raw = raw;
      same_known = knows c width closes.of_sign closes.of_constant number;
    }
  where
    knows : (c : Closed) → limited c.typed.width ≡ of.width → c.typed.signed ≡ of.signed → c.constant ≡ of.constant → (of.constant ≡ true → number_of c ≡ own of zeros)
        → known (taken c) ≡ known of
    knows c width sign same number = ap (λ b. if b then integer_of c.typed.signed (limited c.typed.width) (number_of c) else pos 0) same ∙ by of.constant refl
      where
        by : (b : Bool) → of.constant ≡ b
            → (if b then integer_of c.typed.signed (limited c.typed.width) (number_of c) else pos 0) ≡ (if b then integer_of of.signed of.width (own of zeros) else pos 0)
        by true is =
            ap (λ s. integer_of s (limited c.typed.width) (number_of c)) sign ∙ ap (λ w. integer_of of.signed w (number_of c)) width
            ∙ ap (integer_of of.signed of.width) (number is)
        by false is = refl

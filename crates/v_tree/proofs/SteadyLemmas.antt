-- Reading looks no farther than the token behind what it found, or at the one that it names.
use Rattle.std.proofs.Common.{◌≡◌, ◌≢◌, ℕ, zero, suc, ◌+◌, ◌-◌, ◌<◌, ◌≤◌, inl, inr, Bool, true, false, if◌then◌else◌, List, length, Some, None, Option, Ok, Err, sym, ap, ap₂, ◌∙◌, subst, refl, arith, nat_lt, ltb-true, ltb-false, le-ltb, ◌==◌, eqb-true, eq-eqb, lit≤}
use Rattle.std.proofs.lemmas.Bool.{cases_lt}
use Rattle.loc_base.proofs.ShelfOptions.{Some-same}
use Rattle.v_lexer.specs.Lexeme.{Lexeme}
use Rattle.v_lexer.specs.declared.types.terminal.Terminal.{Terminal}
use Rattle.v_lexer.specs.declared.types.terminal.Terminal.TheVariants as marks
use Rattle.v_tree.specs.declared.fault.Fault.{Fault}
use Rattle.v_tree.specs.declared.fault.Fault.TheVariants.{Unexpected, Unsupported, Deep}
use Rattle.v_syntax.specs.declared.operator.Unary.{Unary}
use Rattle.v_syntax.specs.declared.operator.Binary.{Binary}
use Rattle.v_syntax.specs.declared.operator.SystemFunction.{SystemFunction}
use Rattle.v_syntax.specs.declared.expression.PartKind.{PartKind}
use Rattle.v_tree.specs.Marks.{mark_at, mark_in, same}
use Rattle.v_tree.specs.Sites.{site, text_at, text_in, span_at, span_in, line_at, line_in}
use Rattle.v_tree.specs.Operators.{unary_of, binary_of, strength, system_of, part_of}
use Rattle.v_syntax.specs.Tree.{Tree, number, name, parens, concat, repeat, system, unary, binary, conditional, Trees, no_tree, tree, bit, part, no_select, select}
use Rattle.v_tree.specs.Depth.{levels}
use Rattle.v_tree.specs.Faults.{no_place, fault_of_mark, fault_place, is_unsupported, is_deep, Begins, told_by}
use Rattle.v_tree.specs.Reading.{Read, Reader, Readers, readers, below, operand_with, signed_at, called_at, plain_at, whole_with, shut, ◌>>=◌, lower, above, expect, chain, chain_step, climb, more_parts, parts_from, selects_at, select_at, behind_at, close_bit, close_part, name_at, parens_at, close_parens, braces_at, repeat_at, concat_at, close_repeat, close_concat, system_at, close_system, unary_at, question_at}
use Rattle.v_tree.proofs.MarkLemmas.{same_true, same_of}
use Rattle.v_tree.proofs.BindLemmas.{good, bad, bad_good, true_false}
use Rattle.v_tree.proofs.PlaceLemmas.{binary_inside, marked_inside, past_nothing, unary_inside, system_inside, part_inside}
use Rattle.v_tree.proofs.StepLemmas.{whole_over, operand_over, below_less, strength_most, chain_more, more_parts_more}
use Rattle.v_tree.proofs.SoundLemmas.{none_some, not_mark, forward, sound_readers, climb-sound, SoundOperands}
use Rattle.v_tree.proofs.CompleteLemmas.{chain-stops, is_false, then_of, else_of}

-- a word that is left out is named so, and a limit is passed only behind so many tokens
pub record Fair (t : List Lexeme) (base : ℕ) (f : Fault) : Type 0 where
  pub refused : mark_at t (fault_place f) ≡ marks.Refused → is_unsupported f ≡ true
  pub deep : is_deep f ≡ true → base + 256 ≤ fault_place f

-- the last token that tells of what was read
abbrev pub reach : {A : Type 0} → List Lexeme → Read A → ℕ
reach t (Ok x) = x.1
reach t (Err f) = told_by t (fault_place f)

abbrev pub Ahead : {A : Type 0} → List Lexeme → ℕ → ℕ → Read A → Type 0
Ahead t base a (Ok x) = (a ≤ x.1) × (x.1 ≤ length t)
Ahead t base a (Err f) = (a ≤ fault_place f) × (fault_place f ≤ length t) × Fair t base f

-- what is read from a on in t, and in others that begin as t does
pub record Steady {A : Type 0} (base : ℕ) (t u : List Lexeme) (a : ℕ) (o p : Read A) : Type 0 where
  pub ahead : Ahead t base a o
  pub same_read : Begins t u (reach t o) → p ≡ o

pick_le : (b : Bool) (n : ℕ) → n ≤ (if b then n + 1 else n)
pick_le true n = omega arith
pick_le false n = omega arith

pub told_more : (t : List Lexeme) (n : ℕ) → n ≤ told_by t n
told_more t n = pick_le (same (mark_at t n) marks.Wild) n

pub reach_more : {A : Type 0} (t : List Lexeme) (base a : ℕ) (o : Read A) → Ahead t base a o → a ≤ reach t o
reach_more t base a (Ok x) h = h.0
reach_more t base a (Err f) h = let k = told_more t (fault_place f) in omega (arith, h.0, k)

pub begins_less : (t u : List Lexeme) (m n : ℕ) → m ≤ n → Begins t u n → Begins t u m
begins_less t u m n h b i k = b i (omega (arith, h, k))

pub mark_kept : (t u : List Lexeme) (n i : ℕ) → Begins t u n → i ≤ n → mark_at u i ≡ mark_at t i
unfolding mark_at
mark_kept t u n i b h = ap mark_in (b i h)

pub text_kept : (t u : List Lexeme) (n i : ℕ) → Begins t u n → i ≤ n → text_at u i ≡ text_at t i
unfolding text_at
text_kept t u n i b h = ap text_in (b i h)

b_span : (t u : List Lexeme) (n i : ℕ) → Begins t u n → i ≤ n → span_at u i ≡ span_at t i
unfolding span_at
b_span t u n i b h = ap span_in (b i h)

pub site_kept : (t u : List Lexeme) (n a b : ℕ) → Begins t u n → a ≤ n → b ≤ n → site u a b ≡ site t a b
unfolding site span_at line_at
site_kept t u n a b h k l =
    let first = b_span t u n a h k in
    let last = b_span t u n (b - 1) h (omega (arith, l)) in
    let line : line_at u a ≡ line_at t a = ap line_in (h a k) in
    cc

pub ahead_from : {A : Type 0} (t : List Lexeme) (base a b : ℕ) (o : Read A) → a ≤ b → Ahead t base b o → Ahead t base a o
ahead_from t base a b (Ok x) h k = (omega (arith, h, k.0), k.1)
ahead_from t base a b (Err f) h k = (omega (arith, h, k.0), k.1, k.2)

pub from_before : {A : Type 0} (base : ℕ) (t u : List Lexeme) (a b : ℕ) (o p : Read A) → a ≤ b → Steady base t u b o p → Steady base t u a o p
from_before base t u a b o p h s = record { ahead = ahead_from t base a b o h s.ahead; same_read = s.same_read }

pub st_bind : {A B : Type 0} (base : ℕ) (t u : List Lexeme) (a : ℕ) (o p : Read A) (f g : A × ℕ → Read B) → Steady base t u a o p
    → ((x : A × ℕ) → a ≤ x.1 → x.1 ≤ length t → o ≡ good x → Steady base t u x.1 (f x) (g x)) → Steady base t u a (o >>= f) (p >>= g)
st_bind base t u a (Err e) p f g s h = record { ahead = s.ahead; same_read = λ b. ap (λ q. q >>= g) (s.same_read b) }
st_bind base t u a (Ok x) p f g s h =
    let r = h x s.ahead.0 s.ahead.1 refl in
    record {
      ahead = ahead_from t base a x.1 (f x) s.ahead.0 r.ahead;
      same_read = λ b. ap (λ q. q >>= g) (s.same_read (begins_less t u x.1 _ (reach_more t base x.1 (f x) r.ahead) b)) ∙ r.same_read b;
    }

pub st_ok : {A : Type 0} (base : ℕ) (t u : List Lexeme) (a b : ℕ) (x y : A) → a ≤ b → b ≤ length t → (Begins t u b → y ≡ x) → Steady base t u a (good (x, b)) (good (y, b))
st_ok {A} base t u a b x y h k e = record { ahead = (h, k); same_read = λ g. ap (λ v. good {A = A × ℕ} (v, b)) (e g) }

placed_if : (b c : Bool) (a : ℕ) → fault_place (if b then Unsupported a else if c then Unsupported a else Unexpected a) ≡ a
placed_if true c a = refl
placed_if false true a = refl
placed_if false false a = refl

placed : (m : Terminal) (a : ℕ) → fault_place (fault_of_mark m a) ≡ a
placed m a = placed_if (same m marks.Refused) (same m marks.Wild) a

fair_refused : (m : Terminal) (a : ℕ) → m ≡ marks.Refused → is_unsupported (fault_of_mark m a) ≡ true
fair_refused m a e = ap (λ k. is_unsupported (fault_of_mark k a)) e

not_deep_if : (b c : Bool) (a : ℕ) → is_deep (if b then Unsupported a else if c then Unsupported a else Unexpected a) ≡ true → ⊥
not_deep_if true c a e = true_false (sym e)
not_deep_if false true a e = true_false (sym e)
not_deep_if false false a e = true_false (sym e)

not_deep : (m : Terminal) (a : ℕ) → is_deep (fault_of_mark m a) ≡ true → ⊥
not_deep m a e = not_deep_if (same m marks.Refused) (same m marks.Wild) a e

pub fair_place : (t : List Lexeme) (base a : ℕ) → Fair t base (no_place t a)
unfolding no_place
fair_place t base a = record {
  refused = λ h. fair_refused (mark_at t a) a (ap (mark_at t) (sym (placed (mark_at t a) a)) ∙ h);
  deep = λ h. absurd (not_deep (mark_at t a) a h);
}

pub st_no_place : {A : Type 0} (base : ℕ) (t u : List Lexeme) (a : ℕ) → a ≤ length t → Steady {A = A} base t u a (bad (no_place t a)) (bad (no_place u a))
unfolding no_place
st_no_place base t u a h =
    let at : fault_place (no_place t a) ≡ a = placed (mark_at t a) a in
    record {
      ahead = (omega (arith, at), omega (arith, at, h), fair_place t base a);
      same_read = λ b. ap (λ m. bad (fault_of_mark m a)) (mark_kept t u _ a b (let k = told_more t (fault_place (no_place t a)) in omega (arith, k, at)));
    }

-- a choice by the token at a
pub st_look : {A : Type 0} (base : ℕ) (t u : List Lexeme) (a : ℕ) (f g : Terminal → Read A) → ((m : Terminal) → mark_at t a ≡ m → Steady base t u a (f m) (g m))
    → Steady base t u a (f (mark_at t a)) (g (mark_at u a))
st_look base t u a f g h =
    let s = h (mark_at t a) refl in
    record { ahead = s.ahead; same_read = λ b. ap g (mark_kept t u _ a b (reach_more t base a (f (mark_at t a)) s.ahead)) ∙ s.same_read b }

pub st_if : {A : Type 0} (base : ℕ) (t u : List Lexeme) (a : ℕ) (b : Bool) (o p q r : Read A) → (b ≡ true → Steady base t u a o q) → (b ≡ false → Steady base t u a p r)
    → Steady base t u a (if b then o else p) (if b then q else r)
st_if base t u a true o p q r h k = h refl
st_if base t u a false o p q r h k = k refl

expect_case : {B : Type 0} (base : ℕ) (t u : List Lexeme) (m : Terminal) (a : ℕ) (f g : ℕ → Read B) → m ≢ marks.Nothing → a ≤ length t
    → (mark_at t a ≡ m → a + 1 ≤ length t → Steady base t u (a + 1) (f (a + 1)) (g (a + 1))) → (n : Terminal) → mark_at t a ≡ n → (b : Bool) → same n m ≡ b
    → Steady base t u a ((if b then Ok (a + 1) else Err (no_place t a)) >>= f) ((if b then Ok (a + 1) else Err (no_place u a)) >>= g)
expect_case base t u m a f g some h k n is true e =
    let found : mark_at t a ≡ m = is ∙ same_true n m e in
    let inside = marked_inside t a (λ gone. some (sym found ∙ gone)) in
    from_before base t u a (a + 1) (f (a + 1)) (g (a + 1)) (omega arith) (k found (omega (arith, inside)))
expect_case base t u m a f g some h k n is false e = st_no_place base t u a h

-- a step that takes a token of that mark
pub st_expect : {B : Type 0} (base : ℕ) (t u : List Lexeme) (m : Terminal) (a : ℕ) (f g : ℕ → Read B) → m ≢ marks.Nothing → a ≤ length t
    → (mark_at t a ≡ m → a + 1 ≤ length t → Steady base t u (a + 1) (f (a + 1)) (g (a + 1))) → Steady base t u a (expect t m a >>= f) (expect u m a >>= g)
unfolding expect
st_expect base t u m a f g some h k =
    st_look base t u a (λ n. (if same n m then Ok (a + 1) else Err (no_place t a)) >>= f) (λ n. (if same n m then Ok (a + 1) else Err (no_place u a)) >>= g)
    (λ n is. expect_case base t u m a f g some h k n is (same n m) refl)

lower_case : {B : Type 0} (base : ℕ) (t u : List Lexeme) (d a : ℕ) (f g : ℕ → Read B) → a ≤ length t → mark_at t a ≢ marks.Refused → base + 256 ≤ a + d
    → (d ≢ 0 → Steady base t u a (f (d - 1)) (g (d - 1))) → (b : Bool) → (d == 0) ≡ b
    → Steady base t u a ((if b then Err (Deep a) else Ok (d - 1)) >>= f) ((if b then Err (Deep a) else Ok (d - 1)) >>= g)
lower_case base t u d a f g h allowed levels_left k true e =
    let zero_left = eqb-true _ _ e in
    record { ahead = (omega arith, h, record { refused = λ is. absurd (allowed is); deep = λ _. omega (arith, zero_left, levels_left) }); same_read = λ b. refl }
lower_case base t u d a f g h allowed levels_left k false e = k (λ z. true_false (sym (eq-eqb d 0 z) ∙ e))

-- one more construct opens at a
pub st_lower : {B : Type 0} (base : ℕ) (t u : List Lexeme) (d a : ℕ) (f g : ℕ → Read B) → a ≤ length t → mark_at t a ≢ marks.Refused → base + 256 ≤ a + d
    → (d ≢ 0 → Steady base t u a (f (d - 1)) (g (d - 1))) → Steady base t u a (lower d a >>= f) (lower d a >>= g)
st_lower base t u d a f g h allowed levels_left k = lower_case base t u d a f g h allowed levels_left k (d == 0) refl

above_case : {B : Type 0} (base : ℕ) (t u : List Lexeme) (levels_left used a : ℕ) (f g : ℕ → Read B) → a ≤ length t → mark_at t a ≢ marks.Refused → (levels_left ≤ used → base + 256 ≤ a)
    → (used < levels_left → Steady base t u a (f (levels_left - 1)) (g (levels_left - 1))) → (b : Bool) → nat_lt used levels_left ≡ b
    → Steady base t u a ((if b then Ok (levels_left - 1) else Err (Deep a)) >>= f) ((if b then Ok (levels_left - 1) else Err (Deep a)) >>= g)
above_case base t u levels_left used a f g h allowed far k true e = k (ltb-true _ _ e)
above_case base t u levels_left used a f g h allowed far k false e =
    record { ahead = (omega arith, h, record { refused = λ is. absurd (allowed is); deep = λ _. far (ltb-false _ _ e) }); same_read = λ b. refl }

-- one more level stands above a tree of so many
st_above : {B : Type 0} (base : ℕ) (t u : List Lexeme) (levels_left used a : ℕ) (f g : ℕ → Read B) → a ≤ length t → mark_at t a ≢ marks.Refused → (levels_left ≤ used → base + 256 ≤ a)
    → (used < levels_left → Steady base t u a (f (levels_left - 1)) (g (levels_left - 1))) → Steady base t u a (above levels_left used a >>= f) (above levels_left used a >>= g)
st_above base t u levels_left used a f g h allowed far k = above_case base t u levels_left used a f g h allowed far k (nat_lt used levels_left) refl

pub not_by : (m n : Terminal) → same m n ≡ false → m ≢ n
not_by m n e h = true_false (sym (same_of m n h) ∙ e)

pub allowed_by : (t : List Lexeme) (a : ℕ) (m : Terminal) → mark_at t a ≡ m → same m marks.Refused ≡ false → mark_at t a ≢ marks.Refused
allowed_by t a m is e h = not_by m marks.Refused e (sym is ∙ h)

abbrev pub SteadyReader : ℕ → List Lexeme → List Lexeme → ℕ → Reader → Reader → Type 0
SteadyReader base t u d r s = (levels_left a : ℕ) → a ≤ length t → base + 256 ≤ a + d → base + 4096 ≤ a + levels_left → Steady base t u a (r levels_left a) (s levels_left a)

abbrev pub SteadyUnder : ℕ → List Lexeme → List Lexeme → ℕ → Reader → Reader → Type 0
SteadyUnder base t u d r s = (n : ℕ) → n + 1 ≡ d → SteadyReader base t u n r s

-- what is read behind the token at a
inner_steady : (base : ℕ) (t u : List Lexeme) (n : ℕ) (r s : Reader) → SteadyReader base t u n r s → (levels_left a c : ℕ) → a < c → c ≤ length t → base + 256 ≤ c + n → base + 4096 ≤ c + levels_left
    → Steady base t u a (r levels_left c) (s levels_left c)
inner_steady base t u n r s under levels_left a c h k deep far = from_before base t u a c (r levels_left c) (s levels_left c) (omega (arith, h)) (under levels_left c k deep far)

st_parens : (base : ℕ) (t u : List Lexeme) (d : ℕ) (r s : Reader) → SteadyUnder base t u d r s → (levels_left a : ℕ) → a < length t → mark_at t a ≡ marks.Open → base + 256 ≤ a + d → base + 4096 ≤ a + levels_left
    → Steady base t u a (parens_at t d r levels_left a) (parens_at u d s levels_left a)
unfolding parens_at close_parens
st_parens base t u d r s under levels_left a h m deep far =
    st_lower base t u d a _ _ (omega (arith, h)) (allowed_by t a marks.Open m refl) deep (λ some.
    st_bind base t u a (r levels_left (a + 1)) (s levels_left (a + 1)) _ _
    (inner_steady base t u (d - 1) r s (under (d - 1) (omega (arith, some))) levels_left a (a + 1) (omega arith) (omega (arith, h)) (omega (arith, deep, some)) (omega (arith, far))) (λ x ge le eq.
    st_expect base t u marks.Close x.1 _ _ (not_by marks.Close marks.Nothing refl) le (λ mark inside.
    st_ok base t u (x.1 + 1) (x.1 + 1) _ _ (omega arith) inside (λ b. ap (λ z. parens z x.0) (site_kept t u _ a (x.1 + 1) b (omega (arith, ge)) (omega arith))))))

st_system : (base : ℕ) (t u : List Lexeme) (d : ℕ) (r s : Reader) → SteadyUnder base t u d r s → (f : SystemFunction) (levels_left a : ℕ) → system_of (mark_at t a) ≡ Some f → base + 256 ≤ a + d → base + 4096 ≤ a + levels_left
    → Steady base t u a (system_at t d r f levels_left a) (system_at u d s f levels_left a)
unfolding system_at close_system
st_system base t u d r s under f levels_left a m deep far =
    let h = system_inside t a f m in
    let allowed : mark_at t a ≢ marks.Refused = λ gone. none_some f (sym (ap system_of gone) ∙ m) in
    st_lower base t u d a _ _ (omega (arith, h)) allowed deep (λ some.
    st_lower base t u levels_left a _ _ (omega (arith, h)) allowed (omega (arith, far)) (λ much.
    from_before base t u a (a + 1) _ _ (omega arith) (st_expect base t u marks.Open (a + 1) _ _ (not_by marks.Open marks.Nothing refl) (omega (arith, h)) (λ opens within.
    st_bind base t u (a + 1 + 1) (r (levels_left - 1) (a + 1 + 1)) (s (levels_left - 1) (a + 1 + 1)) _ _
    (under (d - 1) (omega (arith, some)) (levels_left - 1) (a + 1 + 1) within (omega (arith, deep, some)) (omega (arith, far, much))) (λ x ge le eq.
    st_expect base t u marks.Close x.1 _ _ (not_by marks.Close marks.Nothing refl) le (λ mark inside.
    st_ok base t u (x.1 + 1) (x.1 + 1) _ _ (omega arith) inside (λ b. ap (λ z. system z f x.0) (site_kept t u _ a (x.1 + 1) b (omega (arith, ge)) (omega arith)))))))))

st_unary : (base : ℕ) (t u : List Lexeme) (d : ℕ) (r s : Reader) → SteadyUnder base t u d r s → (o : Unary) (levels_left a : ℕ) → unary_of (mark_at t a) ≡ Some o → base + 256 ≤ a + d → base + 4096 ≤ a + levels_left
    → Steady base t u a (unary_at t d r o levels_left a) (unary_at u d s o levels_left a)
unfolding unary_at
st_unary base t u d r s under o levels_left a m deep far =
    let h = unary_inside t a o m in
    let allowed : mark_at t a ≢ marks.Refused = λ gone. none_some o (sym (ap unary_of gone) ∙ m) in
    st_lower base t u d a _ _ (omega (arith, h)) allowed deep (λ some.
    st_lower base t u levels_left a _ _ (omega (arith, h)) allowed (omega (arith, far)) (λ much.
    st_bind base t u a (r (levels_left - 1) (a + 1)) (s (levels_left - 1) (a + 1)) _ _
    (inner_steady base t u (d - 1) r s (under (d - 1) (omega (arith, some))) (levels_left - 1) a (a + 1) (omega arith) (omega (arith, h)) (omega (arith, deep, some)) (omega (arith, far, much))) (λ x ge le eq.
    st_ok base t u x.1 x.1 _ _ (omega arith) le (λ b. ap (λ z. unary z o x.0) (site_kept t u _ a x.1 b ge (omega arith))))))

-- where the list of parts ends in t, it ends in the others
more_ends : (t : List Lexeme) (w : Reader) (levels_left n a : ℕ) → mark_at t a ≢ marks.Comma → more_parts t w levels_left n a ≡ Ok (no_tree, a)
unfolding more_parts
more_ends t w levels_left zero a h = refl
more_ends t w levels_left (suc n) a h = else_of _ _ _ _ (is_false _ (λ e. h (same_true _ _ e))) refl

-- a reader takes more tokens than what it finds has levels
abbrev pub Moves : Reader → Type 0
Moves r = (levels_left a : ℕ) (x : Tree × ℕ) → r levels_left a ≡ good x → levels x.0 + a < x.1

abbrev MoreClaim : ℕ → List Lexeme → List Lexeme → ℕ → Reader → Reader → ℕ → ℕ → Type 0
MoreClaim base t u d r s levels_left n = (k a : ℕ) → length t ≤ n + a → length u ≤ k + a → a ≤ length t
    → base + 256 ≤ a + d → base + 4096 ≤ a + levels_left → Steady base t u a (more_parts t r levels_left n a) (more_parts u s levels_left k a)

more_read : (t : List Lexeme) (w : Reader) (levels_left n a : ℕ) → n ≢ 0 → mark_at t a ≡ marks.Comma
    → more_parts t w levels_left n a ≡ (w levels_left (a + 1) >>= λ x. more_parts t w levels_left (n - 1) x.1 >>= λ xs. Ok (tree x.0 xs.0, xs.1))
more_read t w levels_left n a some comma = more_parts_more t w levels_left n a some ∙ then_of _ _ _ _ (same_of _ _ comma) refl

more_case : (base : ℕ) (t u : List Lexeme) (d : ℕ) (r s : Reader) → SteadyReader base t u d r s → Moves r → (levels_left n k a : ℕ) → length t ≤ suc n + a → length u ≤ k + a → a ≤ length t
    → base + 256 ≤ a + d → base + 4096 ≤ a + levels_left → MoreClaim base t u d r s levels_left n → (b : Bool) → same (mark_at t a) marks.Comma ≡ b
    → Steady base t u a (more_parts t r levels_left (suc n) a) (more_parts u s levels_left k a)
more_case base t u d r s under moves levels_left n k a enough also h deep far again false e =
    let gone : mark_at t a ≢ marks.Comma = not_mark _ _ e in
    rw (more_ends t r levels_left (suc n) a gone) record {
      ahead = (omega arith, h);
      same_read = λ b. more_ends u s levels_left k a (λ g. gone (sym (mark_kept t u a a b (omega arith)) ∙ g));
    }
more_case base t u d r s under moves levels_left n k a enough also h deep far again true e =
    let comma : mark_at t a ≡ marks.Comma = same_true _ _ e in
    let inside = marked_inside t a (λ gone. not_by marks.Comma marks.Nothing refl (sym comma ∙ gone)) in
    let less : suc n - 1 ≡ n = omega arith in
    let o : Read Trees = r levels_left (a + 1) >>= λ x. more_parts t r levels_left n x.1 >>= λ xs. Ok (tree x.0 xs.0, xs.1) in
    let p : Read Trees = s levels_left (a + 1) >>= λ x. more_parts u s levels_left (k - 1) x.1 >>= λ xs. Ok (tree x.0 xs.0, xs.1) in
    let turn : Steady base t u a o p =
    st_bind base t u a (r levels_left (a + 1)) (s levels_left (a + 1)) _ _ (inner_steady base t u d r s under levels_left a (a + 1) (omega arith) (omega (arith, inside)) (omega (arith, deep)) (omega (arith, far))) (λ x ge le eq.
    let past = moves levels_left (a + 1) x eq in
    st_bind base t u x.1 (more_parts t r levels_left n x.1) (more_parts u s levels_left (k - 1) x.1) _ _
    (again (k - 1) x.1 (omega (arith, enough, past)) (omega (arith, also, past)) le (omega (arith, deep, ge)) (omega (arith, far, ge))) (λ xs more most same_xs.
    st_ok base t u xs.1 xs.1 _ _ (omega arith) most (λ b. refl))) in
    let mine : more_parts t r levels_left (suc n) a ≡ o = more_read t r levels_left (suc n) a (omega arith) comma ∙ ap (λ v. r levels_left (a + 1) >>= λ x. more_parts t r levels_left v x.1 >>= λ xs. Ok (tree x.0 xs.0, xs.1)) less in
    rw mine record {
      ahead = turn.ahead;
      same_read = λ b.
          let there : mark_at u a ≡ marks.Comma = mark_kept t u _ a b (reach_more t base a o turn.ahead) ∙ comma in
          let here = marked_inside u a (λ gone. not_by marks.Comma marks.Nothing refl (sym there ∙ gone)) in
          more_read u s levels_left k a (omega (arith, here, also)) there ∙ turn.same_read b;
    }

st_more : (base : ℕ) (t u : List Lexeme) (d : ℕ) (r s : Reader) → SteadyReader base t u d r s → Moves r → (levels_left n : ℕ) → MoreClaim base t u d r s levels_left n
st_more base t u d r s under moves levels_left zero k a enough also h deep far =
    let gone : mark_at t a ≢ marks.Comma = λ e. not_by marks.Comma marks.Nothing refl (sym e ∙ past_nothing t a (omega (arith, enough))) in
    rw (more_ends t r levels_left zero a gone) record {
      ahead = (omega arith, h);
      same_read = λ b. more_ends u s levels_left k a (λ e. gone (sym (mark_kept t u a a b (omega arith)) ∙ e));
    }
st_more base t u d r s under moves levels_left (suc n) k a enough also h deep far = more_case base t u d r s under moves levels_left n k a enough also h deep far (st_more base t u d r s under moves levels_left n) (same (mark_at t a) marks.Comma) refl

st_parts : (base : ℕ) (t u : List Lexeme) (d : ℕ) (r s : Reader) → SteadyReader base t u d r s → Moves r → (levels_left : ℕ) (first : Tree) (m : ℕ) → m ≤ length t → base + 256 ≤ m + d → base + 4096 ≤ m + levels_left
    → Steady base t u m (parts_from t r levels_left first m) (parts_from u s levels_left first m)
unfolding parts_from
st_parts base t u d r s under moves levels_left first m h deep far =
    st_bind base t u m (more_parts t r levels_left (length t) m) (more_parts u s levels_left (length u) m) _ _
    (st_more base t u d r s under moves levels_left (length t) (length u) m (omega arith) (omega arith) h deep far)
    (λ xs ge le eq. st_ok base t u xs.1 xs.1 _ _ (omega arith) le (λ b. refl))

st_braces : (base : ℕ) (t u : List Lexeme) (d : ℕ) (r s : Reader) → SteadyUnder base t u d r s → Moves r → (levels_left a : ℕ) → a < length t → mark_at t a ≡ marks.OpenBrace → base + 256 ≤ a + d → base + 4096 ≤ a + levels_left
    → Steady base t u a (braces_at t d r levels_left a) (braces_at u d s levels_left a)
unfolding braces_at repeat_at concat_at close_repeat close_concat
st_braces base t u d r s under moves levels_left a h m deep far =
    let allowed = allowed_by t a marks.OpenBrace m refl in
    let brace = not_by marks.CloseBrace marks.Nothing refl in
    st_lower base t u d a _ _ (omega (arith, h)) allowed deep (λ some.
    st_lower base t u levels_left a _ _ (omega (arith, h)) allowed (omega (arith, far)) (λ much.
    let inner = under (d - 1) (omega (arith, some)) in
    st_bind base t u a (r (levels_left - 1) (a + 1)) (s (levels_left - 1) (a + 1)) _ _
    (inner_steady base t u (d - 1) r s inner (levels_left - 1) a (a + 1) (omega arith) (omega (arith, h)) (omega (arith, deep, some)) (omega (arith, far, much))) (λ x ge le eq.
    let past = moves (levels_left - 1) (a + 1) x eq in
    st_look base t u x.1
    (λ k. if same k marks.OpenBrace then repeat_at t r (levels_left - 1) a x.0 x.1 else concat_at t r (levels_left - 1) a x.0 x.1)
    (λ k. if same k marks.OpenBrace then repeat_at u s (levels_left - 1) a x.0 x.1 else concat_at u s (levels_left - 1) a x.0 x.1) (λ k is.
    st_if base t u x.1 (same k marks.OpenBrace) _ _ _ _
    (λ yes.
    let opened : mark_at t x.1 ≡ marks.OpenBrace = is ∙ same_true _ _ yes in
    let inside = marked_inside t x.1 (λ gone. not_by marks.OpenBrace marks.Nothing refl (sym opened ∙ gone)) in
    st_bind base t u x.1 (r (levels_left - 1) (x.1 + 1)) (s (levels_left - 1) (x.1 + 1)) _ _
    (inner_steady base t u (d - 1) r s inner (levels_left - 1) x.1 (x.1 + 1) (omega arith) (omega (arith, inside)) (omega (arith, deep, some, ge)) (omega (arith, far, much, ge))) (λ y gey ley eqy.
    st_bind base t u y.1 (parts_from t r (levels_left - 1) y.0 y.1) (parts_from u s (levels_left - 1) y.0 y.1) _ _
    (st_parts base t u (d - 1) r s inner moves (levels_left - 1) y.0 y.1 ley (omega (arith, deep, some, ge, gey, past)) (omega (arith, far, much, ge, gey, past))) (λ xs gex lex eqx.
    st_expect base t u marks.CloseBrace xs.1 _ _ brace lex (λ one in_one.
    st_expect base t u marks.CloseBrace (xs.1 + 1) _ _ brace in_one (λ two in_two.
    st_ok base t u (xs.1 + 1 + 1) (xs.1 + 1 + 1) _ _ (omega arith) in_two
    (λ b. ap (λ z. repeat z x.0 xs.0) (site_kept t u _ a (xs.1 + 1 + 1) b (omega (arith, ge, gey, gex)) (omega arith))))))))
    (λ no_brace.
    st_bind base t u x.1 (parts_from t r (levels_left - 1) x.0 x.1) (parts_from u s (levels_left - 1) x.0 x.1) _ _
    (st_parts base t u (d - 1) r s inner moves (levels_left - 1) x.0 x.1 le (omega (arith, deep, some, past)) (omega (arith, far, much, past))) (λ xs gex lex eqx.
    st_expect base t u marks.CloseBrace xs.1 _ _ brace lex (λ one in_one.
    st_ok base t u (xs.1 + 1) (xs.1 + 1) _ _ (omega arith) in_one (λ b. ap (λ z. concat z xs.0) (site_kept t u _ a (xs.1 + 1) b (omega (arith, ge, gex)) (omega arith))))))))))

st_behind : (base : ℕ) (t u : List Lexeme) (n : ℕ) (r s : Reader) → SteadyReader base t u n r s → (less a : ℕ) (left : Tree) (m : ℕ) → a ≤ m → m ≤ length t → base + 256 ≤ m + n → base + 4096 ≤ m + less
    → (k : Option PartKind) → part_of (mark_at t m) ≡ k → Steady base t u m (behind_at t r less a left m k) (behind_at u s less a left m k)
unfolding close_bit close_part
st_behind base t u n r s under less a left m before h deep far None is =
    st_expect base t u marks.CloseBracket m _ _ (not_by marks.CloseBracket marks.Nothing refl) h (λ one inside.
    st_ok base t u (m + 1) (m + 1) _ _ (omega arith) inside (λ b. ap (λ z. bit z left) (site_kept t u _ a (m + 1) b (omega (arith, before)) (omega arith))))
st_behind base t u n r s under less a left m before h deep far (Some kind) is =
    let inside = part_inside t m kind is in
    st_bind base t u m (r less (m + 1)) (s less (m + 1)) _ _ (inner_steady base t u n r s under less m (m + 1) (omega arith) (omega (arith, inside)) (omega (arith, deep)) (omega (arith, far))) (λ y ge le eq.
    st_expect base t u marks.CloseBracket y.1 _ _ (not_by marks.CloseBracket marks.Nothing refl) le (λ one in_one.
    st_ok base t u (y.1 + 1) (y.1 + 1) _ _ (omega arith) in_one (λ b. ap (λ z. part z kind left y.0) (site_kept t u _ a (y.1 + 1) b (omega (arith, before, ge)) (omega arith)))))

pub st_select : (base : ℕ) (t u : List Lexeme) (d : ℕ) (r s : Reader) → SteadyUnder base t u d r s → Moves r → (levels_left a : ℕ) → a < length t → mark_at t a ≡ marks.OpenBracket → base + 256 ≤ a + d → base + 4096 ≤ a + levels_left
    → Steady base t u a (select_at t d r levels_left a) (select_at u d s levels_left a)
unfolding select_at
st_select base t u d r s under moves levels_left a h m deep far =
    let allowed = allowed_by t a marks.OpenBracket m refl in
    st_lower base t u d a _ _ (omega (arith, h)) allowed deep (λ some.
    st_lower base t u levels_left a _ _ (omega (arith, h)) allowed (omega (arith, far)) (λ much.
    let inner = under (d - 1) (omega (arith, some)) in
    st_bind base t u (a) (r (levels_left - 1) (a + 1)) (s (levels_left - 1) (a + 1)) _ _
    (inner_steady base t u (d - 1) r s inner (levels_left - 1) a (a + 1) (omega arith) (omega (arith, h)) (omega (arith, deep, some)) (omega (arith, far, much))) (λ x ge le eq.
    st_look base t u x.1 (λ k. behind_at t r (levels_left - 1) a x.0 x.1 (part_of k)) (λ k. behind_at u s (levels_left - 1) a x.0 x.1 (part_of k)) (λ k is.
    let past = moves (levels_left - 1) (a + 1) x eq in
    st_behind base t u (d - 1) r s inner (levels_left - 1) a x.0 x.1 (omega (arith, ge)) le (omega (arith, deep, some, past)) (omega (arith, far, much, past)) (part_of k) (ap part_of is)))))

abbrev pub SelectsClaim : ℕ → List Lexeme → List Lexeme → ℕ → Reader → Reader → ℕ → ℕ → Type 0
SelectsClaim base t u d r s levels_left n = (a : ℕ) → a ≤ length t → base + 256 ≤ a + d → base + 4096 ≤ a + levels_left → Steady base t u a (selects_at t d r levels_left n a) (selects_at u d s levels_left n a)

pub st_selects : (base : ℕ) (t u : List Lexeme) (d : ℕ) (r s : Reader) → SteadyUnder base t u d r s → Moves r → (levels_left n : ℕ) → SelectsClaim base t u d r s levels_left n
unfolding selects_at
st_selects base t u d r s under moves levels_left zero a h deep far = st_ok base t u a a _ _ (omega arith) h (λ b. refl)
st_selects base t u d r s under moves levels_left (suc n) a h deep far =
    st_look base t u a
    (λ k. if same k marks.OpenBracket then (select_at t d r levels_left a >>= λ x. selects_at t d r levels_left n x.1 >>= λ xs. Ok (select x.0 xs.0, xs.1)) else Ok (no_select, a))
    (λ k. if same k marks.OpenBracket then (select_at u d s levels_left a >>= λ x. selects_at u d s levels_left n x.1 >>= λ xs. Ok (select x.0 xs.0, xs.1)) else Ok (no_select, a)) (λ k is.
    st_if base t u a (same k marks.OpenBracket) _ _ _ _
    (λ yes.
    let opened : mark_at t a ≡ marks.OpenBracket = is ∙ same_true _ _ yes in
    let inside = marked_inside t a (λ gone. not_by marks.OpenBracket marks.Nothing refl (sym opened ∙ gone)) in
    st_bind base t u a (select_at t d r levels_left a) (select_at u d s levels_left a) _ _ (st_select base t u d r s under moves levels_left a inside opened deep far) (λ x ge le eq.
    st_bind base t u x.1 (selects_at t d r levels_left n x.1) (selects_at u d s levels_left n x.1) _ _ (st_selects base t u d r s under moves levels_left n x.1 le (omega (arith, deep, ge)) (omega (arith, far, ge))) (λ xs gex lex eqx.
    st_ok base t u xs.1 xs.1 _ _ (omega arith) lex (λ b. refl))))
    (λ none. st_ok base t u a a _ _ (omega arith) h (λ b. refl)))

st_name : (base : ℕ) (t u : List Lexeme) (d : ℕ) (r s : Reader) → SteadyUnder base t u d r s → Moves r → (levels_left a : ℕ) → a < length t → base + 256 ≤ a + d → base + 4096 ≤ a + levels_left
    → Steady base t u a (name_at t d r levels_left a) (name_at u d s levels_left a)
unfolding name_at
st_name base t u d r s under moves levels_left a h deep far =
    st_bind base t u a (selects_at t d r levels_left 2 (a + 1)) (selects_at u d s levels_left 2 (a + 1)) _ _
    (from_before base t u a (a + 1) _ _ (omega arith) (st_selects base t u d r s under moves levels_left 2 (a + 1) (omega (arith, h)) (omega (arith, deep)) (omega (arith, far)))) (λ xs ge le eq.
    st_ok base t u xs.1 xs.1 _ _ (omega arith) le (λ b. ap₂ (λ z w. name z w xs.0) (site_kept t u _ a xs.1 b ge (omega arith)) (text_kept t u _ a b ge)))

pub within_by : (t : List Lexeme) (a : ℕ) (k m : Terminal) → mark_at t a ≡ k → same k m ≡ true → same m marks.Nothing ≡ false → a < length t
within_by t a k m is hit some = marked_inside t a (λ gone. not_by m marks.Nothing some (sym (is ∙ same_true _ _ hit) ∙ gone))

st_plain : (base : ℕ) (t u : List Lexeme) (d : ℕ) (r s : Reader) → SteadyUnder base t u d r s → Moves r → (levels_left a : ℕ) → a ≤ length t → base + 256 ≤ a + d → base + 4096 ≤ a + levels_left
    → (k : Terminal) → mark_at t a ≡ k → Steady base t u a (plain_at t d r k levels_left a) (plain_at u d s k levels_left a)
unfolding plain_at
st_plain base t u d r s under moves levels_left a h deep far k is =
    st_if base t u a (same k marks.Number) _ _ _ _
    (λ yes. let inside = within_by t a k marks.Number is yes refl in
    st_ok base t u a (a + 1) _ _ (omega arith) (omega (arith, inside)) (λ b. ap₂ (λ z w. number z w) (site_kept t u _ a (a + 1) b (omega arith) (omega arith)) (text_kept t u _ a b (omega arith))))
    (λ n1. st_if base t u a (same k marks.Name) _ _ _ _
    (λ yes. st_name base t u d r s under moves levels_left a (within_by t a k marks.Name is yes refl) deep far)
    (λ n2. st_if base t u a (same k marks.Open) _ _ _ _
    (λ yes. st_parens base t u d r s under levels_left a (within_by t a k marks.Open is yes refl) (is ∙ same_true _ _ yes) deep far)
    (λ n3. st_if base t u a (same k marks.OpenBrace) _ _ _ _
    (λ yes. st_braces base t u d r s under moves levels_left a (within_by t a k marks.OpenBrace is yes refl) (is ∙ same_true _ _ yes) deep far)
    (λ n4. st_no_place base t u a h))))

st_called : (base : ℕ) (t u : List Lexeme) (d : ℕ) (r s : Reader) → SteadyUnder base t u d r s → Moves r → (levels_left a : ℕ) → a ≤ length t → base + 256 ≤ a + d → base + 4096 ≤ a + levels_left
    → (k : Terminal) → mark_at t a ≡ k → (f : Option SystemFunction) → system_of k ≡ f → Steady base t u a (called_at t d r k f levels_left a) (called_at u d s k f levels_left a)
st_called base t u d r s under moves levels_left a h deep far k is None e = st_plain base t u d r s under moves levels_left a h deep far k is
st_called base t u d r s under moves levels_left a h deep far k is (Some f) e = st_system base t u d r s under f levels_left a (ap system_of is ∙ e) deep far

st_signed : (base : ℕ) (t u : List Lexeme) (d : ℕ) (o p r s : Reader) → SteadyUnder base t u d o p → SteadyUnder base t u d r s → Moves r → (levels_left a : ℕ) → a ≤ length t → base + 256 ≤ a + d → base + 4096 ≤ a + levels_left
    → (k : Terminal) → mark_at t a ≡ k → (f : Option Unary) → unary_of k ≡ f → Steady base t u a (signed_at t d o r k f levels_left a) (signed_at u d p s k f levels_left a)
st_signed base t u d o p r s opens under moves levels_left a h deep far k is None e = st_called base t u d r s under moves levels_left a h deep far k is (system_of k) refl
st_signed base t u d o p r s opens under moves levels_left a h deep far k is (Some f) e = st_unary base t u d o p opens f levels_left a (ap unary_of is ∙ e) deep far

st_operand : (base : ℕ) (t u : List Lexeme) (d : ℕ) (o p r s : Reader) → SteadyUnder base t u d o p → SteadyUnder base t u d r s → Moves r → SteadyReader base t u d (operand_with t d o r) (operand_with u d p s)
unfolding operand_with
st_operand base t u d o p r s opens under moves levels_left a h deep far =
    st_look base t u a (λ k. signed_at t d o r k (unary_of k) levels_left a) (λ k. signed_at u d p s k (unary_of k) levels_left a) (λ k is. st_signed base t u d o p r s opens under moves levels_left a h deep far k is (unary_of k) refl)

-- the readers of operands behind operators that are taken
record SteadyRight (base : ℕ) (t u : List Lexeme) (d least : ℕ) (f g : ℕ → Reader) : Type 0 where
  reads : (level : ℕ) → least < level → level ≤ 12 → SteadyReader base t u d (f level) (g level)
  moves : (level : ℕ) → least < level → level ≤ 12 → Moves (f level)

abbrev ChainClaim : ℕ → List Lexeme → List Lexeme → ℕ → (ℕ → Reader) → (ℕ → Reader) → ℕ → ℕ → ℕ → ℕ → Type 0
ChainClaim base t u d f g least levels_left from n = (k : ℕ) (left other : Tree) (a : ℕ) → length t ≤ n + a → length u ≤ k + a → a ≤ length t → base + 256 ≤ a + d → base + 4096 ≤ from + levels_left
    → levels left + from ≤ a → (Begins t u a → other ≡ left) → Steady base t u a (chain t f least levels_left from n left a) (chain u g least levels_left from k other a)

-- where the chain in t stops, it stops in the others
chain_rests : (base : ℕ) (t u : List Lexeme) (f g : ℕ → Reader) (least levels_left from n k : ℕ) (left other : Tree) (a : ℕ) → a ≤ length t
    → ((o : Binary) → binary_of (mark_at t a) ≡ Some o → strength o < least) → (Begins t u a → other ≡ left)
    → Steady base t u a (chain t f least levels_left from n left a) (chain u g least levels_left from k other a)
chain_rests base t u f g least levels_left from n k left other a h rests kept =
    rw (chain-stops t f least levels_left from n left a rests) record {
      ahead = (omega arith, h);
      same_read = λ b.
          chain-stops u g least levels_left from k other a (λ o e. rests o (ap binary_of (sym (mark_kept t u a a b (omega arith))) ∙ e))
          ∙ ap (λ v. good {A = Tree × ℕ} (v, a)) (kept b);
    }

chain_reads : (t : List Lexeme) (f : ℕ → Reader) (least levels_left from n : ℕ) (left : Tree) (a : ℕ) (op : Binary) → n ≢ 0 → binary_of (mark_at t a) ≡ Some op → least ≤ strength op
    → chain t f least levels_left from n left a
    ≡ (above levels_left (levels left) a >>= λ less. f (strength op + 1) less (a + 1) >>= λ y. chain t f least levels_left from (n - 1) (binary (site t from y.1) op left y.0) y.1)
chain_reads t f least levels_left from n left a op some is low =
    chain_more t f least levels_left from n left a some ∙ ap (chain_step (chain t f least levels_left from (n - 1)) t f least levels_left from left a) is ∙ else_of _ _ _ _ (le-ltb _ _ low) refl

chain_case : (base : ℕ) (t u : List Lexeme) (d : ℕ) (f g : ℕ → Reader) (least levels_left from n : ℕ) → SteadyRight base t u d least f g → ChainClaim base t u d f g least levels_left from n
    → (k : ℕ) (left other : Tree) (a : ℕ) → length t ≤ suc n + a → length u ≤ k + a → a ≤ length t → base + 256 ≤ a + d → base + 4096 ≤ from + levels_left
    → levels left + from ≤ a → (Begins t u a → other ≡ left) → (op : Binary) → binary_of (mark_at t a) ≡ Some op → least ≤ strength op
    → Steady base t u a (chain t f least levels_left from (suc n) left a) (chain u g least levels_left from k other a)
chain_case base t u d f g least levels_left from n under again k left other a enough also h deep far few kept op is low =
    let inside = binary_inside t a op is in
    let most = strength_most op in
    let allowed : mark_at t a ≢ marks.Refused = λ gone. none_some op (sym (ap binary_of gone) ∙ is) in
    let node = λ (v : List Lexeme) (y : Tree × ℕ). binary (site v from y.1) op left y.0 in
    let o : Read Tree = above levels_left (levels left) a >>= λ less. f (strength op + 1) less (a + 1) >>= λ y. chain t f least levels_left from n (node t y) y.1 in
    let p : Read Tree = above levels_left (levels left) a >>= λ less. g (strength op + 1) less (a + 1) >>= λ y. chain u g least levels_left from (k - 1) (node u y) y.1 in
    let turn : Steady base t u a o p =
    st_above base t u levels_left (levels left) a _ _ h allowed (λ over. omega (arith, over, few, far)) (λ under_levels.
    st_bind base t u a (f (strength op + 1) (levels_left - 1) (a + 1)) (g (strength op + 1) (levels_left - 1) (a + 1)) _ _
    (inner_steady base t u d _ _ (under.reads (strength op + 1) (omega (arith, low)) (omega (arith, most))) (levels_left - 1) a (a + 1) (omega arith) (omega (arith, inside)) (omega (arith, deep)) (omega (arith, far, few, under_levels))) (λ y ge le eq.
    let past = under.moves (strength op + 1) (omega (arith, low)) (omega (arith, most)) (levels_left - 1) (a + 1) y eq in
    again (k - 1) (node t y) (node u y) y.1 (omega (arith, enough, past)) (omega (arith, also, past)) le (omega (arith, deep, ge)) far (omega (arith, few, past))
    (λ b. ap (λ z. binary z op left y.0) (site_kept t u _ from y.1 b (omega (arith, few, past)) (omega arith))))) in
    let less : suc n - 1 ≡ n = omega arith in
    let mine : chain t f least levels_left from (suc n) left a ≡ o =
    chain_reads t f least levels_left from (suc n) left a op (omega arith) is low
    ∙ ap (λ v. above levels_left (levels left) a >>= λ less. f (strength op + 1) less (a + 1) >>= λ y. chain t f least levels_left from v (node t y) y.1) less in
    rw mine record {
      ahead = turn.ahead;
      same_read = λ b.
          let far_enough = reach_more t base a o turn.ahead in
          let there : binary_of (mark_at u a) ≡ Some op = ap binary_of (mark_kept t u _ a b far_enough) ∙ is in
          let here = binary_inside u a op there in
          ap (λ v. chain u g least levels_left from k v a) (kept (begins_less t u a _ far_enough b))
          ∙ chain_reads u g least levels_left from k left a op (omega (arith, here, also)) there low ∙ turn.same_read b;
    }

chain_choice : (base : ℕ) (t u : List Lexeme) (d : ℕ) (f g : ℕ → Reader) (least levels_left from n : ℕ) → SteadyRight base t u d least f g → ChainClaim base t u d f g least levels_left from n
    → (k : ℕ) (left other : Tree) (a : ℕ) → length t ≤ suc n + a → length u ≤ k + a → a ≤ length t → base + 256 ≤ a + d → base + 4096 ≤ from + levels_left
    → levels left + from ≤ a → (Begins t u a → other ≡ left) → (q : Option Binary) → binary_of (mark_at t a) ≡ q
    → Steady base t u a (chain t f least levels_left from (suc n) left a) (chain u g least levels_left from k other a)
chain_choice base t u d f g least levels_left from n under again k left other a enough also h deep far few kept None is =
    chain_rests base t u f g least levels_left from (suc n) k left other a h (λ o e. none_some o (sym is ∙ e)) kept
chain_choice base t u d f g least levels_left from n under again k left other a enough also h deep far few kept (Some op) is =
    elim (cases_lt (strength op) least) [
      | inl low ↦ chain_rests base t u f g least levels_left from (suc n) k left other a h (λ o e. subst (λ v. strength v < least) (Some-same (sym is ∙ e)) low) kept
      | inr high ↦ chain_case base t u d f g least levels_left from n under again k left other a enough also h deep far few kept op is high
    ]

st_chain : (base : ℕ) (t u : List Lexeme) (d : ℕ) (f g : ℕ → Reader) (least levels_left from n : ℕ) → SteadyRight base t u d least f g → ChainClaim base t u d f g least levels_left from n
st_chain base t u d f g least levels_left from zero under k left other a enough also h deep far few kept =
    chain_rests base t u f g least levels_left from zero k left other a h (λ o e. absurd (let inside = binary_inside t a o e in omega (arith, inside, enough))) kept
st_chain base t u d f g least levels_left from (suc n) under k left other a enough also h deep far few kept =
    chain_choice base t u d f g least levels_left from n under (st_chain base t u d f g least levels_left from n under) k left other a enough also h deep far few kept (binary_of (mark_at t a)) refl

climb_moves : (t : List Lexeme) (d : ℕ) (o : Reader) → SoundOperands t d o → (n least : ℕ) → 12 ≤ n + least → least ≤ 12 → 1 ≤ least → Moves (climb t o n least)
climb_moves t d o sound n least enough most some levels_left a x e = let s = climb-sound t d o sound n least enough most some levels_left a x.0 x.1 e in forward t x.0 a x.1 s.sound.spelled

st_climb : (base : ℕ) (t u : List Lexeme) (d : ℕ) (o p : Reader) → SteadyReader base t u d o p → SoundOperands t d o → (n least : ℕ) → 12 ≤ n + least → least ≤ 12 → 1 ≤ least
    → SteadyReader base t u d (climb t o n least) (climb u p n least)
unfolding climb
st_climb base t u d o p under sound zero least enough most some levels_left a h deep far = under levels_left a h deep far
st_climb base t u d o p under sound (suc n) least enough most some levels_left a h deep far =
    st_bind base t u a (o levels_left a) (p levels_left a) _ _ (under levels_left a h deep far) (λ x ge le eq.
    let s = sound levels_left a x.0 x.1 eq in
    let past = forward t x.0 a x.1 s.sound.spelled in
    st_chain base t u d (climb t o n) (climb u p n) least levels_left a (length t)
    record {
      reads = λ level low high. st_climb base t u d o p under sound n level (omega (arith, enough, low, most)) high (omega (arith, low, some));
      moves = λ level low high. climb_moves t d o sound n level (omega (arith, enough, low, most)) high (omega (arith, low, some));
    }
    (length u) x.0 x.0 x.1 (omega arith) (omega arith) le (omega (arith, deep, ge)) far (omega (arith, past)) (λ b. refl))

st_whole : (base : ℕ) (t u : List Lexeme) (d : ℕ) (o p r s : Reader) → SteadyReader base t u d o p → SoundOperands t d o → SteadyUnder base t u d r s → Moves r
    → SteadyReader base t u d (whole_with t d o r) (whole_with u d p s)
unfolding whole_with question_at
st_whole base t u d o p r s opens sound under moves levels_left a h deep far =
    st_bind base t u a (climb t o 12 1 levels_left a) (climb u p 12 1 levels_left a) _ _ (st_climb base t u d o p opens sound 12 1 (lit≤ tt) (lit≤ tt) (lit≤ tt) levels_left a h deep far) (λ x ge le eq.
    let past = climb_moves t d o sound 12 1 (lit≤ tt) (lit≤ tt) (lit≤ tt) levels_left a x eq in
    st_look base t u x.1 (λ k. if same k marks.Question then question_at t d r levels_left a x.0 x.1 else Ok x) (λ k. if same k marks.Question then question_at u d s levels_left a x.0 x.1 else Ok x) (λ k is.
    st_if base t u x.1 (same k marks.Question) _ _ _ _
    (λ hit.
    let asked : mark_at t x.1 ≡ marks.Question = is ∙ same_true _ _ hit in
    let inside = within_by t x.1 k marks.Question is hit refl in
    let allowed = allowed_by t x.1 marks.Question asked refl in
    st_lower base t u d x.1 _ _ le allowed (omega (arith, deep, ge)) (λ some.
    let inner = under (d - 1) (omega (arith, some)) in
    st_above base t u levels_left (levels x.0) x.1 _ _ le allowed (λ over. omega (arith, over, past, far)) (λ under_levels.
    st_bind base t u x.1 (r (levels_left - 1) (x.1 + 1)) (s (levels_left - 1) (x.1 + 1)) _ _
    (inner_steady base t u (d - 1) r s inner (levels_left - 1) x.1 (x.1 + 1) (omega arith) (omega (arith, inside)) (omega (arith, deep, some, ge)) (omega (arith, far, under_levels, ge))) (λ y gey ley eqy.
    st_expect base t u marks.Colon y.1 _ _ (not_by marks.Colon marks.Nothing refl) ley (λ colon in_colon.
    st_bind base t u (y.1 + 1) (r (levels_left - 1) (y.1 + 1)) (s (levels_left - 1) (y.1 + 1)) _ _
    (inner (levels_left - 1) (y.1 + 1) in_colon (omega (arith, deep, some, ge, gey)) (omega (arith, far, under_levels, ge, gey))) (λ z gez lez eqz.
    st_ok base t u z.1 z.1 _ _ (omega arith) lez (λ b. ap (λ v. conditional v x.0 y.0 z.0) (site_kept t u _ a z.1 b (omega (arith, ge, gey, gez)) (omega arith)))))))))
    (λ miss. st_ok base t u x.1 x.1 x.0 x.0 (omega arith) le (λ b. refl))))

shut_moves : Moves shut.whole
shut_moves levels_left a x e = absurd (bad_good (Deep a) x e)

pub record SteadyReaders (base : ℕ) (t u : List Lexeme) (d : ℕ) : Type 0 where
  pub operands : SteadyReader base t u d (readers t d).operand (readers u d).operand
  pub wholes : SteadyReader base t u d (readers t d).whole (readers u d).whole

pub below_moves : (t : List Lexeme) (d : ℕ) → Moves (below t d).whole
below_moves t zero = shut_moves
below_moves t (suc d) = λ levels_left a x e. forward t x.0 a x.1 ((sound_readers t d).wholes levels_left a x.0 x.1 e).sound.spelled

steady_step : (base : ℕ) (t u : List Lexeme) (d : ℕ) → ((n : ℕ) → n + 1 ≡ d → SteadyReaders base t u n) → SteadyReaders base t u d
steady_step base t u d under =
    let opens : SteadyUnder base t u d (below t d).operand (below u d).operand =
    λ n e. subst (λ (r : Readers). SteadyReader base t u n r.operand (below u d).operand) (sym (below_less t d n e)) (subst (λ (r : Readers). SteadyReader base t u n (readers t n).operand r.operand) (sym (below_less u d n e)) (under n e).operands) in
    let wholes : SteadyUnder base t u d (below t d).whole (below u d).whole =
    λ n e. subst (λ (r : Readers). SteadyReader base t u n r.whole (below u d).whole) (sym (below_less t d n e)) (subst (λ (r : Readers). SteadyReader base t u n (readers t n).whole r.whole) (sym (below_less u d n e)) (under n e).wholes) in
    let moves = below_moves t d in
    let here : SteadyReader base t u d (readers t d).operand (readers u d).operand =
    λ levels_left a h deep far. rw (operand_over t d levels_left a, operand_over u d levels_left a) (st_operand base t u d (below t d).operand (below u d).operand (below t d).whole (below u d).whole opens wholes moves levels_left a h deep far) in
    record {
      operands = here;
      wholes = λ levels_left a h deep far. rw (whole_over t d levels_left a, whole_over u d levels_left a)
          (st_whole base t u d (readers t d).operand (readers u d).operand (below t d).whole (below u d).whole here (sound_readers t d).operands wholes moves levels_left a h deep far);
    }

pub steady_readers : (base : ℕ) (t u : List Lexeme) (d : ℕ) → SteadyReaders base t u d
steady_readers base t u zero = steady_step base t u zero (λ n e. absurd (omega (arith, e)))
steady_readers base t u (suc d) = steady_step base t u (suc d) (λ n e. let same_nesting : d ≡ n = omega (arith, e) in subst (SteadyReaders base t u) same_nesting (steady_readers base t u d))

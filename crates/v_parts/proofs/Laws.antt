-- What a reader's steps read: exactly what a production has, and that it looks no farther than the token behind it, or at the
-- one that it names.
use Rattle.std.proofs.Common.{◌≡◌, ◌≢◌, ℕ, zero, suc, ◌+◌, ◌-◌, ◌<◌, ◌≤◌, ◌⊎◌, inl, inr, Bool, true, false, if◌then◌else◌, List, length, Some, None, Option, sym, ap, ◌∙◌, subst, refl, arith, slice_get}
use Rattle.std.proofs.lemmas.Option.{slice_get_cases, slice_get_within}
use Rattle.loc_base.proofs.ShelfBools.{if-cases}
use Rattle.v_lexer.specs.Lexeme.{Lexeme}
use Rattle.v_syntax.specs.declared.site.Site.{Site}
use Rattle.v_lexer.specs.declared.types.terminal.Terminal.{Terminal}
use Rattle.v_lexer.specs.declared.types.terminal.Terminal.TheVariants as marks
use Rattle.v_tree.specs.Marks.{mark_at, same}
use Rattle.v_tree.specs.Sites.{site}
use Rattle.v_tree.specs.Faults.{no_place, Begins}
use Rattle.v_tree.specs.Reading.{Read, ◌>>=◌, expect, lower}
use Rattle.v_tree.proofs.MarkLemmas.{same_true, same_of}
use Rattle.v_tree.proofs.PlaceLemmas.{marked_inside}
use Rattle.v_tree.proofs.BindLemmas.{good, bad, bad_good, ok-one, bind-inv, lower-inv, expect-inv, expect-of, true_false}
use Rattle.v_tree.proofs.SoundLemmas.{not_mark}
use Rattle.v_tree.proofs.CompleteLemmas.{step, then_of, else_of, apart_of, lower-of}
use Rattle.v_tree.proofs.SteadyLemmas.{Steady, Ahead, reach, from_before, st_bind, st_ok, st_no_place, st_expect, st_lower, st_look, st_if, not_by, site_kept}
use Rattle.v_parts.specs.Reading.{optional_at, unless_at}
use Rattle.v_parts.specs.Productions.{IsOptional}
use Rattle.v_tree.specs.declared.fault.Fault.TheVariants.{Unsupported}

-- reading goes on at a place within the tokens, and so many tokens stand before as the limits ask
pub record Start (base : ℕ) (t : List Lexeme) (d a : ℕ) : Type 0 where
  pub inside : a ≤ length t
  pub deep : base + 256 ≤ a + d
  pub far : base ≤ a

-- what is read from a on in t is what the production has, and in others that begin as t does the same is read
pub record Law {A : Type 0} (base : ℕ) (t u : List Lexeme) (a : ℕ) (o p : Read A) (P : A → ℕ → Type 0) : Type 0 where
  pub sound : (x : A) (b : ℕ) → o ≡ good (x, b) → P x b
  pub complete : (x : A) (b : ℕ) → P x b → o ≡ good (x, b)
  pub steady : Steady base t u a o p

abbrev pub LawFrom : {A : Type 0} → ℕ → List Lexeme → List Lexeme → ℕ → (ℕ → Read A) → (ℕ → Read A) → (A → ℕ → ℕ → Type 0) → Type 0
LawFrom base t u d r s P = (a : ℕ) → Start base t d a → Law base t u a (r a) (s a) (λ x b. P x a b)

pub later : (base : ℕ) (t : List Lexeme) (d a m : ℕ) → Start base t d a → a ≤ m → m ≤ length t → Start base t d m
later base t d a m s h k = record { inside = k; deep = omega (arith, h, s.deep); far = omega (arith, h, s.far) }

pub lower_start : (base : ℕ) (t : List Lexeme) (d n a m : ℕ) → n + 1 ≡ d → Start base t d a → a + 1 ≤ m → m ≤ length t → Start base t n m
lower_start base t d n a m e s h k = record { inside = k; deep = omega (arith, h, e, s.deep); far = omega (arith, h, s.far) }

pub ahead_of : {A : Type 0} (base : ℕ) (t : List Lexeme) (a : ℕ) (o : Read A) (x : A × ℕ) → o ≡ good x → Ahead t base a o → (a ≤ x.1) × (x.1 ≤ length t)
ahead_of {A} base t a o x e h = subst (λ (q : Read A). Ahead t base a q) e h

pub law_as : {A : Type 0} (base : ℕ) (t u : List Lexeme) (a : ℕ) (o p : Read A) (P Q : A → ℕ → Type 0) → Law base t u a o p P
    → ((x : A) (b : ℕ) → P x b → Q x b) → ((x : A) (b : ℕ) → Q x b → P x b) → Law base t u a o p Q
law_as base t u a o p P Q l to from = record { sound = λ x b e. to x b (l.sound x b e); complete = λ x b q. l.complete x b (from x b q); steady = l.steady }

-- one part behind another
pub law_bind : {A B : Type 0} (base : ℕ) (t u : List Lexeme) (d a : ℕ) → Start base t d a → (o p : Read A) (f g : A × ℕ → Read B) (P : A → ℕ → Type 0) (Q : A → ℕ → B → ℕ → Type 0)
    → Law base t u a o p P → ((x : A) (m : ℕ) → P x m → a ≤ m → Start base t d m → Law base t u m (f (x, m)) (g (x, m)) (Q x m))
    → Law base t u a (o >>= f) (p >>= g) (λ y b. (x : A) × (m : ℕ) × P x m × Q x m y b)
law_bind {A} {B} base t u d a s o p f g P Q l k =
    let on = λ (x : A × ℕ) (e : o ≡ good x) (q : P x.0 x.1).
    let h = ahead_of base t a o x e l.steady.ahead in
    k x.0 x.1 q h.0 (later base t d a x.1 s h.0 h.1) in
    record {
      sound = λ y b e.
          let i = bind-inv o f (y, b) e in
          let q = l.sound i.0.0 i.0.1 i.1 in
          (i.0.0, i.0.1, q, (on i.0 i.1 q).sound y b i.2);
      complete = λ y b (x, m, q, r).
          let e = l.complete x m q in
          step o (x, m) f (good (y, b)) e ((on (x, m) e q).complete y b r);
      steady = st_bind base t u a o p f g l.steady (λ x ge le e. (on x e (l.sound x.0 x.1 e)).steady);
    }

-- a token of that mark
pub law_token : {B : Type 0} (base : ℕ) (t u : List Lexeme) (a : ℕ) → a ≤ length t → (m : Terminal) → same m marks.Nothing ≡ false → (f g : ℕ → Read B) (Q : B → ℕ → Type 0)
    → (mark_at t a ≡ m → a + 1 ≤ length t → Law base t u (a + 1) (f (a + 1)) (g (a + 1)) Q)
    → Law base t u a (expect t m a >>= f) (expect u m a >>= g) (λ y b. (mark_at t a ≡ m) × Q y b)
law_token {B} base t u a inside m some f g Q k =
    let on = λ (is : mark_at t a ≡ m).
    let here = marked_inside t a (λ gone. not_by m marks.Nothing some (sym is ∙ gone)) in
    k is (omega (arith, here)) in
    record {
      sound = λ y b e.
          let i = bind-inv (expect t m a) f (y, b) e in
          let h = expect-inv t m a i.0 i.1 in
          let next : f (a + 1) ≡ good (y, b) = ap f (sym h.1) ∙ i.2 in
          (h.0, (on h.0).sound y b next);
      complete = λ y b (is, q). step (expect t m a) (a + 1) f (good (y, b)) (expect-of t m a is) ((on is).complete y b q);
      steady = st_expect base t u m a f g (not_by m marks.Nothing some) inside (λ is ok. (on is).steady);
    }

pub law_expect : {B : Type 0} (base : ℕ) (t u : List Lexeme) (d a : ℕ) → Start base t d a → (m : Terminal) → same m marks.Nothing ≡ false → (f g : ℕ → Read B) (Q : B → ℕ → Type 0)
    → (mark_at t a ≡ m → Start base t d (a + 1) → Law base t u (a + 1) (f (a + 1)) (g (a + 1)) Q)
    → Law base t u a (expect t m a >>= f) (expect u m a >>= g) (λ y b. (mark_at t a ≡ m) × Q y b)
law_expect base t u d a s m some f g Q k = law_token base t u a s.inside m some f g Q (λ is ok. k is (later base t d a (a + 1) s (omega arith) ok))

-- the token at a opens one more construct; reading goes on at a or behind it
pub law_open_at : {B : Type 0} (base : ℕ) (t u : List Lexeme) (d a : ℕ) → Start base t d a → (m : Terminal) → same m marks.Refused ≡ false → mark_at t a ≡ m → (f g : ℕ → Read B) (Q : ℕ → B → ℕ → Type 0)
    → ((n : ℕ) → n + 1 ≡ d → Law base t u a (f n) (g n) (Q n))
    → Law base t u a (lower d a >>= f) (lower d a >>= g) (λ y b. (n : ℕ) × (n + 1 ≡ d) × (mark_at t a ≡ m) × Q n y b)
law_open_at {B} base t u d a s m allowed is f g Q k = record {
  sound = λ y b e.
      let i = bind-inv (lower d a) f (y, b) e in
      let low = lower-inv d a i.0 i.1 in
      (i.0, low, is, (k i.0 low).sound y b i.2);
  complete = λ y b (n, low, h, q).
      let less : d - 1 ≡ n = omega (arith, low) in
      step (lower d a) n f (good (y, b)) (lower-of d a (omega (arith, low)) ∙ ap (λ v. good v) less) ((k n low).complete y b q);
  steady = st_lower base t u d a f g s.inside (λ gone. not_by m marks.Refused allowed (sym is ∙ gone)) s.deep (λ some. (k (d - 1) (omega (arith, some))).steady);
}

pub law_before : {A : Type 0} (base : ℕ) (t u : List Lexeme) (a m : ℕ) (o p : Read A) (P : A → ℕ → Type 0) → a ≤ m → Law base t u m o p P → Law base t u a o p P
law_before base t u a m o p P h l = record { sound = l.sound; complete = l.complete; steady = from_before base t u a m o p h l.steady }

pub law_open : {B : Type 0} (base : ℕ) (t u : List Lexeme) (d a : ℕ) → Start base t d a → (m : Terminal) → same m marks.Refused ≡ false → same m marks.Nothing ≡ false → mark_at t a ≡ m
    → (f g : ℕ → Read B) (Q : ℕ → B → ℕ → Type 0)
    → ((n : ℕ) → n + 1 ≡ d → Start base t n (a + 1) → Law base t u (a + 1) (f n) (g n) (Q n))
    → Law base t u a (lower d a >>= f) (lower d a >>= g) (λ y b. (n : ℕ) × (n + 1 ≡ d) × (mark_at t a ≡ m) × Q n y b)
law_open base t u d a s m allowed some is f g Q k =
    let here = marked_inside t a (λ gone. not_by m marks.Nothing some (sym is ∙ gone)) in
    law_open_at base t u d a s m allowed is f g Q (λ n low. law_before base t u a (a + 1) (f n) (g n) (Q n) (omega arith)
    (k n low (lower_start base t d n a (a + 1) low s (omega arith) (omega (arith, here)))))

-- nothing has a place
pub law_no_place : {A : Type 0} (base : ℕ) (t u : List Lexeme) (a : ℕ) → a ≤ length t → Law {A = A} base t u a (bad (no_place t a)) (bad (no_place u a)) (λ x b. ⊥)
law_no_place base t u a h = record { sound = λ x b e. bad_good (no_place t a) (x, b) e; complete = λ x b q. absurd q; steady = st_no_place base t u a h }

-- what is found, which ends at b
pub law_found : {A : Type 0} (base : ℕ) (t u : List Lexeme) (a b : ℕ) (x y : A) → a ≤ b → b ≤ length t → (Begins t u b → y ≡ x)
    → Law base t u a (good (x, b)) (good (y, b)) (λ z c. (z ≡ x) × (c ≡ b))
law_found {A} base t u a b x y h k e = record {
  sound = λ z c is. let one = ok-one (x, b) (z, c) is in (sym (ap (λ (q : A × ℕ). q.0) one), sym (ap (λ (q : A × ℕ). q.1) one));
  complete = λ z c (same_tree, same_end). let one : good {A = A × ℕ} (x, b) ≡ good {A = A × ℕ} (z, b) = ap (λ q. good {A = A × ℕ} (q, b)) (sym same_tree) in one ∙ ap (λ q. good {A = A × ℕ} (z, q)) (sym same_end);
  steady = st_ok base t u a b x y h k e;
}

-- a node whose tokens begin at `from` and end at a
pub law_node : {A : Type 0} (base : ℕ) (t u : List Lexeme) (d from a : ℕ) → Start base t d a → from ≤ a → (node : Site → A)
    → Law base t u a (good (node (site t from a), a)) (good (node (site u from a), a)) (λ z c. (z ≡ node (site t from a)) × (c ≡ a))
law_node base t u d from a s h node = law_found base t u a a (node (site t from a)) (node (site u from a)) (omega arith) s.inside (λ b. ap node (site_kept t u a from a b h (omega arith)))

-- a choice by the token at a, where each alternative tells its mark
pub law_choice : {A : Type 0} (base : ℕ) (t u : List Lexeme) (a : ℕ) (m : Terminal) → same m marks.Nothing ≡ false → (o p q r : Read A) (P Q : A → ℕ → Type 0)
    → (mark_at t a ≡ m → a < length t → Law base t u a o q P) → (mark_at t a ≢ m → Law base t u a p r Q)
    → ((x : A) (b : ℕ) → P x b → mark_at t a ≡ m) → ((x : A) (b : ℕ) → Q x b → mark_at t a ≢ m)
    → Law base t u a (if same (mark_at t a) m then o else p) (if same (mark_at u a) m then q else r) (λ x b. P x b ⊎ Q x b)
law_choice {A} base t u a m some o p q r P Q k l tells other =
    let yes = λ (is : mark_at t a ≡ m). k is (marked_inside t a (λ gone. not_by m marks.Nothing some (sym is ∙ gone))) in
    record {
      sound = λ x b e. elim (if-cases (same (mark_at t a) m) o p _ e) [
        | inl h ↦ inl ((yes (same_true _ _ h.0)).sound x b h.1)
        | inr h ↦ inr ((l (not_mark _ _ h.0)).sound x b h.1)
      ];
      complete = λ x b s. elim s [
        | inl h ↦ then_of _ _ _ _ (same_of _ _ (tells x b h)) ((yes (tells x b h)).complete x b h)
        | inr h ↦ else_of _ _ _ _ (apart_of _ _ (other x b h)) ((l (other x b h)).complete x b h)
      ];
      steady = st_look base t u a (λ n. if same n m then o else p) (λ n. if same n m then q else r)
          (λ n is. st_if base t u a (same n m) o p q r (λ hit. (yes (is ∙ same_true _ _ hit)).steady) (λ miss. (l (λ h. not_mark _ _ miss (sym is ∙ h))).steady));
    }

-- a choice by what the token at a is
pub law_test : {A : Type 0} (base : ℕ) (t u : List Lexeme) (a : ℕ) (test : Terminal → Bool) (o p q r : Read A) (P Q : A → ℕ → Type 0)
    → (test (mark_at t a) ≡ true → Law base t u a o q P) → (test (mark_at t a) ≡ false → Law base t u a p r Q)
    → ((x : A) (b : ℕ) → P x b → test (mark_at t a) ≡ true) → ((x : A) (b : ℕ) → Q x b → test (mark_at t a) ≡ false)
    → Law base t u a (if test (mark_at t a) then o else p) (if test (mark_at u a) then q else r) (λ x b. P x b ⊎ Q x b)
law_test base t u a test o p q r P Q k l tells other = record {
  sound = λ x b e. elim (if-cases (test (mark_at t a)) o p _ e) [
    | inl h ↦ inl ((k h.0).sound x b h.1)
    | inr h ↦ inr ((l h.0).sound x b h.1)
  ];
  complete = λ x b s. elim s [
    | inl h ↦ then_of _ _ _ _ (tells x b h) ((k (tells x b h)).complete x b h)
    | inr h ↦ else_of _ _ _ _ (other x b h) ((l (other x b h)).complete x b h)
  ];
  steady = st_look base t u a (λ n. if test n then o else p) (λ n. if test n then q else r)
      (λ n is. st_if base t u a (test n) o p q r (λ hit. (k (ap test is ∙ hit)).steady) (λ miss. (l (ap test is ∙ miss)).steady));
}

optional_as : {A : Type 0} (t : List Lexeme) (m : Terminal) (P : A → ℕ → ℕ → Type 0) (a : ℕ) (y : Option A) (b : ℕ) → IsOptional t m P y a b
    → ((mark_at t a ≡ m) × ((x : A) × (n : ℕ) × P x a n × ((y ≡ Some x) × (b ≡ n)))) ⊎ ((mark_at t a ≢ m) × ((y ≡ None) × (b ≡ a)))
optional_as t m P a None b (none, e) = inr (none, (refl, e))
optional_as t m P a (Some x) b (is, q) = inl (is, (x, b, q, (refl, refl)))

-- x?
pub law_optional : {A : Type 0} (base : ℕ) (t u : List Lexeme) (d a : ℕ) → Start base t d a → (m : Terminal) → same m marks.Nothing ≡ false → (r s : ℕ → Read A) (P : A → ℕ → ℕ → Type 0)
    → (mark_at t a ≡ m → Law base t u a (r a) (s a) (λ x b. P x a b))
    → Law base t u a (optional_at t m r a) (optional_at u m s a) (λ x b. IsOptional t m P x a b)
unfolding optional_at
law_optional {A} base t u d a st m some r s P k =
    let found = λ (is : mark_at t a ≡ m). law_bind base t u d a st (r a) (s a) (λ x. good (Some x.0, x.1)) (λ x. good (Some x.0, x.1)) (λ x b. P x a b) (λ x n y b. (y ≡ Some x) × (b ≡ n)) (k is)
    (λ x n q ge there. law_found base t u n n (Some x) (Some x) (omega arith) there.inside (λ b. refl)) in
    let none : Law base t u a (good {A = Option A × ℕ} (None, a)) (good (None, a)) (λ y b. (y ≡ None) × (b ≡ a)) = law_found base t u a a None None (omega arith) st.inside (λ b. refl) in
    let both = law_choice base t u a m some _ _ _ _ (λ y b. (mark_at t a ≡ m) × ((x : A) × (n : ℕ) × P x a n × ((y ≡ Some x) × (b ≡ n)))) (λ y b. (mark_at t a ≢ m) × ((y ≡ None) × (b ≡ a)))
    (λ is in_it. law_as base t u a _ _ _ _ (found is) (λ y b h. (is, h)) (λ y b h. h.1))
    (λ other. law_as base t u a _ _ _ _ none (λ y b h. (other, h)) (λ y b h. h.1)) (λ y b h. h.0) (λ y b h. h.0) in
    law_as base t u a _ _ _ _ both
    (λ y b h. elim h [
      | inl (is, (x, n, q, (e, f))) ↦ subst (λ v. IsOptional t m P v a b) (sym e) (is, subst (λ v. P x a v) (sym f) q)
      | inr (none, (e, f)) ↦ subst (λ v. IsOptional t m P v a b) (sym e) (none, f)
    ])
    (optional_as t m P a)

pub law_same : {A : Type 0} (base : ℕ) (t u : List Lexeme) (a : ℕ) (o q p : Read A) (P : A → ℕ → Type 0) → o ≡ q → Law base t u a q p P → Law base t u a o p P
law_same {A} base t u a o q p P e l = subst (λ (r : Read A). Law base t u a r p P) (sym e) l

-- in the others the same is read by another way
pub law_there : {A : Type 0} (base : ℕ) (t u : List Lexeme) (a : ℕ) (o p q : Read A) (P : A → ℕ → Type 0) → Law base t u a o q P → (Begins t u (reach t o) → p ≡ q) → Law base t u a o p P
law_there base t u a o p q P l e = record {
  sound = l.sound;
  complete = l.complete;
  steady = record { ahead = l.steady.ahead; same_read = λ b. e b ∙ l.steady.same_read b };
}

pub begins_inside : (t u : List Lexeme) (a n : ℕ) → a ≤ length t → a ≤ n → Begins t u n → a ≤ length u
begins_inside t u zero n h k b = omega arith
begins_inside t u (suc m) n h k b =
    elim (slice_get_cases t m).1 [
      | inl (x, inside, e, d) ↦ let there : slice_get u m ≡ Some x = b m (omega (arith, k)) ∙ e in let r = slice_get_within u m x there in omega (arith, r)
      | inr (past, e) ↦ absurd (omega (arith, past, h))
    ]

pub left_out_steady : {A : Type 0} (base : ℕ) (t u : List Lexeme) (a : ℕ) → a ≤ length t → Steady {A = A} base t u a (bad (Unsupported a)) (bad (Unsupported a))
left_out_steady base t u a h = record { ahead = (omega arith, h, record { refused = λ _. refl; deep = λ e. absurd (true_false (sym e)) }); same_read = λ b. refl }

-- what is read where no token of that mark stands
pub law_unless : {A : Type 0} (base : ℕ) (t u : List Lexeme) (a : ℕ) → a ≤ length t → (m : Terminal) (o p : Read A) (P : A → ℕ → Type 0) → (mark_at t a ≢ m → Law base t u a o p P)
    → Law base t u a (unless_at t m a o) (unless_at u m a p) (λ x b. (mark_at t a ≢ m) × P x b)
law_unless base t u a inside m o p P k = record {
  sound = λ x b e. elim (if-cases (same (mark_at t a) m) _ _ _ e) [
    | inl h ↦ bad_good (Unsupported a) (x, b) h.1
    | inr h ↦ (not_mark _ _ h.0, (k (not_mark _ _ h.0)).sound x b h.1)
  ];
  complete = λ x b (other, q). else_of _ _ _ _ (apart_of _ _ other) ((k other).complete x b q);
  steady = st_look base t u a (λ n. if same n m then bad (Unsupported a) else o) (λ n. if same n m then bad (Unsupported a) else p)
      (λ n is. st_if base t u a (same n m) _ _ _ _ (λ hit. left_out_steady base t u a inside) (λ miss. (k (λ h. not_mark _ _ miss (sym is ∙ h))).steady));
}

-- What readers that take a token at least read, and choices among them.
use Rattle.std.proofs.Common.{◌≡◌, ◌≢◌, ℕ, ◌+◌, ◌<◌, ◌≤◌, ◌⊎◌, inl, inr, Bool, true, false, if◌then◌else◌, List, [], ◌∷◌, length, sym, ap, ◌∙◌, refl, arith}
use Rattle.v_lexer.specs.Lexeme.{Lexeme}
use Rattle.v_lexer.specs.declared.types.terminal.Terminal.{Terminal}
use Rattle.v_lexer.specs.declared.types.terminal.Terminal.TheVariants as marks
use Rattle.v_tree.specs.Marks.{mark_at, same}
use Rattle.v_tree.specs.Reading.{Read, ◌>>=◌, expect, lower}
use Rattle.v_tree.proofs.MarkLemmas.{same_of}
use Rattle.v_tree.proofs.PlaceLemmas.{marked_inside}
use Rattle.v_tree.proofs.BindLemmas.{good, bind-inv, true_false}
use Rattle.v_tree.proofs.CompleteLemmas.{step, then_of}
use Rattle.v_tree.proofs.SteadyLemmas.{st_bind, st_look, not_by}
use Rattle.v_parts.proofs.Laws.{Start, Law, later, lower_start, ahead_of, law_as, law_bind, law_token, law_expect, law_open, law_choice}

-- what is found ends at a place from a on
pub ends_from : {A : Type 0} (base : ℕ) (t u : List Lexeme) (a : ℕ) (o p : Read A) (P : A → ℕ → Type 0) → Law base t u a o p P → (x : A) (b : ℕ) → P x b → a ≤ b
ends_from base t u a o p P l x b q = (ahead_of base t a o (x, b) (l.complete x b q) l.steady.ahead).0

-- what has a law, and takes a token at least
pub record Taking {A : Type 0} (base : ℕ) (t u : List Lexeme) (a : ℕ) (o p : Read A) (P : A → ℕ → Type 0) : Type 0 where
  pub law : Law base t u a o p P
  pub takes : (x : A) (b : ℕ) → P x b → a < b

abbrev pub TakingFrom : {A : Type 0} → ℕ → List Lexeme → List Lexeme → ℕ → (ℕ → Read A) → (ℕ → Read A) → (A → ℕ → ℕ → Type 0) → Type 0
TakingFrom base t u d r s P = (a : ℕ) → Start base t d a → Taking base t u a (r a) (s a) (λ x b. P x a b)

pub taking_open : {B : Type 0} (base : ℕ) (t u : List Lexeme) (d a : ℕ) → Start base t d a → (m : Terminal) → same m marks.Refused ≡ false → same m marks.Nothing ≡ false → mark_at t a ≡ m
    → (f g : ℕ → Read B) (Q : ℕ → B → ℕ → Type 0)
    → ((n : ℕ) → n + 1 ≡ d → Start base t n (a + 1) → Law base t u (a + 1) (f n) (g n) (Q n))
    → Taking base t u a (lower d a >>= f) (lower d a >>= g) (λ y b. (n : ℕ) × (n + 1 ≡ d) × (mark_at t a ≡ m) × Q n y b)
taking_open base t u d a s m allowed some is f g Q k =
    let here = marked_inside t a (λ gone. not_by m marks.Nothing some (sym is ∙ gone)) in
    record {
      law = law_open base t u d a s m allowed some is f g Q k;
      takes = λ y b (n, low, h, q). let more = ends_from base t u (a + 1) (f n) (g n) (Q n) (k n low (lower_start base t d n a (a + 1) low s (omega arith) (omega (arith, here)))) y b q in omega (arith, more);
    }

pub taking_expect : {B : Type 0} (base : ℕ) (t u : List Lexeme) (d a : ℕ) → Start base t d a → (m : Terminal) → same m marks.Nothing ≡ false → (f g : ℕ → Read B) (Q : B → ℕ → Type 0)
    → (mark_at t a ≡ m → Start base t d (a + 1) → Law base t u (a + 1) (f (a + 1)) (g (a + 1)) Q)
    → Taking base t u a (expect t m a >>= f) (expect u m a >>= g) (λ y b. (mark_at t a ≡ m) × Q y b)
taking_expect base t u d a s m some f g Q k = record {
  law = law_expect base t u d a s m some f g Q k;
  takes = λ y b (is, q).
      let here = marked_inside t a (λ gone. not_by m marks.Nothing some (sym is ∙ gone)) in
      let more = ends_from base t u (a + 1) (f (a + 1)) (g (a + 1)) Q (k is (later base t d a (a + 1) s (omega arith) (omega (arith, here)))) y b q in
      omega (arith, more);
}

pub taking_token : {B : Type 0} (base : ℕ) (t u : List Lexeme) (a : ℕ) → a ≤ length t → (m : Terminal) → same m marks.Nothing ≡ false → (f g : ℕ → Read B) (Q : B → ℕ → Type 0)
    → (mark_at t a ≡ m → a + 1 ≤ length t → Law base t u (a + 1) (f (a + 1)) (g (a + 1)) Q)
    → Taking base t u a (expect t m a >>= f) (expect u m a >>= g) (λ y b. (mark_at t a ≡ m) × Q y b)
taking_token base t u a inside m some f g Q k = record {
  law = law_token base t u a inside m some f g Q k;
  takes = λ y b (is, q).
      let here = marked_inside t a (λ gone. not_by m marks.Nothing some (sym is ∙ gone)) in
      let more = ends_from base t u (a + 1) (f (a + 1)) (g (a + 1)) Q (k is (omega (arith, here))) y b q in
      omega (arith, more);
}

-- one part behind another that takes a token, where the nesting that is left is enough from the token behind the first on
pub law_bind_past : {A B : Type 0} (base : ℕ) (t u : List Lexeme) (d a : ℕ) → Start base t d (a + 1) → (o p : Read A) (f g : A × ℕ → Read B) (P : A → ℕ → Type 0) (Q : A → ℕ → B → ℕ → Type 0)
    → Taking base t u a o p P → ((x : A) (m : ℕ) → P x m → a < m → Start base t d m → Law base t u m (f (x, m)) (g (x, m)) (Q x m))
    → Law base t u a (o >>= f) (p >>= g) (λ y b. (x : A) × (m : ℕ) × P x m × Q x m y b)
law_bind_past {A} {B} base t u d a s o p f g P Q l k =
    let on = λ (x : A × ℕ) (e : o ≡ good x) (q : P x.0 x.1).
    let h = ahead_of base t a o x e l.law.steady.ahead in
    let past = l.takes x.0 x.1 q in
    k x.0 x.1 q past (later base t d (a + 1) x.1 s (omega (arith, past)) h.1) in
    record {
      sound = λ y b e.
          let i = bind-inv o f (y, b) e in
          let q = l.law.sound i.0.0 i.0.1 i.1 in
          (i.0.0, i.0.1, q, (on i.0 i.1 q).sound y b i.2);
      complete = λ y b (x, m, q, r).
          let e = l.law.complete x m q in
          step o (x, m) f (good (y, b)) e ((on (x, m) e q).complete y b r);
      steady = st_bind base t u a o p f g l.law.steady (λ x ge le e. (on x e (l.law.sound x.0 x.1 e)).steady);
    }

pub taking_bind : {A B : Type 0} (base : ℕ) (t u : List Lexeme) (d a : ℕ) → Start base t d a → (o p : Read A) (f g : A × ℕ → Read B) (P : A → ℕ → Type 0) (Q : A → ℕ → B → ℕ → Type 0)
    → Taking base t u a o p P → ((x : A) (m : ℕ) → P x m → a ≤ m → Start base t d m → Law base t u m (f (x, m)) (g (x, m)) (Q x m))
    → Taking base t u a (o >>= f) (p >>= g) (λ y b. (x : A) × (m : ℕ) × P x m × Q x m y b)
taking_bind {A} {B} base t u d a s o p f g P Q l k = record {
  law = law_bind base t u d a s o p f g P Q l.law k;
  takes = λ y b (x, m, q, r).
      let first = l.takes x m q in
      let h = ahead_of base t a o (x, m) (l.law.complete x m q) l.law.steady.ahead in
      let rest = ends_from base t u m (f (x, m)) (g (x, m)) (Q x m) (k x m q h.0 (later base t d a m s h.0 h.1)) y b r in
      omega (arith, first, rest);
}

-- a part that may be empty, and behind it one that takes a token
pub taking_after : {A B : Type 0} (base : ℕ) (t u : List Lexeme) (d a : ℕ) → Start base t d a → (o p : Read A) (f g : A × ℕ → Read B) (P : A → ℕ → Type 0) (Q : A → ℕ → B → ℕ → Type 0)
    → Law base t u a o p P → ((x : A) (m : ℕ) → P x m → a ≤ m → Start base t d m → Taking base t u m (f (x, m)) (g (x, m)) (Q x m))
    → Taking base t u a (o >>= f) (p >>= g) (λ y b. (x : A) × (m : ℕ) × P x m × Q x m y b)
taking_after {A} {B} base t u d a s o p f g P Q l k = record {
  law = law_bind base t u d a s o p f g P Q l (λ x m q ge st. (k x m q ge st).law);
  takes = λ y b (x, m, q, r).
      let h = ahead_of base t a o (x, m) (l.complete x m q) l.steady.ahead in
      let rest = (k x m q h.0 (later base t d a m s h.0 h.1)).takes y b r in
      omega (arith, h.0, rest);
}

pub taking_as : {A : Type 0} (base : ℕ) (t u : List Lexeme) (a : ℕ) (o p : Read A) (P Q : A → ℕ → Type 0) → Taking base t u a o p P
    → ((x : A) (b : ℕ) → P x b → Q x b) → ((x : A) (b : ℕ) → Q x b → P x b) → Taking base t u a o p Q
taking_as base t u a o p P Q l to from = record { law = law_as base t u a o p P Q l.law to from; takes = λ x b q. l.takes x b (from x b q) }

-- the marks that alternatives begin with
abbrev pub one_of : List Terminal → Terminal → Bool
one_of [] k = false
one_of (m ∷ ms) k = if same k m then true else one_of ms k

abbrev pub Tells : {A : Type 0} → List Lexeme → ℕ → List Terminal → (A → ℕ → Type 0) → Type 0
Tells {A} t a ms P = (x : A) (b : ℕ) → P x b → one_of ms (mark_at t a) ≡ true

pub tells_one : {A : Type 0} (t : List Lexeme) (a : ℕ) (m : Terminal) (P : A → ℕ → Type 0) → ((x : A) (b : ℕ) → P x b → mark_at t a ≡ m) → Tells t a (m ∷ []) P
tells_one t a m P h x b q = then_of _ _ _ _ (same_of _ _ (h x b q)) refl

by_first : (b c : Bool) → c ≡ true → (if b then true else c) ≡ true
by_first true c e = refl
by_first false c e = e

pub tells_more : {A : Type 0} (t : List Lexeme) (a : ℕ) (m : Terminal) (ms : List Terminal) (P Q : A → ℕ → Type 0) → ((x : A) (b : ℕ) → P x b → mark_at t a ≡ m) → Tells t a ms Q → Tells t a (m ∷ ms) (λ x b. P x b ⊎ Q x b)
tells_more t a m ms P Q h k x b s = elim s [
  | inl p ↦ then_of _ _ _ _ (same_of _ _ (h x b p)) refl
  | inr q ↦ by_first (same (mark_at t a) m) _ (k x b q)
]

-- one more alternative, before others that begin with other marks
pub taking_or : {A : Type 0} (base : ℕ) (t u : List Lexeme) (a : ℕ) (m : Terminal) (ms : List Terminal) → same m marks.Nothing ≡ false → one_of ms m ≡ false → (o p q r : Read A) (P Q : A → ℕ → Type 0)
    → ((x : A) (b : ℕ) → P x b → mark_at t a ≡ m) → Tells t a ms Q
    → (mark_at t a ≡ m → a < length t → Taking base t u a o q P) → (mark_at t a ≢ m → Taking base t u a p r Q)
    → Taking base t u a (if same (mark_at t a) m then o else p) (if same (mark_at u a) m then q else r) (λ x b. P x b ⊎ Q x b)
taking_or {A} base t u a m ms some apart o p q r P Q tells others k l =
    let other = λ (x : A) (b : ℕ) (h : Q x b) (e : mark_at t a ≡ m). true_false (sym (others x b h) ∙ ap (one_of ms) e ∙ apart) in
    record {
      law = law_choice base t u a m some o p q r P Q (λ is here. (k is here).law) (λ none. (l none).law) tells other;
      takes = λ x b h. elim h [
        | inl h ↦ (k (tells x b h) (marked_inside t a (λ gone. not_by m marks.Nothing some (sym (tells x b h) ∙ gone)))).takes x b h
        | inr h ↦ (l (other x b h)).takes x b h
      ];
    }

-- a choice by the kind of the token at a, which each alternative tells
pub taking_kind : {K A : Type 0} (base : ℕ) (t u : List Lexeme) (a : ℕ) (kind : Terminal → K) (f g : K → Read A) (P : K → A → ℕ → Type 0) (Q : A → ℕ → Type 0)
    → ((k : K) → kind (mark_at t a) ≡ k → Taking base t u a (f k) (g k) (P k))
    → ((k : K) (x : A) (b : ℕ) → P k x b → Q x b) → ((x : A) (b : ℕ) → Q x b → P (kind (mark_at t a)) x b)
    → Taking base t u a (f (kind (mark_at t a))) (g (kind (mark_at u a))) Q
taking_kind base t u a kind f g P Q by to from =
    let here = by (kind (mark_at t a)) refl in
    record {
      law = record {
        sound = λ x b e. to (kind (mark_at t a)) x b (here.law.sound x b e);
        complete = λ x b q. here.law.complete x b (from x b q);
        steady = st_look base t u a (λ m. f (kind m)) (λ m. g (kind m)) (λ m is. (by (kind m) (ap kind is)).law.steady);
      };
      takes = λ x b q. here.takes x b (from x b q);
    }

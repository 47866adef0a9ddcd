-- What a step that succeeds says of its parts.
use Rattle.std.proofs.Common.{◌≡◌, ◌≢◌, ℕ, ◌+◌, ◌-◌, ◌<◌, ◌≤◌, ◌⊎◌, inl, inr, Bool, true, false, if◌then◌else◌, List, Ok, Err, Result, sym, ap, ◌∙◌, subst, refl, arith, nat_lt, ◌==◌, eq-eqb, ltb-true}
use Rattle.loc_base.proofs.ShelfBools.{if-cases}
use Rattle.v_lexer.specs.Lexeme.{Lexeme}
use Rattle.v_lexer.specs.declared.types.terminal.Terminal.{Terminal}
use Rattle.v_tree.specs.declared.fault.Fault.{Fault}
use Rattle.v_tree.specs.declared.fault.Fault.TheVariants.{Deep}
use Rattle.v_tree.specs.Marks.{mark_at, same}
use Rattle.v_tree.specs.Faults.{no_place}
use Rattle.v_tree.specs.Reading.{◌>>=◌, lower, above, expect}
use Rattle.v_tree.proofs.MarkLemmas.{same_true, same_of}

abbrev pub good : {A : Type 0} → A → Result A Fault
good x = Ok x

abbrev pub bad : {A : Type 0} → Fault → Result A Fault
bad f = Err f

pub true_false : true ≡ false → ⊥
true_false e = let h : true ≡ false = e in cc

pub ok-one : {A : Type 0} (x y : A) → good x ≡ good y → x ≡ y
ok-one x y e = cc

pub bad_good : {A : Type 0} {P : Type 0} (f : Fault) (y : A) → bad f ≡ good y → P
bad_good f y e = absurd (let h : bad f ≡ good y = e in cc)

pub bind-inv : {A B : Type 0} (r : Result A Fault) (f : A → Result B Fault) (y : B) → (r >>= f) ≡ Ok y → (x : A) × (r ≡ Ok x) × (f x ≡ Ok y)
bind-inv (Ok x) f y e = (x, refl, e)
bind-inv (Err g) f y e = bad_good g y e

-- what was found is what is said of
pub from_ok : {A : Type 0} (P : A → ℕ → Type 0) (x y : A) (b c : ℕ) → good {A = A × ℕ} (x, b) ≡ good {A = A × ℕ} (y, c) → P x b → P y c
from_ok {A} P x y b c e p = subst (λ (q : A × ℕ). P q.0 q.1) (ok-one (x, b) (y, c) e) p

pub lower-inv : (d a n : ℕ) → lower d a ≡ Ok n → n + 1 ≡ d
lower-inv d a n e =
    elim (if-cases (d == 0) _ _ _ e) [
      | inl p ↦ bad_good (Deep a) n p.1
      | inr p ↦
          let h : d - 1 ≡ n = ok-one _ _ p.1 in
          let some : d ≢ 0 = λ z. true_false (sym (eq-eqb d 0 z) ∙ p.0) in
          omega (arith, h, some)
    ]

pub above-inv : (levels_left used a n : ℕ) → above levels_left used a ≡ Ok n → (n + 1 ≡ levels_left) × (used ≤ n)
above-inv levels_left used a n e =
    elim (if-cases (nat_lt used levels_left) _ _ _ e) [
      | inl p ↦ let less : used < levels_left = ltb-true _ _ p.0 in let h : levels_left - 1 ≡ n = ok-one _ _ p.1 in (omega (arith, less, h), omega (arith, less, h))
      | inr p ↦ bad_good (Deep a) n p.1
    ]

pub expect-inv : (t : List Lexeme) (m : Terminal) (a b : ℕ) → expect t m a ≡ Ok b → (mark_at t a ≡ m) × (b ≡ a + 1)
unfolding expect
expect-inv t m a b e =
    elim (if-cases (same (mark_at t a) m) _ _ _ e) [
      | inl p ↦ (same_true _ _ p.0, sym (ok-one _ _ p.1))
      | inr p ↦ bad_good (no_place t a) b p.1
    ]

pub expect-of : (t : List Lexeme) (m : Terminal) (a : ℕ) → mark_at t a ≡ m → expect t m a ≡ Ok (a + 1)
unfolding expect
expect-of t m a e = ap (λ (b : Bool). if b then Ok (a + 1) else Err (no_place t a)) (same_of _ _ e)

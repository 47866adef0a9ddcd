-- Two runs of the same steps that are not refused: what holds of both before each step holds behind it.
use Rattle.std.proofs.Common.{◌≡◌, ℕ, zero, suc, Bool, true, false, List, [], ◌∷◌, refl, sym, subst}
use Rattle.std.specs.Prelude.{Result, Ok, Err}
use Rattle.loc_base.specs.declared.span.Span.{Span}
use Rattle.v_sizes.specs.declared.meaning.Const.{Const}
use Rattle.v_hierarchy.specs.declared.error.ElabErr.{ElabErr}
use Rattle.v_hierarchy.specs.Steps.{◌>>=◌, each}
use Rattle.v_hierarchy.specs.Unrolled.{turns}

pub Ok-same : {A : Type 0} {x y : A} → ◌≡◌ {A = Result A ElabErr} (Ok x) (Ok y) → x ≡ y
Ok-same is = cc

-- a refusal is no answer
pub Err-Ok : {A P : Type 0} {e : ElabErr} {x : A} → ◌≡◌ {A = Result A ElabErr} (Err e) (Ok x) → P
Err-Ok is = cc

-- one step that both take from the same
pub both : {A B C : Type 0} (r : Result A ElabErr) (f : A → Result B ElabErr) (g : A → Result C ElabErr) (x : B) (y : C) (P : Type 0)
    → r >>= f ≡ Ok x → r >>= g ≡ Ok y → ((a : A) → f a ≡ Ok x → g a ≡ Ok y → P) → P
both (Ok a) f g x y P one other then = then a one other
both (Err e) f g x y P one other then = Err-Ok one

-- one step that each takes by itself
pub apart : {A A' B C : Type 0} (r : Result A ElabErr) (s : Result A' ElabErr) (f : A → Result B ElabErr) (g : A' → Result C ElabErr) (x : B) (y : C) (P : Type 0)
    → r >>= f ≡ Ok x → s >>= g ≡ Ok y → ((a : A) (b : A') → r ≡ Ok a → s ≡ Ok b → f a ≡ Ok x → g b ≡ Ok y → P) → P
apart (Ok a) (Ok b) f g x y P one other then = then a b refl refl one other
apart (Ok a) (Err e) f g x y P one other then = Err-Ok other
apart (Err e) s f g x y P one other then = Err-Ok one

-- the end of both
pub ended : {A : Type 0} (R : A → A → Type 0) (u v a b : A) → ◌≡◌ {A = Result A ElabErr} (Ok u) (Ok a) → ◌≡◌ {A = Result A ElabErr} (Ok v) (Ok b) → R u v → R a b
ended R u v a b one other holds = subst (λ x. R x b) (Ok-same one) (subst (λ y. R u y) (Ok-same other) holds)

-- a list of steps
pub each-runs : {A S : Type 0} (R : S → S → Type 0) (f g : A → S → Result S ElabErr)
    → ((x : A) (m n a b : S) → R m n → f x m ≡ Ok a → g x n ≡ Ok b → R a b)
    → (xs : List A) (m n a b : S) → R m n → each f xs m ≡ Ok a → each g xs n ≡ Ok b → R a b
each-runs R f g step [] m n a b holds one other = ended R m n a b one other holds
each-runs R f g step (x ∷ xs) m n a b holds one other =
    apart (f x m) (g x n) (each f xs) (each g xs) a b (R a b) one other λ p q first second one other.
    each-runs R f g step xs p q a b (step x m n p q holds first second) one other

-- the turns of a loop, which begin alike: `T` holds of both where a turn is counted and not yet met
pub turns-run : {S : Type 0} (R T : S → S → Type 0) (span : Span) (count : S → Result S ElabErr) (f g : Const → S → Result S ElabErr)
    (next : Const → Result (Const × Bool) ElabErr)
    → ((m n a b : S) → R m n → count m ≡ Ok a → count n ≡ Ok b → T a b)
    → ((value : Const) (m n a b : S) → T m n → f value m ≡ Ok a → g value n ≡ Ok b → R a b)
    → (most : ℕ) (value : Const) (runs : Bool) (m n a b : S) → R m n
    → turns most span count f next (value, runs) m ≡ Ok a → turns most span count g next (value, runs) n ≡ Ok b → R a b
turns-run R T span count f g next counts body most value false m n a b holds one other = ended R m n a b one other holds
turns-run R T span count f g next counts body zero value true m n a b holds one other = Err-Ok one
turns-run R T span count f g next counts body (suc most) value true m n a b holds one other =
    apart (count m) (count n) _ _ a b (R a b) one other λ p q first second one other.
    apart (f value p) (g value q) _ _ a b (R a b) one other λ c d met_one met_other one other.
    both (next value) _ _ a b (R a b) one other λ following one other.
    turns-run R T span count f g next counts body most following.0 following.1 c d a b
    (body value p q c d (counts m n p q holds first second) met_one met_other) one other

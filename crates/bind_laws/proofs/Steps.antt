-- What holds before steps that are not refused holds behind them.
use Rattle.std.proofs.Common.{◌≡◌, ℕ, zero, suc, Bool, true, false, List, [], ◌∷◌, refl, subst}
use Rattle.std.specs.Prelude.{Result, Ok, Err}
use Rattle.loc_base.specs.declared.span.Span.{Span}
use Rattle.v_sizes.specs.declared.meaning.Const.{Const}
use Rattle.v_hierarchy.specs.declared.error.ElabErr.{ElabErr}
use Rattle.v_hierarchy.specs.Steps.{◌>>=◌, each}
use Rattle.v_hierarchy.specs.Unrolled.{turns}

pub Ok-same : {A : Type 0} {x y : A} → ◌≡◌ {A = Result A ElabErr} (Ok x) (Ok y) → x ≡ y
Ok-same is = cc

-- a refusal is no answer
pub Err-Ok : {A P : Type 0} {e : ElabErr} {x : A} → ◌≡◌ {A = Result A ElabErr} (Err e) (Ok x) → P
Err-Ok is = cc

-- a step, and what its answer leads to
pub between : {A B : Type 0} (r : Result A ElabErr) (f : A → Result B ElabErr) (y : B) (P : Type 0) → r >>= f ≡ Ok y → ((a : A) → r ≡ Ok a → f a ≡ Ok y → P) → P
between (Ok a) f y P is then = then a refl is
between (Err e) f y P is then = Err-Ok is

-- the last one
pub ended : {A : Type 0} (P : A → Type 0) (x y : A) → ◌≡◌ {A = Result A ElabErr} (Ok x) (Ok y) → P x → P y
ended P x y is holds = subst P (Ok-same is) holds

pub each-keeps : {A S : Type 0} (P : S → Type 0) (step : A → S → Result S ElabErr) → ((x : A) (m n : S) → P m → step x m ≡ Ok n → P n)
    → (xs : List A) (m n : S) → P m → each step xs m ≡ Ok n → P n
each-keeps P step keeps [] m n holds is = ended P m n is holds
each-keeps P step keeps (x ∷ xs) m n holds is =
    between (step x m) (each step xs) n (P n) is λ p first rest. each-keeps P step keeps xs p n (keeps x m p holds first) rest

-- the turns of a loop, of whose values `Q` holds
pub turns-keep : {S : Type 0} (P : S → Type 0) (Q : Const → Type 0) (span : Span) (count : S → Result S ElabErr) (body : Const → S → Result S ElabErr)
    (next : Const → Result (Const × Bool) ElabErr)
    → ((m n : S) → P m → count m ≡ Ok n → P n)
    → ((value : Const) (m n : S) → Q value → P m → body value m ≡ Ok n → P n)
    → ((value : Const) (following : Const × Bool) → Q value → next value ≡ Ok following → Q following.0)
    → (most : ℕ) (value : Const) (runs : Bool) (m n : S) → Q value → P m → turns most span count body next (value, runs) m ≡ Ok n → P n
turns-keep P Q span count body next counts meets steps most value false m n of_value holds is = ended P m n is holds
turns-keep P Q span count body next counts meets steps zero value true m n of_value holds is = Err-Ok is
turns-keep P Q span count body next counts meets steps (suc most) value true m n of_value holds is =
    between (count m) _ n (P n) is λ p counted is.
    between (body value p) _ n (P n) is λ q met is.
    between (next value) _ n (P n) is λ following stepped is.
    turns-keep P Q span count body next counts meets steps most following.0 following.1 q n (steps value following of_value stepped)
    (meets value p q of_value (counts m p holds counted) met) is

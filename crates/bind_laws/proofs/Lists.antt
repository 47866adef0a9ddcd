-- Lists that begin others, what each element is, and steps that may be refused.
use Rattle.std.proofs.Common.{◌≡◌, Bool, true, List, [], ◌∷◌, ◌++◌, length, Some, refl, ◌∙◌, ap, subst, append_assoc}
use Rattle.std.specs.Prelude.{slice_get, Result, Ok, Err}
use Rattle.std.specs.List.{list_all}
use Rattle.std.proofs.lemmas.Bool.{and_parts, and_from}
use Rattle.v_binding.specs.declared.error.BindErr.{BindErr}
use Rattle.v_binding.specs.Steps.{◌>>=◌, each}
use Rattle.bind_laws.specs.Every.{Every}
use Rattle.bind_laws.specs.Fit.{Begins}

-- ---- each element
pub Every-append : {A : Type 0} (P : A → Type 0) (xs ys : List A) → Every P xs → Every P ys → Every P (xs ++ ys)
Every-append P [] ys all others = others
Every-append P (x ∷ xs) ys all others = (all.0, Every-append P xs ys all.1 others)

pub Every-push : {A : Type 0} (P : A → Type 0) (xs : List A) (x : A) → Every P xs → P x → Every P (xs ++ x ∷ [])
Every-push P xs x all one = Every-append P xs (x ∷ []) all (one, tt)

pub list_all-push : {X : Type 0} (test : X → Bool) (xs : List X) (x : X) → list_all test xs ≡ true → test x ≡ true
    → list_all test (xs ++ x ∷ []) ≡ true
list_all-push test [] x all one = and_from _ _ one refl
list_all-push test (y ∷ ys) x all one = let f = and_parts _ _ all in and_from _ _ f.0 (list_all-push test ys x f.1 one)

-- ---- lists that begin others
pub begins-itself : {X : Type 0} (xs : List X) → Begins xs xs
begins-itself xs = record { rest = []; is = all xs }
  where
    all : {X : Type 0} (xs : List X) → xs ≡ xs ++ []
    all [] = refl
    all (x ∷ xs) = ap (λ ys. x ∷ ys) (all xs)

-- what begins a front begins the whole
pub begins-front : {X : Type 0} (xs more ys : List X) → Begins (xs ++ more) ys → Begins xs ys
begins-front xs more ys b = record { rest = more ++ b.rest; is = b.is ∙ append_assoc xs more b.rest }

pub begins-more : {X : Type 0} (xs more : List X) → Begins xs (xs ++ more)
begins-more xs more = record { rest = more; is = refl }

pub begins-through : {X : Type 0} (xs ys zs : List X) → Begins xs ys → Begins ys zs → Begins xs zs
begins-through xs ys zs one other =
    record { rest = one.rest ++ other.rest; is = other.is ∙ ap (λ front. front ++ other.rest) one.is ∙ append_assoc xs one.rest other.rest }

at-end : {X : Type 0} (xs : List X) (x : X) (rest : List X) → slice_get ((xs ++ x ∷ []) ++ rest) (length xs) ≡ Some x
at-end [] x rest = refl
at-end (y ∷ ys) x rest = at-end ys x rest

-- the last of a front
pub begins-at : {X : Type 0} (xs : List X) (x : X) (ys : List X) → Begins (xs ++ x ∷ []) ys
    → slice_get ys (length xs) ≡ Some x
begins-at xs x ys b = ap (λ whole. slice_get whole (length xs)) b.is ∙ at-end xs x b.rest

-- ---- steps that may be refused
pub Ok-same : {A : Type 0} {x y : A} → ◌≡◌ {A = Result A BindErr} (Ok x) (Ok y) → x ≡ y
Ok-same is = cc

pub Err-Ok : {A P : Type 0} {e : BindErr} {x : A} → ◌≡◌ {A = Result A BindErr} (Err e) (Ok x) → P
Err-Ok is = cc

-- what a step gave that is not refused, and what it led to
pub between : {A B : Type 0} (r : Result A BindErr) (f : A → Result B BindErr) (x : B) (P : Type 0)
    → r >>= f ≡ Ok x → ((a : A) → r ≡ Ok a → f a ≡ Ok x → P) → P
between (Ok a) f x P is then = then a refl is
between (Err e) f x P is then = Err-Ok is

-- a relation of what stood before and behind that each step keeps
pub each-keeps : {A S : Type 0} (R : S → S → Type 0) (Q : A → Type 0) (f : A → S → Result S BindErr)
    → ((m : S) → R m m) → ((l m n : S) → R l m → R m n → R l n)
    → ((x : A) (m n : S) → Q x → f x m ≡ Ok n → R m n)
    → (xs : List A) (m n : S) → Every Q xs → each f xs m ≡ Ok n → R m n
each-keeps R Q f same through step [] m n all is = subst (R m) (Ok-same is) (same m)
each-keeps R Q f same through step (x ∷ xs) m n all is =
    between (f x m) (each f xs) n (R m n) is λ k first rest.
    through m k n (step x m k all.0 first) (each-keeps R Q f same through step xs k n all.1 rest)

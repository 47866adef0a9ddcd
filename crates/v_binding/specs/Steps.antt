-- What comes after what: the first step that is refused ends the walk.
use Rattle.std.specs.Prelude.{List, [], ◌∷◌, Result, Ok, Err}
use Rattle.v_binding.specs.declared.error.BindErr.{BindErr}

infixl 10 ◌>>=◌
-- a step, then what its answer leads to
abbrev pub ◌>>=◌ : {A B : Type 0} → Result A BindErr → (A → Result B BindErr) → Result B BindErr
(Ok x) >>= f = f x
(Err e) >>= f = Err e

-- one after another, each with what the one before it gave
abbrev pub each : {A S : Type 0} → (A → S → Result S BindErr) → List A → S → Result S BindErr
each step [] met = Ok met
each step (x ∷ xs) met = step x met >>= each step xs

-- the same where nothing is refused
abbrev pub through : {A S : Type 0} → (A → S → S) → List A → S → S
through step [] met = met
through step (x ∷ xs) met = through step xs (step x met)

-- What comes after what: the first step that is refused ends the walk. Turns of loops and module instances are counted over the
-- whole design, as many as may still be met.
use Rattle.std.specs.Prelude.{ℕ, zero, suc, List, [], ◌∷◌, Result, Ok, Err}
use Rattle.loc_base.specs.declared.span.Span.{Span}
use Rattle.v_hierarchy.specs.declared.error.ElabErr.{ElabErr}
use Rattle.v_hierarchy.specs.declared.error.ElabErr.TheVariants as fault
use Rattle.v_hierarchy.specs.declared.left.Left.{Left}

infixl 10 ◌>>=◌
abbrev pub ◌>>=◌ : {A B : Type 0} → Result A ElabErr → (A → Result B ElabErr) → Result B ElabErr
(Ok x) >>= f = f x
(Err e) >>= f = Err e

-- one after another, each with what the one before it gave
abbrev pub each : {A S : Type 0} → (A → S → Result S ElabErr) → List A → S → Result S ElabErr
each step [] met = Ok met
each step (x ∷ xs) met = step x met >>= each step xs

abbrev pub less_of : ℕ → Span → Result ℕ ElabErr
less_of zero span = Err (fault.Turns span)
less_of (suc n) span = Ok n

-- one turn more
abbrev pub turned : Span → Left → Result Left ElabErr
turned span left = less_of left.turns span >>= λ n. Ok (record { turns = n; instances = left.instances })

-- one instance more
abbrev pub placed : Span → Left → Result Left ElabErr
placed span left = less_of left.instances span >>= λ n. Ok (record { turns = left.turns; instances = n })

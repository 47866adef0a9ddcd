-- What a list says of its elements stays where more stand behind them: the width of a signal, and the position that an index names.
use Rattle.std.proofs.Common.{ℕ, zero, suc, ◌+◌, ◌≡◌, ◌<◌, List, [], ◌∷◌, ◌++◌, length, refl, ap, arith, true, Some, None, ◌≤◌}
use Rattle.std.specs.Prelude.{ℤ, slice_get}
use Rattle.std.specs.Option.{option_and_then, option_map_or}
use Rattle.std.proofs.lemmas.Bool.{ltb-true}
use Rattle.design_core.specs.declared.signal.Signal.{Signal}
use Rattle.design_core.specs.Valuation.{width_at, position_of, position_at}
use Rattle.design_core.specs.WellFormed.{is_signal}

pub slice_get-before : {X : Type 0} (xs ys : List X) (i : ℕ) → i < length xs → slice_get (xs ++ ys) i ≡ slice_get xs i
slice_get-before [] ys i below = absurd (omega (arith, below))
slice_get-before (x ∷ xs) ys zero below = refl
slice_get-before (x ∷ xs) ys (suc i) below = slice_get-before xs ys i (omega (arith, below))

-- an element behind the first list's
pub slice_get-behind : {X : Type 0} (xs ys : List X) (i : ℕ) → slice_get (xs ++ ys) (length xs + i) ≡ slice_get ys i
slice_get-behind [] ys i = ap (slice_get ys) (omega arith)
slice_get-behind (x ∷ xs) ys i =
    let at : length (x ∷ xs) + i ≡ suc (length xs + i) = omega arith in
    rw at (slice_get-behind xs ys i)

-- an element of the first list
pub slice_get-left : {X : Type 0} (xs ys : List X) (i : ℕ) (x : X) → slice_get xs i ≡ Some x → slice_get (xs ++ ys) i ≡ Some x
slice_get-left [] ys i x at = cc
slice_get-left (y ∷ xs) ys zero x at = at
slice_get-left (y ∷ xs) ys (suc i) x at = slice_get-left xs ys i x at

pub signal-below : (signals : List Signal) (s : ℕ) → is_signal signals s ≡ true → s < length signals
signal-below signals s is = ltb-true s (length signals) is

pub width_at-more : (signals hidden : List Signal) (s : ℕ) → s < length signals → width_at (signals ++ hidden) s ≡ width_at signals s
width_at-more signals hidden s below = ap (λ o. option_map_or (λ signal. signal.width) o 0) (slice_get-before signals hidden s below)

pub position_at-more : (signals hidden : List Signal) (s : ℕ) (index : ℤ) → s < length signals
    → position_at (signals ++ hidden) s index ≡ position_at signals s index
position_at-more signals hidden s index below = ap (option_and_then (λ signal. position_of signal index)) (slice_get-before signals hidden s below)

pub slice_get-none : {X : Type 0} (xs : List X) (i : ℕ) → length xs ≤ i → slice_get xs i ≡ None
slice_get-none [] i above = refl
slice_get-none (x ∷ xs) zero above = absurd (omega arith)
slice_get-none (x ∷ xs) (suc i) above = slice_get-none xs i (omega (arith, above))

-- The offsets of a part's bits, one more at the end.
use Rattle.std.proofs.Common.{◌≡◌, ℕ, suc, ◌+◌, [], ◌∷◌, ◌++◌, refl, ap, arith}
use Rattle.std.specs.Prelude.{ℤ}
use Rattle.v_sizes.specs.Sized.{offsets_to}

pub offsets-none : (offset : ℕ → ℤ) → offsets_to offset 0 ≡ []
unfolding offsets_to
offsets-none offset = refl

pub offsets-next : (offset : ℕ → ℤ) (n : ℕ) → offsets_to offset (n + 1) ≡ offsets_to offset n ++ offset n ∷ []
unfolding offsets_to
offsets-next offset n = let e : n + 1 ≡ suc n = omega arith in ap (offsets_to offset) e

pub ruleset listed = (offsets-none, offsets-next)

-- Lists of which each entry passes.
use Rattle.std.proofs.Common.{ℕ, zero, suc, ◌<◌, List, [], ◌∷◌, length, arith}
use Rattle.std.specs.Prelude.{All}

pub all-none : {X : Type 0} (P : X → Type 0) → All P []
all-none P i x low = absurd (omega (arith, low))

pub all-more : {X : Type 0} (P : X → Type 0) (first : X) (rest : List X) → P first → All P rest → All P (first ∷ rest)
all-more P first rest one all zero x low = one
all-more P first rest one all (suc i) x low = all i x (omega (arith, low))

pub ruleset list_rules = (all-none, all-more)

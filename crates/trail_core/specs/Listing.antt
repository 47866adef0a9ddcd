-- What contracts see of the list of the clauses that watch a literal.
use Rattle.std.specs.Prelude.{ℕ, List, []}

-- the numbers of the clauses, and how many of them have a place there
pub record Listing : Type 0 where
  pub numbers : List ℕ
  pub room : ℕ

-- no numbers, and no place for any
abbrev pub nothing : Listing
nothing = record { numbers = []; room = 0 }

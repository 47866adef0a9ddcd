-- The lists of single traces, and how they are joined: the values that a set is given are chosen for each trace by itself (Smith, Veneris,
-- Ali and Viglas, Fault diagnosis and logic debugging using Boolean satisfiability, IEEE TCAD 2005).
use Rattle.std.specs.Prelude.{ℕ, ◌≡◌, ◌≤◌, ◌==◌, Bool, true, ◌&&◌, IsTrue, List, [], ◌∷◌, length, All, AllPairs, Contains}
use Rattle.std.specs.List.{AllZip, list_all, list_any}
use Rattle.std.specs.List.Sorted.{IsStrictlyIncreasing}
use Rattle.design_core.specs.declared.design.Design.{Design}
use Rattle.design_core.specs.declared.trace.Trace.{Trace}
use Rattle.design_core.specs.Works.{Groups, IsWithin}
use Rattle.loc_base.specs.Sets.{is_before}
use Rattle.design_core.specs.Listing.{IsList}

-- for each trace, in order, the list of that trace alone
abbrev pub AreTraceLists : Design → List Trace → Groups → ℕ → List (List (List ℕ)) → Type 0
AreTraceLists d traces groups k lists = AllZip (λ trace list. IsList d (trace ∷ []) groups k list) traces lists

-- whether a set has a member
abbrev pub has : List ℕ → ℕ → Bool
has set member = list_any (λ m. m == member) set

-- whether each member of the one set is one of the other
abbrev pub is_within : List ℕ → List ℕ → Bool
is_within inner outer = list_all (has outer) inner

-- whether a set has within it a set of each list
abbrev pub has_one_of_each : List (List (List ℕ)) → List ℕ → Bool
has_one_of_each lists set = list_all (list_any (λ one. is_within one set)) lists

-- whether a set has the members of some sets, and no others
abbrev pub is_union_of : List (List ℕ) → List ℕ → Bool
is_union_of chosen set = list_all (λ one. is_within one set) chosen && list_all (λ m. list_any (λ one. has one m) chosen) set

-- a union of one set of each list
pub record IsUnion (lists : List (List (List ℕ))) (set : List ℕ) : Type 0 where
  pub ascending : IsStrictlyIncreasing set
  pub chosen : List (List ℕ)
  pub one_of_each : AllZip (λ list one. Contains list one) lists chosen
  pub union : is_union_of chosen set ≡ true

-- such a union, of at most k members, with no smaller one within it
pub record IsLeastUnion (k : ℕ) (lists : List (List (List ℕ))) (set : List ℕ) : Type 0 where
  pub union : IsUnion lists set
  pub size : length set ≤ k
  pub least : (inner : List ℕ) → IsUnion lists inner → IsWithin inner set → IsWithin set inner

-- the join of lists: their least unions of at most k members, each of them and nothing else, by size and then by members
pub record IsJoin (k : ℕ) (lists : List (List (List ℕ))) (sets : List (List ℕ)) : Type 0 where
  pub unions : All (IsLeastUnion k lists) sets
  pub ordered : AllPairs (λ one other. IsTrue (is_before one other)) sets
  pub complete : (set : List ℕ) → IsLeastUnion k lists set → Contains sets set

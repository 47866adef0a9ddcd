-- The search for the minimal sets: which candidates it has tried, and what it has found.
use Rattle.std.specs.Prelude.{ℕ, ◌≡◌, ◌≤◌, ◌-◌, ◌⊎◌, IsTrue, List, length, take, map, All, AllPairs, Contains}
use Rattle.design_core.specs.declared.design.Design.{Design}
use Rattle.design_core.specs.declared.trace.Trace.{Trace}
use Rattle.design_core.specs.declared.values.SetWithValues.{SetWithValues}
use Rattle.design_core.specs.Works.{IsWithin, Works}
use Rattle.loc_base.specs.Sets.{is_before}
use Rattle.design_core.specs.Listing.{IsEntry}
use Rattle.plain_list.specs.declared.search.PlainSearch.{PlainSearch}
use Rattle.plain_list.specs.Candidates.{candidates_of}
use Rattle.plain_list.specs.Groups.{groups_of}
use Rattle.design_core.specs.Explained.{Explains}
use Rattle.design_core.specs.Explained.{AreValuesOf}

-- the sets found so far, with their values
abbrev pub found_of : PlainSearch → List SetWithValues
found_of search = search.found.items

-- the sets alone
abbrev pub members_of : List SetWithValues → List (List ℕ)
members_of found = map (λ set. set.members) found

-- no set of the search has more members
abbrev pub size_of : PlainSearch → ℕ
size_of search = search.size

-- the candidates that the search is done with
abbrev pub passed_of : PlainSearch → List (List ℕ)
passed_of search = take search.at search.candidates.items

-- how many candidates it is not done with
abbrev pub left_of : PlainSearch → ℕ
left_of search = length search.candidates.items - search.at

-- a set contains one of some others
abbrev pub ContainsOne : List (List ℕ) → List ℕ → Type 0
ContainsOne sets set = (listed : List ℕ) × Contains sets listed × IsWithin listed set

-- a candidate that contains a listed set, or doesn't work
abbrev pub IsPassed : Design → List Trace → List (List ℕ) → List ℕ → Type 0
IsPassed d traces sets set = ContainsOne sets set ⊎ (¬ Works d traces (groups_of d) set)

-- a set that works, with values for it, and contains none of some others
pub record IsFresh (d : Design) (traces : List Trace) (sets : List (List ℕ)) (set : List ℕ) (new : SetWithValues) : Type 0 where
  pub members : new.members ≡ set
  pub apart : ¬ ContainsOne sets set
  pub values : Explains d traces (groups_of d) set new.values
  pub shape : AreValuesOf d traces (groups_of d) set new.values

pub record IsSearch (d : Design) (traces : List Trace) (search : PlainSearch) : Type 0 where
  -- the candidates are all sets of suspects up to the size
  pub candidates : search.candidates.items ≡ candidates_of (length d.places.items) search.size
  pub at : search.at ≤ length search.candidates.items
  pub passed : All (IsPassed d traces (members_of (found_of search))) (passed_of search)
  -- what is found are minimal sets among those passed, in order, with values
  pub among : All (Contains (passed_of search)) (members_of (found_of search))
  pub entries : All (IsEntry d traces (groups_of d) search.size) (members_of (found_of search))
  pub ordered : AllPairs (λ one other. IsTrue (is_before one other)) (members_of (found_of search))
  pub values : All (λ set. Explains d traces (groups_of d) set.members set.values) (found_of search)
  pub shapes : All (λ set. AreValuesOf d traces (groups_of d) set.members set.values) (found_of search)

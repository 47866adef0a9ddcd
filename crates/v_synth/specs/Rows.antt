-- Rows that have an entry for each signal, as code makes them; only private contracts cite it.
use Rattle.std.specs.Prelude.{ℕ, ◌≡◌, ◌<◌, ◌+◌, ◌==◌, Bool, false, if◌then◌else◌, List, [], ◌∷◌, length, get_or, Option, Some, None}
use Rattle.design_core.specs.declared.statement.CaseItem.{CaseItem}
use Rattle.design_core.specs.Drives.{assigns_later}

-- a row of numbers, one for each of so many signals
pub record IsRow (f : ℕ → ℕ) (count : ℕ) (row : List ℕ) : Type 0 where
  pub long : length row ≡ count
  pub each : (s : ℕ) → s < count → get_or row s 0 ≡ f s

-- marks with one put at each signal that passes a test
pub record Marked (mark : Bool) (old new : List Bool) (test : ℕ → Bool) : Type 0 where
  pub long : length new ≡ length old
  pub each : (s : ℕ) → s < length old → get_or new s false ≡ (if test s then mark else get_or old s false)

-- whether a case item assigns a signal by `<=`
abbrev pub item_assigns_later : ℕ → CaseItem → Bool
item_assigns_later s item = assigns_later s item.body

-- the number of a signal among others, which are numbered from k on, where it is one of them
abbrev pub place_from : ℕ → List ℕ → ℕ → Option ℕ
place_from k [] s = None
place_from k (input ∷ inputs) s = if input == s then Some k else place_from (k + 1) inputs s

-- for each of so many signals its number among the inputs
pub record ArePlaces (k : ℕ) (inputs : List ℕ) (count : ℕ) (row : List (Option ℕ)) : Type 0 where
  pub long : length row ≡ count
  pub each : (s : ℕ) → s < count → get_or row s None ≡ place_from k inputs s

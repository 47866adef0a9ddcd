-- Private, for the functions inside this crate: how the texts of a set become words.
use Rattle.std.specs.Prelude.{ℕ, ◌≡◌, ◌≤◌, List, ◌++◌, All, length, map}
use Rattle.std.specs.List.{flat_map}
use Rattle.loc_base.specs.declared.bits.Bits.{Bits}
use Rattle.loc_base.specs.Bits.{width_of}
use Rattle.design_core.specs.declared.trace.Trace.{Trace}
use Rattle.design_core.specs.WellFormed.{IsWellFormed}
use Rattle.suspect_map.specs.declared.group.Group.{Group}
use Rattle.suspect_map.specs.Groups.{AreWithin}
use Rattle.report_sets.specs.Found.{word_text}
use Rattle.report_sets.specs.declared.scene.Scene.{Scene}

-- the suspects, each the list of its places
abbrev pub groups_of : List Group → List (List ℕ)
groups_of groups = map (λ (group : Group). group.places) groups

-- words of these widths have these texts
abbrev pub HasWords : List ℕ → List (List ℕ) → Type 0
HasWords widths row = (words : List Bits) × (map width_of words ≡ widths) × (map word_text words ≡ row)

-- a word is of 1 to 128 bits
abbrev pub AreWidths : List ℕ → Type 0
AreWidths widths = All (λ width. (1 ≤ width) × (width ≤ 128)) widths

-- words of these widths were appended, which have this row of texts
pub record AppendsRow (widths : List ℕ) (row : List (List ℕ)) (old new : List Bits) : Type 0 where
  pub widths_are : map width_of new ≡ map width_of old ++ widths
  pub texts_are : map word_text new ≡ map word_text old ++ row

-- words were appended that have these rows of texts, each row having words of these widths
pub record AppendsRows (widths : List ℕ) (rows : List (List (List ℕ))) (old new : List Bits) : Type 0 where
  pub even : All (λ row. length row ≡ length widths) rows
  pub widths_are : map width_of new ≡ map width_of old ++ flat_map (λ (row : List (List ℕ)). widths) rows
  pub texts_are : map word_text new ≡ map word_text old ++ flat_map (λ (row : List (List ℕ)). row) rows

-- the rows of all traces, one trace after another
abbrev pub all_rows : List (List (List (List ℕ))) → List (List (List ℕ))
all_rows values = flat_map (λ (rows : List (List (List ℕ))). rows) values

-- each row of each trace has words of these widths
abbrev pub AllHaveWords : List ℕ → List (List (List (List ℕ))) → Type 0
AllHaveWords widths values = All (All (HasWords widths)) values

-- there are as many lists of rows as traces, and as many rows in each as its trace has cycles
abbrev pub HasItsRows : List Trace → List (List (List (List ℕ))) → Type 0
HasItsRows traces values = map (λ (rows : List (List (List ℕ))). length rows) values ≡ map (λ (trace : Trace). trace.cycles) traces

-- the design is well formed, and the groups are of its places
pub record IsScene (s : Scene) : Type 0 where
  pub well_formed : IsWellFormed s.design.now
  pub groups : AreWithin (length s.design.now.places.items) s.groups.now

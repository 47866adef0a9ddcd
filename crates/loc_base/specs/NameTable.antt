-- What a table of numbers by name shows.
use Rattle.std.specs.Prelude.{ℕ, Bool, List, Option, Some, is_some, if◌then◌else◌, nat_eq}
use Rattle.indexmap.specs.IndexMap as map
use Rattle.std.specs.Cmp.Lexicographic.{pointwise}
use Rattle.loc_base.specs.declared.name_table.NameTable.{NameTable}

-- the number of a name, where it has one
abbrev pub number_of : NameTable → List ℕ → Option ℕ
number_of table name = map.get_by (λ key. pointwise nat_eq name key.now) table.by_name

-- whether a name has a number
abbrev pub has_number : NameTable → List ℕ → Bool
has_number table name = is_some (number_of table name)

-- the numbers of names, with that of one name put in its place
abbrev pub with_number : List ℕ → ℕ → (List ℕ → Option ℕ) → List ℕ → Option ℕ
with_number name number numbers other = if pointwise nat_eq name other then Some number else numbers other

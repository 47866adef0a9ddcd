-- The instances that stand right in the one of a number, by their own numbers.
use Rattle.std.specs.Prelude.{ℕ, suc, ◌++◌, nat_lt, if◌then◌else◌, List, [], ◌∷◌, length, replicate, get_or, slice_set, Option, Some, None}
use Rattle.v_hierarchy.specs.Instances.{Instance}
use Rattle.v_binding.specs.Binding.{is_in}

-- of the instances from a number on
abbrev pub numbers_from : ℕ → ℕ → List Instance → List ℕ
numbers_from parent at [] = []
numbers_from parent at (i ∷ is) = if is_in parent i then at ∷ numbers_from parent (suc at) is else numbers_from parent (suc at) is

-- the same of all at once: a list for each instance, and one child more
abbrev pub Rows : Type 0
Rows = List (List ℕ)

abbrev pub with_child : Option ℕ → ℕ → Rows → Rows
with_child None at rows = rows
with_child (Some parent) at rows = if nat_lt parent (length rows) then slice_set rows parent (get_or rows parent [] ++ at ∷ []) else rows

abbrev pub rows_from : ℕ → List Instance → Rows → Rows
rows_from at [] rows = rows
rows_from at (i ∷ is) rows = rows_from (suc at) is (with_child i.parent at rows)

abbrev pub rows_of : List Instance → Rows
rows_of is = rows_from 0 is (replicate (length is) [])

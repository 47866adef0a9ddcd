-- The entries of a scope, of each name the first.
use Rattle.std.specs.Prelude.{if◌then◌else◌, is_some, List, [], ◌∷◌, ◌++◌}
use Rattle.v_hierarchy.specs.Names.{Entry, find}

-- behind those before
abbrev pub firsts_behind : List Entry → List Entry → List Entry
firsts_behind before [] = before
firsts_behind before (e ∷ es) = firsts_behind (if is_some (find e.name.name before) then before else before ++ e ∷ []) es

abbrev pub firsts : List Entry → List Entry
firsts entries = firsts_behind [] entries

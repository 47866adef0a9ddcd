-- The entries of a table of byte strings, by their bytes.
use Rattle.std.specs.Prelude.{ℕ, List, [], ◌∷◌}
use Rattle.std.specs.declared.vec.Vec.{Vec}

-- each entry by the bytes of its key and of its value
abbrev pub entries_of : {A : Type 0} → List (Vec ℕ A × Vec ℕ A) → List (List ℕ × List ℕ)
entries_of [] = []
entries_of (entry ∷ entries) = (entry.0.items, entry.1.items) ∷ entries_of entries

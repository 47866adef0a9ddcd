-- What a table of meanings by name shows. A name may have an entry and yet no meaning.
use Rattle.std.specs.Prelude.{ℕ, Bool, List, Option, Some, is_some, if◌then◌else◌, nat_eq}
use Rattle.std.specs.Option.{option_flatten}
use Rattle.std.specs.HashMap as hash
use Rattle.std.specs.Cmp.Lexicographic.{pointwise}
use Rattle.v_sizes.specs.declared.meaning.Meaning.{Meaning}
use Rattle.v_sizes.specs.declared.table.Table.{Table}
use Rattle.v_sizes.specs.Look.{Look}

-- the entry of a name, where it has one
abbrev pub entry_in : Table → List ℕ → Option (Option Meaning)
entry_in table name = hash.get_by (λ key. pointwise nat_eq name key.now) table.by_name

-- the entries of names, with that of one name put in its place
abbrev pub with_entry : List ℕ → Option Meaning → (List ℕ → Option (Option Meaning)) → List ℕ → Option (Option Meaning)
with_entry name meaning entries other = if pointwise nat_eq name other then Some meaning else entries other

-- the meaning of a name, where it has one
abbrev pub meaning_in : Table → Look
meaning_in table name = option_flatten (entry_in table name)

-- whether a name has an entry
abbrev pub is_in : Table → List ℕ → Bool
is_in table name = is_some (entry_in table name)

-- the meanings of names, with what one name stands for put in its place
abbrev pub with_standing : List ℕ → Option Meaning → Look → Look
with_standing name meaning meanings other = if pointwise nat_eq name other then meaning else meanings other

-- the same, where the name stands for something
abbrev pub with_meaning : List ℕ → Meaning → Look → Look
with_meaning name meaning meanings = with_standing name (Some meaning) meanings

-- The names of checkpoints, which are those of two pairs in turn, and what stands beside them.
use Rattle.std.specs.Prelude.{ℕ, ◌||◌, if◌then◌else◌, Bool, false, List, ◌++◌, Option, Some, None, codes}
use Rattle.std.specs.Str.{bytes_eq}
use Rattle.list_writer.specs.declared.pair.Pair.{Pair}
use Rattle.list_writer.specs.declared.pair.Pair.TheVariants.{First, Second}

-- the pairs take turns
abbrev pub other : Pair → Pair
other First = Second
other Second = First

-- `PREFIX-1.log`, `PREFIX-2.log`
abbrev pub log_name : List ℕ → Pair → List ℕ
log_name prefix First = prefix ++ codes "-1.log"
log_name prefix Second = prefix ++ codes "-2.log"

-- `PREFIX-1.json`, `PREFIX-2.json`
abbrev pub report_name : List ℕ → Pair → List ℕ
report_name prefix First = prefix ++ codes "-1.json"
report_name prefix Second = prefix ++ codes "-2.json"

-- a name is one of these four
abbrev pub is_name : List ℕ → List ℕ → Bool
is_name prefix name =
    (bytes_eq name (log_name prefix First) || bytes_eq name (report_name prefix First))
    || (bytes_eq name (log_name prefix Second) || bytes_eq name (report_name prefix Second))

-- where checkpoints are asked for
abbrev pub is_checkpoint : Option (List ℕ) → List ℕ → Bool
is_checkpoint None name = false
is_checkpoint (Some prefix) name = is_name prefix name

-- the texts that stand beside the checkpoints: all, where none are asked for
abbrev pub beside : Option (List ℕ) → (List ℕ → Option (List ℕ)) → List ℕ → Option (List ℕ)
beside None written = written
beside (Some prefix) written = λ name. if is_name prefix name then None else written name

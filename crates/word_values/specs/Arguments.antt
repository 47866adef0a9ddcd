-- The arguments of a command, as a table, and the values that words give them, by clap (4.5, `Command` and `Arg`). How
-- words are read by such a table is clap's own reading: an option is `--x v` or `--x=v` and stands anywhere; after `--`
-- all words are positional; a word that begins with `-`, but `-` itself, is no value of `--x v`; `--x=` gives the empty
-- text; `--help` and `-h` are refused like all that isn't in the table. Ours is what stands in the tables: an option is
-- of clap's kind `Set`, and a flag, `--x` without a value, of `SetTrue`, so each stands once at most.
use Rattle.std.specs.Prelude.{◌≡◌, true, ℕ, List, [], ◌∷◌, Option, Some, None, if◌then◌else◌}
pub use Rattle.clap.specs.Words.{Row, all_of, first_of}
use Rattle.clap.specs.Words.{App, Rule, fault_of, is_simple_and_free, matches_of, new_app, new_rule, with_rule}
use Rattle.clap.specs.Walk.{is_empty}
use Rattle.clap.specs.declared.builder.action.ArgAction.TheVariants.{Append, Set, SetTrue}

-- the command's name; the names of the positional words that must stand; that of the words behind them, one or more,
-- where there are such; the names of the options, and of the flags
pub record Arguments : Type 0 where
  pub command : List ℕ
  pub words : List (List ℕ)
  pub rest : Option (List ℕ)
  pub options : List (List ℕ)
  pub flags : List (List ℕ)

-- ---- as a command of clap
-- a positional word that must stand
abbrev pub required : List ℕ → Rule
required id = record (new_rule id) { action = Some Set; required = true }

-- the last positional words, at least one
abbrev pub one_or_more : List ℕ → Rule
one_or_more id = record (new_rule id) { action = Some Append; required = true }

-- `--ID VALUE`
abbrev pub option : List ℕ → Rule
option id = record (new_rule id) { long = Some id; action = Some Set }

-- `--ID`
abbrev pub flag : List ℕ → Rule
flag id = record (new_rule id) { long = Some id; action = Some SetTrue }

-- with one argument for each name
abbrev pub with_each : (List ℕ → Rule) → App → List (List ℕ) → App
with_each rule app [] = app
with_each rule app (id ∷ ids) = with_each rule (with_rule app (rule id)) ids

abbrev pub with_rest : App → Option (List ℕ) → App
with_rest app None = app
with_rest app (Some id) = with_rule app (one_or_more id)

abbrev pub app_of : Arguments → App
app_of table =
    with_each flag (with_each option (with_rest (with_each required (new_app table.command) table.words) table.rest) table.options)
    table.flags

-- the table is one whose words are read as it says
abbrev pub IsPlain : Arguments → Type 0
IsPlain table = is_simple_and_free (app_of table) ≡ true

-- the values that words give the arguments of a command of clap, where they stand right
unfoldable pub read_by : App → List (List ℕ) → Option (List Row)
read_by app words = if is_empty (fault_of app words) then Some (matches_of app words) else None

-- the values of a command's arguments, where its words, itself the first, stand as its table says
abbrev pub values_of : Arguments → List (List ℕ) → Option (List Row)
values_of table words = read_by (app_of table) words

-- What words give a command, from what clap answers.
use Rattle.std.proofs.Common.{◌≡◌, true, List, [], refl}
use Rattle.std.specs.Prelude.{if◌then◌else◌, Some, None}
use Rattle.std.proofs.lemmas.Bool.{and_parts}
use Rattle.clap.specs.Words.{App, HasMatchesOf, Kinds, Row, Text, fault_of, found_of, is_simple_and_free, matches_of, rows_of}
use Rattle.clap.specs.Walk.{is_empty}
use Rattle.clap.specs.declared.parser.matches.ArgMatches.{ArgMatches}
use Rattle.word_values.specs.Arguments.{read_by}

-- where nothing is wrong
stands : (kinds : Kinds) (found rows : List Row) → kinds ≡ [] → found ≡ rows
    → Some found ≡ (if is_empty kinds then Some rows else None)
stands kinds found rows none is = rw (none, is) refl

-- a simple command's matches are what is read
pub read-found : (app : App) (words : List Text) (m : ArgMatches) → is_simple_and_free app ≡ true
    → HasMatchesOf app words m → fault_of app words ≡ [] → Some (rows_of (found_of m)) ≡ read_by app words
unfolding read_by
read-found app words m simple has none =
    stands (fault_of app words) (rows_of (found_of m)) (matches_of app words) none (has (and_parts _ _ simple).0).0

-- What holds of an input to be made whose names and kinds pass.
use Rattle.std.proofs.Common.{ℕ, ◌≡◌, ◌≢◌, ◌≤◌, true, List, []}
use Rattle.std.specs.List.{list_all}
use Rattle.std.proofs.lemmas.Bool.{and_parts}
use Rattle.word_values.specs.Numbers.{AreNumbers}
use Rattle.word_values.specs.Paths.{are_paths_once}
use Rattle.word_values.specs.Values.{are_kinds, is_file_name}
use Rattle.word_values.proofs.SamePaths.{paths_once-AllPairs}
use Rattle.requests.specs.Asked.{MakeAsked}
use Rattle.command_words.specs.Listing.{numbers_of}
use Rattle.command_words.specs.Make.{IsMakeAsked, are_make_names, written_names}
use Rattle.command_words.proofs.ListingHolding.{listing-holds}

pub make-holds : (known : List (List ℕ)) (asked : MakeAsked) → are_make_names asked ≡ true → are_kinds known asked.listing.suspects ≡ true
    → asked.listing.suspects ≢ [] → asked.number ≤ 9999 → AreNumbers (numbers_of asked.listing) → IsMakeAsked known asked
make-holds known asked names kinds some number within =
    let both = and_parts (list_all is_file_name (written_names asked)) (are_paths_once (written_names asked)) names in
    record {
      number = number;
      listing = listing-holds known asked.listing kinds some within;
      names = both.0;
      names_once = paths_once-AllPairs (written_names asked) both.1;
    }

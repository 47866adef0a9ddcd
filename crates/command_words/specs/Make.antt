-- What the words of `make` ask for: the values of its arguments, with those that stand where an option isn't given, or the
-- first thing that is wrong with them: the numbers, then the names, then the kinds of suspects.
use Rattle.std.specs.Prelude.{◌≡◌, ◌≤◌, true, ℕ, Bool, ◌&&◌, List, [], ◌∷◌, AllPairs, Option, Some, None, Result, Ok, Err, codes}
use Rattle.std.specs.List.{list_all}
use Rattle.requests.specs.Asked.{ListingAsked, MakeAsked}
use Rattle.word_values.specs.declared.usage.Usage.{Usage}
use Rattle.word_values.specs.declared.usage.Usage.TheVariants.{Words, Number}
use Rattle.word_values.specs.Arguments.{Arguments, Row, first_of, values_of}
use Rattle.word_values.specs.Numbers.{given_or}
use Rattle.word_values.specs.Standing.{kinded, named, standing}
use Rattle.word_values.specs.Paths.{IsOtherPath, are_paths_once}
use Rattle.word_values.specs.Values.{is_file_name, number_from}
use Rattle.command_words.specs.Listing.{IsListingAsked, listing_in}

-- `make N` and its options
unfoldable pub make_arguments : Arguments
make_arguments = record {
  command = codes "make";
  words = codes "number" ∷ [];
  rest = None;
  options = codes "size" ∷ codes "budget" ∷ codes "sets" ∷ codes "suspects" ∷ codes "workers" ∷ codes "log" ∷ codes "report"
      ∷ codes "design" ∷ codes "trace" ∷ [];
  flags = [];
}

-- ---- what is asked
abbrev pub make_listed : List Row → Option ℕ → Option ListingAsked → Result MakeAsked Usage
make_listed rows (Some number) (Some listing) = Ok (record {
  number = number;
  design = given_or (codes "design") (codes "made.v") rows;
  trace = given_or (codes "trace") (codes "made.vcd") rows;
  listing = listing;
})
make_listed rows _ _ = Err Number

-- a number of 0 to 9999
abbrev pub make_of : List Row → Option (List ℕ) → Result MakeAsked Usage
make_of rows (Some word) = make_listed rows (number_from 0 9999 word) (listing_in rows)
make_of rows None = Err Words

abbrev pub make_in : List Row → Result MakeAsked Usage
make_in rows = make_of rows (first_of (codes "number") rows)

-- the four texts that are written
abbrev pub written_names : MakeAsked → List (List ℕ)
written_names asked = asked.listing.log ∷ asked.listing.report ∷ asked.design ∷ asked.trace ∷ []

-- each has a path of its own
abbrev pub are_make_names : MakeAsked → Bool
are_make_names asked = list_all is_file_name (written_names asked) && are_paths_once (written_names asked)

-- the words of the command, itself the first, where kinds of suspects of these names are known
abbrev pub make_asked : List (List ℕ) → List (List ℕ) → Result MakeAsked Usage
make_asked known words =
    kinded known (λ asked. asked.listing.suspects) (named are_make_names (standing make_in (values_of make_arguments words)))

-- ---- what holds of what is asked for
-- where kinds of suspects of these names are known
pub record IsMakeAsked (known : List (List ℕ)) (asked : MakeAsked) : Type 0 where
  pub number : asked.number ≤ 9999
  pub listing : IsListingAsked known asked.listing
  -- the texts that are written have names, each its own path
  pub names : list_all is_file_name (written_names asked) ≡ true
  pub names_once : AllPairs IsOtherPath (written_names asked)

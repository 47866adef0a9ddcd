-- What the words of `find` and `make` ask of a list: the values of its options, with those that stand where an option isn't given.
use Rattle.std.specs.Prelude.{◌≡◌, ◌≢◌, ◌≤◌, true, ℕ, List, [], All, AllPairs, Contains, Option, Some, None, codes}
use Rattle.std.specs.List.{list_all}
use Rattle.requests.specs.Asked.{ListingAsked}
use Rattle.word_values.specs.Arguments.{Row}
use Rattle.word_values.specs.Numbers.{IsFrom, Numbers, given_or, numbers_in}
use Rattle.word_values.specs.Values.{is_kind_name, kinds_in}

-- with these numbers, where there are such
abbrev pub listing_by : List Row → Option Numbers → Option ListingAsked
listing_by rows None = None
listing_by rows (Some numbers) = Some (record {
  suspects = kinds_in (given_or (codes "suspects") (codes "stmt") rows);
  size = numbers.size;
  budget = numbers.budget;
  sets = numbers.sets;
  workers = numbers.workers;
  log = given_or (codes "log") (codes "localise.log") rows;
  report = given_or (codes "report") (codes "localise.json") rows;
})

-- where its numbers are in their ranges
abbrev pub listing_in : List Row → Option ListingAsked
listing_in rows = listing_by rows (numbers_in rows)

-- its numbers
abbrev pub numbers_of : ListingAsked → Numbers
numbers_of asked = record { size = asked.size; budget = asked.budget; sets = asked.sets; workers = asked.workers }

-- ---- what holds of it, where kinds of suspects of these names are known
pub record IsListingAsked (known : List (List ℕ)) (asked : ListingAsked) : Type 0 where
  pub size : asked.size ≤ 8
  pub budget : IsFrom 1 10000000 asked.budget
  pub sets : IsFrom 1 100000 asked.sets
  pub workers : IsFrom 1 64 asked.workers
  -- at least one kind, and each is known and asked for once
  pub some_kinds : asked.suspects ≢ []
  pub kind_names : list_all is_kind_name asked.suspects ≡ true
  pub known_kinds : All (Contains known) asked.suspects
  pub kinds_once : AllPairs (λ one other. one ≢ other) asked.suspects

-- What holds of a list whose kinds of suspects pass.
use Rattle.std.proofs.Common.{ℕ, ◌≡◌, ◌≢◌, true, List, []}
use Rattle.requests.specs.Asked.{ListingAsked}
use Rattle.word_values.specs.Numbers.{AreNumbers}
use Rattle.word_values.specs.Values.{are_kinds}
use Rattle.word_values.proofs.Holding.{kinds-hold}
use Rattle.command_words.specs.Listing.{IsListingAsked, numbers_of}

pub listing-holds : (known : List (List ℕ)) (asked : ListingAsked) → are_kinds known asked.suspects ≡ true → asked.suspects ≢ []
    → AreNumbers (numbers_of asked) → IsListingAsked known asked
listing-holds known asked kinds some within =
    let held = kinds-hold known asked.suspects kinds in
    record {
      size = within.size;
      budget = within.budget;
      sets = within.sets;
      workers = within.workers;
      some_kinds = some;
      kind_names = held.named;
      known_kinds = held.known_kinds;
      kinds_once = held.once;
    }

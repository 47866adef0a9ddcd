-- What `find`'s list is asked of.
use Rattle.std.proofs.Common.{◌≡◌, refl}
use Rattle.requests.specs.Asked.{FindAsked, wanted_for}

its_texts_and_clock_are_those_that_find_reads : (asked : FindAsked) → (wanted_for asked).sources ≡ asked.sources
its_texts_and_clock_are_those_that_find_reads asked = refl

its_sets_have_as_many_members_as_the_listing_says : (asked : FindAsked) → (wanted_for asked).size ≡ asked.listing.size
its_sets_have_as_many_members_as_the_listing_says asked = refl

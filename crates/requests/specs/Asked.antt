-- What the commands are asked, as plain data: names of texts, names in a design, kinds of suspects and prefixes are bytes.
use Rattle.std.specs.Prelude.{ℕ, ◌≤◌, Bool, List, Option}
use Rattle.front_end.specs.declared.format.Format.{Format}
use Rattle.requests.specs.declared.help.HelpPage.{HelpPage}

-- ---- what is read
-- the name of the design's text and its format, the names of the module that is the top and of the traces' texts, the path of the scope
-- in which the ports stand in each of these, where it is named, and whether unknown bits of inputs are read as 0
pub record TextsAsked : Type 0 where
  pub design : List ℕ
  pub format : Format
  pub top : List ℕ
  pub traces : List (List ℕ)
  pub scope : Option (List ℕ)
  pub zero_inputs : Bool

-- and the clock by which they are read
pub record SourcesAsked : Type 0 where
  pub texts : TextsAsked
  pub clock : Option (List ℕ)

-- ---- a list
-- what a list is asked of: what is read, the names of the kinds of suspects, the most members of a set
pub record WantedAsked : Type 0 where
  pub sources : SourcesAsked
  pub suspects : List (List ℕ)
  pub size : ℕ

-- the names of the kinds of suspects, the most members of a set, the most steps that may be learned, the most sets; how many workers
-- check the log; the names of the log and of the report
pub record ListingAsked : Type 0 where
  pub suspects : List (List ℕ)
  pub size : ℕ
  pub budget : ℕ
  pub sets : ℕ
  pub workers : ℕ
  pub log : List ℕ
  pub report : List ℕ

-- a list of what is read is asked of
abbrev pub wanted_of : SourcesAsked → ListingAsked → WantedAsked
wanted_of sources listing = record { sources = sources; suspects = listing.suspects; size = listing.size }

-- ---- the commands
-- a session that a list goes on from: the names of its report and of its log
pub record SessionNames : Type 0 where
  pub report : List ℕ
  pub log : List ℕ

-- `find`: the session that is gone on from, and the prefixes of the waves' names and of the checkpoints', where they are asked for
pub record FindAsked : Type 0 where
  pub sources : SourcesAsked
  pub listing : ListingAsked
  pub resume : Option SessionNames
  pub waves : Option (List ℕ)
  pub checkpoints : Option (List ℕ)

abbrev pub wanted_for : FindAsked → WantedAsked
wanted_for asked = wanted_of asked.sources asked.listing

-- `sim`: whether the status says that a trace isn't right
pub record SimAsked : Type 0 where
  pub sources : SourcesAsked
  pub exit_code : Bool

-- `check`: the names of the report and of the log, and how many workers check it
pub record CheckAsked : Type 0 where
  pub texts : TextsAsked
  pub report : List ℕ
  pub log : List ℕ
  pub workers : ℕ

-- `make`: the number of the input that is made, and the names under which its design and its trace are written
pub record MakeAsked : Type 0 where
  pub number : ℕ
  pub design : List ℕ
  pub trace : List ℕ
  pub listing : ListingAsked

-- `help`: a page
pub record HelpAsked : Type 0 where
  pub page : HelpPage

-- one of them
pub data Asked : Type 0 where
  find : FindAsked → Asked
  sim : SimAsked → Asked
  check : CheckAsked → Asked
  make : MakeAsked → Asked
  help : HelpAsked → Asked

-- ---- ranges
-- a number from 1 to the most
abbrev pub IsUpTo : ℕ → ℕ → Type 0
IsUpTo most n = (1 ≤ n) × (n ≤ most)

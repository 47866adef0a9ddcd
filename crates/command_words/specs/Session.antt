-- What the words of `find` ask to go on from: a session, of whose report and log the names are given both, or neither.
use Rattle.std.specs.Prelude.{◌≡◌, true, ℕ, Bool, ◌&&◌, List, [], ◌∷◌, Option, Some, None, Result, Ok, Err, codes}
use Rattle.requests.specs.Asked.{SessionNames}
use Rattle.word_values.specs.declared.usage.Usage.{Usage}
use Rattle.word_values.specs.declared.usage.Usage.TheVariants.{Name}
use Rattle.word_values.specs.Arguments.{Row, first_of}
use Rattle.word_values.specs.Values.{is_file_name}

-- both names, or neither
abbrev pub session_of : Option (List ℕ) → Option (List ℕ) → Result (Option SessionNames) Usage
session_of (Some report) (Some log) = Ok (Some (record { report = report; log = log }))
session_of None None = Ok None
session_of _ _ = Err Name

abbrev pub session_in : List Row → Result (Option SessionNames) Usage
session_in rows = session_of (first_of (codes "resume") rows) (first_of (codes "resume-log") rows)

-- the names of its texts, where there is one
abbrev pub session_texts : Option SessionNames → List (List ℕ)
session_texts (Some names) = names.report ∷ names.log ∷ []
session_texts None = []

-- they are names of files
abbrev pub are_session_names : SessionNames → Bool
are_session_names names = is_file_name names.report && is_file_name names.log

-- the same, as facts
pub record AreSessionNames (names : SessionNames) : Type 0 where
  pub report : is_file_name names.report ≡ true
  pub log : is_file_name names.log ≡ true

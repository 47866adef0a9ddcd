-- What the words of `check` ask for: the values of its arguments, or the first thing that is wrong with them: the number of
-- workers, then the names. Names may be equal, since nothing is written.
use Rattle.std.specs.Prelude.{◌≡◌, true, ℕ, Bool, ◌&&◌, List, [], ◌∷◌, Option, Some, None, Result, Ok, Err, codes}
use Rattle.requests.specs.Asked.{CheckAsked, TextsAsked}
use Rattle.word_values.specs.declared.usage.Usage.{Usage}
use Rattle.word_values.specs.declared.usage.Usage.TheVariants.{Words, Number}
use Rattle.word_values.specs.Arguments.{Arguments, Row, first_of, values_of}
use Rattle.word_values.specs.Numbers.{IsFrom, workers_in}
use Rattle.word_values.specs.Sources.{AreSources, are_source_names, sources_in}
use Rattle.word_values.specs.Standing.{named, standing, with_format}
use Rattle.word_values.specs.Values.{is_file_name}

-- `check DESIGN TOP REPORT LOG TRACE.. [--workers N] [--format F] [--scope S] [--x-inputs 0]`
unfoldable pub check_arguments : Arguments
check_arguments = record {
  command = codes "check";
  words = codes "design" ∷ codes "top" ∷ codes "report" ∷ codes "log" ∷ [];
  rest = Some (codes "trace");
  options = codes "workers" ∷ codes "format" ∷ codes "scope" ∷ codes "x-inputs" ∷ [];
  flags = [];
}

-- ---- what is asked
-- the texts and the two files, where each is given
abbrev pub check_numbered : TextsAsked → List ℕ → List ℕ → Option ℕ → Result CheckAsked Usage
check_numbered texts report log None = Err Number
check_numbered texts report log (Some workers) = Ok (record {
  texts = texts;
  report = report;
  log = log;
  workers = workers;
})

abbrev pub check_of : Option TextsAsked → Option (List ℕ) → Option (List ℕ) → Option ℕ → Result CheckAsked Usage
check_of (Some texts) (Some report) (Some log) workers = check_numbered texts report log workers
check_of _ _ _ workers = Err Words

abbrev pub check_in : List Row → Result CheckAsked Usage
check_in rows = check_of (sources_in rows) (first_of (codes "report") rows) (first_of (codes "log") rows) (workers_in rows)

-- the names are names, and there are 1 to 256 traces
abbrev pub are_check_names : CheckAsked → Bool
are_check_names asked = are_source_names asked.texts && is_file_name asked.report && is_file_name asked.log

-- the words of the command, itself the first
abbrev pub check_asked : List (List ℕ) → Result CheckAsked Usage
check_asked words = named are_check_names (standing (with_format check_in) (values_of check_arguments words))

-- ---- what holds of what is asked for
pub record IsCheckAsked (asked : CheckAsked) : Type 0 where
  pub texts : AreSources asked.texts
  pub report : is_file_name asked.report ≡ true
  pub log : is_file_name asked.log ≡ true
  pub workers : IsFrom 1 64 asked.workers

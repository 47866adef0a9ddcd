-- The last line of a listing.
use Rattle.std.specs.Prelude.{ℕ, List, ◌++◌, Option, Some, None, codes, decimal}
use Rattle.printed_text.specs.Numerals.{newline}
use Rattle.report_doc.specs.declared.types.Ending.{Ending}
use Rattle.report_doc.specs.declared.types.Ending.TheVariants.{Complete, Budget, Sets, Earlier}

-- `front N`, and why it isn't more
abbrev pub front_line : ℕ → List ℕ → List ℕ
front_line count why = codes "front " ++ decimal count ++ codes " " ++ why ++ newline

-- `complete N`, `front N budget`, `front N sets`, N being the number of sets
abbrev pub ending_line : Ending → ℕ → List ℕ
ending_line Complete count = codes "complete " ++ decimal count ++ newline
ending_line Budget count = front_line count (codes "budget")
ending_line Sets count = front_line count (codes "sets")
ending_line Earlier count = front_line count (codes "earlier")

-- where memory was wanted: `front N memory` behind so many sets, `memory` before the log was begun
abbrev pub memory_line : Option ℕ → List ℕ
memory_line (Some count) = front_line count (codes "memory")
memory_line None = codes "memory" ++ newline

-- the status of the program: 0 where the list is whole
abbrev pub ending_status : Ending → ℕ
ending_status Complete = 0
ending_status Budget = 1
ending_status Sets = 1
ending_status Earlier = 1

-- The JSON of a report, and its text.
use Rattle.std.specs.Prelude.{ℕ, List, [], ◌∷◌, ◌++◌, Option, Some, None, codes}
use Rattle.hex.specs.Hex.{encode_lower}
use Rattle.serde_json.specs.Data.{Data, string, object, member, no_members}
use Rattle.serde_json.specs.Written.{compact_text}
use Rattle.report_doc.specs.declared.types.Ending.{Ending}
use Rattle.report_doc.specs.declared.types.Ending.TheVariants.{Complete, Budget, Sets, Earlier}
use Rattle.report_doc.specs.declared.types.Report.{Report}
use Rattle.report_doc.specs.declared.types.ReportSet.{ReportSet}
use Rattle.report_doc.specs.declared.types.ReportSuspect.{ReportSuspect}
use Rattle.report_doc.specs.Json.{number_data, list_data}

-- the name of the clock, and the empty text where there is none
abbrev pub clock_text : Option (List ℕ) → List ℕ
clock_text (Some name) = name
clock_text None = []

abbrev pub ending_text : Ending → List ℕ
ending_text Complete = codes "complete"
ending_text Budget = codes "budget"
ending_text Sets = codes "sets"
ending_text Earlier = codes "earlier"

-- the values of a trace: a list for each cycle, in it a text for each place
abbrev pub trace_data : List (List (List ℕ)) → Data
trace_data cycles = list_data (list_data string) cycles

abbrev pub set_data : ReportSet → Data
set_data set =
    object (member (codes "members") (list_data number_data set.members)
    (member (codes "values") (list_data trace_data set.values) no_members))

abbrev pub suspect_data : ReportSuspect → Data
suspect_data suspect =
    object (member (codes "kind") (string suspect.kind)
    (member (codes "label") (string suspect.label)
    (member (codes "line") (number_data suspect.line) no_members)))

-- the report as JSON: an object, its keys ascending
abbrev pub report_data : Report → Data
report_data r =
    object (member (codes "clock") (string (clock_text r.clock))
    (member (codes "ending") (string (ending_text r.ending))
    (member (codes "inputs") (string (encode_lower r.inputs.bytes))
    (member (codes "kinds") (list_data string r.kinds)
    (member (codes "sets") (list_data set_data r.sets)
    (member (codes "size") (number_data r.size)
    (member (codes "suspects") (list_data suspect_data r.suspects)
    (member (codes "top") (string r.top)
    (member (codes "version") (number_data 1) no_members)))))))))

-- the text of a report: the JSON without a space, and a newline
abbrev pub text_of : Report → List ℕ
text_of r = compact_text (report_data r) ++ 10 ∷ []

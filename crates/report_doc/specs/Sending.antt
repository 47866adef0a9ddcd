-- What is sent of a report to the writer of its text; for private clauses.
use Rattle.std.specs.Prelude.{ℕ, List, All, IfSome, IsAscii, codes}
use Rattle.hex.specs.Hex.{encode_lower}
use Rattle.serde.specs.Event.{Log, Logs, Then, field_key}
use Rattle.serde.specs.declared.name.Case.TheVariants.{AsIs}
use Rattle.serde_json.specs.Data.{Data, string}
use Rattle.serde_json.specs.Events.{SendsValue}
use Rattle.loc_base.specs.Name.{IsName}
use Rattle.report_doc.specs.declared.types.Report.{Report}
use Rattle.report_doc.specs.declared.types.ReportSet.{ReportSet}
use Rattle.report_doc.specs.Document.{clock_text, ending_text, set_data, suspect_data}
use Rattle.report_doc.specs.Json.{list_data, number_data}
use Rattle.report_doc.specs.Shape.{IsDigest, IsSuspect, IsWord}

-- the values of a set are texts
abbrev pub AreAscii : ReportSet → Type 0
AreAscii set = All (All (All IsAscii)) set.values

-- what the types of a report's parts say of them
pub record HasParts (r : Report) : Type 0 where
  pub clock : IfSome r.clock IsName
  pub inputs : IsDigest r.inputs
  pub kinds : All IsName r.kinds
  pub members : All (λ set. All IsWord set.members) r.sets
  pub suspects : All IsSuspect r.suspects
  pub top : IsName r.top

-- a member of an object is sent: its name, and then its value
abbrev pub SendsMember : List ℕ → Data → Log → Log → Type 0
SendsMember name value old new = (named : Log) × Logs old named (field_key name AsIs) × SendsValue value named new

-- a report's clock and ending
abbrev pub SendsEnding : Report → Log → Log → Type 0
SendsEnding r = Then (SendsMember (codes "clock") (string (clock_text r.clock))) (SendsMember (codes "ending") (string (ending_text r.ending)))

-- its inputs and kinds
abbrev pub SendsInputs : Report → Log → Log → Type 0
SendsInputs r = Then (SendsMember (codes "inputs") (string (encode_lower r.inputs.bytes))) (SendsMember (codes "kinds") (list_data string r.kinds))

-- its sets and their size
abbrev pub SendsFound : Report → Log → Log → Type 0
SendsFound r = Then (SendsMember (codes "sets") (list_data set_data r.sets)) (SendsMember (codes "size") (number_data r.size))

-- its suspects, its top, and the version
abbrev pub SendsEnd : Report → Log → Log → Type 0
SendsEnd r =
    Then (SendsMember (codes "suspects") (list_data suspect_data r.suspects))
    (Then (SendsMember (codes "top") (string r.top)) (SendsMember (codes "version") (number_data 1)))

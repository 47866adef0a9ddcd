-- The text of a report is UTF-8.
use Rattle.std.proofs.Common.{◌≡◌, ℕ, suc}
use Rattle.std.proofs.Common.{Bool, true, false, List, [], ◌∷◌, map, Some, None, Option, refl, arith}
use Rattle.std.specs.Prelude.{All, IfSome, IsUtf8, codes, decimal}
use Rattle.std.proofs.lemmas.Fmt.{IsAscii-decimal}
use Rattle.std.proofs.lemmas.Str.{IsUtf8-append, IsUtf8-from_ascii, IsUtf8-nil}
use Rattle.hex.specs.Hex.{encode_lower}
use Rattle.json.specs.Print.{quoted}
use Rattle.json.proofs.Printed.Utf8.{are_ascii, IsUtf8-are_ascii, IsUtf8-quoted}
use Rattle.serde_json.specs.Data.{Data, Members, member, no_members, object, string}
use Rattle.serde_json.specs.View.{items_of}
use Rattle.serde_json.specs.Written.{comma_if, compact_text, items_text, members_text}
use Rattle.loc_base.specs.Name.{IsName}
use Rattle.loc_base.specs.declared.digest.Digest.{Digest}
use Rattle.report_doc.specs.declared.types.Ending.{Ending}
use Rattle.report_doc.specs.declared.types.Ending.TheVariants.{Complete, Budget, Sets, Earlier}
use Rattle.report_doc.specs.declared.types.Report.{Report}
use Rattle.report_doc.specs.declared.types.ReportSet.{ReportSet}
use Rattle.report_doc.specs.declared.types.ReportSuspect.{ReportSuspect}
use Rattle.report_doc.specs.Document.{clock_text, ending_text, report_data, set_data, suspect_data, text_of, trace_data}
use Rattle.report_doc.specs.Json.{IsJsonOf, list_data, number_data}
use Rattle.report_doc.specs.Shape.{AreValues, IsHexText, IsReport, IsSet, IsSuspect, IsWord}
use Rattle.report_doc.proofs.Plain.{is_json}
use Rattle.report_doc.proofs.Ascii.{IsAscii-name, IsAscii-digits, IsAscii-encode_lower}

-- the text of the value is UTF-8
abbrev pub IsText : Data → Type 0
IsText d = IsUtf8 (compact_text d)

comma : (later : Bool) → IsUtf8 (comma_if later)
comma true = IsUtf8-are_ascii (44 ∷ []) refl
comma false = IsUtf8-nil

number_is : (n : ℕ) → IsWord n → IsText (number_data n)
number_is n h = IsUtf8-from_ascii (decimal n) (IsAscii-decimal n (omega arith))

name_is : (name : List ℕ) → IsName name → IsText (string name)
name_is name h = IsUtf8-quoted name (IsUtf8-from_ascii name (IsAscii-name name h))

hex_is : (text : List ℕ) → IsHexText text → IsText (string text)
hex_is text h = IsUtf8-quoted text (IsUtf8-from_ascii text (IsAscii-digits text h))

digest_is : (digest : Digest) → IsText (string (encode_lower digest.bytes))
digest_is digest =
    IsUtf8-quoted (encode_lower digest.bytes)
    (IsUtf8-from_ascii (encode_lower digest.bytes) (IsAscii-encode_lower digest.bytes))

clock_is : (clock : Option (List ℕ)) → IfSome clock IsName → IsText (string (clock_text clock))
clock_is None h = IsUtf8-quoted [] IsUtf8-nil
clock_is (Some name) h = name_is name h

ending_is : (ending : Ending) → IsText (string (ending_text ending))
ending_is Complete = IsUtf8-quoted (codes "complete") (IsUtf8-are_ascii (codes "complete") refl)
ending_is Budget = IsUtf8-quoted (codes "budget") (IsUtf8-are_ascii (codes "budget") refl)
ending_is Sets = IsUtf8-quoted (codes "sets") (IsUtf8-are_ascii (codes "sets") refl)
ending_is Earlier = IsUtf8-quoted (codes "earlier") (IsUtf8-are_ascii (codes "earlier") refl)

module _ {T : Type 0} (P : T → Type 0) (f : T → Data) (each : (x : T) → P x → IsText (f x)) where
  items_are : (later : Bool) (xs : List T) → All P xs → IsUtf8 (items_text later (items_of (map f xs)))
  items_are later [] h = IsUtf8-are_ascii (93 ∷ []) refl
  items_are later (x ∷ xs) h =
      IsUtf8-append (comma_if later) _ (comma later)
      (IsUtf8-append (compact_text (f x)) _ (each x (h 0 x (omega arith))) (items_are true xs (λ k d lt. h (suc k) d (omega arith))))

  list_is : (xs : List T) → All P xs → IsText (list_data f xs)
  list_is xs h = IsUtf8-append (91 ∷ []) _ (IsUtf8-are_ascii (91 ∷ []) refl) (items_are false xs h)

trace_is : (cycles : List (List (List ℕ))) → AreValues cycles → IsText (trace_data cycles)
trace_is cycles h = list_is (All IsHexText) (list_data string) (λ texts k. list_is IsHexText string hex_is texts k) cycles h

-- ---- objects

member_is : (later : Bool) (key : List ℕ) (d : Data) (ms : Members) → IsUtf8 key → IsText d → IsUtf8 (members_text true ms)
    → IsUtf8 (members_text later (member key d ms))
member_is later key d ms name value rest =
    IsUtf8-append (comma_if later) _ (comma later)
    (IsUtf8-append (quoted key) _ (IsUtf8-quoted key name)
    (IsUtf8-append (58 ∷ []) _ (IsUtf8-are_ascii (58 ∷ []) refl) (IsUtf8-append (compact_text d) _ value rest)))

-- the last members of an object, whose text is UTF-8
abbrev Last : Type 0
Last = (ms : Members) × IsUtf8 (members_text true ms)

abbrev none : Last
none = (no_members, IsUtf8-are_ascii (125 ∷ []) refl)

-- and one more in front
abbrev after : (key : List ℕ) (d : Data) → are_ascii key ≡ true → IsText d → Last → Last
after key d ascii value last = (member key d last.0, member_is true key d last.0 (IsUtf8-are_ascii key ascii) value last.1)

object_is : (key : List ℕ) (d : Data) → are_ascii key ≡ true → IsText d → (last : Last) → IsText (object (member key d last.0))
object_is key d ascii value last =
    IsUtf8-append (123 ∷ []) (members_text false (member key d last.0)) (IsUtf8-are_ascii (123 ∷ []) refl)
    (member_is false key d last.0 (IsUtf8-are_ascii key ascii) value last.1)

set_is : (set : ReportSet) → IsSet set → IsText (set_data set)
set_is set h =
    object_is (codes "members") (list_data number_data set.members) refl (list_is IsWord number_data number_is set.members h.members)
    (after (codes "values") (list_data trace_data set.values) refl (list_is AreValues trace_data trace_is set.values h.values) none)

suspect_is : (suspect : ReportSuspect) → IsSuspect suspect → IsText (suspect_data suspect)
suspect_is suspect h =
    object_is (codes "kind") (string suspect.kind) refl (name_is suspect.kind h.kind)
    (after (codes "label") (string suspect.label) refl (name_is suspect.label h.label)
    (after (codes "line") (number_data suspect.line) refl (number_is suspect.line h.line) none))

report_is : (r : Report) → IsReport r → IsText (report_data r)
report_is r h =
    object_is (codes "clock") (string (clock_text r.clock)) refl (clock_is r.clock h.clock)
    (after (codes "ending") (string (ending_text r.ending)) refl (ending_is r.ending)
    (after (codes "inputs") (string (encode_lower r.inputs.bytes)) refl (digest_is r.inputs)
    (after (codes "kinds") (list_data string r.kinds) refl (list_is IsName string name_is r.kinds h.names)
    (after (codes "sets") (list_data set_data r.sets) refl (list_is IsSet set_data set_is r.sets h.sets)
    (after (codes "size") (number_data r.size) refl (number_is r.size (omega (arith, h.size)))
    (after (codes "suspects") (list_data suspect_data r.suspects) refl (list_is IsSuspect suspect_data suspect_is r.suspects h.suspects)
    (after (codes "top") (string r.top) refl (name_is r.top h.top)
    (after (codes "version") (number_data 1) refl (number_is 1 (omega arith)) none))))))))

-- the text of a report is JSON with its value
pub text_is_json : (r : Report) → IsReport r → IsJsonOf (report_data r) (text_of r)
text_is_json r h = is_json r h (report_is r h)

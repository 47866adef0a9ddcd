-- What is sent of a report is its JSON, and has no float.
use Rattle.std.proofs.Common.{◌≡◌, ℕ, suc, ◌+◌, ◌<◌, ◌≤◌, List, [], ◌∷◌, length, take, get_or, map, Bool, false, codes, Some, refl, sym, ap, ◌∙◌, subst, arith}
use Rattle.std.proofs.lemmas.List.{get_or_default, take_all}
use Rattle.serde.specs.Event.{Log, Logs, WritesEach, map_begins, map_ends, seq_begins, seq_ends}
use Rattle.serde.proofs.Events.{WritesEach-more}
use Rattle.serde_json.specs.Data.{Data, Members, member, no_members, string}
use Rattle.serde_json.specs.Events.{SendsValue, SendsItems, SendsMembers, items_len}
use Rattle.serde_json.specs.View.{items_of}
use Rattle.serde_json.specs.Sent.{IsTextOf}
use Rattle.serde_json.specs.Written.{compact_text, has_float, items_have_float}
use Rattle.serde_json.proofs.FreeTexts.{text_of_value}
use Rattle.report_doc.specs.declared.types.Report.{Report}
use Rattle.report_doc.specs.declared.types.ReportSet.{ReportSet}
use Rattle.report_doc.specs.declared.types.ReportSuspect.{ReportSuspect}
use Rattle.report_doc.specs.Document.{report_data, set_data, suspect_data, trace_data}
use Rattle.report_doc.specs.Json.{list_data, number_data}
use Rattle.report_doc.specs.Sending.{SendsEnd, SendsEnding, SendsFound, SendsInputs, SendsMember}

-- ---- lists

-- the elements of a list are sent, one after the other
abbrev pub SendsEach : {T : Type 0} → (T → Data) → List T → Log → Log → Type 0
SendsEach f = WritesEach (λ x. SendsValue (f x))

-- one more is sent
pub each-more : {T : Type 0} (f : T → Data) (xs : List T) (i : ℕ) (d : T) (old mid new : Log) → i < length xs → SendsEach f (take i xs) old mid → SendsValue (f (get_or xs i d)) mid new → SendsEach f (take (i + 1) xs) old new
each-more f xs i d old mid new lt before next =
    WritesEach-more (λ x. SendsValue (f x)) xs i (get_or xs i d) old mid new lt (get_or_default xs i d (get_or xs i d) lt) before next

length-items : {T : Type 0} (f : T → Data) (xs : List T) → length xs ≡ items_len (items_of (map f xs))
length-items f [] = refl
length-items f (x ∷ xs) = ap suc (length-items f xs)

items_sent : {T : Type 0} (f : T → Data) (xs : List T) (first last new : Log) → SendsEach f xs first last → Logs last new seq_ends → SendsItems (items_of (map f xs)) first new
items_sent f [] first last new each ended = subst (λ log. Logs log new seq_ends) each ended
items_sent f (x ∷ xs) first last new each ended = (each.0, each.1, items_sent f xs each.0 last new each.2 ended)

-- the list is sent, n being the number of its elements
pub list_sent : {T : Type 0} (f : T → Data) (xs : List T) (i n : ℕ) (old first last new : Log) → n ≡ length xs → length xs ≤ i → Logs old first (seq_begins (Some n)) → SendsEach f (take i xs) first last → Logs last new seq_ends → SendsValue (list_data f xs) old new
list_sent f xs i n old first last new count all begun each ended =
    let same : n ≡ items_len (items_of (map f xs)) = count ∙ length-items f xs in
    let whole : SendsEach f xs first last = subst (λ ys. SendsEach f ys first last) (take_all i xs all) each in
    (first, subst (λ m. Logs old first (seq_begins (Some m))) same begun, items_sent f xs first last new whole ended)

-- ---- objects

pub set_sent : (set : ReportSet) (old first mid last new : Log) → Logs old first (map_begins (Some 2)) → SendsMember (codes "members") (list_data number_data set.members) first mid → SendsMember (codes "values") (list_data trace_data set.values) mid last → Logs last new map_ends → SendsValue (set_data set) old new
set_sent set old first mid last new begun a b ended = (first, begun, (a.0, mid, a.1, a.2, (b.0, last, b.1, b.2, ended)))

pub suspect_sent : (suspect : ReportSuspect) (old first kind label last new : Log) → Logs old first (map_begins (Some 3)) → SendsMember (codes "kind") (string suspect.kind) first kind → SendsMember (codes "label") (string suspect.label) kind label → SendsMember (codes "line") (number_data suspect.line) label last → Logs last new map_ends → SendsValue (suspect_data suspect) old new
suspect_sent suspect old first kind label last new begun a b c ended =
    (first, begun, (a.0, kind, a.1, a.2, (b.0, label, b.1, b.2, (c.0, last, c.1, c.2, ended))))

-- the members from the suspects on
abbrev end_members : Report → Members
end_members r = member (codes "suspects") (list_data suspect_data r.suspects) (member (codes "top") (string r.top) (member (codes "version") (number_data 1) no_members))

end_sent : (r : Report) (old last new : Log) → SendsEnd r old last → Logs last new map_ends → SendsMembers (end_members r) old new
end_sent r old last new h ended =
    let (suspects, first, more) = h in
    let (top, second, third) = more in
    (first.0, suspects, first.1, first.2, (second.0, top, second.1, second.2, (third.0, last, third.1, third.2, ended)))

pub report_sent : (r : Report) (old first ending inputs found last new : Log) → Logs old first (map_begins (Some 9)) → SendsEnding r first ending → SendsInputs r ending inputs → SendsFound r inputs found → SendsEnd r found last → Logs last new map_ends → SendsValue (report_data r) old new
report_sent r old first ending inputs found last new begun a b c d ended =
    let sets : SendsMembers (member (codes "sets") (list_data set_data r.sets) (member (codes "size") (number_data r.size) (end_members r))) inputs new =
    (c.1.0, c.0, c.1.1, c.1.2, (c.2.0, found, c.2.1, c.2.2, end_sent r found last new d ended)) in
    (first, begun, (a.1.0, a.0, a.1.1, a.1.2, (a.2.0, ending, a.2.1, a.2.2, (b.1.0, b.0, b.1.1, b.1.2, (b.2.0, inputs, b.2.1, b.2.2, sets)))))

-- ---- no float

items_whole : {T : Type 0} (f : T → Data) → ((x : T) → has_float (f x) ≡ false) → (xs : List T) → items_have_float (items_of (map f xs)) ≡ false
items_whole f each [] = refl
items_whole f each (x ∷ xs) = rw (each x) (items_whole f each xs)

texts_whole : (texts : List (List ℕ)) → has_float (list_data string texts) ≡ false
texts_whole texts = items_whole string (λ s. refl) texts

trace_whole : (cycles : List (List (List ℕ))) → has_float (trace_data cycles) ≡ false
trace_whole cycles = items_whole (list_data string) texts_whole cycles

set_whole : (set : ReportSet) → has_float (set_data set) ≡ false
set_whole set = rw (items_whole number_data (λ n. refl) set.members, items_whole trace_data trace_whole set.values) refl

pub report_whole : (r : Report) → has_float (report_data r) ≡ false
report_whole r =
    rw (texts_whole r.kinds, items_whole set_data set_whole r.sets, items_whole suspect_data (λ suspect. refl) r.suspects) refl

-- what is sent is written as the text of the report
pub report_written : (r : Report) (log : Log) (text : List ℕ) → SendsValue (report_data r) (Some []) log → IsTextOf log text → text ≡ compact_text (report_data r)
report_written r log text sent is = text_of_value (report_data r) log text sent is (report_whole r)

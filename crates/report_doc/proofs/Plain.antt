-- What is written of a report is read back as that.
use Rattle.std.proofs.Common.{◌≡◌, ℕ, suc, ◌<◌, ◌≤◌, ◌^◌, List, [], ◌∷◌, ◌++◌, map, Option, Some, option_and_then, unwrap_or, refl, sym, ap, ◌∙◌, subst, append-nil, arith}
use Rattle.std.specs.Prelude.{All, ⊤, IsUtf8}
use Rattle.std.proofs.lemmas.Str.{IsUtf8-append, IsUtf8-from_ascii}
use Rattle.std.proofs.lemmas.Str.Ascii.{IsAscii-nil, IsAscii-cons}
use Rattle.json.specs.Token.{Token}
use Rattle.json.specs.Lex.{tokens}
use Rattle.json.specs.Print.{print}
use Rattle.json.specs.Json as json
use Rattle.json.specs.Tree as tree
use Rattle.json.specs.Tree.{json_tokens}
use Rattle.json.proofs.Printed.Decimals.{IsNumber-decimal}
use Rattle.json.proofs.Printed.Tokens.{tokens-print}
use Rattle.json.proofs.Printed.Trees.{ArePrintable-json_tokens, value-json_tokens}
use Rattle.serde_json.specs.Data.{Data, string}
use Rattle.serde_json.specs.View.{items_of}
use Rattle.serde_json.specs.Read.{of_json, of_items, max_depth, read}
use Rattle.serde_json.specs.Written.{compact_text, outline, items_outline}
use Rattle.serde_json.proofs.Numbers.{number_of-decimal}
use Rattle.serde_json.proofs.Texts.{print-outline}
use Rattle.report_doc.specs.declared.types.Report.{Report}
use Rattle.report_doc.specs.declared.types.ReportSet.{ReportSet}
use Rattle.report_doc.specs.declared.types.ReportSuspect.{ReportSuspect}
use Rattle.report_doc.specs.Document.{report_data, set_data, suspect_data, text_of, trace_data}
use Rattle.report_doc.specs.Json.{IsJsonOf, number_data, list_data}
use Rattle.report_doc.specs.Shape.{IsReport, IsSet, IsSuspect, IsWord}
use Rattle.report_doc.proofs.Newline.{tokens-newline}
use Rattle.report_doc.proofs.Same.{report_same}

-- the value is read back from what is written of it, and nests no deeper than n
pub record IsPlain (d : Data) (n : ℕ) : Type 0 where
  pub back : of_json (outline d) ≡ Some d
  pub numbers : tree.HasNumbers (outline d)
  pub shallow : tree.depth (outline d) ≤ n

plain_text : (s : List ℕ) (n : ℕ) → IsPlain (string s) n
plain_text s n = record { back = refl; numbers = tt; shallow = omega arith }

plain_number : (m n : ℕ) → IsWord m → IsPlain (number_data m) n
plain_number m n h =
    let small : m < 2 ^ 64 = omega arith in
    record { back = rw (number_of-decimal m small) refl; numbers = IsNumber-decimal m small; shallow = omega arith }

record ArePlain {T : Type 0} (f : T → Data) (xs : List T) (n : ℕ) : Type 0 where
  back : of_items (items_outline (items_of (map f xs))) ≡ Some (items_of (map f xs))
  numbers : tree.ItemsHaveNumbers (items_outline (items_of (map f xs)))
  shallow : tree.items_depth (items_outline (items_of (map f xs))) ≤ n

are_plain : {T : Type 0} (P : T → Type 0) (f : T → Data) (n : ℕ) → ((x : T) → P x → IsPlain (f x) n) → (xs : List T) → All P xs → ArePlain f xs n
are_plain P f n each [] h = record { back = refl; numbers = tt; shallow = omega arith }
are_plain P f n each (x ∷ xs) h =
    let first = each x (h 0 x (omega arith)) in
    let rest = are_plain P f n each xs (λ k d lt. h (suc k) d (omega arith)) in
    record { back = rw (first.back, rest.back) refl; numbers = (first.numbers, rest.numbers); shallow = omega (arith, first.shallow, rest.shallow) }

plain_list : {T : Type 0} (P : T → Type 0) (f : T → Data) (n : ℕ) → ((x : T) → P x → IsPlain (f x) n) → (xs : List T) → All P xs → IsPlain (list_data f xs) (suc n)
plain_list P f n each xs h =
    let all = are_plain P f n each xs h in
    record { back = rw (all.back) refl; numbers = all.numbers; shallow = omega (arith, all.shallow) }

plain_texts : (n : ℕ) (texts : List (List ℕ)) → IsPlain (list_data string texts) (suc n)
plain_texts n texts = plain_list (λ _. ⊤) string n (λ s _. plain_text s n) texts (λ k d lt. tt)

plain_trace : (cycles : List (List (List ℕ))) → IsPlain (trace_data cycles) 2
plain_trace cycles = plain_list (λ _. ⊤) (list_data string) 1 (λ texts _. plain_texts 0 texts) cycles (λ k d lt. tt)

plain_set : (set : ReportSet) → IsSet set → IsPlain (set_data set) 4
plain_set set h =
    let members = plain_list IsWord number_data 0 (λ m w. plain_number m 0 w) set.members h.members in
    let values = plain_list (λ _. ⊤) trace_data 2 (λ cycles _. plain_trace cycles) set.values (λ k d lt. tt) in
    record { back = rw (members.back, values.back) refl; numbers = (members.numbers, (values.numbers, tt)); shallow = omega (arith, members.shallow, values.shallow) }

plain_suspect : (suspect : ReportSuspect) → IsSuspect suspect → IsPlain (suspect_data suspect) 1
plain_suspect suspect h =
    let line = plain_number suspect.line 0 h.line in
    record { back = rw (line.back) refl; numbers = (tt, (tt, (line.numbers, tt))); shallow = omega (arith, line.shallow) }

plain_report : (r : Report) → IsReport r → IsPlain (report_data r) 6
plain_report r h =
    let kinds = plain_texts 0 r.kinds in
    let sets = plain_list IsSet set_data 4 plain_set r.sets h.sets in
    let size = plain_number r.size 0 (omega (arith, h.size)) in
    let suspects = plain_list IsSuspect suspect_data 1 plain_suspect r.suspects h.suspects in
    let version = plain_number 1 0 (omega arith) in
    record {
      back = rw (kinds.back, sets.back, size.back, suspects.back, version.back) refl;
      numbers = (tt, (tt, (tt, (kinds.numbers, (sets.numbers, (size.numbers, (suspects.numbers, (tt, (version.numbers, tt)))))))));
      shallow = omega (arith, kinds.shallow, sets.shallow, size.shallow, suspects.shallow, version.shallow);
    }

-- ---- the whole text

abbrev whole : Option (json.Json × List Token) → Option Data
whole o = option_and_then of_json (option_and_then (λ p. json.if_last p.0 p.1) o)

read_line : (d : Data) → IsPlain d 127 → read (print (json_tokens (outline d)) ++ 10 ∷ []) ≡ Some d
read_line d h =
    let ts = json_tokens (outline d) in
    let printable = ArePrintable-json_tokens (outline d) h.numbers in
    let same : tokens (print ts ++ 10 ∷ []) ≡ ts ++ [] = tokens-newline ts printable ∙ tokens-print ts printable ∙ sym (append-nil ts) in
    let value = ap (json.value max_depth) same ∙ value-json_tokens (outline d) max_depth [] h.shallow in
    ap whole value ∙ h.back

IsUtf8-newline : IsUtf8 (10 ∷ [])
IsUtf8-newline = IsUtf8-from_ascii (10 ∷ []) (IsAscii-cons 10 [] (omega arith) IsAscii-nil)

-- the JSON of a report's text is the report's
pub is_json : (r : Report) → IsReport r → IsUtf8 (compact_text (report_data r)) → IsJsonOf (report_data r) (text_of r)
is_json r h utf8 =
    let d = report_data r in
    let plain = plain_report r h in
    let deep : IsPlain d 127 = record { back = plain.back; numbers = plain.numbers; shallow = omega (arith, plain.shallow) } in
    let same : print (json_tokens (outline d)) ++ 10 ∷ [] ≡ text_of r = ap (λ s. s ++ 10 ∷ []) (print-outline d) in
    (IsUtf8-append _ _ utf8 IsUtf8-newline, subst (λ s. read s ≡ Some d) same (read_line d deep))

-- the JSON that is written, and a newline
pub whole_text : (r : Report) (json text : List ℕ) → IsReport r → json ≡ compact_text (report_data r) → IsUtf8 json → text ≡ json ++ 10 ∷ [] → (text ≡ text_of r) × IsJsonOf (report_data r) text
whole_text r json text h is utf8 e =
    let same : text ≡ text_of r = e ∙ ap (λ s. s ++ 10 ∷ []) is in
    (same, subst (IsJsonOf (report_data r)) (sym same) (is_json r h (subst IsUtf8 is utf8)))

-- the text is that of no other report
pub only_text : (r other : Report) (text : List ℕ) → IsReport r → IsReport other → IsJsonOf (report_data r) text → IsJsonOf (report_data other) text → other ≡ r
only_text r other text h k one two =
    let same : Some (report_data other) ≡ Some (report_data r) = sym two.1 ∙ one.1 in
    report_same other r k h (ap (λ o. unwrap_or o (report_data r)) same)

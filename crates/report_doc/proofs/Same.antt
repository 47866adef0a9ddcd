-- Reports with the same JSON are the same.
use Rattle.std.proofs.Common.{◌≡◌, ◌==◌, ℕ, suc, cond, List, [], ◌∷◌, get_or, map, Option, Some, None, refl, sym, ap, ap₂, ◌∙◌, arith}
use Rattle.std.specs.Prelude.{All, ⊤, IfSome}
use Rattle.hex.specs.Hex.{encode_lower, decode_of}
use Rattle.hex.proofs.HexLemmas.{decode_of-encode_lower, decode_of-same}
use Rattle.loc_base.specs.Name.{IsName}
use Rattle.loc_base.specs.declared.digest.Digest.{Digest}
use Rattle.serde_json.specs.Data.{Data, string}
use Rattle.serde_json.specs.Find.{as_str}
use Rattle.serde_json.specs.View.{items_of}
use Rattle.report_doc.specs.declared.types.Ending.{Ending}
use Rattle.report_doc.specs.declared.types.Ending.TheVariants.{Complete, Budget, Sets, Earlier}
use Rattle.report_doc.specs.declared.types.Report.{Report}
use Rattle.report_doc.specs.declared.types.ReportSet.{ReportSet}
use Rattle.report_doc.specs.declared.types.ReportSuspect.{ReportSuspect}
use Rattle.report_doc.specs.Document.{clock_text, ending_text, report_data, set_data, suspect_data, trace_data}
use Rattle.report_doc.specs.Json.{number_data, list_data}
use Rattle.report_doc.specs.Shape.{IsDigest, IsReport}

abbrev from_some : {T : Type 0} → T → Option T → T
from_some x None = x
from_some x (Some y) = y

pub items_same : (one other : List Data) → items_of one ≡ items_of other → one ≡ other
items_same [] [] e = refl
items_same [] (d ∷ ds) e = absurd cc
items_same (d ∷ ds) [] e = absurd cc
items_same (c ∷ cs) (d ∷ ds) e =
    let first : c ≡ d = cc in
    let rest : items_of cs ≡ items_of ds = cc in
    ap₂ (λ x xs. x ∷ xs) first (items_same cs ds rest)

text_same : (s t : List ℕ) → string s ≡ string t → s ≡ t
text_same s t e = ap (λ d. from_some s (as_str d)) e

number_same : (m n : ℕ) → number_data m ≡ number_data n → m ≡ n
number_same m n e = cc

clock_same : (a b : Option (List ℕ)) → IfSome a IsName → IfSome b IsName → clock_text a ≡ clock_text b → a ≡ b
clock_same None None h k e = refl
clock_same None (Some b) h k e = absurd (k.0 (sym e))
clock_same (Some a) None h k e = absurd (h.0 e)
clock_same (Some a) (Some b) h k e = ap Some e

abbrev ending_from : List ℕ → Ending
ending_from s = cond (get_or s 0 0 == 99) Complete (cond (get_or s 0 0 == 98) Budget (cond (get_or s 0 0 == 115) Sets Earlier))

ending_back : (e : Ending) → ending_from (ending_text e) ≡ e
ending_back Complete = refl
ending_back Budget = refl
ending_back Sets = refl
ending_back Earlier = refl

ending_same : (a b : Ending) → ending_text a ≡ ending_text b → a ≡ b
ending_same a b e = sym (ending_back a) ∙ ap ending_from e ∙ ending_back b

digest_same : (a b : Digest) → IsDigest a → IsDigest b → encode_lower a.bytes ≡ encode_lower b.bytes → a ≡ b
digest_same a b h k e =
    let one = decode_of-encode_lower a.bytes h.bytes in
    let other = ap decode_of e ∙ decode_of-encode_lower b.bytes k.bytes in
    let bytes : a.bytes ≡ b.bytes = decode_of-same (encode_lower a.bytes) a.bytes b.bytes one other in
    λ i. record { bytes = bytes i }

module _ {T : Type 0} (P : T → Type 0) (f : T → Data) (same : (x y : T) → P x → P y → f x ≡ f y → x ≡ y) where
  elements_same : (xs ys : List T) → All P xs → All P ys → map f xs ≡ map f ys → xs ≡ ys
  elements_same [] [] h k e = refl
  elements_same [] (y ∷ ys) h k e = absurd cc
  elements_same (x ∷ xs) [] h k e = absurd cc
  elements_same (x ∷ xs) (y ∷ ys) h k e =
      let first : f x ≡ f y = cc in
      let rest : map f xs ≡ map f ys = cc in
      ap₂ (λ z zs. z ∷ zs) (same x y (h 0 x (omega arith)) (k 0 y (omega arith)) first)
      (elements_same xs ys (λ j d lt. h (suc j) d (omega arith)) (λ j d lt. k (suc j) d (omega arith)) rest)

  list_same : (xs ys : List T) → All P xs → All P ys → list_data f xs ≡ list_data f ys → xs ≡ ys
  list_same xs ys h k e =
      let items : items_of (map f xs) ≡ items_of (map f ys) = cc in
      elements_same xs ys h k (items_same (map f xs) (map f ys) items)

texts_same : (xs ys : List (List ℕ)) → list_data string xs ≡ list_data string ys → xs ≡ ys
texts_same xs ys e = list_same (λ _. ⊤) string (λ s t _ _ q. text_same s t q) xs ys (λ k d lt. tt) (λ k d lt. tt) e

trace_same : (xs ys : List (List (List ℕ))) → trace_data xs ≡ trace_data ys → xs ≡ ys
trace_same xs ys e = list_same (λ _. ⊤) (list_data string) (λ s t _ _ q. texts_same s t q) xs ys (λ k d lt. tt) (λ k d lt. tt) e

set_same : (a b : ReportSet) → ⊤ → ⊤ → set_data a ≡ set_data b → a ≡ b
set_same a b _ _ e =
    let one : list_data number_data a.members ≡ list_data number_data b.members = cc in
    let two : list_data trace_data a.values ≡ list_data trace_data b.values = cc in
    let members = list_same (λ _. ⊤) number_data (λ m n _ _ q. number_same m n q) a.members b.members (λ k d lt. tt) (λ k d lt. tt) one in
    let values = list_same (λ _. ⊤) trace_data (λ s t _ _ q. trace_same s t q) a.values b.values (λ k d lt. tt) (λ k d lt. tt) two in
    λ i. record { members = members i; values = values i }

suspect_same : (a b : ReportSuspect) → ⊤ → ⊤ → suspect_data a ≡ suspect_data b → a ≡ b
suspect_same a b _ _ e =
    let one : string a.kind ≡ string b.kind = cc in
    let two : string a.label ≡ string b.label = cc in
    let three : number_data a.line ≡ number_data b.line = cc in
    let kind = text_same a.kind b.kind one in
    let label = text_same a.label b.label two in
    let line = number_same a.line b.line three in
    λ i. record { kind = kind i; label = label i; line = line i }

pub report_same : (a b : Report) → IsReport a → IsReport b → report_data a ≡ report_data b → a ≡ b
report_same a b h k e =
    let e1 : string (clock_text a.clock) ≡ string (clock_text b.clock) = cc in
    let e2 : string (ending_text a.ending) ≡ string (ending_text b.ending) = cc in
    let e3 : string (encode_lower a.inputs.bytes) ≡ string (encode_lower b.inputs.bytes) = cc in
    let e4 : list_data string a.kinds ≡ list_data string b.kinds = cc in
    let e5 : list_data set_data a.sets ≡ list_data set_data b.sets = cc in
    let e6 : number_data a.size ≡ number_data b.size = cc in
    let e7 : list_data suspect_data a.suspects ≡ list_data suspect_data b.suspects = cc in
    let e8 : string a.top ≡ string b.top = cc in
    let clock = clock_same a.clock b.clock h.clock k.clock (text_same _ _ e1) in
    let ending = ending_same a.ending b.ending (text_same _ _ e2) in
    let inputs = digest_same a.inputs b.inputs h.inputs k.inputs (text_same _ _ e3) in
    let kinds = texts_same a.kinds b.kinds e4 in
    let sets = list_same (λ _. ⊤) set_data set_same a.sets b.sets (λ j d lt. tt) (λ j d lt. tt) e5 in
    let size = number_same a.size b.size e6 in
    let suspects = list_same (λ _. ⊤) suspect_data suspect_same a.suspects b.suspects (λ j d lt. tt) (λ j d lt. tt) e7 in
    let top = text_same a.top b.top e8 in
    λ i. record { clock = clock i; ending = ending i; inputs = inputs i; kinds = kinds i; sets = sets i; size = size i; suspects = suspects i; top = top i }

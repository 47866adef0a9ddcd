-- Facts about the front of a list, and text that is ASCII.
use Rattle.std.proofs.Common.{◌≡◌, ℕ, zero, suc, ◌+◌, ◌<◌, List, [], ◌∷◌, length, take, get_or, inl, inr, sym, subst, arith}
use Rattle.std.specs.Prelude.{All, IsAscii, ⊤}
use Rattle.std.proofs.lemmas.List.Elements.{All-cons}
use Rattle.std.proofs.lemmas.Str.{IsUtf8-from_ascii}
use Rattle.std.proofs.lemmas.Str.Ascii.{IsAscii-nil, IsAscii-cons, IsAscii-from_all}
use Rattle.hex.specs.Hex.{encode_lower, lower_digits}
use Rattle.hex.proofs.HexLemmas.{IsAscii-encode_with}
use Rattle.loc_base.specs.Name.{IsName}
use Rattle.report_doc.specs.declared.types.Report.{Report}
use Rattle.report_doc.specs.Sending.{AreAscii, HasParts}
use Rattle.report_doc.specs.Shape.{CanBeWritten, IsHexText, IsHexDigit, IsReport}

-- ---- one more element

All-next-suc : {T : Type 0} (P : T → Type 0) (xs : List T) (i : ℕ) (d x : T) → i < length xs → get_or xs i d ≡ x → All P (take i xs) → P x → All P (take (suc i) xs)
All-next-suc P [] i d x lt is h p = absurd (omega arith)
All-next-suc P (y ∷ ys) zero d x lt is h p = All-cons P y [] (subst P (sym is) p) (λ k e l. absurd (omega arith))
All-next-suc P (y ∷ ys) (suc i) d x lt is h p = All-cons P y (take (suc i) ys) (h 0 y (omega arith)) (All-next-suc P ys i d x (omega arith) is (λ k e l. h (suc k) e (omega arith)) p)

pub All-next : {T : Type 0} (P : T → Type 0) (xs : List T) (i : ℕ) (d x : T) → i < length xs → get_or xs i d ≡ x → All P (take i xs) → P x → All P (take (i + 1) xs)
All-next P xs i d x lt is h p =
    let next : suc i ≡ i + 1 = omega arith in
    subst (λ n. All P (take n xs)) next (All-next-suc P xs i d x lt is h p)

-- ---- names and digits are ASCII

pub IsAscii-name : (name : List ℕ) → IsName name → IsAscii name
IsAscii-name name h = IsAscii-from_all name (λ k d lt. omega (arith, (h.1 k d lt).1))

below : (byte : ℕ) → IsHexDigit byte → byte < 128
below byte (inl h) = omega (arith, h.1)
below byte (inr h) = omega (arith, h.1)

pub IsAscii-digits : (text : List ℕ) → IsHexText text → IsAscii text
IsAscii-digits text h = IsAscii-from_all text (λ k d lt. below _ (h.digits k d lt))

abbrev Small : List ℕ → Type 0
Small [] = ⊤
Small (b ∷ bs) = (b < 128) × Small bs

IsAscii-small : (bs : List ℕ) → Small bs → IsAscii bs
IsAscii-small [] h = IsAscii-nil
IsAscii-small (b ∷ bs) h = IsAscii-cons b bs h.0 (IsAscii-small bs h.1)

IsAscii-lower_digits : IsAscii lower_digits
IsAscii-lower_digits =
    IsAscii-small lower_digits (omega arith, (omega arith, (omega arith, (omega arith, (omega arith, (omega arith, (omega arith, (omega arith, (omega arith, (omega arith, (omega arith, (omega arith, (omega arith, (omega arith, (omega arith, (omega arith, tt))))))))))))))))

pub IsAscii-encode_lower : (bytes : List ℕ) → IsAscii (encode_lower bytes)
IsAscii-encode_lower bytes = IsAscii-encode_with lower_digits bytes IsAscii-lower_digits

-- the values of a report that can be written are texts
pub values_ascii : (r : Report) → CanBeWritten r → All AreAscii r.sets
values_ascii r h = λ s set in_sets t trace in_traces c cycle in_cycles p text in_texts.
    IsAscii-digits _ (h.values s set in_sets t trace in_traces c cycle in_cycles p text in_texts)

-- a report that can be written is one, as its parts are what they are
pub is_report : (r : Report) → CanBeWritten r → HasParts r → IsReport r
is_report r h parts = record {
  clock = parts.clock;
  inputs = parts.inputs;
  names = parts.kinds;
  kinds = h.kinds;
  sets = λ k set within. record { members = parts.members k set within; values = h.values k set within };
  size = h.size;
  suspects = parts.suspects;
  top = parts.top;
}

pub ruleset ascii = (IsAscii-name, IsAscii-digits, IsAscii-encode_lower, IsUtf8-from_ascii, values_ascii, is_report)

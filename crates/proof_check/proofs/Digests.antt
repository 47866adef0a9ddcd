-- A digest in hex digits.
use Rattle.std.proofs.Common.{◌≡◌, ◌≢◌, ℕ, ◌*◌, true, false, Result, Ok, Err, List, [], ◌∷◌, ◌++◌, length, take, drop, ap, sym, ◌∙◌, subst, arith}
use Rattle.std.specs.Prelude.{MatchResult, is_ok, OnOk}
use Rattle.std.specs.Str.{bytes_eq}
use Rattle.std.proofs.lemmas.Bool.{false≢true, both_ways}
use Rattle.std.proofs.lemmas.List.{take-append-drop, append_cancel_left}
use Rattle.std.proofs.lemmas.Slice.Eq.{bytes_eq-Decides}
use Rattle.hex.specs.declared.error.FromHexError.{FromHexError}
use Rattle.hex.specs.Hex.{encode_lower, decode_of, decode_sized, IsBytes, lower_digits}
use Rattle.hex.proofs.HexLemmas.{length-encode_with, decode_of-encode_lower, decode_sized-twice, decode_sized-ok, decode_of-ok}
use Rattle.loc_base.specs.declared.digest.Digest.{Digest}
use Rattle.proof_check.specs.Text.{inputs_line, IsDigest}

abbrev pub before_digest : List ℕ
before_digest = 105 ∷ 110 ∷ 112 ∷ 117 ∷ 116 ∷ 115 ∷ 32 ∷ []

-- the answer of a decoding into room for n bytes
abbrev pub Decoded : List ℕ → ℕ → Result (Unit {0}) FromHexError → List ℕ → Type 0
Decoded digits n answer new = MatchResult (decode_sized digits n) (λ bytes. (answer ≡ Ok tt) × (new ≡ bytes)) (λ e. answer ≡ Err e)

decoded_ok : (digits : List ℕ) (n : ℕ) (answer : Result (Unit {0}) FromHexError) (new : List ℕ) (sized : Result (List ℕ) FromHexError) → MatchResult sized (λ bytes. (answer ≡ Ok tt) × (new ≡ bytes)) (λ e. answer ≡ Err e) → is_ok answer ≡ true → sized ≡ Ok new
decoded_ok digits n answer new (Ok bytes) h ok = ap Ok (sym h.1)
decoded_ok digits n answer new (Err e) h ok = absurd (false≢true (sym (ap is_ok h) ∙ ok))

decoded_as : (answer : Result (Unit {0}) FromHexError) (new bytes : List ℕ) (sized : Result (List ℕ) FromHexError) → MatchResult sized (λ bs. (answer ≡ Ok tt) × (new ≡ bs)) (λ e. answer ≡ Err e) → sized ≡ Ok bytes → (is_ok answer ≡ true) × (new ≡ bytes)
decoded_as answer new bytes sized h e =
    let at : (answer ≡ Ok tt) × (new ≡ bytes) = subst (λ (s : Result (List ℕ) FromHexError). MatchResult s (λ bs. (answer ≡ Ok tt) × (new ≡ bs)) (λ err. answer ≡ Err err)) e h in
    (ap is_ok at.0, at.1)

spelled_decodes : (digits bytes : List ℕ) → IsBytes bytes → length bytes ≡ 32 → digits ≡ encode_lower bytes → decode_sized digits 32 ≡ Ok bytes
spelled_decodes digits bytes is size e =
    let twice : length digits ≡ 2 * 32 = ap (λ (ds : List ℕ). length ds) e ∙ length-encode_with lower_digits bytes ∙ ap (λ (n : ℕ). 2 * n) size in
    decode_sized-twice digits 32 twice ∙ ap decode_of e ∙ decode_of-encode_lower bytes is

-- a line that begins as the digest's line does
pub line_parts : (line prefix digits : List ℕ) → bytes_eq (take (length prefix) line) prefix ≡ true → digits ≡ drop (length prefix) line → prefix ≡ before_digest → line ≡ before_digest ++ digits
line_parts line prefix digits same e is =
    sym (take-append-drop (length prefix) line) ∙ ap (λ (front : List ℕ). front ++ drop (length prefix) line) ((bytes_eq-Decides (take (length prefix) line) prefix).0 same)
    ∙ ap (λ (rest : List ℕ). prefix ++ rest) (sym e) ∙ ap (λ (front : List ℕ). front ++ digits) is

pub on_ok : {T E : Type 0} (P : Type 0) (answer : Result T E) → is_ok answer ≡ true → OnOk answer P → P
on_ok P (Ok x) ok h = h
on_ok P (Err e) ok h = absurd (false≢true ok)

digits_of_line : (line digits : List ℕ) (digest : Digest) → line ≡ before_digest ++ digits → line ≡ inputs_line digest → digits ≡ encode_lower digest.bytes
digits_of_line line digits digest parts e = append_cancel_left before_digest digits (encode_lower digest.bytes) (sym parts ∙ e)

-- digits that aren't decoded are no digest's
pub undecoded : (line digits : List ℕ) (answer : Result (Unit {0}) FromHexError) (new : List ℕ) → line ≡ before_digest ++ digits → Decoded digits 32 answer new → is_ok answer ≡ false → (digest : Digest) → IsDigest digest → line ≢ inputs_line digest
undecoded line digits answer new parts decoded bad digest is e =
    let both = decoded_as answer new digest.bytes (decode_sized digits 32) decoded (spelled_decodes digits digest.bytes is.bytes is.count (digits_of_line line digits digest parts e)) in
    both_ways (is_ok answer) bad both.0

-- nor are those that aren't the digits of what they decode to
pub not_spelled : (line digits : List ℕ) (answer : Result (Unit {0}) FromHexError) (new : List ℕ) → line ≡ before_digest ++ digits → Decoded digits 32 answer new → digits ≢ encode_lower new → (digest : Digest) → IsDigest digest → line ≢ inputs_line digest
not_spelled line digits answer new parts decoded other digest is e =
    let spelled = digits_of_line line digits digest parts e in
    let both = decoded_as answer new digest.bytes (decode_sized digits 32) decoded (spelled_decodes digits digest.bytes is.bytes is.count spelled) in
    other (spelled ∙ ap encode_lower (sym both.1))

-- and where they are, the line is the digest's
pub spelled_line : (line digits : List ℕ) (answer : Result (Unit {0}) FromHexError) (new : List ℕ) → line ≡ before_digest ++ digits → Decoded digits 32 answer new → is_ok answer ≡ true → digits ≡ encode_lower new
    → IsDigest (record { bytes = new }) × (line ≡ inputs_line (record { bytes = new }))
spelled_line line digits answer new parts decoded ok spelled =
    let sized : decode_sized digits 32 ≡ Ok new = decoded_ok digits 32 answer new (decode_sized digits 32) decoded ok in
    let twice = decode_sized-ok digits 32 new sized in
    let facts = decode_of-ok digits new (sym (decode_sized-twice digits 32 twice) ∙ sized) in
    (record { bytes = facts.3; count = omega (arith, twice, facts.2) }, parts ∙ ap (λ (rest : List ℕ). before_digest ++ rest) spelled)

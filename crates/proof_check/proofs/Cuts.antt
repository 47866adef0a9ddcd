-- A text cut at the bytes of one value.
use Rattle.std.proofs.Common.{◌≡◌, ℕ, ◌+◌, ◌<◌, ◌≤◌, false, eqb, List, [], ◌∷◌, ◌++◌, length, get_or, take, drop, ap, sym, ◌∙◌, arith, All}
use Rattle.std.specs.List.{slice_split}
use Rattle.std.proofs.lemmas.Bool.{eq-eqb}
use Rattle.std.proofs.lemmas.List.{take-append-drop, drop_more, get_or-take, length-take-le}
use Rattle.std.proofs.lemmas.List.Elements.{All-from_get_or}
use Rattle.std.proofs.lemmas.List.Splits.{slice_split_at, slice_split_none}

front-All : (text : List ℕ) (byte place : ℕ) → place ≤ length text → ((k : ℕ) → k < place → eqb (get_or text k 0) byte ≡ false) → All (λ b. eqb b byte ≡ false) (take place text)
front-All text byte place within before =
    let size : length (take place text) ≡ place = length-take-le place text within in
    All-from_get_or (λ b. eqb b byte ≡ false) (take place text) 0 (λ k lt.
    let below : k < place = omega arith in
    ap (λ b. eqb b byte) (get_or-take place text k 0 below) ∙ before k below)

-- the first such byte is at the place
pub cut_found : (text : List ℕ) (byte place : ℕ) → place < length text → ((k : ℕ) → k < place → eqb (get_or text k 0) byte ≡ false) → get_or text place 0 ≡ byte
    → slice_split (λ b. eqb b byte) text ≡ take place text ∷ slice_split (λ b. eqb b byte) (drop (place + 1) text)
cut_found text byte place within before here =
    let whole : text ≡ take place text ++ get_or text place 0 ∷ drop (place + 1) text = sym (take-append-drop place text) ∙ ap (λ rest. take place text ++ rest) (drop_more text place 0 within) in
    ap (slice_split (λ b. eqb b byte)) whole
    ∙ slice_split_at (λ b. eqb b byte) (take place text) (get_or text place 0) (drop (place + 1) text) (front-All text byte place (omega arith) before) (eq-eqb (get_or text place 0) byte here)

-- there is none
pub cut_none : (text : List ℕ) (byte place : ℕ) → length text ≤ place → ((k : ℕ) → k < place → eqb (get_or text k 0) byte ≡ false) → slice_split (λ b. eqb b byte) text ≡ text ∷ []
cut_none text byte place past before = slice_split_none (λ b. eqb b byte) text (All-from_get_or (λ b. eqb b byte ≡ false) text 0 (λ k lt. before k (omega arith)))

-- A text reads in one way.
use Rattle.std.proofs.Common.{◌≡◌, ℕ, List, refl, sym, ◌∙◌, ap, subst, Result, Err}
use Rattle.vcd_words.specs.Words.{Placed}
use Rattle.vcd_reading.specs.Scopes.{Sought}
use Rattle.vcd_reading.specs.Changes.{Past}
use Rattle.vcd_reading.specs.Reading.{goes, stops, Reads, at_end, one_piece, at_fault}

-- a step goes on to one place, or stops at one
goes_to : {p q : Past} {l m : List Placed} → goes p l ≡ goes q m → (p ≡ q) × (l ≡ m)
goes_to e = (cc, cc)

goes_stops : {p : Past} {l : List Placed} {at : ℕ} → goes p l ≡ stops at → ⊥
goes_stops e = cc

stops_at : {at to : ℕ} → stops at ≡ stops to → at ≡ to
stops_at e = cc

carry : (sought : Sought) (end : ℕ) (p q : Past) (l m : List Placed) (outcome : Result Past ℕ) → goes p l ≡ goes q m → Reads sought end q m outcome → Reads sought end p l outcome
carry sought end p q l m outcome e run =
    let same = goes_to e in
    let P : Past → Type 0 = λ x. Reads sought end x l outcome in
    let Q : List Placed → Type 0 = λ x. Reads sought end q x outcome in
    subst P (sym same.0) (subst Q (sym same.1) run)

pub one_reading : {sought : Sought} {end : ℕ} {past : Past} {words : List Placed} {one other : Result Past ℕ} → Reads sought end past words one
    → Reads sought end past words other → one ≡ other
one_reading at_end at_end = refl
one_reading (one_piece goes_on run) (one_piece goes_on_too run_too) = one_reading run (carry _ _ _ _ _ _ _ (sym goes_on ∙ goes_on_too) run_too)
one_reading (one_piece goes_on run) (at_fault stop) = absurd (goes_stops (sym goes_on ∙ stop))
one_reading (at_fault stop) (one_piece goes_on run) = absurd (goes_stops (sym goes_on ∙ stop))
one_reading (at_fault stop) (at_fault stop_too) = let same = stops_at (sym stop ∙ stop_too) in ap Err same

-- Lines counted, and where the last one begins, one byte after another.
use Rattle.std.proofs.Common.{ℕ, ◌≡◌, ◌≢◌, ◌≤◌, ◌<◌, ◌+◌, ◌⊎◌, inl, inr, true, false, List, Some, length, get_or, take, ap, sym, refl, ◌∙◌, subst, arith}
use Rattle.std.specs.Prelude.{Bool, slice_get, if◌then◌else◌}
use Rattle.std.specs.List.{count_by}
use Rattle.std.proofs.lemmas.Bool.{cases_lt, eqb-true, false≢true}
use Rattle.std.proofs.lemmas.Option.{get_or_from_slice_get}
use Rattle.std.proofs.lemmas.List.Sums.{count_by_more_no, count_by_more_yes}
use Rattle.loc_base.proofs.ShelfLists.{slice_get-some}
use Rattle.loc_base.proofs.ShelfOptions.{Some-same}
use Rattle.note_text.specs.declared.place.Place.{Place}
use Rattle.note_text.specs.Places.{IsLineStart, is_newline}

-- at the beginning of a text
pub start-first : (text : List ℕ) → IsLineStart text 0 0
start-first text = record { within = omega arith; begins = inl refl; none = λ k least most. absurd (omega (arith, most)) }

-- a byte that is no newline keeps the line's beginning
pub start-same : (text : List ℕ) (at start byte : ℕ) → IsLineStart text at start → slice_get text at ≡ Some byte → byte ≢ 10
    → IsLineStart text (at + 1) start
start-same text at start byte is there other = record {
  within = omega (arith, is.within);
  begins = is.begins;
  none = none;
}
  where
    none : (k : ℕ) → start ≤ k → k < at + 1 → slice_get text k ≢ Some 10
    none k least most newline = before (cases_lt k at)
      where
        before : (k < at) ⊎ (at ≤ k) → ⊥
        before (inl lower) = is.none k least lower newline
        before (inr higher) =
            let same : k ≡ at = omega (arith, higher, most) in
            other (Some-same (sym there ∙ ap (slice_get text) (sym same) ∙ newline))

-- after a newline another line begins
pub start-next : (text : List ℕ) (at : ℕ) → slice_get text at ≡ Some 10 → IsLineStart text (at + 1) (at + 1)
start-next text at there = record {
  within = omega arith;
  begins = inr (at, refl, there);
  none = λ k least most. absurd (omega (arith, least, most));
}

-- a place, as far as a text was gone over
pub record Going (text : List ℕ) (k : ℕ) (place : Place) : Type 0 where
  pub at : place.at ≡ k
  pub line : place.line ≡ 1 + count_by is_newline (take k text)
  pub few : place.line ≤ k + 1
  pub start : IsLineStart text k place.start

pub going-begins : (text : List ℕ) → Going text 0 (record { at = 0; line = 1; start = 0 })
going-begins text = record { at = refl; line = refl; few = omega arith; start = start-first text }

-- the place after it
pub record Follows (byte : ℕ) (place next : Place) : Type 0 where
  pub at : next.at ≡ place.at + 1
  pub line : next.line ≡ (if is_newline byte then place.line + 1 else place.line)
  pub start : next.start ≡ (if is_newline byte then place.at + 1 else place.start)

-- the byte of a place
there : (text : List ℕ) (k : ℕ) → k < length text → slice_get text k ≡ Some (get_or text k 0)
there text k low = let (byte, found) = slice_get-some text k low in found ∙ ap Some (sym (get_or_from_slice_get text k byte 0 found))

pub going-on : (text : List ℕ) (k : ℕ) (place next : Place) → k < length text → Going text k place
    → Follows (get_or text k 0) place next → Going text (k + 1) next
going-on text k place next low going follows = by (is_newline byte) refl
  where
    byte : ℕ
    byte = get_or text k 0

    by : (test : Bool) → is_newline byte ≡ test → Going text (k + 1) next
    by true newline =
        let line : next.line ≡ place.line + 1 = rw newline at follows.line in
        let start : next.start ≡ place.at + 1 = rw newline at follows.start in
        record {
          at = follows.at ∙ ap (λ n. n + 1) going.at;
          line = omega (arith, line, going.line, count_by_more_yes is_newline text k 0 low newline);
          few = omega (arith, line, going.few);
          start = subst (IsLineStart text (k + 1)) (sym (start ∙ ap (λ n. n + 1) going.at))
              (start-next text k (there text k low ∙ ap Some (eqb-true byte 10 newline)));
        }
    by false other =
        let line : next.line ≡ place.line = rw other at follows.line in
        let start : next.start ≡ place.start = rw other at follows.start in
        record {
          at = follows.at ∙ ap (λ n. n + 1) going.at;
          line = omega (arith, line, going.line, count_by_more_no is_newline text k 0 low other);
          few = omega (arith, line, going.few);
          start = subst (IsLineStart text (k + 1)) (sym start)
              (start-same text k place.start byte going.start (there text k low) (λ ten. false≢true (sym other ∙ ap is_newline ten)));
        }

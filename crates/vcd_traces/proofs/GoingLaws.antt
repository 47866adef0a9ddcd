-- The reading of changes goes on, piece by piece.
use Rattle.std.proofs.Common.{◌≡◌, ℕ, true, List, [], ◌∷◌, length, refl, sym, ◌∙◌, ap, subst, inl, inr, Result, Ok, Err}
use Rattle.std.specs.Result.{IsErrAnd}
use Rattle.std.proofs.lemmas.Bool.{cases_Bool}
use Rattle.vcd_words.specs.Words.{Placed, words_left}
use Rattle.vcd_reading.specs.declared.error.VcdErr.{VcdErr}
use Rattle.vcd_traces.specs.declared.reader.Reading.{Reading}
use Rattle.vcd_traces.specs.declared.reader.Plan.{Plan}
use Rattle.vcd_reading.specs.Header.{Header}
use Rattle.vcd_reading.specs.Scopes.{Sought}
use Rattle.vcd_reading.specs.Changes.{Past, stamps_of}
use Rattle.vcd_traces.specs.Samples.{Watches, moments}
use Rattle.vcd_traces.specs.Table.{cell_codes}
use Rattle.vcd_traces.specs.Rows.{Kept, rows_of}
use Rattle.vcd_traces.specs.Kept.{AreKept}
use Rattle.vcd_traces.specs.Closing.{closed_at, closed}
use Rattle.vcd_reading.specs.Reading.{step, ReadsText}
use Rattle.vcd_reading.specs.Outcomes.{IsAt}
use Rattle.vcd_traces.specs.Plan.{IsPlan}
use Rattle.vcd_traces.specs.Going.{Goes, Holding, Going, Gone, Ends}
use Rattle.vcd_reading.proofs.ReadSteps.{reads_on, reads_end, reads_refused}
use Rattle.vcd_traces.proofs.HoldLaws.{rows_later}

-- where a word is left, the definitions have ended
has_ended : (sought : Sought) (w : Watches) (plan : Plan) (text : List ℕ) (start : Past) (at : ℕ) (reading : Reading) (first : Placed) (words : List Placed)
    → (g : Going sought w plan text start at reading) → words_left text at ≡ first ∷ words → g.past.header.ended ≡ true
has_ended sought w plan text start at reading first words g are =
    elim (cases_Bool start.header.ended) [
      | inl ended ↦ ap (λ (h : Header). h.ended) g.holding.0 ∙ ended
      | inr not_ended ↦ let none = sym are ∙ g.unended not_ended in absurd (some none)
    ]
  where
    some : first ∷ words ≡ [] → ⊥
    some e = cc

-- a piece is taken in where the reading has come to
piece_goes : (sought : Sought) (w : Watches) (plan : Plan) (text : List ℕ) (start : Past) (at : ℕ) (old new : Reading) (first : Placed) (words : List Placed)
    (r : Result ℕ VcdErr)
    → ((past : Past) → IsPlan past.header sought w plan → past.header.ended ≡ true → Holding w plan past old past
    → Goes text (step sought (length text) past first words) (Holding w plan past new) r)
    → IsPlan start.header sought w plan → (g : Going sought w plan text start at old) → words_left text at ≡ first ∷ words
    → Goes text (step sought (length text) g.past first words) (Holding w plan g.past new) r
piece_goes sought w plan text start at old new first words r each planned g are =
    let P : Header → Type 0 = λ h. IsPlan h sought w plan in
    each g.past (subst P (sym g.holding.0) planned) (has_ended sought w plan text start at old first words g are) (refl, g.holding.1)

pub going_next : (sought : Sought) (w : Watches) (plan : Plan) (text : List ℕ) (start : Past) (at to : ℕ) (old new : Reading) (first : Placed) (words : List Placed)
    → ((past : Past) → IsPlan past.header sought w plan → past.header.ended ≡ true → Holding w plan past old past
    → Goes text (step sought (length text) past first words) (Holding w plan past new) (Ok to))
    → IsPlan start.header sought w plan → Going sought w plan text start at old → words_left text at ≡ first ∷ words
    → Going sought w plan text start to new
going_next sought w plan text start at to old new first words each planned g are =
    let fact = piece_goes sought w plan text start at old new first words (Ok to) each planned g are in
    record {
      past = fact.0;
      holding = (fact.2.0 ∙ g.holding.0, fact.2.1);
      unended = λ not_ended. absurd (some (sym are ∙ g.unended not_ended));
      reads = reads_on sought text g.past fact.0 at to first words g.reads are fact.1;
    }
  where
    some : first ∷ words ≡ [] → ⊥
    some e = cc

-- or refused
pub going_refused : (sought : Sought) (w : Watches) (plan : Plan) (text : List ℕ) (start : Past) (at : ℕ) (old new : Reading) (first : Placed) (words : List Placed)
    (fault : VcdErr) (r : Result (Unit {0}) VcdErr)
    → ((past : Past) → IsPlan past.header sought w plan → past.header.ended ≡ true → Holding w plan past old past
    → Goes text (step sought (length text) past first words) (Holding w plan past new) (Err fault))
    → IsPlan start.header sought w plan → Going sought w plan text start at old → words_left text at ≡ first ∷ words → IsErrAnd r (λ y. y ≡ fault)
    → Ends sought w text start r new
going_refused sought w plan text start at old new first words fault (Ok done) each planned g are passed = absurd passed
going_refused sought w plan text start at old new first words fault (Err y) each planned g are passed =
    let P : VcdErr → Type 0 = IsAt (λ place. ReadsText sought text (Err place)) in
    subst P (sym passed)
    (reads_refused sought text g.past at first words fault g.reads are (piece_goes sought w plan text start at old new first words (Err fault) each planned g are))

-- the text ends
pub going_ends : (sought : Sought) (w : Watches) (plan : Plan) (text : List ℕ) (start : Past) (at : ℕ) (old new : Reading) → IsPlan start.header sought w plan
    → Going sought w plan text start at old → words_left text at ≡ [] → rows_of new.rows ≡ closed plan.watched old.levels (rows_of old.rows)
    → Gone sought w text start new
going_ends sought w plan text start at old new planned g none rows = record {
  past = g.past;
  same = g.holding.0;
  reads = reads_end sought text g.past at g.reads none;
  rows =
      let holds = g.holding.1 in
      let K : Kept → Type 0 = AreKept w g.past.events (moments w.clock g.past.events (stamps_of g.past)) in
      subst K (sym (rows ∙ ap (λ t. closed_at plan.watched old.levels.running.items t (rows_of old.rows)) holds.levels.time))
      (rows_later w (cell_codes plan.table) g.past.time g.past.events old.levels.running.items plan.watched g.past.ended (rows_of old.rows) planned.watched
      holds.levels.events holds.levels.count holds.levels.each holds.rows);
}

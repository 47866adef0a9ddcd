-- The rows of a text, row by row.
use Rattle.std.proofs.Common.{◌≡◌, ℕ, ◌+◌, ◌<◌, List, [], ◌∷◌, ◌++◌, length, drop, Some, None, refl, sym, ◌∙◌, ap, subst, arith}
use Rattle.std.specs.Prelude.{slice_get}
use Rattle.std.proofs.lemmas.List.{length_push}
use Rattle.aiger_text.specs.declared.row.Counts.{Counts}
use Rattle.aiger_text.specs.declared.row.Row.{Row}
use Rattle.aiger_text.specs.declared.fault.AigerErr.TheVariants.{Shape}
use Rattle.aiger_text.specs.Lines.{lines}
use Rattle.aiger_text.specs.Rows.{first_row, section_at, row_at, row_count}
use Rattle.aiger_text.specs.Content.{HasRows}
use Rattle.aiger_text.specs.Outcomes.{RowsEnd}
use Rattle.aiger_text.proofs.LineSteps.{drop-next}
use Rattle.aiger_text.proofs.Same.{each-push, each-some}

-- the rows that were read, as far as the lines were passed
pub record RowsSoFar (front : List (List ℕ)) (c : Counts) (rows : List Row) (k : ℕ) : Type 0 where
  pub long : length rows ≡ k
  pub each : (j : ℕ) → j < length rows → row_at front c j ≡ slice_get rows j

-- none at first
pub rows-begin : (front : List (List ℕ)) (c : Counts) → RowsSoFar front c [] 0
rows-begin front c = record { long = refl; each = λ j below. absurd (omega (arith, below)) }

-- one more
pub rows-next : (front : List (List ℕ)) (c : Counts) (rows more : List Row) (k : ℕ) (row : Row) (rest : List ℕ) → RowsSoFar front c rows k
    → drop k front ≡ lines rest → first_row (section_at c k) (lines rest) ≡ Some row → more ≡ rows ++ row ∷ [] → RowsSoFar front c more (k + 1)
rows-next front c rows more k row rest far here is pushed =
    let P : List Row → Type 0 = λ xs. RowsSoFar front c xs (k + 1) in
    let at : row_at front c (length rows) ≡ Some row = ap (λ n. row_at front c n) far.long ∙ ap (first_row (section_at c k)) here ∙ is in
    let long : length (rows ++ row ∷ []) ≡ length rows + 1 = length_push rows row in
    subst P (sym pushed) (record {
      long = omega (arith, long, far.long);
      each = λ j below. each-push (row_at front c) rows row far.each at j (omega (arith, below, long));
    })

-- all of them
pub rows-all : (front : List (List ℕ)) (c : Counts) (rows : List Row) (k : ℕ) → RowsSoFar front c rows k → k ≡ row_count c → HasRows front c rows
rows-all front c rows k far all = record { long = far.long ∙ all; each = λ j below. far.each j (omega (arith, below, far.long, all)) }

-- one is lacking
pub rows-end : (front : List (List ℕ)) (c : Counts) (rows : List Row) (k : ℕ) (rest : List ℕ) → RowsSoFar front c rows k → k < row_count c
    → drop k front ≡ lines rest → first_row (section_at c k) (lines rest) ≡ None → RowsEnd front c (Shape (k + 2))
rows-end front c rows k rest far due here lacking = (
  k,
  record {
    due = due;
    before = λ j below. each-some (row_at front c) rows j (far.each j (omega (arith, below, far.long))) (omega (arith, below, far.long));
    lacking = ap (first_row (section_at c k)) here ∙ lacking;
  },
  refl,
)

pub ruleset row_steps = (drop-next, rows-begin, rows-next, rows-all, rows-end)

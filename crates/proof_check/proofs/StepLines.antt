-- The lines of the steps, one after another.
use Rattle.std.proofs.Common.{◌≡◌, ◌≢◌, ℕ, ◌+◌, ◌-◌, ◌<◌, ◌≤◌, Bool, true, false, Option, Some, None, List, [], ◌∷◌, ◌++◌, length, get_or, map, refl, ap, sym, ◌∙◌, subst, inl, inr, arith, All, IsTrue, append_assoc, eqb}
use Rattle.std.specs.Borrow.{Bor}
use Rattle.std.specs.List.{slice_split}
use Rattle.std.specs.Option.{option_and_then}
use Rattle.std.proofs.lemmas.Bool.{false≢true}
use Rattle.std.proofs.lemmas.List.{map_push, get_or_append_left, get_or_at, get_or-map, length-map, length-append}
use Rattle.std.proofs.lemmas.List.Elements.{All-push, All-get_or}
use Rattle.std.proofs.lemmas.List.Splits.{length-slice_split}
use Rattle.std.proofs.lemmas.List.Sums.{count_by-le-length}
use Rattle.clause_base.specs.declared.log.Step.{Step}
use Rattle.clause_base.specs.declared.log.StepKind.{StepKind}
use Rattle.clause_base.specs.Literal.{has_distinct_variables}
use Rattle.clause_base.specs.Steps.{no_step}
use Rattle.proof_check.specs.Text.{CanBeWritten, step_line, pieces}
use Rattle.proof_check.specs.LineWords.{LineWords, take_word, take_words, read_line}
use Rattle.proof_check.specs.Took.{Took}
use Rattle.proof_check.specs.Pieces.{pieces_after}
use Rattle.proof_check.specs.Lines.{IsStepLine, Appended, IsFirstBadStep}
use Rattle.proof_check.proofs.Spelling.{read_line-some, read_line-step_line}

-- ---- words taken one by one

pub took_none : (meaning : Option LineWords) (new : LineWords) (taken : Bool) → taken ≡ false → Took meaning new taken → meaning ≡ None
took_none None new taken e took = refl
took_none (Some next) new taken e took = absurd (false≢true (sym e ∙ took.0))

pub took_some : (meaning : Option LineWords) (new : LineWords) (taken : Bool) → taken ≡ true → Took meaning new taken → meaning ≡ Some new
took_some None new taken e took = absurd (false≢true (sym took ∙ e))
took_some (Some next) new taken e took = ap Some (sym took.1)

pub words_next : (kind : StepKind) (w : LineWords) (rest : Option (Bor (List ℕ))) (text : Bor (List ℕ)) (word : List ℕ) (after : List (List ℕ)) → rest ≡ Some text → slice_split (λ b. eqb b 32) text.now ≡ word ∷ after
    → take_words kind w (pieces_after 32 rest) ≡ option_and_then (λ next. take_words kind next after) (take_word kind w word)
words_next kind w rest text word after is split = ap (λ r. take_words kind w (pieces_after 32 r)) is ∙ ap (take_words kind w) split

pub words_stop : (kind : StepKind) (w : LineWords) (rest : Option (Bor (List ℕ))) (text : Bor (List ℕ)) (word : List ℕ) (after : List (List ℕ)) (new : LineWords) (taken : Bool) → rest ≡ Some text → slice_split (λ b. eqb b 32) text.now ≡ word ∷ after
    → taken ≡ false → Took (take_word kind w word) new taken → take_words kind w (pieces_after 32 rest) ≡ None
words_stop kind w rest text word after new taken is split no_more took =
    words_next kind w rest text word after is split ∙ ap (option_and_then (λ next. take_words kind next after)) (took_none (take_word kind w word) new taken no_more took)

pub words_go_on : (kind : StepKind) (w : LineWords) (rest : Option (Bor (List ℕ))) (text : Bor (List ℕ)) (word : List ℕ) (after : List (List ℕ)) (new : LineWords) (taken : Bool) → rest ≡ Some text → slice_split (λ b. eqb b 32) text.now ≡ word ∷ after
    → taken ≡ true → Took (take_word kind w word) new taken → take_words kind w (pieces_after 32 rest) ≡ take_words kind new after
words_go_on kind w rest text word after new taken is split more took =
    words_next kind w rest text word after is split ∙ ap (option_and_then (λ next. take_words kind next after)) (took_some (take_word kind w word) new taken more took)

-- ---- lines read one by one

pub appended_none : (meaning : Option Step) (old new : List Step) (read : Bool) → read ≡ false → Appended meaning old new read → meaning ≡ None
appended_none None old new read e h = refl
appended_none (Some step) old new read e h = absurd (false≢true (sym e ∙ h.0))

pub appended_some : (meaning : Option Step) (old new : List Step) (read : Bool) → read ≡ true → Appended meaning old new read → (step : Step) × (meaning ≡ Some step) × (new ≡ old ++ step ∷ [])
appended_some None old new read e h = absurd (false≢true (sym h.0 ∙ e))
appended_some (Some step) old new read e h = (step, refl, h.1)

-- the log's lines, and the pieces after them
pub record Split (text_pieces : List (List ℕ)) (log : List Step) (front : List ℕ) (after : List (List ℕ)) : Type 0 where
  pub split : text_pieces ≡ map step_line log ++ front ∷ after
  pub steps : All CanBeWritten log
  pub distinct : All (λ step. IsTrue (has_distinct_variables step.clause)) log

not_a_line : (front : List ℕ) → read_line front ≡ None → IsStepLine front → ⊥
not_a_line front none (step, can, distinct, e) =
    let some : read_line front ≡ Some step = ap read_line e ∙ read_line-step_line step can distinct in
    let clash : None ≡ Some step = sym none ∙ some in cc

lines_before : (text_pieces : List (List ℕ)) (log : List Step) (front : List ℕ) (after : List (List ℕ)) → Split text_pieces log front after → (k : ℕ) → k < length log → IsStepLine (get_or text_pieces k [])
lines_before text_pieces log front after s k within =
    let step = get_or log k no_step in
    let size : k < length (map step_line log) = omega (arith, length-map log step_line) in
    let at : get_or text_pieces k [] ≡ step_line step =
    ap (λ (ps : List (List ℕ)). get_or ps k []) s.split ∙ get_or_append_left (map step_line log) (front ∷ after) [] k size ∙ get_or-map step_line log k no_step [] within in
    (step, All-get_or CanBeWritten log k no_step within s.steps, All-get_or (λ st. IsTrue (has_distinct_variables st.clause)) log k no_step within s.distinct, at)

line_at : (text_pieces : List (List ℕ)) (log : List Step) (front : List ℕ) (after : List (List ℕ)) → Split text_pieces log front after → get_or text_pieces (length log) [] ≡ front
line_at text_pieces log front after s =
    ap (λ (ps : List (List ℕ)). get_or ps (length log) []) s.split ∙ get_or_at (map step_line log) front after [] (length log) (length-map log step_line)

pub split_length : (text_pieces : List (List ℕ)) (log : List Step) (front : List ℕ) (after : List (List ℕ)) → Split text_pieces log front after → length text_pieces ≡ length log + (1 + length after)
split_length text_pieces log front after s =
    let whole = ap (λ (ps : List (List ℕ)). length ps) s.split in
    omega (arith, whole, length-append (map step_line log) (front ∷ after), length-map log step_line)

-- a line that is no step's
pub bad_line : (text_pieces : List (List ℕ)) (log : List Step) (front : List ℕ) (after : List (List ℕ)) → Split text_pieces log front after → 0 < length after → read_line front ≡ None → IsFirstBadStep text_pieces (length log)
bad_line text_pieces log front after s more none =
    let size = split_length text_pieces log front after s in
    record {
      within = omega arith;
      before = lines_before text_pieces log front after s;
      bad = inl (omega arith, subst (λ (line : List ℕ). IsStepLine line → ⊥) (sym (line_at text_pieces log front after s)) (not_a_line front none));
    }

-- something after the last newline
pub bad_end : (text_pieces : List (List ℕ)) (log : List Step) (front : List ℕ) → Split text_pieces log front [] → front ≢ [] → IsFirstBadStep text_pieces (length log)
bad_end text_pieces log front s some =
    let size = split_length text_pieces log front [] s in
    record {
      within = omega arith;
      before = lines_before text_pieces log front [] s;
      bad = inr (omega arith, λ e. some (sym (line_at text_pieces log front [] s) ∙ e));
    }

-- one more line
pub split_more : (text_pieces : List (List ℕ)) (log : List Step) (front : List ℕ) (after : List (List ℕ)) (step : Step) (next : List ℕ) (rest : List (List ℕ)) → Split text_pieces log front after → read_line front ≡ Some step → after ≡ next ∷ rest
    → Split text_pieces (log ++ step ∷ []) next rest
split_more text_pieces log front after step next rest s read e =
    let line = read_line-some front step read in
    record {
      split = s.split ∙ ap (λ (l : List ℕ). map step_line log ++ l ∷ after) line.spelled ∙ ap (λ (ps : List (List ℕ)). map step_line log ++ step_line step ∷ ps) e
          ∙ sym (append_assoc (map step_line log) (step_line step ∷ []) (next ∷ rest)) ∙ ap (λ (ls : List (List ℕ)). ls ++ next ∷ rest) (sym (map_push step_line log step));
      steps = All-push CanBeWritten log step s.steps line.can;
      distinct = All-push (λ st. IsTrue (has_distinct_variables st.clause)) log step s.distinct line.distinct;
    }

-- there are no more lines than bytes, and one
pub few_pieces : (text : List ℕ) → length (pieces text) ≤ length text + 1
few_pieces text = omega (arith, length-slice_split (λ b. eqb b 10) text, count_by-le-length (λ b. eqb b 10) text)

-- what follows a newline has a piece
pub some_after : (rest : Option (Bor (List ℕ))) (more : Bor (List ℕ)) → rest ≡ Some more → 0 < length (pieces_after 10 rest)
some_after rest more is =
    let same = ap (λ r. length (pieces_after 10 r)) is in
    omega (arith, same, length-slice_split (λ b. eqb b 10) more.now)

-- the line's number where the lines are counted from 3
pub numbered_from_three : (text_pieces : List (List ℕ)) (log : List Step) (line : ℕ) → line ≡ length log + 3 → IsFirstBadStep text_pieces (length log) → (3 ≤ line) × IsFirstBadStep text_pieces (line - 3)
numbered_from_three text_pieces log line count bad =
    let place : line - 3 ≡ length log = omega arith in
    (omega arith, subst (λ (n : ℕ). IsFirstBadStep text_pieces n) (sym place) bad)

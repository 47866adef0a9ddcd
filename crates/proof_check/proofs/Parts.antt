-- Lines of steps that are read in parts, and joined.
use Rattle.std.proofs.Common.{◌≡◌, ℕ, zero, suc, ◌+◌, ◌*◌, ◌<◌, ◌≤◌, List, [], ◌∷◌, ◌++◌, length, map, get_or, take, drop, refl, ap, sym, ◌∙◌, subst, arith, All, IsTrue, Option, Some, None, Result, Ok, Err, append-nil}
use Rattle.std.specs.Prelude.{IfOk, IfSome}
use Rattle.std.specs.Fork.{IsChunk}
use Rattle.std.specs.List.{between, flat_map, join_with_byte}
use Rattle.std.proofs.lemmas.Grind.{flat_map-append}
use Rattle.std.proofs.lemmas.List.{map-append, take_all, take-take, take-append-drop}
use Rattle.std.proofs.lemmas.List.Elements.{All-append, All-head, All-map, All-nil, All-tail, All-weaker}
use Rattle.std.proofs.lemmas.List.Splits.{join_with_byte-slice_split}
use Rattle.std.proofs.lemmas.Slice.{between_is}
use Rattle.loc_base.specs.declared.memory.NoMemory.{NoMemory}
use Rattle.clause_base.specs.declared.log.Step.{Step}
use Rattle.clause_base.specs.Literal.{has_distinct_variables}
use Rattle.proof_check.specs.declared.text.parts.Part.{Part}
use Rattle.proof_check.specs.Text.{CanBeWritten, pieces, step_line}
use Rattle.proof_check.specs.Lines.{AreStepLines}
use Rattle.proof_check.specs.Parts.{AreReadAs, Covers, IsPartOf, IsTextOf, Joined, ReadAs, steps_text}
use Rattle.proof_check.proofs.Spelling.{step_line-lacks}
use Rattle.proof_check.proofs.Texts.{Lacks, ended, join_ended, pieces_of}

-- ---- a text and its lines

pub text-of_lines : (text : List ℕ) (log : List Step) → AreStepLines (pieces text) log → IsTextOf text log
text-of_lines text log are =
    record {
      is = sym (join_with_byte-slice_split 10 text) ∙ ap (join_with_byte 10) are.lines ∙ join_ended (map step_line log);
      steps = are.steps;
      distinct = are.distinct;
    }

pub lines-of_text : (text : List ℕ) (log : List Step) → IsTextOf text log → AreStepLines (pieces text) log
lines-of_text text log of =
    record {
      lines = ap pieces of.is ∙ pieces_of (map step_line log) (All-map Lacks step_line log (All-weaker CanBeWritten (λ step. Lacks (step_line step)) (λ step can. step_line-lacks step can) log of.steps));
      steps = of.steps;
      distinct = of.distinct;
    }

-- ---- one text behind the other

steps_text-append : (one other : List Step) → steps_text (one ++ other) ≡ steps_text one ++ steps_text other
steps_text-append one other = ap (flat_map ended) (map-append step_line one other) ∙ flat_map-append ended (map step_line one) (map step_line other)

text-append : (a b : List ℕ) (one other : List Step) → IsTextOf a one → IsTextOf b other → IsTextOf (a ++ b) (one ++ other)
text-append a b one other of_one of_other =
    record {
      is = ap (λ (t : List ℕ). t ++ b) of_one.is ∙ ap (λ (t : List ℕ). steps_text one ++ t) of_other.is ∙ sym (steps_text-append one other);
      steps = All-append CanBeWritten one other of_one.steps of_other.steps;
      distinct = All-append (λ step. IsTrue (has_distinct_variables step.clause)) one other of_one.distinct of_other.distinct;
    }

-- no text is that of no step
pub text-none : (text : List ℕ) → IsTextOf (take 0 text) []
text-none text =
    record {
      is = refl;
      steps = All-nil CanBeWritten;
      distinct = All-nil (λ step. IsTrue (has_distinct_variables step.clause));
    }

-- the text up to the end of a part
take-part : (text : List ℕ) (part : Part) → IsPartOf text part → take part.end text ≡ take part.from text ++ between part.from part.end text
take-part text part is =
    sym (take-append-drop part.from (take part.end text))
    ∙ ap (λ (t : List ℕ). t ++ drop part.from (take part.end text)) (take-take part.from part.end text is.ordered)
    ∙ ap (λ (t : List ℕ). take part.from text ++ t) (sym (between_is text part.from part.end))

-- ---- what was read of each part, joined

abbrev pub AreAnswers : List ℕ → List Part → List (Result (Option (List Step)) NoMemory) → Type 0
AreAnswers text parts answers =
    (k : ℕ) (part : Part) (answer : Result (Option (List Step)) NoMemory) → k < length parts
    → IfOk (get_or answers k answer) (λ read. IfSome read (ReadAs text (get_or parts k part)))

pub parts-joined : (text : List ℕ) (from : ℕ) (parts : List Part) (answers : List (Result (Option (List Step)) NoMemory)) (old new : List Step) → length answers ≡ length parts
    → AreAnswers text parts answers → All (IsPartOf text) parts → Covers from (length text) parts → IsTextOf (take from text) old → Joined answers old new → IsTextOf text new
parts-joined text from [] [] old new same are all cover before joined =
    subst (IsTextOf text) (sym joined) (subst (λ (t : List ℕ). IsTextOf t old) (ap (λ (n : ℕ). take n text) cover ∙ take_all (length text) text (omega arith)) before)
parts-joined text from [] (a ∷ answers) old new same are all cover before joined = absurd (omega (arith, same))
parts-joined text from (p ∷ parts) [] old new same are all cover before joined = absurd (omega (arith, same))
parts-joined text from (p ∷ parts) (Err e ∷ answers) old new same are all cover before joined = absurd joined
parts-joined text from (p ∷ parts) (Ok None ∷ answers) old new same are all cover before joined = absurd joined
parts-joined text from (p ∷ parts) (Ok (Some part) ∷ answers) old new same are all cover before joined =
    parts-joined text p.end parts answers (old ++ part) new (omega (arith, same)) later (All-tail (IsPartOf text) p parts all) cover.1 next joined
  where
    later : AreAnswers text parts answers
    later k one answer within = are (suc k) one answer (omega (arith, within))

    here : IsTextOf (take p.from text) old
    here = subst (λ (n : ℕ). IsTextOf (take n text) old) (sym cover.0) before

    read : IsTextOf (between p.from p.end text) part
    read = are 0 p (Ok (Some part)) (omega arith)

    next : IsTextOf (take p.end text) (old ++ part)
    next = subst (λ (t : List ℕ). IsTextOf t (old ++ part)) (sym (take-part text p (All-head (IsPartOf text) p parts all))) (text-append (take p.from text) (between p.from p.end text) old part here read)

-- what is read of a list of one part is read of it
pub part-found : (text : List ℕ) (parts : List Part) (k : ℕ) (chunk : List Part) → IsChunk parts 1 (k * 1) chunk
    → (part : Part) (answer : Result (Option (List Step)) NoMemory) → IfOk answer (AreReadAs text chunk)
    → IfOk answer (λ read. IfSome read (ReadAs text (get_or parts k part)))
part-found text parts k chunk is part (Err e) holds = tt
part-found text parts k chunk is part (Ok read) holds = subst (λ (p : Part). IfSome read (ReadAs text p)) here (holds 0 part is.nonempty)
  where
    place : k * 1 + 0 ≡ k
    place = omega arith

    here : get_or chunk 0 part ≡ get_or parts k part
    here = is.elements 0 part is.nonempty ∙ ap (λ (n : ℕ). get_or parts n part) place

-- one part more
pub covers-push : (from end : ℕ) (parts : List Part) (part : Part) → Covers from end parts → part.from ≡ end → Covers from part.end (parts ++ part ∷ [])
covers-push from end [] part cover is = (is ∙ sym cover, refl)
covers-push from end (p ∷ parts) part cover is = (cover.0, covers-push p.end end parts part cover.1 is)

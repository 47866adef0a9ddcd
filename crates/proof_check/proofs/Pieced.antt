-- A log that is checked in pieces, and whole.
use Rattle.std.proofs.Common.{◌≡◌, ℕ, zero, suc, ◌+◌, ◌-◌, ◌*◌, ◌<◌, ◌≤◌, cond, List, [], ◌∷◌, ◌++◌, length, take, get_or, refl, ap, sym, ◌∙◌, subst, ◌⊎◌, inl, inr, arith, All, Option, Some, None, Result, Ok, Err}
use Rattle.std.specs.Prelude.{IfOk, IsNone, map}
use Rattle.std.proofs.lemmas.Bool.{cases_lt}
use Rattle.std.proofs.lemmas.List.{take_all, take-map, take-take, append-nil}
use Rattle.std.proofs.lemmas.List.Elements.{All-push, All-take}
use Rattle.std.specs.Fork.{IsChunk}
use Rattle.loc_base.specs.declared.memory.NoMemory.{NoMemory}
use Rattle.clause_base.specs.declared.literal.Lit.{Lit}
use Rattle.clause_base.specs.declared.log.Step.{Step}
use Rattle.clause_base.specs.Steps.{step_at}
use Rattle.clause_base.specs.declared.form.Form.{Form}
use Rattle.clause_base.specs.Literal.{IsWithin, AreWithin, AllDistinct}
use Rattle.clause_base.specs.Acceptance.{clauses_of, blocks_in, is_block, IsAcceptedAt, IsAccepted, IsLeastRefused, Follows}
use Rattle.clause_base.proofs.Accepted.{clauses_of-more, accepted-IsWithin, log_holds}
use Rattle.proof_check.specs.declared.claim.BadStep.{BadStep}
use Rattle.proof_check.specs.declared.claim.Piece.{Piece}
use Rattle.proof_check.specs.Claims.{Answers, AreAccepted, IsFirstRefused, FoundIn, FoundAfter, Cover, AreKnown}
use Rattle.proof_check.specs.Pieced.{first_of, AreFound}
use Rattle.proof_check.proofs.Checked.{from_none, blocks_in-more, blocks-le}

-- no step
pub accepted-none : (form blocks : List (List Lit)) (log : List Step) (from : ℕ) → AreAccepted form blocks log from from
accepted-none form blocks log from place low high = absurd (omega (arith, low, high))

-- one step more
pub accepted-more : (form blocks : List (List Lit)) (log : List Step) (from place : ℕ) → AreAccepted form blocks log from place → IsAcceptedAt form blocks log place
    → AreAccepted form blocks log from (place + 1)
accepted-more form blocks log from place before here other low high = by_place (cases_lt other place)
  where
    by_place : (other < place) ⊎ (place ≤ other) → IsAcceptedAt form blocks log other
    by_place (inl earlier) = before other low earlier
    by_place (inr last) =
        let same : place ≡ other = omega (arith, last, high) in
        subst (IsAcceptedAt form blocks log) same here

-- steps behind others
pub accepted-joined : (form blocks : List (List Lit)) (log : List Step) (from middle end : ℕ) → AreAccepted form blocks log from middle → AreAccepted form blocks log middle end
    → AreAccepted form blocks log from end
accepted-joined form blocks log from middle end one other place low high = by_place (cases_lt place middle)
  where
    by_place : (place < middle) ⊎ (middle ≤ place) → IsAcceptedAt form blocks log place
    by_place (inl earlier) = one place low earlier
    by_place (inr later) = other place later high

-- what is found behind steps that are accepted
found-joined : (form blocks : List (List Lit)) (log : List Step) (middle end : ℕ) (found : Option BadStep) → AreAccepted form blocks log 0 middle → FoundIn form blocks log middle end found
    → FoundIn form blocks log 0 end found
found-joined form blocks log middle end None before all = accepted-joined form blocks log 0 middle end before all
found-joined form blocks log middle end (Some bad) before is =
    record {
      after = omega (arith, is.after);
      within = is.within;
      before = accepted-joined form blocks log 0 middle (bad.n - 1) before is.before;
      refused = is.refused;
    }

-- no more steps are accepted than have the form's variables alone
pub accepted-known : (vars : ℕ) (form blocks : List (List Lit)) (log : List Step) (known from : ℕ) → AreKnown vars form log known → AreWithin vars blocks → from ≤ length log
    → AreAccepted form blocks log 0 from → from ≤ known
accepted-known vars form blocks log known from is in_blocks within accepted = by_place (cases_lt known from)
  where
    by_place : (known < from) ⊎ (from ≤ known) → from ≤ known
    by_place (inr enough) = enough
    by_place (inl fewer) =
        absurd (is.outside (omega (arith, fewer, within))
        (accepted-IsWithin vars form blocks (take known log) (step_at log known) in_blocks is.inside (accepted known (omega arith) fewer)))

-- the answers for the pieces, one behind the other
abbrev pub AreAnswers : List (List Lit) → List (List Lit) → List Step → List Piece → List (Result (Option BadStep) NoMemory) → Type 0
AreAnswers form blocks log pieces answers =
    (k : ℕ) (piece : Piece) (answer : Result (Option BadStep) NoMemory) → k < length pieces
    → IfOk (get_or answers k answer) (FoundAfter form blocks log (get_or pieces k piece).from (get_or pieces k piece).end)

-- the first answer that isn't that nothing was found is that for all of them
pub first-of_all : (form blocks : List (List Lit)) (log : List Step) (from end : ℕ) (pieces : List Piece) (answers : List (Result (Option BadStep) NoMemory)) → length answers ≡ length pieces
    → AreAnswers form blocks log pieces answers → Cover from end pieces → AreAccepted form blocks log 0 from → IfOk (first_of answers) (FoundIn form blocks log 0 end)
first-of_all form blocks log from end [] [] same are cover before = subst (AreAccepted form blocks log 0) cover before
first-of_all form blocks log from end [] (a ∷ answers) same are cover before = absurd (omega (arith, same))
first-of_all form blocks log from end (p ∷ pieces) [] same are cover before = absurd (omega (arith, same))
first-of_all form blocks log from end (p ∷ pieces) (Err e ∷ answers) same are cover before = tt
first-of_all form blocks log from end (p ∷ pieces) (Ok (Some bad) ∷ answers) same are cover before =
    found-joined form blocks log p.from end (Some bad) here (are 0 p (Ok (Some bad)) (omega arith) here)
  where
    here : AreAccepted form blocks log 0 p.from
    here = subst (AreAccepted form blocks log 0) (sym cover.0) before
first-of_all form blocks log from end (p ∷ pieces) (Ok None ∷ answers) same are cover before =
    first-of_all form blocks log p.end end pieces answers (omega (arith, same)) later cover.1 (accepted-joined form blocks log 0 p.from p.end here (are 0 p (Ok None) (omega arith) here))
  where
    here : AreAccepted form blocks log 0 p.from
    here = subst (AreAccepted form blocks log 0) (sym cover.0) before

    later : AreAnswers form blocks log pieces answers
    later k piece answer within = are (suc k) piece answer (omega (arith, within))

-- no more blocks are accepted than there are
blocks-fit : (form blocks : List (List Lit)) (log : List Step) (end : ℕ) → end ≤ length log → AreAccepted form blocks log 0 end → blocks_in (take end log) ≤ length blocks
blocks-fit form blocks log zero within accepted = omega arith
blocks-fit form blocks log (suc end) within accepted =
    let before : blocks_in (take end log) ≤ length blocks = blocks-fit form blocks log end (omega (arith, within)) (λ place low high. accepted place low (omega (arith, high))) in
    let last : IsAcceptedAt form blocks log end = accepted end (omega arith) (omega arith) in
    let one : end + 1 ≡ suc end = omega arith in
    let more = subst (λ (n : ℕ). blocks_in (take n log) ≡ blocks_in (take end log) + cond (is_block (step_at log end)) 1 0) one (blocks_in-more log end (omega (arith, within))) in
    omega (arith, more, blocks-le form blocks log end (blocks_in (take end log)) refl before last)

-- the number of all blocks
pub blocks-whole : (log : List Step) (seen : ℕ) → seen ≡ blocks_in (take (length log) log) → seen ≡ blocks_in log
blocks-whole log seen is = is ∙ ap blocks_in (take_all (length log) log (omega arith))

-- a step that is refused
pub answers-bad : (form blocks : List (List Lit)) (log : List Step) (bad : BadStep) → IsFirstRefused form blocks log 0 bad.n → IsLeastRefused form blocks log bad.n
answers-bad form blocks log bad is =
    record {
      counted = omega (arith, is.after);
      before = λ place high. is.before place (omega arith) (omega (arith, high));
      refused = inl (is.within, is.refused);
    }

-- blocks that are left over
pub answers-left : (form blocks : List (List Lit)) (log : List Step) (bad : BadStep) → bad.n ≡ length log + 1 → AreAccepted form blocks log 0 (length log) → blocks_in log < length blocks
    → IsLeastRefused form blocks log bad.n
answers-left form blocks log bad is all left =
    record {
      counted = omega (arith, is);
      before = λ place high. all place (omega arith) (omega (arith, high, is));
      refused = inr (is, left);
    }

-- nothing that is refused
pub answers-none : (form blocks : List (List Lit)) (log : List Step) → AreAccepted form blocks log 0 (length log) → length blocks ≤ blocks_in log → IsAccepted form blocks log
answers-none form blocks log all many =
    record {
      each_step = λ place within. all place (omega arith) within;
      every_block = omega (arith, many, fit);
    }
  where
    fit : blocks_in log ≤ length blocks
    fit = subst (λ (n : ℕ). n ≤ length blocks) (ap blocks_in (take_all (length log) log (omega arith))) (blocks-fit form blocks log (length log) (omega arith) all)

-- the clauses of one more step are of the form's variables
pub known-more : (vars : ℕ) (form : List (List Lit)) (log : List Step) (place : ℕ) (clause : List Lit) → place < length log → clause ≡ (step_at log place).clause
    → AreWithin vars (clauses_of form (take place log)) → IsWithin vars clause → AreWithin vars (clauses_of form (take (place + 1) log))
known-more vars form log place clause within is before here =
    subst (AreWithin vars) (sym (clauses_of-more form log place within))
    (All-push (IsWithin vars) (clauses_of form (take place log)) (step_at log place).clause before (subst (IsWithin vars) is here))

-- the first steps' clauses stand in front
front : (form : List (List Lit)) (log : List Step) (place : ℕ) → take (length form + place) (clauses_of form log) ≡ clauses_of form (take place log)
front [] log place = ap (λ (n : ℕ). take n (map (λ (s : Step). s.clause) log)) (omega arith) ∙ take-map (λ (s : Step). s.clause) place log
front (c ∷ form) log place = ap (λ (n : ℕ). take n (c ∷ clauses_of form log)) more ∙ ap (λ (cs : List (List Lit)). c ∷ cs) (front form log place)
  where
    more : length (c ∷ form) + place ≡ suc (length form + place)
    more = omega arith

-- fewer steps
pub known-fewer : (vars : ℕ) (form : List (List Lit)) (log : List Step) (fewer known : ℕ) → fewer ≤ known → AreWithin vars (clauses_of form (take known log))
    → AreWithin vars (clauses_of form (take fewer log))
known-fewer vars form log fewer known few within =
    subst (AreWithin vars) whole (All-take (IsWithin vars) (length form + fewer) (clauses_of form (take known log)) within)
  where
    whole : take (length form + fewer) (clauses_of form (take known log)) ≡ clauses_of form (take fewer log)
    whole = front form (take known log) fewer ∙ ap (clauses_of form) (take-take fewer known log few)

-- before the first step all clauses are of the form
pub known-none : (vars : ℕ) (form : List (List Lit)) (log : List Step) → AreWithin vars form → AreWithin vars (clauses_of form (take 0 log))
known-none vars form log within = subst (AreWithin vars) (sym (append-nil form)) within

-- a step that has another variable
pub known-ends : (vars : ℕ) (form : List (List Lit)) (log : List Step) (place : ℕ) (clause : List Lit) → clause ≡ (step_at log place).clause
    → AreWithin vars (clauses_of form (take place log)) → ¬ (IsWithin vars clause) → AreKnown vars form log place
known-ends vars form log place clause is before other = record { inside = before; outside = λ within. subst (λ (c : List Lit). ¬ (IsWithin vars c)) is other }

-- no step has another variable
pub known-all : (vars : ℕ) (form : List (List Lit)) (log : List Step) → AreWithin vars (clauses_of form (take (length log) log)) → AreKnown vars form log (length log)
known-all vars form log before = record { inside = before; outside = λ within. absurd (omega (arith, within)) }

-- one piece more
pub cover-push : (from end : ℕ) (pieces : List Piece) (piece : Piece) → Cover from end pieces → piece.from ≡ end → Cover from piece.end (pieces ++ piece ∷ [])
cover-push from end [] piece cover is = (is ∙ sym cover, refl)
cover-push from end (p ∷ pieces) piece cover is = (cover.0, cover-push p.end end pieces piece cover.1 is)

-- the only piece of a part
pub of-only : (P : Piece → Type 0) (part : List Piece) (piece : Piece) → part ≡ piece ∷ [] → All P part → P piece
of-only P part piece is all = subst (All P) is all 0 piece (omega arith)

only-has : (P : Piece → Type 0) (part : List Piece) (piece : Piece) → part ≡ piece ∷ [] → P piece → All P part
only-has P part piece is holds = subst (All P) (sym is) one
  where
    one : All P (piece ∷ [])
    one zero x low = holds
    one (suc i) x low = absurd (omega (arith, low))

-- what is found in the only piece is found in each of the part
pub part-found : (form : Form) (blocks : List (List Lit)) (log : List Step) (part : List Piece) (piece : Piece) → part ≡ piece ∷ [] → (answer : Result (Option BadStep) NoMemory)
    → IfOk answer (FoundAfter form.clauses blocks log piece.from piece.end) → IfOk answer (AreFound form blocks log part)
part-found form blocks log part piece is (Ok found) holds = only-has (λ (p : Piece). FoundAfter form.clauses blocks log p.from p.end found) part piece is holds
part-found form blocks log part piece is (Err e) holds = tt

-- and the piece of that number has it
pub piece-found : (form : Form) (blocks : List (List Lit)) (log : List Step) (pieces : List Piece) (k : ℕ) (part : List Piece) → IsChunk pieces 1 (k * 1) part
    → (piece : Piece) (answer : Result (Option BadStep) NoMemory) → IfOk answer (AreFound form blocks log part)
    → IfOk answer (FoundAfter form.clauses blocks log (get_or pieces k piece).from (get_or pieces k piece).end)
piece-found form blocks log pieces k part is piece (Err e) holds = tt
piece-found form blocks log pieces k part is piece (Ok found) holds =
    subst (λ (p : Piece). FoundAfter form.clauses blocks log p.from p.end found) here (holds 0 piece is.nonempty)
  where
    place : k * 1 + 0 ≡ k
    place = omega arith

    here : get_or part 0 piece ≡ get_or pieces k piece
    here = is.elements 0 piece is.nonempty ∙ ap (λ (n : ℕ). get_or pieces n piece) place

-- an accepted log follows from its form and its blocks
pub follows : (form blocks : List (List Lit)) (log : List Step) (answer : Option BadStep) → AllDistinct form → AllDistinct (map (λ step. step.clause) log) → Answers form blocks log answer
    → IsNone answer → Follows form blocks log
follows form blocks log answer of_form of_log answers none assignment satisfied in_blocks =
    let accepted : IsAccepted form blocks log = from_none (IsAccepted form blocks log) (λ (bad : BadStep). IsLeastRefused form blocks log bad.n) answer none answers in
    log_holds assignment form blocks log of_form of_log accepted.each_step satisfied in_blocks

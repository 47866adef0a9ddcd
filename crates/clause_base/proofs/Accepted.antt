-- Accepted logs: one more step, and what is satisfied with them.
use Rattle.std.proofs.Common.{◌≡◌, ℕ, ◌+◌, ◌-◌, ◌<◌, ◌≤◌, zero, suc, Bool, List, [], ◌∷◌, ◌++◌, length, get_or, take, drop, map, refl, ap, sym, ◌∙◌, subst, ◌⊎◌, inl, inr, ⊎_elim, arith, IsTrue, All, count_by, append_assoc, add-one}
use Rattle.std.proofs.lemmas.Bool.{cases_eq}
use Rattle.std.proofs.lemmas.List.{append-nil, map_push, take_more, take-map, take-append-le, take_at, take_all, drop_at, get_or_append_left, get_or_at, length_push, length-map, length-append, get_or-append_right}
use Rattle.std.proofs.lemmas.List.Elements.{All-append, All-push, All-get_or, All-take, All-drop, All-map}
use Rattle.clause_base.specs.declared.literal.Lit.{Lit}
use Rattle.clause_base.specs.declared.log.Step.{Step}
use Rattle.clause_base.specs.declared.log.StepKind.{StepKind}
use Rattle.clause_base.specs.declared.log.StepKind.TheVariants.{Block, Learned, Derived}
use Rattle.clause_base.specs.Literal.{AllDistinct, has_distinct_variables, IsWithin, AreWithin}
use Rattle.clause_base.specs.Satisfaction.{SatisfiesClause, Satisfies}
use Rattle.clause_base.specs.Steps.{step_at, no_step}
use Rattle.clause_base.specs.Acceptance.{clauses_of, blocks_in, IsAcceptedAs, IsAcceptedStep, IsAcceptedAt, IsAcceptedChain}
use Rattle.clause_base.proofs.Soundness.{chain_holds, chain_each}

-- the clauses with one more step
pub clauses_of-push : (form : List (List Lit)) (log : List Step) (step : Step) → clauses_of form (log ++ step ∷ []) ≡ clauses_of form log ++ step.clause ∷ []
clauses_of-push form log step =
    ap (λ clauses. form ++ clauses) (map_push (λ (s : Step). s.clause) log step)
    ∙ sym (append_assoc form (map (λ (s : Step). s.clause) log) (step.clause ∷ []))

pub length-clauses_of : (form : List (List Lit)) (log : List Step) → length (clauses_of form log) ≡ length form + length log
length-clauses_of form log = length-append form (map (λ (s : Step). s.clause) log) ∙ ap (λ n. length form + n) (length-map log (λ (s : Step). s.clause))

-- the clauses of the steps up to the next
pub clauses_of-more : (form : List (List Lit)) (log : List Step) (place : ℕ) → place < length log
    → clauses_of form (take (place + 1) log) ≡ clauses_of form (take place log) ++ (step_at log place).clause ∷ []
clauses_of-more form log place within =
    ap (clauses_of form) (take_more log place no_step within) ∙ clauses_of-push form (take place log) (step_at log place)

-- a step after an accepted log
pub each_step-push : (form blocks : List (List Lit)) (log : List Step) (step : Step)
    → ((place : ℕ) → place < length log → IsAcceptedAt form blocks log place) → IsAcceptedStep form blocks log step
    → (place : ℕ) → place < length (log ++ step ∷ []) → IsAcceptedAt form blocks (log ++ step ∷ []) place
each_step-push form blocks log step each last place within = ⊎_elim
    (λ (e : place ≡ length log).
    let earlier : take place (log ++ step ∷ []) ≡ log = take_at log (step ∷ []) place (sym e) in
    let here : step_at (log ++ step ∷ []) place ≡ step = get_or_at log step [] no_step place (sym e) in
    let P : List Step → Type 0 = λ before. IsAcceptedStep form blocks before (step_at (log ++ step ∷ []) place) in
    let Q : Step → Type 0 = λ s. IsAcceptedStep form blocks log s in
    subst P (sym earlier) (subst Q (sym here) last))
    (λ other.
    let lt : place < length log = omega (arith, length_push log step) in
    let earlier : take place (log ++ step ∷ []) ≡ take place log = take-append-le place log (step ∷ []) (omega arith) in
    let here : step_at (log ++ step ∷ []) place ≡ step_at log place = get_or_append_left log (step ∷ []) no_step place lt in
    let P : List Step → Type 0 = λ before. IsAcceptedStep form blocks before (step_at (log ++ step ∷ []) place) in
    let Q : Step → Type 0 = λ s. IsAcceptedStep form blocks (take place log) s in
    subst P (sym earlier) (subst Q (sym here) (each place lt)))
    (cases_eq place (length log))

-- more blocks leave a step accepted
accepted_as-more_blocks : (kind : StepKind) (form blocks more : List (List Lit)) (earlier : List Step) (step : Step) → IsAcceptedAs kind form blocks earlier step → IsAcceptedAs kind form (blocks ++ more) earlier step
accepted_as-more_blocks Block form blocks more earlier step h =
    (omega (arith, h.0, length-append blocks more), h.1 ∙ sym (get_or_append_left blocks more [] (blocks_in earlier) h.0))
accepted_as-more_blocks Learned form blocks more earlier step h = h
accepted_as-more_blocks Derived form blocks more earlier step h = h

pub accepted-more_blocks : (form blocks more : List (List Lit)) (earlier : List Step) (step : Step) → IsAcceptedStep form blocks earlier step → IsAcceptedStep form (blocks ++ more) earlier step
accepted-more_blocks form blocks more earlier step h = accepted_as-more_blocks step.kind form blocks more earlier step h

-- what holds of the blocks and of each chain's result holds of the step's clause
accepted_as-clause : (P : List Lit → Type 0) (kind : StepKind) (form blocks : List (List Lit)) (earlier : List Step) (step : Step) → All P blocks
    → (IsAcceptedChain (clauses_of form earlier) step.chain step.clause → P step.clause) → IsAcceptedAs kind form blocks earlier step → P step.clause
accepted_as-clause P Block form blocks earlier step all chain h = subst P (sym h.1) (All-get_or P blocks (blocks_in earlier) [] h.0 all)
accepted_as-clause P Learned form blocks earlier step all chain h = chain h
accepted_as-clause P Derived form blocks earlier step all chain h = chain h

-- what holds of each literal of the blocks and the earlier clauses holds of each literal of an accepted step's clause
pub accepted-each : (P : Lit → Type 0) (form blocks : List (List Lit)) (earlier : List Step) (step : Step) → All (λ c. All P c) blocks → All (λ c. All P c) (clauses_of form earlier)
    → IsAcceptedStep form blocks earlier step → All P step.clause
accepted-each P form blocks earlier step in_blocks in_earlier h =
    accepted_as-clause (λ c. All P c) step.kind form blocks earlier step in_blocks
    (λ chain. chain_each P (clauses_of form earlier) step.chain step.clause chain in_earlier) h

-- an accepted step's clause is within the variables of the blocks and the earlier clauses
pub accepted-IsWithin : (vars : ℕ) (form blocks : List (List Lit)) (earlier : List Step) (step : Step) → AreWithin vars blocks → AreWithin vars (clauses_of form earlier)
    → IsAcceptedStep form blocks earlier step → IsWithin vars step.clause
accepted-IsWithin vars form blocks earlier step in_blocks in_earlier h =
    accepted-each (λ l. (1 ≤ l.var) × (l.var ≤ vars)) form blocks earlier step in_blocks in_earlier h

-- an accepted step's clause is satisfied wherever the blocks and the earlier clauses are
pub accepted-SatisfiesClause : (assignment : ℕ → Bool) (form blocks : List (List Lit)) (earlier : List Step) (step : Step) → AllDistinct (clauses_of form earlier) → Satisfies assignment blocks
    → Satisfies assignment (clauses_of form earlier) → IsAcceptedStep form blocks earlier step → SatisfiesClause assignment step.clause
accepted-SatisfiesClause assignment form blocks earlier step distinct in_blocks in_earlier h =
    accepted_as-clause (λ c. SatisfiesClause assignment c) step.kind form blocks earlier step in_blocks
    (λ chain. chain_holds assignment (clauses_of form earlier) step.chain step.clause distinct chain in_earlier) h

front-AllDistinct : (form : List (List Lit)) (log : List Step) (n : ℕ) → AllDistinct form → AllDistinct (map (λ (s : Step). s.clause) log) → AllDistinct (clauses_of form (take n log))
front-AllDistinct form log n in_form in_log =
    let P : List Lit → Type 0 = λ clause. IsTrue (has_distinct_variables clause) in
    let front : All P (map (λ (s : Step). s.clause) (take n log)) = rw (← take-map (λ (s : Step). s.clause) n log) (All-take P n (map (λ (s : Step). s.clause) log) in_log) in
    All-append P form (map (λ (s : Step). s.clause) (take n log)) in_form front

-- each front of an accepted log is satisfied wherever the form and the blocks are
fronts_hold : (assignment : ℕ → Bool) (form blocks : List (List Lit)) (log : List Step) → AllDistinct form → AllDistinct (map (λ (s : Step). s.clause) log)
    → ((place : ℕ) → place < length log → IsAcceptedAt form blocks log place) → Satisfies assignment form → Satisfies assignment blocks
    → (n : ℕ) → n ≤ length log → Satisfies assignment (clauses_of form (take n log))
fronts_hold assignment form blocks log in_form in_log each satisfied in_blocks zero h = rw append-nil satisfied
fronts_hold assignment form blocks log in_form in_log each satisfied in_blocks (suc n) h =
    let lt : n < length log = omega arith in
    let before : Satisfies assignment (clauses_of form (take n log)) = fronts_hold assignment form blocks log in_form in_log each satisfied in_blocks n (omega arith) in
    let last : SatisfiesClause assignment (step_at log n).clause =
    accepted-SatisfiesClause assignment form blocks (take n log) (step_at log n) (front-AllDistinct form log n in_form in_log) in_blocks before (each n lt) in
    let whole : clauses_of form (take (suc n) log) ≡ clauses_of form (take n log) ++ (step_at log n).clause ∷ [] = rw (← add-one n) (clauses_of-more form log n lt) in
    rw whole (All-push (λ c. SatisfiesClause assignment c) (clauses_of form (take n log)) (step_at log n).clause before last)

-- the log's clauses are satisfied wherever the form and the blocks are
pub log_holds : (assignment : ℕ → Bool) (form blocks : List (List Lit)) (log : List Step) → AllDistinct form → AllDistinct (map (λ (s : Step). s.clause) log)
    → ((place : ℕ) → place < length log → IsAcceptedAt form blocks log place) → Satisfies assignment form → Satisfies assignment blocks
    → Satisfies assignment (map (λ (s : Step). s.clause) log)
log_holds assignment form blocks log in_form in_log each satisfied in_blocks =
    let whole : Satisfies assignment (clauses_of form (take (length log) log)) = fronts_hold assignment form blocks log in_form in_log each satisfied in_blocks (length log) (omega arith) in
    let all : Satisfies assignment (clauses_of form log) = rw (take_all (length log) log (omega arith)) at whole in
    let back : drop (length form) (clauses_of form log) ≡ map (λ (s : Step). s.clause) log = drop_at form (map (λ (s : Step). s.clause) log) (length form) refl in
    rw (← back) (All-drop (λ c. SatisfiesClause assignment c) (length form) (clauses_of form log) all)

-- Kinds, clauses and chains side by side.
use Rattle.std.proofs.Common.{◌≡◌, ℕ, ◌<◌, zero, suc, List, [], ◌∷◌, ◌++◌, length, get_or, map, refl, ap, sym, ◌∙◌, arith, length-append, All}
use Rattle.clause_base.specs.declared.literal.Lit.{Lit}
use Rattle.clause_base.specs.declared.log.Step.{Step}
use Rattle.clause_base.specs.declared.log.StepKind.{StepKind}
use Rattle.clause_base.specs.Steps.{steps_of, no_step, step_at}

pub length-steps_of : (kinds : List StepKind) (clauses : List (List Lit)) (chains : List (List ℕ)) → length clauses ≡ length kinds → length chains ≡ length kinds → length (steps_of kinds clauses chains) ≡ length kinds
length-steps_of [] clauses chains p q = refl
length-steps_of (kind ∷ kinds) [] chains p q = absurd (omega arith)
length-steps_of (kind ∷ kinds) (clause ∷ clauses) [] p q = absurd (omega arith)
length-steps_of (kind ∷ kinds) (clause ∷ clauses) (chain ∷ chains) p q = ap suc (length-steps_of kinds clauses chains (omega arith) (omega arith))

pub steps_of-push : (kinds : List StepKind) (clauses : List (List Lit)) (chains : List (List ℕ)) (kind : StepKind) (clause : List Lit) (chain : List ℕ) → length clauses ≡ length kinds → length chains ≡ length kinds
    → steps_of (kinds ++ kind ∷ []) (clauses ++ clause ∷ []) (chains ++ chain ∷ []) ≡ steps_of kinds clauses chains ++ record { kind = kind; clause = clause; chain = chain } ∷ []
steps_of-push [] [] [] kind clause chain p q = refl
steps_of-push [] (c ∷ clauses) chains kind clause chain p q = absurd (omega arith)
steps_of-push [] [] (n ∷ chains) kind clause chain p q = absurd (omega arith)
steps_of-push (k ∷ kinds) [] chains kind clause chain p q = absurd (omega arith)
steps_of-push (k ∷ kinds) (c ∷ clauses) [] kind clause chain p q = absurd (omega arith)
steps_of-push (k ∷ kinds) (c ∷ clauses) (n ∷ chains) kind clause chain p q =
    ap (λ (steps : List Step). record { kind = k; clause = c; chain = n } ∷ steps) (steps_of-push kinds clauses chains kind clause chain (omega arith) (omega arith))

-- the step at a place has the kind, the clause and the chain at that place
pub step_at-steps_of : (kinds : List StepKind) (clauses : List (List Lit)) (chains : List (List ℕ)) (i : ℕ) → length clauses ≡ length kinds → length chains ≡ length kinds → i < length kinds
    → step_at (steps_of kinds clauses chains) i ≡ record { kind = get_or kinds i no_step.kind; clause = get_or clauses i []; chain = get_or chains i [] }
step_at-steps_of [] clauses chains i p q lt = absurd (omega arith)
step_at-steps_of (kind ∷ kinds) [] chains i p q lt = absurd (omega arith)
step_at-steps_of (kind ∷ kinds) (clause ∷ clauses) [] i p q lt = absurd (omega arith)
step_at-steps_of (kind ∷ kinds) (clause ∷ clauses) (chain ∷ chains) zero p q lt = refl
step_at-steps_of (kind ∷ kinds) (clause ∷ clauses) (chain ∷ chains) (suc i) p q lt = step_at-steps_of kinds clauses chains i (omega arith) (omega arith) (omega arith)

pub map-steps_of : (kinds : List StepKind) (clauses : List (List Lit)) (chains : List (List ℕ)) → length clauses ≡ length kinds → length chains ≡ length kinds
    → map (λ (step : Step). step.clause) (steps_of kinds clauses chains) ≡ clauses
map-steps_of [] [] chains p q = refl
map-steps_of [] (clause ∷ clauses) chains p q = absurd (omega arith)
map-steps_of (kind ∷ kinds) [] chains p q = absurd (omega arith)
map-steps_of (kind ∷ kinds) (clause ∷ clauses) [] p q = absurd (omega arith)
map-steps_of (kind ∷ kinds) (clause ∷ clauses) (chain ∷ chains) p q = ap (λ rest. clause ∷ rest) (map-steps_of kinds clauses chains (omega arith) (omega arith))

pub ruleset aligned = (length-steps_of, map-steps_of, steps_of-push, step_at-steps_of)

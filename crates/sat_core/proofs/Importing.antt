-- Steps of an accepted log that a solver takes over.
use Rattle.std.proofs.Common.{◌≡◌, ℕ, ◌+◌, ◌-◌, ◌<◌, true, false, List, [], ◌∷◌, ◌++◌, map, length, take, Option, None, Result, Ok, Err, refl, sym, ap, ◌∙◌, subst, arith}
use Rattle.std.specs.Result.{OnOk, OnErr}
use Rattle.std.proofs.Math.Seq.{take-append-add}
use Rattle.std.proofs.lemmas.Bool.{false≢true}
use Rattle.std.proofs.lemmas.List.{take_more, append_assoc, get_or-append_right, length-append, length-map, get_or-map, append-nil, drop_at}
use Rattle.std.proofs.lemmas.List.Elements.{All-get_or, All-drop}
use Rattle.loc_base.specs.declared.memory.NoMemory.{NoMemory}
use Rattle.clause_base.specs.declared.literal.Lit.{Lit}
use Rattle.clause_base.specs.declared.log.Step.{Step}
use Rattle.clause_base.specs.declared.log.StepKind.{StepKind}
use Rattle.clause_base.specs.declared.log.StepKind.TheVariants.{Block, Learned, Derived}
use Rattle.clause_base.specs.Literal.{has_distinct_variables, IsWithin, AreWithin}
use Rattle.clause_base.specs.Steps.{step_at, no_step}
use Rattle.clause_base.specs.Acceptance.{clauses_of, is_block, is_block_kind, IsAccepted, IsAcceptedAs, IsAcceptedStep}
use Rattle.sat_core.specs.declared.engine.Engine.{Engine}
use Rattle.sat_core.specs.SolverState.{SolverState, IsSolver, blocks_of}
use Rattle.sat_core.specs.Calls.{MayFollow, told_after, with_steps}
use Rattle.sat_core.specs.Searching.{form_of, state_of, IsReady}
use Rattle.sat_core.proofs.Growing.{IsLogged, logged, IsLogged-push, IsLogged-block}
use Rattle.sat_core.proofs.SearchLemmas.{stays, IsReady-same, IsReady-pushed}

-- a step that is no block is accepted whatever the blocks are
other_blocks : (kind : StepKind) (form a b : List (List Lit)) (earlier : List Step) (step : Step) → is_block_kind kind ≡ false → IsAcceptedAs kind form a earlier step → IsAcceptedAs kind form b earlier step
other_blocks Block form a b earlier step n h = absurd (false≢true (sym n))
other_blocks Learned form a b earlier step n h = h
other_blocks Derived form a b earlier step n h = h

-- the next step is accepted after those that were taken over
pub accepted_next : (form : List (List Lit)) (log steps : List Step) (place : ℕ) → IsAccepted form (blocks_of (log ++ steps)) (log ++ steps) → place < length steps → is_block (step_at steps place) ≡ false → IsAcceptedStep form (blocks_of (log ++ take place steps)) (log ++ take place steps) (step_at steps place)
accepted_next form log steps place h l n =
    let at : length log + place - length log ≡ place = omega arith in
    let here : step_at (log ++ steps) (length log + place) ≡ step_at steps place = get_or-append_right log steps (length log) (length log + place) no_step refl (omega arith) ∙ ap (step_at steps) at in
    other_blocks (step_at steps place).kind form (blocks_of (log ++ steps)) (blocks_of (log ++ take place steps)) (log ++ take place steps) (step_at steps place) n
    (subst (λ b. IsAcceptedStep form (blocks_of (log ++ steps)) b (step_at steps place)) (take-append-add log steps place)
    (subst (IsAcceptedStep form (blocks_of (log ++ steps)) (take (length log + place) (log ++ steps))) here
    (h.each_step (length log + place) (omega (arith, l, length-append log steps)))))

pub within_next : (vars : ℕ) (steps : List Step) (place : ℕ) → AreWithin vars (map (λ (s : Step). s.clause) steps) → place < length steps → IsWithin vars (step_at steps place).clause
within_next vars steps place h l =
    subst (IsWithin vars) (get_or-map (λ (s : Step). s.clause) steps place no_step [] l)
    (All-get_or (IsWithin vars) (map (λ (s : Step). s.clause) steps) place [] (omega (arith, l, length-map steps (λ (s : Step). s.clause))) h)

-- a step of these parts
pub step_is : (s : Step) (k : StepKind) (clause : List Lit) (chain : List ℕ) → k ≡ s.kind → clause ≡ s.clause → chain ≡ s.chain → record { kind = k; clause = clause; chain = chain } ≡ s
step_is s k clause chain a b d = rw a (rw b (rw d refl))

-- no step more
pub with_none : (s : SolverState) → s ≡ with_steps s []
with_none s = ap (λ (steps : List Step). record { vars = s.vars; form = s.form; preferred = s.preferred; log = steps; model = s.model; told = s.told }) (sym (append-nil s.log))

none_told : (steps : List Step) (s : Step) (told : Option (List Lit)) → told_after (steps ++ s ∷ []) told ≡ None
none_told [] s told = refl
none_told (x ∷ xs) s told = refl

-- one step more
pub with_more : (s now next : SolverState) (steps : List Step) (place : ℕ) → place < length steps → now ≡ with_steps s (take place steps) → next ≡ with_steps now (step_at steps place ∷ []) → next ≡ with_steps s (take (place + 1) steps)
with_more s now next steps place l a b =
    let x : Step = step_at steps place in
    b ∙ (ap (λ o. with_steps o (x ∷ [])) a
    ∙ (ap (λ ls. record s { log = ls; told = None }) (append_assoc s.log (take place steps) (x ∷ []))
    ∙ (ap (λ o. record s { log = s.log ++ (take place steps ++ x ∷ []); told = o }) (sym (none_told (take place steps) x s.told))
    ∙ ap (with_steps s) (sym (take_more steps place no_step l)))))

taken_as : (vars : ℕ) (form : List (List Lit)) (log after : List Step) (s : Step) (k : StepKind) → s.kind ≡ k → IsLogged vars form log → (is_block s ≡ false → IsAcceptedStep form (blocks_of log) log s) → IsWithin vars s.clause → has_distinct_variables s.clause ≡ true → after ≡ log ++ s ∷ [] → IsLogged vars form after
taken_as vars form log after s Block k h a w d e = IsLogged-block vars form log after s h k w d e
taken_as vars form log after s Learned k h a w d e = let n : is_block s ≡ false = ap is_block_kind k in IsLogged-push vars form log after s h n (a n) w d e
taken_as vars form log after s Derived k h a w d e = let n : is_block s ≡ false = ap is_block_kind k in IsLogged-push vars form log after s h n (a n) w d e

-- a step more, or none
pub IsReady-taken : {T : Type 0} (e : Engine) (log after : List Step) (s : Step) (r : Result T NoMemory) → IsReady e log → (is_block s ≡ false → IsAcceptedStep (form_of e) (blocks_of log) log s) → IsWithin e.trail.vars s.clause → has_distinct_variables s.clause ≡ true → OnOk r (after ≡ log ++ s ∷ []) → OnErr r (after ≡ log) → IsReady e after
IsReady-taken e log after s (Ok x) h a w d p q = IsReady-pushed e e log after s h (stays e log h) refl refl p (taken_as e.trail.vars (form_of e) log after s s.kind refl (logged (state_of e log) h.solver) a w d p)
IsReady-taken e log after s (Err x) h a w d p q = IsReady-same e e log after h (stays e log h) refl refl q

-- the log of a solver may follow in a new one of the same form
pub MayFollow-copy : (a b : SolverState) → IsSolver a → b.vars ≡ a.vars → b.form ≡ a.form → b.log ≡ [] → MayFollow b a.log
MayFollow-copy a b h v f n = record {
  accepted = subst (λ form. IsAccepted form (blocks_of (b.log ++ a.log)) (b.log ++ a.log)) (sym f) (subst (λ (log : List Step). IsAccepted a.form (blocks_of (log ++ a.log)) (log ++ a.log)) (sym n) h.accepted);
  within = subst (λ k. AreWithin k (map (λ (s : Step). s.clause) a.log)) (sym v)
      (subst (AreWithin a.vars) (drop_at a.form (map (λ (s : Step). s.clause) a.log) (length a.form) refl) (All-drop (IsWithin a.vars) (length a.form) (clauses_of a.form a.log) h.within));
}

-- A solver's engine and log as its calls make them.
use Rattle.std.proofs.Common.{◌≡◌, ℕ, ◌^◌, ◌<◌, ◌≤◌, Bool, true, false, cond, eqb, List, [], ◌∷◌, ◌++◌, length, take, Option, Some, None, Result, Ok, Err, refl, sym, ap, ◌∙◌, subst, arith}
use Rattle.std.specs.List.{All}
use Rattle.std.specs.Result.{OnOk, OnErr}
use Rattle.std.proofs.lemmas.Bool.{ne_eqb, eq-eqb}
use Rattle.std.proofs.lemmas.List.{take_all, append-nil, length_push}
use Rattle.loc_base.specs.declared.memory.NoMemory.{NoMemory}
use Rattle.clause_base.specs.declared.literal.Lit.{Lit}
use Rattle.clause_base.specs.declared.log.Step.{Step}
use Rattle.clause_base.specs.declared.log.StepKind.TheVariants.{Block}
use Rattle.clause_base.specs.Literal.{has_distinct_variables, IsWithin, AreWithin, AllDistinct}
use Rattle.clause_base.specs.Acceptance.{clauses_of}
use Rattle.trail_core.specs.TrailState.{TrailState, IsTrail}
use Rattle.sat_core.specs.declared.engine.Engine.{Engine}
use Rattle.sat_core.specs.declared.verdict.Verdict.{Verdict}
use Rattle.sat_core.specs.declared.verdict.Verdict.TheVariants as verdict
use Rattle.sat_core.specs.SolverState.{SolverState, IsSolver}
use Rattle.sat_core.specs.Outcome.{Searches, Grows, LearnedBeforeLast, Says, told_by}
use Rattle.sat_core.specs.Calls.{untold, with_steps}
use Rattle.sat_core.specs.Analyses.{IsEmpty}
use Rattle.sat_core.specs.Searching.{form_of, state_of, seen_of, IsReady, Keeps, StandsBy, StandsTold}
use Rattle.sat_core.proofs.Growing.{IsLogged, logged, solver_from, IsLogged-block, Grows-none}
use Rattle.sat_core.proofs.SearchLemmas.{stays, IsReady-same, IsReady-pushed}

-- a block more, or none
pub IsReady-blocked : {T : Type 0} (e : Engine) (log after : List Step) (found : List Lit) (r : Result T NoMemory) → IsReady e log → IsWithin e.trail.vars found → has_distinct_variables found ≡ true → OnOk r (after ≡ log ++ record { kind = Block; clause = found; chain = [] } ∷ []) → OnErr r (after ≡ log) → IsReady e after
IsReady-blocked e log after found (Ok x) h w d p q =
    IsReady-pushed e e log after record { kind = Block; clause = found; chain = [] } h (stays e log h) refl refl p
    (IsLogged-block e.trail.vars (form_of e) log after record { kind = Block; clause = found; chain = [] } (logged (state_of e log) h.solver) refl w d p)
IsReady-blocked e log after found (Err x) h w d p q = IsReady-same e e log after h (stays e log h) refl refl q

no_step_logged : (vars : ℕ) (form : List (List Lit)) → vars < 2 ^ 32 → AreWithin vars form → AllDistinct form → IsLogged vars form []
no_step_logged vars form small w d = record {
  small = small;
  accepted = record { each_step = λ place l. absurd (omega (arith, l)); every_block = refl };
  within = subst (AreWithin vars) (sym (append-nil form)) w;
  distinct = subst AllDistinct (sym (append-nil form)) d;
}

-- the beginning
pub IsReady-begins : (e : Engine) (log : List Step) (vars : ℕ) (form : List (List Lit)) (preferred : List ℕ) → e.trail ≡ record { vars = vars; clauses = form; entries = []; level = 0 } → IsTrail e.trail → IsEmpty e.analysis → length e.analysis.marked.items ≡ vars → e.form_len ≡ length form → e.known ≡ 0 → e.preferred.items ≡ preferred → length e.model.items ≡ vars → log ≡ [] → AreWithin vars form → AllDistinct form → All (λ v. (1 ≤ v) × (v ≤ vars)) preferred → length preferred < 2 ^ 32 → IsReady e log
IsReady-begins e log vars form preferred t h a m n k p o l w d q f = record {
  fit = record { trail = h; empty = a; size = m ∙ sym vars_are };
  own = omega (arith, n, ap length clauses_are);
  known = omega (arith, k);
  pace = clauses_are ∙ (sym form_is ∙ sym (ap (clauses_of (form_of e)) none ∙ append-nil (form_of e)));
  preferred = subst (λ x. All (λ v. (1 ≤ v) × (v ≤ x)) e.preferred.items) (sym vars_are) (subst (All (λ v. (1 ≤ v) × (v ≤ vars))) (sym p) q);
  few = omega (arith, ap length p, f);
  size = o ∙ sym vars_are;
  solver = solver_from (state_of e log) (subst (λ x. IsLogged x (form_of e) log) (sym vars_are) (subst (λ x. IsLogged vars x log) (sym form_is) (subst (IsLogged vars form) (sym l) (no_step_logged vars form (omega (arith, vars_are, h.small)) w d))));
}
  where
    vars_are : e.trail.vars ≡ vars
    vars_are = ap (λ (x : TrailState). x.vars) t

    clauses_are : e.trail.clauses ≡ form
    clauses_are = ap (λ (x : TrailState). x.clauses) t

    form_is : form_of e ≡ form
    form_is = ap (take e.form_len) clauses_are ∙ take_all e.form_len form (omega (arith, n))

    none : take e.known log ≡ []
    none = ap (take e.known) l ∙ take_all e.known [] (omega arith)

-- what a search changes, as contracts see it
pub Searches-from : (old new : Engine) (log after : List Step) (before told : Option (List Lit)) (budget left derived : ℕ) → Keeps old new → Grows (form_of old) log after budget left derived → Searches (seen_of old log before) (seen_of new after told) budget left derived
Searches-from old new log after before told budget left derived k g = record {
  vars = k.vars;
  form = k.form;
  preferred = k.preferred;
  grows = g;
}

pub solver_of : (e : Engine) (log : List Step) (told : Option (List Lit)) → IsReady e log → IsSolver (seen_of e log told)
solver_of e log told r = record { small = r.solver.small; accepted = r.solver.accepted; within = r.solver.within; distinct = r.solver.distinct }

none_either : (b : Bool) (told : Option (List Lit)) → told ≡ None → cond b told None ≡ None
none_either true told q = q
none_either false told q = refl

-- where nothing is told, nothing is seen of it
pub none_seen : (e : Engine) (log : List Step) → (seen_of e log None).told ≡ None
none_seen e log = none_either (eqb e.known (length log)) None refl

-- where nothing else changes, the same is seen but for what was told
pub seen_untold : (old new : Engine) (log : List Step) (told : Option (List Lit)) (s : SolverState) → seen_of old log told ≡ s → state_of new log ≡ state_of old log → seen_of new log None ≡ untold s
seen_untold old new log told s q e =
    ap (λ o. record (state_of new log) { told = o }) (none_either (eqb new.known (length log)) None refl) ∙ (ap untold e ∙ ap untold q)

-- a call that fails before its search changes nothing that counts
pub searches_none : (e : Engine) (log : List Step) (told : Option (List Lit)) (old : SolverState) (left : ℕ) → seen_of e log told ≡ old → Searches old (seen_of e log None) left left 0
searches_none e log told old left q = subst (λ o. Searches o (seen_of e log None) left left 0) q record { vars = refl; form = refl; preferred = refl; grows = Grows-none (form_of e) log left }

pub learned_none : (e : Engine) (log : List Step) (told : Option (List Lit)) (old : SolverState) → seen_of e log told ≡ old → LearnedBeforeLast old.log log
learned_none e log told old q = subst (λ o. LearnedBeforeLast o.log log) q (λ place low high. absurd (omega (arith, low, high)))

-- after one step more nothing is told
pub seen_pushed : (e : Engine) (log after : List Step) (told : Option (List Lit)) (s : Step) (old : SolverState) → IsReady e log → seen_of e log told ≡ old → after ≡ log ++ s ∷ [] → seen_of e after told ≡ with_steps old (s ∷ [])
seen_pushed e log after told s old r q p =
    let later : eqb e.known (length (log ++ s ∷ [])) ≡ false = ne_eqb e.known (length (log ++ s ∷ [])) (λ z. absurd (omega (arith, z, length_push log s, r.known))) in
    subst (λ o. seen_of e after told ≡ with_steps o (s ∷ [])) q
    (ap (λ steps. seen_of e steps told) p ∙ ap (λ b. record (state_of e (log ++ s ∷ [])) { told = cond b told None }) later)

-- what a verdict says is said of what is seen
pub says_seen : (e : Engine) (log : List Step) (told : Option (List Lit)) (assume : List Lit) (left : ℕ) (v : Verdict) → Says (state_of e log) assume left v → Says (seen_of e log told) assume left v
says_seen e log told assume left verdict.Model h = (h.0, record { satisfies = h.1.satisfies; assumed = h.1.assumed; greatest = h.1.greatest })
says_seen e log told assume left (verdict.Closed number) h = h
says_seen e log told assume left verdict.Spent h = h

-- what is told after a verdict is seen
pub told_seen : (e : Engine) (log : List Step) (told : Option (List Lit)) (assume : List Lit) (v : Verdict) → StandsBy e log assume v → told ≡ told_by assume (Ok v) → (seen_of e log told).told ≡ told_by assume (Ok v)
told_seen e log told assume v h q = ap (λ o. cond (eqb e.known (length log)) o None) q ∙ at v h
  where
    at : (w : Verdict) → StandsBy e log assume w → cond (eqb e.known (length log)) (told_by assume (Ok w)) None ≡ told_by assume (Ok w)
    at verdict.Model s = ap (λ b. cond b (Some assume) None) (eq-eqb e.known (length log) s.0)
    at (verdict.Closed number) s = none_either (eqb e.known (length log)) None refl
    at verdict.Spent s = none_either (eqb e.known (length log)) None refl

-- what is told after a verdict stands
pub stands_told : (e : Engine) (log : List Step) (told : Option (List Lit)) (assume : List Lit) (v : Verdict) → StandsBy e log assume v → told ≡ told_by assume (Ok v) → StandsTold e told
stands_told e log told assume v h q = subst (StandsTold e) (sym q) (at v h)
  where
    at : (w : Verdict) → StandsBy e log assume w → StandsTold e (told_by assume (Ok w))
    at verdict.Model s = s.1
    at (verdict.Closed number) s = tt
    at verdict.Spent s = tt

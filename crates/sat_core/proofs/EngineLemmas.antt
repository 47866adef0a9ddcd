-- What a step of learning leaves.
use Rattle.std.proofs.Common.{◌≡◌, ℕ, ◌+◌, ◌-◌, ◌<◌, ◌≤◌, Bool, false, Result, Ok, Err, List, [], ◌∷◌, ◌++◌, length, get_or, take, sym, ap, ◌∙◌, subst, map, arith, ◌⊎◌, inl, inr}
use Rattle.std.specs.Result.{is_err, OnOk, OnErr}
use Rattle.std.proofs.lemmas.Bool.{false≢true}
use Rattle.clause_base.specs.declared.literal.Lit.{Lit}
use Rattle.clause_base.specs.Literal.{IsWithin, AreWithin}
use Rattle.clause_base.specs.Steps.{step_at, no_step}
use Rattle.clause_base.specs.Acceptance.{clauses_of}
use Rattle.clause_base.proofs.Accepted.{clauses_of-more}
use Rattle.std.proofs.lemmas.List.{get_or-map, length-map, get_or_push, length_push}
use Rattle.clause_base.specs.declared.log.Step.{Step}
use Rattle.clause_base.specs.declared.log.StepKind.TheVariants.{Learned as learned_kind}
use Rattle.trail_core.specs.TrailState.{TrailState, IsTrail, MayAdd, at_start, with_clause, back_at}
use Rattle.sat_core.specs.Derivation.{Learns}
use Rattle.sat_core.specs.declared.engine.Engine.{Engine}
use Rattle.sat_core.specs.Engines.{LearnsStep, KeepsPace}
use Rattle.sat_core.proofs.FreshLemmas.{Learns-fresh}

pub LearnsStep-from : (t : TrailState) (marks : List Bool) (literals : List Lit) (chain : List ℕ) (old new : List Step) → IsTrail t → 1 ≤ t.level → Learns t marks literals chain → new ≡ old ++ record { kind = learned_kind; clause = literals; chain = chain } ∷ [] → LearnsStep t old new literals chain
LearnsStep-from t marks literals chain old new h p r e = record {
  step = e;
  accepted = r.accepted;
  fresh = Learns-fresh t marks literals chain h p r;
  distinct = r.distinct;
  within = r.within;
}

-- the clause that a log gives for its last step, which was learned
pub last_learned : (old new : List Step) (literals : List Lit) (chain : List ℕ) (n : ℕ) (found : List Lit) → new ≡ old ++ record { kind = learned_kind; clause = literals; chain = chain } ∷ [] → n ≡ length new → found ≡ (step_at new (n - 1)).clause → found ≡ literals
last_learned old new literals chain n found e l p =
    let s : Step = record { kind = learned_kind; clause = literals; chain = chain } in
    p ∙ ap (λ (x : Step). x.clause) (ap (λ log. get_or log (n - 1) no_step) e ∙ get_or_push old s no_step (n - 1) (omega (arith, l, ap length e, length_push old s)))

-- the clause may be added where the trail stands, as the calls give them
pub may_add : (t back : TrailState) (level : ℕ) (literals clause : List Lit) → back ≡ back_at t level → clause ≡ literals → MayAdd (back_at t level) literals → MayAdd back clause
may_add t back level literals clause p q m = subst (λ s. MayAdd s clause) (sym p) (subst (MayAdd (back_at t level)) (sym q) m)

-- at level 0 any clause may be added
pub may_add_from : (t : TrailState) (asserting level : ℕ) (literals : List Lit) → (level ≡ asserting) ⊎ (level ≡ 0) → MayAdd (back_at t asserting) literals → MayAdd (back_at t level) literals
may_add_from t asserting level literals (inl e) m = subst (λ k. MayAdd (back_at t k) literals) (sym e) m
may_add_from t asserting level literals (inr e) m = at_start e

pub lower_from : (asserting level present : ℕ) → (level ≡ asserting) ⊎ (level ≡ 0) → asserting < present → level < present
lower_from asserting level present (inl e) l = omega (arith, e, l)
lower_from asserting level present (inr e) l = omega (arith, e, l)

-- the trail with the clause
pub trail_after : (t back after : TrailState) (level : ℕ) (literals clause : List Lit) → back ≡ back_at t level → clause ≡ literals → after ≡ with_clause back clause → after ≡ with_clause (back_at t level) literals
trail_after t back after level literals clause p q e = e ∙ (ap (λ s. with_clause s clause) p ∙ ap (with_clause (back_at t level)) q)

pub on_ok_at : {T E : Type 0} (r : Result T E) (P : Type 0) → is_err r ≡ false → OnOk r P → P
on_ok_at (Ok x) P h p = p
on_ok_at (Err e) P h p = absurd (false≢true (sym h))

pub on_err_from : {T E : Type 0} (r : Result T E) (P : Type 0) → P → OnErr r P
on_err_from (Ok x) P p = tt
on_err_from (Err e) P p = p

-- the clause of a step is over the variables
pub step_within : (vars vars' : ℕ) (log : List Step) (place : ℕ) (clause : List Lit) → AreWithin vars (map (λ (s : Step). s.clause) log) → place < length log → vars' ≡ vars → clause ≡ (step_at log place).clause → IsWithin vars' clause
step_within vars vars' log place clause h l e p =
    subst (λ v. IsWithin v clause) (sym e) (subst (IsWithin vars) (sym (p ∙ sym (get_or-map (λ (s : Step). s.clause) log place no_step [] l))) (h place [] (omega (arith, length-map log (λ (s : Step). s.clause), l))))

-- one more step is known
pub KeepsPace-more : (old now after : Engine) (log : List Step) (clause : List Lit) → KeepsPace old now log → now.known < length log → clause ≡ (step_at log now.known).clause → after.trail.clauses ≡ now.trail.clauses ++ clause ∷ [] → after.known ≡ now.known + 1 → KeepsPace old after log
KeepsPace-more old now after log clause h l p c k form e =
    c ∙ (ap (λ cs. cs ++ clause ∷ []) (h form e) ∙ (ap (λ x. clauses_of form (take now.known log) ++ x ∷ []) p
    ∙ (sym (clauses_of-more form log now.known l) ∙ ap (λ n. clauses_of form (take n log)) (sym k))))

pub on_ok_map : {T E : Type 0} (r : Result T E) (P Q : Type 0) → (P → Q) → OnOk r P → OnOk r Q
on_ok_map (Ok x) P Q f p = f p
on_ok_map (Err e) P Q f p = tt

-- two facts of a success make a third
pub on_ok_both : {T E P Q R : Type 0} (r : Result T E) → OnOk r P → OnOk r Q → (P → Q → R) → OnOk r R
on_ok_both (Ok x) p q f = f p q
on_ok_both (Err e) p q f = tt

-- A form of which only the clauses that a log names are made: what the check of the log says after it.
use Rattle.std.proofs.Common.{◌≡◌, ℕ, zero, suc, ◌+◌, ◌-◌, ◌<◌, ◌≤◌, Bool, true, false, if◌then◌else◌, List, [], ◌∷◌, length, get_or, map, refl, sym, ap, ◌∙◌, subst, arith, ◌⊎◌, inl, inr}
use Rattle.std.specs.Prelude.{All, Err, IfOk, IfSome, IsNone, None, Ok, Option, Result, Some, ◌↔◌}
use Rattle.std.proofs.lemmas.Bool.{cases_lt}
use Rattle.std.proofs.lemmas.List.{get_or_past}
use Rattle.std.proofs.lemmas.List.Elements.{All-cons, All-head, All-nil, All-tail}
use Rattle.loc_base.specs.declared.memory.NoMemory.{NoMemory}
use Rattle.clause_base.specs.declared.form.Form.{Form}
use Rattle.clause_base.specs.declared.literal.Lit.{Lit}
use Rattle.clause_base.specs.declared.log.Step.{Step}
use Rattle.clause_base.specs.Literal.{AllDistinct, AreWithin, IsWithin}
use Rattle.clause_base.specs.Acceptance.{Follows, IsAccepted, IsLeastRefused}
use Rattle.clause_form.specs.Named.{Planned, named_from, only_named}
use Rattle.proof_check.specs.declared.claim.BadStep.{BadStep}
use Rattle.proof_check.specs.Named.{AgreeFor, is_named}
use Rattle.proof_check.proofs.Mentioned.{named-follow, same-answer}
use Rattle.clause_form.proofs.NamedSteps.{length-named}
use Rattle.list_verdict.specs.Claims.{Claim}
use Rattle.list_verdict.specs.Conditions.{blocks_for}
use Rattle.list_verdict.specs.Judging.{IsNamedForm, LogSays}

picked : (P : List Lit → Type 0) (b : Bool) (clause : List Lit) → P clause → P [] → P (if b then clause else [])
picked P true clause is none = is
picked P false clause is none = none

module _ (named : List Bool) where
  -- a clause that is wanted is there
  named-at : (place : ℕ) (clauses : List (List Lit)) (i : ℕ) → get_or named (place + i) true ≡ true
      → get_or (named_from named place clauses) i [] ≡ get_or clauses i []
  unfolding named_from
  named-at place [] i is = refl
  named-at place (clause ∷ clauses) zero is =
      let here : place + 0 ≡ place = omega arith in
      ap (λ (b : Bool). if b then clause else []) (ap (λ p. get_or named p true) (sym here) ∙ is)
  named-at place (clause ∷ clauses) (suc i) is =
      let next : place + suc i ≡ place + 1 + i = omega arith in
      named-at (place + 1) clauses i (ap (λ p. get_or named p true) (sym next) ∙ is)

  named-within : (vars place : ℕ) (clauses : List (List Lit)) → AreWithin vars clauses → AreWithin vars (named_from named place clauses)
  unfolding named_from
  named-within vars place [] within = within
  named-within vars place (clause ∷ clauses) within =
      All-cons (IsWithin vars) (if get_or named place true then clause else []) (named_from named (place + 1) clauses)
      (picked (IsWithin vars) (get_or named place true) clause (All-head (IsWithin vars) clause clauses within) (All-nil (λ (l : Lit). (1 ≤ l.var) × (l.var ≤ vars))))
      (named-within vars (place + 1) clauses (All-tail (IsWithin vars) clause clauses within))

-- what is made where the marks are those of the log's numbers
is-named_form : (plan : Planned) (log : List Step) (made : Form) (named : List Bool) (most : ℕ) → length named ≡ most
    → ((place : ℕ) → place < most → get_or named place true ≡ is_named log (place + 1)) → made.vars ≡ plan.vars
    → made.clauses ≡ only_named named plan.clauses → IsNamedForm plan log made
is-named_form plan log made named most long marks vars clauses = record {
  variables = vars;
  agree = subst (λ cs. AgreeFor log cs plan.clauses) (sym clauses) agree;
  within = λ within.
      subst (λ n. AreWithin n made.clauses) (sym vars)
      (subst (AreWithin plan.vars) (sym clauses) (named-within named plan.vars 0 plan.clauses within));
}
  where
    marked : (place : ℕ) → is_named log (place + 1) ≡ true → get_or named place true ≡ true
    marked place is = at (cases_lt place most)
      where
        at : (place < most) ⊎ (most ≤ place) → get_or named place true ≡ true
        at (inl low) = marks place low ∙ is
        at (inr high) = get_or_past named place true (omega (arith, long, high))

    agree : AgreeFor log (only_named named plan.clauses) plan.clauses
    agree = record {
      long = length-named named 0 plan.clauses;
      same = λ n least is.
          let there : n ≡ n - 1 + 1 = omega (arith, least) in
          let here : 0 + (n - 1) ≡ n - 1 = omega arith in
          named-at named 0 plan.clauses (n - 1)
          (ap (λ p. get_or named p true) here ∙ marked (n - 1) (ap (is_named log) (sym there) ∙ is));
    }

pub made-named : (plan : Planned) (log : List Step) (named : List Bool) (most : ℕ) (r : Result Form NoMemory) → length named ≡ most
    → ((place : ℕ) → place < most → get_or named place true ≡ is_named log (place + 1)) → IfOk r (λ form. form.vars ≡ plan.vars)
    → IfOk r (λ form. form.clauses ≡ only_named named plan.clauses) → IfOk r (IsNamedForm plan log)
made-named plan log named most (Ok form) long marks vars clauses = is-named_form plan log form named most long marks vars clauses
made-named plan log named most (Err e) long marks vars clauses = tt

-- what the check says after it is said of the whole form
pub log-says : (c : Claim) (made : List (List Lit)) (blocks : List (List Lit)) (r : Result (Option BadStep) NoMemory) → AgreeFor c.log made c.form
    → AllDistinct made → AllDistinct (map (λ (step : Step). step.clause) c.log) → blocks ≡ blocks_for c.sets
    → IfOk r (λ found. IsNone found ↔ IsAccepted made blocks c.log)
    → IfOk r (λ found. IfSome found (λ bad. IsLeastRefused made blocks c.log bad.n)) → IfOk r (LogSays c)
log-says c made blocks (Ok None) agree of_made of_log same accepted least =
    let is : IsAccepted c.form blocks c.log = same-answer c.log made c.form agree blocks None (accepted.0 refl) in (
      subst (λ bs. IsAccepted c.form bs c.log) same is,
      subst (λ bs. Follows c.form bs c.log) same (named-follow c.log made c.form agree blocks of_made of_log is),
    )
log-says c made blocks (Ok (Some bad)) agree of_made of_log same accepted least =
    subst (λ bs. IsLeastRefused c.form bs c.log bad.n) same (same-answer c.log made c.form agree blocks (Some bad) least)
log-says c made blocks (Err e) agree of_made of_log same accepted least = tt

-- What is kept of a certificate: steps that may stand behind a log that has grown, which shows with them that no set is missing.
use Rattle.std.proofs.Common.{◌≡◌, ◌⊎◌, inl, inr, ℕ, zero, suc, ◌+◌, ◌-◌, ◌<◌, List, [], ◌∷◌, ◌++◌, length, map, take, drop, get_or, Option}
use Rattle.std.proofs.Common.{refl, ap, sym, ◌∙◌, subst, arith, append_assoc}
use Rattle.std.specs.Prelude.{All, Contains, slice_get}
use Rattle.std.specs.List.{AllZip}
use Rattle.std.specs.List.Sorted.{IsStrictlyIncreasing}
use Rattle.std.specs.Option.{option_map_or}
use Rattle.std.proofs.lemmas.List.{append-nil, get_or_default, get_or_push, length_push, take-append-drop}
use Rattle.std.proofs.lemmas.List.Elements.{All-cons, All-drop, All-head, All-nil, All-tail, Contains-append_cases, Contains-append_left, Contains-append_right}
use Rattle.loc_base.proofs.ShelfLists.{Contains-cons, Contains-empty, Contains-first, Contains-later, slice_get-at}
use Rattle.clause_base.specs.declared.literal.Lit.{Lit}
use Rattle.clause_base.specs.declared.log.Step.{Step}
use Rattle.clause_base.specs.declared.log.StepKind.{StepKind}
use Rattle.clause_base.specs.declared.log.StepKind.TheVariants.{Derived}
use Rattle.clause_base.specs.Acceptance.{IsAcceptedAs, IsAcceptedChain, IsAcceptedStep, clauses_of}
use Rattle.clause_base.specs.Counted.{IsPassedOver, ShowsAbsent}
use Rattle.clause_base.specs.Literal.{IsWithin}
use Rattle.card_counter.specs.Shows.{Shows, ShowsSize, ShowsWithout, last_of}
use Rattle.front_cert.specs.Certificates.{IsCertificate as IsCertificateAfter, IsDerivedAfter}
use Rattle.front_cert.proofs.Finished.{chain-more, clauses-grown, size-grown, without-behind}
use Rattle.front_cert.proofs.Fronted.{last-at, last-has}
use Rattle.sat_core.specs.SolverState.{blocks_of}
use Rattle.set_enum.specs.Certificate.{ArePassedOver, IsCertificate, IsStepFor}
use Rattle.set_enum.specs.EnumState.{EnumState}
use Rattle.set_enum.specs.Bounds.{bound_of}
use Rattle.suspect_map.proofs.Ascending.{ascending-tail}
use Rattle.debug_core.specs.Debugging.{IsKept, ShowEach}

-- ---- what logs show
size-more : (n k size : ℕ) (log more : List Step) → ((step : Step) → Contains log step → Contains more step) → ShowsSize n k size log → ShowsSize n k size more
size-more n k zero log more f shows = tt
size-more n k (suc j) log more f shows = record { step = shows.step; in_log = f shows.step shows.in_log; clause = shows.clause }

-- a log with all the steps of another one shows as much
pub shows-more : (n k : ℕ) (members : List ℕ) (log more : List Step) → ((step : Step) → Contains log step → Contains more step) → Shows n k members log → Shows n k members more
shows-more n k members log more f shows = record {
  size = size-more n k (length members) log more f shows.size;
  passed = λ x p. let w = shows.passed x p in record { step = w.step; in_log = f w.step w.in_log; clause = w.clause };
}

-- where there is no set there is nothing to show
pub shows-none : (n k : ℕ) (log : List Step) → Shows n k [] log
shows-none n k log = record { size = tt; passed = λ x p. let (m, member, less) = p.greater in absurd (Contains-empty m member) }

-- the last set of a list with one set more
pub last-push : (sets : List (List ℕ)) (set : List ℕ) → last_of (sets ++ set ∷ []) ≡ set
last-push sets set =
    let long : length (sets ++ set ∷ []) ≡ length sets + 1 = length_push sets set in
    last-at (sets ++ set ∷ []) (omega (arith, long)) ∙ get_or_push sets set [] (length (sets ++ set ∷ []) - 1) (omega (arith, long))

-- what holds of no set and of each listed one holds of the last
pub last-or-none : (P : List ℕ → Type 0) (sets : List (List ℕ)) → P [] → All P sets → P (last_of sets)
last-or-none P [] none all = none
last-or-none P (set ∷ sets) none all = last-has P (set ∷ sets) (omega arith) all

-- ---- the steps that are kept
module _ (vars : ℕ) (form : List (List Lit)) (log more : List Step) where
  kept-step : (step : Step) → IsKept vars form log step → IsKept vars form (log ++ more) step
  kept-step step k = record {
    derived = record {
      kind = k.derived.kind;
      accepted = subst (λ (cs : List (List Lit)). IsAcceptedChain cs step.chain step.clause) (sym (clauses-grown form log more))
          (chain-more (clauses_of form log) (map (λ (s : Step). s.clause) more) step.chain step.clause k.derived.accepted);
    };
    within = k.within;
  }

  -- they may stand behind a longer log
  pub kept-more : (steps : List Step) → All (IsKept vars form log) steps → All (IsKept vars form (log ++ more)) steps
  kept-more steps kept i d l = kept-step (get_or steps i d) (kept i d l)

-- steps between the log and those that are kept don't hide what both show
pub shows-grown : (n k : ℕ) (members : List ℕ) (log more steps : List Step) → Shows n k members (log ++ steps) → Shows n k members ((log ++ more) ++ steps)
shows-grown n k members log more steps shows = shows-more n k members (log ++ steps) ((log ++ more) ++ steps) there shows
  where
    there : (step : Step) → Contains (log ++ steps) step → Contains ((log ++ more) ++ steps) step
    there step member = at (Contains-append_cases log steps step member)
      where
        at : Contains log step ⊎ Contains steps step → Contains ((log ++ more) ++ steps) step
        at (inl early) = Contains-append_left (log ++ more) steps step (Contains-append_left log more step early)
        at (inr late) = Contains-append_right (log ++ more) steps step late

-- the first of the steps may be appended
pub shows-appended : (n k : ℕ) (members : List ℕ) (log steps : List Step) (count : ℕ) → Shows n k members (log ++ steps) → Shows n k members ((log ++ take count steps) ++ drop count steps)
shows-appended n k members log steps count shows =
    subst (Shows n k members) (ap (λ (xs : List Step). log ++ xs) (sym (take-append-drop count steps)) ∙ sym (append_assoc log (take count steps) (drop count steps))) shows

-- ---- the steps show a suspect absent each
zip-weak : {A B : Type 0} (R S : A → B → Type 0) (xs : List A) (ys : List B) → ((x : A) (y : B) → R x y → S x y) → AllZip R xs ys → AllZip S xs ys
zip-weak R S [] [] f z = tt
zip-weak R S [] (y ∷ ys) f z = absurd z
zip-weak R S (x ∷ xs) [] f z = absurd z
zip-weak R S (x ∷ xs) (y ∷ ys) f z = (f x y z.0, zip-weak R S xs ys f z.1)

-- where there are none
pub each-none : (n k : ℕ) (members : List ℕ) → ShowEach n k members []
each-none n k members = record { passed = []; ascending = λ place within. absurd (omega (arith, within)); are = All-nil (IsPassedOver members); shown = tt }

-- all but the first
module _ (n k : ℕ) (members : List ℕ) where
  abbrev Absent : ℕ → Step → Type 0
  Absent x step = ShowsAbsent members (bound_of n k (length members)) x step.clause

  later : (step : Step) (steps : List Step) (passed : List ℕ) → IsStrictlyIncreasing passed → All (IsPassedOver members) passed → AllZip Absent passed (step ∷ steps)
      → ShowEach n k members steps
  later step steps [] ascending are shown = absurd shown
  later step steps (x ∷ passed) ascending are shown = record {
    passed = passed;
    ascending = ascending-tail x passed ascending;
    are = All-tail (IsPassedOver members) x passed are;
    shown = shown.1;
  }

  pub each-later : (steps : List Step) → ShowEach n k members steps → ShowEach n k members (drop 1 steps)
  each-later [] each = each
  each-later (step ∷ steps) each = later step steps each.passed each.ascending each.are each.shown

-- ---- the certificate of an enumerator
zip-has : {A B : Type 0} (R : A → B → Type 0) (xs : List A) (ys : List B) (x : A) → AllZip R xs ys → Contains xs x → (y : B) × Contains ys y × R x y
zip-has R [] ys x z member = absurd (Contains-empty x member)
zip-has R (a ∷ xs) [] x z member = absurd z
zip-has {A} {B} R (a ∷ xs) (b ∷ ys) x z member = at (Contains-cons a xs x member) (λ later. zip-has R xs ys x z.1 later)
  where
    at : (a ≡ x) ⊎ Contains xs x → (Contains xs x → (y : B) × Contains ys y × R x y) → (y : B) × Contains (b ∷ ys) y × R x y
    at (inl same) rest = (b, Contains-first b ys, subst (λ w. R w b) same z.0)
    at (inr later) rest = let (y, there, holds) = rest later in (y, Contains-later b ys y there, holds)

zip-all : {A B : Type 0} (R : A → B → Type 0) (P : B → Type 0) (xs : List A) (ys : List B) → ((x : A) (y : B) → R x y → P y) → AllZip R xs ys → All P ys
zip-all R P [] [] f z = All-nil P
zip-all R P [] (b ∷ ys) f z = absurd z
zip-all R P (a ∷ xs) [] f z = absurd z
zip-all R P (a ∷ xs) (b ∷ ys) f z = All-cons P b ys (f a b z.0) (zip-all R P xs ys f z.1)

chain-of : (kind : StepKind) (form blocks : List (List Lit)) (log : List Step) (step : Step) → kind ≡ Derived → IsAcceptedAs kind form blocks log step → IsAcceptedChain (clauses_of form log) step.chain step.clause
chain-of kind form blocks log step derived accepted = subst (λ (k : StepKind). IsAcceptedAs k form blocks log step) derived accepted

module _ (e : EnumState) (members : List ℕ) (steps : List Step) (is : IsCertificate e members steps) where
  pub certificate-kept : All (IsKept e.vars e.form e.log) steps
  certificate-kept =
      zip-all (IsStepFor e members) (IsKept e.vars e.form e.log) is.passed steps
      (λ x step s. record {
        derived = record { kind = s.kind; accepted = chain-of step.kind e.form (blocks_of e.log) e.log step s.kind s.accepted };
        within = s.within;
      })
      is.steps_are

  -- it is one for whoever has form and log alone
  pub certifies : IsCertificateAfter e.n e.k e.form members e.log steps
  certifies = record {
    size = is.size;
    derived = λ i d within. (certificate-kept i d within).derived;
    shows = λ x p. shown x (zip-has (IsStepFor e members) is.passed steps x is.steps_are (is.passed_over.each x p));
  }
    where
      shown : (x : ℕ) → (step : Step) × Contains steps step × IsStepFor e members x step → ShowsWithout e.n e.k members steps x
      shown x (step, there, s) = record { step = step; in_log = there; clause = s.absent }

  pub certificate-shows : Shows e.n e.k members (e.log ++ steps)
  certificate-shows = record {
    size = size-grown e.n e.k e.log steps (length members) is.size;
    passed = λ x p. without-behind e.n e.k members e.log steps x (certifies.shows x p);
  }

  pub certificate-each : ShowEach e.n e.k members steps
  certificate-each = record {
    passed = is.passed;
    ascending = is.passed_over.ascending;
    are = is.passed_over.are;
    shown = zip-weak (IsStepFor e members) (λ x step. ShowsAbsent members (bound_of e.n e.k (length members)) x step.clause) is.passed steps (λ x step s. s.absent) is.steps_are;
  }

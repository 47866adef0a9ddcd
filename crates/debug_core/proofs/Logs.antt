-- Logs that grow: what holds of the steps that were there and of those that are added holds of all.
use Rattle.std.proofs.Common.{◌≡◌, ◌⊎◌, inl, inr, ℕ, ◌+◌, ◌<◌, ◌≤◌, List, [], ◌∷◌, ◌++◌, length, take, drop}
use Rattle.std.proofs.Common.{refl, ap, sym, ◌∙◌, subst, arith}
use Rattle.std.specs.Prelude.{Bool, cond, count_by}
use Rattle.std.proofs.lemmas.Bool.{cases_lt}
use Rattle.std.proofs.lemmas.List.{drop-append-le, drop_at, get_or-take, get_or_push, length_push, take-append-drop, take-take, take_at}
use Rattle.std.proofs.lemmas.List.Sums.{sum_by-append}
use Rattle.clause_base.specs.declared.literal.Lit.{Lit}
use Rattle.clause_base.specs.declared.log.Step.{Step}
use Rattle.clause_base.specs.declared.log.StepKind.TheVariants.{Block, Derived, Learned}
use Rattle.clause_base.specs.Acceptance.{clauses_of}
use Rattle.clause_base.specs.Progress.{IsFresh, LearnedAreFresh}
use Rattle.clause_base.specs.Steps.{no_step, step_at}
use Rattle.sat_core.specs.Outcome.{added}

-- the clause of each derived step from a place on has a property
abbrev pub DerivedAre : (List Lit → Type 0) → List Step → ℕ → Type 0
DerivedAre P log from = (place : ℕ) → from ≤ place → place < length log → (step_at log place).kind ≡ Derived → P (step_at log place).clause

module _ (old new : List Step) (prefix : take (length old) new ≡ old) where
  -- the steps that were there stand where they stood, behind the same ones
  step-stays : (place : ℕ) → place < length old → step_at old place ≡ step_at new place
  step-stays place low = ap (λ log. step_at log place) (sym prefix) ∙ get_or-take (length old) new place no_step low

  before-stays : (place : ℕ) → place < length old → take place old ≡ take place new
  before-stays place low = ap (take place) (sym prefix) ∙ take-take place (length old) new (omega (arith, low))

  pub fresh-grown : (form : List (List Lit)) (from : ℕ) → LearnedAreFresh form old from → LearnedAreFresh form new (length old)
      → LearnedAreFresh form new from
  fresh-grown form from first later place low within kind = at (cases_lt place (length old))
    where
      at : (place < length old) ⊎ (length old ≤ place) → IsFresh (clauses_of form (take place new)) (step_at new place).clause
      at (inl early) =
          let here = step-stays place early in
          subst (λ steps. IsFresh (clauses_of form steps) (step_at new place).clause) (before-stays place early)
          (subst (λ (s : Step). IsFresh (clauses_of form (take place old)) s.clause) here
          (first place low early (ap (λ (s : Step). s.kind) here ∙ kind)))
      at (inr late) = later place late within kind

  pub derived-grown : (P : List Lit → Type 0) (from : ℕ) → DerivedAre P old from → DerivedAre P new (length old) → DerivedAre P new from
  derived-grown P from first later place low within kind = at (cases_lt place (length old))
    where
      at : (place < length old) ⊎ (length old ≤ place) → P (step_at new place).clause
      at (inl early) =
          let here = step-stays place early in
          subst (λ (s : Step). P s.clause) here (first place low early (ap (λ (s : Step). s.kind) here ∙ kind))
      at (inr late) = later place late within kind

  -- so many steps of a kind more
  pub count-grown : (p : Step → Bool) → count_by p new ≡ count_by p old + count_by p (added old new)
  count-grown p =
      ap (count_by p) (sym (take-append-drop (length old) new) ∙ ap (λ log. log ++ added old new) prefix)
      ∙ sum_by-append (λ x. cond (p x) 1 0) old (added old new)

  -- and of those from a place on
  pub count-behind : (p : Step → Bool) (from : ℕ) → from ≤ length old
      → count_by p (drop from new) ≡ count_by p (drop from old) + count_by p (added old new)
  count-behind p from within =
      ap (λ log. count_by p (drop from log)) (sym (take-append-drop (length old) new) ∙ ap (λ log. log ++ added old new) prefix)
      ∙ (ap (count_by p) (drop-append-le from old (added old new) within)
      ∙ sum_by-append (λ x. cond (p x) 1 0) (drop from old) (added old new))

-- a step behind a log
module _ (old : List Step) (s : Step) where
  abbrev new : List Step
  new = old ++ s ∷ []

  pub pushed-prefix : take (length old) new ≡ old
  pushed-prefix = take_at old (s ∷ []) (length old) refl

  pub pushed-added : added old new ≡ s ∷ []
  pushed-added = drop_at old (s ∷ []) (length old) refl

  last-is : (place : ℕ) → length old ≤ place → place < length new → step_at new place ≡ s
  last-is place low within = get_or_push old s no_step place (omega (arith, low, within, length_push old s))

  -- a block isn't learned, nor derived
  pub block-fresh : (form : List (List Lit)) → s.kind ≡ Block → LearnedAreFresh form new (length old)
  block-fresh form is place low within kind =
      absurd (apart (sym is ∙ (ap (λ (x : Step). x.kind) (sym (last-is place low within)) ∙ kind)))
    where
      apart : Block ≡ Learned → ⊥
      apart same = cc

  -- nor is a derived one learned
  pub derived-fresh : (form : List (List Lit)) → s.kind ≡ Derived → LearnedAreFresh form new (length old)
  derived-fresh form is place low within kind =
      absurd (apart (sym is ∙ (ap (λ (x : Step). x.kind) (sym (last-is place low within)) ∙ kind)))
    where
      apart : Derived ≡ Learned → ⊥
      apart same = cc

  pub block-derived : (P : List Lit → Type 0) → s.kind ≡ Block → DerivedAre P new (length old)
  block-derived P is place low within kind =
      absurd (apart (sym is ∙ (ap (λ (x : Step). x.kind) (sym (last-is place low within)) ∙ kind)))
    where
      apart : Block ≡ Derived → ⊥
      apart same = cc

-- The steps of an accepted log can be written.
use Rattle.std.proofs.Common.{ℕ, zero, suc, ◌≡◌, ◌+◌, ◌<◌, ◌≤◌, List, [], ◌∷◌, length, map, take, get_or, refl, sym, subst, arith, All}
use Rattle.std.proofs.lemmas.List.{length-append, length-map, get_or-map}
use Rattle.clause_base.specs.declared.literal.Lit.{Lit}
use Rattle.clause_base.specs.declared.log.Step.{Step}
use Rattle.clause_base.specs.declared.log.StepKind.{StepKind}
use Rattle.clause_base.specs.declared.log.StepKind.TheVariants.{Block, Learned, Derived}
use Rattle.clause_base.specs.Literal.{AreWithin, IsWithin}
use Rattle.clause_base.specs.Steps.{step_at}
use Rattle.clause_base.specs.Acceptance.{IsAcceptedAs, IsAcceptedChain, blocks_in, clauses_of}
use Rattle.proof_check.specs.Text.{CanBeWritten, HasFormOf, IsUpTo, most_number, most_variable}
use Rattle.log_portions.specs.Portions.{HasNoChain, IsPlainBlock, IsWritable, OfForm}

-- a chain that gives a clause has a number
some-number : (earlier : List (List Lit)) (chain : List ℕ) (clause : List Lit) → IsAcceptedChain earlier chain clause → 0 < length chain
some-number earlier [] clause accepted = absurd (accepted.1)
some-number earlier (n ∷ chain) clause accepted = omega (arith)

-- and its numbers are those of earlier clauses
few-earlier : (form : List (List Lit)) (log : List Step) (place : ℕ) → length (clauses_of form (take place log)) ≤ length form + length log
few-earlier form log place =
    omega (arith, length-append form (map (λ (s : Step). s.clause) (take place log)), length-map (take place log) (λ (s : Step). s.clause), shorter place log)
  where
    shorter : (n : ℕ) (steps : List Step) → length (take n steps) ≤ length steps
    shorter zero steps = omega (arith)
    shorter (suc n) [] = omega (arith)
    shorter (suc n) (s ∷ steps) = omega (arith, shorter n steps)

plain-chain : (chain : List ℕ) (most : ℕ) → most ≤ most_number → All (λ n. (1 ≤ n) × (n ≤ most)) chain → All (IsUpTo most_number) chain
plain-chain chain most h all i n d = let one = all i n d in (one.0, omega (arith, one.1, h))

plain-clause : (clause : List Lit) (vars : ℕ) → vars ≤ most_variable → IsWithin vars clause → All (λ l. IsUpTo most_variable l.var) clause
plain-clause clause vars h all i l d = let one = all i l d in (one.0, omega (arith, one.1, h))

module _ (of : OfForm) (w : IsWritable of) where
  -- the chain of a step that isn't a block
  chained : (place : ℕ) (step : Step) → IsAcceptedChain (clauses_of of.form (take place of.log)) step.chain step.clause
      → All (IsUpTo most_number) step.chain
  chained place step accepted =
      plain-chain step.chain (length (clauses_of of.form (take place of.log)))
      (omega (arith, few-earlier of.form of.log place, w.few_clauses)) accepted.0

  of-kind : (place : ℕ) (step : Step) (kind : StepKind) → IsAcceptedAs kind of.form of.blocks (take place of.log) step → HasNoChain kind step
      → HasFormOf kind step × All (IsUpTo most_number) step.chain
  of-kind place step Learned accepted none =
      (some-number (clauses_of of.form (take place of.log)) step.chain step.clause accepted, chained place step accepted)
  of-kind place step Derived accepted none =
      (some-number (clauses_of of.form (take place of.log)) step.chain step.clause accepted, chained place step accepted)
  of-kind place step Block accepted none =
      let plain : IsPlainBlock step.clause = subst IsPlainBlock (sym accepted.1)
      (w.blocks (blocks_in (take place of.log)) [] accepted.0) in
      ((plain.0, plain.1, none), subst (All (IsUpTo most_number)) (sym none) (λ i n d. absurd (omega (arith, d))))

  pub written : All CanBeWritten of.log
  written place d h =
      let step : Step = get_or of.log place d in
      let same : step_at of.log place ≡ step = get_or_same of.log place d h in
      let accepted = subst (λ (s : Step). IsAcceptedAs s.kind of.form of.blocks (take place of.log) s) same (w.accepted.each_step place h) in
      let both = of-kind place step step.kind accepted (w.chainless place d h) in
      record {
        has_form = both.0;
        variables = plain-clause step.clause of.vars (omega (arith, w.few_variables)) (clause_within of.log place d h w.within);
        numbers = both.1;
      }
    where
      get_or_same : (log : List Step) (i : ℕ) (d : Step) → i < length log → step_at log i ≡ get_or log i d
      get_or_same [] i d h = absurd (omega (arith, h))
      get_or_same (s ∷ log) zero d h = refl
      get_or_same (s ∷ log) (suc i) d h = get_or_same log i d (omega (arith, h))

      clause_within : (log : List Step) (i : ℕ) (d : Step) → i < length log → AreWithin of.vars (map (λ (s : Step). s.clause) log)
          → IsWithin of.vars (get_or log i d).clause
      clause_within log i d h within =
          subst (IsWithin of.vars) (get_or-map (λ (s : Step). s.clause) log i d d.clause h) (within i d.clause (omega (arith, h, length-map log (λ (s : Step). s.clause))))

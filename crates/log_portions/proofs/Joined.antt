-- Portions of a log's text, one behind another.
use Rattle.std.proofs.Common.{ℕ, zero, suc, ◌≡◌, ◌+◌, ◌<◌, ◌≤◌, List, [], ◌∷◌, ◌++◌, length, drop, ap, refl, sym, ◌∙◌, arith, append_assoc}
use Rattle.std.proofs.lemmas.List.{drop_more, append-nil}
use Rattle.std.proofs.lemmas.Grind.{flat_map-append}
use Rattle.std.proofs.lemmas.List.Folds.{flat_map-map}
use Rattle.clause_base.specs.declared.log.Step.{Step}
use Rattle.clause_base.specs.Steps.{no_step, step_at}
use Rattle.proof_check.specs.Text.{head_line, inputs_line, step_line}
use Rattle.log_portions.specs.Portions.{PortionsJoin, ended, steps_text}

pub join : PortionsJoin
join = record {
  whole = λ value.
      ap (λ t. ended head_line ++ (ended (inputs_line value.inputs) ++ t)) (flat_map-map ended step_line value.log)
      ∙ sym (append_assoc (ended head_line) (ended (inputs_line value.inputs)) (steps_text value.log));
  joined = λ one next. flat_map-append (λ (step : Step). ended (step_line step)) one next;
}

-- one step more was written
pub more : (text new all : List ℕ) (log : List Step) (place : ℕ) → place < length log
    → text ++ steps_text (drop place log) ≡ all → new ≡ text ++ ended (step_line (step_at log place))
    → new ++ steps_text (drop (place + 1) log) ≡ all
more text new all log place within before is =
    ap (λ (t : List ℕ). t ++ steps_text (drop (place + 1) log)) is
    ∙ append_assoc text (ended (step_line (step_at log place))) (steps_text (drop (place + 1) log))
    ∙ ap (λ (ss : List Step). text ++ steps_text ss) (sym (drop_more log place no_step within))
    ∙ before

-- no step is left
pub at-end : (text all : List ℕ) (log : List Step) (place : ℕ) → length log ≤ place
    → text ++ steps_text (drop place log) ≡ all → text ≡ all
at-end text all log place past e =
    sym (append-nil text) ∙ ap (λ (ss : List Step). text ++ steps_text ss) (sym (drop-past log place past)) ∙ e
  where
    drop-past : (steps : List Step) (n : ℕ) → length steps ≤ n → drop n steps ≡ []
    drop-past [] zero h = refl
    drop-past [] (suc n) h = refl
    drop-past (s ∷ steps) zero h = absurd (omega (arith, h))
    drop-past (s ∷ steps) (suc n) h = drop-past steps n (omega (arith, h))

pub ruleset joining = (more, at-end)

-- Where budget and sets are enough, and nothing stands against a list, it is whole, or memory was wanted.
use Rattle.std.proofs.Common.{ℕ, ◌≡◌, ◌<◌, ◌≤◌, ◌^◌, true, List, length, ◌⊎◌, inl, inr}
use Rattle.clause_base.specs.declared.literal.Lit.{Lit}
use Rattle.command_contract.specs.Contract.{Keeps, OneRose, Run}
use Rattle.debug_core.specs.Debugging.{IsListOf}
use Rattle.debug_core.specs.Problems.{IsFormFor, Problem}
use Rattle.front_end.specs.Means.{Meaning, Refusing}
use Rattle.load_problem.specs.Means.{Means, Suspecting}
use Rattle.list_writer.specs.Due.{IsListed}
use Rattle.list_writer.specs.declared.outcome.Outcome.TheVariants.{Ended}
use Rattle.report_doc.specs.declared.types.Ending.TheVariants.{Budget}
use Rattle.list_writer.proofs.Whole.{enough-whole}
use Rattle.requests.specs.Asked.{FindAsked, wanted_for}
use Rattle.find_cmd.specs.Finding.{OfInputs, Saves, finding, listing_of, outputs_beside}
use Rattle.find_cmd.specs.Refusals.{IsReady}

-- the list of a problem, shorter than what was asked for
pub record HasShortList (p : Problem) (sets : ℕ) : Type 0 where
  pub list : List (List ℕ)
  pub is_list : IsListOf p list
  pub short : length list < sets

pub whole-or-memory : (M : Meaning) (R : Refusing) (S : Suspecting) (asked : FindAsked) (run : Run) (status : ℕ)
    → Keeps (finding M R S asked) run status → run.told ≡ true → IsReady M S asked run.texts → ¬ OneRose run.counts
    → ((p : Problem) → Means M S (wanted_for asked) run.texts p → HasShortList p asked.listing.sets)
    → ((p : Problem) → Means M S (wanted_for asked) run.texts p → (vars : ℕ) (form : List (List Lit)) → IsFormFor p vars form
    → 3 ^ vars ≤ asked.listing.budget)
    → (status ≡ 0) ⊎ (status ≡ 7)
whole-or-memory M R S asked run status keeps told ready none sets budget = at (keeps.complete told ready none)
  where
    listed : OfInputs M S asked run.texts (λ listing. IsListed listing (outputs_beside asked run) status × Saves asked run (Ended Budget) listing) → status ≡ 0
    listed of =
        let short : HasShortList of.problem asked.listing.sets = sets of.problem of.means in
        enough-whole (record {
          asked = listing_of asked of.problem of.inputs of.session;
          outputs = outputs_beside asked run;
          status = status;
          is = of.is.0;
          list = short.list;
        }) short.is_list (budget of.problem of.means) short.short

    at : ((status ≡ 0) ⊎ (status ≡ 1)) ⊎ (status ≡ 7) → (status ≡ 0) ⊎ (status ≡ 7)
    at (inl may) = inl (listed (keeps.answered told may))
    at (inr memory) = inr memory

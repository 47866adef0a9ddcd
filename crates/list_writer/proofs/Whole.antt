-- Where budget and sets are enough, a listing that comes to its end is whole.
use Rattle.std.proofs.Common.{◌≡◌, ◌<◌, ◌≤◌, ◌^◌, ℕ, List, ◌++◌, length, refl, ap, ◌∙◌, arith}
use Rattle.std.proofs.lemmas.List.{length-append, length-map}
use Rattle.clause_base.specs.declared.literal.Lit.{Lit}
use Rattle.debug_core.specs.Debugging.{IsListOf}
use Rattle.debug_core.specs.Problems.{IsFormFor, suspects_of}
use Rattle.design_core.specs.declared.values.SetWithValues.{SetWithValues}
use Rattle.design_core.specs.Works.{Works}
use Rattle.design_core.proofs.ListingLaws.{front-prefix}
use Rattle.report_doc.specs.declared.types.Ending.{Ending}
use Rattle.report_doc.specs.declared.types.Ending.TheVariants.{Complete, Budget, Sets, Earlier}
use Rattle.list_writer.specs.Found.{EndsAs, found_of, log_of, sets_of}
use Rattle.list_writer.specs.Laws.{WithList}
use Rattle.list_writer.specs.Lines.{ending_status}
use Rattle.list_writer.proofs.SoFar.{found-long}

pub enough-whole : (of : WithList) → IsListOf of.asked.problem of.list
    → ((vars : ℕ) (form : List (List Lit)) → IsFormFor of.asked.problem vars form → 3 ^ vars ≤ of.asked.budget)
    → length of.list < of.asked.sets → of.status ≡ 0
enough-whole of list budget sets = of.is.has_status ∙ at of.is.ending of.is.is_ended.ends of.is.is_spent
  where
    at : (how : Ending) → EndsAs of.asked of.is.portions (log_of of.asked of.is.portions ++ of.is.rest) how
        → (how ≡ Budget → of.asked.budget < 3 ^ of.is.vars) → ending_status how ≡ 0
    at Complete ends spent = refl
    at Budget ends spent = absurd (omega (arith, spent refl, budget of.is.vars of.is.form of.is.is_form))
    at Sets ends spent =
        let behind = front-prefix (Works of.asked.problem.design of.asked.problem.traces (suspects_of of.asked.problem)) (suspects_of of.asked.problem) of.asked.problem.k
        (sets_of of.asked of.is.portions) of.list of.is.is_ended.found.front list in
        absurd (omega (
          arith,
          ends,
          sets,
          ap length behind.1,
          length-append (sets_of of.asked of.is.portions) behind.0,
          length-map (found_of of.asked of.is.portions) (λ (set : SetWithValues). set.members),
          found-long of.asked of.is.portions,
        ))
    at Earlier ends spent = absurd ends

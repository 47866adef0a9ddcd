-- What was read by a report, as what is posed.
use Rattle.std.proofs.Common.{◌≡◌, List, ap, sym, subst, ◌∙◌}
use Rattle.command_contract.specs.Contract.{Texts}
use Rattle.front_end.specs.Means.{Meaning}
use Rattle.load_problem.specs.declared.inputs.Inputs.{Inputs}
use Rattle.requests.specs.Asked.{WantedAsked}
use Rattle.load_problem.specs.Inputs.{problem_in}
use Rattle.load_problem.specs.Means.{Means, Suspecting}
use Rattle.clause_base.specs.declared.literal.Lit.{Lit}
use Rattle.clause_base.specs.declared.log.Step.{Step}
use Rattle.report_doc.specs.declared.types.ReportSet.{ReportSet}
use Rattle.debug_core.specs.Problems.{Problem}
use Rattle.list_verdict.specs.Claims.{Claim}

-- what is said of what is wanted and of the texts, of others that are the same
pub moved : (P : WantedAsked → Texts → Type 0) (w v : WantedAsked) (ts us : Texts) → w ≡ v → ts ≡ us → P w ts → P v us
moved P w v ts us e f holds = subst (P v) f (subst (λ (x : WantedAsked). P x ts) e holds)

pub moved-back : (P : WantedAsked → Texts → Type 0) (w v : WantedAsked) (ts us : Texts) → w ≡ v → ts ≡ us → P v us → P w ts
moved-back P w v ts us e f holds = moved P v w us ts (sym e) (sym f) holds

-- the problem that was read
pub moved-means : (M : Meaning) (S : Suspecting) (w v : WantedAsked) (ts us : Texts) (inputs : Inputs) → w ≡ v → ts ≡ us
    → Means M S w ts (problem_in inputs w.size) → Means M S v us (problem_in inputs v.size)
moved-means M S w v ts us inputs e f means =
    moved (λ x xs. Means M S x xs (problem_in inputs x.size)) w v ts us e f means

abbrev pub claim : Problem → List (List Lit) → List ReportSet → List Step → Claim
claim p form sets log = record { problem = p; form = form; sets = sets; log = log }

-- a claim of the same problem and the same sets
pub same-claim : (p q : Problem) (form : List (List Lit)) (s t : List ReportSet) (log : List Step) → p ≡ q → s ≡ t
    → claim p form s log ≡ claim q form t log
same-claim p q form s t log e f = ap (λ (x : Problem). claim x form s log) e ∙ ap (λ (xs : List ReportSet). claim q form xs log) f

-- Lists, and the steps of logs.
use Rattle.std.proofs.Common.{◌≡◌, Bool, true, false, cond, List, []}
use Rattle.std.proofs.Common.{◌∷◌, ◌++◌, map, refl, ap, ◌∙◌, subst, arith}
use Rattle.std.specs.Prelude.{All, filter}
use Rattle.std.proofs.lemmas.List.{get_or-map, length-map, map-append}
use Rattle.std.proofs.lemmas.List.Elements.{All-cons, All-head, All-tail, filter-append}
use Rattle.clause_base.specs.declared.literal.Lit.{Lit}
use Rattle.design_core.specs.declared.values.SetWithValues.{SetWithValues}
use Rattle.clause_base.specs.declared.log.Step.{Step}
use Rattle.clause_base.specs.declared.log.StepKind.{StepKind}
use Rattle.clause_base.specs.declared.log.StepKind.TheVariants.{Block, Derived, Learned}
use Rattle.clause_base.specs.Acceptance.{is_block}
use Rattle.sat_core.specs.SolverState.{blocks_of}
use Rattle.set_enum.specs.EnumState.{AreChainless}
use Rattle.set_enum.specs.EnumState.{HasNoChain as HasNoChainThere}
use Rattle.set_enum.specs.Sets.{block_of}
use Rattle.log_portions.specs.Portions.{HasNoChain}
use Rattle.list_writer.specs.Checks.{blocks_for}

-- what stands behind the same front is the same
pub append-cancel : {A : Type 0} (xs ys zs : List A) → xs ++ ys ≡ xs ++ zs → ys ≡ zs
append-cancel [] ys zs e = e
append-cancel (x ∷ xs) ys zs e = append-cancel xs ys zs (cc)

pub append-nothing : {A : Type 0} (xs ys : List A) → xs ++ ys ≡ xs → ys ≡ []
append-nothing [] ys e = e
append-nothing (x ∷ xs) ys e = append-nothing xs ys (cc)

-- ---- kinds of steps
pub blocks_of-append : (one next : List Step) → blocks_of (one ++ next) ≡ blocks_of one ++ blocks_of next
blocks_of-append one next =
    ap (map (λ (step : Step). step.clause)) (filter-append is_block one next)
    ∙ map-append (λ (step : Step). step.clause) (filter is_block one) (filter is_block next)

no-chain : (kind : StepKind) (step : Step) → HasNoChainThere kind step → HasNoChain kind step
no-chain Block step none = none
no-chain Learned step none = none
no-chain Derived step none = none

pub chainless : (log : List Step) → AreChainless log → All (λ (step : Step). HasNoChain step.kind step) log
chainless log all i d within = no-chain _ _ (all i d within)

-- what holds of each clause of a log
pub of-steps : (P : List Lit → Type 0) (log : List Step) → All P (map (λ (step : Step). step.clause) log)
    → All (λ (step : Step). P step.clause) log
of-steps P log all i d within =
    subst P (get_or-map (λ (step : Step). step.clause) log i d d.clause within)
    (all i d.clause (omega (arith, within, length-map log (λ (step : Step). step.clause))))

pub blocks-in : (P : List Lit → Type 0) (log : List Step) → All P (map (λ (step : Step). step.clause) log) → All P (blocks_of log)
blocks-in P [] all = all
blocks-in P (s ∷ log) all = at (is_block s) (blocks-in P log (All-tail P s.clause (map (λ (step : Step). step.clause) log) all))
  where
    at : (b : Bool) → All P (blocks_of log) → All P (map (λ (step : Step). step.clause) (cond b (s ∷ filter is_block log)
        (filter is_block log)))
    at true rest = All-cons P s.clause (blocks_of log) (All-head P s.clause (map (λ (step : Step). step.clause) log) all) rest
    at false rest = rest

-- the blocks of sets, by their members
pub sets-blocks : (found : List SetWithValues) → map block_of (map (λ (set : SetWithValues). set.members) found) ≡ blocks_for found
sets-blocks [] = refl
sets-blocks (set ∷ found) = ap (λ (blocks : List (List Lit)). block_of set.members ∷ blocks) (sets-blocks found)

-- A certificate behind a log that has grown: a derived step that is accepted after a log is accepted after a longer one.
use Rattle.std.proofs.Common.{◌≡◌, ℕ, suc, zero, ◌+◌, ◌-◌, ◌<◌, ◌≤◌, cond, List, [], ◌∷◌, ◌++◌, length, map, append_assoc}
use Rattle.std.proofs.Common.{refl, ap, ap₂, sym, ◌∙◌, subst, arith}
use Rattle.std.specs.Prelude.{All}
use Rattle.std.proofs.lemmas.List.{append-nil, get_or_append_left, length-append, map-append}
use Rattle.std.proofs.lemmas.List.Elements.{All-head, All-tail, Contains-append_left, Contains-append_right}
use Rattle.std.proofs.lemmas.List.Sums.{sum_by-append, sum_by-cons}
use Rattle.loc_base.proofs.ShelfBools.{count-false}
use Rattle.clause_base.specs.declared.literal.Lit.{Lit}
use Rattle.clause_base.specs.declared.log.Step.{Step}
use Rattle.clause_base.specs.declared.log.StepKind.{StepKind}
use Rattle.clause_base.specs.declared.log.StepKind.TheVariants.{Derived}
use Rattle.clause_base.specs.Acceptance.{IsAccepted, IsAcceptedAs, IsAcceptedAt, IsAcceptedChain, IsAcceptedStep, blocks_in, clauses_of, is_block, is_block_kind, numbered}
use Rattle.clause_base.specs.Resolution.{IsResult}
use Rattle.clause_base.proofs.Accepted.{each_step-push}
use Rattle.front_cert.specs.Certificates.{Certified, IsCertificate, IsDerivedAfter, IsFinished}
use Rattle.card_counter.specs.Shows.{ShowsSize, ShowsWithout}

-- the clauses of a chain's numbers are the same among more clauses
same-clauses : (clauses more : List (List Lit)) (chain : List ℕ) → All (λ number. (1 ≤ number) × (number ≤ length clauses)) chain
    → map (numbered clauses) chain ≡ map (numbered (clauses ++ more)) chain
same-clauses clauses more [] numbers = refl
same-clauses clauses more (number ∷ chain) numbers =
    let first : (1 ≤ number) × (number ≤ length clauses) = All-head (λ (m : ℕ). (1 ≤ m) × (m ≤ length clauses)) number chain numbers in
    let here : numbered clauses number ≡ numbered (clauses ++ more) number = sym (get_or_append_left clauses more [] (number - 1) (omega (arith, first.0, first.1))) in
    ap₂ (λ (c : List Lit) (cs : List (List Lit)). c ∷ cs) here
    (same-clauses clauses more chain (All-tail (λ (m : ℕ). (1 ≤ m) × (m ≤ length clauses)) number chain numbers))

-- a chain that is accepted after clauses is accepted after more
pub chain-more : (clauses more : List (List Lit)) (chain : List ℕ) (clause : List Lit) → IsAcceptedChain clauses chain clause → IsAcceptedChain (clauses ++ more) chain clause
chain-more clauses more chain clause accepted = (
  λ place default inside.
      let number = accepted.0 place default inside in
      (number.0, omega (arith, number.1, length-append clauses more)),
  subst (λ (cs : List (List Lit)). IsResult cs clause) (same-clauses clauses more chain accepted.0) accepted.1,
)

-- the clauses of a log that has grown
pub clauses-grown : (form : List (List Lit)) (log more : List Step) → clauses_of form (log ++ more) ≡ clauses_of form log ++ map (λ (s : Step). s.clause) more
clauses-grown form log more =
    ap (λ (cs : List (List Lit)). form ++ cs) (map-append (λ (s : Step). s.clause) log more)
    ∙ sym (append_assoc form (map (λ (s : Step). s.clause) log) (map (λ (s : Step). s.clause) more))

accepted-as : (kind : StepKind) (form blocks : List (List Lit)) (earlier : List Step) (step : Step) → kind ≡ Derived → IsAcceptedChain (clauses_of form earlier) step.chain step.clause
    → IsAcceptedAs kind form blocks earlier step
accepted-as kind form blocks earlier step derived chain = subst (λ (k : StepKind). IsAcceptedAs k form blocks earlier step) (sym derived) chain

pub derived-later : (form blocks : List (List Lit)) (log more : List Step) (step : Step) → IsDerivedAfter form log step → IsAcceptedStep form blocks (log ++ more) step
derived-later form blocks log more step derived =
    accepted-as step.kind form blocks (log ++ more) step derived.kind
    (subst (λ (cs : List (List Lit)). IsAcceptedChain cs step.chain step.clause) (sym (clauses-grown form log more))
    (chain-more (clauses_of form log) (map (λ (s : Step). s.clause) more) step.chain step.clause derived.accepted))

-- each step of a log is accepted
abbrev EachStep : List (List Lit) → List (List Lit) → List Step → Type 0
EachStep form blocks log = (place : ℕ) → place < length log → IsAcceptedAt form blocks log place

accepted-behind : (form blocks : List (List Lit)) (log more steps : List Step) → EachStep form blocks (log ++ more) → All (IsDerivedAfter form log) steps
    → EachStep form blocks ((log ++ more) ++ steps)
accepted-behind form blocks log more [] each derived = subst (EachStep form blocks) (sym (append-nil (log ++ more))) each
accepted-behind form blocks log more (step ∷ steps) each derived =
    let last : IsAcceptedStep form blocks (log ++ more) step = derived-later form blocks log more step (All-head (IsDerivedAfter form log) step steps derived) in
    let pushed : EachStep form blocks ((log ++ more) ++ step ∷ []) = each_step-push form blocks (log ++ more) step each last in
    let grown : EachStep form blocks (log ++ (more ++ step ∷ [])) = subst (EachStep form blocks) (append_assoc log more (step ∷ [])) pushed in
    let rest : EachStep form blocks ((log ++ (more ++ step ∷ [])) ++ steps) = accepted-behind form blocks log (more ++ step ∷ []) steps grown (All-tail (IsDerivedAfter form log) step steps derived) in
    subst (EachStep form blocks) (ap (λ (front : List Step). front ++ steps) (sym (append_assoc log more (step ∷ []))) ∙ append_assoc (log ++ more) (step ∷ []) steps) rest

-- none of the steps is a block
no-block : (form : List (List Lit)) (log steps : List Step) → All (IsDerivedAfter form log) steps → blocks_in steps ≡ 0
no-block form log [] derived = refl
no-block form log (step ∷ steps) derived =
    let first : IsDerivedAfter form log step = All-head (IsDerivedAfter form log) step steps derived in
    let split : blocks_in (step ∷ steps) ≡ cond (is_block step) 1 0 + blocks_in steps = sum_by-cons (λ (s : Step). cond (is_block s) 1 0) step steps in
    let none = count-false (is_block step) (ap is_block_kind first.kind) in
    let rest = no-block form log steps (All-tail (IsDerivedAfter form log) step steps derived) in
    omega (arith, split, none, rest)

same-blocks : (form : List (List Lit)) (log front steps : List Step) → All (IsDerivedAfter form log) steps → blocks_in (front ++ steps) ≡ blocks_in front
same-blocks form log front steps derived =
    let split : blocks_in (front ++ steps) ≡ blocks_in front + blocks_in steps = sum_by-append (λ (s : Step). cond (is_block s) 1 0) front steps in
    let none = no-block form log steps derived in
    omega (arith, split, none)

-- what a part of a log shows it shows
pub size-grown : (n k : ℕ) (log more : List Step) (size : ℕ) → ShowsSize n k size log → ShowsSize n k size (log ++ more)
size-grown n k log more zero shows = tt
size-grown n k log more (suc j) shows = record { step = shows.step; in_log = Contains-append_left log more shows.step shows.in_log; clause = shows.clause }

pub without-behind : (n k : ℕ) (members : List ℕ) (log steps : List Step) (x : ℕ) → ShowsWithout n k members steps x → ShowsWithout n k members (log ++ steps) x
without-behind n k members log steps x shows = record { step = shows.step; in_log = Contains-append_right log steps shows.step shows.in_log; clause = shows.clause }

pub finished : (of : Certified) → IsAccepted of.form of.blocks (of.log ++ of.more) → IsCertificate of.n of.k of.form of.members of.log of.steps → IsFinished of
finished of accepted certificate = record {
  accepted = record {
    each_step = accepted-behind of.form of.blocks of.log of.more of.steps accepted.each_step certificate.derived;
    every_block = same-blocks of.form of.log (of.log ++ of.more) of.steps certificate.derived ∙ accepted.every_block;
  };
  shows = record {
    size = size-grown of.n of.k (of.log ++ of.more) of.steps (length of.members) (size-grown of.n of.k of.log of.more (length of.members) certificate.size);
    passed = λ x passed. without-behind of.n of.k of.members (of.log ++ of.more) of.steps x (certificate.shows x passed);
  };
}

-- A list whose log shows that no set is missing before the last one is a front.
use Rattle.std.proofs.Common.{◌≡◌, ℕ, zero, suc, ◌+◌, ◌<◌, ◌≤◌, ◌^◌, true, false, List, [], ◌∷◌, length, map, Option, Some, None, refl, ap, sym, ◌∙◌, subst, arith}
use Rattle.std.specs.Prelude.{All, Err, IfOk, IsTrue, Ok, Result, ◌↔◌}
use Rattle.loc_base.specs.declared.memory.NoMemory.{NoMemory}
use Rattle.std.specs.List.Sorted.{IsStrictlyIncreasing}
use Rattle.std.proofs.lemmas.List.Elements.{All-nil}
use Rattle.clause_base.specs.declared.form.Form.{Form}
use Rattle.card_counter.specs.Places.{starts}
use Rattle.front_cert.specs.declared.front.Front.{Front}
use Rattle.front_cert.specs.Unshown.{IsUnshown, MayBeShown, SaysMissing}
use Rattle.clause_base.specs.declared.literal.Lit.{Lit}
use Rattle.clause_base.specs.Acceptance.{Follows}
use Rattle.card_counter.specs.InForm.{HasCounter}
use Rattle.card_counter.specs.Shows.{Shows, last_of}
use Rattle.design_core.specs.Works.{IsSet, Works}
use Rattle.debug_core.specs.Listed.{Encodes, LoggedList}
use Rattle.debug_core.specs.Problems.{IsFormFor, IsProblem, Problem, problem_of, suspect_count, suspects_of}
use Rattle.debug_core.proofs.Certified.{last-or-none}
use Rattle.debug_core.proofs.Given.{given-front}
use Rattle.list_verdict.specs.declared.verdict.Listed.{Listed as Given}
use Rattle.list_verdict.specs.Claims.{CanBeJudged, Claim, claim_of}
use Rattle.list_verdict.specs.Conditions.{AreInOrder, AreRight, NoneHolds, SaysMissingOf, ShowsLast, blocks_for}
use Rattle.list_verdict.specs.Verdicts.{IsFrontList, members_of}
use Rattle.list_verdict.proofs.Asked.{bound-fits, form-counter, form-encodes, suspects-long}
use Rattle.list_verdict.proofs.SetsOf.{all-explained, are-given, blocks-members, each-set, in-order, listed}

module _ (c : Claim) (vars : ℕ) (can : IsProblem c.problem) (form : IsFormFor c.problem vars c.form)
    (follows : Follows c.form (blocks_for c.sets) c.log) (in_order : AreInOrder c) (none : NoneHolds c.sets) (right : AreRight c)
    (shows : ShowsLast c) where
  abbrev p : Problem
  p = c.problem

  abbrev logged : LoggedList
  logged = record { list = listed c in_order right; vars = vars; log = c.log }

  encodes : Encodes (length (suspects_of p)) p.k c.form (Works p.design p.traces (suspects_of p))
  encodes =
      subst (λ n. Encodes n p.k c.form (Works p.design p.traces (suspects_of p))) (sym (suspects-long p))
      (form-encodes p (record { vars = vars; clauses = c.form }) can form)

  pub front-list : IsFrontList c
  front-list = record {
    front = given-front logged encodes (are-given c in_order right none) (record {
      counter = subst (λ n. HasCounter n p.k vars c.form) (sym (suspects-long p))
          (form-counter p (record { vars = vars; clauses = c.form }) can form);
      follows = subst (λ blocks. Follows c.form blocks c.log) (blocks-members c.sets) follows;
      shows = subst (λ n. Shows n p.k (last_of (members_of c.sets)) c.log) (sym (suspects-long p)) shows;
    });
    explained = all-explained c in_order right;
  }

-- ---- whether the log shows it
-- the members of the last set
pub last-set : (c : Claim) → AreInOrder c → IsSet (suspects_of c.problem) (last_of (members_of c.sets)) × (length (last_of (members_of c.sets)) ≤ c.problem.k)
last-set c all =
    last-or-none (λ set. IsSet (suspects_of c.problem) set × (length set ≤ c.problem.k)) (members_of c.sets)
    (record { ascending = λ place within. absurd (omega (arith, within)); numbers = All-nil (λ (m : ℕ). (1 ≤ m) × (m ≤ length (suspects_of c.problem))) }, omega arith)
    (each-set c all (λ set. IsSet (suspects_of c.problem) set × (length set ≤ c.problem.k)) (λ place set there.
    ((in-order c all place set there).suspects, (in-order c all place set there).size)))

pub may-be-shown : (l : Given) (front : Front) → CanBeJudged l → AreInOrder (claim_of l) → front.last.now ≡ last_of (members_of l.sets.now)
    → front.n ≡ suspect_count (problem_of l.question.now) → front.k ≡ l.question.now.k → front.log.now ≡ l.log.now → MayBeShown front
may-be-shown l front can all last n k log =
    let p : Problem = problem_of l.question.now in
    let whole : Form = record { vars = l.plan.now.vars; clauses = l.plan.now.clauses } in
    let set = last-set (claim_of l) all in
    let count : length (suspects_of p) ≡ front.n = suspects-long p ∙ sym n in
    let fits : front.n + 1 + starts front.k (front.n + 1) < 2 ^ 32 =
    subst (λ m. m + 1 + starts front.k (m + 1) < 2 ^ 32) (sym n)
    (subst (λ size. suspect_count p + 1 + starts size (suspect_count p + 1) < 2 ^ 32) (sym k) (bound-fits p whole can.problem can.form)) in
    record {
      ascending = subst IsStrictlyIncreasing (sym last) set.0.ascending;
      members = subst (λ m. All (λ v. (1 ≤ v) × (v ≤ m)) front.last.now) count
          (subst (All (λ v. (1 ≤ v) × (v ≤ length (suspects_of p)))) (sym last) set.0.numbers);
      size = omega (arith, ap length last, set.1, k);
      small = omega (arith, fits);
      variables = omega (arith, fits);
      steps = omega (arith, ap length log, can.few_steps);
    }

-- what is missing of the last set's members by their own name
pub says-missing : (c : Claim) (n : ℕ) (last : List ℕ) → n ≡ suspect_count c.problem → last ≡ last_of (members_of c.sets)
    → (r : Result (Option ℕ) NoMemory) → IfOk r (SaysMissing n c.problem.k last c.log) → IfOk r (SaysMissingOf c)
says-missing c n last same same_last (Err e) says = tt
says-missing c n last same same_last (Ok missing) says =
    subst (λ m. SaysMissing m c.problem.k (last_of (members_of c.sets)) c.log missing) same
    (subst (λ members. SaysMissing n c.problem.k members c.log missing) same_last says)

module _ (c : Claim) where
  abbrev count : ℕ
  count = suspect_count c.problem

  abbrev last : List ℕ
  last = last_of (members_of c.sets)

  pub shown-by : (missing : Option ℕ) → missing ≡ None → SaysMissingOf c missing → ShowsLast c
  shown-by None is says = says
  shown-by (Some x) is says = absurd (cc)

  pub shown-yes : (missing : Option ℕ) → missing ≡ None → SaysMissingOf c missing → IsTrue true ↔ ShowsLast c
  shown-yes missing is says = (λ yes. shown-by missing is says, λ shows. refl)

  unshown : (x : ℕ) → IsUnshown count c.problem.k last c.log x → ¬ ShowsLast c
  unshown zero fails shows = fails shows.size
  unshown (suc y) fails shows = fails.fails (shows.passed (suc y) fails.passed)

  pub missing-unshown : (x : ℕ) → SaysMissingOf c (Some x) → ¬ ShowsLast c
  missing-unshown x says = unshown x says

  pub shown-no : (missing : Option ℕ) (x : ℕ) → missing ≡ Some x → SaysMissingOf c missing → IsTrue false ↔ ShowsLast c
  shown-no None x is says = absurd (cc)
  shown-no (Some y) x is says = (λ no. absurd (cc), λ shows. absurd (missing-unshown y says shows))

-- From the first four conditions to the verdict.
use Rattle.std.proofs.Common.{◌≡◌, ◌⊎◌, inl, inr, ℕ, ◌+◌, ◌-◌, ◌<◌, ◌≤◌, List, length, refl, sym, ap, ◌∙◌, subst, arith}
use Rattle.std.specs.Prelude.{Err, IfOk, Ok, Vec, Result, slice_get}
use Rattle.std.specs.declared.alloc.Global.{Global}
use Rattle.loc_base.specs.declared.memory.NoMemory.{NoMemory}
use Rattle.design_core.specs.declared.values.SetWithValues.{SetWithValues}
use Rattle.clause_base.specs.Acceptance.{IsAcceptedAt, blocks_in}
use Rattle.debug_core.specs.Problems.{IsFormFor, IsProblem}
use Rattle.cycle_sim.specs.declared.miss.Miss.{Miss}
use Rattle.cycle_sim.specs.Misses.{IsLeastMiss, IsMiss, MeetAll}
use Rattle.design_core.specs.declared.values.Values.{Values}
use Rattle.design_core.specs.Explained.{choices_in, is_one_of}
use Rattle.design_core.specs.Run.{Meets}
use Rattle.design_core.specs.Valuation.{Valuation}
use Rattle.design_core.proofs.RunLaws.{run-unique}
use Rattle.list_verdict.specs.declared.fault.ListFault.{ListFault}
use Rattle.list_verdict.specs.declared.fault.ListFault.TheVariants as fault
use Rattle.list_verdict.specs.declared.verdict.Verdict.{Verdict}
use Rattle.list_verdict.specs.declared.verdict.Verdict.TheVariants as verdict
use Rattle.list_verdict.specs.Claims.{Claim}
use Rattle.list_verdict.specs.Conditions.{Closes, IsAcceptedLog, IsFirstRefusedStep, ShowsLast, blocks_for}
use Rattle.list_verdict.specs.Faults.{Examines, IsFault, IsFaultless, verdict_of}
use Rattle.list_verdict.specs.Judging.{Judges}
use Rattle.list_verdict.specs.Verdicts.{IsFrontListIf, IsFrontShown, IsVerdict, IsWhole, IsWholeListIf}
use Rattle.list_verdict.proofs.Fronted.{front-list}
use Rattle.list_verdict.proofs.Whole.{whole-list}

-- ---- the answers
-- an answer that says that the list is neither whole nor a front
abbrev IsNeither : Verdict → Type 0
IsNeither v = (¬ (v ≡ verdict.Whole)) × (¬ (v ≡ verdict.Front))

judges : (c : Claim) (v : Verdict) → IsVerdict c v → IsNeither v → Judges c v
judges c v is neither = record { verdict_is = is; list = λ same. absurd (neither.0 same); front = λ same. absurd (neither.1 same) }

order-neither : (set : ℕ) → IsNeither (verdict.Order set)
order-neither set = (λ same. cc, λ same. cc)

contains-neither : (set other : ℕ) → IsNeither (verdict.Contains set other)
contains-neither set other = (λ same. cc, λ same. cc)

replay-neither : (set : ℕ) (miss : Miss) → IsNeither (verdict.Replay set miss)
replay-neither set miss = (λ same. cc, λ same. cc)

step-neither : (number : ℕ) → IsNeither (verdict.Step number)
step-neither number = (λ same. cc, λ same. cc)

open-neither : IsNeither verdict.Open
open-neither = (λ same. cc, λ same. cc)

whole-front : verdict.Whole ≡ verdict.Front → ⊥
whole-front same = cc

-- where one of the first four fails
fault-judged : (c : Claim) (why : ListFault) → IsFault c why → Judges c (verdict_of why)
fault-judged c (fault.Order set) is = judges c (verdict.Order set) is (order-neither set)
fault-judged c (fault.Contains set other) is = judges c (verdict.Contains set other) is (contains-neither set other)
fault-judged c (fault.Replay set miss) is = judges c (verdict.Replay set miss) is (replay-neither set miss)
fault-judged c (fault.Step number) is = judges c (verdict.Step number) is (step-neither number)

-- where all four hold
module _ (c : Claim) (vars : ℕ) (can : IsProblem c.problem) (form : IsFormFor c.problem vars c.form) (holds : IsFaultless c) where
  pub whole-of : Closes c → Judges c verdict.Whole
  whole-of closes =
      let whole : IsWhole c =
      record { in_order = holds.in_order; none_holds = holds.none_holds; right = holds.right; accepted = holds.accepted; closes = closes } in
      record { verdict_is = whole; list = λ same. whole-list c vars can form holds.follows whole; front = λ same. absurd (whole-front same) }

  pub front-of : ¬ Closes c → ShowsLast c → Judges c verdict.Front
  front-of unclosed shows = record {
    verdict_is = (holds.in_order, holds.none_holds, holds.right, holds.accepted, unclosed, shows);
    list = λ same. absurd (whole-front (sym same));
    front = λ same. front-list c vars can form holds.follows holds.in_order holds.none_holds holds.right shows;
  }

  pub open-of : ¬ Closes c → ¬ ShowsLast c → Judges c verdict.Open
  open-of unclosed unshown =
      judges c verdict.Open (holds.in_order, holds.none_holds, holds.right, holds.accepted, unclosed, unshown) open-neither

-- ---- of what was examined
ok-err : (v : Vec SetWithValues Global) (why : ListFault) → Ok v ≡ Err why → ⊥
ok-err v why e = cc

err-ok : (v : Vec SetWithValues Global) (why : ListFault) → Err why ≡ Ok v → ⊥
err-ok v why e = cc

err-same : (r : Result (Vec SetWithValues Global) ListFault) (one other : ListFault) → r ≡ Err one → r ≡ Err other → one ≡ other
err-same r one other e f = cc

pub holds-of : (c : Claim) (r : Result (Vec SetWithValues Global) ListFault) (found : Vec SetWithValues Global) → r ≡ Ok found → Examines c r
    → IsFaultless c
holds-of c (Ok v) found is says = says.0
holds-of c (Err why) found is says = absurd (err-ok found why is)

pub fails-of : (c : Claim) (r : Result (Vec SetWithValues Global) ListFault) (why : ListFault) (v : Verdict) → r ≡ Err why → v ≡ verdict_of why
    → Examines c r → Judges c v
fails-of c (Ok found) why v is same says = absurd (ok-err found why is)
fails-of c (Err other) why v is same says =
    subst (Judges c) (sym same) (fault-judged c why (subst (IsFault c) (err-same (Err other) other why refl is) says))

pub judged-verdict : (c : Claim) (r : Result Verdict NoMemory) → IfOk r (Judges c) → IfOk r (IsVerdict c)
judged-verdict c (Ok v) is = is.verdict_is
judged-verdict c (Err e) is = tt

pub judged-list : (c : Claim) (r : Result Verdict NoMemory) → IfOk r (Judges c) → IfOk r (IsWholeListIf c)
judged-list c (Ok v) is = is.list
judged-list c (Err e) is = tt

pub judged-front : (c : Claim) (r : Result Verdict NoMemory) → IfOk r (Judges c) → IfOk r (IsFrontListIf c)
judged-front c (Ok v) is = is.front
judged-front c (Err e) is = tt

pub ruleset judge_rules = (judged-verdict, judged-list, judged-front, holds-of, fails-of)

-- ---- where all conditions hold, the answer is that they do
-- where the values miss, not every trace is right
pub misses-not : (c : Claim) → IsProblem c.problem → (values : Values) (miss : Miss) → IsLeastMiss c.problem.design c.problem.traces values miss
    → MeetAll c.problem.design c.problem.traces values → ⊥
misses-not c can values miss least right =
    let d = c.problem.design in
    let m : IsMiss c.problem.design c.problem.traces values miss = least.misses in
    let freed = is_one_of values.places.items in
    let choices = choices_in c.problem.traces values miss.trace in
    let meets : Meets c.problem.design m.trace (is_one_of values.places.items) (choices_in c.problem.traces values miss.trace) =
    right miss.trace m.trace m.is_trace in
    let same : m.misses.run ≡ meets.0 =
    run-unique d c.problem.order can.well_formed can.ordered m.trace freed choices m.misses.run meets.0 m.misses.is_run meets.1 in
    m.misses.wrong (λ b mask.
    meets.2 miss.cycle m.misses.values (ap (λ (r : List Valuation). slice_get r miss.cycle) (sym same) ∙ m.misses.in_cycle) miss.output
    m.misses.output m.misses.checked b m.misses.is_output m.misses.is_checked mask)

-- where a step is refused, the log isn't accepted
pub accepted-not : (c : Claim) (number : ℕ) → IsFirstRefusedStep c number → IsAcceptedLog c → ⊥
accepted-not c number refused accepted = at refused.refused
  where
    at : ((number ≤ length c.log) × ¬ (IsAcceptedAt c.form (blocks_for c.sets) c.log (number - 1)))
        ⊎ ((number ≡ length c.log + 1) × (blocks_in c.log < length (blocks_for c.sets))) → ⊥
    at (inl (within, fails)) = fails (accepted.each_step (number - 1) (omega (arith, within, refused.counted)))
    at (inr (last, more)) = omega (arith, more, accepted.every_block)

pub only-whole : (c : Claim) (v : Verdict) → IsProblem c.problem → IsWhole c → IsVerdict c v → v ≡ verdict.Whole
only-whole c verdict.Whole can whole is = refl
only-whole c (verdict.Order set) can whole is = absurd (is.fails (whole.in_order set is.set is.is_set))
only-whole c (verdict.Contains set other) can whole (in_order, first) = absurd (whole.none_holds set other first.holds)
only-whole c (verdict.Replay set miss) can whole (in_order, none, first) =
    absurd (misses-not c can first.values miss first.misses (whole.right set first.set first.is_set first.values first.are_its))
only-whole c (verdict.Step number) can whole (in_order, none, right, refused) = absurd (accepted-not c number refused whole.accepted)
only-whole c verdict.Front can whole (in_order, none, right, accepted, unclosed, shows) = absurd (unclosed whole.closes)
only-whole c verdict.Open can whole (in_order, none, right, accepted, unclosed, unshown) = absurd (unclosed whole.closes)

-- where the log shows a front, the answer is that, or that the list is whole
pub only-front : (c : Claim) (v : Verdict) → IsProblem c.problem → IsFrontShown c → IsVerdict c v → (v ≡ verdict.Whole) ⊎ (v ≡ verdict.Front)
only-front c verdict.Whole can shown is = inl refl
only-front c verdict.Front can shown is = inr refl
only-front c (verdict.Order set) can shown is = absurd (is.fails (shown.in_order set is.set is.is_set))
only-front c (verdict.Contains set other) can shown (in_order, first) = absurd (shown.none_holds set other first.holds)
only-front c (verdict.Replay set miss) can shown (in_order, none, first) =
    absurd (misses-not c can first.values miss first.misses (shown.right set first.set first.is_set first.values first.are_its))
only-front c (verdict.Step number) can shown (in_order, none, right, refused) = absurd (accepted-not c number refused shown.accepted)
only-front c verdict.Open can shown (in_order, none, right, accepted, unclosed, unshown) = absurd (unshown shown.shows)

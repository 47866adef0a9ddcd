-- From the first four conditions to the first of them that fails.
use Rattle.std.proofs.Common.{◌≡◌, ℕ, ◌+◌, ◌<◌, ◌≤◌, List, length, get_or, Some, refl, sym, subst}
use Rattle.std.specs.Prelude.{All, Err, IfOk, None, Ok, Option, Vec, Result}
use Rattle.std.specs.declared.alloc.Global.{Global}
use Rattle.loc_base.specs.declared.memory.NoMemory.{NoMemory}
use Rattle.list_verdict.specs.declared.order.Order.{Order}
use Rattle.list_verdict.specs.declared.order.Order.TheVariants as order
use Rattle.list_verdict.specs.declared.fault.ListFault.{ListFault}
use Rattle.list_verdict.specs.declared.fault.ListFault.TheVariants as fault
use Rattle.design_core.specs.declared.values.SetWithValues.{SetWithValues}
use Rattle.proof_check.specs.declared.claim.BadStep.{BadStep}
use Rattle.std.proofs.lemmas.List.Elements.{All-map}
use Rattle.clause_base.specs.Literal.{AreWithin, IsWithin}
use Rattle.report_doc.specs.declared.types.ReportSet.{ReportSet}
use Rattle.set_enum.specs.Sets.{block_of}
use Rattle.debug_core.specs.Problems.{IsProblem, suspect_count}
use Rattle.cycle_sim.specs.declared.miss.Miss.{Miss}
use Rattle.cycle_sim.specs.Misses.{FirstToMiss}
use Rattle.cycle_sim.specs.Simulated.{IsSimulable}
use Rattle.list_verdict.specs.Claims.{Claim}
use Rattle.list_verdict.specs.Conditions.{AreInOrder, AreRight, IsFirstOutOfOrder, IsFirstRefusedStep, IsFirstToMiss, NoneHolds, blocks_for}
use Rattle.list_verdict.specs.Faults.{AreFound, Examines, IsFault, IsFaultless}
use Rattle.list_verdict.specs.Judging.{FirstToHold, LogSays, Orders, SaysFault, ValuesSay}
use Rattle.list_verdict.specs.declared.holding.Holding.{Holding}
use Rattle.list_verdict.proofs.Asked.{simulable, suspects-long}
use Rattle.list_verdict.proofs.Logs.{block-within}
use Rattle.list_verdict.proofs.Ordered.{got-itself, set-at}
use Rattle.list_verdict.proofs.Replayed.{all-right, first-misses, miss-within}

-- the blocks are over the suspects' variables
pub blocks-within : (c : Claim) (vars : ℕ) → suspect_count c.problem ≤ vars → AreInOrder c → AreWithin vars (blocks_for c.sets)
blocks-within c vars few all =
    All-map (IsWithin vars) (λ (set : ReportSet). block_of set.members) c.sets (λ k d low.
    let set = get_or c.sets k d in
    block-within vars (suspect_count c.problem) set.members few
    (subst (λ n. All (λ m. (1 ≤ m) × (m ≤ n)) set.members) (suspects-long c.problem)
    (all (k + 1) set (set-at c.sets k set (got-itself c.sets k d low))).suspects.numbers))

-- ---- what is said
pub values-say : (c : Claim) (can : IsProblem c.problem) (found : List SetWithValues) (are : AreFound c (length c.sets) found)
    (r : Result (Option (ℕ × Miss)) NoMemory)
    → IfOk r (λ answer. IsSimulable c.problem.design c.problem.order → FirstToMiss c.problem.design c.problem.traces found 0 (length found) answer)
    → IfOk r (ValuesSay c)
values-say c can found are (Ok None) says = all-right c can found are (says (simulable c.problem can))
values-say c can found are (Ok (Some (place, miss))) says = (
  miss-within c can found are place miss (says (simulable c.problem can)),
  first-misses c can found are place (place + 1) miss (says (simulable c.problem can)) refl,
)
values-say c can found are (Err e) says = tt

-- ---- options
some-same : {X : Type 0} (x y : X) → Some x ≡ Some y → x ≡ y
some-same x y e = cc

none-some : {X : Type 0} (x : X) → None ≡ Some x → ⊥
none-some x e = cc

some-none : {X : Type 0} (x : X) → Some x ≡ None → ⊥
some-none x e = cc

-- ---- the log
pub step-of : (c : Claim) (o : Option BadStep) (bad : BadStep) → o ≡ Some bad → LogSays c o → AreInOrder c → NoneHolds c.sets → AreRight c
    → SaysFault c (Some (fault.Step bad.n))
step-of c None bad is says in_order none right = absurd (none-some bad is)
step-of c (Some found) bad is says in_order none right =
    (in_order, none, right, subst (λ (b : BadStep). IsFirstRefusedStep c b.n) (some-same found bad is) says)

pub faultless-of : (c : Claim) (o : Option BadStep) → o ≡ None → LogSays c o → AreInOrder c → NoneHolds c.sets → AreRight c → SaysFault c None
faultless-of c (Some found) is says in_order none right = absurd (some-none found is)
faultless-of c None is says in_order none right =
    record { in_order = in_order; none_holds = none; right = right; accepted = says.0; follows = says.1 }

pub ruleset log_rules = (step-of, faultless-of)

-- ---- the values
pub replay-of : (c : Claim) (o : Option (ℕ × Miss)) (place set : ℕ) (miss : Miss) → o ≡ Some (place, miss) → ValuesSay c o → set ≡ place + 1
    → AreInOrder c → NoneHolds c.sets → SaysFault c (Some (fault.Replay set miss))
replay-of c None place set miss is says next in_order none = absurd (none-some (place, miss) is)
replay-of c (Some (p, m)) place set miss is says next in_order none =
    let one : ℕ × Miss = (p, m) in
    let other : ℕ × Miss = (place, miss) in (
      in_order,
      none,
      subst (λ n. IsFirstToMiss c n miss) (sym next)
          (subst (λ (x : ℕ × Miss). IsFirstToMiss c (x.0 + 1) x.1) (some-same one other is) says.1),
    )

pub right-of : (c : Claim) (o : Option (ℕ × Miss)) → o ≡ None → ValuesSay c o → AreRight c
right-of c (Some found) is says = absurd (some-none found is)
right-of c None is says = says

pub place-of : (c : Claim) (o : Option (ℕ × Miss)) (place : ℕ) (miss : Miss) → o ≡ Some (place, miss) → ValuesSay c o → place < length c.sets
place-of c None place miss is says = absurd (none-some (place, miss) is)
place-of c (Some (p, m)) place miss is says =
    let one : ℕ × Miss = (p, m) in
    let other : ℕ × Miss = (place, miss) in
    subst (λ (x : ℕ × Miss). x.0 < length c.sets) (some-same one other is) says.0

pub ruleset values_rules = (replay-of, right-of, place-of)

-- ---- sets that hold others
pub contains-of : (c : Claim) (holding : Holding) → AreInOrder c → FirstToHold c.sets (Some holding)
    → SaysFault c (Some (fault.Contains holding.set holding.other))
contains-of c holding in_order first = (in_order, first)

pub ruleset sets_rules = (contains-of)

-- ---- sets with their values
pub fault-of : (c : Claim) (o : Option ListFault) (why : ListFault) → o ≡ Some why → SaysFault c o → IsFault c why
fault-of c None why is says = absurd (none-some why is)
fault-of c (Some found) why is says = subst (IsFault c) (some-same found why is) says

pub none-of : (c : Claim) (o : Option ListFault) (found : Vec SetWithValues Global) → o ≡ None → SaysFault c o
    → AreFound c (length c.sets) found.items → Examines c (Ok found)
none-of c (Some why) found is says are = absurd (some-none why is)
none-of c None found is says are = (says, are)

pub ruleset found_rules = (fault-of, none-of)

-- ---- sets in order
in-out : (v : Vec SetWithValues Global) (set : ℕ) → order.In v ≡ order.OutOf set → ⊥
in-out v set e = cc

out-in : (v : Vec SetWithValues Global) (set : ℕ) → order.OutOf set ≡ order.In v → ⊥
out-in v set e = cc

in-same : (v w : Vec SetWithValues Global) → order.In v ≡ order.In w → v ≡ w
in-same v w e = cc

out-same : (m n : ℕ) → order.OutOf m ≡ order.OutOf n → m ≡ n
out-same m n e = cc

pub in-order-of : (c : Claim) (o : Order) (found : Vec SetWithValues Global) → o ≡ order.In found → Orders c o → AreInOrder c
in-order-of c (order.In v) found is says = says.0
in-order-of c (order.OutOf set) found is says = absurd (out-in found set is)

pub found-of : (c : Claim) (o : Order) (found : Vec SetWithValues Global) → o ≡ order.In found → Orders c o
    → AreFound c (length c.sets) found.items
found-of c (order.In v) found is says =
    subst (λ (x : Vec SetWithValues Global). AreFound c (length c.sets) x.items) (in-same v found is) says.1
found-of c (order.OutOf set) found is says = absurd (out-in found set is)

pub out-of : (c : Claim) (o : Order) (set : ℕ) → o ≡ order.OutOf set → Orders c o → IsFault c (fault.Order set)
out-of c (order.In v) set is says = absurd (in-out v set is)
out-of c (order.OutOf found) set is says = subst (IsFirstOutOfOrder c) (out-same found set is) says

pub ruleset examine_rules = (in-order-of, found-of, out-of)

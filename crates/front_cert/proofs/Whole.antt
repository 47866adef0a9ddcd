-- From what was seen of a whole log to what it shows.
use Rattle.std.proofs.Common.{◌≡◌, inl, inr, ℕ, zero, suc, ◌+◌, ◌-◌, ◌<◌, ◌≤◌, Bool, true, false, List, [], length, get_or, Option, Some, None}
use Rattle.std.proofs.Common.{ap, sym, ◌∙◌, subst, arith}
use Rattle.std.specs.Prelude.{Contains}
use Rattle.std.specs.List.Sorted.{IsStrictlyIncreasing}
use Rattle.std.proofs.lemmas.Bool.{both_ways, false_from_ne_true}
use Rattle.std.proofs.lemmas.List.{get_or_default}
use Rattle.std.proofs.lemmas.Option.{slice_get_within, get_or_from_slice_get}
use Rattle.loc_base.proofs.ShelfLists.{Contains-at, Contains-place, slice_get-at}
use Rattle.clause_base.specs.declared.literal.Lit.{Lit}
use Rattle.clause_base.specs.declared.log.Step.{Step}
use Rattle.clause_base.specs.Counted.{IsPassedOver}
use Rattle.clause_base.specs.Steps.{no_step, step_at}
use Rattle.front_cert.specs.declared.seen.Seen.{Seen}
use Rattle.front_cert.specs.Reaches.{AllShown, IsFirstUnseen, IsSeen, SaysUnseen, SomeBetween, greatest, is_alone, is_in, is_shown, shows_absent}
use Rattle.card_counter.specs.Shows.{Shows, ShowsAlone, ShowsSize, ShowsWithout, bound_of}
use Rattle.front_cert.specs.Unshown.{IsUnshown, SaysMissing}
use Rattle.front_cert.proofs.Tests.{absent-means, alone-means, is-member, means-absent, means-alone, member-is}

-- ---- members that ascend
rises : (members : List ℕ) → IsStrictlyIncreasing members → (more place : ℕ) → place + more < length members → get_or members place 0 ≤ get_or members (place + more) 0
rises members ascending zero place within = let same : place ≡ place + 0 = omega arith in omega (arith, ap (λ (p : ℕ). get_or members p 0) same)
rises members ascending (suc more) place within =
    let before = rises members ascending more place (omega (arith, within)) in
    let step = ascending (place + more) (omega (arith, within)) in
    let same : place + more + 1 ≡ place + suc more = omega arith in
    omega (arith, before, step, ap (λ (p : ℕ). get_or members p 0) same)

member-least : (members : List ℕ) → IsStrictlyIncreasing members → (m : ℕ) → Contains members m → m ≤ greatest members
member-least members ascending m member =
    let place = member.0 in
    let within : place < length members = member.1 in
    let last : place + (length members - 1 - place) ≡ length members - 1 = omega (arith, within) in
    let most = rises members ascending (length members - 1 - place) place (omega (arith, within, last)) in
    let is : get_or members place 0 ≡ m = get_or_default members place 0 m within ∙ member.2 in
    omega (arith, most, is, ap (λ (p : ℕ). get_or members p 0) last)

last-member : (members : List ℕ) → 0 < length members → Contains members (greatest members)
last-member members some =
    (length members - 1, omega (arith, some), get_or_default members (length members - 1) (greatest members) 0 (omega (arith, some)))

-- the suspects that are passed over are those below the greatest member that aren't members
pub passed-below : (members : List ℕ) → IsStrictlyIncreasing members → (x : ℕ) → IsPassedOver members x → x < greatest members
passed-below members ascending x passed =
    let (m, member, less) = passed.greater in
    omega (arith, less, member-least members ascending m member)

pub passed-outside : (members : List ℕ) (x : ℕ) → IsPassedOver members x → is_in members x ≡ false
passed-outside members x passed = false_from_ne_true (is_in members x) (λ is. passed.no_member (is-member members x is))

pub below-passed : (members : List ℕ) → 0 < length members → (x : ℕ) → 0 < x → x < greatest members → is_in members x ≡ false → IsPassedOver members x
below-passed members some x counted within outside = record {
  suspect = omega (arith, counted);
  no_member = λ member. both_ways (is_in members x) outside (member-is members x member);
  greater = (greatest members, last-member members some, within);
}

-- ---- steps of a whole log
step-there : (log : List Step) (place : ℕ) → place < length log → Contains log (step_at log place)
step-there log place within =
    Contains-at log place (step_at log place) (slice_get-at log place (step_at log place) within (get_or_default log place no_step (step_at log place) within))

module _ (test : List Lit → Bool) (log : List Step) where
  there-between : (step : Step) → Contains log step → test step.clause ≡ true → SomeBetween test log 0 (length log)
  there-between step member passes =
      let (place, at) = Contains-place log step member in
      record {
        place = place;
        low = omega arith;
        high = slice_get_within log place step at;
        passes = ap (λ (s : Step). test s.clause) (get_or_from_slice_get log place step no_step at) ∙ passes;
      }

-- some step's clause is the bound alone
between-alone : (bound : Option Lit) (log : List Step) → SomeBetween (is_alone bound) log 0 (length log) → ShowsAlone bound log
between-alone bound log some = record {
  step = step_at log some.place;
  in_log = step-there log some.place some.high;
  clause = alone-means bound (step_at log some.place).clause some.passes;
}

alone-between : (bound : Option Lit) (log : List Step) → ShowsAlone bound log → SomeBetween (is_alone bound) log 0 (length log)
alone-between bound log shows = there-between (is_alone bound) log shows.step shows.in_log (means-alone bound shows.step.clause shows.clause)

size-least : (n k : ℕ) (log : List Step) (size : ℕ) → 0 < size → ShowsSize n k size log → ShowsAlone (bound_of n k (size - 1)) log
size-least n k log zero some shows = absurd (omega (arith, some))
size-least n k log (suc j) some shows = let same : j ≡ suc j - 1 = omega arith in subst (λ (i : ℕ). ShowsAlone (bound_of n k i) log) same shows

least-size : (n k : ℕ) (log : List Step) (size : ℕ) → 0 < size → ShowsAlone (bound_of n k (size - 1)) log → ShowsSize n k size log
least-size n k log zero some shows = tt
least-size n k log (suc j) some shows = let same : suc j - 1 ≡ j = omega arith in subst (λ (i : ℕ). ShowsAlone (bound_of n k i) log) same shows

module _ (n k : ℕ) (members : List ℕ) (log : List Step) (seen : Seen) (some : 0 < length members) (ascending : IsStrictlyIncreasing members)
    (is : IsSeen members (bound_of n k (length members - 1)) (bound_of n k (length members)) log 0 (length log) seen) where
  abbrev more : Option Lit
  more = bound_of n k (length members)

  size-shown : seen.alone ≡ true → ShowsSize n k (length members) log
  size-shown is_so = least-size n k log (length members) some (between-alone (bound_of n k (length members - 1)) log (is.alone.0 is_so))

  shown-size : ShowsSize n k (length members) log → seen.alone ≡ true
  shown-size shows = is.alone.1 (alone-between (bound_of n k (length members - 1)) log (size-least n k log (length members) some shows))

  without-shown : (x : ℕ) → IsPassedOver members x → is_shown seen x ≡ true → ShowsWithout n k members log x
  without-shown x passed is_so =
      let some : SomeBetween (shows_absent members more x) log 0 (length log) =
      (is.shown x (omega (arith, passed.suspect)) (passed-below members ascending x passed) (passed-outside members x passed)).0 is_so in
      record {
        step = step_at log some.place;
        in_log = step-there log some.place some.high;
        clause = absent-means members more x (step_at log some.place).clause some.passes;
      }

  shown-without : (x : ℕ) → IsPassedOver members x → ShowsWithout n k members log x → is_shown seen x ≡ true
  shown-without x passed shows =
      (is.shown x (omega (arith, passed.suspect)) (passed-below members ascending x passed) (passed-outside members x passed)).1
      (there-between (shows_absent members more x) log shows.step shows.in_log (means-absent members more x shows.step.clause shows.clause))

  shown-below : (x : ℕ) → AllShown members seen x → (y : ℕ) → y < x → IsPassedOver members y → ShowsWithout n k members log y
  shown-below x all y less passed = without-shown y passed (all y (omega (arith, passed.suspect)) less (passed-outside members y passed))

  missing-size : (x : ℕ) → x ≡ 0 → seen.alone ≡ false → IsUnshown n k members log x
  missing-size x zeroth not_so = subst (IsUnshown n k members log) (sym zeroth) (λ shows. both_ways seen.alone not_so (shown-size shows))

  missing-least : (x : ℕ) → seen.alone ≡ true → IsFirstUnseen members seen x → IsUnshown n k members log x
  missing-least zero is_so first = absurd (omega (arith, first.some))
  missing-least (suc y) is_so first = record {
    size = size-shown is_so;
    passed = passed;
    fails = λ shows. both_ways (is_shown seen (suc y)) first.unseen (shown-without (suc y) passed shows);
    before = shown-below (suc y) first.before;
  }
    where
      passed : IsPassedOver members (suc y)
      passed = below-passed members some (suc y) first.some (omega (arith, first.within, is.room)) first.no_member

  -- what is said to be missing is
  pub says-missing : (missing : Option ℕ) → SaysUnseen members seen missing → SaysMissing n k members log missing
  says-missing None says = record {
    size = size-shown says.0;
    passed = λ x passed. shown-below (length seen.only.items) says.1 x (omega (arith, passed-below members ascending x passed, is.room)) passed;
  }
  says-missing (Some x) says = (elim says [ inl not_so ↦ missing-size x not_so.0 not_so.1 | inr found ↦ missing-least x found.0 found.1 ])

-- of no set nothing is to be shown
pub none-missing : (n k : ℕ) (log : List Step) → Shows n k [] log
none-missing n k log = record {
  size = tt;
  passed = λ x passed. absurd (nothing x passed);
}
  where
    nothing : (x : ℕ) → IsPassedOver [] x → ⊥
    nothing x passed = let (m, member, less) = passed.greater in omega (arith, member.1)

pub empty-missing : (n k : ℕ) (members : List ℕ) (log : List Step) → members ≡ [] → SaysMissing n k members log None
empty-missing n k members log is = subst (λ (ms : List ℕ). Shows n k ms log) (sym is) (none-missing n k log)

-- the same of a target and an answer
pub answers-missing : (n k : ℕ) (members of : List ℕ) (log : List Step) (least more : Option Lit) (seen : Seen) (missing : Option ℕ)
    → 0 < length members → IsStrictlyIncreasing members → of ≡ members
    → least ≡ bound_of n k (length members - 1) → more ≡ bound_of n k (length members)
    → IsSeen of least more log 0 (length log) seen → SaysUnseen members seen missing → SaysMissing n k members log missing
answers-missing n k members of log least more seen missing some ascending same least_is more_is is says =
    says-missing n k members log seen some ascending
    (subst (λ (l : Option Lit). IsSeen members l (bound_of n k (length members)) log 0 (length log) seen) least_is
    (subst (λ (m : Option Lit). IsSeen members least m log 0 (length log) seen) more_is
    (subst (λ (ms : List ℕ). IsSeen ms least more log 0 (length log) seen) same is)))
    missing says

pub ruleset whole_rules = (answers-missing, empty-missing)

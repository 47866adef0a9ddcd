-- From the conditions to what is taken up.
use Rattle.std.proofs.Common.{◌≡◌, ℕ, suc, ◌+◌, List, [], ◌∷◌, length, map, Some, refl, sym, ap₂, subst, arith}
use Rattle.std.specs.Prelude.{Err, None, Ok, Option, Result, Vec, slice_get}
use Rattle.std.specs.List.{AllZip}
use Rattle.std.specs.declared.alloc.Global.{Global}
use Rattle.design_core.specs.declared.values.SetWithValues.{SetWithValues}
use Rattle.design_core.specs.Explained.{AreValuesOf, Explains}
use Rattle.clause_base.specs.declared.literal.Lit.{Lit}
use Rattle.clause_base.specs.Acceptance.{IsAccepted}
use Rattle.set_enum.specs.EnumState.{AreChainless}
use Rattle.report_doc.specs.declared.types.ReportSet.{ReportSet}
use Rattle.report_sets.proofs.Saying.{written-explains}
use Rattle.refusal.specs.declared.last_line.LastLine.{LastLine}
use Rattle.refusal.specs.declared.last_line.LastLine.TheVariants.{Line, Memory}
use Rattle.refusal.specs.Ends.{HasCause, Says}
use Rattle.debug_core.specs.Problems.{IsProblem, suspects_of}
use Rattle.debug_core.specs.Sessions.{IsSession}
use Rattle.list_verdict.specs.declared.fault.ListFault.{ListFault}
use Rattle.list_verdict.specs.declared.fault.ListFault.TheVariants as fault
use Rattle.list_verdict.specs.Claims.{Claim}
use Rattle.list_verdict.specs.Conditions.{AreRight, SaysMissingOf, ShowsLast}
use Rattle.list_verdict.specs.Faults.{AreFound, Examines, IsFault, IsFaultless, IsFound}
use Rattle.list_verdict.specs.Verdicts.{IsFrontShown, members_of}
use Rattle.list_verdict.proofs.Fronted.{missing-unshown, shown-by}
use Rattle.list_verdict.proofs.Judged.{accepted-not, misses-not}
use Rattle.list_verdict.proofs.Ordered.{set-at}
use Rattle.list_verdict.proofs.SetsOf.{are-given, blocks-members}
use Rattle.list_session.specs.declared.unfit.Unfit.{Unfit}
use Rattle.list_session.specs.declared.unfit.Unfit.TheVariants as unfit
use Rattle.list_session.specs.Parts.{unfit_of}
use Rattle.list_session.specs.Taken.{IsTakenSet, IsTakenUp, TakesUp}
use Rattle.list_session.specs.Unfit as unfit_specs
use Rattle.list_session.specs.Unfit.{IsUnfit, UnfitRefused, unfit_line}

-- ---- a fit list is a session
pub fit-session : (c : Claim) → IsFrontShown c → AreChainless c.log → IsSession c.problem c.form (members_of c.sets) c.log
fit-session c fit chainless = record {
  given = are-given c fit.in_order fit.right fit.none_holds;
  accepted = subst (λ (blocks : List (List Lit)). IsAccepted c.form blocks c.log) (blocks-members c.sets) fit.accepted;
  chainless = chainless;
  shows = fit.shows;
}

-- ---- its sets
taken-set : (c : Claim) → AreRight c → (place : ℕ) (set : ReportSet) (found : SetWithValues) → slice_get c.sets place ≡ Some set
    → IsFound c place set found → IsTakenSet c set found
taken-set c right place set found there is = record {
  members = is.members;
  texts = is.values;
  rows = subst (λ members. AreValuesOf c.problem.design c.problem.traces (suspects_of c.problem) members found.values) (sym is.members)
      is.values.rows;
  explains = subst (λ members. Explains c.problem.design c.problem.traces (suspects_of c.problem) members found.values) (sym is.members)
      (written-explains c.problem.design c.problem.traces (suspects_of c.problem) set found.values is.values
      (right (place + 1) set (set-at c.sets place set there) found.values is.values));
}

-- what holds place by place holds of both lists
zip-each : {X Y : Type 0} (R : X → Y → Type 0) (xs : List X) (ys : List Y) → length ys ≡ length xs
    → ((place : ℕ) (x : X) (y : Y) → slice_get xs place ≡ Some x → slice_get ys place ≡ Some y → R x y) → AllZip R xs ys
zip-each R [] [] long each = tt
zip-each R [] (y ∷ ys) long each = absurd (omega (arith, long))
zip-each R (x ∷ xs) [] long each = absurd (omega (arith, long))
zip-each R (x ∷ xs) (y ∷ ys) long each =
    (each 0 x y refl refl, zip-each R xs ys (omega (arith, long)) (λ place a b there here. each (suc place) a b there here))

taken-sets : (c : Claim) → AreRight c → (found : List SetWithValues) → AreFound c (length c.sets) found → AllZip (IsTakenSet c) c.sets found
taken-sets c right found are =
    zip-each (IsTakenSet c) c.sets found are.long (λ place set f there here. taken-set c right place set f there (are.each place set f there here))

-- their members are the report's
pub taken-members : (c : Claim) (sets : List ReportSet) (found : List SetWithValues) → AllZip (IsTakenSet c) sets found
    → map (λ set. set.members) found ≡ members_of sets
taken-members c [] [] are = refl
taken-members c [] (f ∷ found) are = absurd are
taken-members c (set ∷ sets) [] are = absurd are
taken-members c (set ∷ sets) (f ∷ found) (is, are) =
    ap₂ (λ (one : List ℕ) (rest : List (List ℕ)). one ∷ rest) is.members (taken-members c sets found are)

taken-up : (c : Claim) (found : List SetWithValues) → IsFaultless c → AreFound c (length c.sets) found → ShowsLast c → AreChainless c.log
    → IsTakenUp c found
taken-up c found holds are shows chainless =
    let fit : IsFrontShown c = record {
      in_order = holds.in_order;
      none_holds = holds.none_holds;
      right = holds.right;
      accepted = holds.accepted;
      shows = shows;
    } in
    let sets : AllZip (IsTakenSet c) c.sets found = taken-sets c holds.right found are in
    record {
      fit = fit;
      session = subst (λ (sets : List (List ℕ)). IsSession c.problem c.form sets c.log) (sym (taken-members c c.sets found sets))
          (fit-session c fit chainless);
      sets = sets;
    }

-- ---- what the log shows
pub shown-taken : (c : Claim) (o : Option ℕ) (found : Vec SetWithValues Global) → o ≡ None → SaysMissingOf c o → IsFaultless c
    → AreFound c (length c.sets) found.items → AreChainless c.log → TakesUp c (Ok found)
shown-taken c o found is says holds are chainless = taken-up c found.items holds are (shown-by c o is says) chainless

some-same : {X : Type 0} (x y : X) → Some x ≡ Some y → x ≡ y
some-same x y e = cc

pub unshown-unfit : (c : Claim) (o : Option ℕ) (x : ℕ) → o ≡ Some x → SaysMissingOf c o → IsFaultless c → TakesUp c (Err (unfit.Shown x))
unshown-unfit c None x is says holds = absurd (cc)
unshown-unfit c (Some y) x is says holds =
    (holds.in_order, holds.none_holds, holds.right, holds.accepted, subst (λ n. SaysMissingOf c (Some n)) (some-same y x is) says)

pub ruleset shown_rules = (unshown-unfit)

-- ---- what was examined
fault-unfit : (c : Claim) (why : ListFault) → IsFault c why → IsUnfit c (unfit_of why)
fault-unfit c (fault.Order set) is = is
fault-unfit c (fault.Contains set other) is = is
fault-unfit c (fault.Replay set miss) is = is
fault-unfit c (fault.Step number) is = is

err-same : (r : Result (Vec SetWithValues Global) ListFault) (one other : ListFault) → r ≡ Err one → r ≡ Err other → one ≡ other
err-same r one other e f = cc

ok-err : (found : Vec SetWithValues Global) (why : ListFault) → Ok found ≡ Err why → ⊥
ok-err found why e = cc

err-ok : (found : Vec SetWithValues Global) (why : ListFault) → Err why ≡ Ok found → ⊥
err-ok found why e = cc

ok-same : (r : Result (Vec SetWithValues Global) ListFault) (one other : Vec SetWithValues Global) → r ≡ Ok one → r ≡ Ok other → one ≡ other
ok-same r one other e f = cc

pub holds-of : (c : Claim) (r : Result (Vec SetWithValues Global) ListFault) (found : Vec SetWithValues Global) → r ≡ Ok found → Examines c r
    → IsFaultless c
holds-of c (Ok v) found is says = says.0
holds-of c (Err why) found is says = absurd (err-ok found why is)

pub found-of : (c : Claim) (r : Result (Vec SetWithValues Global) ListFault) (found : Vec SetWithValues Global) → r ≡ Ok found → Examines c r
    → AreFound c (length c.sets) found.items
found-of c (Ok v) found is says =
    subst (λ (x : Vec SetWithValues Global). AreFound c (length c.sets) x.items) (ok-same (Ok v) v found refl is) says.1
found-of c (Err why) found is says = absurd (err-ok found why is)

pub fails-of : (c : Claim) (r : Result (Vec SetWithValues Global) ListFault) (why : ListFault) (what : Unfit) → r ≡ Err why
    → what ≡ unfit_of why → Examines c r → TakesUp c (Err what)
fails-of c (Ok found) why what is same says = absurd (ok-err found why is)
fails-of c (Err other) why what is same says =
    subst (IsUnfit c) (sym same) (fault-unfit c why (subst (IsFault c) (err-same (Err other) other why refl is) says))

pub ruleset take_rules = (holds-of, found-of, fails-of)

-- ---- nothing is unfit of a fit list
pub not-unfit : (c : Claim) (what : Unfit) → IsProblem c.problem → IsFrontShown c → ¬ IsUnfit c what
not-unfit c (unfit.Order set) can fit is = is.fails (fit.in_order set is.set is.is_set)
not-unfit c (unfit.Contains set other) can fit (in_order, first) = fit.none_holds set other first.holds
not-unfit c (unfit.Replay set miss) can fit (in_order, none, first) =
    misses-not c can first.values miss first.misses (fit.right set first.set first.is_set first.values first.are_its)
not-unfit c (unfit.Step number) can fit (in_order, none, right, refused) = accepted-not c number refused fit.accepted
not-unfit c (unfit.Shown suspect) can fit (in_order, none, right, accepted, says) = missing-unshown c suspect says fit.shows

-- ---- the line
pub unfit-cause : (c : Claim) (what : Unfit) (last : LastLine) → IsUnfit c what → Says last 3 (unfit_line c.problem.design what)
    → HasCause (UnfitRefused c) last
unfit-cause c what (Line status line) is (same_status, same_line) =
    subst (λ s. UnfitRefused c s line.items) (sym same_status)
    (subst (UnfitRefused c 3) (sym same_line) (unfit_specs.is_unfit what is))
unfit-cause c what Memory is says = tt

-- what was taken up, or why nothing was
pub taken-of : (c : Claim) (answer : Result (Vec SetWithValues Global) Unfit) (found : Vec SetWithValues Global) → answer ≡ Ok found
    → TakesUp c answer → IsTakenUp c found.items
taken-of c answer found is says = subst (TakesUp c) is says

pub why-of : (c : Claim) (answer : Result (Vec SetWithValues Global) Unfit) (what : Unfit) → answer ≡ Err what → TakesUp c answer → IsUnfit c what
why-of c answer what is says = subst (TakesUp c) is says

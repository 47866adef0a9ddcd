-- Sets that are in order: their numbers, one set more, and each comes before all behind it.
use Rattle.std.proofs.Common.{◌≡◌, ◌⊎◌, inl, inr, ℕ, zero, suc, ◌+◌, ◌-◌, ◌<◌, ◌≤◌, true, List, [], ◌∷◌, ◌++◌, length, get_or, Some, refl, sym, ap, ◌∙◌, subst, arith, length-append}
use Rattle.std.specs.Prelude.{All, Err, IfNone, IfOk, IfSome, IsTrue, Ok, Option, None, Result, slice_get}
use Rattle.loc_base.specs.declared.memory.NoMemory.{NoMemory}
use Rattle.std.specs.List.Sorted.{IsStrictlyIncreasing}
use Rattle.std.proofs.lemmas.Bool.{cases_lt}
use Rattle.std.proofs.lemmas.List.{length-map}
use Rattle.std.proofs.lemmas.Option.{slice_get_within}
use Rattle.loc_base.proofs.ShelfLists.{slice_get-some}
use Rattle.design_core.specs.declared.values.SetWithValues.{SetWithValues}
use Rattle.design_core.specs.declared.values.Values.{Values}
use Rattle.loc_base.specs.Sets.{is_before}
use Rattle.suspect_map.specs.declared.group.Group.{Group}
use Rattle.report_doc.specs.declared.types.ReportSet.{ReportSet}
use Rattle.report_sets.specs.Written.{HasValues, IsWritten}
use Rattle.debug_core.specs.Problems.{Problem, suspect_count, suspects_of}
use Rattle.list_verdict.specs.Claims.{Claim, IsSetAt}
use Rattle.list_verdict.specs.Conditions.{AreInOrder, ComesAfter, IsFirstOutOfOrder, IsInOrder}
use Rattle.list_verdict.specs.Faults.{AreFound, IsFound}
use Rattle.list_verdict.specs.Judging.{AreAscending, AreMembers, FoundAt, SaysValues}
use Rattle.list_verdict.proofs.Comparing.{before-trans}

-- ---- lists
got-none : {X : Type 0} (i : ℕ) (x : X) → slice_get [] i ≡ Some x → ⊥
got-none i x there = cc

pub got-same : {X : Type 0} (xs : List X) (i j : ℕ) (x y : X) → slice_get xs i ≡ Some x → slice_get xs j ≡ Some y → i ≡ j → x ≡ y
got-same xs i j x y one other same = inner (sym one ∙ ap (slice_get xs) same ∙ other)
  where
    inner : Some x ≡ Some y → x ≡ y
    inner e = cc

got-front : {X : Type 0} (xs : List X) (y : X) (i : ℕ) (x : X) → slice_get (xs ++ y ∷ []) i ≡ Some x → i < length xs → slice_get xs i ≡ Some x
got-front [] y i x there within = absurd (omega (arith, within))
got-front (z ∷ xs) y zero x there within = there
got-front (z ∷ xs) y (suc i) x there within = got-front xs y i x there (omega (arith, within))

got-last : {X : Type 0} (xs : List X) (y : X) (i : ℕ) (x : X) → slice_get (xs ++ y ∷ []) i ≡ Some x → length xs ≤ i → x ≡ y
got-last [] y zero x there past = inner there
  where
    inner : Some y ≡ Some x → x ≡ y
    inner e = cc
got-last [] y (suc i) x there past = cc
got-last (z ∷ xs) y zero x there past = absurd (omega (arith, past))
got-last (z ∷ xs) y (suc i) x there past = got-last xs y i x there (omega (arith, past))

-- an element at its place
pub got-itself : {X : Type 0} (xs : List X) (k : ℕ) (d : X) → k < length xs → slice_get xs k ≡ Some (get_or xs k d)
got-itself [] k d low = absurd (omega (arith, low))
got-itself (x ∷ xs) zero d low = refl
got-itself (x ∷ xs) (suc k) d low = got-itself xs k d (omega (arith, low))

-- ---- numbers of sets
pub set-at : (sets : List ReportSet) (place : ℕ) (set : ReportSet) → slice_get sets place ≡ Some set → IsSetAt sets (place + 1) set
set-at sets place set there =
    let back : place ≡ place + 1 - 1 = omega arith in
    record { counted = omega arith; is = ap (slice_get sets) (sym back) ∙ there }

pub set-got : (sets : List ReportSet) (place : ℕ) (set : ReportSet) → IsSetAt sets (place + 1) set → slice_get sets place ≡ Some set
set-got sets place set is = let back : place ≡ place + 1 - 1 = omega arith in ap (slice_get sets) back ∙ is.is

-- ---- members
suspects-long : (p : Problem) → length (suspects_of p) ≡ suspect_count p
suspects-long p = length-map p.groups (λ (group : Group). group.places)

pub members-are : (p : Problem) (members : List ℕ) → length members ≤ p.k → IsStrictlyIncreasing members
    → All (λ m. (1 ≤ m) × (m ≤ length p.groups)) members → AreMembers p members
members-are p members few ascending numbers = record {
  suspects = record {
    ascending = ascending;
    numbers = subst (λ n. All (λ m. (1 ≤ m) × (m ≤ n)) members) (sym (suspects-long p)) numbers;
  };
  size = few;
}

pub members-few : (p : Problem) (members : List ℕ) → AreMembers p members → length members ≤ p.k
members-few p members are = are.size

pub members-ascend : (p : Problem) (members : List ℕ) → AreMembers p members → IsStrictlyIncreasing members
members-ascend p members are = are.suspects.ascending

pub members-numbers : (p : Problem) (members : List ℕ) → AreMembers p members → All (λ m. (1 ≤ m) × (m ≤ length p.groups)) members
members-numbers p members are = subst (λ n. All (λ m. (1 ≤ m) × (m ≤ n)) members) (suspects-long p) are.suspects.numbers

pub ruleset members_rules = (members-are, members-few, members-ascend, members-numbers)

-- ---- a set comes after the one before it
pub comes-first : (sets : List ReportSet) (place : ℕ) (set : ReportSet) → place ≡ 0 → ComesAfter sets (place + 1) set
comes-first sets place set first last is = absurd (omega (arith, first, is.counted))

pub comes-after : (sets : List ReportSet) (place : ℕ) (before set : ReportSet) → 0 < place → slice_get sets (place - 1) ≡ Some before
    → IsTrue (is_before before.members set.members) → ComesAfter sets (place + 1) set
comes-after sets place before set some there is last at =
    let same : before ≡ last = got-same sets (place - 1) (place + 1 - 1 - 1) before last there at.is (omega arith) in
    subst (λ (b : ReportSet). IsTrue (is_before b.members set.members)) same is

pub comes-back : (sets : List ReportSet) (place : ℕ) (before set : ReportSet) → 0 < place → slice_get sets (place - 1) ≡ Some before
    → ComesAfter sets (place + 1) set → IsTrue (is_before before.members set.members)
comes-back sets place before set some there after =
    let back : place - 1 ≡ place + 1 - 1 - 1 = omega arith in
    after before (record { counted = omega (arith, some); is = ap (slice_get sets) (sym back) ∙ there })

pub ruleset comes_rules = (comes-first, comes-after, comes-back, got-same)

-- ---- what is found of a set
pub not-members : (c : Claim) (place : ℕ) (set : ReportSet) → slice_get c.sets place ≡ Some set → ¬ AreMembers c.problem set.members
    → FoundAt c place None
not-members c place set there other again at is =
    let same : again ≡ set = got-same c.sets place place again set at there refl in
    other (subst (λ (s : ReportSet). AreMembers c.problem s.members) same (record { suspects = is.suspects; size = is.size }))

pub not-after : (c : Claim) (place : ℕ) (set : ReportSet) → slice_get c.sets place ≡ Some set → ¬ ComesAfter c.sets (place + 1) set
    → FoundAt c place None
not-after c place set there other again at is =
    let same : again ≡ set = got-same c.sets place place again set at there refl in
    other (subst (ComesAfter c.sets (place + 1)) same is.after)

pub not-valued : (c : Claim) (place : ℕ) (set : ReportSet) → slice_get c.sets place ≡ Some set
    → ¬ HasValues c.problem.design c.problem.traces (suspects_of c.problem) set → FoundAt c place None
not-valued c place set there other again at is =
    let same : again ≡ set = got-same c.sets place place again set at there refl in
    other (subst (HasValues c.problem.design c.problem.traces (suspects_of c.problem)) same is.values)

pub found-at : (c : Claim) (place : ℕ) (set : ReportSet) (found : SetWithValues) → slice_get c.sets place ≡ Some set
    → AreMembers c.problem set.members → ComesAfter c.sets (place + 1) set → found.members ≡ set.members
    → IsWritten c.problem.design c.problem.traces (suspects_of c.problem) set found.values → FoundAt c place (Some found)
found-at c place set found there members after same written again at =
    subst (λ (s : ReportSet). IsFound c place s found) (got-same c.sets place place set again there at refl)
    (record {
      in_order = record { suspects = members.suspects; size = members.size; after = after; values = (found.values, written) };
      members = same;
      values = written;
    })

pub found-says : (c : Claim) (place : ℕ) (set : ReportSet) (r : Result (Option SetWithValues) NoMemory) → slice_get c.sets place ≡ Some set
    → AreMembers c.problem set.members → ComesAfter c.sets (place + 1) set → IfOk r (SaysValues c set) → IfOk r (FoundAt c place)
found-says c place set (Ok None) there members after says = not-valued c place set there says
found-says c place set (Ok (Some found)) there members after says = found-at c place set found there members after says.0 says.1
found-says c place set (Err e) there members after says = tt

-- what values_of answers, by the values that it found
pub none-said : (c : Claim) (set : ReportSet) (o : Option Values) → o ≡ None
    → IfNone o (¬ HasValues c.problem.design c.problem.traces (suspects_of c.problem) set) → SaysValues c set None
none-said c set None is none = none
none-said c set (Some values) is none = cc

pub some-said : (c : Claim) (set : ReportSet) (o : Option Values) (found : SetWithValues) → found.members ≡ set.members
    → o ≡ Some found.values → IfSome o (IsWritten c.problem.design c.problem.traces (suspects_of c.problem) set)
    → SaysValues c set (Some found)
some-said c set None found same is some = cc
some-said c set (Some values) found same is some =
    (same, subst (IsWritten c.problem.design c.problem.traces (suspects_of c.problem) set) (inner is) some)
  where
    inner : Some values ≡ Some found.values → values ≡ found.values
    inner e = cc

-- ---- all sets
pub found-none : (c : Claim) → AreFound c 0 []
found-none c = record { long = refl; each = λ place set f there at. absurd (got-none place f at) }

pub found-more : (c : Claim) (place : ℕ) (old new : List SetWithValues) (found : SetWithValues) → AreFound c place old
    → FoundAt c place (Some found) → new ≡ old ++ found ∷ [] → AreFound c (place + 1) new
found-more c place old new found before is grown = record {
  long = ap length grown ∙ length-append old (found ∷ []) ∙ ap (λ n. n + 1) before.long;
  each = λ at set f there got. by at set f there (subst (λ fs. slice_get fs at ≡ Some f) grown got) (cases_lt at (length old));
}
  where
    by : (at : ℕ) (set : ReportSet) (f : SetWithValues) → slice_get c.sets at ≡ Some set → slice_get (old ++ found ∷ []) at ≡ Some f
        → (at < length old) ⊎ (length old ≤ at) → IsFound c at set f
    by at set f there got (inl low) = before.each at set f there (got-front old found at f got low)
    by at set f there got (inr past) =
        let within = slice_get_within (old ++ found ∷ []) at f got in
        let here : place ≡ at = omega (arith, before.long, past, within, length-append old (found ∷ [])) in
        subst (λ (x : SetWithValues). IsFound c at set x) (sym (got-last old found at f got past))
        (subst (λ n. IsFound c n set found) here (is set (ap (slice_get c.sets) here ∙ there)))

-- each set before a place is in order
in-order : (c : Claim) (place : ℕ) (found : List SetWithValues) → AreFound c place found → (number : ℕ) (set : ReportSet)
    → number ≤ place → IsSetAt c.sets number set → IsInOrder c number set
in-order c place found are number set few is =
    let (f, there) = slice_get-some found (number - 1) (omega (arith, are.long, few, is.counted)) in
    let next : number - 1 + 1 ≡ number = omega (arith, is.counted) in
    subst (λ n. IsInOrder c n set) next (are.each (number - 1) set f is.is there).in_order

pub all-found : (c : Claim) (place : ℕ) (found : List SetWithValues) → length c.sets ≤ place → place ≤ length c.sets → AreFound c place found
    → AreInOrder c × AreFound c (length c.sets) found
all-found c place found past most are =
    let whole : place ≡ length c.sets = omega (arith, past, most) in (
      λ number set is. in-order c place found are number set (omega (arith, slice_get_within c.sets (number - 1) set is.is, past)) is,
      subst (λ n. AreFound c n found) whole are,
    )

pub first-out : (c : Claim) (place : ℕ) (found : List SetWithValues) → place < length c.sets → AreFound c place found → FoundAt c place None
    → IsFirstOutOfOrder c (place + 1)
first-out c place found within are none =
    let (set, there) = slice_get-some c.sets place within in
    record {
      set = set;
      is_set = set-at c.sets place set there;
      fails = none set there;
      first = λ other before low is. in-order c place found are other before (omega (arith, low)) is;
    }

pub ruleset found_rules = (not-members, not-after, found-says)

pub ruleset valued_rules = (none-said, some-said)

pub ruleset ordered_rules = (found-none, found-more, all-found, first-out)

-- ---- each set comes before all behind it
rises : (c : Claim) → AreInOrder c → (i more : ℕ) (one other : ReportSet) → slice_get c.sets i ≡ Some one
    → slice_get c.sets (i + suc more) ≡ Some other → is_before one.members other.members ≡ true
rises c all i zero one other here there =
    let is : IsSetAt c.sets (i + 1 + 1) other = set-at c.sets (i + 1) other there in
    (all (i + 1 + 1) other is).after one (record { counted = omega arith; is = ap (slice_get c.sets) (omega arith) ∙ here })
rises c all i (suc more) one other here there =
    let (mid, between) = slice_get-some c.sets (i + suc more) (omega (arith, slice_get_within c.sets (i + suc (suc more)) other there)) in
    let is : IsSetAt c.sets (i + suc (suc more) + 1) other = set-at c.sets (i + suc (suc more)) other there in
    before-trans one.members mid.members other.members (rises c all i more one mid here between)
    ((all (i + suc (suc more) + 1) other is).after mid (record { counted = omega arith; is = ap (slice_get c.sets) (omega arith) ∙ between }))

pub ascending : (c : Claim) → AreInOrder c → AreAscending c.sets
ascending c all = record {
  each = λ k d low.
      (all (k + 1) (get_or c.sets k d) (set-at c.sets k (get_or c.sets k d) (got-itself c.sets k d low))).suspects.ascending;
  before = λ i j one other less here there.
      let far : i + suc (j - i - 1) ≡ j = omega (arith, less) in
      rises c all i (j - i - 1) one other here (ap (slice_get c.sets) far ∙ there);
}

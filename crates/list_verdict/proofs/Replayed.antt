-- The values that were found, replayed.
use Rattle.std.proofs.Common.{◌≡◌, ℕ, ◌+◌, ◌-◌, ◌<◌, ◌≤◌, List, length, get_or, Some, sym, subst, arith}
use Rattle.std.specs.Prelude.{All, None, slice_get}
use Rattle.std.proofs.lemmas.List.{get_or_default}
use Rattle.loc_base.proofs.ShelfLists.{slice_get-at, slice_get-some}
use Rattle.design_core.specs.declared.values.SetWithValues.{SetWithValues}
use Rattle.design_core.specs.declared.values.Values.{Values}
use Rattle.cycle_sim.specs.declared.miss.Miss.{Miss}
use Rattle.cycle_sim.specs.Misses.{AllMeet, AreValuesFor, FirstToMiss, MeetAll}
use Rattle.report_doc.specs.declared.types.ReportSet.{ReportSet}
use Rattle.report_sets.proofs.Saying.{meets-same}
use Rattle.report_sets.proofs.Writing.{places-within}
use Rattle.debug_core.specs.Problems.{IsProblem, suspects_of}
use Rattle.list_verdict.specs.Claims.{AreItsValues, Claim, IsSetAt}
use Rattle.list_verdict.specs.Conditions.{AreRight, IsFirstToMiss, IsRightSet}
use Rattle.list_verdict.specs.Faults.{AreFound, IsFound}
use Rattle.std.proofs.lemmas.Option.{slice_get_within}
use Rattle.list_verdict.proofs.Ordered.{set-at}

module _ (c : Claim) (can : IsProblem c.problem) (found : List SetWithValues) (are : AreFound c (length c.sets) found) where
  found-is : (place : ℕ) (f : SetWithValues) → slice_get found place ≡ Some f
      → (set : ReportSet) × (slice_get c.sets place ≡ Some set) × IsFound c place set f
  found-is place f there =
      let (set, at) = slice_get-some c.sets place (omega (arith, are.long, slice_get_within found place f there)) in
      (set, at, are.each place set f at there)

  written-for : (set : ReportSet) (values : Values) → AreItsValues c set values → AreValuesFor c.problem.design c.problem.traces values
  written-for set values written = record {
    places = places-within c.problem.design c.problem.groups set.members values.places.items can.groups written.rows.places;
    rows = written.rows.rows;
  }

  -- the values fit the design and the traces
  pub found-fits : All (λ f. AreValuesFor c.problem.design c.problem.traces f.values) found
  found-fits k d low =
      let there : slice_get found k ≡ Some (get_or found k d) = slice_get-at found k (get_or found k d) low (same found k d low) in
      let (set, at, is) = found-is k (get_or found k d) there in
      written-for set (get_or found k d).values is.values
    where
      same : (xs : List SetWithValues) (n : ℕ) (e : SetWithValues) → n < length xs → get_or xs n e ≡ get_or xs n (get_or xs n e)
      same xs n e less = get_or_default xs n e (get_or xs n e) less

  -- what is right with the values that were found is with any that the texts say
  right-set : (set : ReportSet) (f : SetWithValues) → AreItsValues c set f.values → MeetAll c.problem.design c.problem.traces f.values
      → IsRightSet c set
  right-set set f written right values others j trace there =
      meets-same c.problem.design c.problem.traces (suspects_of c.problem) set f.values values written others j trace (right j trace there)

  right-below : (to : ℕ) → to ≤ length found → AllMeet c.problem.design c.problem.traces found 0 to → (number : ℕ) (set : ReportSet)
      → number ≤ to → IsSetAt c.sets number set → IsRightSet c set
  right-below to within all number set low is =
      let (f, there) = slice_get-some found (number - 1) (omega (arith, within, low, is.counted)) in
      right-set set f (are.each (number - 1) set f is.is there).values
      (all (number - 1) f (omega arith) (omega (arith, low, is.counted)) there)

  pub all-right : FirstToMiss c.problem.design c.problem.traces found 0 (length found) None → AreRight c
  all-right all number set is =
      right-below (length found) (omega arith) all number set
      (omega (arith, are.long, slice_get_within c.sets (number - 1) set is.is, is.counted)) is

  pub first-misses : (place number : ℕ) (miss : Miss) → FirstToMiss c.problem.design c.problem.traces found 0 (length found) (Some (place, miss))
      → number ≡ place + 1 → IsFirstToMiss c number miss
  first-misses place number miss first next =
      let (set, at, is) = found-is place first.set first.is_set in
      subst (λ n. IsFirstToMiss c n miss) (sym next)
      (record {
        set = set;
        is_set = set-at c.sets place set at;
        values = first.set.values;
        are_its = is.values;
        misses = first.misses;
        first = λ other before low there.
            right-below place (omega (arith, slice_get_within found place first.set first.is_set)) first.first other before (omega (arith, low)) there;
      })

  -- the number of the set that misses
  pub miss-within : (place : ℕ) (miss : Miss) → FirstToMiss c.problem.design c.problem.traces found 0 (length found) (Some (place, miss))
      → place < length c.sets
  miss-within place miss first = omega (arith, are.long, slice_get_within found place first.set first.is_set)

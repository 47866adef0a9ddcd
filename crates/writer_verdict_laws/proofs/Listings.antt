-- A listing that ended as complete is whole by its report and its log, and one that ended earlier a front.
use Rattle.std.proofs.Common.{ℕ, ◌≡◌, ◌-◌, ◌<◌, ◌≤◌, ◌⊎◌, inl, inr, List, [], ◌∷◌, length, map, Some, refl, ap, sym, ◌∙◌, subst, arith}
use Rattle.std.proofs.Math.Path.{fun_ext}
use Rattle.std.specs.Prelude.{IsTrue, slice_get}
use Rattle.std.proofs.lemmas.Bool.{cases_lt}
use Rattle.clause_base.specs.declared.literal.Lit.{Lit}
use Rattle.clause_base.specs.Acceptance.{IsAccepted}
use Rattle.design_core.specs.declared.values.SetWithValues.{SetWithValues}
use Rattle.design_core.specs.Explained.{choices_in}
use Rattle.loc_base.specs.Sets.{is_before}
use Rattle.design_core.specs.Listing.{IsEntry}
use Rattle.design_core.specs.Run.{Meets}
use Rattle.design_core.specs.Works.{IsSet, IsWithin}
use Rattle.loc_base.proofs.SetOrder.{is_before-strict}
use Rattle.set_enum.specs.Sets.{block_of}
use Rattle.debug_core.proofs.Selected.{within-few, within-same}
use Rattle.report_doc.specs.declared.types.Ending.{Ending}
use Rattle.report_doc.specs.declared.types.Ending.TheVariants.{Complete, Budget, Sets, Earlier}
use Rattle.report_doc.specs.declared.types.ReportSet.{ReportSet}
use Rattle.report_sets.specs.Found.{set_of}
use Rattle.report_sets.specs.Written.{IsWritten}
use Rattle.report_sets.proofs.Saying.{meets-same}
use Rattle.card_counter.specs.Shows.{Shows, last_of}
use Rattle.debug_core.specs.Problems.{Problem, suspect_count, suspects_of}
use Rattle.list_verdict.specs.Claims.{Claim, IsSetAt}
use Rattle.list_verdict.specs.Conditions.{Closes, Holds, IsAcceptedLog, IsInOrder, IsRightSet, ShowsLast, blocks_for}
use Rattle.list_verdict.specs.Verdicts.{IsFrontShown, IsWhole}
use Rattle.list_writer.specs.Found.{EndsAs, IsShown, Portion, found_of, sets_of}
use Rattle.list_writer.specs.Lines.{ending_status}
use Rattle.writer_verdict_laws.specs.Listings.{ListEnd, claim_of_end}
use Rattle.writer_verdict_laws.proofs.Places.{got-all, got-from, got-map, got-pair}

module _ (of : ListEnd) where
  abbrev p : Problem
  p = of.asked.problem

  abbrev c : Claim
  c = claim_of_end of

  abbrev portions : List Portion
  portions = of.portions

  abbrev Entry : List ℕ → Type 0
  Entry set = IsEntry p.design p.traces (suspects_of p) p.k set

  -- a set of the report, as it was found
  pub record Found (place : ℕ) (set : ReportSet) : Type 0 where
    pub found : SetWithValues
    pub there : slice_get (sets_of of.asked portions) place ≡ Some found.members
    pub is : set_of p.traces found ≡ set
    pub shown : IsShown p found

  found-at : (place : ℕ) (set : ReportSet) → slice_get c.sets place ≡ Some set → Found place set
  found-at place set there =
      let (found, within, same) = got-from (set_of p.traces) (found_of of.asked portions) place set there in
      record {
        found = found;
        there = got-map (λ (one : SetWithValues). one.members) (found_of of.asked portions) place found within;
        is = same;
        shown = got-all (IsShown p) (found_of of.asked portions) place found of.is.found.shown within;
      }

  entry : (place : ℕ) (set : ReportSet) (f : Found place set) → Entry f.found.members
  entry place set f = got-all Entry (sets_of of.asked portions) place f.found.members of.is.found.front.entries f.there

  -- one set comes before another behind it
  before : (i j : ℕ) (one other : ReportSet) (f : Found i one) (g : Found j other) → i < j
      → IsTrue (is_before f.found.members g.found.members)
  before i j one other f g less =
      got-pair (λ x y. IsTrue (is_before x y)) (sets_of of.asked portions) i j f.found.members g.found.members
      of.is.found.front.ordered less f.there g.there

  members-are : (place : ℕ) (set : ReportSet) (f : Found place set) → f.found.members ≡ set.members
  members-are place set f = ap (λ (s : ReportSet). s.members) f.is

  -- ---- order
  written : (place : ℕ) (set : ReportSet) (f : Found place set) → IsWritten p.design p.traces (suspects_of p) set f.found.values
  written place set f =
      subst (λ (s : ReportSet). IsWritten p.design p.traces (suspects_of p) s f.found.values) f.is
      (record { rows = f.shown.rows; texts = refl })

  in-order : (number : ℕ) (set : ReportSet) → IsSetAt c.sets number set → IsInOrder c number set
  in-order number set is =
      let f = found-at (number - 1) set is.is in
      let e = entry (number - 1) set f in
      let same = members-are (number - 1) set f in
      record {
        suspects = subst (IsSet (suspects_of p)) same e.suspects;
        size = subst (λ (ms : List ℕ). length ms ≤ p.k) same e.size;
        after = λ last at.
            let g = found-at (number - 1 - 1) last at.is in
            let less : number - 1 - 1 < number - 1 = omega (arith, at.counted) in
            subst (λ ms. IsTrue (is_before ms set.members)) (members-are (number - 1 - 1) last g)
            (subst (λ ms. IsTrue (is_before g.found.members ms)) same (before (number - 1 - 1) (number - 1) last set g f less));
        values = (f.found.values, written (number - 1) set f);
      }

  -- ---- no set holds another
  none-holds : (number other : ℕ) → ¬ Holds c.sets number other
  none-holds number other h = at (cases_lt (other - 1) (number - 1))
    where
      f : Found (number - 1) h.set
      f = found-at (number - 1) h.set h.is_set.is

      g : Found (other - 1) h.inner
      g = found-at (other - 1) h.inner h.is_inner.is

      within : IsWithin g.found.members f.found.members
      within = subst (λ ms. IsWithin ms f.found.members) (sym (members-are (other - 1) h.inner g))
          (subst (IsWithin h.inner.members) (sym (members-are (number - 1) h.set f)) h.within)

      -- they would be the same
      same : IsWithin f.found.members g.found.members → g.found.members ≡ f.found.members
      same back =
          let one = (entry (number - 1) h.set f).suspects.ascending in
          let two = (entry (other - 1) h.inner g).suspects.ascending in
          within-same g.found.members f.found.members two one within
          (within-few f.found.members g.found.members one two back)

      -- so that the one would come before itself
      apart : IsTrue (is_before g.found.members f.found.members) ⊎ IsTrue (is_before f.found.members g.found.members)
          → ¬ IsWithin f.found.members g.found.members
      apart (inl less) back =
          let itself = subst (λ ms. IsTrue (is_before ms f.found.members)) (same back) less in
          is_before-strict f.found.members f.found.members itself itself
      apart (inr less) back =
          let itself = subst (λ ms. IsTrue (is_before f.found.members ms)) (same back) less in
          is_before-strict f.found.members f.found.members itself itself

      fails : IsTrue (is_before g.found.members f.found.members) ⊎ IsTrue (is_before f.found.members g.found.members) → ⊥
      fails which =
          (entry (number - 1) h.set f).minimal.least g.found.members (entry (other - 1) h.inner g).suspects within (apart which)
          (entry (other - 1) h.inner g).minimal.works

      at : (other - 1 < number - 1) ⊎ (number - 1 ≤ other - 1) → ⊥
      at (inl less) = fails (inl (before (other - 1) (number - 1) h.inner h.set g f less))
      at (inr most) =
          let less : number - 1 < other - 1 = omega (arith, most, h.apart, h.is_set.counted, h.is_inner.counted) in
          fails (inr (before (number - 1) (other - 1) h.set h.inner f g less))

  -- ---- the traces are right
  right : (number : ℕ) (set : ReportSet) → IsSetAt c.sets number set → IsRightSet c set
  right number set is values are j trace at =
      let f = found-at (number - 1) set is.is in
      meets-same p.design p.traces (suspects_of p) set f.found.values values (written (number - 1) set f) are j trace
      (subst (λ freed. Meets p.design trace freed (choices_in p.traces f.found.values j)) (sym (fun_ext f.shown.rows.places))
      (f.shown.explains.meets j trace at))

  -- ---- the log
  blocks-same : (sets : List SetWithValues) → map block_of (map (λ (set : SetWithValues). set.members) sets)
      ≡ blocks_for (map (set_of p.traces) sets)
  blocks-same [] = refl
  blocks-same (set ∷ sets) = ap (λ (rest : List (List Lit)). block_of set.members ∷ rest) (blocks-same sets)

  closes : ending_status of.ending ≡ 0 → Closes c
  closes none = at of.ending of.is.ends none
    where
      at : (how : Ending) → EndsAs of.asked portions c.log how → ending_status how ≡ 0 → Closes c
      at Complete ends zero = ends.1
      at Budget ends zero = absurd (omega (arith, zero))
      at Sets ends zero = absurd (omega (arith, zero))
      at Earlier ends zero = absurd ends

  accepted : IsAcceptedLog c
  accepted = subst (λ (blocks : List (List Lit)). IsAccepted of.form blocks c.log) (blocks-same (found_of of.asked portions)) of.is.accepted

  pub is-whole : ending_status of.ending ≡ 0 → IsWhole c
  is-whole none = record { in_order = in-order; none_holds = none-holds; right = right; accepted = accepted; closes = closes none }

  members-same : (sets : List SetWithValues) → map (λ (set : SetWithValues). set.members) sets
      ≡ map (λ (set : ReportSet). set.members) (map (set_of p.traces) sets)
  members-same [] = refl
  members-same (set ∷ sets) = ap (λ (rest : List (List ℕ)). set.members ∷ rest) (members-same sets)

  shows : ending_status of.ending ≡ 1 → ShowsLast c
  shows one =
      subst (λ (sets : List (List ℕ)). Shows (suspect_count p) p.k (last_of sets) c.log) (members-same (found_of of.asked portions))
      (of.is.shows one)

  pub is-shown : ending_status of.ending ≡ 1 → IsFrontShown c
  is-shown one = record { in_order = in-order; none_holds = none-holds; right = right; accepted = accepted; shows = shows one }

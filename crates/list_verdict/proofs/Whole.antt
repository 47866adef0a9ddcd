-- A list for which all five conditions hold is the whole list.
use Rattle.std.proofs.Common.{◌≡◌, ◌≢◌, ◌⊎◌, inl, inr, ℕ, zero, suc, ◌+◌, ◌<◌, ◌≤◌, List, [], ◌∷◌, ◌++◌, length, get_or, map, Some, refl, sym, ap, ◌∙◌, subst, arith}
use Rattle.std.specs.Prelude.{All, AllPairs, Contains, IsTrue, slice_get}
use Rattle.std.proofs.lemmas.Bool.{cases_eq, cases_lt}
use Rattle.std.proofs.lemmas.List.{length-map}
use Rattle.std.proofs.lemmas.List.Elements.{All-map}
use Rattle.loc_base.proofs.ShelfLists.{All-member, Contains-place, slice_get-some}
use Rattle.clause_base.specs.declared.literal.Lit.{Lit}
use Rattle.clause_base.specs.declared.log.Step.{Step}
use Rattle.clause_base.specs.Literal.{AllDistinct}
use Rattle.clause_base.specs.Satisfaction.{Satisfies}
use Rattle.clause_base.specs.Acceptance.{Follows}
use Rattle.clause_base.proofs.Accepted.{log_holds}
use Rattle.card_counter.proofs.Said.{satisfies-both}
use Rattle.design_core.specs.Listing.{IsEntry}
use Rattle.design_core.specs.Works.{IsSet, IsWithin, Works}
use Rattle.set_enum.specs.Sets.{IsSetOf, NoneBelow, block_of}
use Rattle.debug_core.specs.Listed.{Encodes, IsSelected}
use Rattle.debug_core.proofs.Blocked.{Unmet, met-or-unmet, unmet-within}
use Rattle.debug_core.proofs.Selected.{within-few, within-fewer, within-same}
use Rattle.report_doc.specs.declared.types.ReportSet.{ReportSet}
use Rattle.debug_core.specs.Problems.{IsFormFor, IsProblem, Problem, suspect_count, suspects_of}
use Rattle.list_verdict.specs.Claims.{Claim}
use Rattle.list_verdict.specs.Conditions.{IsAcceptedLog, IsInOrder, blocks_for}
use Rattle.list_verdict.specs.Verdicts.{IsWhole, IsWholeList, members_of}
use Rattle.list_verdict.proofs.Asked.{form-counter, form-encodes, suspects-long}
use Rattle.list_verdict.proofs.Closing.{none-below}
use Rattle.list_verdict.proofs.SetsOf.{IsListedAs, all-explained, blocks-members, in-order as set-in-order, listed-of, ordered, works as set-works}
use Rattle.list_verdict.proofs.Ordered.{got-itself, set-at}

module _ (c : Claim) (vars : ℕ) (can : IsProblem c.problem) (form : IsFormFor c.problem vars c.form)
    (follows : Follows c.form (blocks_for c.sets) c.log) (whole : IsWhole c) where
  abbrev p : Problem
  p = c.problem

  abbrev groups : List (List ℕ)
  groups = suspects_of p

  abbrev n : ℕ
  n = suspect_count p

  abbrev sets : List (List ℕ)
  sets = members_of c.sets

  abbrev Work : List ℕ → Type 0
  Work set = Works p.design p.traces groups set

  abbrev Entry : List ℕ → Type 0
  Entry set = IsEntry p.design p.traces groups p.k set

  encodes : Encodes n p.k c.form Work
  encodes = form-encodes p (record { vars = vars; clauses = c.form }) can form

  in-order : (place : ℕ) (set : ReportSet) → slice_get c.sets place ≡ Some set → IsInOrder c (place + 1) set
  in-order = set-in-order c whole.in_order

  works : (place : ℕ) (set : ReportSet) → slice_get c.sets place ≡ Some set → Work set.members
  works = set-works c whole.in_order whole.right

  set-of : (set : List ℕ) → IsSet groups set → IsSetOf n set
  set-of set is = record {
    ascending = is.ascending;
    members = subst (λ m. All (λ s. (1 ≤ s) × (s ≤ m)) set) (suspects-long p) is.numbers;
  }

  few : All (λ set. All (λ m. m ≤ n) set) sets
  few = All-map (λ set. All (λ m. m ≤ n) set) (λ (set : ReportSet). set.members) c.sets (λ k d low.
      let there : slice_get c.sets k ≡ Some (get_or c.sets k d) = got-itself c.sets k d low in
      λ i e within. ((set-of (get_or c.sets k d).members (in-order k (get_or c.sets k d) there).suspects).members i e within).1)

  none-left : NoneBelow n (p.k + 1) (c.form ++ map block_of sets)
  none-left =
      none-below n p.k vars c.form sets c.log (form-counter p (record { vars = vars; clauses = c.form }) can form)
      (subst (λ blocks. Follows c.form blocks c.log) (blocks-members c.sets) follows) few whole.closes

  -- within each set that works and is of at most k suspects there is one of the list
  pub record Inner (set : List ℕ) : Type 0 where
    pub members : List ℕ
    pub listed : Contains sets members
    pub within : IsWithin members set

  inner-of : (set : List ℕ) → IsSet groups set → length set ≤ p.k → Work set → Inner set
  inner-of set is small working = at (met-or-unmet chosen.assignment sets)
    where
      chosen : IsSelected n c.form set
      chosen = encodes.some set (set-of set is) small working

      at : Satisfies chosen.assignment (map block_of sets) ⊎ Unmet chosen.assignment sets → Inner set
      at (inl all) =
          let many = none-left chosen.assignment (satisfies-both chosen.assignment c.form (map block_of sets) chosen.satisfies all) in
          absurd (omega (arith, many, ap length chosen.selects, small))
      at (inr u) =
          let l : IsListedAs c u.set = listed-of c u.set u.listed_there in
          record {
            members = u.set;
            listed = u.listed_there;
            within = subst (IsWithin u.set) chosen.selects
                (unmet-within chosen.assignment n u.set
                (subst (IsSetOf n) l.is (set-of l.set.members (in-order l.place l.set l.there).suspects)) u.is_unmet);
          }

  least : (place : ℕ) (set : ReportSet) → slice_get c.sets place ≡ Some set → (inner : List ℕ) → IsSet groups inner
      → IsWithin inner set.members → ¬ IsWithin set.members inner → ¬ Work inner
  least place set there inner is within proper working = at (cases_eq l.place place)
    where
      o : IsInOrder c (place + 1) set
      o = in-order place set there

      fewer : length inner < length set.members
      fewer = within-fewer inner set.members is.ascending o.suspects.ascending within proper

      i : Inner inner
      i = inner-of inner is (omega (arith, fewer, o.size)) working

      l : IsListedAs c i.members
      l = listed-of c i.members i.listed

      deep : IsWithin l.set.members inner
      deep = subst (λ ms. IsWithin ms inner) (sym l.is) i.within

      at : (l.place ≡ place) ⊎ (l.place ≢ place) → ⊥
      at (inl same) =
          proper (subst (λ (s : ReportSet). IsWithin s.members inner) (one (sym l.there ∙ ap (slice_get c.sets) same ∙ there)) deep)
        where
          one : Some l.set ≡ Some set → l.set ≡ set
          one e = cc
      at (inr other) =
          whole.none_holds (place + 1) (l.place + 1) (record {
            set = set;
            is_set = set-at c.sets place set there;
            inner = l.set;
            is_inner = set-at c.sets l.place l.set l.there;
            apart = λ same. other (omega (arith, same));
            within = λ k d low. All-member (Contains set.members) inner (get_or l.set.members k d) within (deep k d low);
          })

  entry : (place : ℕ) (set : ReportSet) → slice_get c.sets place ≡ Some set → Entry set.members
  entry place set there = record {
    suspects = (in-order place set there).suspects;
    size = (in-order place set there).size;
    minimal = record { works = works place set there; least = least place set there };
  }

  entries : All Entry sets
  entries = All-map Entry (λ (set : ReportSet). set.members) c.sets (λ k d low. entry k (get_or c.sets k d) (got-itself c.sets k d low))

  complete : (set : List ℕ) → Entry set → Contains sets set
  complete set e = at (cases_lt (length i.members) (length set))
    where
      i : Inner set
      i = inner-of set e.suspects e.size e.minimal.works

      l : IsListedAs c i.members
      l = listed-of c i.members i.listed

      suspects : IsSet groups i.members
      suspects = subst (IsSet groups) l.is (in-order l.place l.set l.there).suspects

      at : (length i.members < length set) ⊎ (length set ≤ length i.members) → Contains sets set
      at (inl fewer) =
          absurd (e.minimal.least i.members suspects i.within
          (λ back.
          let most = within-few set i.members e.suspects.ascending suspects.ascending back in omega (arith, fewer, most))
          (subst Work l.is (works l.place l.set l.there)))
      at (inr as_many) =
          subst (Contains sets) (within-same i.members set suspects.ascending e.suspects.ascending i.within as_many) i.listed

  pub whole-list : IsWholeList c
  whole-list = record {
    list = record { entries = entries; ordered = ordered c whole.in_order; complete = complete };
    explained = all-explained c whole.in_order whole.right;
  }

-- the log of a list follows from its form and its blocks, where each clause is of distinct variables
pub log-follows : (c : Claim) → AllDistinct c.form → AllDistinct (map (λ (s : Step). s.clause) c.log) → IsAcceptedLog c
    → Follows c.form (blocks_for c.sets) c.log
log-follows c of_form of_log accepted a in_form in_blocks =
    log_holds a c.form (blocks_for c.sets) c.log of_form of_log accepted.each_step in_form in_blocks

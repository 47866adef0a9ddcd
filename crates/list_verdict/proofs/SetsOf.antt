-- What the first three conditions say of the sets of a list: they work, stand in order, and none is within another.
use Rattle.std.proofs.Common.{◌≡◌, ◌≢◌, ◌⊎◌, inl, inr, ℕ, zero, suc, ◌+◌, ◌<◌, ◌≤◌, List, [], ◌∷◌, length, get_or, map, Some, refl, sym, ap, ◌∙◌, subst, arith}
use Rattle.std.specs.Prelude.{All, AllPairs, Contains, IsTrue, slice_get}
use Rattle.std.proofs.lemmas.Bool.{cases_eq}
use Rattle.std.proofs.lemmas.List.{length-map}
use Rattle.std.proofs.lemmas.List.Elements.{All-map}
use Rattle.loc_base.proofs.ShelfLists.{Contains-place, slice_get-some}
use Rattle.clause_base.specs.declared.literal.Lit.{Lit}
use Rattle.design_core.specs.Explained.{choices_in}
use Rattle.loc_base.specs.Sets.{is_before}
use Rattle.design_core.specs.Works.{IsSet, IsWithin, Works}
use Rattle.set_enum.specs.Sets.{block_of}
use Rattle.debug_core.specs.Listed.{AreGiven, Listed}
use Rattle.report_doc.specs.declared.types.ReportSet.{ReportSet}
use Rattle.report_sets.proofs.Saying.{written-explains}
use Rattle.debug_core.specs.Problems.{Problem, suspects_of}
use Rattle.list_verdict.specs.Claims.{Claim}
use Rattle.list_verdict.specs.Conditions.{AreInOrder, AreRight, IsInOrder, NoneHolds, blocks_for}
use Rattle.list_verdict.specs.Verdicts.{IsExplained, members_of}
use Rattle.list_verdict.proofs.Ordered.{ascending, got-itself, set-at}

-- the blocks by the members
pub blocks-members : (sets : List ReportSet) → blocks_for sets ≡ map block_of (members_of sets)
blocks-members [] = refl
blocks-members (set ∷ sets) = ap (λ (rest : List (List Lit)). block_of set.members ∷ rest) (blocks-members sets)

-- a set of the list, by its members
pub record IsListedAs (c : Claim) (members : List ℕ) : Type 0 where
  pub place : ℕ
  pub set : ReportSet
  pub there : slice_get c.sets place ≡ Some set
  pub is : set.members ≡ members

pub listed-of : (c : Claim) (members : List ℕ) → Contains (members_of c.sets) members → IsListedAs c members
listed-of c members member =
    let (k, at) = Contains-place (members_of c.sets) members member in
    let (place, set, there, is) = found c.sets k members at in
    record { place = place; set = set; there = there; is = is }
  where
    found : (list : List ReportSet) (k : ℕ) (ms : List ℕ) → slice_get (members_of list) k ≡ Some ms
        → (place : ℕ) × (set : ReportSet) × (slice_get list place ≡ Some set) × (set.members ≡ ms)
    found [] k ms at = cc
    found (set ∷ list) zero ms at = (zero, set, refl, inner at)
      where
        inner : Some set.members ≡ Some ms → set.members ≡ ms
        inner e = cc
    found (set ∷ list) (suc k) ms at =
        let (place, other, there, is) = found list k ms at in (suc place, other, there, is)

module _ (c : Claim) (all : AreInOrder c) where
  abbrev groups : List (List ℕ)
  groups = suspects_of c.problem

  abbrev sets : List (List ℕ)
  sets = members_of c.sets

  pub in-order : (place : ℕ) (set : ReportSet) → slice_get c.sets place ≡ Some set → IsInOrder c (place + 1) set
  in-order place set there = all (place + 1) set (set-at c.sets place set there)

  pub ordered : AllPairs (λ one other. IsTrue (is_before one other)) sets
  ordered i j d less low =
      let long : length sets ≡ length c.sets = length-map c.sets (λ (set : ReportSet). set.members) in
      let (one, here) = slice_get-some c.sets i (omega (arith, less, low, long)) in
      let (other, there) = slice_get-some c.sets j (omega (arith, low, long)) in
      subst (λ ms. IsTrue (is_before ms (get_or sets j d))) (sym (member c.sets i one here))
      (subst (λ ms. IsTrue (is_before one.members ms)) (sym (member c.sets j other there))
      ((ascending c all).before i j one other less here there))
    where
      member : (list : List ReportSet) (k : ℕ) (set : ReportSet) → slice_get list k ≡ Some set → get_or (members_of list) k d ≡ set.members
      member [] k set at = cc
      member (x ∷ list) zero set at = ap (λ (s : ReportSet). s.members) (inner at)
        where
          inner : Some x ≡ Some set → x ≡ set
          inner e = cc
      member (x ∷ list) (suc k) set at = member list k set at

  -- what holds of each set in its place holds of all
  pub each-set : (P : List ℕ → Type 0) → ((place : ℕ) (set : ReportSet) → slice_get c.sets place ≡ Some set → P set.members) → All P sets
  each-set P holds = All-map P (λ (set : ReportSet). set.members) c.sets (λ k d low. holds k (get_or c.sets k d) (got-itself c.sets k d low))

  -- the values of a set explain the traces
  module _ (right : AreRight c) where
    pub explained : (place : ℕ) (set : ReportSet) → slice_get c.sets place ≡ Some set → IsExplained c set
    explained place set there =
        let (values, written) = (in-order place set there).values in
        record {
          values = values;
          are_its = written;
          explains = written-explains c.problem.design c.problem.traces groups set values written
              (right (place + 1) set (set-at c.sets place set there) values written);
        }

    pub all-explained : All (IsExplained c) c.sets
    all-explained k d low = explained k (get_or c.sets k d) (got-itself c.sets k d low)

    pub works : (place : ℕ) (set : ReportSet) → slice_get c.sets place ≡ Some set → Works c.problem.design c.problem.traces groups set.members
    works place set there trace member =
        let e = explained place set there in
        let (j, at) = Contains-place c.problem.traces trace member in
        (choices_in c.problem.traces e.values j, e.explains.widths j trace at, e.explains.meets j trace at)

    -- a set within another one is the same
    apart : NoneHolds c.sets → (one other : List ℕ) → Contains sets one → Contains sets other → IsWithin one other → one ≡ other
    apart none one other one_there other_there within = at (cases_eq inner.place outer.place)
      where
        inner : IsListedAs c one
        inner = listed-of c one one_there

        outer : IsListedAs c other
        outer = listed-of c other other_there

        deep : IsWithin inner.set.members outer.set.members
        deep = subst (λ ms. IsWithin ms outer.set.members) (sym inner.is) (subst (IsWithin one) (sym outer.is) within)

        at : (inner.place ≡ outer.place) ⊎ (inner.place ≢ outer.place) → one ≡ other
        at (inl same) =
            sym inner.is ∙ (ap (λ (s : ReportSet). s.members) (alike (sym inner.there ∙ ap (slice_get c.sets) same ∙ outer.there)) ∙ outer.is)
          where
            alike : Some inner.set ≡ Some outer.set → inner.set ≡ outer.set
            alike e = cc
        at (inr different) =
            absurd (none (outer.place + 1) (inner.place + 1) (record {
              set = outer.set;
              is_set = set-at c.sets outer.place outer.set outer.there;
              inner = inner.set;
              is_inner = set-at c.sets inner.place inner.set inner.there;
              apart = λ same. different (omega (arith, same));
              within = deep;
            }))

    -- the sets as a list that is made from the form
    abbrev pub listed : Listed
    listed = record {
      design = c.problem.design;
      traces = c.problem.traces;
      groups = suspects_of c.problem;
      k = c.problem.k;
      clauses = c.form;
      listed = members_of c.sets;
    }

    pub are-given : NoneHolds c.sets → AreGiven listed
    are-given none = record {
      suspects = each-set (IsSet groups) (λ place set there. (in-order place set there).suspects);
      sizes = each-set (λ set. length set ≤ c.problem.k) (λ place set there. (in-order place set there).size);
      works = each-set (Works c.problem.design c.problem.traces groups) works;
      ordered = ordered;
      apart = apart none;
    }

-- A list whose log shows that none is missing before its last set is a front: by its clauses each set that works is chosen.
use Rattle.std.proofs.Common.{◌≡◌, ℕ, ◌≤◌, true, List, length, map, sym, subst}
use Rattle.std.specs.Prelude.{Contains}
use Rattle.design_core.specs.Listing.{IsFront}
use Rattle.design_core.specs.Works.{IsSet, Works}
use Rattle.front_cert.specs.Fronts.{Claimed, IsChosen, IsShown}
use Rattle.front_cert.proofs.Fronted.{is-front}
use Rattle.set_enum.proofs.Selecting.{selected-has, selected-true}
use Rattle.debug_core.specs.Listed.{AreGiven, EncodesListed, IsSelected, IsShownFront, Listed, LoggedList}

module _ (of : LoggedList) (encodes : EncodesListed of.list) (given : AreGiven of.list) (shown : IsShownFront of) where
  abbrev n : ℕ
  n = length of.list.groups

  chosen : (set : List ℕ) → IsSet of.list.groups set → length set ≤ of.list.k → Works of.list.design of.list.traces of.list.groups set
      → IsChosen n of.list.clauses set
  chosen set suspects few works =
      let s : IsSelected n of.list.clauses set = encodes.some set (record { ascending = suspects.ascending; members = suspects.numbers }) few works in
      record {
        assignment = s.assignment;
        satisfies = s.satisfies;
        selects = λ v low high. (
          λ is. subst (λ xs. Contains xs v) s.selects (selected-has n s.assignment v low high is),
          λ member. selected-true n s.assignment v (subst (λ xs. Contains xs v) (sym s.selects) member),
        );
      }

  abbrev claimed : Claimed
  claimed = record {
    design = of.list.design;
    traces = of.list.traces;
    groups = of.list.groups;
    k = of.list.k;
    vars = of.vars;
    form = of.list.clauses;
    listed = of.list.listed;
    log = of.log;
  }

  is-shown : IsShown claimed
  is-shown = record {
    counter = shown.counter;
    chosen = chosen;
    suspects = given.suspects;
    sizes = given.sizes;
    works = given.works;
    ordered = given.ordered;
    apart = given.apart;
    follows = shown.follows;
    shows = shown.shows;
  }

  pub given-front : IsFront of.list.design of.list.traces of.list.groups of.list.k of.list.listed
  given-front = is-front claimed is-shown

-- A list whose log shows that none is missing before its last set is a front.
use Rattle.std.proofs.Common.{◌≡◌, ◌⊎◌, inl, inr, ℕ, ◌+◌, ◌-◌, ◌<◌, ◌≤◌, true, List, [], ◌∷◌, length, map, get_or, Option}
use Rattle.std.proofs.Common.{refl, ap, sym, ◌∙◌, subst, arith}
use Rattle.std.specs.Prelude.{All, Contains, IsTrue}
use Rattle.std.specs.Option.{option_map_or}
use Rattle.std.proofs.lemmas.Bool.{both_ways, cases_lt}
use Rattle.std.proofs.lemmas.List.{get_or_default}
use Rattle.std.proofs.lemmas.List.Elements.{All-cons, All-contains_itself, All-head, All-nil, All-tail}
use Rattle.loc_base.proofs.ShelfLists.{All-member, slice_get-at}
use Rattle.clause_base.specs.declared.literal.Lit.{Lit}
use Rattle.clause_base.specs.Satisfaction.{Satisfies}
use Rattle.clause_base.specs.Counted.{IsPassedOver}
use Rattle.card_counter.specs.InForm.{NamesNoCounter, literals_from}
use Rattle.card_counter.specs.Means.{true_count}
use Rattle.loc_base.specs.Sets.{is_before, is_lower}
use Rattle.design_core.specs.Listing.{IsEntry, IsFront}
use Rattle.design_core.specs.Works.{Groups, IsSet, IsWithin, Works}
use Rattle.front_cert.specs.Fronts.{Claimed, IsChosen, IsShown, block}
use Rattle.front_cert.specs.Left.{IsLogged, IsNotBefore, Logged}
use Rattle.card_counter.specs.Shows.{last_of}
use Rattle.front_cert.proofs.Ascending.{Differs, Rises, before-cases, before-fewer, before-trans, differs, fewer-or-same, rises-set}
use Rattle.front_cert.proofs.Choosing.{AllTrue, block-selectors, met-or-true, selected-count, true-within}
use Rattle.front_cert.proofs.Left.{none-before}

-- the last set of a list
pub last-at : (sets : List (List ℕ)) → 0 < length sets → last_of sets ≡ get_or sets (length sets - 1) []
last-at sets some =
    ap (λ (o : Option (List ℕ)). option_map_or (λ (set : List ℕ). set) o [])
    (slice_get-at sets (length sets - 1) (get_or sets (length sets - 1) []) (omega (arith, some)) (get_or_default sets (length sets - 1) [] (get_or sets (length sets - 1) []) (omega (arith, some))))

some-member : (sets : List (List ℕ)) (set : List ℕ) → Contains sets set → 0 < length sets
some-member sets set member = let within = member.1 in omega (arith, within)

-- what holds of each listed set holds of the last
pub last-has : (P : List ℕ → Type 0) (sets : List (List ℕ)) → 0 < length sets → All P sets → P (last_of sets)
last-has P sets some all = subst P (sym (last-at sets some)) (all (length sets - 1) [] (omega (arith, some)))

blocks-apart : (n k : ℕ) (groups : Groups) (listed : List (List ℕ)) → length groups ≡ n → All (IsSet groups) listed → All (NamesNoCounter n k) (map block listed)
blocks-apart n k groups [] same all = All-nil (NamesNoCounter n k)
blocks-apart n k groups (set ∷ listed) same all =
    All-cons (NamesNoCounter n k) (block set) (map block listed) (λ place default inside. inl (selectors place default inside))
    (blocks-apart n k groups listed same (All-tail (IsSet groups) set listed all))
  where
    selectors : All (λ (l : Lit). l.var < n + 1) (block set)
    selectors = block-selectors n set (subst (λ (m : ℕ). All (λ (v : ℕ). (1 ≤ v) × (v ≤ m)) set) same (All-head (IsSet groups) set listed all).numbers)

module _ (of : Claimed) (is : IsShown of) where
  abbrev n : ℕ
  n = length of.groups

  abbrev Work : List ℕ → Type 0
  Work set = Works of.design of.traces of.groups set

  rises : (set : List ℕ) → IsSet of.groups set → Rises 0 set
  rises set suspects = rises-set n set suspects.ascending suspects.numbers

  set-of : (set : List ℕ) → Contains of.listed set → IsSet of.groups set
  set-of set member = All-member (IsSet of.groups) of.listed set is.suspects member

  -- an assignment of the form and all blocks selects no set before the last
  abbrev logged : Logged
  logged = record { n = n; k = of.k; vars = of.vars; form = of.form; blocks = map block of.listed; log = of.log; members = last_of of.listed }

  is-logged : 0 < length of.listed → IsLogged logged
  is-logged some = record {
    counter = is.counter;
    apart = blocks-apart n of.k of.groups of.listed refl is.suspects;
    follows = is.follows;
    members = (last-has (IsSet of.groups) of.listed some is.suspects).numbers;
    size = last-has (λ (set : List ℕ). length set ≤ of.k) of.listed some is.sizes;
    shows = is.shows;
  }

  -- a listed set is the last one, or stands before it
  last-or-before : (set : List ℕ) → Contains of.listed set → (set ≡ last_of of.listed) ⊎ (is_before set (last_of of.listed) ≡ true)
  last-or-before set member =
      let place = member.0 in
      let within : place < length of.listed = member.1 in
      let here : get_or of.listed place [] ≡ set = get_or_default of.listed place [] set within ∙ member.2 in
      let last : last_of of.listed ≡ get_or of.listed (length of.listed - 1) [] = last-at of.listed (omega (arith, within)) in
      elim (cases_lt place (length of.listed - 1)) [
        | inl earlier ↦
            let before = is.ordered place (length of.listed - 1) [] earlier (omega (arith, within)) in
            inr (subst (λ (one : List ℕ). is_before one (last_of of.listed) ≡ true) here (subst (λ (other : List ℕ). is_before (get_or of.listed place []) other ≡ true) (sym last) before))
        | inr late ↦
            let same : place ≡ length of.listed - 1 = omega (arith, within, late) in
            inl (sym here ∙ (ap (λ (p : ℕ). get_or of.listed p []) same ∙ sym last))
      ]

  before-last : (set listed : List ℕ) → Contains of.listed listed → is_before set listed ≡ true → is_before set (last_of of.listed) ≡ true
  before-last set listed member before =
      (elim (last-or-before listed member) [ inl same ↦ subst (λ (other : List ℕ). is_before set other ≡ true) same before | inr earlier ↦ before-trans set listed (last_of of.listed) before earlier ])

  module _ (set : List ℕ) (suspects : IsSet of.groups set) (few : length set ≤ of.k) (works : Work set) (before : is_before set (last_of of.listed) ≡ true) (some : 0 < length of.listed) where
    chosen : IsChosen n of.form set
    chosen = is.chosen set suspects few works

    count : true_count chosen.assignment (literals_from 1 n) ≡ length set
    count = selected-count chosen.assignment n set (rises set suspects) suspects.numbers chosen.selects

    abbrev last : List ℕ
    last = last_of of.listed

    range : (v : ℕ) → Contains set v → (1 ≤ v) × (v ≤ n)
    range v member = All-member (λ (m : ℕ). (1 ≤ m) × (m ≤ n)) set v suspects.numbers member

    chosen-true : (v : ℕ) → Contains set v → chosen.assignment v ≡ true
    chosen-true v member = let within = range v member in (chosen.selects v within.0 within.1).1 member

    unmet : Satisfies chosen.assignment (map block of.listed) → ⊥
    unmet met = at (before-cases set last before)
      where
        not_before : IsNotBefore n last chosen.assignment
        not_before = none-before logged (is-logged some) chosen.assignment chosen.satisfies met

        at : (length set < length last) ⊎ ((length set ≡ length last) × (is_lower set last ≡ true)) → ⊥
        at (inl fewer) = omega (arith, fewer, count, not_before.many)
        at (inr (same, lower)) =
            let d : Differs set last = differs 0 0 set last (rises set suspects) (rises last (last-has (IsSet of.groups) of.listed some is.suspects)) lower in
            let low = range d.number d.member in
            let passed : IsPassedOver last d.number = record { suspect = low.0; no_member = d.lacks; greater = d.greater } in
            both_ways (chosen.assignment d.number)
            (not_before.lacks (count ∙ same) d.number passed (λ m member less. chosen-true m (d.below m member less)))
            (chosen-true d.number d.member)

    -- so a listed set is within it
    listed-within : (listed : List ℕ) × Contains of.listed listed × IsWithin listed set
    listed-within = at (met-or-true chosen.assignment of.listed)
      where
        at : Satisfies chosen.assignment (map block of.listed) ⊎ AllTrue chosen.assignment of.listed → (listed : List ℕ) × Contains of.listed listed × IsWithin listed set
        at (inl met) = absurd (unmet met)
        at (inr found) = (found.set, found.there, true-within chosen.assignment n set found.set chosen.selects (set-of found.set found.there).numbers found.true_there)

  -- no proper subset of a listed set works
  least : (listed : List ℕ) → Contains of.listed listed → (inner : List ℕ) → IsSet of.groups inner → IsWithin inner listed → ¬ IsWithin listed inner → ¬ Work inner
  least listed member inner suspects within proper works =
      at (fewer-or-same listed 0 (rises listed (set-of listed member)) inner 0 (rises inner suspects) within)
    where
      size : length listed ≤ of.k
      size = All-member (λ (set : List ℕ). length set ≤ of.k) of.listed listed is.sizes member

      deeper : length inner < length listed → ⊥
      deeper fewer =
          let (third, there, inside) = listed-within inner suspects (omega (arith, fewer, size)) works
          (before-last inner listed member (before-fewer inner listed fewer)) (some-member of.listed listed member) in
          let same : third ≡ listed = is.apart third listed there member
          (λ place default low. All-member (Contains listed) inner (get_or third place default) within (inside place default low)) in
          proper (subst (λ (set : List ℕ). IsWithin set inner) same inside)

      at : (length inner < length listed) ⊎ (inner ≡ listed) → ⊥
      at (inl fewer) = deeper fewer
      at (inr same) = proper (subst (IsWithin listed) (sym same) (All-contains_itself listed))

  entry : (listed : List ℕ) → Contains of.listed listed → IsEntry of.design of.traces of.groups of.k listed
  entry listed member = record {
    suspects = set-of listed member;
    size = All-member (λ (set : List ℕ). length set ≤ of.k) of.listed listed is.sizes member;
    minimal = record { works = All-member Work of.listed listed is.works member; least = least listed member };
  }

  -- a minimal set before a listed one is listed
  none-missing : (set listed : List ℕ) → IsEntry of.design of.traces of.groups of.k set → Contains of.listed listed → IsTrue (is_before set listed) → Contains of.listed set
  none-missing set listed minimal member before =
      let (found, there, inside) = listed-within set minimal.suspects minimal.size minimal.minimal.works (before-last set listed member before) (some-member of.listed listed member) in
      (elim (fewer-or-same set 0 (rises set minimal.suspects) found 0 (rises found (set-of found there)) inside) [ inl fewer ↦ absurd (minimal.minimal.least found (set-of found there) inside (smaller found there fewer) (All-member Work of.listed found is.works there)) | inr same ↦ subst (Contains of.listed) same there ])
    where
      smaller : (found : List ℕ) → Contains of.listed found → length found < length set → ¬ IsWithin set found
      smaller found there fewer back =
          (elim (fewer-or-same found 0 (rises found (set-of found there)) set 0 (rises set minimal.suspects) back) [ inl less ↦ omega (arith, fewer, less) | inr same ↦ omega (arith, fewer, ap length same) ])

  pub is-front : IsFront of.design of.traces of.groups of.k of.listed
  is-front = record {
    entries = λ place default inside. entry (get_or of.listed place default) (All-contains_itself of.listed place default inside);
    ordered = is.ordered;
    none_missing = none-missing;
  }

-- Which sets work, by the lists of the traces.
use Rattle.std.proofs.Common.{◌≡◌, ◌⊎◌, inl, inr, ℕ, zero, suc, ◌<◌, ◌≤◌, Bool, true, false, List, [], ◌∷◌, length, refl, sym, ◌∙◌, subst, arith}
use Rattle.std.specs.Prelude.{Contains}
use Rattle.std.specs.List.{list_any}
use Rattle.std.proofs.lemmas.Bool.{and_from, and_parts, false_from_ne_true, true_from_ne_false}
use Rattle.std.proofs.lemmas.List.Kept.{AllPairs-from_increasing}
use Rattle.std.proofs.lemmas.List.Elements.{All-contains_itself}
use Rattle.loc_base.proofs.ShelfLists.{list_any-found, list_any-member}
use Rattle.design_core.specs.declared.design.Design.{Design}
use Rattle.design_core.specs.declared.trace.Trace.{Trace}
use Rattle.design_core.specs.Run.{Choices, Meets}
use Rattle.design_core.specs.Works.{AreOfWidth, Groups, IsSet, IsWithin, Works, places_of}
use Rattle.design_core.specs.WellFormed.{IsWellFormed}
use Rattle.design_core.specs.Listing.{IsEntry, IsList}
use Rattle.design_core.proofs.Lists.{All-member, Contains-cons, Contains-empty, Contains-first, Contains-later}
use Rattle.design_core.proofs.WorksLaws.{works-more}
use Rattle.trace_laws.specs.Joined.{AreTraceLists, has_one_of_each, is_within}
use Rattle.trace_laws.proofs.Within.{is-within, within-fewer, within-is, within-within}

-- whether a listed set is within it
abbrev pub has_one : List (List ℕ) → List ℕ → Bool
has_one list set = list_any (λ one. is_within one set) list

module _ (d : Design) (traces : List Trace) (groups : Groups) (k : ℕ) (list : List (List ℕ))
    (is : IsList d traces groups k list) where
  -- a set that a listed one isn't within has no part that one is within
  none-inside : (inner set : List ℕ) → IsWithin inner set → has_one list set ≡ false → has_one list inner ≡ true → ⊥
  none-inside inner set within none some =
      let (one, member, here) = list_any-found (λ one. is_within one inner) list some in
      let deep : IsWithin one set = within-within one inner set (within-is one inner here) within in
      let found : has_one list set ≡ true = list_any-member (λ one. is_within one set) list one member
      (is-within one set deep) in
      let wrong : true ≡ false = sym found ∙ none in cc

  -- where no part of it works, it is minimal, and listed
  least-listed : (set : List ℕ) → IsSet groups set → length set ≤ k → Works d traces groups set
      → ((inner : List ℕ) → IsSet groups inner → IsWithin inner set → ¬ IsWithin set inner
      → ¬ Works d traces groups inner)
      → has_one list set ≡ true
  least-listed set suspects few works least =
      list_any-member (λ one. is_within one set) list set (is.complete set entry)
      (is-within set set (All-contains_itself set))
    where
      entry : IsEntry d traces groups k set
      entry = record { suspects = suspects; size = few; minimal = record { works = works; least = least } }

  -- so a set that a listed one isn't within doesn't work
  none-works : (n : ℕ) (set : List ℕ) → length set < n → IsSet groups set → length set ≤ k → has_one list set ≡ false
      → Works d traces groups set → ⊥
  none-works zero set below suspects few none works = omega (arith, below)
  none-works (suc n) set below suspects few none works =
      none-inside set set (All-contains_itself set) none
      (least-listed set suspects few works
      (λ inner part within proper working.
      let fewer : length inner < length set =
      within-fewer set inner (AllPairs-from_increasing set suspects.ascending)
      (AllPairs-from_increasing inner part.ascending) within proper in
      none-works n inner (omega (arith, fewer, below)) part (omega (arith, fewer, few))
      (false_from_ne_true (has_one list inner) (none-inside inner set within none)) working))

  -- a set that works has a listed one within it
  pub works-has : (set : List ℕ) → IsSet groups set → length set ≤ k → Works d traces groups set
      → has_one list set ≡ true
  works-has set suspects few works =
      true_from_ne_false (has_one list set)
      (λ none. none-works (suc (length set)) set (omega arith) suspects few none works)

  -- and a set that has one works
  pub has-works : IsWellFormed d → (set : List ℕ) → has_one list set ≡ true → Works d traces groups set
  has-works well set some =
      let (one, member, within) = list_any-found (λ one. is_within one set) list some in
      works-more d traces groups one set well (within-is one set within)
      (All-member (IsEntry d traces groups k) list one is.entries member).minimal.works

-- for one trace some values of the set's places make it right
abbrev pub WorksFor : Design → Groups → List ℕ → Trace → Type 0
WorksFor d groups set trace =
    (c : Choices) × AreOfWidth d (places_of groups set) c × Meets d trace (places_of groups set) c

module _ (d : Design) (groups : Groups) (k : ℕ) where
  -- what works for all traces works for each
  pub works-one : (traces : List Trace) (set : List ℕ) → Works d traces groups set → (trace : Trace)
      → Contains traces trace
      → Works d (trace ∷ []) groups set
  works-one traces set works trace member other among = at (Contains-cons trace [] other among)
    where
      at : (trace ≡ other) ⊎ Contains [] other → WorksFor d groups set other
      at (inl same) = subst (WorksFor d groups set) same (works trace member)
      at (inr none) = absurd (Contains-empty other none)

  -- for each trace it has a listed set within it
  pub works-each : (traces : List Trace) (lists : List (List (List ℕ))) → AreTraceLists d traces groups k lists
      → (set : List ℕ)
      → IsSet groups set → length set ≤ k → ((trace : Trace) → Contains traces trace → Works d (trace ∷ []) groups set)
      → has_one_of_each lists set ≡ true
  works-each [] [] are set suspects few each = refl
  works-each [] (list ∷ lists) are set suspects few each = absurd are
  works-each (trace ∷ traces) [] are set suspects few each = absurd are
  works-each (trace ∷ traces) (list ∷ lists) are set suspects few each =
      and_from (has_one list set) (has_one_of_each lists set)
      (works-has d (trace ∷ []) groups k list are.0 set suspects few (each trace (Contains-first trace traces)))
      (works-each traces lists are.1 set suspects few
      (λ other member. each other (Contains-later trace traces other member)))

  -- and where it has, it works for each
  pub each-works : IsWellFormed d → (traces : List Trace) (lists : List (List (List ℕ)))
      → AreTraceLists d traces groups k lists → (set : List ℕ)
      → has_one_of_each lists set ≡ true → Works d traces groups set
  each-works well [] [] are set has other member = absurd (Contains-empty other member)
  each-works well [] (list ∷ lists) are set has other member = absurd are
  each-works well (trace ∷ traces) [] are set has other member = absurd are
  each-works well (trace ∷ traces) (list ∷ lists) are set has other member =
      let (here, behind) = and_parts (has_one list set) (has_one_of_each lists set) has in
      at here (Contains-cons trace traces other member) (each-works well traces lists are.1 set behind other)
    where
      at : has_one list set ≡ true → (trace ≡ other) ⊎ Contains traces other
          → (Contains traces other → WorksFor d groups set other)
          → WorksFor d groups set other
      at here (inl same) rest =
          subst (WorksFor d groups set) same
          (has-works d (trace ∷ []) groups k list are.0 well set here trace (Contains-first trace []))
      at here (inr later) rest = rest later

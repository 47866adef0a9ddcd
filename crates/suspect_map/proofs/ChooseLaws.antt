-- Steps of the loops that look granularities up by name.
use Rattle.std.proofs.Common.{◌≡◌, ℕ, ◌+◌, ◌<◌, Bool, true, false, List, [], ◌++◌, length, get_or, drop, Some, None, sym, ◌∙◌, ap, subst, nat_eq, append_assoc}
use Rattle.std.specs.Prelude.{All, option_map}
use Rattle.std.specs.Option.{option_map_or}
use Rattle.std.specs.List.Sorted.{IsStrictlyIncreasing}
use Rattle.std.specs.Cmp.Lexicographic.{pointwise}
use Rattle.std.proofs.lemmas.Bool.{cond-true, cond-false}
use Rattle.std.proofs.lemmas.List.Elements.{All-append}
use Rattle.loc_base.proofs.ShelfLists.{drop-at}
use Rattle.loc_base.proofs.ShelfOptions.{option_map-some}
use Rattle.design_core.specs.declared.place.Place.{Place}
use Rattle.suspect_map.specs.declared.group.Group.{Group}
use Rattle.suspect_map.specs.Groups.{AreAscending, AreWithin}
use Rattle.suspect_map.specs.Choose.{named, unknown, unknown_or, joined}

module _ {G : Type 0} (called : G → List ℕ) where
  -- the first that has the name is the one at hand
  pub named-here : (kinds : List G) (i : ℕ) (kind : G) (name : List ℕ) → i < length kinds → kind ≡ get_or kinds i kind
      → pointwise nat_eq (called kind) name ≡ true → named called (drop i kinds) name ≡ Some kind
  named-here kinds i kind name within is same = ap (λ rest. named called rest name) (drop-at kinds i kind within is) ∙ cond-true _ _ _ same

  -- or one behind it
  pub named-next : (kinds : List G) (i : ℕ) (kind : G) (name : List ℕ) → i < length kinds → kind ≡ get_or kinds i kind
      → pointwise nat_eq (called kind) name ≡ false → named called (drop i kinds) name ≡ named called (drop (i + 1) kinds) name
  named-next kinds i kind name within is other = ap (λ rest. named called rest name) (drop-at kinds i kind within is) ∙ cond-false _ _ _ other

  module _ (lists : G → List Place → List Group) (kinds : List G) (names : List (List ℕ)) (places : List Place) (i : ℕ) (name : List ℕ)
      (within : i < length names) (is : name ≡ get_or names i name) where
    -- a name that none has is the first unknown one
    pub unknown-here : named called kinds name ≡ None → unknown called kinds (drop i names) ≡ Some name
    unknown-here none = ap (unknown called kinds) (drop-at names i name within is) ∙ ap (λ found. unknown_or name found (unknown called kinds (drop (i + 1) names))) none

    -- one that some has is none
    pub unknown-next : (kind : G) → named called kinds name ≡ Some kind → unknown called kinds (drop i names) ≡ unknown called kinds (drop (i + 1) names)
    unknown-next kind found = ap (unknown called kinds) (drop-at names i name within is) ∙ ap (λ x. unknown_or name x (unknown called kinds (drop (i + 1) names))) found

    -- the suspects of a name stand before those of the names behind it
    pub joined-next : (groups : List Group) (kind : G) → named called kinds name ≡ Some kind
        → (groups ++ lists kind places) ++ joined called lists kinds (drop (i + 1) names) places ≡ groups ++ joined called lists kinds (drop i names) places
    joined-next groups kind found =
        append_assoc groups (lists kind places) (joined called lists kinds (drop (i + 1) names) places)
        ∙ ap (λ (xs : List Group). groups ++ xs)
        (ap (λ x. option_map_or (λ k. lists k places) x [] ++ joined called lists kinds (drop (i + 1) names) places) (sym found)
        ∙ ap (λ rest. joined called lists kinds rest places) (sym (drop-at names i name within is)))

-- the suspects of the first granularity that has the name
pub groups-found : {G : Type 0} (kinds : List G) (called : G → List ℕ) (lists : G → List Group) (i : ℕ) (kind : G) (name : List ℕ) (same : Bool) (groups : List Group)
    → i < length kinds → kind ≡ get_or kinds i kind → same ≡ pointwise nat_eq (called kind) name → same ≡ true
    → named called (drop i kinds) name ≡ named called kinds name → groups ≡ lists kind → Some groups ≡ option_map lists (named called kinds name)
groups-found kinds called lists i kind name same groups within is tested passes rest found =
    ap Some found ∙ ap (option_map lists) (sym (named-here called kinds i kind name within is (sym tested ∙ passes)) ∙ rest)

-- what is known after the names up to one
pub record AreChosen {G : Type 0} (kinds : List G) (called : G → List ℕ) (lists : G → List Place → List Group) (names : List (List ℕ)) (places : List Place) (i : ℕ) (groups : List Group) : Type 0 where
  pub known : unknown called kinds (drop i names) ≡ unknown called kinds names
  pub joins : groups ++ joined called lists kinds (drop i names) places ≡ joined called lists kinds names places
  pub within : AreWithin (length places) groups
  pub ascending : AreAscending groups

-- and after one more
pub chosen-next : {G : Type 0} (kinds : List G) (called : G → List ℕ) (lists : G → List Place → List Group) (names : List (List ℕ)) (places : List Place) (i : ℕ) (name : List ℕ)
    (groups more after : List Group) → i < length names → name ≡ get_or names i name
    → Some more ≡ option_map (λ kind. lists kind places) (named called kinds name) → after ≡ groups ++ more → AreWithin (length places) more → AreAscending more
    → AreChosen kinds called lists names places i groups → AreChosen kinds called lists names places (i + 1) after
chosen-next kinds called lists names places i name groups more after within is found appended fits ascends before =
    let kind = option_map-some (λ kind. lists kind places) (named called kinds name) more (sym found) in
    let joins : (groups ++ more) ++ joined called lists kinds (drop (i + 1) names) places ≡ groups ++ joined called lists kinds (drop i names) places =
    ap (λ (xs : List Group). (groups ++ xs) ++ joined called lists kinds (drop (i + 1) names) places) (sym kind.2)
    ∙ joined-next called lists kinds names places i name within is groups kind.0 kind.1 in
    record {
      known = sym (unknown-next called lists kinds names places i name within is kind.0 kind.1) ∙ before.known;
      joins = ap (λ (xs : List Group). xs ++ joined called lists kinds (drop (i + 1) names) places) appended ∙ joins ∙ before.joins;
      within = subst (AreWithin (length places)) (sym appended) (All-append (λ group. All (λ number. number < length places) group.places) groups more before.within fits);
      ascending = subst AreAscending (sym appended) (All-append (λ group. IsStrictlyIncreasing group.places) groups more before.ascending ascends);
    }

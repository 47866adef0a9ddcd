-- Kinds of suspects that are found by their names, or aren't.
use Rattle.std.proofs.Common.{ℕ, ◌+◌, ◌≡◌, ◌<◌, Bool, true, false, List, [], ◌∷◌, map, length, drop, get_or, Option, Some, None, refl, sym, ap, ◌∙◌}
use Rattle.std.specs.Prelude.{if◌then◌else◌, is_some, nat_eq}
use Rattle.std.specs.Cmp.Lexicographic.{pointwise}
use Rattle.loc_base.proofs.ShelfLists.{drop-at}
use Rattle.suspect_map.specs.Choose.{named, unknown, unknown_or}
use Rattle.suspect_map.proofs.ChooseLaws.{named-here}

-- ---- by the kinds themselves
-- a kind of the name, behind kinds that aren't
pub known-here : {G : Type 0} (called : G → List ℕ) (kinds : List G) (i : ℕ) (kind : G) (name : List ℕ) (same : Bool)
    → i < length kinds → kind ≡ get_or kinds i kind → same ≡ pointwise nat_eq (called kind) name → same ≡ true
    → named called (drop i kinds) name ≡ named called kinds name → true ≡ is_some (named called kinds name)
known-here called kinds i kind name same within is tested passes rest =
    ap is_some (sym (named-here called kinds i kind name within is (sym tested ∙ passes)) ∙ rest)

-- a name that no kind has, or that one has
unknown-at : {G : Type 0} (name : List ℕ) (found : Option G) (later : Option (List ℕ)) → is_some found ≡ false
    → unknown_or name found later ≡ Some name
unknown-at name None later e = refl
unknown-at name (Some kind) later e = absurd (cc)

known-at : {G : Type 0} (name : List ℕ) (found : Option G) (later : Option (List ℕ)) → is_some found ≡ true
    → unknown_or name found later ≡ later
known-at name (Some kind) later e = refl
known-at name None later e = absurd (cc)

pub unknown-here : {G : Type 0} (called : G → List ℕ) (kinds : List G) (names : List (List ℕ)) (i : ℕ) (name : List ℕ) (known : Bool)
    → i < length names → name ≡ get_or names i name → known ≡ is_some (named called kinds name) → known ≡ false
    → unknown called kinds (drop i names) ≡ unknown called kinds names → Some name ≡ unknown called kinds names
unknown-here called kinds names i name known within is tested fails rest =
    sym (unknown-at name (named called kinds name) (unknown called kinds (drop (i + 1) names)) (sym tested ∙ fails))
    ∙ ap (unknown called kinds) (sym (drop-at names i name within is)) ∙ rest

pub known-next : {G : Type 0} (called : G → List ℕ) (kinds : List G) (names : List (List ℕ)) (i : ℕ) (name : List ℕ) (known : Bool)
    → i < length names → name ≡ get_or names i name → known ≡ is_some (named called kinds name) → known ≡ true
    → unknown called kinds (drop i names) ≡ unknown called kinds names
    → unknown called kinds (drop (i + 1) names) ≡ unknown called kinds names
known-next called kinds names i name known within is tested passes rest =
    sym (known-at name (named called kinds name) (unknown called kinds (drop (i + 1) names)) (sym tested ∙ passes))
    ∙ ap (unknown called kinds) (sym (drop-at names i name within is)) ∙ rest

-- ---- by their names
-- a kind is found by its name, whether by the kinds themselves or by their names
named-names : {G : Type 0} (called : G → List ℕ) (kinds : List G) (name : List ℕ)
    → is_some (named (λ n. n) (map called kinds) name) ≡ is_some (named called kinds name)
named-names called [] name = refl
named-names called (kind ∷ kinds) name = at (pointwise nat_eq (called kind) name) (named-names called kinds name)
  where
    at : (test : Bool) → is_some (named (λ n. n) (map called kinds) name) ≡ is_some (named called kinds name)
        → is_some (if test then Some (called kind) else named (λ n. n) (map called kinds) name)
        ≡ is_some (if test then Some kind else named called kinds name)
    at true later = refl
    at false later = later

or-same : {G H : Type 0} (name : List ℕ) (one : Option G) (other : Option H) (later : Option (List ℕ)) → is_some one ≡ is_some other
    → unknown_or name one later ≡ unknown_or name other later
or-same name (Some x) (Some y) later e = refl
or-same name None None later e = refl
or-same name (Some x) None later e = absurd (cc)
or-same name None (Some y) later e = absurd (cc)

pub unknown-names : {G : Type 0} (called : G → List ℕ) (kinds : List G) (names : List (List ℕ))
    → unknown (λ n. n) (map called kinds) names ≡ unknown called kinds names
unknown-names called kinds [] = refl
unknown-names called kinds (name ∷ names) =
    or-same name (named (λ n. n) (map called kinds) name) (named called kinds name) (unknown (λ n. n) (map called kinds) names)
    (named-names called kinds name)
    ∙ ap (unknown_or name (named called kinds name)) (unknown-names called kinds names)

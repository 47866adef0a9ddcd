-- The first member of a set that has a place.
use Rattle.std.proofs.Common.{◌≡◌, ◌<◌, ◌≤◌, ◌-◌, ℕ, Bool, true, false, ◌&&◌, List, length, get_or, drop, find, map, ap, sym, ◌∙◌, refl, Some, None, Option, option_map}
use Rattle.std.specs.Prelude.{◌==◌, nat_le, slice_get, unwrap_or}
use Rattle.std.specs.Option.{option_map_or}
use Rattle.std.specs.List.{list_any}
use Rattle.std.proofs.lemmas.Option.{get_or_from_slice_get, slice_get-get_or, slice_get-map}
use Rattle.design_core.specs.Explained.{is_one_of}
use Rattle.design_core.specs.Works.{suspect_has}
use Rattle.suspect_map.specs.declared.group.Group.{Group}
use Rattle.plain_values.proofs.EvaluateStatement.{found-first}
use Rattle.change_lines.specs.Telling.{places_in}

-- whether the suspect of a number has a place, by the group at that number
has-at : (groups : List Group) (place suspect : ℕ) (o : Option Group) → nat_le 1 suspect ≡ true → slice_get groups (suspect - 1) ≡ o
    → option_map_or (λ group. is_one_of (places_in group) place) o false ≡ suspect_has (map places_in groups) place suspect
has-at groups place suspect o counted at =
    mapped o
    ∙ ap (λ q. option_map_or (λ places. list_any (λ p. p == place) places) q false)
    (sym (slice_get-map places_in groups (suspect - 1) ∙ ap (option_map places_in) at))
    ∙ ap (λ t. t && option_map_or (λ places. list_any (λ p. p == place) places) (slice_get (map places_in groups) (suspect - 1)) false) (sym counted)
  where
    mapped : (o : Option Group) → option_map_or (λ group. is_one_of (places_in group) place) o false
        ≡ option_map_or (λ places. list_any (λ p. p == place) places) (option_map places_in o) false
    mapped None = refl
    mapped (Some group) = refl

pub has-some : (groups : List Group) (place suspect : ℕ) (group : Group) (found : Bool) → nat_le 1 suspect ≡ true
    → slice_get groups (suspect - 1) ≡ Some group → found ≡ is_one_of (places_in group) place
    → found ≡ suspect_has (map places_in groups) place suspect
has-some groups place suspect group found counted at is = is ∙ has-at groups place suspect (Some group) counted at

pub has-none : (groups : List Group) (place suspect : ℕ) → nat_le 1 suspect ≡ true → slice_get groups (suspect - 1) ≡ None
    → false ≡ suspect_has (map places_in groups) place suspect
has-none groups place suspect counted at = has-at groups place suspect None counted at

-- the member at a number is the first that passes a test
pub first-member : (test : ℕ → Bool) (members : List ℕ) (i : ℕ) → i < length members → test (get_or members i 0) ≡ true
    → find test (drop i members) ≡ find test members → get_or members i 0 ≡ unwrap_or (find test members) 0
first-member test members i low passes rest =
    let x : ℕ = get_or members i 0 in
    let at : slice_get members i ≡ Some x = slice_get-get_or members i 0 low in
    ap (λ o. unwrap_or o 0)
    (sym at ∙ found-first test members i x low (sym (get_or_from_slice_get members i x x at)) passes rest)

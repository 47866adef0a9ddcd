-- The key of a place by its module.
use Rattle.std.proofs.Common.{◌≡◌, ℕ, ◌<◌, List, length, get_or, map, Option, sym, ◌∙◌, ap}
use Rattle.std.proofs.lemmas.List.{get_or-map}
use Rattle.design_core.specs.declared.place.Place.{Place}
use Rattle.suspect_map.specs.Modules.{modules}

-- the key of a place at its number
pub module-key : (places : List Place) (i : ℕ) (place : Place) (key : Option (List ℕ)) → i < length places → place ≡ get_or places i place
    → key ≡ modules.key place → key ≡ get_or (map modules.key places) i key
module-key places i place key within is same =
    same ∙ ap (λ p. modules.key p) is ∙ sym (get_or-map modules.key places i place key within)

use Rattle.std.proofs.Common.{sym, rules}
use Rattle.std.proofs.lemmas.List.Sorted.{IsNonDecreasingBy-from_sort_by_key, list_any-IsPermutation}
use Rattle.place_functions.specs.Notes.{note_has, place_of}
use Rattle.place_functions.proofs.place_notes.by_place.Goals as goal

pub returns-clause-ordered : goal.returns-clause-ordered
returns-clause-ordered c = IsNonDecreasingBy-from_sort_by_key place_of _ c.sort_unstable_by_key.ensures.sorted (λ a r q k. search rules)

pub returns-clause-same : goal.returns-clause-same
returns-clause-same c = λ p s b. sym (list_any-IsPermutation (note_has p s b) _ _ c.sort_unstable_by_key.ensures.permutation)

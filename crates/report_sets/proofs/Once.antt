-- Names, each once: one more, and all.
use Rattle.std.proofs.Common.{◌≡◌, ◌≢◌, ℕ, ◌+◌, ◌<◌, ◌≤◌, List, [], ◌∷◌, ◌++◌, length, take, get_or, sym, ap, ◌∙◌, subst}
use Rattle.std.specs.Prelude.{All, AllPairs}
use Rattle.std.proofs.lemmas.List.{take_all, take_more}
use Rattle.std.proofs.lemmas.List.Quantifiers.{all_pairs_push}

abbrev pub AreOnce : List (List ℕ) → Type 0
AreOnce names = AllPairs (λ one other. one ≢ other) names

apart : (name : List ℕ) (names : List (List ℕ)) → All (λ other. other ≢ name) names
    → (k : ℕ) (d : List ℕ) → k < length names → get_or names k d ≢ name
apart name names new = new

pub once-next : (names : List (List ℕ)) (place : ℕ) (name : List ℕ) → place < length names → name ≡ get_or names place name
    → AreOnce (take place names) → All (λ other. other ≢ name) (take place names) → AreOnce (take (place + 1) names)
once-next names place name within is once new =
    subst AreOnce (sym (take_more names place name within ∙ ap (λ last. take place names ++ last ∷ []) (sym is)))
    (all_pairs_push (λ one other. one ≢ other) (take place names) name once (apart name (take place names) new))

pub once-all : (names : List (List ℕ)) (place : ℕ) → length names ≤ place → AreOnce (take place names) → AreOnce names
once-all names place past once = subst AreOnce (take_all place names past) once

-- Steps of the loops of operators.
use Rattle.std.proofs.Common.{◌≡◌, ℕ, ◌+◌, ◌<◌, ◌≤◌, false, List, [], ◌∷◌, ◌++◌, length, map, drop, get_or, sym, ◌∙◌, ap, append_assoc, append-nil}
use Rattle.std.proofs.lemmas.List.{drop_all}
use Rattle.gate_base.specs.declared.literal.Literal.{Literal}
use Rattle.gate_base.specs.declared.literal.Literal.TheVariants.{Known}
use Rattle.gate_base.specs.Literals.{opposite}
use Rattle.gate_base.proofs.Chains.{drop-literal}

pub opposites-more : (bits xs : List Literal) (i : ℕ) → i < length xs
    → bits ++ map opposite (drop i xs) ≡ (bits ++ opposite (get_or xs i (Known false)) ∷ []) ++ map opposite (drop (i + 1) xs)
opposites-more bits xs i within =
    ap (λ ys. bits ++ map opposite ys) (drop-literal xs i within)
    ∙ sym (append_assoc bits (opposite (get_or xs i (Known false)) ∷ []) (map opposite (drop (i + 1) xs)))

pub opposites-end : (bits xs : List Literal) (i : ℕ) → length xs ≤ i → bits ++ map opposite (drop i xs) ≡ bits
opposites-end bits xs i end = ap (λ ys. bits ++ map opposite ys) (drop_all i xs end) ∙ append-nil bits

pub ruleset opposites = (opposites-more, opposites-end)

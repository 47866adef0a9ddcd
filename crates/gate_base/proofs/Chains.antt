-- Steps of chains over literals.
use Rattle.std.proofs.Common.{◌≡◌, ℕ, ◌+◌, ◌≤◌, ◌<◌, false, List, ◌∷◌, length, get_or, drop, sym, ◌∙◌, ap, add-one, drop-cons}
use Rattle.std.proofs.lemmas.List.{drop_all}
use Rattle.gate_base.specs.declared.literal.Literal.{Literal}
use Rattle.gate_base.specs.declared.literal.Literal.TheVariants.{Known}
use Rattle.gate_base.specs.declared.node.Node.{Node}
use Rattle.gate_base.specs.Nodes.{counted, made, and_made, or_made, xor_made, and_all_made, or_all_made, xor_all_made}
use Rattle.gate_base.proofs.Counts.{refused-more, counted-and_all, counted-or_all, counted-xor_all}

-- the literals from a place on
pub drop-literal : (xs : List Literal) (i : ℕ) → i < length xs → drop i xs ≡ get_or xs i (Known false) ∷ drop (i + 1) xs
drop-literal xs i within = drop-cons xs i (Known false) within ∙ ap (λ n. get_or xs i (Known false) ∷ drop n xs) (sym (add-one i))

pub and_all-more : (nodes : List Node) (x : Literal) (xs : List Literal) (i : ℕ) → i < length xs
    → and_all_made nodes x (drop i xs) ≡ and_all_made (and_made nodes x (get_or xs i (Known false))).nodes (and_made nodes x (get_or xs i (Known false))).bit (drop (i + 1) xs)
unfolding and_all_made
and_all-more nodes x xs i within = ap (and_all_made nodes x) (drop-literal xs i within)

pub and_all-end : (nodes : List Node) (x : Literal) (xs : List Literal) (i : ℕ) → length xs ≤ i → and_all_made nodes x (drop i xs) ≡ made nodes x
unfolding and_all_made
and_all-end nodes x xs i end = ap (and_all_made nodes x) (drop_all i xs end)

pub counted-and_all_more : (nodes : List Node) (x : Literal) (xs : List Literal) (i : ℕ) → i < length xs
    → counted (and_made nodes x (get_or xs i (Known false))).nodes ≤ counted (and_all_made nodes x (drop i xs)).nodes
counted-and_all_more nodes x xs i within =
    let m = and_made nodes x (get_or xs i (Known false)) in
    rw (and_all-more nodes x xs i within) (counted-and_all m.nodes m.bit (drop (i + 1) xs))

pub ruleset and_chain = (and_all-more, and_all-end, counted-and_all_more, refused-more)

pub or_all-more : (nodes : List Node) (x : Literal) (xs : List Literal) (i : ℕ) → i < length xs
    → or_all_made nodes x (drop i xs) ≡ or_all_made (or_made nodes x (get_or xs i (Known false))).nodes (or_made nodes x (get_or xs i (Known false))).bit (drop (i + 1) xs)
unfolding or_all_made
or_all-more nodes x xs i within = ap (or_all_made nodes x) (drop-literal xs i within)

pub or_all-end : (nodes : List Node) (x : Literal) (xs : List Literal) (i : ℕ) → length xs ≤ i → or_all_made nodes x (drop i xs) ≡ made nodes x
unfolding or_all_made
or_all-end nodes x xs i end = ap (or_all_made nodes x) (drop_all i xs end)

pub counted-or_all_more : (nodes : List Node) (x : Literal) (xs : List Literal) (i : ℕ) → i < length xs
    → counted (or_made nodes x (get_or xs i (Known false))).nodes ≤ counted (or_all_made nodes x (drop i xs)).nodes
counted-or_all_more nodes x xs i within =
    let m = or_made nodes x (get_or xs i (Known false)) in
    rw (or_all-more nodes x xs i within) (counted-or_all m.nodes m.bit (drop (i + 1) xs))

pub ruleset or_chain = (or_all-more, or_all-end, counted-or_all_more, refused-more)

pub xor_all-more : (nodes : List Node) (x : Literal) (xs : List Literal) (i : ℕ) → i < length xs
    → xor_all_made nodes x (drop i xs) ≡ xor_all_made (xor_made nodes x (get_or xs i (Known false))).nodes (xor_made nodes x (get_or xs i (Known false))).bit (drop (i + 1) xs)
unfolding xor_all_made
xor_all-more nodes x xs i within = ap (xor_all_made nodes x) (drop-literal xs i within)

pub xor_all-end : (nodes : List Node) (x : Literal) (xs : List Literal) (i : ℕ) → length xs ≤ i → xor_all_made nodes x (drop i xs) ≡ made nodes x
unfolding xor_all_made
xor_all-end nodes x xs i end = ap (xor_all_made nodes x) (drop_all i xs end)

pub counted-xor_all_more : (nodes : List Node) (x : Literal) (xs : List Literal) (i : ℕ) → i < length xs
    → counted (xor_made nodes x (get_or xs i (Known false))).nodes ≤ counted (xor_all_made nodes x (drop i xs)).nodes
counted-xor_all_more nodes x xs i within =
    let m = xor_made nodes x (get_or xs i (Known false)) in
    rw (xor_all-more nodes x xs i within) (counted-xor_all m.nodes m.bit (drop (i + 1) xs))

pub ruleset xor_chain = (xor_all-more, xor_all-end, counted-xor_all_more, refused-more)

-- Steps of the comparison for equality.
use Rattle.std.proofs.Common.{◌≡◌, ℕ, ◌+◌, ◌≤◌, ◌<◌, min, false, List, [], ◌∷◌, length, get_or, drop, inl, inr, refl, ◌∙◌, ap, ap₂, arith}
use Rattle.gate_base.specs.declared.literal.Literal.{Literal}
use Rattle.gate_base.specs.declared.literal.Literal.TheVariants.{Known}
use Rattle.gate_base.specs.declared.node.Node.{Node}
use Rattle.gate_base.specs.Literals.{opposite}
use Rattle.gate_base.specs.Nodes.{made, counted, and_made, xor_made, AddsAnds}
use Rattle.gate_base.proofs.Counts.{refused-more, adds-none, adds-then, adds-counted, and-adds, or-adds, xor-adds, mux-adds, counted-and, counted-or, counted-xor, counted-mux}
use Rattle.gate_base.proofs.Chains.{drop-literal}
use Rattle.bit_words.specs.Equal.{equal_made}
use Rattle.bit_words.proofs.Steps.{ended}

pub equal-adds : (nodes : List Node) (so_far : Literal) (xs ys : List Literal) → AddsAnds nodes (equal_made nodes so_far xs ys).nodes
unfolding equal_made
equal-adds nodes so_far [] ys = adds-none nodes
equal-adds nodes so_far (x ∷ xs) [] = adds-none nodes
equal-adds nodes so_far (x ∷ xs) (y ∷ ys) =
    let d = xor_made nodes x y in
    let m = and_made d.nodes so_far (opposite d.bit) in
    adds-then (xor-adds nodes x y) (adds-then (and-adds d.nodes so_far (opposite d.bit)) (equal-adds m.nodes m.bit xs ys))

pub equal-more : (nodes : List Node) (so_far : Literal) (xs ys : List Literal) (i : ℕ) → i < length xs → i < length ys
    → equal_made nodes so_far (drop i xs) (drop i ys)
    ≡ equal_made (and_made (xor_made nodes (get_or xs i (Known false)) (get_or ys i (Known false))).nodes so_far (opposite (xor_made nodes (get_or xs i (Known false)) (get_or ys i (Known false))).bit)).nodes
    (and_made (xor_made nodes (get_or xs i (Known false)) (get_or ys i (Known false))).nodes so_far (opposite (xor_made nodes (get_or xs i (Known false)) (get_or ys i (Known false))).bit)).bit (drop (i + 1) xs) (drop (i + 1) ys)
unfolding equal_made
equal-more nodes so_far xs ys i in_xs in_ys = ap₂ (equal_made nodes so_far) (drop-literal xs i in_xs) (drop-literal ys i in_ys)

equal-none : (nodes : List Node) (so_far : Literal) (xs : List Literal) → equal_made nodes so_far xs [] ≡ made nodes so_far
unfolding equal_made
equal-none nodes so_far [] = refl
equal-none nodes so_far (x ∷ xs) = refl

pub equal-end : (nodes : List Node) (so_far : Literal) (xs ys : List Literal) (i : ℕ) → min (length xs) (length ys) ≤ i
    → equal_made nodes so_far (drop i xs) (drop i ys) ≡ made nodes so_far
unfolding equal_made
equal-end nodes so_far xs ys i end =
    elim (ended xs ys i end) [
      | inl is ↦ ap (λ zs. equal_made nodes so_far zs (drop i ys)) is
      | inr is ↦ ap (λ zs. equal_made nodes so_far (drop i xs) zs) is ∙ equal-none nodes so_far (drop i xs)
    ]

pub counted-equal_more : (nodes : List Node) (so_far : Literal) (xs ys : List Literal) (i : ℕ) → i < length xs → i < length ys
    → counted (and_made (xor_made nodes (get_or xs i (Known false)) (get_or ys i (Known false))).nodes so_far (opposite (xor_made nodes (get_or xs i (Known false)) (get_or ys i (Known false))).bit)).nodes
    ≤ counted (equal_made nodes so_far (drop i xs) (drop i ys)).nodes
counted-equal_more nodes so_far xs ys i in_xs in_ys =
    let d = xor_made nodes (get_or xs i (Known false)) (get_or ys i (Known false)) in
    let m = and_made d.nodes so_far (opposite d.bit) in
    rw (equal-more nodes so_far xs ys i in_xs in_ys) (adds-counted (equal-adds m.nodes m.bit (drop (i + 1) xs) (drop (i + 1) ys)))

pub counted-equal_first : (nodes : List Node) (so_far : Literal) (xs ys : List Literal) (i : ℕ) → i < length xs → i < length ys
    → counted (xor_made nodes (get_or xs i (Known false)) (get_or ys i (Known false))).nodes ≤ counted (equal_made nodes so_far (drop i xs) (drop i ys)).nodes
counted-equal_first nodes so_far xs ys i in_xs in_ys =
    let d = xor_made nodes (get_or xs i (Known false)) (get_or ys i (Known false)) in
    omega (arith, counted-and d.nodes so_far (opposite d.bit), counted-equal_more nodes so_far xs ys i in_xs in_ys)

pub ruleset steps = (equal-more, equal-end, counted-equal_more, counted-equal_first, refused-more)

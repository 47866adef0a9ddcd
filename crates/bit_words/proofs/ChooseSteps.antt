-- Steps of a choice of two words.
use Rattle.std.proofs.Common.{◌≡◌, ℕ, ◌+◌, ◌≤◌, ◌<◌, min, false, List, [], ◌∷◌, ◌++◌, length, get_or, drop, inl, inr, refl, ◌∙◌, ap, ap₂}
use Rattle.gate_base.specs.declared.literal.Literal.{Literal}
use Rattle.gate_base.specs.declared.literal.Literal.TheVariants.{Known}
use Rattle.gate_base.specs.declared.node.Node.{Node}
use Rattle.gate_base.specs.Nodes.{word, counted, mux_made, AddsAnds}
use Rattle.gate_base.proofs.Counts.{refused-more, adds-none, adds-then, adds-counted, and-adds, or-adds, xor-adds, mux-adds, counted-and, counted-or, counted-xor, counted-mux}
use Rattle.gate_base.proofs.Chains.{drop-literal}
use Rattle.bit_words.specs.Choose.{choice_made}
use Rattle.bit_words.proofs.Steps.{ended}

pub choice-adds : (nodes : List Node) (bits : List Literal) (c : Literal) (xs ys : List Literal) → AddsAnds nodes (choice_made nodes bits c xs ys).nodes
unfolding choice_made
choice-adds nodes bits c [] ys = adds-none nodes
choice-adds nodes bits c (x ∷ xs) [] = adds-none nodes
choice-adds nodes bits c (x ∷ xs) (y ∷ ys) =
    let m = mux_made nodes c x y in adds-then (mux-adds nodes c x y) (choice-adds m.nodes (bits ++ m.bit ∷ []) c xs ys)

pub choice-more : (nodes : List Node) (bits : List Literal) (c : Literal) (xs ys : List Literal) (i : ℕ) → i < length xs → i < length ys
    → choice_made nodes bits c (drop i xs) (drop i ys)
    ≡ choice_made (mux_made nodes c (get_or xs i (Known false)) (get_or ys i (Known false))).nodes
    (bits ++ (mux_made nodes c (get_or xs i (Known false)) (get_or ys i (Known false))).bit ∷ []) c (drop (i + 1) xs) (drop (i + 1) ys)
unfolding choice_made
choice-more nodes bits c xs ys i in_xs in_ys = ap₂ (choice_made nodes bits c) (drop-literal xs i in_xs) (drop-literal ys i in_ys)

choice-none : (nodes : List Node) (bits : List Literal) (c : Literal) (xs : List Literal) → choice_made nodes bits c xs [] ≡ word nodes bits
unfolding choice_made
choice-none nodes bits c [] = refl
choice-none nodes bits c (x ∷ xs) = refl

pub choice-end : (nodes : List Node) (bits : List Literal) (c : Literal) (xs ys : List Literal) (i : ℕ) → min (length xs) (length ys) ≤ i
    → choice_made nodes bits c (drop i xs) (drop i ys) ≡ word nodes bits
unfolding choice_made
choice-end nodes bits c xs ys i end =
    elim (ended xs ys i end) [
      | inl is ↦ ap (λ zs. choice_made nodes bits c zs (drop i ys)) is
      | inr is ↦ ap (λ zs. choice_made nodes bits c (drop i xs) zs) is ∙ choice-none nodes bits c (drop i xs)
    ]

pub counted-choice_more : (nodes : List Node) (bits : List Literal) (c : Literal) (xs ys : List Literal) (i : ℕ) → i < length xs → i < length ys
    → counted (mux_made nodes c (get_or xs i (Known false)) (get_or ys i (Known false))).nodes ≤ counted (choice_made nodes bits c (drop i xs) (drop i ys)).nodes
counted-choice_more nodes bits c xs ys i in_xs in_ys =
    let m = mux_made nodes c (get_or xs i (Known false)) (get_or ys i (Known false)) in
    rw (choice-more nodes bits c xs ys i in_xs in_ys) (adds-counted (choice-adds m.nodes (bits ++ m.bit ∷ []) c (drop (i + 1) xs) (drop (i + 1) ys)))

pub ruleset steps = (choice-more, choice-end, counted-choice_more, refused-more)

-- Steps of the operators that go bit by bit.
use Rattle.std.proofs.Common.{◌≡◌, ℕ, ◌+◌, ◌≤◌, ◌<◌, min, false, List, [], ◌∷◌, ◌++◌, length, get_or, drop, inl, inr, refl, ◌∙◌, ap, ap₂}
use Rattle.gate_base.specs.declared.literal.Literal.{Literal}
use Rattle.gate_base.specs.declared.literal.Literal.TheVariants.{Known}
use Rattle.gate_base.specs.declared.node.Node.{Node}
use Rattle.gate_base.specs.Nodes.{word, counted, AddsAnds}
use Rattle.gate_base.proofs.Counts.{refused-more, adds-none, adds-then, adds-counted, and-adds, or-adds, xor-adds, mux-adds, counted-and, counted-or, counted-xor, counted-mux}
use Rattle.gate_base.proofs.Chains.{drop-literal}
use Rattle.bit_words.specs.declared.bitwise.Bitwise.{Bitwise}
use Rattle.bit_words.specs.declared.bitwise.Bitwise.TheVariants as bitwise
use Rattle.bit_words.specs.Bitwise.{bit_made, bitwise_made}
use Rattle.bit_words.proofs.Steps.{ended}

pub bit-adds : (operator : Bitwise) (nodes : List Node) (x y : Literal) → AddsAnds nodes (bit_made operator nodes x y).nodes
unfolding bit_made
bit-adds bitwise.And nodes x y = and-adds nodes x y
bit-adds bitwise.Or nodes x y = or-adds nodes x y
bit-adds bitwise.Xor nodes x y = xor-adds nodes x y
bit-adds bitwise.Xnor nodes x y = xor-adds nodes x y

pub bitwise-adds : (operator : Bitwise) (nodes : List Node) (bits xs ys : List Literal) → AddsAnds nodes (bitwise_made operator nodes bits xs ys).nodes
unfolding bitwise_made
bitwise-adds operator nodes bits [] ys = adds-none nodes
bitwise-adds operator nodes bits (x ∷ xs) [] = adds-none nodes
bitwise-adds operator nodes bits (x ∷ xs) (y ∷ ys) =
    let m = bit_made operator nodes x y in adds-then (bit-adds operator nodes x y) (bitwise-adds operator m.nodes (bits ++ m.bit ∷ []) xs ys)

pub bitwise-more : (operator : Bitwise) (nodes : List Node) (bits xs ys : List Literal) (i : ℕ) → i < length xs → i < length ys
    → bitwise_made operator nodes bits (drop i xs) (drop i ys)
    ≡ bitwise_made operator (bit_made operator nodes (get_or xs i (Known false)) (get_or ys i (Known false))).nodes
    (bits ++ (bit_made operator nodes (get_or xs i (Known false)) (get_or ys i (Known false))).bit ∷ []) (drop (i + 1) xs) (drop (i + 1) ys)
unfolding bitwise_made
bitwise-more operator nodes bits xs ys i in_xs in_ys = ap₂ (bitwise_made operator nodes bits) (drop-literal xs i in_xs) (drop-literal ys i in_ys)

bitwise-none : (operator : Bitwise) (nodes : List Node) (bits xs : List Literal) → bitwise_made operator nodes bits xs [] ≡ word nodes bits
unfolding bitwise_made
bitwise-none operator nodes bits [] = refl
bitwise-none operator nodes bits (x ∷ xs) = refl

pub bitwise-end : (operator : Bitwise) (nodes : List Node) (bits xs ys : List Literal) (i : ℕ) → min (length xs) (length ys) ≤ i
    → bitwise_made operator nodes bits (drop i xs) (drop i ys) ≡ word nodes bits
unfolding bitwise_made
bitwise-end operator nodes bits xs ys i end =
    elim (ended xs ys i end) [
      | inl is ↦ ap (λ zs. bitwise_made operator nodes bits zs (drop i ys)) is
      | inr is ↦ ap (λ zs. bitwise_made operator nodes bits (drop i xs) zs) is ∙ bitwise-none operator nodes bits (drop i xs)
    ]

pub counted-bitwise_more : (operator : Bitwise) (nodes : List Node) (bits xs ys : List Literal) (i : ℕ) → i < length xs → i < length ys
    → counted (bit_made operator nodes (get_or xs i (Known false)) (get_or ys i (Known false))).nodes ≤ counted (bitwise_made operator nodes bits (drop i xs) (drop i ys)).nodes
counted-bitwise_more operator nodes bits xs ys i in_xs in_ys =
    let m = bit_made operator nodes (get_or xs i (Known false)) (get_or ys i (Known false)) in
    rw (bitwise-more operator nodes bits xs ys i in_xs in_ys) (adds-counted (bitwise-adds operator m.nodes (bits ++ m.bit ∷ []) (drop (i + 1) xs) (drop (i + 1) ys)))

pub ruleset steps = (bitwise-more, bitwise-end, counted-bitwise_more, refused-more)

-- Steps of products.
use Rattle.std.proofs.Common.{◌≡◌, ℕ, ◌+◌, ◌-◌, ◌≤◌, ◌<◌, false, List, [], ◌∷◌, ◌++◌, length, get_or, drop, take, ap}
use Rattle.std.proofs.lemmas.List.{drop_all}
use Rattle.gate_base.specs.declared.literal.Literal.{Literal}
use Rattle.gate_base.specs.declared.literal.Literal.TheVariants.{Known}
use Rattle.gate_base.specs.declared.node.Node.{Node}
use Rattle.gate_base.specs.Nodes.{word, counted, and_made, AddsAnds}
use Rattle.gate_base.proofs.Counts.{refused-more, adds-none, adds-then, adds-counted, and-adds, or_all-adds, counted-or_all}
use Rattle.gate_base.proofs.Chains.{drop-literal}
use Rattle.bit_words.specs.Add.{sum_made, zeros}
use Rattle.bit_words.specs.Multiply.{row_made, row_added, rows_added}
use Rattle.bit_words.proofs.AddSteps.{sum-adds}

row-adds : (nodes : List Node) (bits xs : List Literal) (b : Literal) → AddsAnds nodes (row_made nodes bits xs b).nodes
unfolding row_made
row-adds nodes bits [] b = adds-none nodes
row-adds nodes bits (x ∷ xs) b = let m = and_made nodes x b in adds-then (and-adds nodes x b) (row-adds m.nodes (bits ++ m.bit ∷ []) xs b)

pub row-more : (nodes : List Node) (bits xs : List Literal) (b : Literal) (i : ℕ) → i < length xs
    → row_made nodes bits (drop i xs) b
    ≡ row_made (and_made nodes (get_or xs i (Known false)) b).nodes (bits ++ (and_made nodes (get_or xs i (Known false)) b).bit ∷ []) (drop (i + 1) xs) b
unfolding row_made
row-more nodes bits xs b i within = ap (λ ys. row_made nodes bits ys b) (drop-literal xs i within)

pub row-end : (nodes : List Node) (bits xs : List Literal) (b : Literal) (i : ℕ) → length xs ≤ i → row_made nodes bits (drop i xs) b ≡ word nodes bits
unfolding row_made
row-end nodes bits xs b i end = ap (λ ys. row_made nodes bits ys b) (drop_all i xs end)

pub counted-row_more : (nodes : List Node) (bits xs : List Literal) (b : Literal) (i : ℕ) → i < length xs
    → counted (and_made nodes (get_or xs i (Known false)) b).nodes ≤ counted (row_made nodes bits (drop i xs) b).nodes
counted-row_more nodes bits xs b i within =
    let m = and_made nodes (get_or xs i (Known false)) b in
    rw (row-more nodes bits xs b i within) (adds-counted (row-adds m.nodes (bits ++ m.bit ∷ []) (drop (i + 1) xs) b))

pub ruleset rows = (row-more, row-end, counted-row_more, refused-more)

pub counted-sum : (nodes : List Node) (bits xs ys : List Literal) (carry : Literal) → counted nodes ≤ counted (sum_made nodes bits xs ys carry).nodes
counted-sum nodes bits xs ys carry = adds-counted (sum-adds nodes bits xs ys carry)

pub ruleset added = (counted-sum, refused-more)

row_added-adds : (nodes : List Node) (so_far xs : List Literal) (place : ℕ) (b : Literal) → AddsAnds nodes (row_added nodes so_far xs place b).nodes
unfolding row_added
row_added-adds nodes so_far xs place b =
    let row = row_made nodes (zeros place) (take (length xs - place) xs) b in
    adds-then (row-adds nodes (zeros place) (take (length xs - place) xs) b) (sum-adds row.nodes [] so_far row.bits (Known false))

pub rows_added-adds : (nodes : List Node) (so_far xs : List Literal) (place : ℕ) (ys : List Literal) → AddsAnds nodes (rows_added nodes so_far xs place ys).nodes
unfolding rows_added
rows_added-adds nodes so_far xs place [] = adds-none nodes
rows_added-adds nodes so_far xs place (y ∷ ys) =
    let m = row_added nodes so_far xs place y in adds-then (row_added-adds nodes so_far xs place y) (rows_added-adds m.nodes m.bits xs (place + 1) ys)

pub rows_added-more : (nodes : List Node) (so_far xs ys : List Literal) (place : ℕ) → place < length ys
    → rows_added nodes so_far xs place (drop place ys)
    ≡ rows_added (row_added nodes so_far xs place (get_or ys place (Known false))).nodes (row_added nodes so_far xs place (get_or ys place (Known false))).bits xs (place + 1) (drop (place + 1) ys)
unfolding rows_added
rows_added-more nodes so_far xs ys place within = ap (rows_added nodes so_far xs place) (drop-literal ys place within)

pub rows_added-end : (nodes : List Node) (so_far xs ys : List Literal) (place : ℕ) → length ys ≤ place → rows_added nodes so_far xs place (drop place ys) ≡ word nodes so_far
unfolding rows_added
rows_added-end nodes so_far xs ys place end = ap (rows_added nodes so_far xs place) (drop_all place ys end)

pub counted-rows_added_more : (nodes : List Node) (so_far xs ys : List Literal) (place : ℕ) → place < length ys
    → counted (row_added nodes so_far xs place (get_or ys place (Known false))).nodes ≤ counted (rows_added nodes so_far xs place (drop place ys)).nodes
counted-rows_added_more nodes so_far xs ys place within =
    let m = row_added nodes so_far xs place (get_or ys place (Known false)) in
    rw (rows_added-more nodes so_far xs ys place within) (adds-counted (rows_added-adds m.nodes m.bits xs (place + 1) (drop (place + 1) ys)))

pub ruleset products = (rows_added-more, rows_added-end, counted-rows_added_more, refused-more)

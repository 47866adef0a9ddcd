-- Steps of sums.
use Rattle.std.proofs.Common.{◌≡◌, ℕ, suc, ◌+◌, ◌-◌, ◌≤◌, ◌<◌, min, Bool, true, false, ltb, List, [], ◌∷◌, length, get_or, drop, map, inl, inr, refl, ◌∙◌, ap, ap₂, arith, length-drop}
use Rattle.gate_base.specs.declared.literal.Literal.{Literal}
use Rattle.gate_base.specs.declared.literal.Literal.TheVariants.{Known}
use Rattle.gate_base.specs.declared.node.Node.{Node}
use Rattle.gate_base.specs.Nodes.{word, counted, and_made, xor_made, AddsAnds}
use Rattle.gate_base.proofs.Counts.{refused-more, adds-none, adds-then, adds-counted, and-adds, or-adds, xor-adds, mux-adds, counted-and, counted-or, counted-xor, counted-mux}
use Rattle.gate_base.proofs.Chains.{drop-literal}
use Rattle.std.proofs.lemmas.List.{get_or-map, length-map}
use Rattle.std.proofs.lemmas.Grind.{common_steps}
use Rattle.bit_words.specs.Bits.{have_more, turned}
use Rattle.bit_words.specs.Add.{carry_made, carry_if, column_made, sum_made}
use Rattle.bit_words.proofs.Steps.{ended}

zero-within : (n : ℕ) → false ≡ ltb 0 (min 0 n)
zero-within n = grind (arith, common_steps)

zero-beyond : (n : ℕ) → false ≡ ltb 0 (min (suc n) 0)
zero-beyond n = grind (arith, common_steps)

both-within : (m n : ℕ) → true ≡ ltb 0 (min (suc m) (suc n))
both-within m n = grind (arith, common_steps)

left-of : (m n i : ℕ) → ltb 0 (min (m - (i + 1)) (n - (i + 1))) ≡ ltb (i + 1) (min m n)
left-of m n i = grind (arith, common_steps)

pub carry-adds : (nodes : List Node) (a b carry one : Literal) → AddsAnds nodes (carry_made nodes a b carry one).nodes
unfolding carry_made
carry-adds nodes a b carry one =
    let p = and_made nodes a b in
    let q = and_made p.nodes carry one in
    adds-then (and-adds nodes a b) (adds-then (and-adds p.nodes carry one) (or-adds q.nodes p.bit q.bit))

pub carry_if-adds : (follows : Bool) (nodes : List Node) (a b carry one : Literal) → AddsAnds nodes (carry_if follows nodes a b carry one).nodes
unfolding carry_if
carry_if-adds true nodes a b carry one = carry-adds nodes a b carry one
carry_if-adds false nodes a b carry one = adds-none nodes

pub counted-carry_if : (follows : Bool) (nodes : List Node) (a b carry one : Literal) → counted nodes ≤ counted (carry_if follows nodes a b carry one).nodes
counted-carry_if follows nodes a b carry one = adds-counted (carry_if-adds follows nodes a b carry one)

pub column-adds : (nodes : List Node) (bits : List Literal) (follows : Bool) (a b carry : Literal) → AddsAnds nodes (column_made nodes bits follows a b carry).nodes
unfolding column_made
column-adds nodes bits follows a b carry =
    let one = xor_made nodes a b in
    let sum = xor_made one.nodes one.bit carry in
    adds-then (xor-adds nodes a b) (adds-then (xor-adds one.nodes one.bit carry) (carry_if-adds follows sum.nodes a b carry one.bit))

pub sum-adds : (nodes : List Node) (bits xs ys : List Literal) (carry : Literal) → AddsAnds nodes (sum_made nodes bits xs ys carry).nodes
unfolding sum_made
sum-adds nodes bits [] ys carry = adds-none nodes
sum-adds nodes bits (x ∷ xs) [] carry = adds-none nodes
sum-adds nodes bits (x ∷ xs) (y ∷ ys) carry =
    let m = column_made nodes bits (have_more xs ys) x y carry in
    adds-then (column-adds nodes bits (have_more xs ys) x y carry) (sum-adds m.nodes m.bits xs ys m.carry)

-- both have more behind a place that isn't the last of the shorter
have_more-within : (xs ys : List Literal) → have_more xs ys ≡ ltb 0 (min (length xs) (length ys))
have_more-within [] ys = zero-within (length ys)
have_more-within (x ∷ xs) [] = zero-beyond (length xs)
have_more-within (x ∷ xs) (y ∷ ys) = both-within (length xs) (length ys)

have_more-drop : (xs ys : List Literal) (i : ℕ) → have_more (drop (i + 1) xs) (drop (i + 1) ys) ≡ ltb (i + 1) (min (length xs) (length ys))
have_more-drop xs ys i =
    have_more-within (drop (i + 1) xs) (drop (i + 1) ys)
    ∙ ap₂ (λ m n. ltb 0 (min m n)) (length-drop (i + 1) xs) (length-drop (i + 1) ys)
    ∙ left-of (length xs) (length ys) i

-- ---- the loop, over the second word or its opposite bits

-- the bit of the second operand at a place
pub turned-at : (negated : Bool) (ys : List Literal) (i : ℕ) → i < length ys → get_or (map (turned negated) ys) i (Known false) ≡ turned negated (get_or ys i (Known false))
turned-at negated ys i within = get_or-map (turned negated) ys i (Known false) (Known false) within

sum-step : (nodes : List Node) (bits xs ys : List Literal) (carry x y : Literal) (follows : Bool) (rest_x rest_y : List Literal)
    → xs ≡ x ∷ rest_x → ys ≡ y ∷ rest_y → have_more rest_x rest_y ≡ follows
    → sum_made nodes bits xs ys carry ≡ sum_made (column_made nodes bits follows x y carry).nodes (column_made nodes bits follows x y carry).bits rest_x rest_y (column_made nodes bits follows x y carry).carry
unfolding sum_made
sum-step nodes bits xs ys carry x y follows rest_x rest_y xs_is ys_is follows_is =
    ap₂ (λ p q. sum_made nodes bits p q carry) xs_is ys_is
    ∙ ap (λ f. sum_made (column_made nodes bits f x y carry).nodes (column_made nodes bits f x y carry).bits rest_x rest_y (column_made nodes bits f x y carry).carry) follows_is

pub sum-more : (negated : Bool) (nodes : List Node) (bits xs ys : List Literal) (carry : Literal) (i : ℕ) → i < length xs → i < length ys
    → sum_made nodes bits (drop i xs) (drop i (map (turned negated) ys)) carry
    ≡ sum_made (column_made nodes bits (ltb (i + 1) (min (length xs) (length ys))) (get_or xs i (Known false)) (turned negated (get_or ys i (Known false))) carry).nodes
    (column_made nodes bits (ltb (i + 1) (min (length xs) (length ys))) (get_or xs i (Known false)) (turned negated (get_or ys i (Known false))) carry).bits
    (drop (i + 1) xs) (drop (i + 1) (map (turned negated) ys))
    (column_made nodes bits (ltb (i + 1) (min (length xs) (length ys))) (get_or xs i (Known false)) (turned negated (get_or ys i (Known false))) carry).carry
sum-more negated nodes bits xs ys carry i in_xs in_ys =
    let zs = map (turned negated) ys in
    let in_zs : i < length zs = rw (length-map ys (turned negated)) in_ys in
    sum-step nodes bits (drop i xs) (drop i zs) carry (get_or xs i (Known false)) (turned negated (get_or ys i (Known false)))
    (ltb (i + 1) (min (length xs) (length ys))) (drop (i + 1) xs) (drop (i + 1) zs)
    (drop-literal xs i in_xs)
    (drop-literal zs i in_zs ∙ ap (λ z. z ∷ drop (i + 1) zs) (turned-at negated ys i in_ys))
    (have_more-drop xs zs i ∙ ap (λ n. ltb (i + 1) (min (length xs) n)) (length-map ys (turned negated)))

sum-none : (nodes : List Node) (bits xs : List Literal) (carry : Literal) → sum_made nodes bits xs [] carry ≡ word nodes bits
unfolding sum_made
sum-none nodes bits [] carry = refl
sum-none nodes bits (x ∷ xs) carry = refl

pub sum-end : (negated : Bool) (nodes : List Node) (bits xs ys : List Literal) (carry : Literal) (i : ℕ) → min (length xs) (length ys) ≤ i
    → sum_made nodes bits (drop i xs) (drop i (map (turned negated) ys)) carry ≡ word nodes bits
unfolding sum_made
sum-end negated nodes bits xs ys carry i end =
    let zs = map (turned negated) ys in
    let past : min (length xs) (length zs) ≤ i = rw (length-map ys (turned negated)) end in
    elim (ended xs zs i past) [
      | inl is ↦ ap (λ ws. sum_made nodes bits ws (drop i zs) carry) is
      | inr is ↦ ap (λ ws. sum_made nodes bits (drop i xs) ws carry) is ∙ sum-none nodes bits (drop i xs) carry
    ]

pub counted-sum_more : (negated : Bool) (nodes : List Node) (bits xs ys : List Literal) (carry : Literal) (i : ℕ) → i < length xs → i < length ys
    → counted (column_made nodes bits (ltb (i + 1) (min (length xs) (length ys))) (get_or xs i (Known false)) (turned negated (get_or ys i (Known false))) carry).nodes
    ≤ counted (sum_made nodes bits (drop i xs) (drop i (map (turned negated) ys)) carry).nodes
counted-sum_more negated nodes bits xs ys carry i in_xs in_ys =
    let m = column_made nodes bits (ltb (i + 1) (min (length xs) (length ys))) (get_or xs i (Known false)) (turned negated (get_or ys i (Known false))) carry in
    rw (sum-more negated nodes bits xs ys carry i in_xs in_ys)
    (adds-counted (sum-adds m.nodes m.bits (drop (i + 1) xs) (drop (i + 1) (map (turned negated) ys)) m.carry))

pub ruleset steps = (sum-more, sum-end, counted-sum_more, refused-more)

-- a word as it stands
pub map-turned_false : (xs : List Literal) → map (turned false) xs ≡ xs
map-turned_false [] = refl
map-turned_false (x ∷ xs) = ap (λ ys. x ∷ ys) (map-turned_false xs)

pub ruleset operands = (map-turned_false)

pub ruleset columns = (counted-carry_if, counted-xor, refused-more)

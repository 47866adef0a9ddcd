-- Steps of reads and stores by a variable index.
use Rattle.std.proofs.Common.{◌≡◌, ℕ, ◌+◌, ◌/◌, ◌%◌, ◌≤◌, ◌<◌, ◌==◌, min, true, false, List, [], ◌∷◌, length, get_or, drop, Option, Some, None, ◌⊎◌, inl, inr, refl, sym, ◌∙◌, ap, ap₂, arith, add-one, drop-cons}
use Rattle.std.proofs.lemmas.List.{drop_all}
use Rattle.gate_base.specs.declared.literal.Literal.{Literal}
use Rattle.gate_base.specs.declared.literal.Literal.TheVariants.{Known}
use Rattle.gate_base.specs.declared.node.Node.{Node}
use Rattle.gate_base.specs.Nodes.{made, counted, and_made, or_made, mux_made, AddsAnds}
use Rattle.gate_base.proofs.Counts.{refused-more, adds-none, adds-then, adds-counted, and-adds, or-adds, mux-adds}
use Rattle.gate_base.proofs.Chains.{drop-literal}
use Rattle.bit_words.specs.Bits.{turned}
use Rattle.bit_words.specs.Index.{number_made, match_made, pick_made, put_made}
use Rattle.std.proofs.lemmas.Grind.{common_steps}

number-adds : (nodes : List Node) (so_far : Literal) (xs : List Literal) (number : ℕ) → AddsAnds nodes (number_made nodes so_far xs number).nodes
unfolding number_made
number-adds nodes so_far [] number = adds-none nodes
number-adds nodes so_far (x ∷ xs) number =
    let l = turned (number % 2 == 0) x in
    let m = and_made nodes so_far l in adds-then (and-adds nodes so_far l) (number-adds m.nodes m.bit xs (number / 2))

pub number-more : (nodes : List Node) (so_far : Literal) (xs : List Literal) (number i : ℕ) → i < length xs
    → number_made nodes so_far (drop i xs) number
    ≡ number_made (and_made nodes so_far (turned (number % 2 == 0) (get_or xs i (Known false)))).nodes (and_made nodes so_far (turned (number % 2 == 0) (get_or xs i (Known false)))).bit (drop (i + 1) xs) (number / 2)
unfolding number_made
number-more nodes so_far xs number i within = ap (λ ys. number_made nodes so_far ys number) (drop-literal xs i within)

pub number-end : (nodes : List Node) (so_far : Literal) (xs : List Literal) (number i : ℕ) → length xs ≤ i → number_made nodes so_far (drop i xs) number ≡ made nodes so_far
unfolding number_made
number-end nodes so_far xs number i end = ap (λ ys. number_made nodes so_far ys number) (drop_all i xs end)

pub counted-number_more : (nodes : List Node) (so_far : Literal) (xs : List Literal) (number i : ℕ) → i < length xs
    → counted (and_made nodes so_far (turned (number % 2 == 0) (get_or xs i (Known false)))).nodes ≤ counted (number_made nodes so_far (drop i xs) number).nodes
counted-number_more nodes so_far xs number i within =
    let m = (and_made nodes so_far (turned (number % 2 == 0) (get_or xs i (Known false)))) in rw (number-more nodes so_far xs number i within) (adds-counted (number-adds m.nodes m.bit (drop (i + 1) xs) (number / 2)))

pub ruleset numbers = (number-more, number-end, counted-number_more, refused-more)

pub match-adds : (nodes : List Node) (index : List Literal) (name : Option ℕ) → AddsAnds nodes (match_made nodes index name).nodes
unfolding match_made
match-adds nodes index None = adds-none nodes
match-adds nodes index (Some number) = number-adds nodes (Known true) index number

-- the names from a place on
drop-name : (names : List (Option ℕ)) (i : ℕ) → i < length names → drop i names ≡ get_or names i None ∷ drop (i + 1) names
drop-name names i within = drop-cons names i None within ∙ ap (λ n. get_or names i None ∷ drop n names) (sym (add-one i))

-- one past the end of the shorter of two lists
past : {A B : Type 0} (xs : List A) (ys : List B) (i : ℕ) → min (length xs) (length ys) ≤ i → (drop i xs ≡ []) ⊎ (drop i ys ≡ [])
past xs ys i end =
    elim (one-of (length xs) (length ys) i end) [ inl is ↦ inl (drop_all i xs is) | inr is ↦ inr (drop_all i ys is) ]
  where
    one-of : (m n i : ℕ) → min m n ≤ i → (m ≤ i) ⊎ (n ≤ i)
    one-of m n i end = grind (arith, common_steps)

pub pick-adds : (nodes : List Node) (so_far : Literal) (index xs : List Literal) (names : List (Option ℕ)) → AddsAnds nodes (pick_made nodes so_far index xs names).nodes
unfolding pick_made
pick-adds nodes so_far index [] names = adds-none nodes
pick-adds nodes so_far index (x ∷ xs) [] = adds-none nodes
pick-adds nodes so_far index (x ∷ xs) (name ∷ names) =
    let q = match_made nodes index name in
    let p = and_made q.nodes x q.bit in
    let m = or_made p.nodes so_far p.bit in
    adds-then (match-adds nodes index name) (adds-then (and-adds q.nodes x q.bit) (adds-then (or-adds p.nodes so_far p.bit) (pick-adds m.nodes m.bit index xs names)))

pub pick-more : (nodes : List Node) (so_far : Literal) (index xs : List Literal) (names : List (Option ℕ)) (i : ℕ) → i < length xs → i < length names
    → pick_made nodes so_far index (drop i xs) (drop i names) ≡ pick_made (or_made (and_made (match_made nodes index (get_or names i None)).nodes (get_or xs i (Known false)) (match_made nodes index (get_or names i None)).bit).nodes so_far (and_made (match_made nodes index (get_or names i None)).nodes (get_or xs i (Known false)) (match_made nodes index (get_or names i None)).bit).bit).nodes (or_made (and_made (match_made nodes index (get_or names i None)).nodes (get_or xs i (Known false)) (match_made nodes index (get_or names i None)).bit).nodes so_far (and_made (match_made nodes index (get_or names i None)).nodes (get_or xs i (Known false)) (match_made nodes index (get_or names i None)).bit).bit).bit index (drop (i + 1) xs) (drop (i + 1) names)
unfolding pick_made
pick-more nodes so_far index xs names i in_xs in_names = ap₂ (pick_made nodes so_far index) (drop-literal xs i in_xs) (drop-name names i in_names)

pick-none : (nodes : List Node) (so_far : Literal) (index xs : List Literal) → pick_made nodes so_far index xs [] ≡ made nodes so_far
unfolding pick_made
pick-none nodes so_far index [] = refl
pick-none nodes so_far index (x ∷ xs) = refl

pub pick-end : (nodes : List Node) (so_far : Literal) (index xs : List Literal) (names : List (Option ℕ)) (i : ℕ) → min (length xs) (length names) ≤ i
    → pick_made nodes so_far index (drop i xs) (drop i names) ≡ made nodes so_far
unfolding pick_made
pick-end nodes so_far index xs names i end =
    elim (past xs names i end) [
      | inl is ↦ ap (λ zs. pick_made nodes so_far index zs (drop i names)) is
      | inr is ↦ ap (λ zs. pick_made nodes so_far index (drop i xs) zs) is ∙ pick-none nodes so_far index (drop i xs)
    ]

module _ (nodes : List Node) (so_far : Literal) (index xs : List Literal) (names : List (Option ℕ)) (i : ℕ) (in_xs : i < length xs) (in_names : i < length names) where
  pub counted-pick_more : counted (or_made (and_made (match_made nodes index (get_or names i None)).nodes (get_or xs i (Known false)) (match_made nodes index (get_or names i None)).bit).nodes so_far (and_made (match_made nodes index (get_or names i None)).nodes (get_or xs i (Known false)) (match_made nodes index (get_or names i None)).bit).bit).nodes ≤ counted (pick_made nodes so_far index (drop i xs) (drop i names)).nodes
  counted-pick_more =
      let m = (or_made (and_made (match_made nodes index (get_or names i None)).nodes (get_or xs i (Known false)) (match_made nodes index (get_or names i None)).bit).nodes so_far (and_made (match_made nodes index (get_or names i None)).nodes (get_or xs i (Known false)) (match_made nodes index (get_or names i None)).bit).bit) in rw (pick-more nodes so_far index xs names i in_xs in_names) (adds-counted (pick-adds m.nodes m.bit index (drop (i + 1) xs) (drop (i + 1) names)))

  pub counted-pick_second : counted (and_made (match_made nodes index (get_or names i None)).nodes (get_or xs i (Known false)) (match_made nodes index (get_or names i None)).bit).nodes ≤ counted (pick_made nodes so_far index (drop i xs) (drop i names)).nodes
  counted-pick_second = let p = (and_made (match_made nodes index (get_or names i None)).nodes (get_or xs i (Known false)) (match_made nodes index (get_or names i None)).bit) in omega (arith, counted-pick_more, adds-counted (or-adds p.nodes so_far p.bit))

  pub counted-pick_first : counted (match_made nodes index (get_or names i None)).nodes ≤ counted (pick_made nodes so_far index (drop i xs) (drop i names)).nodes
  counted-pick_first = let q = (match_made nodes index (get_or names i None)) in omega (arith, counted-pick_second, adds-counted (and-adds q.nodes (get_or xs i (Known false)) q.bit))

pub ruleset picks = (pick-more, pick-end, counted-pick_more, counted-pick_second, counted-pick_first, refused-more)

pub put-adds : (nodes : List Node) (so_far : Literal) (index xs : List Literal) (names : List (Option ℕ)) → AddsAnds nodes (put_made nodes so_far index xs names).nodes
unfolding put_made
put-adds nodes so_far index [] names = adds-none nodes
put-adds nodes so_far index (x ∷ xs) [] = adds-none nodes
put-adds nodes so_far index (x ∷ xs) (name ∷ names) =
    let q = match_made nodes index name in
    let m = mux_made q.nodes q.bit x so_far in
    adds-then (match-adds nodes index name) (adds-then (mux-adds q.nodes q.bit x so_far) (put-adds m.nodes m.bit index xs names))

pub put-more : (nodes : List Node) (so_far : Literal) (index xs : List Literal) (names : List (Option ℕ)) (i : ℕ) → i < length xs → i < length names
    → put_made nodes so_far index (drop i xs) (drop i names) ≡ put_made (mux_made (match_made nodes index (get_or names i None)).nodes (match_made nodes index (get_or names i None)).bit (get_or xs i (Known false)) so_far).nodes (mux_made (match_made nodes index (get_or names i None)).nodes (match_made nodes index (get_or names i None)).bit (get_or xs i (Known false)) so_far).bit index (drop (i + 1) xs) (drop (i + 1) names)
unfolding put_made
put-more nodes so_far index xs names i in_xs in_names = ap₂ (put_made nodes so_far index) (drop-literal xs i in_xs) (drop-name names i in_names)

put-none : (nodes : List Node) (so_far : Literal) (index xs : List Literal) → put_made nodes so_far index xs [] ≡ made nodes so_far
unfolding put_made
put-none nodes so_far index [] = refl
put-none nodes so_far index (x ∷ xs) = refl

pub put-end : (nodes : List Node) (so_far : Literal) (index xs : List Literal) (names : List (Option ℕ)) (i : ℕ) → min (length xs) (length names) ≤ i
    → put_made nodes so_far index (drop i xs) (drop i names) ≡ made nodes so_far
unfolding put_made
put-end nodes so_far index xs names i end =
    elim (past xs names i end) [
      | inl is ↦ ap (λ zs. put_made nodes so_far index zs (drop i names)) is
      | inr is ↦ ap (λ zs. put_made nodes so_far index (drop i xs) zs) is ∙ put-none nodes so_far index (drop i xs)
    ]

module _ (nodes : List Node) (so_far : Literal) (index xs : List Literal) (names : List (Option ℕ)) (i : ℕ) (in_xs : i < length xs) (in_names : i < length names) where
  pub counted-put_more : counted (mux_made (match_made nodes index (get_or names i None)).nodes (match_made nodes index (get_or names i None)).bit (get_or xs i (Known false)) so_far).nodes ≤ counted (put_made nodes so_far index (drop i xs) (drop i names)).nodes
  counted-put_more =
      let m = (mux_made (match_made nodes index (get_or names i None)).nodes (match_made nodes index (get_or names i None)).bit (get_or xs i (Known false)) so_far) in rw (put-more nodes so_far index xs names i in_xs in_names) (adds-counted (put-adds m.nodes m.bit index (drop (i + 1) xs) (drop (i + 1) names)))

  pub counted-put_first : counted (match_made nodes index (get_or names i None)).nodes ≤ counted (put_made nodes so_far index (drop i xs) (drop i names)).nodes
  counted-put_first = let q = (match_made nodes index (get_or names i None)) in omega (arith, counted-put_more, adds-counted (mux-adds q.nodes q.bit (get_or xs i (Known false)) so_far))

pub ruleset puts = (put-more, put-end, counted-put_more, counted-put_first, refused-more)

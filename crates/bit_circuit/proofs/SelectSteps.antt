-- Steps of the loops over bits by a variable index.
use Rattle.std.proofs.Common.{◌≡◌, ℕ, ◌+◌, ◌≤◌, ◌<◌, false, List, [], ◌∷◌, ◌++◌, length, map, get_or, drop, sym, ◌∙◌, ap, add-one, drop-cons}
use Rattle.std.specs.Prelude.{ℤ, pos}
use Rattle.std.proofs.lemmas.List.{drop_all}
use Rattle.gate_base.specs.declared.literal.Literal.{Literal}
use Rattle.gate_base.specs.declared.literal.Literal.TheVariants.{Known}
use Rattle.gate_base.specs.declared.node.Node.{Node}
use Rattle.gate_base.specs.Nodes.{Made, word, counted, AddsAnds}
use Rattle.gate_base.proofs.Counts.{refused-more, adds-none, adds-then, adds-counted}
use Rattle.gate_base.proofs.Chains.{drop-literal}
use Rattle.bit_words.specs.Index.{pick_made, put_made}
use Rattle.bit_words.proofs.IndexSteps.{pick-adds, put-adds}
use Rattle.word_net.specs.declared.node.Select.{Select}
use Rattle.bit_circuit.specs.Indexes.{name_at, names_from, picks_made, puts_made}

-- the bit that a select reads for an offset
abbrev pub picked_for : List Node → List Literal → List Literal → Select → ℤ → Made
picked_for nodes index xs select offset =
    pick_made nodes (Known false) index xs (names_from select offset 0 (length xs))

pub picks-adds : (nodes : List Node) (bits index xs : List Literal) (select : Select) (offsets : List ℤ)
    → AddsAnds nodes (picks_made nodes bits index xs select offsets).nodes
unfolding picks_made
picks-adds nodes bits index xs select [] = adds-none nodes
picks-adds nodes bits index xs select (offset ∷ offsets) =
    let m = picked_for nodes index xs select offset in
    adds-then (pick-adds nodes (Known false) index xs (names_from select offset 0 (length xs)))
    (picks-adds m.nodes (bits ++ m.bit ∷ []) index xs select offsets)

module _ (nodes : List Node) (bits index xs : List Literal) (select : Select) (offsets : List ℤ) (i : ℕ) where
  pub picks-more : i < length offsets
      → picks_made nodes bits index xs select (drop i offsets)
      ≡ picks_made (picked_for nodes index xs select (get_or offsets i (pos 0))).nodes
      (bits ++ (picked_for nodes index xs select (get_or offsets i (pos 0))).bit ∷ []) index xs select
      (drop (i + 1) offsets)
  unfolding picks_made
  picks-more within =
      ap (picks_made nodes bits index xs select)
      (drop-cons offsets i (pos 0) within ∙ ap (λ n. get_or offsets i (pos 0) ∷ drop n offsets) (sym (add-one i)))

  pub picks-end : length offsets ≤ i → picks_made nodes bits index xs select (drop i offsets) ≡ word nodes bits
  unfolding picks_made
  picks-end end = ap (picks_made nodes bits index xs select) (drop_all i offsets end)

  pub counted-picks_more : i < length offsets
      → counted (picked_for nodes index xs select (get_or offsets i (pos 0))).nodes
      ≤ counted (picks_made nodes bits index xs select (drop i offsets)).nodes
  counted-picks_more within =
      let m = picked_for nodes index xs select (get_or offsets i (pos 0)) in
      rw (picks-more within)
      (adds-counted (picks-adds m.nodes (bits ++ m.bit ∷ []) index xs select (drop (i + 1) offsets)))

pub ruleset picks = (picks-more, picks-end, counted-picks_more, refused-more)

-- a bit into which a select stores at a position
abbrev pub put_at : List Node → List Literal → List Literal → Select → ℕ → Literal → Made
put_at nodes index value select p x = put_made nodes x index value (map (name_at select p) select.offsets)

pub puts-adds : (nodes : List Node) (bits index value : List Literal) (select : Select) (p : ℕ) (xs : List Literal)
    → AddsAnds nodes (puts_made nodes bits index value select p xs).nodes
unfolding puts_made
puts-adds nodes bits index value select p [] = adds-none nodes
puts-adds nodes bits index value select p (x ∷ xs) =
    let m = put_at nodes index value select p x in
    adds-then (put-adds nodes x index value (map (name_at select p) select.offsets))
    (puts-adds m.nodes (bits ++ m.bit ∷ []) index value select (p + 1) xs)

module _ (nodes : List Node) (bits index value : List Literal) (select : Select) (p : ℕ) (xs : List Literal) (i : ℕ)
  where
    pub puts-more : i < length xs
        → puts_made nodes bits index value select p (drop i xs)
        ≡ puts_made (put_at nodes index value select p (get_or xs i (Known false))).nodes
        (bits ++ (put_at nodes index value select p (get_or xs i (Known false))).bit ∷ []) index value select (p + 1)
        (drop (i + 1) xs)
    unfolding puts_made
    puts-more within = ap (puts_made nodes bits index value select p) (drop-literal xs i within)

    pub puts-end : length xs ≤ i → puts_made nodes bits index value select p (drop i xs) ≡ word nodes bits
    unfolding puts_made
    puts-end end = ap (puts_made nodes bits index value select p) (drop_all i xs end)

    pub counted-puts_more : i < length xs
        → counted (put_at nodes index value select p (get_or xs i (Known false))).nodes
        ≤ counted (puts_made nodes bits index value select p (drop i xs)).nodes
    counted-puts_more within =
        let m = put_at nodes index value select p (get_or xs i (Known false)) in
        rw (puts-more within)
        (adds-counted (puts-adds m.nodes (bits ++ m.bit ∷ []) index value select (p + 1) (drop (i + 1) xs)))

pub ruleset puts = (puts-more, puts-end, counted-puts_more, refused-more)

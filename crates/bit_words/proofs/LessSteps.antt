-- Steps of the carries of a comparison.
use Rattle.std.proofs.Common.{◌≡◌, ℕ, zero, suc, ◌+◌, ◌≤◌, ◌<◌, Bool, false, List, [], ◌∷◌, length, get_or, drop, map, refl, ◌∙◌, ap, ap₂, arith}
use Rattle.std.proofs.lemmas.List.{drop_all}
use Rattle.gate_base.specs.declared.literal.Literal.{Literal}
use Rattle.gate_base.specs.declared.literal.Literal.TheVariants.{Known}
use Rattle.gate_base.specs.declared.node.Node.{Node}
use Rattle.gate_base.specs.Literals.{opposite}
use Rattle.gate_base.specs.Nodes.{made, counted, xor_made, AddsAnds}
use Rattle.gate_base.proofs.Counts.{refused-more, adds-none, adds-then, adds-counted, and-adds, or-adds, xor-adds, mux-adds, counted-and, counted-or, counted-xor, counted-mux}
use Rattle.gate_base.proofs.Chains.{drop-literal}
use Rattle.std.proofs.lemmas.List.{get_or-map, length-map}
use Rattle.bit_words.specs.Bits.{turned}
use Rattle.bit_words.specs.Add.{carry_made}
use Rattle.bit_words.specs.Less.{carries_made, with_top}
use Rattle.bit_words.proofs.AddSteps.{carry-adds}

pub length-with_top : (signed : Bool) (xs : List Literal) → length (with_top signed xs) ≡ length xs
length-with_top signed [] = refl
length-with_top signed (x ∷ []) = refl
length-with_top signed (x ∷ y ∷ ys) = ap suc (length-with_top signed (y ∷ ys))

-- the top bit, and one below it
pub with_top-last : (signed : Bool) (xs : List Literal) (i : ℕ) → i + 1 ≡ length xs → get_or (with_top signed xs) i (Known false) ≡ turned signed (get_or xs i (Known false))
with_top-last signed [] i last = absurd (omega (arith, last))
with_top-last signed (x ∷ []) zero last = refl
with_top-last signed (x ∷ []) (suc i) last = absurd (omega (arith, last))
with_top-last signed (x ∷ y ∷ ys) zero last = absurd (omega (arith, last))
with_top-last signed (x ∷ y ∷ ys) (suc i) last = with_top-last signed (y ∷ ys) i (omega (arith, last))

pub with_top-below : (signed : Bool) (xs : List Literal) (i : ℕ) → i < length xs → (i + 1 ≡ length xs → ⊥) → get_or (with_top signed xs) i (Known false) ≡ get_or xs i (Known false)
with_top-below signed [] i within below = absurd (omega (arith, within))
with_top-below signed (x ∷ []) zero within below = absurd (below (omega arith))
with_top-below signed (x ∷ []) (suc i) within below = absurd (omega (arith, within))
with_top-below signed (x ∷ y ∷ ys) zero within below = refl
with_top-below signed (x ∷ y ∷ ys) (suc i) within below =
    with_top-below signed (y ∷ ys) i (omega (arith, within)) (λ last. below (omega (arith, last)))

pub ruleset tops = (with_top-last, with_top-below)

pub carries-adds : (nodes : List Node) (carry : Literal) (xs ys : List Literal) → AddsAnds nodes (carries_made nodes carry xs ys).nodes
unfolding carries_made
carries-adds nodes carry [] ys = adds-none nodes
carries-adds nodes carry (x ∷ xs) [] = adds-none nodes
carries-adds nodes carry (x ∷ xs) (y ∷ ys) =
    let one = xor_made nodes x y in
    let next = carry_made one.nodes x y carry one.bit in
    adds-then (xor-adds nodes x y) (adds-then (carry-adds one.nodes x y carry one.bit) (carries-adds next.nodes next.bit xs ys))

carries-step : (nodes : List Node) (carry : Literal) (xs ys : List Literal) (x y : Literal) (rest_x rest_y : List Literal)
    → xs ≡ x ∷ rest_x → ys ≡ y ∷ rest_y
    → carries_made nodes carry xs ys ≡ carries_made (carry_made (xor_made nodes x y).nodes x y carry (xor_made nodes x y).bit).nodes (carry_made (xor_made nodes x y).nodes x y carry (xor_made nodes x y).bit).bit rest_x rest_y
unfolding carries_made
carries-step nodes carry xs ys x y rest_x rest_y xs_is ys_is = ap₂ (carries_made nodes carry) xs_is ys_is

module _ (signed : Bool) (nodes : List Node) (carry : Literal) (xs ys : List Literal) (i : ℕ) (in_xs : i < length xs) (in_ys : i < length ys) where
  pub carries-more : carries_made nodes carry (drop i (with_top signed xs)) (drop i (map opposite (with_top signed ys)))
      ≡ carries_made
      (carry_made (xor_made nodes (get_or (with_top signed xs) i (Known false)) (opposite (get_or (with_top signed ys) i (Known false)))).nodes
      (get_or (with_top signed xs) i (Known false)) (opposite (get_or (with_top signed ys) i (Known false))) carry
      (xor_made nodes (get_or (with_top signed xs) i (Known false)) (opposite (get_or (with_top signed ys) i (Known false)))).bit).nodes
      (carry_made (xor_made nodes (get_or (with_top signed xs) i (Known false)) (opposite (get_or (with_top signed ys) i (Known false)))).nodes
      (get_or (with_top signed xs) i (Known false)) (opposite (get_or (with_top signed ys) i (Known false))) carry
      (xor_made nodes (get_or (with_top signed xs) i (Known false)) (opposite (get_or (with_top signed ys) i (Known false)))).bit).bit
      (drop (i + 1) (with_top signed xs)) (drop (i + 1) (map opposite (with_top signed ys)))
  carries-more =
      let us = with_top signed xs in
      let vs = with_top signed ys in
      let in_us : i < length us = rw (length-with_top signed xs) in_xs in
      let in_vs : i < length vs = rw (length-with_top signed ys) in_ys in
      let in_ws : i < length (map opposite vs) = rw (length-map vs opposite) in_vs in
      carries-step nodes carry (drop i us) (drop i (map opposite vs)) (get_or us i (Known false)) (opposite (get_or vs i (Known false)))
      (drop (i + 1) us) (drop (i + 1) (map opposite vs)) (drop-literal us i in_us)
      (drop-literal (map opposite vs) i in_ws ∙ ap (λ z. z ∷ drop (i + 1) (map opposite vs)) (get_or-map opposite vs i (Known false) (Known false) in_vs))

  pub counted-carries_more :
      counted (carry_made (xor_made nodes (get_or (with_top signed xs) i (Known false)) (opposite (get_or (with_top signed ys) i (Known false)))).nodes
      (get_or (with_top signed xs) i (Known false)) (opposite (get_or (with_top signed ys) i (Known false))) carry
      (xor_made nodes (get_or (with_top signed xs) i (Known false)) (opposite (get_or (with_top signed ys) i (Known false)))).bit).nodes
      ≤ counted (carries_made nodes carry (drop i (with_top signed xs)) (drop i (map opposite (with_top signed ys)))).nodes
  counted-carries_more =
      let x = get_or (with_top signed xs) i (Known false) in
      let y = opposite (get_or (with_top signed ys) i (Known false)) in
      let one = xor_made nodes x y in
      let next = carry_made one.nodes x y carry one.bit in
      rw carries-more (adds-counted (carries-adds next.nodes next.bit (drop (i + 1) (with_top signed xs)) (drop (i + 1) (map opposite (with_top signed ys)))))

pub counted-carries_first : (signed : Bool) (nodes : List Node) (carry : Literal) (xs ys : List Literal) (i : ℕ) → i < length xs → i < length ys
    → counted (xor_made nodes (get_or (with_top signed xs) i (Known false)) (opposite (get_or (with_top signed ys) i (Known false)))).nodes
    ≤ counted (carries_made nodes carry (drop i (with_top signed xs)) (drop i (map opposite (with_top signed ys)))).nodes
counted-carries_first signed nodes carry xs ys i in_xs in_ys =
    let x = get_or (with_top signed xs) i (Known false) in
    let y = opposite (get_or (with_top signed ys) i (Known false)) in
    let one = xor_made nodes x y in
    omega (arith, adds-counted (carry-adds one.nodes x y carry one.bit), counted-carries_more signed nodes carry xs ys i in_xs in_ys)

pub carries-end : (signed : Bool) (nodes : List Node) (carry : Literal) (xs ys : List Literal) (i : ℕ) → length xs ≤ i
    → carries_made nodes carry (drop i (with_top signed xs)) (drop i (map opposite (with_top signed ys))) ≡ made nodes carry
unfolding carries_made
carries-end signed nodes carry xs ys i end =
    let past : length (with_top signed xs) ≤ i = rw (length-with_top signed xs) end in
    ap (λ us. carries_made nodes carry us (drop i (map opposite (with_top signed ys)))) (drop_all i (with_top signed xs) past)

pub counted-carry : (nodes : List Node) (a b carry one : Literal) → counted nodes ≤ counted (carry_made nodes a b carry one).nodes
counted-carry nodes a b carry one = adds-counted (carry-adds nodes a b carry one)

pub ruleset steps = (carries-more, carries-end, counted-carries_more, counted-carries_first, refused-more)

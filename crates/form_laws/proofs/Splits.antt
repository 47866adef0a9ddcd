-- What is true of each clause of all cycles is true of those of each definition and of each cycle's outputs, and the other
-- way round.
use Rattle.std.proofs.Common.{◌≡◌, ℕ, zero, suc, ◌+◌, ◌-◌, ◌<◌, ◌≤◌, List, [], ◌∷◌, ◌++◌, length, take, drop, Some, refl, sym, ◌∙◌, ap, subst, arith, ◌⊎◌, inl, inr}
use Rattle.std.specs.Prelude.{All, slice_get, slice_range}
use Rattle.std.proofs.lemmas.List.Elements.{All-nil, All-cons, All-head, All-tail, All-append}
use Rattle.std.proofs.lemmas.Bool.{cases_lt}
use Rattle.std.proofs.lemmas.Option.{slice_get_within}
use Rattle.loc_base.proofs.ShelfOptions.{Some-same}
use Rattle.loc_base.specs.Rows.{EndsAscend}
use Rattle.gate_base.specs.declared.node.Node.{Node}
use Rattle.design_core.specs.Given.{row}
use Rattle.clause_base.specs.declared.literal.Lit.{Lit}
use Rattle.unroller.specs.Unrolls.{Unrolling}
use Rattle.clause_form.specs.Clauses.{node_clauses, nodes_clauses, words_clauses, cycle_clauses, cycles_clauses}

-- the front of a list whose elements all hold
All-front : {A : Type 0} (P : A → Type 0) (xs ys : List A) → All P (xs ++ ys) → All P xs
All-front P [] ys all = All-nil P
All-front P (x ∷ xs) ys all = All-cons P x xs (All-head P x (xs ++ ys) all) (All-front P xs ys (All-tail P x (xs ++ ys) all))

-- and the rest
All-behind : {A : Type 0} (P : A → Type 0) (xs ys : List A) → All P (xs ++ ys) → All P ys
All-behind P [] ys all = all
All-behind P (x ∷ xs) ys all = All-behind P xs ys (All-tail P x (xs ++ ys) all)

-- an element of the first ones
slice_get-take : {X : Type 0} (xs : List X) (n i : ℕ) → i < n → slice_get (take n xs) i ≡ slice_get xs i
slice_get-take [] zero i less = refl
slice_get-take [] (suc n) i less = refl
slice_get-take (x ∷ xs) zero i less = absurd (omega (arith, less))
slice_get-take (x ∷ xs) (suc n) zero less = refl
slice_get-take (x ∷ xs) (suc n) (suc i) less = slice_get-take xs n i (omega (arith, less))

-- and of those behind some
slice_get-drop : {X : Type 0} (xs : List X) (n i : ℕ) → slice_get (drop n xs) i ≡ slice_get xs (n + i)
slice_get-drop xs zero i = ap (slice_get xs) zero-more
  where
    zero-more : i ≡ 0 + i
    zero-more = omega arith
slice_get-drop [] (suc n) i = refl
slice_get-drop (x ∷ xs) (suc n) i = slice_get-drop xs n i ∙ ap (slice_get (x ∷ xs)) suc-more
  where
    suc-more : suc (n + i) ≡ suc n + i
    suc-more = omega arith

-- an element of a part of a list
pub slice_get-range : {X : Type 0} (xs : List X) (from end i : ℕ) → from + i < end
    → slice_get (slice_range xs from end) i ≡ slice_get xs (from + i)
slice_get-range xs from end i less = slice_get-take (drop from xs) (end - from) i (omega (arith, less)) ∙ slice_get-drop xs from i

-- what is there of a part is within it
range-within : {X : Type 0} (xs : List X) (n i : ℕ) (x : X) → slice_get (take n xs) i ≡ Some x → i < n
range-within [] zero i x there = cc
range-within [] (suc n) i x there = cc
range-within (y ∷ xs) zero i x there = cc
range-within (y ∷ xs) (suc n) zero x there = omega arith
range-within (y ∷ xs) (suc n) (suc i) x there = let below = range-within xs n i x there in omega (arith, below)

module _ (Q : List Lit → Type 0) (base : ℕ) (selectors : ℕ → List Lit) where
  nodes-say : (first : ℕ) (nodes : List Node) → All Q (nodes_clauses base selectors first nodes)
      → (j : ℕ) (node : Node) → slice_get nodes j ≡ Some node → All Q (node_clauses base selectors (first + j) node)
  unfolding nodes_clauses
  nodes-say first [] all j node there = cc
  nodes-say first (x ∷ nodes) all zero node there =
      let here : first ≡ first + 0 = omega arith in
      subst (λ n. All Q (node_clauses base selectors n node)) here
      (subst (λ y. All Q (node_clauses base selectors first y)) (Some-same there)
      (All-front Q (node_clauses base selectors first x) (nodes_clauses base selectors (first + 1) nodes) all))
  nodes-say first (x ∷ nodes) all (suc j) node there =
      let number : first + 1 + j ≡ first + suc j = omega arith in
      subst (λ n. All Q (node_clauses base selectors n node)) number
      (nodes-say (first + 1) nodes
      (All-behind Q (node_clauses base selectors first x) (nodes_clauses base selectors (first + 1) nodes) all) j node there)

  nodes-hold : (first : ℕ) (nodes : List Node)
      → ((j : ℕ) (node : Node) → slice_get nodes j ≡ Some node → All Q (node_clauses base selectors (first + j) node))
      → All Q (nodes_clauses base selectors first nodes)
  unfolding nodes_clauses
  nodes-hold first [] each = All-nil Q
  nodes-hold first (x ∷ nodes) each =
      let here : first + 0 ≡ first = omega arith in
      All-append Q (node_clauses base selectors first x) (nodes_clauses base selectors (first + 1) nodes)
      (subst (λ n. All Q (node_clauses base selectors n x)) here (each 0 x refl))
      (nodes-hold (first + 1) nodes
      (λ j node there.
      let number : first + suc j ≡ first + 1 + j = omega arith in
      subst (λ n. All Q (node_clauses base selectors n node)) number (each (suc j) node there)))

module _ (Q : List Lit → Type 0) (u : Unrolling) (selectors : ℕ → List Lit) where
  -- the clauses of the definitions from a number on
  abbrev pub DefinitionsFrom : ℕ → Type 0
  DefinitionsFrom from = (i : ℕ) (node : Node) → from ≤ i → slice_get u.definitions i ≡ Some node
      → All Q (node_clauses u.base selectors i node)

  -- and those of the outputs of a cycle
  abbrev pub OutputsHold : ℕ → Type 0
  OutputsHold t = All Q (words_clauses u.base (row u.expected u.each t) (row u.outputs u.each t))

  -- the clauses of the cycles from one on
  pub record CyclesHold (t from : ℕ) (ends : List ℕ) : Type 0 where
    pub definitions : DefinitionsFrom from
    pub outputs : (i : ℕ) → i < length ends → OutputsHold (t + i)

  within-says : (t from end : ℕ) (ends : List ℕ) → All Q (nodes_clauses u.base selectors from (slice_range u.definitions from end))
      → DefinitionsFrom end → DefinitionsFrom from
  within-says t from end ends all behind i node after there =
      at (cases_lt i end)
    where
      at : (i < end) ⊎ (end ≤ i) → All Q (node_clauses u.base selectors i node)
      at (inl less) =
          let place : from + (i - from) ≡ i = omega (arith, after) in
          subst (λ n. All Q (node_clauses u.base selectors n node)) place
          (nodes-say Q u.base selectors from (slice_range u.definitions from end) all (i - from) node
          (slice_get-range u.definitions from end (i - from) (omega (arith, after, less))
          ∙ ap (slice_get u.definitions) place ∙ there))
      at (inr past) = behind i node past there

  pub cycles-say : (t from : ℕ) (ends : List ℕ) → EndsAscend from ends (length u.definitions)
      → All Q (cycles_clauses u selectors t from ends) → CyclesHold t from ends
  unfolding cycles_clauses cycle_clauses
  cycles-say t from [] ascend all = record {
    definitions = λ i node after there. absurd (none i node after there);
    outputs = λ i less. absurd (omega (arith, less));
  }
    where
      none : (i : ℕ) (node : Node) → from ≤ i → slice_get u.definitions i ≡ Some node → ⊥
      none i node after there =
          let below = slice_get_within u.definitions i node there in omega (arith, below, after, ascend)
  cycles-say t from (end ∷ ends) ascend all =
      let nodes = nodes_clauses u.base selectors from (slice_range u.definitions from end) in
      let words = words_clauses u.base (row u.expected u.each t) (row u.outputs u.each t) in
      let rest = cycles_clauses u selectors (t + 1) end ends in
      let here = All-front Q (nodes ++ words) rest all in
      let behind = cycles-say (t + 1) end ends ascend.1 (All-behind Q (nodes ++ words) rest all) in
      record {
        definitions = within-says t from end ends (All-front Q nodes words here) behind.definitions;
        outputs = λ i less. outputs-at i less (All-behind Q nodes words here) behind.outputs;
      }
    where
      outputs-at : (i : ℕ) → i < suc (length ends) → OutputsHold t → ((j : ℕ) → j < length ends → OutputsHold (t + 1 + j))
          → OutputsHold (t + i)
      outputs-at zero less one rest = let place : t ≡ t + 0 = omega arith in subst OutputsHold place one
      outputs-at (suc i) less one rest =
          let place : t + 1 + i ≡ t + suc i = omega arith in subst OutputsHold place (rest i (omega (arith, less)))

  pub cycles-hold : (t from : ℕ) (ends : List ℕ) → EndsAscend from ends (length u.definitions)
      → CyclesHold t from ends → All Q (cycles_clauses u selectors t from ends)
  unfolding cycles_clauses cycle_clauses
  cycles-hold t from [] ascend hold = All-nil Q
  cycles-hold t from (end ∷ ends) ascend hold =
      let nodes = nodes_clauses u.base selectors from (slice_range u.definitions from end) in
      let words = words_clauses u.base (row u.expected u.each t) (row u.outputs u.each t) in
      let rest = cycles_clauses u selectors (t + 1) end ends in
      let first : t + 0 ≡ t = omega arith in
      All-append Q (nodes ++ words) rest
      (All-append Q nodes words
      (nodes-hold Q u.base selectors from (slice_range u.definitions from end) part)
      (subst OutputsHold first (hold.outputs 0 (omega arith))))
      (cycles-hold (t + 1) end ends ascend.1 (record {
        definitions = λ i node after there. hold.definitions i node (omega (arith, after, ascend.0)) there;
        outputs = λ i less.
            let place : t + suc i ≡ t + 1 + i = omega arith in subst OutputsHold place (hold.outputs (suc i) (omega (arith, less)));
      }))
    where
      part : (j : ℕ) (node : Node) → slice_get (slice_range u.definitions from end) j ≡ Some node
          → All Q (node_clauses u.base selectors (from + j) node)
      part j node there =
          let inside : j < end - from = range-within (drop from u.definitions) (end - from) j node there in
          hold.definitions (from + j) node (omega arith)
          (sym (slice_get-range u.definitions from end j (omega (arith, inside))) ∙ there)

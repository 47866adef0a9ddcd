-- The variables of the clauses of pairs: they name selectors and definitions alone, so the longer form has its counter too.
use Rattle.std.proofs.Common.{◌≡◌, inl, inr, ℕ, suc, ◌+◌, ◌≤◌, Bool, true, false, if◌then◌else◌, List, [], ◌∷◌, ◌++◌, length, drop, get_or, Option, Some, None, refl, sym, ◌∙◌, ap, subst, arith, add-one, append_assoc, length-append}
use Rattle.std.specs.Prelude.{All}
use Rattle.std.specs.Option.{option_and_then}
use Rattle.std.proofs.Math.Seq.{drop-append_seam}
use Rattle.std.proofs.lemmas.List.Elements.{All-nil, All-cons, All-head, All-tail, All-append, All-weaker}
use Rattle.gate_base.specs.declared.literal.Literal.{Literal}
use Rattle.gate_base.specs.declared.literal.Literal.TheVariants.{Known, Of}
use Rattle.gate_base.specs.declared.node.Node.{Node}
use Rattle.gate_base.specs.Literals.{IsBelow, opposite}
use Rattle.gate_base.specs.Nodes.{AddsAnds, AreOrdered, AreOrderedFrom, xor_made}
use Rattle.gate_base.specs.Meaning.{Source, Grown, Means, bit_value}
use Rattle.gate_base.proofs.Meaning.{xor-means}
use Rattle.clause_base.specs.declared.literal.Lit.{Lit}
use Rattle.clause_base.specs.Literal.{AreWithin, IsWithin, has, negative}
use Rattle.clause_base.specs.Literal.{opposite as negation}
use Rattle.card_counter.specs.Places.{starts, IsNoCounter}
use Rattle.card_counter.specs.InForm.{HasCounter, NamesNoCounter}
use Rattle.clause_form.specs.Clauses.{simplified, with_literal, nodes_clauses, node_clauses}
use Rattle.unroller.specs.Reads.{IsWordBelow}
use Rattle.form_laws.proofs.Within.{IsNamed, AreNamed, node-named}
use Rattle.pair_form.specs.declared.pair.Pair.{Pair}
use Rattle.pair_form.specs.Pairs.{differ_made, settled, selected, settled_clause, two_clauses, groups_clauses, bits_clauses, pair_made, pair_clauses, pairs_made, pairs_clauses}
use Rattle.pair_form.specs.Following.{IsPair}
use Rattle.pair_form.proofs.Differing.{word-more, grown-length, differ-adds}
use Rattle.pair_form.proofs.PairMeans.{pair-grown, pair-more}
use Rattle.pair_form.proofs.PairsMean.{pairs-grown}

-- the selectors are of suspects
abbrev pub AreSuspects : ℕ → Pair → Type 0
AreSuspects n pair = All (λ x. (1 ≤ x) × (x ≤ n)) pair.groups

opposite-below : (count : ℕ) (l : Literal) → IsBelow count l → IsBelow count (opposite l)
unfolding opposite
opposite-below count (Known value) below = tt
opposite-below count (Of node negated) below = below

word-append : (count : ℕ) (xs ys : List Literal) → IsWordBelow count xs → IsWordBelow count ys → IsWordBelow count (xs ++ ys)
word-append count [] ys one other = other
word-append count (x ∷ xs) ys one other = (one.0, word-append count xs ys one.1 other)

-- ---- what is made of two words

mean : (e : Source) (nodes : List Node) (l : Literal) → IsBelow (length nodes) l → Means e nodes l (bit_value e nodes l)
mean e nodes l below = record { within = below; value = refl }

differ-below : (e : Source) (nodes : List Node) (made xs ys : List Literal) → IsWordBelow (length nodes) made → IsWordBelow (length nodes) xs
    → IsWordBelow (length nodes) ys → IsWordBelow (length (differ_made nodes made xs ys).nodes) (differ_made nodes made xs ys).bits
unfolding differ_made
differ-below e nodes made [] ys made_below xs_below ys_below = made_below
differ-below e nodes made (x ∷ xs) [] made_below xs_below ys_below = made_below
differ-below e nodes made (x ∷ xs) (y ∷ ys) made_below xs_below ys_below =
    let m = xor_made nodes x y in
    let gives = xor-means (mean e nodes x xs_below.0) (mean e nodes y ys_below.0) in
    let longer = grown-length gives.grown in
    differ-below e m.nodes (made ++ m.bit ∷ []) xs ys
    (word-append (length m.nodes) made (m.bit ∷ []) (word-more (length nodes) (length m.nodes) made longer made_below) (gives.means.within, tt))
    (word-more (length nodes) (length m.nodes) xs longer xs_below.1) (word-more (length nodes) (length m.nodes) ys longer ys_below.1)

-- definitions behind others are in order
ordered-behind : (i : ℕ) (nodes more : List Node) → AreOrderedFrom i (nodes ++ more) → AreOrderedFrom (i + length nodes) more
ordered-behind i [] more ordered = let here : i ≡ i + 0 = omega arith in subst (λ n. AreOrderedFrom n more) here ordered
ordered-behind i (node ∷ nodes) more ordered =
    let next : suc i + length nodes ≡ i + suc (length nodes) = omega arith in
    subst (λ n. AreOrderedFrom n more) next (ordered-behind (suc i) nodes more ordered.1)

module _ (n base count : ℕ) where
  abbrev Named : List Lit → Type 0
  Named clause = AreNamed n base (base + count) clause

  -- what there is of a clause names these alone
  abbrev OptionNamed : Option (List Lit) → Type 0
  OptionNamed None = Unit {0}
  OptionNamed (Some clause) = Named clause

  with-named : (l : Lit) (o : Option (List Lit)) → IsNamed n base (base + count) l → OptionNamed o → OptionNamed (with_literal l o)
  with-named l None is rest = tt
  with-named l (Some clause) is rest = All-cons (IsNamed n base (base + count)) l clause is rest

  simplified-named : (xs : List Literal) → IsWordBelow count xs → OptionNamed (simplified base xs)
  unfolding simplified
  simplified-named [] below = All-nil (IsNamed n base (base + count))
  simplified-named (Known true ∷ xs) below = tt
  simplified-named (Known false ∷ xs) below = simplified-named xs below.1
  simplified-named (Of node negated ∷ xs) below =
      with-named (record { var = base + node; negated = negated }) (simplified base xs)
      (inr (omega arith, omega (arith, below.0))) (simplified-named xs below.1)

  -- ---- a settled clause

  settled-step : (p q : Bool) (one other : Option (List Lit)) → OptionNamed one → OptionNamed other
      → OptionNamed (if p then None else (if q then one else other))
  settled-step true q one other first second = tt
  settled-step false true one other first second = first
  settled-step false false one other first second = second

  settled-named : (xs there : List Lit) → Named there → Named xs → OptionNamed (settled there xs)
  unfolding settled
  settled-named [] there are more = are
  settled-named (l ∷ xs) there are more =
      let first = All-head (IsNamed n base (base + count)) l xs more in
      let rest = All-tail (IsNamed n base (base + count)) l xs more in
      settled-step (has there (negation l)) (has there l) (settled there xs) (settled (there ++ l ∷ []) xs) (settled-named xs there are rest)
      (settled-named xs (there ++ l ∷ [])
      (All-append (IsNamed n base (base + count)) there (l ∷ []) are
      (All-cons (IsNamed n base (base + count)) l [] first (All-nil (IsNamed n base (base + count))))) rest)

  then-named : (o : Option (List Lit)) → OptionNamed o → OptionNamed (option_and_then (settled []) o)
  then-named None is = tt
  then-named (Some clause) is = settled-named clause [] (All-nil (IsNamed n base (base + count))) is

  selected-named : (x : ℕ) (o : Option (List Lit)) → (1 ≤ x) × (x ≤ n) → OptionNamed o → All Named (selected x o)
  selected-named x None is rest = All-nil Named
  selected-named x (Some clause) is rest =
      All-cons Named (negative x ∷ clause) [] (All-cons (IsNamed n base (base + count)) (negative x) clause (inl is) rest) (All-nil Named)

  clause-named : (x : ℕ) (xs : List Literal) → (1 ≤ x) × (x ≤ n) → IsWordBelow count xs → All Named (settled_clause base x xs)
  clause-named x xs is below = selected-named x (option_and_then (settled []) (simplified base xs)) is (then-named (simplified base xs) (simplified-named xs below))

  -- ---- the bits of a pair

  module _ (differ : List Literal) (differ_below : IsWordBelow count differ) where
    two-named : (p q : Literal) (x : ℕ) → IsBelow count p → IsBelow count q → (1 ≤ x) × (x ≤ n) → All Named (two_clauses base differ p q x)
    two-named p q x p_below q_below is =
        All-append Named (settled_clause base x (differ ++ opposite p ∷ q ∷ [])) (settled_clause base x (differ ++ p ∷ opposite q ∷ []))
        (clause-named x (differ ++ opposite p ∷ q ∷ []) is
        (word-append count differ (opposite p ∷ q ∷ []) differ_below (opposite-below count p p_below, (q_below, tt))))
        (clause-named x (differ ++ p ∷ opposite q ∷ []) is
        (word-append count differ (p ∷ opposite q ∷ []) differ_below (p_below, (opposite-below count q q_below, tt))))

    groups-named : (p q : Literal) (xs : List ℕ) → IsBelow count p → IsBelow count q → All (λ x. (1 ≤ x) × (x ≤ n)) xs
        → All Named (groups_clauses base differ p q xs)
    unfolding groups_clauses
    groups-named p q [] p_below q_below are = All-nil Named
    groups-named p q (x ∷ xs) p_below q_below are =
        All-append Named (two_clauses base differ p q x) (groups_clauses base differ p q xs)
        (two-named p q x p_below q_below (All-head (λ y. (1 ≤ y) × (y ≤ n)) x xs are))
        (groups-named p q xs p_below q_below (All-tail (λ y. (1 ≤ y) × (y ≤ n)) x xs are))

    bits-named : (ps qs : List Literal) (xs : List ℕ) → IsWordBelow count ps → IsWordBelow count qs → All (λ x. (1 ≤ x) × (x ≤ n)) xs
        → All Named (bits_clauses base differ ps qs xs)
    unfolding bits_clauses
    bits-named [] qs xs ps_below qs_below are = All-nil Named
    bits-named (p ∷ ps) [] xs ps_below qs_below are = All-nil Named
    bits-named (p ∷ ps) (q ∷ qs) xs ps_below qs_below are =
        All-append Named (groups_clauses base differ p q xs) (bits_clauses base differ ps qs xs)
        (groups-named p q xs ps_below.0 qs_below.0 are) (bits-named ps qs xs ps_below.1 qs_below.1 are)

  -- ---- pairs

  nodes-named : (first : ℕ) (nodes : List Node) → AreOrderedFrom first nodes → first + length nodes ≤ count
      → All Named (nodes_clauses base (λ _. []) first nodes)
  unfolding nodes_clauses
  nodes-named first [] ordered room = All-nil Named
  nodes-named first (node ∷ nodes) ordered room =
      All-append Named (node_clauses base (λ _. []) first node) (nodes_clauses base (λ _. []) (first + 1) nodes)
      (node-named n base count (λ _. []) (λ place. All-nil (IsNamed n base (base + count))) first node (omega (arith, room)) ordered.0)
      (nodes-named (first + 1) nodes (subst (λ k. AreOrderedFrom k nodes) (sym (add-one first)) ordered.1) (omega (arith, room)))

  module _ (e : Source) where
    pair-named : (nodes : List Node) (pair : Pair) → AreOrdered nodes → IsPair base (length nodes) pair → AreSuspects n pair
        → length (pair_made nodes pair).nodes ≤ count → All Named (pair_clauses base nodes pair)
    unfolding pair_clauses
    pair-named nodes pair ordered is suspects room =
        let m = pair_made nodes pair in
        let adds : AddsAnds nodes m.nodes = differ-adds nodes [] pair.operands pair.operands_then in
        let grown : Grown nodes m.nodes = pair-grown base e nodes pair is in
        let longer = grown-length grown in
        let behind : drop (length nodes) m.nodes ≡ adds.more = ap (drop (length nodes)) adds.is ∙ drop-append_seam nodes adds.more in
        let here : 0 + length nodes ≡ length nodes = omega arith in
        let in_order : AreOrderedFrom (length nodes) adds.more =
        subst (λ k. AreOrderedFrom k adds.more) here (ordered-behind 0 nodes adds.more (subst AreOrdered adds.is (grown.ordered ordered))) in
        let long : length m.nodes ≡ length nodes + length adds.more = ap length adds.is ∙ length-append nodes adds.more in
        let below = λ (xs : List Literal) (under : IsWordBelow (length nodes) xs). word-more (length nodes) count xs (omega (arith, longer, room)) under in
        All-append Named (nodes_clauses base (λ _. []) (length nodes) (drop (length nodes) m.nodes))
        (bits_clauses base m.bits pair.bits pair.bits_then pair.groups)
        (subst (λ xs. All Named (nodes_clauses base (λ _. []) (length nodes) xs)) (sym behind)
        (nodes-named (length nodes) adds.more in_order (omega (arith, long, room))))
        (bits-named m.bits
        (word-more (length m.nodes) count m.bits room
        (differ-below e nodes [] pair.operands pair.operands_then tt is.operands is.operands_then))
        pair.bits pair.bits_then pair.groups (below pair.bits is.bits) (below pair.bits_then is.bits_then) suspects)

    pub pairs-named : (nodes : List Node) (pairs : List Pair) → AreOrdered nodes → All (IsPair base (length nodes)) pairs
        → All (AreSuspects n) pairs → length (pairs_made nodes pairs) ≤ count → All Named (pairs_clauses base nodes pairs)
    unfolding pairs_clauses pairs_made
    pairs-named nodes [] ordered are suspects room = All-nil Named
    pairs-named nodes (pair ∷ pairs) ordered are suspects room =
        let m = pair_made nodes pair in
        let is = All-head (IsPair base (length nodes)) pair pairs are in
        let grown : Grown nodes m.nodes = pair-grown base e nodes pair is in
        let rest : All (IsPair base (length m.nodes)) pairs =
        All-weaker (IsPair base (length nodes)) (IsPair base (length m.nodes))
        (λ other of_less. pair-more base (length nodes) (length m.nodes) other (grown-length grown) of_less) pairs
        (All-tail (IsPair base (length nodes)) pair pairs are) in
        let later = grown-length (pairs-grown base e m.nodes pairs rest) in
        All-append Named (pair_clauses base nodes pair) (pairs_clauses base m.nodes pairs)
        (pair-named nodes pair ordered is (All-head (AreSuspects n) pair pairs suspects) (omega (arith, later, room)))
        (pairs-named m.nodes pairs (grown.ordered ordered) rest (All-tail (AreSuspects n) pair pairs suspects) room)

-- ---- the longer form

-- clauses that name selectors and definitions alone, behind a form with its counter
pub counter-behind : (n k vars all base count : ℕ) (form more : List (List Lit)) → base ≡ n + starts k (n + 1) + 1 → vars ≤ all
    → HasCounter n k vars form → All (AreNamed n base (base + count)) more → HasCounter n k all (form ++ more)
counter-behind n k vars all base count form more begins room counter named = record {
  within = omega (arith, counter.within, room);
  rest = counter.rest ++ more;
  splits = ap (λ cs. cs ++ more) counter.splits ∙ append_assoc _ counter.rest more;
  apart = All-append (NamesNoCounter n k) counter.rest more counter.apart
      (λ i d below. λ j l within. apart-from (get_or (get_or more i d) j l) (named i d below j l within));
}
  where
    apart-from : (l : Lit) → IsNamed n base (base + count) l → IsNoCounter (n + 1) k n l.var
    apart-from l (inl selector) = inl (omega (arith, selector.1))
    apart-from l (inr definition) = inr (omega (arith, definition.0, begins))

pub within-behind : (n vars all base count : ℕ) (form more : List (List Lit)) → n ≤ all → 1 ≤ base → base + count ≤ all + 1 → vars ≤ all
    → AreWithin vars form → All (AreNamed n base (base + count)) more → AreWithin all (form ++ more)
within-behind n vars all base count form more few some last room within named =
    All-append (IsWithin all) form more
    (λ i d below. λ j l inside. let b = within i d below j l inside in (b.0, omega (arith, b.1, room)))
    (λ i d below. λ j l inside. within-from (get_or (get_or more i d) j l) (named i d below j l inside))
  where
    within-from : (l : Lit) → IsNamed n base (base + count) l → (1 ≤ l.var) × (l.var ≤ all)
    within-from l (inl selector) = (selector.0, omega (arith, selector.1, few))
    within-from l (inr definition) = (omega (arith, definition.0, some), omega (arith, definition.1, last))

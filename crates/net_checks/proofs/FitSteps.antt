-- Steps of the loops that decide what a net keeps.
use Rattle.std.proofs.Common.{◌≡◌, ℕ, zero, suc, ◌+◌, ◌≤◌, ◌<◌, Bool, true, false, if◌then◌else◌, List, [], ◌∷◌, ◌++◌, length, map, take, get_or, ◌==◌, ◌^◌, Some, None, refl, sym, ◌∙◌, ap, subst, arith, append_assoc, append-nil, ◌⊎◌, inl, inr}
use Rattle.std.specs.Prelude.{IsTrue, slice_get, ℤ, pos, negsuc, ◌+ℤ◌, ◌≤ℤ◌}
use Rattle.std.proofs.lemmas.Int.{ints}
use Rattle.std.proofs.lemmas.Grind.{common_steps}
use Rattle.std.proofs.lemmas.List.{take_all, get_or_default}
use Rattle.std.proofs.lemmas.Option.{slice_get_within}
use Rattle.loc_base.proofs.ShelfLists.{take-at, map-take_at}
use Rattle.loc_base.proofs.ShelfOptions.{Some-same}
use Rattle.loc_base.specs.declared.bits.Bits.{Bits}
use Rattle.word_net.specs.declared.node.WordNode.{WordNode}
use Rattle.word_net.specs.Fits.{AllFit, NodeFits, widths_of}
use Rattle.loc_base.specs.Bits.{width_of}
use Rattle.design_core.specs.WellFormed.{spans}
use Rattle.word_net.specs.Nets.{IsNet, is_source, source_bits}
use Rattle.net_checks.specs.Reads.{AreHeld, AreNumbers, FreeOnce, FreesNot, IsHeld, IsNext, HasBoth, state_of, place_of}

-- ---- nodes that fit

fit-push : (ws : List ℕ) (xs : List WordNode) (node : WordNode) → AllFit ws xs → NodeFits (ws ++ widths_of xs) node → AllFit ws (xs ++ node ∷ [])
fit-push ws [] node all fits = (subst (λ w. NodeFits w node) (append-nil ws) fits, tt)
fit-push ws (x ∷ xs) node all fits =
    (all.0, fit-push (ws ++ x.width ∷ []) xs node all.1 (subst (λ w. NodeFits w node) (sym (append_assoc ws (x.width ∷ []) (widths_of xs))) fits))

widths-take : (i : ℕ) (nodes : List WordNode) → take i (widths_of nodes) ≡ widths_of (take i nodes)
widths-take zero nodes = refl
widths-take (suc i) [] = refl
widths-take (suc i) (node ∷ nodes) = ap (λ ws. node.width ∷ ws) (widths-take i nodes)

pub fit-more : (widths : List ℕ) (nodes : List WordNode) (i : ℕ) (node : WordNode) → widths ≡ widths_of nodes → i < length nodes → node ≡ get_or nodes i node
    → AllFit [] (take i nodes) → NodeFits (take i widths) node → AllFit [] (take (i + 1) nodes)
fit-more widths nodes i node are within at all fits =
    subst (AllFit []) (sym (take-at nodes i node within at))
    (fit-push [] (take i nodes) node all (subst (λ w. NodeFits w node) (ap (take i) are ∙ widths-take i nodes) fits))

pub fit-end : (nodes : List WordNode) (i : ℕ) → length nodes ≤ i → AllFit [] (take i nodes) → AllFit [] nodes
fit-end nodes i end all = subst (AllFit []) (take_all i nodes end) all

pub ruleset steps = (fit-more, fit-end)

-- ---- widths and bits of sources

pub widths-more : (nodes : List WordNode) (i : ℕ) (node : WordNode) → i < length nodes → node ≡ get_or nodes i node
    → widths_of (take (i + 1) nodes) ≡ widths_of (take i nodes) ++ node.width ∷ []
widths-more nodes i node within at = map-take_at (λ n. n.width) nodes i node within at

pub widths-end : (nodes : List WordNode) (i : ℕ) → length nodes ≤ i → widths_of (take i nodes) ≡ widths_of nodes
widths-end nodes i end = ap widths_of (take_all i nodes end)

pub ruleset widths = (widths-more, widths-end)

bits-cons : (node : WordNode) (nodes : List WordNode) → source_bits (node ∷ nodes) ≡ (if is_source node.operation then node.width else 0) + source_bits nodes
unfolding source_bits
bits-cons node nodes = by_test (is_source node.operation)
  where
    by_test : (s : Bool) → (if s then node.width + source_bits nodes else source_bits nodes) ≡ (if s then node.width else 0) + source_bits nodes
    by_test true = refl
    by_test false = omega arith

pub bits-none : source_bits [] ≡ 0
unfolding source_bits
bits-none = refl

bits-push : (xs : List WordNode) (node : WordNode) → source_bits (xs ++ node ∷ []) ≡ source_bits xs + (if is_source node.operation then node.width else 0)
bits-push [] node = omega (arith, bits-cons node [], bits-none)
bits-push (x ∷ xs) node = omega (arith, bits-cons x (xs ++ node ∷ []), bits-cons x xs, bits-push xs node)

pub bits-more : (nodes : List WordNode) (i : ℕ) (node : WordNode) → i < length nodes → node ≡ get_or nodes i node
    → source_bits (take (i + 1) nodes) ≡ source_bits (take i nodes) + (if is_source node.operation then node.width else 0)
bits-more nodes i node within at = ap source_bits (take-at nodes i node within at) ∙ bits-push (take i nodes) node

pub bits-end : (nodes : List WordNode) (i : ℕ) → length nodes ≤ i → source_bits (take i nodes) ≡ source_bits nodes
bits-end nodes i end = ap source_bits (take_all i nodes end)

pub ruleset sources = (bits-none, bits-more, bits-end)

-- ---- entries of one more

last-or : {X : Type 0} (xs : List X) (x : X) (i : ℕ) (y : X) → slice_get (xs ++ x ∷ []) i ≡ Some y → (slice_get xs i ≡ Some y) ⊎ ((i ≡ length xs) × (x ≡ y))
last-or [] x zero y is = inr (refl, Some-same is)
last-or [] x (suc i) y is = absurd (omega (arith, slice_get_within (x ∷ []) (suc i) y is))
last-or (z ∷ xs) x zero y is = inl is
last-or (z ∷ xs) x (suc i) y is = elim (last-or xs x i y is) [ inl p ↦ inl p | inr p ↦ inr (ap suc p.0, p.1) ]

module _ (start : List Bits) (next widths : List ℕ) where
  pub held-none : (node : WordNode) → state_of node.operation ≡ None → IsHeld start next widths node
  held-none node none = record { each = λ state is. absurd (none-some (sym none ∙ is)) }
    where
      none-some : {x : ℕ} → None ≡ Some x → ⊥
      none-some e = cc

  pub held-some : (node : WordNode) (state : ℕ) → state_of node.operation ≡ Some state
      → slice_get (map width_of start) state ≡ Some node.width → IsNext next widths state node.width → IsHeld start next widths node
  held-some node state is starts goes_on = record {
    each = λ other there. subst (λ s. HasBoth start next widths s node.width) (Some-same (sym is ∙ there)) (record { starts = starts; goes_on = goes_on });
  }

  pub held-more : (nodes : List WordNode) (i : ℕ) (node : WordNode) → i < length nodes → node ≡ get_or nodes i node
      → AreHeld start next widths (take i nodes) → IsHeld start next widths node → AreHeld start next widths (take (i + 1) nodes)
  held-more nodes i node within at all held = subst (AreHeld start next widths) (sym (take-at nodes i node within at)) (record {
    each = λ j other there. elim (last-or (take i nodes) node j other there) [
      | inl old ↦ all.each j other old
      | inr new ↦ subst (IsHeld start next widths) new.1 held
    ];
  })

  pub held-end : (nodes : List WordNode) (i : ℕ) → length nodes ≤ i → AreHeld start next widths (take i nodes) → AreHeld start next widths nodes
  held-end nodes i end all = subst (AreHeld start next widths) (take_all i nodes end) all

  pub held-start : AreHeld start next widths []
  held-start = record { each = λ j other there. absurd (omega (arith, slice_get_within [] j other there)) }

pub ruleset holds = (held-none, held-some)

pub ruleset members = (held-more, held-end, held-start)

-- ---- places

pub frees-start : (place : ℕ) → FreesNot [] place
frees-start place = record { each = λ j other there. absurd (omega (arith, slice_get_within [] j other there)) }

pub frees-more : (place : ℕ) (nodes : List WordNode) (i : ℕ) (node : WordNode) → i < length nodes → node ≡ get_or nodes i node
    → FreesNot (take i nodes) place → (place_of node.operation ≡ Some place → ⊥) → FreesNot (take (i + 1) nodes) place
frees-more place nodes i node within at all never = subst (λ ns. FreesNot ns place) (sym (take-at nodes i node within at)) (record {
  each = λ j other there. elim (last-or (take i nodes) node j other there) [
    | inl old ↦ all.each j other old
    | inr new ↦ λ is. never (ap (λ n. place_of n.operation) new.1 ∙ is)
  ];
})

pub frees-end : (place : ℕ) (nodes : List WordNode) (i : ℕ) → length nodes ≤ i → FreesNot (take i nodes) place → FreesNot nodes place
frees-end place nodes i end all = subst (λ ns. FreesNot ns place) (take_all i nodes end) all

pub ruleset frees = (frees-start, frees-more, frees-end)

pub once-start : FreeOnce []
once-start = record { each = λ i j place one other there also. absurd (omega (arith, slice_get_within [] i one there)) }

once-push : (xs : List WordNode) (node : WordNode) → FreeOnce xs → ((place : ℕ) → place_of node.operation ≡ Some place → FreesNot xs place) → FreeOnce (xs ++ node ∷ [])
once-push xs node once new = record {
  each = λ i j place one other there also is_one is_other.
      elim (last-or xs node i one there) [
        | inl old ↦ elim (last-or xs node j other also) [
          | inl older ↦ once.each i j place one other old older is_one is_other
          | inr last ↦ absurd ((new place (ap (λ n. place_of n.operation) last.1 ∙ is_other)).each i one old is_one)
        ]
        | inr first ↦ elim (last-or xs node j other also) [
          | inl older ↦ absurd ((new place (ap (λ n. place_of n.operation) first.1 ∙ is_one)).each j other older is_other)
          | inr last ↦ first.0 ∙ sym last.0
        ]
      ];
}

module _ (nodes : List WordNode) (i : ℕ) (node : WordNode) (within : i < length nodes) (at : node ≡ get_or nodes i node) (once : FreeOnce (take i nodes)) where
  pub once-none : place_of node.operation ≡ None → FreeOnce (take (i + 1) nodes)
  once-none none = subst FreeOnce (sym (take-at nodes i node within at)) (once-push (take i nodes) node once (λ place is. absurd (none-some (sym none ∙ is))))
    where
      none-some : {x : ℕ} → None ≡ Some x → ⊥
      none-some e = cc

  pub once-some : (place : ℕ) → place_of node.operation ≡ Some place → FreesNot (take i nodes) place → FreeOnce (take (i + 1) nodes)
  once-some place is not_before = subst FreeOnce (sym (take-at nodes i node within at))
      (once-push (take i nodes) node once (λ other also. subst (FreesNot (take i nodes)) (Some-same (sym is ∙ also)) not_before))

pub once-end : (nodes : List WordNode) (i : ℕ) → length nodes ≤ i → FreeOnce (take i nodes) → FreeOnce nodes
once-end nodes i end once = subst FreeOnce (take_all i nodes end) once

pub ruleset once = (once-start, once-none, once-some, once-end)

-- ---- numbers below a bound

pub numbers-start : (bound : ℕ) → AreNumbers bound []
numbers-start bound = record { each = λ i n there. absurd (omega (arith, slice_get_within [] i n there)) }

pub numbers-more : (bound : ℕ) (numbers : List ℕ) (i : ℕ) → i < length numbers → AreNumbers bound (take i numbers) → get_or numbers i 0 < bound
    → AreNumbers bound (take (i + 1) numbers)
numbers-more bound numbers i within all low =
    subst (AreNumbers bound) (sym (take-at numbers i (get_or numbers i 0) within (get_or_default numbers i 0 (get_or numbers i 0) within))) (record {
      each = λ j n there. elim (last-or (take i numbers) (get_or numbers i 0) j n there) [
        | inl old ↦ all.each j n old
        | inr new ↦ subst (λ k. k < bound) new.1 low
      ];
    })

pub numbers-end : (bound : ℕ) (numbers : List ℕ) (i : ℕ) → length numbers ≤ i → AreNumbers bound (take i numbers) → AreNumbers bound numbers
numbers-end bound numbers i end all = subst (AreNumbers bound) (take_all i numbers end) all

pub ruleset numbers = (numbers-start, numbers-more, numbers-end)

-- ---- ranges

pub spans-is : (width : ℕ) (distance : ℤ) → pos 0 ≤ℤ distance → distance +ℤ pos 1 ≡ pos width → IsTrue (spans width distance)
spans-is width (pos d) high is = whole d (omega (arith, ints, is))
  where
    whole : (d : ℕ) → d + 1 ≡ width → IsTrue (d + 1 == width)
    whole d e = grind (arith, common_steps)
spans-is width (negsuc d) high is = absurd (omega (arith, ints, high))

pub ruleset ranges = (spans-is)

-- ---- a whole net

pub is-net : (nodes : List WordNode) (outputs next : List ℕ) (start : List Bits) (widths : List ℕ) → widths ≡ widths_of nodes
    → AllFit [] nodes → AreNumbers (length nodes) outputs → AreNumbers (length nodes) next
    → AreHeld start next widths nodes → FreeOnce nodes → source_bits nodes ≤ 2 ^ 31
    → IsNet (record { nodes = nodes; outputs = outputs; next = next; start = start })
is-net nodes outputs next start widths are fit low_outputs low_next held once few = record {
  nodes = fit;
  outputs = low_outputs.each;
  next = low_next.each;
  states = λ i state node there is.
      let h = (held.each i node there).each state (ap state_of is) in
      record {
        start = h.starts;
        next = h.goes_on.node;
        is_next = h.goes_on.is_next;
        next_width = subst (λ ws. slice_get ws h.goes_on.node ≡ Some node.width) are h.goes_on.wide;
      };
  places = λ i j place one other a b there also is_one is_other. once.each i j place one other there also (ap place_of is_one) (ap place_of is_other);
  sources = few;
}

pub ruleset whole = (is-net)

-- The values of nodes, one after another.
use Rattle.std.proofs.Common.{◌≡◌, ℕ, zero, suc, ◌+◌, ◌<◌, ◌≤◌, List, [], ◌∷◌, ◌++◌, length, map, get_or, set, take, drop, refl, sym, ◌∙◌, ap, subst, arith}
use Rattle.std.specs.Prelude.{nat_le, IsTrue}
use Rattle.std.proofs.lemmas.Bool.{and_parts, leb-true}
use Rattle.std.proofs.lemmas.List.{drop_all, take_all}
use Rattle.loc_base.specs.declared.bits.Bits.{Bits}
use Rattle.loc_base.specs.Bits.{width_of, value_of}
use Rattle.loc_base.proofs.ShelfLists.{drop-at, map-take_at, slice_get-at}
use Rattle.design_core.specs.WellFormed.{is_width}
use Rattle.word_net.specs.declared.node.WordNode.{WordNode}
use Rattle.word_net.specs.Fits.{NodeFits, AllFit, widths_of}
use Rattle.word_net.specs.Given.{Given, IsGiven, AreGiven, source_of}
use Rattle.word_net.specs.Values.{operation_value, word_value, values}
use Rattle.plain_values.proofs.EvaluateNodes.{takes-fits}

pub wide : (width : ℕ) → IsTrue (is_width width) → (1 ≤ width) × (width ≤ 128)
wide width fits = let b = and_parts (nat_le 1 width) (nat_le width 128) fits in (leb-true 1 width b.0, leb-true width 128 b.1)

pub ruleset node_steps = (wide, takes-fits)

-- ---- one after another

-- the nodes so far have their values
pub record ValuesSoFar (g : Given) (nodes : List WordNode) (out : List Bits) (i : ℕ) : Type 0 where
  pub widths : map width_of (take i out) ≡ widths_of (take i nodes)
  pub fits : AllFit (map width_of (take i out)) (drop i nodes)
  pub rest : values (source_of g) (map value_of (take i out)) (drop i nodes) ≡ values (source_of g) [] nodes

pub so_far-none : (g : Given) (nodes : List WordNode) (out : List Bits) → AllFit [] nodes → ValuesSoFar g nodes out 0
so_far-none g nodes out fits = record { widths = refl; fits = fits; rest = refl }

set-take : (out : List Bits) (i : ℕ) (word : Bits) → i < length out → take (i + 1) (set out i word) ≡ take i out ++ word ∷ []
set-take [] i word within = absurd (omega (arith, within))
set-take (x ∷ out) zero word within = refl
set-take (x ∷ out) (suc i) word within =
    let next : suc i + 1 ≡ suc (i + 1) = omega arith in
    ap (λ k. take k (x ∷ set out i word)) next ∙ ap (λ xs. x ∷ xs) (set-take out i word (omega (arith, within)))

map-more : {X Y : Type 0} (f : X → Y) (xs : List X) (x : X) → map f (xs ++ x ∷ []) ≡ map f xs ++ f x ∷ []
map-more f [] x = refl
map-more f (y ∷ xs) x = ap (λ ys. f y ∷ ys) (map-more f xs x)

-- the next node fits
pub next-fits : (g : Given) (nodes : List WordNode) (out : List Bits) (i : ℕ) (node : WordNode) → i < length nodes → node ≡ get_or nodes i node → ValuesSoFar g nodes out i
    → NodeFits (map width_of (take i out)) node × AllFit (map width_of (take i out) ++ node.width ∷ []) (drop (i + 1) nodes)
next-fits g nodes out i node within is so_far = subst (AllFit (map width_of (take i out))) (drop-at nodes i node within is) so_far.fits

pub next-given : (g : Given) (nodes : List WordNode) (i : ℕ) (node : WordNode) → i < length nodes → node ≡ get_or nodes i node → AreGiven g nodes → IsGiven g node.width node.operation
next-given g nodes i node within is given = given i node (slice_get-at nodes i node within is)

pub so_far-next : (g : Given) (nodes : List WordNode) (out after : List Bits) (i : ℕ) (node : WordNode) (word : Bits) → i < length nodes → i < length out → node ≡ get_or nodes i node → ValuesSoFar g nodes out i
    → width_of word ≡ node.width → value_of word ≡ operation_value (source_of g) (map value_of (take i out)) node.width node.operation → after ≡ set out i word → ValuesSoFar g nodes after (i + 1)
unfolding values word_value
so_far-next g nodes out after i node word within inside is so_far wide value put =
    let now : take (i + 1) after ≡ take i out ++ word ∷ [] = ap (take (i + 1)) put ∙ set-take out i word inside in
    let widths : map width_of (take (i + 1) after) ≡ map width_of (take i out) ++ node.width ∷ [] = ap (map width_of) now ∙ map-more width_of (take i out) word ∙ ap (λ w. map width_of (take i out) ++ w ∷ []) wide in
    let known : map value_of (take (i + 1) after) ≡ map value_of (take i out) ++ word_value (source_of g) (map value_of (take i out)) node ∷ [] =
    ap (map value_of) now ∙ map-more value_of (take i out) word ∙ ap (λ v. map value_of (take i out) ++ v ∷ []) value in
    record {
      widths = widths ∙ ap (λ ws. ws ++ node.width ∷ []) so_far.widths ∙ sym (map-take_at (λ (n : WordNode). n.width) nodes i node within is);
      fits = subst (λ ws. AllFit ws (drop (i + 1) nodes)) (sym widths) (next-fits g nodes out i node within is so_far).1;
      rest = ap (λ vs. values (source_of g) vs (drop (i + 1) nodes)) known ∙ sym (ap (values (source_of g) (map value_of (take i out))) (drop-at nodes i node within is)) ∙ so_far.rest;
    }

pub so_far-end : (g : Given) (nodes : List WordNode) (out : List Bits) (i : ℕ) → ValuesSoFar g nodes out i → length nodes ≤ i → length out ≤ i
    → (map value_of out ≡ values (source_of g) [] nodes) × (map width_of out ≡ widths_of nodes)
unfolding values
so_far-end g nodes out i so_far past full =
    let whole : take i out ≡ out = take_all i out full in (
      sym (ap (map value_of) whole) ∙ sym (ap (values (source_of g) (map value_of (take i out))) (drop_all i nodes past)) ∙ so_far.rest,
      sym (ap (map width_of) whole) ∙ so_far.widths ∙ ap widths_of (take_all i nodes past),
    )

pub ruleset steps = (so_far-none, next-fits, next-given, so_far-next, so_far-end)

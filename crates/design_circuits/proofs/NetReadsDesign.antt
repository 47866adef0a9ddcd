-- What the nodes of a design's net read is the design's, and each of its places has its node.
use Rattle.std.proofs.Common.{◌≡◌, ℕ, suc, ◌<◌, ◌≤◌, Bool, true, false, List, [], ◌∷◌, length, get_or, refl, sym, ◌∙◌, ap, arith, ◌⊎◌, inl, inr}
use Rattle.std.specs.Prelude.{◌==◌, if◌then◌else◌, nat_lt, slice_get, Option, Some, None}
use Rattle.std.specs.Option.{option_map_or}
use Rattle.std.proofs.lemmas.Bool.{and_parts, ltb-true, eqb-true, both_ways, cases_lt}
use Rattle.std.proofs.lemmas.Option.{slice_get_within, get_or_from_slice_get}
use Rattle.loc_base.proofs.ShelfBools.{equal-true}
use Rattle.loc_base.proofs.ShelfLists.{slice_get-some}
use Rattle.design_core.specs.declared.place.Place.{Place}
use Rattle.design_core.specs.declared.design.Design.{Design}
use Rattle.design_core.specs.Reads.{IsOrder}
use Rattle.design_core.specs.Valuation.{width_at}
use Rattle.design_core.specs.WellFormed.{IsWellFormed, place_fits}
use Rattle.word_net.specs.declared.node.Operand.{Operand}
use Rattle.word_net.specs.declared.node.Operation.{Operation}
use Rattle.word_net.specs.declared.node.Operation.TheVariants.{Const, Input, State, Free, Unary, Binary, Choose, Join, Repeat, Resize, Slice, Pick, Is, Put, PutPick, Blend}
use Rattle.word_net.specs.declared.node.WordNode.{WordNode}
use Rattle.synth_parts.specs.Tally.{weight, tally}
use Rattle.v_synth.specs.Net.{net_of, states_of}
use Rattle.v_synth.proofs.NetReads.{of_place, is_listed_as, input-read, state-read, place-read, place-once}
use Rattle.design_circuits.specs.Reads.{IsSignalOf, IsPlaceOf, ReadsDesign, AllReadDesign, HasEachPlace}

-- ---- what is read

signal-of : (d : Design) (signals : List ℕ) (i width : ℕ) → is_listed_as d signals width i ≡ true → IsSignalOf d signals i width
signal-of d signals i width is =
    let both = and_parts (nat_lt i (length signals)) (width == width_at d.signals.items (get_or signals i 0)) is in
    let (s, at) = slice_get-some signals i (ltb-true i (length signals) both.0) in
    (s, at, ap (width_at d.signals.items) (sym (get_or_from_slice_get signals i s 0 at)) ∙ sym (eqb-true width (width_at d.signals.items (get_or signals i 0)) both.1))

place-of : (d : Design) (p width : ℕ) → place_fits d.places.items width p ≡ true → IsPlaceOf d p width
place-of d p width fits = there (slice_get d.places.items p) refl
  where
    there : (o : Option Place) → slice_get d.places.items p ≡ o → IsPlaceOf d p width
    there None at = absurd (both_ways (place_fits d.places.items width p) (ap (λ o. option_map_or (λ place. place.width == width) o false) at) fits)
    there (Some place) at = (place, at, equal-true place.width width (ap (λ o. option_map_or (λ place. place.width == width) o false) (sym at) ∙ fits))

pub net-reads : (d : Design) (order : List ℕ) → IsWellFormed d → IsOrder d order → AllReadDesign d (net_of d order).nodes
net-reads d order well ordered i node at = here node.operation refl
  where
    here : (op : Operation) → node.operation ≡ op → ReadsDesign d node.width op
    here (Const word) is = tt
    here (Input input) is = signal-of d d.inputs.items input node.width (input-read d order i input node well ordered at is)
    here (State state) is = signal-of d (states_of d) state node.width (state-read d order i state node well ordered at is)
    here (Free place computed) is = place-of d place node.width (place-read d order i place node computed well ordered at is)
    here (Unary op arg) is = tt
    here (Binary op left right) is = tt
    here (Choose test one other) is = tt
    here (Join high low) is = tt
    here (Repeat times part) is = tt
    here (Resize arg) is = tt
    here (Slice word from) is = tt
    here (Pick word select) is = tt
    here (Is index value) is = tt
    here (Put old from size word offset) is = tt
    here (PutPick old select word offset) is = tt
    here (Blend mask one other) is = tt

-- ---- the node of a place

-- a node of a list that assigns a place
record IsPlaced (nodes : List WordNode) (p : ℕ) : Type 0 where
  number : ℕ
  node : WordNode
  computed : Operand
  there : slice_get nodes number ≡ Some node
  assigns : node.operation ≡ Free p computed

-- an operation that weighs something assigns the place
heavy-assigns : (p width : ℕ) (op : Operation) → 0 < weight (of_place p) width op → (computed : Operand) × (op ≡ Free p computed)
unfolding of_place
heavy-assigns p width (Free place computed) heavy = (computed, ap (λ q. Free q computed) (equal-true place p (same (place == p) heavy)))
  where
    same : (t : Bool) → 0 < (if t then 1 else 0) → t ≡ true
    same true more = refl
    same false more = absurd (omega (arith, more))
heavy-assigns p width (Const word) heavy = absurd (omega (arith, heavy))
heavy-assigns p width (Input input) heavy = absurd (omega (arith, heavy))
heavy-assigns p width (State state) heavy = absurd (omega (arith, heavy))
heavy-assigns p width (Unary op arg) heavy = absurd (omega (arith, heavy))
heavy-assigns p width (Binary op left right) heavy = absurd (omega (arith, heavy))
heavy-assigns p width (Choose test one other) heavy = absurd (omega (arith, heavy))
heavy-assigns p width (Join high low) heavy = absurd (omega (arith, heavy))
heavy-assigns p width (Repeat times part) heavy = absurd (omega (arith, heavy))
heavy-assigns p width (Resize arg) heavy = absurd (omega (arith, heavy))
heavy-assigns p width (Slice word from) heavy = absurd (omega (arith, heavy))
heavy-assigns p width (Pick word select) heavy = absurd (omega (arith, heavy))
heavy-assigns p width (Is index value) heavy = absurd (omega (arith, heavy))
heavy-assigns p width (Put old from size word offset) heavy = absurd (omega (arith, heavy))
heavy-assigns p width (PutPick old select word offset) heavy = absurd (omega (arith, heavy))
heavy-assigns p width (Blend mask one other) heavy = absurd (omega (arith, heavy))

-- where nodes weigh something, one of them assigns the place
placed : (p : ℕ) (nodes : List WordNode) → 0 < tally (of_place p) nodes → IsPlaced nodes p
unfolding tally
placed p [] heavy = absurd (omega (arith, heavy))
placed p (node ∷ nodes) heavy = at (cases_lt 0 (weight (of_place p) node.width node.operation)) (λ none. placed p nodes (omega (arith, heavy, none)))
  where
    later : IsPlaced nodes p → IsPlaced (node ∷ nodes) p
    later f = record { number = suc f.number; node = f.node; computed = f.computed; there = f.there; assigns = f.assigns }

    at : (0 < weight (of_place p) node.width node.operation) ⊎ (weight (of_place p) node.width node.operation ≤ 0) → (weight (of_place p) node.width node.operation ≤ 0 → IsPlaced nodes p) → IsPlaced (node ∷ nodes) p
    at (inl here) rest = let (computed, is) = heavy-assigns p node.width node.operation here in record { number = 0; node = node; computed = computed; there = refl; assigns = is }
    at (inr none) rest = later (rest none)

pub net-places : (d : Design) (order : List ℕ) → IsWellFormed d → IsOrder d order → HasEachPlace d (net_of d order).nodes
net-places d order well ordered p place at =
    let low : p < length d.places.items = slice_get_within d.places.items p place at in
    let f = placed p (net_of d order).nodes (omega (arith, place-once d order p well ordered low)) in
    let fits : place_fits d.places.items f.node.width p ≡ true = place-read d order f.number p f.node f.computed well ordered f.there f.assigns in
    record {
      number = f.number;
      node = f.node;
      computed = f.computed;
      there = f.there;
      assigns = f.assigns;
      wide = sym (equal-true place.width f.node.width (ap (λ o. option_map_or (λ q. q.width == f.node.width) o false) (sym at) ∙ fits));
    }

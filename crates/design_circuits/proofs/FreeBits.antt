-- The free bits of the circuit of a design's net are the bits of the design's places.
use Rattle.std.proofs.Common.{◌≡◌, ◌⊎◌, inl, inr, ℕ, zero, suc, ◌+◌, ◌-◌, ◌<◌, ◌≤◌, ◌==◌, max, true, false, if◌then◌else◌, List, [], ◌∷◌, length, Option, Some, None, refl, sym, ◌∙◌, ap, subst, arith}
use Rattle.std.specs.Prelude.{All, nat_le, slice_get}
use Rattle.std.specs.Option.{option_map_or}
use Rattle.std.proofs.lemmas.Bool.{and_parts, cases_Bool, cases_lt, leb-true}
use Rattle.std.proofs.lemmas.Option.{slice_get_past, slice_get_within}
use Rattle.loc_base.proofs.ShelfBools.{equal-true}
use Rattle.loc_base.proofs.ShelfLists.{All-member, Contains-at, list_all-member, slice_get-some}
use Rattle.loc_base.proofs.ShelfOptions.{Some-same}
use Rattle.gate_base.specs.declared.literal.Literal.{Literal}
use Rattle.gate_base.specs.declared.node.Node.{Node}
use Rattle.gate_base.specs.declared.node.Node.TheVariants.{Free}
use Rattle.suspect_map.specs.declared.group.Group.{Group}
use Rattle.suspect_map.specs.Groups.{AreWithin}
use Rattle.design_core.specs.declared.design.Design.{Design}
use Rattle.design_core.specs.declared.place.Place.{Place}
use Rattle.design_core.specs.Explained.{place_width}
use Rattle.design_core.specs.WellFormed.{IsWellFormed, is_width}
use Rattle.bit_circuit.specs.Circuits.{BitNet, circuit_of}
use Rattle.design_circuits.specs.Reads.{HasEachPlace}
use Rattle.unroller.specs.declared.free_bit.FreeBit.{FreeBit}
use Rattle.unroller.specs.Cycles.{and_then, free_bit, free_bits}
use Rattle.unroller.specs.Unrolls.{Unrolling}
use Rattle.form_values.specs.ModelValues.{ArePlaces, IsPlace, width_in}
use Rattle.form_values.proofs.Meets.{bit-below}
use Rattle.form_laws.specs.Circuits.{IsCircuitOf, Reading}
use Rattle.design_circuits.specs.Reading.{IsOfNet, OfNet}
use Rattle.design_circuits.specs.Forms.{HaveEachPlace}
use Rattle.design_circuits.proofs.FreeNodes.{free-there}

-- ---- the column of a node

record ColumnOf (bits : List FreeBit) (p b : ℕ) : Type 0 where
  column : ℕ
  there : slice_get bits column ≡ Some (record { place = p; bit = b })

column-later : (o : Option FreeBit) (bits : List FreeBit) (p b : ℕ) → ColumnOf bits p b → ColumnOf (and_then o bits) p b
column-later None bits p b c = c
column-later (Some x) bits p b c = record { column = suc c.column; there = c.there }

column-of : (nodes : List Node) (i m p b : ℕ) (computed : Literal) → slice_get nodes i ≡ Some (Free m p b computed)
    → ColumnOf (free_bits nodes) p b
column-of [] i m p b computed there = absurd (omega (arith, slice_get_within [] i (Free m p b computed) there))
column-of (node ∷ nodes) zero m p b computed there =
    record { column = 0; there = ap (λ o. slice_get (and_then o (free_bits nodes)) 0) (ap free_bit (Some-same there)) }
column-of (node ∷ nodes) (suc i) m p b computed there =
    column-later (free_bit node) (free_bits nodes) p b (column-of nodes i m p b computed there)

-- each bit of each place is free
pub each-place : (of : OfNet) → IsOfNet of → HasEachPlace of.design of.net.nodes
    → HaveEachPlace of.design (free_bits (circuit_of of.net).nodes)
each-place of is each p b place there low =
    let n = each p place there in
    let f = free-there of.net is.net n.number n.node p b n.computed n.there n.assigns (omega (arith, low, n.wide)) in
    let c = column-of (circuit_of of.net).nodes f.at 0 p b f.computed f.there in
    (c.column, c.there)

-- ---- widths

-- no bit of a place stands above its width
width-most : (bits : List FreeBit) (p w : ℕ) → ((column : ℕ) (x : FreeBit) → slice_get bits column ≡ Some x → x.place ≡ p → x.bit < w)
    → width_in bits p ≤ w
width-most [] p w below = omega arith
width-most (x ∷ bits) p w below = at (cases_Bool (x.place == p)) (width-most bits p w (λ column y there. below (suc column) y there))
  where
    at : ((x.place == p) ≡ true) ⊎ ((x.place == p) ≡ false) → width_in bits p ≤ w
        → (if x.place == p then max (x.bit + 1) (width_in bits p) else width_in bits p) ≤ w
    at (inl is) rest =
        let low : x.bit < w = below 0 x refl (equal-true x.place p is) in
        subst (λ t. (if t then max (x.bit + 1) (width_in bits p) else width_in bits p) ≤ w) (sym is) (omega (arith, low, rest))
    at (inr other) rest = subst (λ t. (if t then max (x.bit + 1) (width_in bits p) else width_in bits p) ≤ w) (sym other) rest

place-some : (d : Design) (p : ℕ) (place : Place) → IsWellFormed d → slice_get d.places.items p ≡ Some place
    → (1 ≤ place.width) × (place.width ≤ 128)
place-some d p place well there =
    let own : is_width place.width ≡ true =
    list_all-member (λ (x : Place). is_width x.width) d.places.items place well.places (Contains-at d.places.items p place there) in
    let both = and_parts (nat_le 1 place.width) (nat_le place.width 128) own in
    (leb-true 1 place.width both.0, leb-true place.width 128 both.1)

module _ (d : Design) (well : IsWellFormed d) (circuit : BitNet) (read : Reading) (is : IsCircuitOf d circuit read)
    (each : HaveEachPlace d (free_bits circuit.nodes)) where
  abbrev bits : List FreeBit
  bits = free_bits circuit.nodes

  place-wide : (p : ℕ) (place : Place) → slice_get d.places.items p ≡ Some place → width_in bits p ≡ place.width
  place-wide p place there =
      let some = (place-some d p place well there).0 in
      let (column, top) = each p (place.width - 1) place there (omega (arith, some)) in
      let low = bit-below bits column p (place.width - 1) top in
      let high = width-most bits p place.width below in omega (arith, low, high, some)
    where
      below : (column : ℕ) (x : FreeBit) → slice_get bits column ≡ Some x → x.place ≡ p → x.bit < place.width
      below column x at same =
          let (own, own_at, less) = is.places column x at in
          let one : own ≡ place = Some-same (sym own_at ∙ ap (slice_get d.places.items) same ∙ there) in
          subst (λ (y : Place). x.bit < y.width) one less

  -- the width of each place, 0 where there is none
  pub widths-are : (p : ℕ) → width_in bits p ≡ place_width d p
  widths-are p = at (cases_lt p (length d.places.items))
    where
      at : (p < length d.places.items) ⊎ (length d.places.items ≤ p) → width_in bits p ≡ place_width d p
      at (inl low) =
          let (place, there) = slice_get-some d.places.items p low in
          place-wide p place there ∙ sym (ap (λ o. option_map_or (λ (x : Place). x.width) o 0) there)
      at (inr past) =
          let high = width-most bits p 0 none in
          let no_width : place_width d p ≡ 0 =
          ap (λ o. option_map_or (λ (x : Place). x.width) o 0) (slice_get_past d.places.items p past) in
          omega (arith, high, no_width)
        where
          none : (column : ℕ) (x : FreeBit) → slice_get bits column ≡ Some x → x.place ≡ p → x.bit < 0
          none column x there same =
              let (own, own_at, less) = is.places column x there in
              let low = slice_get_within d.places.items x.place own own_at in absurd (omega (arith, low, past, same))

  -- a place of the design is one of a form of the circuit
  place-is : (u : Unrolling) → u.bits ≡ bits → (p : ℕ) → p < length d.places.items → IsPlace u p
  place-is u same p low =
      let (place, there) = slice_get-some d.places.items p low in
      let wide : width_in u.bits p ≡ place.width = ap (λ bs. width_in bs p) same ∙ place-wide p place there in
      let some = place-some d p place well there in
      record {
        some = omega (arith, wide, some.0);
        few = omega (arith, wide, some.1);
        bits = λ b less.
            let (column, at) = each p b place there (omega (arith, less, wide)) in
            record { column = column; is = ap (λ bs. slice_get bs column) same ∙ at };
      }

  pub are-places : (u : Unrolling) (groups : List Group) → u.bits ≡ bits → AreWithin (length d.places.items) groups → ArePlaces u groups
  are-places u groups same within i place group there member =
      let own = All-member (λ (g : Group). All (λ p. p < length d.places.items) g.places) groups group within
      (Contains-at groups i group there) in
      place-is u same place (All-member (λ p. p < length d.places.items) group.places place own member)

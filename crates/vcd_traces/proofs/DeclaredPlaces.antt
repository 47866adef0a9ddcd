-- The variable in which a port stands is declared.
use Rattle.std.proofs.Common.{◌≡◌, ℕ, true, ◌||◌, Bool, List, [], ◌∷◌, refl, sym, ◌∙◌, ap, subst, inl, inr, Option, Some, None}
use Rattle.std.specs.List.{list_any, find}
use Rattle.std.specs.Option.{option_and_then, option_map, option_or}
use Rattle.std.proofs.lemmas.Bool.{cases_Bool, cond-true, cond-false}
use Rattle.loc_base.proofs.ShelfBools.{or-true}
use Rattle.loc_base.proofs.ShelfOptions.{Some-same}
use Rattle.vcd_reading.specs.declared.part.Part.TheVariants.{Bit}
use Rattle.vcd_reading.specs.Bits.{BitName}
use Rattle.vcd_reading.specs.Commands.{same_bytes}
use Rattle.vcd_reading.specs.Header.{Header, Variable}
use Rattle.vcd_reading.specs.Scopes.{Port, Place, bit_of, bit_of_size, bit_place, has_bit, is_declared, is_named, place_in, port_place, variable_in, whole}
use Rattle.vcd_reading.proofs.ByteLaws.{same_self}

-- an element that is found passes another test, so one does
found_any : {X : Type 0} (one other : X → Bool) (xs : List X) (x : X) → find one xs ≡ Some x → other x ≡ true → list_any other xs ≡ true
found_any one other [] x found passes = cc
found_any one other (y ∷ ys) x found passes =
    elim (cases_Bool (one y)) [
      | inl here ↦
          let it : y ≡ x = Some-same (sym (cond-true _ _ _ here) ∙ found) in
          ap (λ b. b || list_any other ys) (ap other it ∙ passes)
      | inr away ↦
          ap (λ b. other y || b) (found_any one other ys x (sym (cond-false _ _ _ away) ∙ found) passes) ∙ or-true (other y)
    ]

named_declared : (h : Header) (scope : ℕ) (name : List ℕ) (v : Variable) → variable_in h scope name ≡ Some v → is_declared h v.code ≡ true
named_declared h scope name v is = found_any (is_named scope name) (λ (w : Variable). same_bytes w.code v.code) h.variables v is (same_self v.code)

-- a bit stands in its variable
in_variable : (number : ℕ) (v : Variable) (size : Option ℕ) (p : Place) → option_and_then (bit_of_size v number) size ≡ Some p → v ≡ p.variable
in_variable number v None p is = cc
in_variable number v (Some size) p is =
    elim (cases_Bool (has_bit v number size)) [
      | inl here ↦
          let it : record { variable = v; part = Bit number size } ≡ p = Some-same (sym (cond-true _ _ _ here) ∙ is) in
          ap (λ (q : Place). q.variable) it
      | inr away ↦ let none : None ≡ Some p = sym (cond-false _ _ _ away) ∙ is in cc
    ]

bit_declared : (h : Header) (scope : ℕ) (bit : BitName) (p : Place) (found : Option Variable) → variable_in h scope bit.name ≡ found
    → option_and_then (bit_of bit.number) found ≡ Some p → is_declared h p.variable.code ≡ true
bit_declared h scope bit p None found is = cc
bit_declared h scope bit p (Some v) found is =
    let P : Variable → Type 0 = λ w. is_declared h w.code ≡ true in
    subst P (in_variable bit.number v _ p is) (named_declared h scope bit.name v found)

by_bit : (h : Header) (scope : ℕ) (bit : Option BitName) (p : Place) → option_and_then (bit_place h scope) bit ≡ Some p → is_declared h p.variable.code ≡ true
by_bit h scope None p is = cc
by_bit h scope (Some bit) p is = bit_declared h scope bit p _ refl is

by_name : (h : Header) (scope : ℕ) (port : Port) (p : Place) (found : Option Variable) → variable_in h scope port.name ≡ found
    → option_or (option_map whole found) (option_and_then (bit_place h scope) port.bit) ≡ Some p → is_declared h p.variable.code ≡ true
by_name h scope port p None found is = by_bit h scope port.bit p is
by_name h scope port p (Some v) found is =
    let P : Place → Type 0 = λ q. is_declared h q.variable.code ≡ true in
    subst P (Some-same is) (named_declared h scope port.name v found)

pub place_declared : (h : Header) (scope : Option ℕ) (port : Port) (p : Place) → port_place h scope port ≡ Some p → is_declared h p.variable.code ≡ true
place_declared h None port p is = cc
place_declared h (Some scope) port p is = by_name h scope port p _ refl is

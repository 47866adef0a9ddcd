-- How an `Items` stores its elements, by which a type may hold itself through one: its value is their list, and what it
-- owns, lends and is coded by is what its vector is.
use mathlib.Core.Path.{◌≡◌, refl, sym}
use mathlib.Core.List.{List, []}
use mathlib.Core.Former.{Former, this, list, via, children}
use base.Stored.{code_map}
use denote.RattleType.{RattleType}
use denote.HoleLaws.{Alike}
use denote.HolePlaces.{Recodes, struct_places, laid}
use denote.Hole.Carrier.{listed, list-listed}
use denote.Hole.Fix.{over}
use denote.Param.Weighed.{Weighed, w_list}
use denote.Model.Placed.{view_places}
use Rattle.std.specs.formers.vec.Vec as vector
use Rattle.std.specs.declared.alloc.Global.{Global}
use Rattle.std.specs.contracts.alloc.Global as global
use Rattle.std.specs.contracts.impls.GlobalAllocator.TheImpl.{ghosts}
use Rattle.loc_base.specs.declared.items.Items.TheInside.{Inside}
use Rattle.loc_base.specs.declared.items.Items.TheView.{view, invariant}
use Rattle.loc_base.specs.contracts.items.Items as itself
use Rattle.loc_base.specs.contracts.items.Items.TheInside as inside

abbrev pub the_former : Former {0} → Former {0}
the_former g = list g

abbrev pub the_weighed : {g : Former {0}} → Weighed g → Weighed (the_former g)
the_weighed weighed = w_list weighed

pub the_empty : List ⊥
the_empty = []

abbrev pub the_items : (X : Type 0) → List X → List X
the_items X elements = elements

pub the_items_listed : (X : Type 0) (elements : List X) → listed _ (children (the_former this) X elements) ≡ the_items X elements
the_items_listed X elements = list-listed X elements

-- the fields: one vector of the elements
abbrev one_vector : Former {0}
one_vector = via (vector.the_former this Global) Inside
    (λ X fields. fields.elements) (λ X elements. record { elements = elements }) (λ X fields. refl) (λ X elements. refl)

module _ (R S : RattleType) (h : R.Denot → S.Denot) where
  pub the_places : Alike R S h → Alike (itself.the_row R) (itself.the_row S) ((the_former this).map R.Denot S.Denot h)
  the_places alike = view_places one_vector (list this) view (λ X Y k fields. refl) (λ X fields. refl)
      R.Denot S.Denot h (itself.the_row R).coded (itself.the_row S).coded
      (invariant R.Denot) (invariant S.Denot) (λ fields p q. refl) (λ fields p q. refl) (λ fields holds. tt) (λ fields holds. tt)
      (over (inside.the_row R)) (over (inside.the_row S))
      (struct_places (inside.the_type R) (inside.the_type S) (vector.mapped h, tt) _ (λ fields. refl) refl
      (laid _ _ _ (vector.the_places global.the_row ghosts R S h alike), tt))

  pub the_codes_placed : Recodes R S h → Recodes (itself.the_row R) (itself.the_row S) ((the_former this).map R.Denot S.Denot h)
  the_codes_placed recodes elements = sym (code_map R.coded.code S.coded.code h (λ element. sym (recodes element)) elements)

-- How a `Boxed` stores its value, by which a type may hold itself through one: it is that value, and what it owns, lends
-- and is coded by is what its box is.
use mathlib.Core.Path.{refl}
use mathlib.Core.Former.{Former, this, const, pair, via}
use base.Stored.{gnil}
use base.Fml.{ftrue}
use denote.RattleType.{RattleType}
use denote.Memory.{part_of}
use denote.RawPtr.{Ptr}
use denote.Sharing.{nothing}
use denote.HoleLaws.{Alike}
use denote.HolePlaces.{Recodes, struct_places, laid, one_value}
use denote.Hole.Fix.{over}
use denote.Param.Weighed.{Weighed}
use denote.Model.Placed.{view_places}
use Rattle.std.specs.declared.boxed.Box.{Box}
use Rattle.std.specs.contracts.boxed.Box as a_box
use Rattle.std.specs.declared.alloc.Global.{Global}
use Rattle.std.specs.contracts.alloc.Global as global
use Rattle.std.specs.contracts.impls.GlobalAllocator.TheImpl.{ghosts}
use Rattle.loc_base.specs.declared.boxed.Boxed.TheInside.{Inside}
use Rattle.loc_base.specs.declared.boxed.Boxed.TheView.{view, invariant}
use Rattle.loc_base.specs.contracts.boxed.Boxed as itself
use Rattle.loc_base.specs.contracts.boxed.Boxed.TheInside as inside

abbrev pub the_former : Former {0} → Former {0}
the_former g = g

abbrev pub the_weighed : {g : Former {0}} → Weighed g → Weighed (the_former g)
the_weighed weighed = weighed

-- the fields: one box of the value
abbrev one_box : Former {0}
one_box = via (pair (const (Ptr × Global)) this) Inside
    (λ X fields. ((fields.place.ptr, fields.place.alloc), fields.place.value))
    (λ X parts. record { place = record { ptr = parts.0.0; alloc = parts.0.1; value = parts.1 } })
    (λ X fields. refl) (λ X parts. refl)

-- the same box around another value
abbrev around : {X Y : Type 0} → Box X Global → Y → Box Y Global
around b y = record { ptr = b.ptr; alloc = b.alloc; value = y }

abbrev box_of : RattleType → RattleType
box_of R = a_box.the_row R global.the_row ghosts

module _ (R S : RattleType) (h : R.Denot → S.Denot) where
  boxes_alike : Alike R S h → Alike (box_of R) (box_of S) (λ b. around b (h b.value))
  unfolding part_of
  boxes_alike alike = record {
    mir_same = λ i. (box_of (one_value R (alike.mir_same i) (λ _. ftrue) (λ _ _. nothing) gnil)).mir;
    own_same = λ b i. (box_of (one_value R (alike.mir_same i) (alike.own_same b.value i) (alike.shr_same b.value i) gnil)).own_val (around b tt);
    shr_same = λ b i. (box_of (one_value R (alike.mir_same i) (alike.own_same b.value i) (alike.shr_same b.value i) gnil)).shr_at (around b tt);
  }

  pub the_places : Alike R S h → Alike (itself.the_row R) (itself.the_row S) ((the_former this).map R.Denot S.Denot h)
  the_places alike = view_places one_box this view (λ X Y k fields. refl) (λ X fields. refl)
      R.Denot S.Denot h (itself.the_row R).coded (itself.the_row S).coded
      (invariant R.Denot) (invariant S.Denot) (λ fields p q. refl) (λ fields p q. refl) (λ fields holds. tt) (λ fields holds. tt)
      (over (inside.the_row R)) (over (inside.the_row S))
      (struct_places (inside.the_type R) (inside.the_type S) ((λ b. around b (h b.value)), tt) _ (λ fields. refl) refl
      (laid _ _ _ (boxes_alike alike), tt))

  pub the_codes_placed : Recodes R S h → Recodes (itself.the_row R) (itself.the_row S) ((the_former this).map R.Denot S.Denot h)
  the_codes_placed recodes value = recodes value

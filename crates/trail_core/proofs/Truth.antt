-- The values that a part of the entries gives.
use Rattle.std.proofs.Common.{◌≡◌, ℕ, Bool, not, eqb, List, length, take, Option, Some, None, refl, ap}
use Rattle.std.specs.Option.{option_map}
use Rattle.loc_base.proofs.ShelfOptions.{option_map-none}
use Rattle.trail_core.specs.declared.entry.Entry.{Entry}
use Rattle.trail_core.specs.TrailState.{entry_of, values_of, up_to}
use Rattle.trail_core.proofs.Lists.{find-take_none, find-take_some}
use Rattle.trail_core.proofs.Levels.{IsLeveled, up_to_front}

-- a mapped option, by what it is of
pub record IsMapped {A B : Type 0} (f : A → B) (o : Option A) (y : B) : Type 0 where
  pub value : A
  pub is : o ≡ Some value
  pub gives : f value ≡ y

pub mapped : {A B : Type 0} (f : A → B) (o : Option A) (y : B) → option_map f o ≡ Some y → IsMapped f o y
mapped f None y h = cc
mapped f (Some x) y h = record { value = x; is = refl; gives = cc }

-- a variable without a value has none in a front
pub values-take_none : (es : List Entry) (m v : ℕ) → values_of es v ≡ None → values_of (take m es) v ≡ None
values-take_none es m v h =
    let n = option_map-none (λ (e : Entry). not e.lit.negated) (entry_of es v) h in
    rw (find-take_none (λ (e : Entry). eqb e.lit.var v) es m n) refl

-- a value in a front is kept
pub values-take_some : (es : List Entry) (m v : ℕ) (b : Bool) → values_of (take m es) v ≡ Some b → values_of es v ≡ Some b
values-take_some es m v b h =
    let s = mapped (λ (e : Entry). not e.lit.negated) (entry_of (take m es) v) b h in
    rw (find-take_some (λ (e : Entry). eqb e.lit.var v) es m s.value s.is) (ap Some s.gives)

-- the same of the entries up to a level
pub values-up_to_none : (es : List Entry) (k v : ℕ) → IsLeveled es → values_of es v ≡ None → values_of (up_to k es) v ≡ None
values-up_to_none es k v h n = rw (up_to_front es k h) (values-take_none es (length (up_to k es)) v n)

pub values-up_to_some : (es : List Entry) (k v : ℕ) (b : Bool) → IsLeveled es → values_of (up_to k es) v ≡ Some b → values_of es v ≡ Some b
values-up_to_some es k v b h s = values-take_some es (length (up_to k es)) v b (rw (up_to_front es k h) at s)

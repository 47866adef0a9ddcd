-- Laws of options.
use Rattle.std.proofs.Common.{◌≡◌, true, false, Option, Some, None, is_some, option_map, refl, sym}
use Rattle.std.proofs.lemmas.Bool.{false≢true}

-- two values that are there and are the same
pub Some-same : {X : Type 0} {x y : X} → Some x ≡ Some y → x ≡ y
Some-same is = cc

-- the value where there is one
pub is_some-true : {X : Type 0} (o : Option X) → is_some o ≡ true → (x : X) × (o ≡ Some x)
is_some-true None some = absurd (false≢true some)
is_some-true (Some x) some = (x, refl)

-- what holds whatever the value is, where there is one
pub is_some-split : {X : Type 0} (o : Option X) → is_some o ≡ true → (P : Type 0) → ((x : X) → o ≡ Some x → P) → P
is_some-split None some P each = absurd (false≢true some)
is_some-split (Some x) some P each = each x refl

-- no value
pub is_some-false : {X : Type 0} (o : Option X) → is_some o ≡ false → o ≡ None
is_some-false None none = refl
is_some-false (Some x) none = absurd (false≢true (sym none))

-- what a mapped value is of
pub option_map-some : {A B : Type 0} (f : A → B) (o : Option A) (y : B) → option_map f o ≡ Some y → (x : A) × (o ≡ Some x) × (f x ≡ y)
option_map-some f None y is = cc
option_map-some f (Some x) y is = (x, refl, cc)

-- no mapped value
pub option_map-none : {A B : Type 0} (f : A → B) (o : Option A) → option_map f o ≡ None → o ≡ None
option_map-none f None is = refl
option_map-none f (Some x) is = cc

-- Tests that are all made, equal one by one to others.
use Rattle.std.proofs.Common.{◌≡◌, ◌∙◌, ap, refl}
use Rattle.std.specs.Prelude.{Bool, true, false, ◌&&◌}

pub two : (a b x y : Bool) → a ≡ x → b ≡ y → (a && b) ≡ (x && y)
two a b x y p q = ap (λ k. k && b) p ∙ ap (λ k. x && k) q

pub three : (a b c x y z : Bool) → a ≡ x → b ≡ y → c ≡ z → ((a && b) && c) ≡ (x && y && z)
three a b c x y z p q r = ap (λ k. (k && b) && c) p ∙ ap (λ k. (x && k) && c) q ∙ ap (λ k. (x && y) && k) r ∙ grouped x y z
  where
    grouped : (x y z : Bool) → ((x && y) && z) ≡ (x && y && z)
    grouped true y z = refl
    grouped false y z = refl

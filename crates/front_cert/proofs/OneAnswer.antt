-- A front has one answer.
use Rattle.std.proofs.Common.{◌≡◌, ◌⊎◌, inl, inr, ℕ, zero, suc, ◌<◌, ◌≤◌, List, Option, Some, None, refl, ap, arith}
use Rattle.std.proofs.lemmas.Bool.{cases_lt}
use Rattle.clause_base.specs.declared.log.Step.{Step}
use Rattle.card_counter.specs.Shows.{Shows}
use Rattle.front_cert.specs.Unshown.{IsLeastUnshown, IsUnshown, SaysMissing}

module _ (n k : ℕ) (members : List ℕ) (log : List Step) where
  not-both : (x : ℕ) → Shows n k members log → IsUnshown n k members log x → ⊥
  not-both zero shows unshown = unshown shows.size
  not-both (suc x) shows unshown = unshown.fails (shows.passed (suc x) unshown.passed)

  not-less : (x y : ℕ) → x < y → IsLeastUnshown n k members log x → IsLeastUnshown n k members log y → ⊥
  not-less x y less one other = one.fails (other.before x less one.passed)

  same-least : (x y : ℕ) → IsUnshown n k members log x → IsUnshown n k members log y → x ≡ y
  same-least zero zero one other = refl
  same-least zero (suc y) one other = absurd (one other.size)
  same-least (suc x) zero one other = absurd (other one.size)
  same-least (suc x) (suc y) one other = at (cases_lt (suc x) (suc y)) (cases_lt (suc y) (suc x))
    where
      at : (suc x < suc y) ⊎ (suc y ≤ suc x) → (suc y < suc x) ⊎ (suc x ≤ suc y) → suc x ≡ suc y
      at (inl less) back = absurd (not-less (suc x) (suc y) less one other)
      at (inr most) (inl less) = absurd (not-less (suc y) (suc x) less other one)
      at (inr most) (inr least) = omega (arith, most, least)

  pub one-missing : (one other : Option ℕ) → SaysMissing n k members log one → SaysMissing n k members log other → one ≡ other
  one-missing None None shows too = refl
  one-missing None (Some y) shows unshown = absurd (not-both y shows unshown)
  one-missing (Some x) None unshown shows = absurd (not-both x shows unshown)
  one-missing (Some x) (Some y) one other = ap Some (same-least x y one other)

pub ruleset answer_rules = (one-missing)

-- What names stand for: found in a scope, inside scopes, at the turn of a loop.
use Rattle.std.proofs.Common.{◌≡◌, ℕ, Bool, true, false, List, [], ◌∷◌, Option, Some, None, refl, sym, subst, lit≤}
use Rattle.std.specs.Prelude.{if◌then◌else◌, pos}
use Rattle.std.specs.Prelude.{option_and_then}
use Rattle.loc_base.specs.Bits.{width_of}
use Rattle.loc_base.proofs.ShelfOptions.{Some-same}
use Rattle.design_core.specs.declared.signal.Signal.{Signal}
use Rattle.v_sizes.specs.declared.meaning.Const.{Const}
use Rattle.v_sizes.specs.declared.meaning.Meaning.{Meaning}
use Rattle.v_sizes.specs.Context.{HasRange, IsMeaning, IsAmong}
use Rattle.v_sizes.proofs.Whole.{Standing}
use Rattle.v_hierarchy.specs.Names.{same_name}
use Rattle.v_binding.specs.declared.known.Use.{Use}
use Rattle.v_binding.specs.declared.known.Use.TheVariants.{Stands as stands, AtTurn as at_turn, Outside as outside}
use Rattle.v_binding.specs.Uses.{meaning_of}
use Rattle.v_binding.specs.Names.{Names, find, look_in, within}
use Rattle.bind_laws.specs.Every.{Every}
use Rattle.bind_laws.specs.Fit.{UseFits, NamesFit}

-- the names of a scope hide those around it
pub within-fit : (signals : List Signal) (own names : Names) → NamesFit signals own → NamesFit signals names
    → NamesFit signals (within own names)
within-fit signals [] names one other = other
within-fit signals (k ∷ ks) names one other = within-fit signals ks (k ∷ names) one.1 (one.0, other)

-- a property of what names stand for, of one that is found
pub find-every : (P : Use → Type 0) (names : Names) (name : List ℕ) (u : Use) → Every (λ k. P k.use_of) names
    → find names name ≡ Some u → P u
find-every P [] name u all is = cc
find-every P (k ∷ ks) name u all is = by (same_name k.name name) is (λ later. find-every P ks name u all.1 later)
  where
    by : (same : Bool) → (if same then Some k.use_of else find ks name) ≡ Some u → (find ks name ≡ Some u → P u) → P u
    by true is later = subst P (Some-same is) all.0
    by false is later = later is

a-turn : (c : Const) → width_of c.bits ≡ 32 → HasRange (width_of c.bits) (pos 31) (pos 0)
a-turn c wide = subst (λ w. HasRange w (pos 31) (pos 0)) (sym wide) (record { least = lit≤ tt; most = lit≤ tt; range = refl })

meant : (signals : List Signal) (o : Option Use) (m : Meaning) → ((u : Use) → o ≡ Some u → UseFits signals u)
    → option_and_then meaning_of o ≡ Some m
    → IsMeaning m × IsAmong signals m
meant signals None m fit is = cc
meant signals (Some (stands x)) m fit is = subst (λ y. IsMeaning y × IsAmong signals y) (Some-same is) (fit (stands x) refl)
meant signals (Some (at_turn c)) m fit is = subst (λ y. IsMeaning y × IsAmong signals y) (Some-same is) (a-turn c (fit (at_turn c) refl), tt)
meant signals (Some outside) m fit is = cc

-- names that fit are a scope of the design
pub names-stand : (signals : List Signal) (names : Names) → NamesFit signals names → Standing signals (look_in names)
names-stand signals names fit = record {
  scope = λ name m is. (meant signals (find names name) m (λ u found. find-every (UseFits signals) names name u fit found) is).0;
  of_design = λ name m is. (meant signals (find names name) m (λ u found. find-every (UseFits signals) names name u fit found) is).1;
}

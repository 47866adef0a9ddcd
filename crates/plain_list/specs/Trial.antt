-- The choices that the trial makes: a number for each of some places.
use Rattle.std.specs.Prelude.{ℕ, ◌<◌, ◌^◌, List, [], ◌∷◌}
use Rattle.design_core.specs.declared.design.Design.{Design}
use Rattle.design_core.specs.After.{Choice}
use Rattle.design_core.specs.Explained.{number_for, is_one_of, place_width}

-- these places freed, with these numbers
abbrev pub choice_of : List ℕ → List ℕ → Choice
choice_of places numbers = record { frees = is_one_of places; chosen = number_for places numbers }

-- a number for each place, of the place's width
abbrev pub AreNumbersFor : Design → List ℕ → List ℕ → Type 0
AreNumbersFor d [] [] = Unit {0}
AreNumbersFor d [] (number ∷ numbers) = ⊥
AreNumbersFor d (place ∷ places) [] = ⊥
AreNumbersFor d (place ∷ places) (number ∷ numbers) = (number < 2 ^ place_width d place) × AreNumbersFor d places numbers

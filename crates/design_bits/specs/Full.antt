-- Which case statements take an item whatever the value of their subject is, over lists, for what is private to this crate.
use Rattle.std.specs.Prelude.{ℕ, ◌≡◌, ◌<◌, ◌^◌, Bool, false, ◌&&◌, ◌||◌, nat_le, List, length, slice_index_or}
use Rattle.std.specs.List.{list_any, list_all}
use Rattle.design_core.specs.declared.signal.Signal.{Signal}
use Rattle.design_core.specs.declared.place.Place.{Place}
use Rattle.design_core.specs.declared.expression.Typed.{Typed}
use Rattle.design_core.specs.declared.statement.CaseItem.{CaseItem}
use Rattle.design_core.specs.FullCase.{all_below, deciding_bits, decided, constant_matches}
use Rattle.design_core.specs.WellFormed.{label_fits, statement_fits}

-- whether the statement of an item fits, and whether its labels have the subject's width
abbrev pub body_fits : List Signal → List Place → CaseItem → Bool
body_fits signals places item = statement_fits signals places item.body

abbrev pub labels_fit : List Signal → ℕ → CaseItem → Bool
labels_fit signals width item = list_all (label_fits signals width) item.labels

-- whether some label, or some item, has a constant that is equal to the subject's value by a number
abbrev pub labels_take : List Signal → Typed → ℕ → CaseItem → Bool
labels_take signals subject n item = list_any (constant_matches signals (decided subject.width subject.node n)) item.labels

-- whether some item has a constant label for each value of the subject
abbrev pub is_full_of : List Signal → Typed → List CaseItem → Bool
is_full_of signals subject items =
    let bits = deciding_bits subject.width subject.node in
    nat_le bits 8 && all_below (2 ^ bits) (λ n. list_any (labels_take signals subject n) items)

-- a table of numbers has those marked that another has, and those that pass a test
pub record Marks (old new : List Bool) (test : ℕ → Bool) : Type 0 where
  pub long : length new ≡ length old
  pub marks : (n : ℕ) → n < length old → slice_index_or new n false ≡ (slice_index_or old n false || test n)

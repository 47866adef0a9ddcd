-- Which bits a part of a signal by an index has (IEEE 1364-2005, 5.2.1): by a constant index surely those that have the
-- part's indexes and no others, by a variable one perhaps each bit of the signal.
use Rattle.std.specs.Prelude.{ℕ, ◌==◌, Bool, false, nat_lt, ℤ, ◌+ℤ◌, List, Option}
use Rattle.std.specs.Option.{option_map_or}
use Rattle.std.specs.List.{list_any}
use Rattle.design_core.specs.declared.signal.Signal.{Signal}
use Rattle.design_core.specs.declared.expression.Node.{Node}
use Rattle.design_core.specs.Valuation.{width_at, position_at}
use Rattle.design_core.specs.Operator.{integer_of}
use Rattle.design_core.specs.Constant.{constant_of}

-- whether an index has a bit, where it has one
abbrev pub is_at : ℕ → Option ℕ → Bool
is_at b position = option_map_or (λ p. p == b) position false

-- whether a part of a signal, by an index and the offsets of its bits from it, has a bit
abbrev pub has_bit : List Signal → ℕ → ℤ → List ℤ → ℕ → Bool
has_bit signals signal index offsets b = list_any (λ k. is_at b (position_at signals signal (index +ℤ k))) offsets

-- whether it may have the bit
abbrev pub may_pick : List Signal → ℕ → ℕ → Bool → Node → List ℤ → ℕ → Bool
may_pick signals signal index_width signed index offsets b =
    option_map_or (λ value. has_bit signals signal (integer_of signed index_width value) offsets b) (constant_of index_width index)
    (nat_lt b (width_at signals signal))

-- whether it surely has the bit
abbrev pub must_pick : List Signal → ℕ → ℕ → Bool → Node → List ℤ → ℕ → Bool
must_pick signals signal index_width signed index offsets b =
    option_map_or (λ value. has_bit signals signal (integer_of signed index_width value) offsets b) (constant_of index_width index) false

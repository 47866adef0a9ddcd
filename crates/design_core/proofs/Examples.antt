-- Worked examples of the definitions: small designs written down by hand, and what every cycle of them shows. The path
-- of a signal, its start value and where lists lie in memory stand for any.
use Rattle.design_core.specs.declared.expression.Node.{end_of-Typed, more_of-Typed}
use Rattle.std.proofs.Common.{◌≡◌, ℕ, ◌^◌, ◌<◌, List, [], ◌∷◌, length, Vec, Global, arith, refl}
use Rattle.std.specs.Prelude.{Bool, true, false, ◌==◌, ℤ, pos, negsuc, slice_index, Some}
use Rattle.loc_base.specs.declared.bits.Bits.{Bits}
use Rattle.loc_base.specs.declared.name.Name.{Name}
use Rattle.design_core.specs.declared.signal.Signal.{Signal}
use Rattle.design_core.specs.declared.signal.SignalKind.{SignalKind}
use Rattle.design_core.specs.declared.signal.SignalKind.TheVariants as kind
use Rattle.design_core.specs.declared.expression.Typed.{Typed}
use Rattle.design_core.specs.declared.expression.Node.TheVariants as node
use Rattle.design_core.specs.declared.statement.Part.TheVariants as part
use Rattle.design_core.specs.Valuation.{Valuation, bit, number, position_of}
use Rattle.design_core.specs.Value.{value, picked}
use Rattle.design_core.specs.Store.{store, with_picked}
use Rattle.design_core.specs.After.{Choice, Updates, after_set}
use Rattle.design_core.specs.Works.{places_of}

-- what stands for any path, start value and place in memory
pub record Any : Type 0 where
  pub path : Name
  pub start : Bits
  pub list : Vec ℕ Global

abbrev pub vec : {X : Type 0} → Any → (items : List X) → length items < 2 ^ 63 → Vec X Global
vec any items small = record { ptr = any.list.ptr; len = length items; cap = length items; alloc = any.list.alloc; items = items; ok = (refl, omega arith); small = small }

-- a signal with the range [width - 1 : 0], or as given
abbrev pub declared : Any → ℕ → ℤ → ℤ → SignalKind → Signal
declared any width left right kind = record { path = any.path; width = width; signed = false; left = left; right = right; kind = kind; start = any.start }

abbrev pub scalar : Any → SignalKind → Signal
scalar any kind = declared any 1 (pos 0) (pos 0) kind

-- a valuation by the numbers that the signals show
abbrev pub showing : List ℕ → Valuation
showing values s = bit (slice_index values s)

-- nothing is freed
abbrev pub none_freed : Choice
none_freed = record { frees = λ _. false; chosen = λ _. 0 }

-- one place is freed, and takes a value
abbrev pub freed : ℕ → ℕ → Choice
freed place value = record { frees = λ p. p == place; chosen = λ _. value }

-- ---- out of range
pub an_index_out_of_range_reads_0 : (any : Any) → picked (declared any 8 (pos 7) (pos 0) kind.Net ∷ []) (showing (255 ∷ [])) 0 (pos 9) (pos 0 ∷ []) 0 ≡ false
an_index_out_of_range_reads_0 any = refl

pub a_negative_index_reads_0 : (any : Any) → picked (declared any 8 (pos 7) (pos 0) kind.Net ∷ []) (showing (255 ∷ [])) 0 (negsuc 0) (pos 0 ∷ []) 0 ≡ false
a_negative_index_reads_0 any = refl

pub an_index_in_range_reads_its_bit : (any : Any) → picked (declared any 8 (pos 7) (pos 0) kind.Net ∷ []) (showing (128 ∷ [])) 0 (pos 7) (pos 0 ∷ []) 0 ≡ true
an_index_in_range_reads_its_bit any = refl

pub a_write_out_of_range_has_no_effect : (any : Any) → number 8 (with_picked (declared any 8 (pos 7) (pos 0) kind.Net ∷ []) (showing (0 ∷ [])) 0 (pos 9) 0 (pos 0 ∷ []) (bit 1) 0) ≡ 0
unfolding number
a_write_out_of_range_has_no_effect any = refl

pub a_write_in_range_sets_its_bit : (any : Any) → number 8 (with_picked (declared any 8 (pos 7) (pos 0) kind.Net ∷ []) (showing (0 ∷ [])) 0 (pos 3) 0 (pos 0 ∷ []) (bit 1) 0) ≡ 8
unfolding number
a_write_in_range_sets_its_bit any = refl

-- in the range [0:7] the index 0 names the highest bit
pub an_ascending_range_counts_from_the_left : (any : Any) → position_of (declared any 8 (pos 0) (pos 7) kind.Net) (pos 0) ≡ Some 7
an_ascending_range_counts_from_the_left any = refl

-- ---- assignments
abbrev two : Any → List Signal
two any = scalar any kind.Reg ∷ scalar any kind.Reg ∷ []

abbrev begun : Updates
begun = record { now = showing (1 ∷ 0 ∷ []); later = showing (1 ∷ 0 ∷ []) }

-- p <= q; q <= p; with p at 1 and q at 0
abbrev swapped : Any → Bool → Updates
swapped any later =
    let first = after_set (two any) (part.Whole 0 ∷ []) (begun.now 1) later begun in
    after_set (two any) (part.Whole 1 ∷ []) (first.now 0) later first

pub nonblocking_assignments_swap : (any : Any) → ((swapped any true).later 0 0 ≡ false) × ((swapped any true).later 1 0 ≡ true)
nonblocking_assignments_swap any = (refl, refl)

pub blocking_assignments_do_not_swap : (any : Any) → ((swapped any false).now 0 0 ≡ false) × ((swapped any false).now 1 0 ≡ false)
blocking_assignments_do_not_swap any = (refl, refl)

-- {p, q} = 2'b10;
pub the_leftmost_part_takes_the_highest_bit : (any : Any) →
    let M = showing (0 ∷ 0 ∷ []) in
    (store (two any) M M (part.Whole 0 ∷ part.Whole 1 ∷ []) (bit 2) 0 0 ≡ true) × (store (two any) M M (part.Whole 0 ∷ part.Whole 1 ∷ []) (bit 2) 1 0 ≡ false)
the_leftmost_part_takes_the_highest_bit any = (refl, refl)

-- {p, p} = 2'b10; stores the right part last
pub a_later_part_wins : (any : Any) → let M = showing (0 ∷ 0 ∷ []) in store (two any) M M (part.Whole 0 ∷ part.Whole 0 ∷ []) (bit 2) 0 0 ≡ false
a_later_part_wins any = refl

-- ---- an array: reg [3:0] mem [0:2], and its address in two bits
abbrev memory : Any → List Signal
memory any =
    declared any 4 (pos 3) (pos 0) kind.Reg ∷ declared any 4 (pos 3) (pos 0) kind.Reg ∷ declared any 4 (pos 3) (pos 0) kind.Reg
    ∷ declared any 2 (pos 1) (pos 0) kind.Input ∷ []

abbrev at_address : ℕ → Valuation
at_address a = showing (5 ∷ 9 ∷ 12 ∷ a ∷ [])

abbrev address : Typed
address = record { width = 2; signed = false; node = node.Whole 3 }

abbrev read : Any → ℕ → ℕ
read any a = value (memory any) (at_address a) (record { width = 4; signed = false; node = node.Word' 0 3 (pos 0) tt (more_of-Typed 2 false (node.Whole 3) end_of-Typed) 0 4 })

pub an_array_reads_the_word_at_its_address : (any : Any) → (read any 0 ≡ 5) × (read any 1 ≡ 9) × (read any 2 ≡ 12)
unfolding number
an_array_reads_the_word_at_its_address any = (refl, refl, refl)

pub an_address_past_the_last_word_reads_0 : (any : Any) → read any 3 ≡ 0
unfolding number
an_address_past_the_last_word_reads_0 any = refl

abbrev written : Any → ℕ → Valuation
written any a = store (memory any) (at_address a) (at_address a) (part.Word 0 3 (pos 0) address 0 4 ∷ []) (bit 7)

pub a_write_at_an_address_changes_that_word_alone : (any : Any) → (number 4 (written any 1 0) ≡ 5) × (number 4 (written any 1 1) ≡ 7) × (number 4 (written any 1 2) ≡ 12)
unfolding number
a_write_at_an_address_changes_that_word_alone any = (refl, refl, refl)

pub a_write_past_the_last_word_has_no_effect : (any : Any) → (number 4 (written any 3 0) ≡ 5) × (number 4 (written any 3 1) ≡ 9) × (number 4 (written any 3 2) ≡ 12)
unfolding number
a_write_past_the_last_word_has_no_effect any = (refl, refl, refl)

-- ---- suspects: two copies of one assignment are one suspect by the text, two by the instance
pub one_suspect_has_both_copies : (places_of ((0 ∷ 1 ∷ []) ∷ []) (1 ∷ []) 0 ≡ true) × (places_of ((0 ∷ 1 ∷ []) ∷ []) (1 ∷ []) 1 ≡ true)
one_suspect_has_both_copies = (refl, refl)

pub each_instance_has_its_own_place : (places_of ((2 ∷ []) ∷ (3 ∷ []) ∷ []) (1 ∷ []) 2 ≡ true) × (places_of ((2 ∷ []) ∷ (3 ∷ []) ∷ []) (1 ∷ []) 3 ≡ false) × (places_of ((2 ∷ []) ∷ (3 ∷ []) ∷ []) (1 ∷ 2 ∷ []) 3 ≡ true)
each_instance_has_its_own_place = (refl, refl, refl)

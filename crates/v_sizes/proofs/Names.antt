-- What the nodes of names with their selects mean, and that they fit.
use Rattle.std.proofs.Common.{◌≡◌, ℕ, ◌+◌, ◌≤◌, Bool, true, false, List, ◌∷◌, Option, Some, None, refl, ap, sym, ◌∙◌, arith}
use Rattle.std.specs.Prelude.{if◌then◌else◌, min, ℤ, pos, ◌+ℤ◌}
use Rattle.std.proofs.lemmas.Int.{ints}
use Rattle.std.proofs.Math.Nat.{max-le, le-max_left, min-le_right}
use Rattle.std.proofs.Common.{lit≤}
use Rattle.v_syntax.specs.declared.expression.PartKind.{PartKind}
use Rattle.v_syntax.specs.declared.expression.PartKind.TheVariants as kind
use Rattle.design_core.specs.declared.signal.Signal.{Signal}
use Rattle.design_core.specs.declared.expression.Typed.{Typed}
use Rattle.design_core.specs.declared.expression.Node.{Node}
use Rattle.design_core.specs.Valuation.{Valuation, number, distance_of}
use Rattle.design_core.proofs.NumberLaws.{number-zero, number-suc}
use Rattle.v_sizes.specs.Selected.{part_count, bit_at_index, part_number, part_distance, part_offset, base_index, descends}
use Rattle.v_sizes.specs.Literal.{limited}
use Rattle.v_sizes.specs.Sizing.{Sizing, own, integer, known, Word, Chosen, one_bit, some_bits, chosen_width, chosen_value, has_known_size}
use Rattle.v_sizes.specs.Sized.{sized, start_of, signal_part, Select, bit_select, part_select, base_of, signal_node}
use Rattle.v_sizes.specs.Context.{IsThere}
use Rattle.v_sizes.proofs.Steady.{IsSteady, integer-steady}
use Rattle.v_sizes.proofs.Meant.{Within, Meant}
use Rattle.v_sizes.proofs.Selects.{slice-meant, pick-meant, bit-known, part-known, start-known}

-- a select whose expressions are sized by themselves, and mean what they say
pub data MeantSelect (signals : List Signal) : Select → Chosen → Type 0 where
  one_index : {x : Sizing} {t : Typed} → IsSteady x → Meant signals t x.width x.signed (own x) → MeantSelect signals (bit_select x t) (one_bit x)
  two_indexes : {k : PartKind} {x y : Sizing} {t u : Typed} → IsSteady x → Meant signals t x.width x.signed (own x) → IsSteady y → Meant signals u y.width y.signed (own y)
      → MeantSelect signals (part_select k x t y u) (some_bits k x y)

pub limits : (n : ℕ) → Within (limited n)
limits n = record { least = le-max_left 1 (min n 128); most = max-le (lit≤ tt) (min-le_right n 128) }

pub chosen-within : (c : Chosen) → Within (chosen_width c)
chosen-within (one_bit x) = record { least = lit≤ tt; most = lit≤ tt }
chosen-within (some_bits k x y) = by (has_known_size (some_bits k x y))
  where
    by : (holds : Bool) → Within (if holds then limited (part_count k (known x) (known y)) else 1)
    by true = limits (part_count k (known x) (known y))
    by false = record { least = lit≤ tt; most = lit≤ tt }

-- one bit by its index is a part of one bit
one-bit : (bits : ℕ → Bool) (width : ℕ) (left right index : ℤ) → part_number bits width left right index 1 (λ b. pos 0) ≡ (if bit_at_index bits width left right index then 1 else 0)
one-bit bits width left right index =
    let still : index +ℤ pos 0 ≡ index = omega (arith, ints) in
    number-suc 0 (λ b. bit_at_index bits width left right (index +ℤ pos 0))
    ∙ ap (λ n. n + (if bit_at_index bits width left right (index +ℤ pos 0) then 1 else 0)) (number-zero (λ b. bit_at_index bits width left right (index +ℤ pos 0)))
    ∙ ap (λ i. 0 + (if bit_at_index bits width left right i then 1 else 0)) still
    ∙ alone (bit_at_index bits width left right index)
  where
    alone : (x : Bool) → 0 + (if x then 1 else 0) ≡ (if x then 1 else 0)
    alone true = refl
    alone false = refl

-- the word that a signal is
abbrev pub signal_word : ℕ → ℤ → ℤ → ℕ → Valuation → Word
signal_word width left right signal V = record { width = width; left = left; right = right; bits = V signal }

-- a part of a signal means its bits, where these are the ones that its index names
part-meant : (signals : List Signal) (width : ℕ) (left right : ℤ) (signal count : ℕ) (start : Option ℕ) (offset : ℕ → ℤ) (index : Typed) (x : Sizing) (signed : Bool) (of : Valuation → ℕ)
    → Within count → IsThere signals width left right signal → Meant signals index x.width x.signed (own x)
    → ((from : ℕ) → start ≡ Some from → (from + count ≤ width) × ((V : Valuation) → number count (λ b. V signal (from + b)) ≡ of V))
    → ((V : Valuation) → part_number (V signal) width left right (integer x V) count offset ≡ of V)
    → Meant signals (sized count signed (signal_part signal start count index offset)) count signed of
part-meant signals width left right signal count (Some from) offset index x signed of within there meant at by_index =
    let s = slice-meant signals width left right signal from count signed within (at from refl).0 there in
    record { of_width = s.of_width; of_sign = s.of_sign; means = λ V. s.means V ∙ (at from refl).1 V; fits = s.fits }
part-meant signals width left right signal count None offset index x signed of within there meant at by_index =
    let p = pick-meant signals width left right signal count offset index x signed within there meant in
    record { of_width = p.of_width; of_sign = p.of_sign; means = λ V. p.means V ∙ by_index V; fits = p.fits }

-- what is said of the numbers of a part-select where it isn't refused
part-index : (k : PartKind) (one other : Sizing) → IsSteady one → IsSteady other → has_known_size (some_bits k one other) ≡ true → (base_of k one other).constant ≡ true
    → (V : Valuation) → base_index k (known one) (known other) ≡ base_index k (integer one V) (integer other V)
part-index kind.Range one other first second known_size fixed V = sym (integer-steady other second fixed V)
part-index kind.Up one other first second known_size fixed V = sym (integer-steady one first fixed V)
part-index kind.Down one other first second known_size fixed V = sym (integer-steady one first fixed V)

base-integer : (k : PartKind) (one other : Sizing) (V : Valuation) → integer (base_of k one other) V ≡ base_index k (integer one V) (integer other V)
base-integer kind.Range one other V = refl
base-integer kind.Up one other V = refl
base-integer kind.Down one other V = refl

base-meant : (signals : List Signal) (k : PartKind) (x y : Sizing) (t u : Typed) → Meant signals t x.width x.signed (own x) → Meant signals u y.width y.signed (own y)
    → Meant signals (base_of k t u) (base_of k x y).width (base_of k x y).signed (own (base_of k x y))
base-meant signals kind.Range x y t u one other = other
base-meant signals kind.Up x y t u one other = one
base-meant signals kind.Down x y t u one other = one

-- where a place is known, the test is true
when-known : (holds : Bool) (start : Option ℕ) (from : ℕ) → (if holds then start else None) ≡ Some from → (holds ≡ true) × (start ≡ Some from)
when-known true start from h = (refl, h)
when-known false start from h = cc

-- one select of a signal
pub selected-meant : (signals : List Signal) {s : Select} {c : Chosen} (width : ℕ) (left right : ℤ) (signal : ℕ) (all : Node) (signed : Bool) (rest : List Select) (others : List Chosen)
    → IsThere signals width left right signal → MeantSelect signals s c → has_known_size c ≡ true
    → Meant signals (sized (chosen_width c) signed (signal_node signal width left right all (s ∷ rest))) (chosen_width c) signed
    (λ V. chosen_value (signal_word width left right signal V) (c ∷ others) V)
selected-meant signals width left right signal all signed rest others there (one_index {x = x} {t = t} steady meant) known_size =
    part-meant signals width left right signal 1 (if x.constant then start_of width 1 (distance_of left right (known x)) else None) (λ b. pos 0) t x signed
    (λ V. if bit_at_index (V signal) width left right (integer x V) then 1 else 0)
    (record { least = lit≤ tt; most = lit≤ tt }) there meant
    (λ from h.
    let k = when-known x.constant (start_of width 1 (distance_of left right (known x))) from h in (
      (start-known width 1 (distance_of left right (known x)) from k.1).1,
      λ V.
          bit-known (V signal) width from left right (known x) k.1
          ∙ ap (λ i. if bit_at_index (V signal) width left right i then 1 else 0) (sym (integer-steady x steady k.0 V)),
    ))
    (λ V. one-bit (V signal) width left right (integer x V))
selected-meant signals width left right signal all signed rest others there (two_indexes {k = k} {x = x} {y = y} {t = t} {u = u} steady meant steady_other meant_other) known_size =
    let count = chosen_width (some_bits k x y) in
    part-meant signals width left right signal count
    (if (base_of k x y).constant then start_of width count (part_distance left right k (known x) (known y) count) else None)
    (part_offset k (descends left right) count) (base_of k t u) (base_of k x y) signed
    (λ V. part_number (V signal) width left right (base_index k (integer x V) (integer y V)) count (part_offset k (descends left right) count))
    (chosen-within (some_bits k x y)) there (base-meant signals k x y t u meant meant_other)
    (λ from h.
    let at = when-known (base_of k x y).constant (start_of width count (part_distance left right k (known x) (known y) count)) from h in (
      (start-known width count (part_distance left right k (known x) (known y) count) from at.1).1,
      λ V.
          part-known (V signal) width from count left right k (known x) (known y) at.1
          ∙ ap (λ i. part_number (V signal) width left right i count (part_offset k (descends left right) count)) (part-index k x y steady steady_other known_size at.0 V),
    ))
    (λ V. ap (λ i. part_number (V signal) width left right i count (part_offset k (descends left right) count)) (base-integer k x y V))

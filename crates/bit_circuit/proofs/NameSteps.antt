-- Steps of the loops over the numbers of an index that name bits.
use Rattle.std.proofs.Common.{◌≡◌, ℕ, suc, ◌+◌, ◌-◌, ◌^◌, ◌≤◌, ◌<◌, Bool, true, false, if◌then◌else◌, List, [], ◌∷◌, ◌++◌, length, map, drop, get_or, Option, Some, None, refl, sym, ◌∙◌, ap, arith, append_assoc, append-nil, add-one, drop-cons}
use Rattle.std.specs.Prelude.{ℤ, pos, negsuc, nat_lt, ◌≤ℤ◌, ◌<ℤ◌}
use Rattle.std.specs.Int.RustNames.{unsigned_abs}
use Rattle.std.proofs.lemmas.Int.{ints}
use Rattle.std.proofs.lemmas.List.{drop_all}
use Rattle.word_net.specs.declared.node.Select.{Select}
use Rattle.bit_circuit.specs.Indexes.{name_of, name_at, names_from}

-- a whole number that is not negative, by how far it is from 0
pub name_of-high : (signed : Bool) (width : ℕ) (v : ℤ) → pos 0 ≤ℤ v
    → name_of signed width v
    ≡ (if nat_lt (unsigned_abs v) (2 ^ (if signed then width - 1 else width)) then Some (unsigned_abs v) else
    None)
name_of-high false width (pos m) high = refl
name_of-high true width (pos m) high = refl
name_of-high signed width (negsuc m) high = absurd (omega (arith, ints, high))

-- one that is negative
pub name_of-low : (signed : Bool) (width : ℕ) (v : ℤ) → v <ℤ pos 0
    → name_of signed width v
    ≡ (if signed then
    (if nat_lt (unsigned_abs v - 1) (2 ^ (width - 1)) then Some (2 ^ width - ((unsigned_abs v - 1) + 1)) else
    None) else None)
name_of-low signed width (pos m) low = absurd (omega (arith, ints, low))
name_of-low false width (negsuc m) low = refl
name_of-low true width (negsuc m) low =
    ap (λ j. if nat_lt j (2 ^ (width - 1)) then Some (2 ^ width - (j + 1)) else None) one_less
  where
    one_less : m ≡ unsigned_abs (negsuc m) - 1
    one_less = omega arith

pub ruleset names = (name_of-high, name_of-low)

pub names-more : (names : List (Option ℕ)) (select : Select) (offset : ℤ) (p n : ℕ) → p < n
    → names ++ names_from select offset p (n - p)
    ≡ (names ++ name_at select p offset ∷ []) ++ names_from select offset (p + 1) (n - (p + 1))
unfolding names_from
names-more names select offset p n less =
    ap (λ k. names ++ names_from select offset p k) count
    ∙ sym (append_assoc names (name_at select p offset ∷ []) (names_from select offset (p + 1) (n - (p + 1))))
  where
    count : n - p ≡ suc (n - (p + 1))
    count = omega (arith, less)

pub names-end : (names : List (Option ℕ)) (select : Select) (offset : ℤ) (p n : ℕ) → n ≤ p
    → names ++ names_from select offset p (n - p) ≡ names
unfolding names_from
names-end names select offset p n past = ap (λ k. names ++ names_from select offset p k) count ∙ append-nil names
  where
    count : n - p ≡ 0
    count = omega (arith, past)

pub ruleset positions = (names-more, names-end)

pub offsets-more : (names : List (Option ℕ)) (select : Select) (p : ℕ) (offsets : List ℤ) (i : ℕ) → i < length offsets
    → names ++ map (name_at select p) (drop i offsets)
    ≡ (names ++ name_at select p (get_or offsets i (pos 0)) ∷ []) ++ map (name_at select p) (drop (i + 1) offsets)
offsets-more names select p offsets i within =
    ap (λ zs. names ++ map (name_at select p) zs)
    (drop-cons offsets i (pos 0) within ∙ ap (λ n. get_or offsets i (pos 0) ∷ drop n offsets) (sym (add-one i)))
    ∙ sym (append_assoc names (name_at select p (get_or offsets i (pos 0)) ∷ [])
    (map (name_at select p) (drop (i + 1) offsets)))

pub offsets-end : (names : List (Option ℕ)) (select : Select) (p : ℕ) (offsets : List ℤ) (i : ℕ) → length offsets ≤ i
    → names ++ map (name_at select p) (drop i offsets) ≡ names
offsets-end names select p offsets i end = ap (λ zs. names ++ map (name_at select p) zs) (drop_all i offsets end)
    ∙ append-nil names

pub ruleset offsets = (offsets-more, offsets-end)

-- What a search finds in a table of spellings that ascends.
use Rattle.std.proofs.Common.{◌≡◌, ℕ, zero, suc, ◌<◌, Bool, true, List, [], ◌∷◌, length, map, get_or, Option, Some, None, refl, sym, ap, ◌∙◌, subst, add-one, arith}
use Rattle.std.specs.Prelude.{option_map}
use Rattle.std.specs.Map.{lookup, keys_of}
use Rattle.std.specs.List.{slice_get, AllByRecursion}
use Rattle.std.specs.List.Sorted.{IsNonDecreasingBy, IsStrictlySortedBy, IsSortedBy, IsPartitionPoint}
use Rattle.std.specs.Ordering.{nat_cmp, is_lt, is_eq, ordering_index, ordering_reverse}
use Rattle.std.specs.declared.cmp.Ordering.{Ordering}
use Rattle.std.specs.declared.cmp.Ordering.TheVariants.{Less, Equal, Greater}
use Rattle.std.specs.Cmp.Lexicographic.{slice_cmp}
use Rattle.std.proofs.lemmas.Bool.{and_parts}
use Rattle.std.proofs.lemmas.Cmp.{nat_list_cmp_total, eq_by_cmp_equiv}
use Rattle.std.proofs.lemmas.Option.{slice_get-map, slice_get-get_or, slice_get_within, get_or_from_slice_get}
use Rattle.std.proofs.lemmas.List.Sorted.{searchable_from_sorted}
use Rattle.std.proofs.lemmas.Map.Entries.{lookup_from_place, lookup_at_gap}
use Rattle.std.proofs.lemmas.Map.Keys.{IsDistinct-from_sorted}
use Rattle.std.proofs.lemmas.Map.Text.{is_eq-slice_cmp}
use Rattle.std.proofs.lemmas.Slice.Eq.{bytes_eq-Decides}
use Rattle.v_lexer.specs.declared.types.terminal.Terminal.{Terminal}
use Rattle.v_lexer.specs.Terminals.{Row, spelled, ascends}

-- the order of the bytes
abbrev order : List ℕ → List ℕ → Ordering
order = slice_cmp nat_cmp

is_less : (o : Ordering) → is_lt o ≡ true → o ≡ Less
is_less Less e = refl
is_less Equal e = cc
is_less Greater e = cc

-- what is below one is below all that it is below
above_all : (x y : List ℕ) (more : List (List ℕ)) → order x y ≡ Less → AllByRecursion (λ z. order y z ≡ Less) more → AllByRecursion (λ z. order x z ≡ Less) more
above_all x y [] e all = tt
above_all x y (z ∷ more) e all = (nat_list_cmp_total.trans x y z e all.0, above_all x y more e all.1)

sorted-ascends : (rows : List Row) → ascends rows ≡ true → IsStrictlySortedBy order (keys_of rows)
unfolding IsStrictlySortedBy
sorted-ascends [] e = tt
sorted-ascends (row ∷ []) e = (tt, tt)
sorted-ascends (row ∷ next ∷ rows) e =
    let parts = and_parts _ _ e in
    let below : order row.0 next.0 ≡ Less = is_less _ parts.0 in
    let behind = sorted-ascends (next ∷ rows) parts.1 in
    ((below, above_all row.0 next.0 (keys_of rows) below behind.0), behind)

-- tests that agree find the same
lookup-agree : (p q : List ℕ → Bool) → ((k : List ℕ) → p k ≡ q k) → (rows : List Row) → lookup p rows ≡ lookup q rows
lookup-agree p q agree [] = refl
lookup-agree p q agree (row ∷ rows) = rw (agree row.0, lookup-agree p q agree rows) refl

by_order : (text : List ℕ) (rows : List Row) → spelled rows text ≡ lookup (λ k. is_eq (order text k)) rows
by_order text rows = lookup-agree _ _ (λ k. sym (is_eq-slice_cmp text k)) rows

turned : (x y : List ℕ) (o : Ordering) → order y x ≡ o → order x y ≡ ordering_reverse o
turned x y o e = nat_list_cmp_total.antisymm x y ∙ ap ordering_reverse e

-- a key that the order doesn't tell apart is the text
same_text : (x y : List ℕ) → order x y ≡ Equal → x ≡ y
same_text x y e = (bytes_eq-Decides x y).0 (sym (is_eq-slice_cmp x y) ∙ ap is_eq e)

module _ {X : Type 0} (key : X → List ℕ) (value : X → Terminal) where
  abbrev row_of : X → Row
  row_of x = (key x, value x)

  from_row : (xs : List X) (j : ℕ) (row : Row) → slice_get (map row_of xs) j ≡ Some row → (x : X) × (slice_get xs j ≡ Some x) × (row_of x ≡ row)
  from_row xs j row e = by_option (slice_get xs j) refl (sym (slice_get-map row_of xs j) ∙ e)
    where
      by_option : (o : Option X) → slice_get xs j ≡ o → option_map row_of o ≡ Some row → (x : X) × (slice_get xs j ≡ Some x) × (row_of x ≡ row)
      by_option None is e = absurd (cc)
      by_option (Some x) is e = (x, is, cc)

  pub spelled_here : (xs : List X) (text : List ℕ) (i : ℕ) (d : X) → ascends (map row_of xs) ≡ true → i < length xs
      → order (key (get_or xs i d)) text ≡ Equal → spelled (map row_of xs) text ≡ Some (value (get_or xs i d))
  spelled_here xs text i d up inside e =
      let x = get_or xs i d in
      let stands : slice_get (map row_of xs) i ≡ Some (key x, value x) = slice_get-map row_of xs i ∙ ap (option_map row_of) (slice_get-get_or xs i d inside) in
      let apart = IsDistinct-from_sorted order (keys_of (map row_of xs)) (sorted-ascends (map row_of xs) up) in
      subst (λ k. spelled (map row_of xs) k ≡ Some (value x)) (same_text (key x) text e)
      (by_order (key x) (map row_of xs) ∙ lookup_from_place (eq_by_cmp_equiv nat_list_cmp_total) (map row_of xs) i (key x) (value x) apart stands)

  rises : (xs : List X) → ascends (map row_of xs) ≡ true → IsSortedBy (λ a b. is_lt (order (key a) (key b))) xs
  rises [] up k d least most = absurd (omega arith)
  rises (x ∷ []) up k d least most = absurd (omega arith)
  rises (x ∷ y ∷ xs) up zero d least most = ap is_lt (turned (key y) (key x) Less (is_less _ (and_parts _ _ up).0))
  rises (x ∷ y ∷ xs) up (suc k) d least most =
      let behind = rises (y ∷ xs) (and_parts _ _ up).1 k d (omega arith) (omega arith) in
      rw add-one (rw add-one at behind)

  module _ (xs : List X) (text : List ℕ) (i : ℕ) (up : ascends (map row_of xs) ≡ true)
      (parted : IsNonDecreasingBy (λ y. ordering_index (order (key y) text)) xs → IsPartitionPoint (λ y. order (key y) text ≡ Less) (λ y. order (key y) text ≡ Greater) xs i) where
    parts : IsPartitionPoint (λ y. order (key y) text ≡ Less) (λ y. order (key y) text ≡ Greater) xs i
    parts = parted (searchable_from_sorted nat_list_cmp_total key xs text (rises xs up))

    above : (j : ℕ) (row : Row) → j < i → slice_get (map row_of xs) j ≡ Some row → order text row.0 ≡ Greater
    above j row below e =
        let from = from_row xs j row e in
        let less : order (key from.0) text ≡ Less = rw (get_or_from_slice_get xs j from.0 from.0 from.1) at (parts.0 j from.0 (omega arith) below) in
        subst (λ (r : Row). order text r.0 ≡ Greater) from.2 (turned text (key from.0) Less less)

    here : (row : Row) → slice_get (map row_of xs) i ≡ Some row → order text row.0 ≡ Less
    here row e =
        let from = from_row xs i row e in
        let more : order (key from.0) text ≡ Greater = rw (get_or_from_slice_get xs i from.0 from.0 from.1) at (parts.1 i from.0 (omega arith) (slice_get_within xs i from.0 from.1)) in
        subst (λ (r : Row). order text r.0 ≡ Less) from.2 (turned text (key from.0) Greater more)

    pub spelled_nowhere : spelled (map row_of xs) text ≡ None
    spelled_nowhere = by_order text (map row_of xs) ∙ lookup_at_gap nat_list_cmp_total text (map row_of xs) i (sorted-ascends (map row_of xs) up) above here

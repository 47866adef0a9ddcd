-- The names of ports are names where all lines name something rightly.
use Rattle.std.proofs.Common.{◌≡◌, ◌≢◌, ℕ, zero, suc, ◌+◌, ◌-◌, ◌^◌, ◌<◌, ◌≤◌, ◌==◌, Bool, true, false, ◌||◌, List, [], ◌∷◌, ◌++◌, map, length, get_or, Option, Some, None, All, decimal, refl, sym, ◌∙◌, ap, subst, arith, inl, inr}
use Rattle.std.specs.Prelude.{nat_lt, IfSome}
use Rattle.std.specs.List.{range_with_len}
use Rattle.std.specs.Option.{option_map_or, option_to_list}
use Rattle.std.proofs.lemmas.Bool.{cases_Bool, cond-true, cond-false, true≢false}
use Rattle.std.proofs.lemmas.Bool.Decides.{nat_tests}
use Rattle.std.proofs.lemmas.List.{map-append}
use Rattle.std.proofs.lemmas.List.Elements.{All-cons, All-nil, All-append, All-map, All-from_get_or}
use Rattle.std.proofs.lemmas.Fmt.{decimal_is_IsNumeral}
use Rattle.std.proofs.lemmas.Str.Parse.{digit_at}
use Rattle.loc_base.specs.Name.{IsName, IsNameByte}
use Rattle.loc_base.proofs.ShelfLists.{slice_get-some}
use Rattle.aiger_text.specs.declared.row.Counts.{Counts}
use Rattle.aiger_text.specs.Rows.{first_output, first_and}
use Rattle.aiger_text.specs.Symbols.{PlainSymbol}
use Rattle.aiger_text.specs.Content.{Content}
use Rattle.aiger_rules.specs.Names.{is_plain, plain_byte, plain_text, symbol_of, own_name, row_name, port_name}
use Rattle.aiger_rules.specs.Ports.{rows_without}
use Rattle.aiger_rules.specs.Naming.{is_bad_symbol, is_misplaced, IsNamedWell}
use Rattle.aiger_rules.proofs.NameSteps.{symbol_of-within}

-- a letter and a number are a name
digits : (n : ℕ) → n < 2 ^ 64 → All IsNameByte (decimal n)
digits n small = All-from_get_or IsNameByte (decimal n) 0 λ i h.
    let d = digit_at (decimal n) i (decimal_is_IsNumeral n small).0.1 h in (omega (arith, d), omega (arith, d))

some : (x : ℕ) (xs : List ℕ) → x ∷ xs ≢ []
some x xs e = cc

pub letter_name : (letter n : ℕ) → 33 ≤ letter → letter ≤ 126 → n < 2 ^ 64 → IsName (letter ∷ decimal n)
letter_name letter n low high small = (some letter (decimal n), All-cons IsNameByte letter (decimal n) (low, high) (digits n small))

-- each byte of a plain name is one of a name
plain-byte : (byte : ℕ) → IsNameByte (plain_byte byte)
plain-byte byte =
    elim (cases_Bool (is_plain byte)) [
      | inl plain ↦
          let P : ℕ → Type 0 = λ b. IsNameByte b in
          subst P (sym (cond-true _ byte 95 plain)) (grind (arith, nat_tests), grind (arith, nat_tests))
      | inr other ↦
          let P : ℕ → Type 0 = λ b. IsNameByte b in
          subst P (sym (cond-false _ byte 95 other)) (omega arith, omega arith)
    ]

plain-name : (text : List ℕ) → (length text == 0) ≡ false → IsName (map plain_byte text)
plain-name [] some_text = absurd (true≢false some_text)
plain-name (x ∷ xs) some_text = (some _ _, All-map IsNameByte plain_byte (x ∷ xs) (λ k d below. plain-byte (get_or (x ∷ xs) k d)))

right-false : (a b : Bool) → (a || b) ≡ false → b ≡ false
right-false true b is = absurd (true≢false is)
right-false false b is = is

-- the name in a symbol that isn't misplaced
symbol-name : (w : Content) (place : ℕ) → place < length w.symbols → is_misplaced w place ≡ false → IsName (plain_text w.symbols place)
symbol-name w place within well =
    let (symbol, there) = slice_get-some w.symbols place within in
    let bad : is_bad_symbol w place symbol ≡ false = sym (ap (λ o. option_map_or (is_bad_symbol w place) o false) there) ∙ well in
    let P : Option PlainSymbol → Type 0 = λ o. IsName (option_map_or (λ (s : PlainSymbol). map plain_byte s.text) o []) in
    subst P (sym there) (plain-name symbol.text (right-false _ _ bad))

-- the name of a port without a symbol
row-name : (c : Counts) (row : ℕ) → row < 2 ^ 64 → IsName (row_name c row)
row-name c row small =
    elim (cases_Bool (nat_lt row c.inputs)) [
      | inl is ↦
          let P : List ℕ → Type 0 = λ name. IsName name in
          subst P (sym (cond-true _ (own_name 105 row) (own_name 111 (row - first_output c)) is)) (letter_name 105 row (omega arith) (omega arith) small)
      | inr is ↦
          let P : List ℕ → Type 0 = λ name. IsName name in
          subst P (sym (cond-false _ (own_name 105 row) (own_name 111 (row - first_output c)) is))
          (letter_name 111 (row - first_output c) (omega arith) (omega arith) (omega arith))
    ]

-- the name of a port
port-name : (w : Content) (row : ℕ) → ((place : ℕ) → place < length w.symbols → is_misplaced w place ≡ false) → row < 2 ^ 64 → IsName (port_name w row)
port-name w row well small = at (symbol_of w row) refl
  where
    at : (o : Option ℕ) → symbol_of w row ≡ o → IsName (option_map_or (plain_text w.symbols) o (row_name w.counts row))
    at None is = row-name w.counts row small
    at (Some place) is = let within = symbol_of-within w row place is in symbol-name w place within (well place within)

-- no symbol is misplaced
placed-well : (w : Content) (clock : Option (List ℕ)) → IsNamedWell w clock → (place : ℕ) → place < length w.symbols → is_misplaced w place ≡ false
placed-well w clock well place within =
    elim (cases_Bool (is_misplaced w place)) [
      | inl bad ↦ absurd (well _ (inl (place, within, bad, refl)))
      | inr good ↦ good
    ]

-- what holds of each number of a range
pub All-range : {X : Type 0} (P : X → Type 0) (f : ℕ → X) (a n : ℕ) → ((k : ℕ) → a ≤ k → k < a + n → P (f k)) → All P (map f (range_with_len a n))
All-range P f a zero each = All-nil P
All-range P f a (suc n) each =
    All-cons P (f a) (map f (range_with_len (a + 1) n)) (each a (omega arith) (omega arith))
    (All-range P f (a + 1) n (λ k from below. each k (omega (arith, from)) (omega (arith, below))))

All-three : {X : Type 0} (P : X → Type 0) (f : ℕ → X) (a b c : List ℕ) → All P (map f a) → All P (map f b) → All P (map f c) → All P (map f (a ++ b ++ c))
All-three P f a b c one two three =
    subst (All P) (sym (map-append f (a ++ b) c)) (All-append P (map f (a ++ b)) (map f c) (subst (All P) (sym (map-append f a b)) (All-append P (map f a) (map f b) one two)) three)

-- the names of all ports
pub ports-named : (w : Content) (clock : Option (List ℕ)) (out : ℕ) → IsNamedWell w clock → IfSome clock IsName → first_and w.counts < 2 ^ 64
    → out ≤ w.counts.inputs → All IsName (option_to_list clock ++ map (port_name w) (rows_without w.counts out))
ports-named w clock out well named small within =
    All-append IsName (option_to_list clock) (map (port_name w) (rows_without w.counts out)) (own clock named) (
    All-three IsName (port_name w) (range_with_len 0 out) (range_with_len (out + 1) (w.counts.inputs - (out + 1)))
    (range_with_len (first_output w.counts) w.counts.outputs)
    (All-range IsName (port_name w) 0 out (λ k from below. port-name w k (placed-well w clock well) (omega (arith, below))))
    (All-range IsName (port_name w) (out + 1) (w.counts.inputs - (out + 1)) (λ k from below. port-name w k (placed-well w clock well) (omega (arith, from, below))))
    (All-range IsName (port_name w) (first_output w.counts) w.counts.outputs (λ k from below. port-name w k (placed-well w clock well) (omega (arith, from, below))))
    )
  where
    own : (o : Option (List ℕ)) → IfSome o IsName → All IsName (option_to_list o)
    own None name = All-nil IsName
    own (Some name) is = All-cons IsName name [] is (All-nil IsName)

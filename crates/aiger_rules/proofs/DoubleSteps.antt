-- Two ports of one name, port by port: a name without a symbol is its own port's alone.
use Rattle.std.proofs.Common.{◌≡◌, ℕ, zero, suc, ◌+◌, ◌-◌, ◌^◌, ◌<◌, ◌≤◌, Bool, true, false, not, ◌&&◌, ◌||◌, List, [], ◌∷◌, ◌++◌, map, length, take, get_or, Option, Some, None, decimal, if◌then◌else◌, refl, sym, ◌∙◌, ap, subst, arith, ◌⊎◌, inl, inr}
use Rattle.std.specs.Prelude.{is_some, slice_index, nat_lt, nat_le}
use Rattle.std.specs.Bool.{OnTrue, OnFalse}
use Rattle.std.specs.Str.{bytes_eq}
use Rattle.std.specs.List.{range_with_len}
use Rattle.std.specs.Option.{option_map_or, option_to_list}
use Rattle.std.specs.Cmp.Lexicographic.{same_text}
use Rattle.std.proofs.lemmas.Bool.{cases_lt, cases_Bool, cond-true, cond-false, and_parts, false≢true, ltb-true, lt-ltb, le-ltb}
use Rattle.std.proofs.lemmas.Fmt.{decimal_is_IsNumeral}
use Rattle.std.specs.Str.Parse.{digits_value}
use Rattle.std.proofs.Common.{append_assoc}
use Rattle.std.proofs.lemmas.List.{append-nil, length-map}
use Rattle.aiger_text.specs.declared.row.Counts.{Counts}
use Rattle.aiger_text.specs.Rows.{first_output, first_and, row_count}
use Rattle.aiger_text.specs.Content.{Content}
use Rattle.aiger_rules.specs.Names.{own_name, row_name, port_name, plain_text, symbol_of}
use Rattle.aiger_rules.specs.Ports.{rows_without, port_line, symbol_line}
use Rattle.loc_base.proofs.ShelfBools.{or-false}
use Rattle.loc_base.specs.NameTable.{with_number}
use Rattle.aiger_rules.specs.Naming.{is_among, is_double}
use Rattle.aiger_rules.specs.Doubles.{is_own, met_with, OwnDiffer}
use Rattle.aiger_rules.proofs.NamingSteps.{is_among-more}

-- ---- a name that is met

-- the names that a table has, one more being added
added-has : (old new : List ℕ → Option ℕ) (name : List ℕ) (added : Bool) → added ≡ not (is_some (old name))
    → OnTrue added ((other : List ℕ) → new other ≡ with_number name 0 old other) → OnFalse added ((other : List ℕ) → new other ≡ old other)
    → (other : List ℕ) → is_some (new other) ≡ (bytes_eq name other || is_some (old other))
added-has old new name true fresh put stays other = ap is_some (put other) ∙ found (bytes_eq name other)
  where
    found : (same : Bool) → is_some (if same then Some 0 else old other) ≡ (same || is_some (old other))
    found true = refl
    found false = refl
added-has old new name false fresh put stays other = ap is_some (stays other) ∙ known (cases_Bool (bytes_eq name other))
  where
    there : (b : Bool) → false ≡ not b → b ≡ true
    there true kept = refl
    there false kept = cc

    known : ((bytes_eq name other) ≡ true) ⊎ ((bytes_eq name other) ≡ false) → is_some (old other) ≡ (bytes_eq name other || is_some (old other))
    known (inl same) =
        sym (ap (λ o. is_some (old o)) (same_text name other (sym same))) ∙ there (is_some (old name)) fresh ∙ sym (ap (λ b. b || is_some (old other)) same)
    known (inr apart) = sym (ap (λ b. b || is_some (old other)) apart)

-- a shared name that is met
pub met-shared : (shared : List ℕ → Bool) (old new : List ℕ → Option ℕ) (name : List ℕ) (added : Bool) → shared name ≡ true → added ≡ not (is_some (old name))
    → OnTrue added ((other : List ℕ) → new other ≡ with_number name 0 old other) → OnFalse added ((other : List ℕ) → new other ≡ old other)
    → (other : List ℕ) → is_some (new other) ≡ met_with shared (λ o. is_some (old o)) name other
met-shared shared old new name added is fresh put stays other = added-has old new name added fresh put stays other ∙ sym (cond-true _ _ _ is)

-- one that is not shared
pub met-own : (shared : List ℕ → Bool) (met : List ℕ → Bool) (name other : List ℕ) → shared name ≡ false → met other ≡ met_with shared met name other
met-own shared met name other is = sym (cond-false _ _ _ is)

-- ---- one place more

-- the shared names among those that were met
pub met-next : (shared met : List ℕ → Bool) (names : List (List ℕ)) (place : ℕ) (name : List ℕ) → place < length names → name ≡ get_or names place []
    → ((other : List ℕ) → shared other ≡ true → met other ≡ is_among (take place names) other)
    → (other : List ℕ) → shared other ≡ true → met_with shared met name other ≡ is_among (take (place + 1) names) other
met-next shared met names place name within is far other known =
    at (cases_Bool (shared name)) ∙ sym (is_among-more names place name other within is)
  where
    swap : (a b : Bool) → (a || b) ≡ (b || a)
    swap true true = refl
    swap true false = refl
    swap false true = refl
    swap false false = refl

    apart : shared name ≡ false → bytes_eq name other ≡ false
    apart own =
        elim (cases_Bool (bytes_eq name other)) [
          | inl same ↦ absurd (false≢true (sym own ∙ ap shared (same_text name other (sym same)) ∙ known))
          | inr differs ↦ differs
        ]

    at : (shared name ≡ true) ⊎ (shared name ≡ false) → met_with shared met name other ≡ (is_among (take place names) other || bytes_eq name other)
    at (inl one) = cond-true _ _ _ one ∙ ap (λ b. bytes_eq name other || b) (far other known) ∙ swap (bytes_eq name other) (is_among (take place names) other)
    at (inr own) =
        cond-false _ _ _ own ∙ far other known ∙ sym (ap (λ b. is_among (take place names) other || b) (apart own) ∙ or-false (is_among (take place names) other))

-- a place of a name among those before another one
among-place : (names : List (List ℕ)) (name : List ℕ) → is_among names name ≡ true → (i : ℕ) × (i < length names) × (get_or names i [] ≡ name)
among-place [] name among = absurd (false≢true among)
among-place (x ∷ xs) name among =
    elim (cases_Bool (bytes_eq x name)) [
      | inl same ↦ (0, omega arith, same_text x name (sym same))
      | inr apart ↦
          let (i, below, is) = among-place xs name (sym (ap (λ b. b || is_among xs name) apart) ∙ among) in
          (suc i, omega (arith, below), is)
    ]

get-take : (names : List (List ℕ)) (place i : ℕ) → i < place → get_or (take place names) i [] ≡ get_or names i []
get-take names zero i below = absurd (omega (arith, below))
get-take [] (suc place) i below = refl
get-take (x ∷ xs) (suc place) zero below = refl
get-take (x ∷ xs) (suc place) (suc i) below = get-take xs place i (omega (arith, below))

take-short : (names : List (List ℕ)) (place : ℕ) → length (take place names) ≤ place
take-short names zero = omega arith
take-short [] (suc place) = omega arith
take-short (x ∷ xs) (suc place) = omega (arith, take-short xs place)

-- a name that is not shared is no double
own-single : (shared : List ℕ → Bool) (rows : ℕ) (names : List (List ℕ)) (lines : List ℕ) (place : ℕ) → place < length names → OwnDiffer rows names lines
    → ((p : ℕ) → p < length names → is_own rows (slice_index lines p) ≡ false → shared (get_or names p []) ≡ true) → shared (get_or names place []) ≡ false
    → is_double names place ≡ false
own-single shared rows names lines place within differ known own =
    elim (cases_Bool (is_double names place)) [
      | inr single ↦ single
      | inl double ↦
          let (i, below, is) = among-place (take place names) (get_or names place []) double in
          let before : i < place = omega (arith, below, take-short names place) in
          let same : get_or names i [] ≡ get_or names place [] = sym (get-take names place i before) ∙ is in
          absurd (differ i place before within (own-row i (omega (arith, before, within)) (ap shared same ∙ own)) (own-row place within own) same)
    ]
  where
    own-row : (p : ℕ) → p < length names → shared (get_or names p []) ≡ false → is_own rows (slice_index lines p) ≡ true
    own-row p below free =
        elim (cases_Bool (is_own rows (slice_index lines p))) [ inl is ↦ is | inr not_own ↦ absurd (false≢true (sym free ∙ known p below not_own)) ]

-- whether the name at a place is a double
pub double-found : (shared met : List ℕ → Bool) (rows : ℕ) (names : List (List ℕ)) (lines : List ℕ) (place : ℕ) (name : List ℕ) (again : Bool) → place < length names
    → name ≡ get_or names place [] → OwnDiffer rows names lines
    → ((p : ℕ) → p < length names → is_own rows (slice_index lines p) ≡ false → shared (get_or names p []) ≡ true)
    → ((other : List ℕ) → shared other ≡ true → met other ≡ is_among (take place names) other) → again ≡ (shared name && met name) → again ≡ is_double names place
double-found shared met rows names lines place name again within is differ known far found =
    found ∙ at (cases_Bool (shared name))
  where
    at : (shared name ≡ true) ⊎ (shared name ≡ false) → (shared name && met name) ≡ is_double names place
    at (inl one) = ap (λ b. b && met name) one ∙ far name one ∙ ap (is_among (take place names)) is
    at (inr own) =
        ap (λ b. b && met name) own ∙ sym (own-single shared rows names lines place within differ known (sym (ap shared is) ∙ own))

-- ---- names without symbols

-- two numbers of one text
decimal-same : (m n : ℕ) → m < 2 ^ 64 → n < 2 ^ 64 → decimal m ≡ decimal n → m ≡ n
decimal-same m n small low same = sym (decimal_is_IsNumeral m small).1 ∙ ap (digits_value 10) same ∙ (decimal_is_IsNumeral n low).1

-- two rows of ports of one name
abbrev pub IsPortRow : Counts → ℕ → Type 0
IsPortRow c row = (row < c.inputs) ⊎ (first_output c ≤ row)

pub row_name-same : (c : Counts) (m n : ℕ) → m < 2 ^ 64 → n < 2 ^ 64 → IsPortRow c m → IsPortRow c n → row_name c m ≡ row_name c n → m ≡ n
row_name-same c m n small low (inl one) (inl other) same =
    decimal-same m n small low (rest (sym (named-input m one) ∙ same ∙ named-input n other))
  where
    named-input : (r : ℕ) → r < c.inputs → row_name c r ≡ own_name 105 r
    named-input r below = cond-true _ _ _ (lt-ltb r c.inputs below)

    rest : own_name 105 m ≡ own_name 105 n → decimal m ≡ decimal n
    rest is = cc
row_name-same c m n small low (inl one) (inr other) same =
    absurd (apart (sym (cond-true _ _ _ (lt-ltb m c.inputs one)) ∙ same ∙ cond-false _ _ _ (le-ltb n c.inputs (omega (arith, other)))))
  where
    apart : own_name 105 m ≡ own_name 111 (n - first_output c) → ⊥
    apart is = omega (arith, ap (λ (text : List ℕ). get_or text 0 0) is)
row_name-same c m n small low (inr one) (inl other) same =
    absurd (apart (sym (cond-true _ _ _ (lt-ltb n c.inputs other)) ∙ sym same ∙ cond-false _ _ _ (le-ltb m c.inputs (omega (arith, one)))))
  where
    apart : own_name 105 n ≡ own_name 111 (m - first_output c) → ⊥
    apart is = omega (arith, ap (λ (text : List ℕ). get_or text 0 0) is)
row_name-same c m n small low (inr one) (inr other) same =
    let is : m - first_output c ≡ n - first_output c =
    decimal-same (m - first_output c) (n - first_output c) (omega (arith, small)) (omega (arith, low)) (rest (sym (named-output m one) ∙ same ∙ named-output n other)) in
    omega (arith, is, one, other)
  where
    named-output : (r : ℕ) → first_output c ≤ r → row_name c r ≡ own_name 111 (r - first_output c)
    named-output r from = cond-false _ _ _ (le-ltb r c.inputs (omega (arith, from)))

    rest : own_name 111 (m - first_output c) ≡ own_name 111 (n - first_output c) → decimal (m - first_output c) ≡ decimal (n - first_output c)
    rest is = cc

-- rows that ascend, each of a port below a number
abbrev pub Ascend : Counts → ℕ → ℕ → List ℕ → Type 0
Ascend c from end [] = Unit {0}
Ascend c from end (row ∷ rows) = (from ≤ row) × (row < end) × IsPortRow c row × Ascend c (row + 1) end rows

-- those of a range, in front of others
ascend-range : (c : Counts) (from a n end : ℕ) (rest : List ℕ) → from ≤ a → a + n ≤ end → ((r : ℕ) → a ≤ r → r < a + n → IsPortRow c r) → Ascend c (a + n) end rest
    → Ascend c from end (range_with_len a n ++ rest)
ascend-range c from a zero end rest low high port behind = lower rest behind
  where
    lower : (rows : List ℕ) → Ascend c (a + zero) end rows → Ascend c from end rows
    lower [] all = tt
    lower (row ∷ rows) (above, below, own, next) = (omega (arith, above, low), below, own, next)
ascend-range c from a (suc n) end rest low high port behind =
    let next : Ascend c (a + 1) end (range_with_len (a + 1) n ++ rest) =
    ascend-range c (a + 1) (a + 1) n end rest (omega arith) (omega (arith, high)) (λ r from below. port r (omega (arith, from)) (omega (arith, below)))
    (let at : a + suc n ≡ a + 1 + n = omega arith in subst (λ k. Ascend c k end rest) at behind) in
    (low, omega (arith, high), port a (omega arith) (omega arith), next)

-- the rows of the ports ascend
rows-ascend : (c : Counts) (out : ℕ) → out ≤ c.inputs → Ascend c 0 (first_and c) (rows_without c out)
rows-ascend c out within =
    elim (cases_lt out c.inputs) [
      | inl below ↦
          subst (Ascend c 0 (first_and c)) (sym (append_assoc (range_with_len 0 out) (range_with_len (out + 1) (c.inputs - (out + 1))) outputs)) (
          ascend-range c 0 0 out (first_and c) (range_with_len (out + 1) (c.inputs - (out + 1)) ++ outputs) (omega arith) (omega (arith, within))
          (λ r from under. inl (omega (arith, under, within)))
          (ascend-range c (0 + out) (out + 1) (c.inputs - (out + 1)) (first_and c) outputs (omega arith) (omega (arith, below)) (λ r from under. inl (omega (arith, from, under)))
          (last (out + 1 + (c.inputs - (out + 1))) (omega (arith, below))))
          )
      | inr all ↦
          let none : c.inputs - (out + 1) ≡ zero = omega (arith, all) in
          let front : range_with_len 0 out ++ range_with_len (out + 1) (c.inputs - (out + 1)) ≡ range_with_len 0 out =
          ap (λ n. range_with_len 0 out ++ range_with_len (out + 1) n) none ∙ append-nil (range_with_len 0 out) in
          subst (λ rows. Ascend c 0 (first_and c) (rows ++ outputs)) (sym front) (
          ascend-range c 0 0 out (first_and c) outputs (omega arith) (omega (arith, within)) (λ r from under. inl (omega (arith, under, within)))
          (last (0 + out) (omega (arith, within)))
          )
    ]
  where
    outputs : List ℕ
    outputs = range_with_len (first_output c) c.outputs

    last : (from : ℕ) → from ≤ first_output c → Ascend c from (first_and c) outputs
    last from low =
        subst (Ascend c from (first_and c)) (append-nil outputs)
        (ascend-range c from (first_output c) c.outputs (first_and c) [] low (omega arith) (λ r above under. inr above) tt)

-- the row at a place
ascend-at : (c : Counts) (from end : ℕ) (rows : List ℕ) (i : ℕ) → Ascend c from end rows → i < length rows
    → (from ≤ get_or rows i 0) × (get_or rows i 0 < end) × IsPortRow c (get_or rows i 0)
ascend-at c from end [] i all within = absurd (omega (arith, within))
ascend-at c from end (row ∷ rows) zero (low, high, port, rest) within = (low, high, port)
ascend-at c from end (row ∷ rows) (suc i) (low, high, port, rest) within =
    let (above, below, own) = ascend-at c (row + 1) end rows i rest (omega (arith, within)) in (omega (arith, above, low), below, own)

-- a later one is above
ascend-less : (c : Counts) (from end : ℕ) (rows : List ℕ) (i j : ℕ) → Ascend c from end rows → i < j → j < length rows → get_or rows i 0 < get_or rows j 0
ascend-less c from end [] i j all less within = absurd (omega (arith, within))
ascend-less c from end (row ∷ rows) i zero all less within = absurd (omega (arith, less))
ascend-less c from end (row ∷ rows) zero (suc j) (low, high, port, rest) less within =
    let (above, below, own) = ascend-at c (row + 1) end rows j rest (omega (arith, within)) in omega (arith, above)
ascend-less c from end (row ∷ rows) (suc i) (suc j) (low, high, port, rest) less within =
    ascend-less c (row + 1) end rows i j rest (omega (arith, less)) (omega (arith, within))

get-map : {X : Type 0} (f : ℕ → X) (rows : List ℕ) (i : ℕ) (d : X) → i < length rows → get_or (map f rows) i d ≡ f (get_or rows i 0)
get-map f [] i d within = absurd (omega (arith, within))
get-map f (row ∷ rows) zero d within = refl
get-map f (row ∷ rows) (suc i) d within = get-map f rows i d (omega (arith, within))

-- a port whose line is that of its row has the name of its position
own-name : (w : Content) (row : ℕ) → is_own (row_count w.counts) (port_line w row) ≡ true → port_name w row ≡ row_name w.counts row
own-name w row own = at (symbol_of w row) own
  where
    at : (o : Option ℕ) → is_own (row_count w.counts) (option_map_or (symbol_line w) o (row + 2)) ≡ true
        → option_map_or (plain_text w.symbols) o (row_name w.counts row) ≡ row_name w.counts row
    at None is = refl
    at (Some place) is =
        let (two, below) = and_parts (nat_le 2 (symbol_line w place)) (nat_lt (symbol_line w place) (row_count w.counts + 2)) is in
        absurd (omega (arith, ltb-true (symbol_line w place) (row_count w.counts + 2) below))

-- the ports of ascending rows differ in their own names
rows-differ : (w : Content) (rows : List ℕ) → Ascend w.counts 0 (first_and w.counts) rows → first_and w.counts < 2 ^ 64
    → OwnDiffer (row_count w.counts) (map (port_name w) rows) (map (port_line w) rows)
rows-differ w rows all small i j less within own also same =
    let long : j < length rows = omega (arith, within, length-map rows (port_name w)) in
    let early : i < length rows = omega (arith, less, long) in
    let (low, high, port) = ascend-at w.counts 0 (first_and w.counts) rows i all early in
    let (above, below, other) = ascend-at w.counts 0 (first_and w.counts) rows j all long in
    let own_i : is_own (row_count w.counts) (port_line w (get_or rows i 0)) ≡ true = sym (ap (is_own (row_count w.counts)) (get-map (port_line w) rows i 0 early)) ∙ own in
    let own_j : is_own (row_count w.counts) (port_line w (get_or rows j 0)) ≡ true = sym (ap (is_own (row_count w.counts)) (get-map (port_line w) rows j 0 long)) ∙ also in
    let names : row_name w.counts (get_or rows i 0) ≡ row_name w.counts (get_or rows j 0) =
    sym (get-map (port_name w) rows i [] early ∙ own-name w (get_or rows i 0) own_i) ∙ same ∙ get-map (port_name w) rows j [] long ∙ own-name w (get_or rows j 0) own_j in
    omega (
      arith,
      row_name-same w.counts (get_or rows i 0) (get_or rows j 0) (omega (arith, high, small)) (omega (arith, below, small)) port other names,
      ascend-less w.counts 0 (first_and w.counts) rows i j all less long,
    )

-- a port in front whose line is that of the header
front-differ : (rows : ℕ) (name : List ℕ) (names : List (List ℕ)) (lines : List ℕ) → OwnDiffer rows names lines → OwnDiffer rows (name ∷ names) (1 ∷ lines)
front-differ rows name names lines differ zero j less within own also = absurd (false≢true own)
front-differ rows name names lines differ (suc i) zero less within own also = absurd (omega (arith, less))
front-differ rows name names lines differ (suc i) (suc j) less within own also = differ i j (omega (arith, less)) (omega (arith, within)) own also

-- all ports do
pub ports-differ : (w : Content) (clock : Option (List ℕ)) (out : ℕ) → out ≤ w.counts.inputs → first_and w.counts < 2 ^ 64
    → OwnDiffer (row_count w.counts) (option_to_list clock ++ map (port_name w) (rows_without w.counts out))
    (map (λ _. 1) (option_to_list clock) ++ map (port_line w) (rows_without w.counts out))
ports-differ w None out within small = rows-differ w (rows_without w.counts out) (rows-ascend w.counts out within) small
ports-differ w (Some name) out within small =
    front-differ (row_count w.counts) name (map (port_name w) (rows_without w.counts out)) (map (port_line w) (rows_without w.counts out))
    (rows-differ w (rows_without w.counts out) (rows-ascend w.counts out within) small)

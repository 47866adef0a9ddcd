-- Values and the texts that a set has of them: where words of the places' widths were read of all rows they are its values, and
-- where a set has values such words are there.
use Rattle.std.proofs.Common.{◌≡◌, ℕ, zero, suc, ◌+◌, ◌*◌, ◌<◌, ◌≤◌, List, [], ◌∷◌, ◌++◌, length, get_or, map, take, drop, refl, sym, ap, ap₂, ◌∙◌, subst, arith, length-append}
use Rattle.std.specs.Prelude.{All, Contains, nat_le, ◌==◌, ◌-◌, Option, Some, None, slice_get, true, false}
use Rattle.std.specs.List.{flat_map, list_any}
use Rattle.std.specs.List.Sorted.{IsStrictlyIncreasing}
use Rattle.std.specs.Option.{option_map_or}
use Rattle.std.proofs.Math.Seq.{drop-cons}
use Rattle.std.proofs.lemmas.Bool.{and_parts, eq-eqb, leb-true}
use Rattle.std.proofs.lemmas.List.{drop-drop, drop-map, drop_at, length-map, take-map, take_at}
use Rattle.std.proofs.lemmas.List.Elements.{All-cons, All-head, All-map, All-nil, All-tail, Contains-get_or}
use Rattle.loc_base.proofs.ShelfBools.{equal-true}
use Rattle.loc_base.proofs.ShelfLists.{All-member, Contains-at, slice_get-some, list_all-member, list_any-found, list_any-member}
use Rattle.loc_base.specs.Bits.{width_of}
use Rattle.design_core.specs.declared.design.Design.{Design}
use Rattle.design_core.specs.declared.place.Place.{Place}
use Rattle.design_core.specs.declared.trace.Trace.{Trace}
use Rattle.design_core.specs.declared.values.Values.{Values}
use Rattle.design_core.specs.Explained.{AreRows, IsRow, cycles_before, is_one_of, place_width, row_of}
use Rattle.design_core.specs.WellFormed.{IsWellFormed, is_width}
use Rattle.design_core.specs.Works.{places_of, suspect_has}
use Rattle.design_core.proofs.CyclesBefore.{cycles_before-suc}
use Rattle.suspect_map.specs.declared.group.Group.{Group}
use Rattle.suspect_map.specs.Groups.{AreWithin}
use Rattle.suspect_map.proofs.SuspectLaws.{numbers-equal}
use Rattle.report_doc.specs.declared.types.ReportSet.{ReportSet}
use Rattle.report_sets.specs.Found.{row_texts, rows_texts, traces_texts, word_text}
use Rattle.report_sets.specs.Reading.{AllHaveWords, AppendsRows, AreWidths, HasItsRows, HasWords, all_rows, groups_of}
use Rattle.report_sets.specs.Written.{HasValues, IsWritten}

-- ---- lists of lists of one length, one behind the other
pub length-even : {X A : Type 0} (f : X → List A) (w : ℕ) (xs : List X) → All (λ x. length (f x) ≡ w) xs → length (flat_map f xs) ≡ length xs * w
length-even f w [] even = omega arith
length-even f w (x ∷ xs) even =
    let rest = length-even f w xs (All-tail (λ y. length (f y) ≡ w) x xs even) in
    omega (arith, length-append (f x) (flat_map f xs), All-head (λ y. length (f y) ≡ w) x xs even, rest)

pub row-even : {X A : Type 0} (f : X → List A) (w : ℕ) (xs : List X) → All (λ x. length (f x) ≡ w) xs → (r : ℕ) (d : X) → r < length xs
    → take w (drop (r * w) (flat_map f xs)) ≡ f (get_or xs r d)
row-even f w [] even r d within = absurd (omega (arith, within))
row-even f w (x ∷ xs) even zero d within =
    let none : 0 * w ≡ 0 = omega arith in
    ap (λ n. take w (drop n (f x ++ flat_map f xs))) none
    ∙ take_at (f x) (flat_map f xs) w (All-head (λ y. length (f y) ≡ w) x xs even)
row-even f w (x ∷ xs) even (suc r) d within =
    let wide : length (f x) ≡ w = All-head (λ y. length (f y) ≡ w) x xs even in
    let far : suc r * w ≡ w + r * w = omega arith in
    ap (λ n. take w (drop n (f x ++ flat_map f xs))) far
    ∙ ap (take w) (sym (drop-drop (r * w) w (f x ++ flat_map f xs)) ∙ ap (drop (r * w)) (drop_at (f x) (flat_map f xs) w wide))
    ∙ row-even f w xs (All-tail (λ y. length (f y) ≡ w) x xs even) r d (omega (arith, within))

-- ---- texts of values
pub length-rows_texts : (values : Values) (first count : ℕ) → length (rows_texts values first count) ≡ count
unfolding rows_texts
length-rows_texts values first zero = refl
length-rows_texts values first (suc count) = ap suc (length-rows_texts values (first + 1) count)

pub has-its-rows : (values : Values) (first : ℕ) (traces : List Trace) → HasItsRows traces (traces_texts values first traces)
unfolding traces_texts
has-its-rows values first [] = refl
has-its-rows values first (trace ∷ traces) =
    ap₂ (λ (n : ℕ) (ns : List ℕ). n ∷ ns) (length-rows_texts values first trace.cycles) (has-its-rows values (first + trace.cycles) traces)

-- the cycles of all traces
abbrev total : List Trace → ℕ
total traces = cycles_before traces (length traces)

total-cons : (trace : Trace) (traces : List Trace) → total (trace ∷ traces) ≡ trace.cycles + total traces
total-cons trace traces = cycles_before-suc trace traces (length traces)

length-all : (traces : List Trace) (values : List (List (List (List ℕ)))) → HasItsRows traces values → length (all_rows values) ≡ total traces
length-all [] [] its = refl
length-all [] (rows ∷ values) its = cc
length-all (trace ∷ traces) [] its = cc
length-all (trace ∷ traces) (rows ∷ values) its =
    omega (arith, length-append rows (all_rows values), heads its, length-all traces values (tails its), total-cons trace traces)
  where
    lengths : List ℕ
    lengths = map (λ (rs : List (List (List ℕ))). length rs) values

    heads : length rows ∷ map (λ (rs : List (List (List ℕ))). length rs) values ≡ trace.cycles ∷ map (λ (t : Trace). t.cycles) traces
        → length rows ≡ trace.cycles
    heads same = cc

    tails : length rows ∷ map (λ (rs : List (List (List ℕ))). length rs) values ≡ trace.cycles ∷ map (λ (t : Trace). t.cycles) traces
        → HasItsRows traces values
    tails same = cc

-- ---- words that were read are the values
module _ (d : Design) (values : Values) (rows : List (List (List ℕ)))
    (read : AppendsRows (map (place_width d) values.places.items) rows [] values.rows.items) where
  abbrev places : List ℕ
  places = values.places.items

  abbrev widths : List ℕ
  widths = map (place_width d) places

  abbrev w : ℕ
  w = length places

  wide : length widths ≡ w
  wide = length-map places (place_width d)

  all-wide : (xs : List (List (List ℕ))) → All (λ (row : List (List ℕ)). length widths ≡ w) xs
  all-wide xs k e l = wide

  all-even : All (λ (row : List (List ℕ)). length row ≡ w) rows
  all-even k e l = read.even k e l ∙ wide

  pub are-rows : AreRows d places values.rows.items (length rows)
  are-rows = record { whole = whole; each = each }
    where
      whole : length values.rows.items ≡ length rows * w
      whole =
          sym (length-map values.rows.items width_of) ∙ ap length read.widths_are
          ∙ length-even (λ (row : List (List ℕ)). widths) w rows (all-wide rows)

      each : (r : ℕ) → r < length rows → IsRow d places (row_of places values.rows.items r)
      each r low =
          sym (take-map width_of w (drop (r * w) values.rows.items))
          ∙ ap (take w) (sym (drop-map width_of (r * w) values.rows.items) ∙ ap (drop (r * w)) read.widths_are)
          ∙ row-even (λ (row : List (List ℕ)). widths) w rows (all-wide rows) r [] low

  row-read : (r : ℕ) → r < length rows → row_texts values r ≡ get_or rows r []
  row-read r low =
      sym (take-map word_text w (drop (r * w) values.rows.items))
      ∙ ap (take w) (sym (drop-map word_text (r * w) values.rows.items) ∙ ap (drop (r * w)) read.texts_are)
      ∙ row-even (λ (row : List (List ℕ)). row) w rows all-even r [] low

  rows-read : (first count : ℕ) → first + count ≤ length rows → rows_texts values first count ≡ take count (drop first rows)
  unfolding rows_texts
  rows-read first zero within = refl
  rows-read first (suc count) within =
      let next : first + 1 ≡ suc first = omega arith in
      ap₂ (λ (row : List (List ℕ)) (more : List (List (List ℕ))). row ∷ more) (row-read first (omega (arith, within)))
      (rows-read (first + 1) count (omega (arith, within)) ∙ ap (λ n. take count (drop n rows)) next)
      ∙ ap (take (suc count)) (sym (drop-cons rows first [] (omega (arith, within))))

  traces-read : (first : ℕ) (traces : List Trace) (found : List (List (List (List ℕ)))) → HasItsRows traces found
      → drop first rows ≡ all_rows found → first + length (all_rows found) ≡ length rows → found ≡ traces_texts values first traces
  unfolding traces_texts
  traces-read first [] [] its rest long = refl
  traces-read first [] (one ∷ found) its rest long = cc
  traces-read first (trace ∷ traces) [] its rest long = cc
  traces-read first (trace ∷ traces) (one ∷ found) its rest long =
      ap₂ (λ (x : List (List (List ℕ))) (xs : List (List (List (List ℕ)))). x ∷ xs) here
      (traces-read (first + trace.cycles) traces found (tails its) behind (omega (arith, long, size, many)))
    where
      heads : length one ∷ map (λ (rs : List (List (List ℕ))). length rs) found ≡ trace.cycles ∷ map (λ (t : Trace). t.cycles) traces
          → length one ≡ trace.cycles
      heads same = cc

      tails : length one ∷ map (λ (rs : List (List (List ℕ))). length rs) found ≡ trace.cycles ∷ map (λ (t : Trace). t.cycles) traces
          → HasItsRows traces found
      tails same = cc

      many : length one ≡ trace.cycles
      many = heads its

      size : length (one ++ all_rows found) ≡ length one + length (all_rows found)
      size = length-append one (all_rows found)

      here : one ≡ rows_texts values first trace.cycles
      here =
          sym (rows-read first trace.cycles (omega (arith, long, size, many)) ∙ ap (take trace.cycles) rest
          ∙ take_at one (all_rows found) trace.cycles many)

      behind : drop (first + trace.cycles) rows ≡ all_rows found
      behind = sym (drop-drop trace.cycles first rows) ∙ ap (drop trace.cycles) rest ∙ drop_at one (all_rows found) trace.cycles many

-- the values of a set, where words of its places' widths were read of all its rows
pub is-written : (d : Design) (traces : List Trace) (groups : List Group) (set : ReportSet) (values : Values)
    → IsStrictlyIncreasing values.places.items → ((p : ℕ) → is_one_of values.places.items p ≡ places_of (groups_of groups) set.members p)
    → HasItsRows traces set.values → AppendsRows (map (place_width d) values.places.items) (all_rows set.values) [] values.rows.items
    → IsWritten d traces (groups_of groups) set values
is-written d traces groups set values ascending its_places its read = record {
  rows = record {
    ascending = ascending;
    places = its_places;
    rows = subst (AreRows d values.places.items values.rows.items) (length-all traces set.values its)
        (are-rows d values (all_rows set.values) read);
  };
  texts = traces-read d values (all_rows set.values) read 0 traces set.values its refl (omega arith);
}

-- ---- a set that has values has words
module _ (d : Design) (values : Values) (count : ℕ) (are : AreRows d values.places.items values.rows.items count) where
  abbrev of_widths : List ℕ
  of_widths = map (place_width d) values.places.items

  row-has : (r : ℕ) → r < count → HasWords of_widths (row_texts values r)
  row-has r low = (row_of values.places.items values.rows.items r, are.each r low, refl)

  rows-have : (first many : ℕ) → first + many ≤ count → All (HasWords of_widths) (rows_texts values first many)
  unfolding rows_texts
  rows-have first zero within = All-nil (HasWords of_widths)
  rows-have first (suc many) within =
      All-cons (HasWords of_widths) (row_texts values first) (rows_texts values (first + 1) many) (row-has first (omega (arith, within)))
      (rows-have (first + 1) many (omega (arith, within)))

  pub traces-have : (first : ℕ) (traces : List Trace) → first + total traces ≤ count → AllHaveWords of_widths (traces_texts values first traces)
  unfolding traces_texts
  traces-have first [] within = All-nil (All (HasWords of_widths))
  traces-have first (trace ∷ traces) within =
      All-cons (All (HasWords of_widths)) (rows_texts values first trace.cycles) (traces_texts values (first + trace.cycles) traces)
      (rows-have first trace.cycles (omega (arith, within, total-cons trace traces)))
      (traces-have (first + trace.cycles) traces (omega (arith, within, total-cons trace traces)))

-- two ascending lists of one set of numbers are one
pub places-same : (xs ys : List ℕ) → IsStrictlyIncreasing xs → IsStrictlyIncreasing ys → ((p : ℕ) → is_one_of xs p ≡ is_one_of ys p) → xs ≡ ys
places-same xs ys one other same =
    numbers-equal xs ys one other (λ p member. has ys p (sym (same p) ∙ is xs p member)) (λ p member. has xs p (same p ∙ is ys p member))
  where
    is : (zs : List ℕ) (p : ℕ) → Contains zs p → is_one_of zs p ≡ true
    is zs p member = list_any-member (λ z. z == p) zs p member (eq-eqb p p refl)

    has : (zs : List ℕ) (p : ℕ) → is_one_of zs p ≡ true → Contains zs p
    has zs p holds = let (z, member, same) = list_any-found (λ z. z == p) zs holds in subst (Contains zs) (equal-true z p same) member

-- a set whose rows are of other numbers has no values
pub none-long : (d : Design) (traces : List Trace) (groups : List Group) (set : ReportSet) → ¬ HasItsRows traces set.values
    → ¬ HasValues d traces (groups_of groups) set
none-long d traces groups set other (values, written) =
    other (subst (HasItsRows traces) (sym written.texts) (has-its-rows values 0 traces))

-- and so has one of which a row has no words of its places' widths
pub none-read : (d : Design) (traces : List Trace) (groups : List Group) (set : ReportSet) (places : List ℕ) (widths : List ℕ)
    → IsStrictlyIncreasing places → ((p : ℕ) → is_one_of places p ≡ places_of (groups_of groups) set.members p)
    → widths ≡ map (place_width d) places → ¬ AllHaveWords widths set.values → ¬ HasValues d traces (groups_of groups) set
none-read d traces groups set places widths ascending its_places are none (values, written) =
    none (subst (AllHaveWords widths) (sym written.texts)
    (subst (λ ws. AllHaveWords ws (traces_texts values 0 traces)) (sym (are ∙ ap (map (place_width d)) (sym same)))
    (traces-have d values (total traces) written.rows.rows 0 traces (omega arith))))
  where
    same : values.places.items ≡ places
    same = places-same values.places.items places written.rows.ascending ascending (λ p. written.rows.places p ∙ sym (its_places p))

-- ---- the widths of a set's places
width-fits : (d : Design) → IsWellFormed d → (p : ℕ) → p < length d.places.items → (1 ≤ place_width d p) × (place_width d p ≤ 128)
width-fits d formed p within =
    let (place, there) = slice_get-some d.places.items p within in
    let fits : is_width place.width ≡ true =
    list_all-member (λ (x : Place). is_width x.width) d.places.items place formed.places (Contains-at d.places.items p place there) in
    let wide : place_width d p ≡ place.width = ap (λ o. option_map_or (λ (x : Place). x.width) o 0) there in
    let (low, high) = and_parts (nat_le 1 place.width) (nat_le place.width 128) fits in
    (omega (arith, wide, leb-true 1 place.width low), omega (arith, wide, leb-true place.width 128 high))

-- a place of a suspect is one of the design's
suspect-within : (groups : List Group) (count p m : ℕ) → AreWithin count groups → suspect_has (groups_of groups) p m ≡ true → p < count
suspect-within groups count p m within has =
    let (some, there) = and_parts (nat_le 1 m) (option_map_or (λ places. list_any (λ q. q == p) places) (slice_get (groups_of groups) (m - 1)) false) has in
    at (slice_get (groups_of groups) (m - 1)) refl there
  where
    at : (o : Option (List ℕ)) → slice_get (groups_of groups) (m - 1) ≡ o → option_map_or (λ places. list_any (λ q. q == p) places) o false ≡ true → p < count
    at None is there = cc
    at (Some places) is there =
        let (q, member, same) = list_any-found (λ q. q == p) places there in
        let all : All (λ places. All (λ q. q < count) places) (groups_of groups) =
        All-map (λ places. All (λ q. q < count) places) (λ (group : Group). group.places) groups within in
        let each : All (λ q. q < count) places =
        All-member (λ places. All (λ q. q < count) places) (groups_of groups) places all (Contains-at (groups_of groups) (m - 1) places is) in
        subst (λ x. x < count) (equal-true q p same) (All-member (λ q. q < count) places q each member)

pub places-within : (d : Design) (groups : List Group) (members places : List ℕ) → AreWithin (length d.places.items) groups
    → ((p : ℕ) → is_one_of places p ≡ places_of (groups_of groups) members p) → All (λ p. p < length d.places.items) places
places-within d groups members places within its k e low =
    let p = get_or places k e in
    let here : is_one_of places p ≡ true = list_any-member (λ z. z == p) places p (Contains-get_or places k e low) (eq-eqb p p refl) in
    let (m, member, has) = list_any-found (suspect_has (groups_of groups) p) members (sym (its p) ∙ here) in
    suspect-within groups (length d.places.items) p m within has

pub are-widths : (d : Design) (groups : List Group) (members places widths : List ℕ) → IsWellFormed d → AreWithin (length d.places.items) groups
    → ((p : ℕ) → is_one_of places p ≡ places_of (groups_of groups) members p) → widths ≡ map (place_width d) places → AreWidths widths
are-widths d groups members places widths formed within its are =
    subst AreWidths (sym are)
    (All-map (λ w. (1 ≤ w) × (w ≤ 128)) (place_width d) places
    (λ k e low. width-fits d formed (get_or places k e) (places-within d groups members places within its k e low)))

pub ruleset values_rules = (is-written, none-long, none-read, are-widths)

-- The suspects of the keys are those of the places.
use Rattle.std.proofs.Common.{◌≡◌, ℕ, zero, suc, ◌+◌, ◌≤◌, Bool, true, false, ◌||◌, List, [], ◌∷◌, ◌++◌, length, get_or, take, map, Option, Some, None, refl, sym, ◌∙◌, ap, ap₂, subst, arith, inl, inr, append_assoc}
use Rattle.std.specs.Prelude.{◌↔◌, Contains, All, slice_get, slice_index}
use Rattle.std.specs.Option.{option_map_or}
use Rattle.std.specs.List.{list_any}
use Rattle.std.specs.List.Sorted.{IsStrictlyIncreasing}
use Rattle.std.proofs.lemmas.Bool.{cases_Bool, cond-true, cond-false, false≢true}
use Rattle.std.proofs.lemmas.List.{take_at, length_push}
use Rattle.std.proofs.lemmas.List.Elements.{All-nil, All-cons, All-append, Contains-append_right}
use Rattle.std.proofs.lemmas.List.Folds.{list_any-append}
use Rattle.std.proofs.lemmas.Option.{same_Some}
use Rattle.loc_base.proofs.ShelfLists.{Contains-empty, Contains-first, Contains-later, Contains-cons, Contains-at, list_any-member}
use Rattle.design_core.specs.declared.place.Place.{Place}
use Rattle.suspect_map.specs.declared.group.Group.{Group}
use Rattle.suspect_map.specs.Groups.{Grouping, label_of, has_key, numbers_at, group_at, groups_from, groups_of}
use Rattle.suspect_map.specs.Suspects.{HasKey, least, IsSuspect, AreSuspects, TestsKeys}
use Rattle.suspect_map.proofs.Ascending.{ascending-cons, numbers_at-ascend}

-- the rest of a list, from a place on
record Splits {A : Type 0} (xs : List A) (at : ℕ) (rest : List A) : Type 0 where
  before : List A
  is : xs ≡ before ++ rest
  there : at ≡ length before

abbrev Splits-next : {A : Type 0} (xs : List A) (at : ℕ) (x : A) (rest : List A) → Splits xs at (x ∷ rest) → Splits xs (at + 1) rest
Splits-next xs at x rest s = record {
  before = s.before ++ x ∷ [];
  is = s.is ∙ sym (append_assoc s.before (x ∷ []) rest);
  there = omega (arith, s.there, length_push s.before x);
}

-- the front
Splits-take : {A : Type 0} (xs : List A) (at : ℕ) (rest : List A) (s : Splits xs at rest) → take at xs ≡ s.before
Splits-take xs at rest s = ap (take at) s.is ∙ take_at s.before rest at (sym s.there)

-- the element behind the front
slice_get-behind : {A : Type 0} (before : List A) (x : A) (rest : List A) → slice_get (before ++ x ∷ rest) (length before) ≡ Some x
slice_get-behind [] x rest = refl
slice_get-behind (y ∷ ys) x rest = slice_get-behind ys x rest

-- none of a front passes
numbers_at-skip : {A : Type 0} (test : A → Bool) (at : ℕ) (before rest : List A) → list_any test before ≡ false
    → numbers_at test at (before ++ rest) ≡ numbers_at test (at + length before) rest
numbers_at-skip test at [] rest none = ap (λ n. numbers_at test n rest) (omega arith)
numbers_at-skip test at (x ∷ xs) rest none =
    elim (cases_Bool (test x)) [
      | inl e ↦ absurd (false≢true (sym none ∙ ap (λ b. b || list_any test xs) e))
      | inr e ↦
          cond-false _ _ _ e ∙ numbers_at-skip test (at + 1) xs rest (sym (ap (λ b. b || list_any test xs) e) ∙ none)
          ∙ ap (λ n. numbers_at test n rest) (omega arith)
    ]

-- the numbers, where the first that passes is known
numbers_at-first : {A : Type 0} (test : A → Bool) (xs : List A) (at : ℕ) (x : A) (rest : List A) (s : Splits xs at (x ∷ rest))
    → list_any test s.before ≡ false → test x ≡ true → numbers_at test 0 xs ≡ at ∷ numbers_at test (at + 1) rest
numbers_at-first test xs at x rest s none passes =
    let number : 0 + length s.before ≡ at = omega (arith, s.there) in
    ap (numbers_at test 0) s.is ∙ numbers_at-skip test 0 s.before (x ∷ rest) none
    ∙ ap (λ n. numbers_at test n (x ∷ rest)) number ∙ cond-true _ _ _ passes

-- a place that passes
record Passes {A : Type 0} (test : A → Bool) (xs : List A) (at number : ℕ) : Type 0 where
  place : ℕ
  item : A
  number_is : number ≡ at + place
  there : slice_get xs place ≡ Some item
  passes : test item ≡ true

Passes-later : {A : Type 0} (test : A → Bool) (x : A) (xs : List A) (at number : ℕ) → Passes test xs (at + 1) number → Passes test (x ∷ xs) at number
Passes-later test x xs at number p = record { place = suc p.place; item = p.item; number_is = omega (arith, p.number_is); there = p.there; passes = p.passes }

-- each of the numbers is that of one that passes
numbers_at-passes : {A : Type 0} (test : A → Bool) (at : ℕ) (xs : List A) (number : ℕ) → Contains (numbers_at test at xs) number → Passes test xs at number
numbers_at-passes test at [] number member = absurd (Contains-empty number member)
numbers_at-passes test at (x ∷ xs) number member =
    elim (cases_Bool (test x)) [
      | inl e ↦ elim (Contains-cons at (numbers_at test (at + 1) xs) number (subst (λ numbers. Contains numbers number) (cond-true _ _ _ e) member)) [
        | inl same ↦ record { place = 0; item = x; number_is = omega (arith, same); there = refl; passes = e }
        | inr later ↦ Passes-later test x xs at number (numbers_at-passes test (at + 1) xs number later)
      ]
      | inr e ↦ Passes-later test x xs at number (numbers_at-passes test (at + 1) xs number (subst (λ numbers. Contains numbers number) (cond-false _ _ _ e) member))
    ]

-- and each that passes has its number there
numbers_at-member : {A : Type 0} (test : A → Bool) (at : ℕ) (xs : List A) (place : ℕ) (x : A) → slice_get xs place ≡ Some x → test x ≡ true
    → Contains (numbers_at test at xs) (at + place)
numbers_at-member test at [] place x there passes = absurd cc
numbers_at-member test at (y ∷ ys) zero x there passes =
    let e : test y ≡ true = ap test (same_Some y x there) ∙ passes in
    subst (λ numbers. Contains numbers (at + 0)) (sym (cond-true _ _ _ e))
    (subst (λ n. Contains (at ∷ numbers_at test (at + 1) ys) n) (omega arith) (Contains-first at (numbers_at test (at + 1) ys)))
numbers_at-member test at (y ∷ ys) (suc place) x there passes =
    let later : Contains (numbers_at test (at + 1) ys) (at + suc place) =
    subst (Contains (numbers_at test (at + 1) ys)) (omega arith) (numbers_at-member test (at + 1) ys place x there passes) in
    elim (cases_Bool (test y)) [
      | inl e ↦ subst (λ numbers. Contains numbers (at + suc place)) (sym (cond-true _ _ _ e)) (Contains-later at (numbers_at test (at + 1) ys) (at + suc place) later)
      | inr e ↦ subst (λ numbers. Contains numbers (at + suc place)) (sym (cond-false _ _ _ e)) later
    ]

module _ {K : Type 0} (g : Grouping K) (decides : TestsKeys g) (kind : List ℕ) (places : List Place) where
  -- a place has a key where its test says so
  key-from : (k : K) (place : Place) (key : Option K) → g.key place ≡ key → option_map_or (λ own. g.same own k) key false ≡ true → g.key place ≡ Some k
  key-from k place None is passes = absurd (false≢true passes)
  key-from k place (Some own) is passes = is ∙ ap Some ((decides own k).0 passes)

  key-passes : (k : K) (place : Place) → g.key place ≡ Some k → has_key g k place ≡ true
  key-passes k place is = ap (λ key. option_map_or (λ own. g.same own k) key false) is ∙ (decides k k).1 refl

  -- the places of a key, by their numbers
  members : (k : K) (number : ℕ) → Contains (numbers_at (has_key g k) 0 places) number ↔ HasKey g places k number
  members k number = (
    (λ member.
        let p : Passes (has_key g k) places 0 number = numbers_at-passes (has_key g k) 0 places number member in
        let same : p.place ≡ number = omega (arith, p.number_is) in
        record { place = p.item; there = ap (slice_get places) (sym same) ∙ p.there; key = key-from k p.item (g.key p.item) refl p.passes }),
    (λ h.
        let same : 0 + number ≡ number = omega arith in
        subst (Contains (numbers_at (has_key g k) 0 places)) same (numbers_at-member (has_key g k) 0 places number h.place h.there (key-passes k h.place h.key))),
  )

  -- what a place's key leads to
  record Leads (at : ℕ) (place : Place) (rest : List Place) (k : K) : Type 0 where
    splits : Splits places at (place ∷ rest)
    key : g.key place ≡ Some k
    none : list_any (has_key g k) (take at places) ≡ false

  led : Place → K → Group
  led place k = record { kind = kind; label = label_of g.label place; places = numbers_at (has_key g k) 0 places }

  numbers-led : (at : ℕ) (place : Place) (rest : List Place) (k : K) → Leads at place rest k → numbers_at (has_key g k) 0 places ≡ at ∷ numbers_at (has_key g k) (at + 1) rest
  numbers-led at place rest k l =
      numbers_at-first (has_key g k) places at place rest l.splits
      (sym (ap (list_any (has_key g k)) (Splits-take places at (place ∷ rest) l.splits)) ∙ l.none) (key-passes k place l.key)

  -- the suspect that a place leads is one
  led-is : (at : ℕ) (place : Place) (rest : List Place) (k : K) → Leads at place rest k
      → IsSuspect g kind places (record { kind = kind; label = label_of g.label place; places = numbers_at (has_key g k) 0 places })
  led-is at place rest k l =
      let numbers = numbers-led at place rest k l in
      let first : slice_index (numbers_at (has_key g k) 0 places) 0 ≡ at = ap (λ (xs : List ℕ). get_or xs 0 0) numbers in
      let there : slice_get places at ≡ Some place = ap₂ (λ (xs : List Place) (n : ℕ). slice_get xs n) l.splits.is l.splits.there ∙ slice_get-behind l.splits.before place rest in
      record {
        key = k;
        named = refl;
        some = omega (arith, ap (λ (xs : List ℕ). length xs) numbers);
        ascending = numbers_at-ascend (has_key g k) 0 places;
        whole = members k;
        label = λ other is. ap (label_of g.label) (same_Some place other (sym there ∙ ap (slice_get places) (sym first) ∙ is));
      }

  each-at : (at : ℕ) (place : Place) (rest : List Place) (key : Option K) → Splits places at (place ∷ rest) → g.key place ≡ key
      → All (IsSuspect g kind places) (group_at g kind places at place key)
  each-at at place rest None s is = All-nil _
  each-at at place rest (Some k) s is =
      elim (cases_Bool (list_any (has_key g k) (take at places))) [
        | inl some ↦ subst (All (IsSuspect g kind places)) (sym (cond-true _ _ _ some)) (All-nil _)
        | inr none ↦ subst (All (IsSuspect g kind places)) (sym (cond-false _ _ _ none))
            (All-cons (IsSuspect g kind places) (record { kind = kind; label = label_of g.label place; places = numbers_at (has_key g k) 0 places }) []
            (led-is at place rest k (record { splits = s; key = is; none = none })) (All-nil _))
      ]

  each-from : (at : ℕ) (rest : List Place) → Splits places at rest → All (IsSuspect g kind places) (groups_from g kind places at rest)
  each-from at [] s = All-nil _
  each-from at (place ∷ rest) s =
      All-append (IsSuspect g kind places) (group_at g kind places at place (g.key place)) (groups_from g kind places (at + 1) rest)
      (each-at at place rest (g.key place) s refl) (each-from (at + 1) rest (Splits-next places at place rest s))

  -- numbers that ascend from one on
  record Ascends (from : ℕ) (numbers : List ℕ) : Type 0 where
    ascends : IsStrictlyIncreasing numbers
    above : All (λ n. from ≤ n) numbers

  ordered-at : (at : ℕ) (place : Place) (rest : List Place) (key : Option K) (behind : List Group) → Splits places at (place ∷ rest) → g.key place ≡ key
      → Ascends (at + 1) (map least behind) → Ascends at (map least (group_at g kind places at place key ++ behind))
  ordered-at at place rest None behind s is later = record { ascends = later.ascends; above = λ k d within. let h : at + 1 ≤ get_or (map least behind) k d = later.above k d within in omega arith }
  ordered-at at place rest (Some k) behind s is later =
      elim (cases_Bool (list_any (has_key g k) (take at places))) [
        | inl some ↦ subst (λ (groups : List Group). Ascends at (map least (groups ++ behind))) (sym (cond-true _ _ _ some)) weaker
        | inr none ↦ subst (λ (groups : List Group). Ascends at (map least (groups ++ behind))) (sym (cond-false _ _ _ none)) (first none)
      ]
    where
      weaker : Ascends at (map least behind)
      weaker = record { ascends = later.ascends; above = λ k d within. let h : at + 1 ≤ get_or (map least behind) k d = later.above k d within in omega arith }

      first : list_any (has_key g k) (take at places) ≡ false
          → Ascends at (slice_index (numbers_at (has_key g k) 0 places) 0 ∷ map least behind)
      first none =
          let numbers = numbers-led at place rest k (record { splits = s; key = is; none = none }) in
          let number : slice_index (numbers_at (has_key g k) 0 places) 0 ≡ at = ap (λ (xs : List ℕ). get_or xs 0 0) numbers in
          subst (λ n. Ascends at (n ∷ map least behind)) (sym number) (record {
            ascends = ascending-cons at (map least behind) (λ k d within. let h : at + 1 ≤ get_or (map least behind) k d = later.above k d within in omega arith) later.ascends;
            above = All-cons (λ n. at ≤ n) at (map least behind) (omega arith) weaker.above;
          })

  ordered-from : (at : ℕ) (rest : List Place) → Splits places at rest → Ascends at (map least (groups_from g kind places at rest))
  ordered-from at [] s = record { ascends = λ k within. absurd (omega (arith, within)); above = All-nil _ }
  ordered-from at (place ∷ rest) s =
      ordered-at at place rest (g.key place) (groups_from g kind places (at + 1) rest) s refl (ordered-from (at + 1) rest (Splits-next places at place rest s))

  -- the suspect of a key
  record Found (k : K) (groups : List Group) : Type 0 where
    group : Group
    member : Contains groups group
    places_are : group.places ≡ numbers_at (has_key g k) 0 places

  found-here : (at : ℕ) (place : Place) (k : K) (behind : List Group) → list_any (has_key g k) (take at places) ≡ false
      → Found k (group_at g kind places at place (Some k) ++ behind)
  found-here at place k behind none =
      subst (λ (groups : List Group). Found k (groups ++ behind)) (sym (cond-false _ _ _ none)) (record {
        group = record { kind = kind; label = label_of g.label place; places = numbers_at (has_key g k) 0 places };
        member = Contains-first _ behind;
        places_are = refl;
      })

  found-from : (at : ℕ) (rest : List Place) (s : Splits places at rest) (k : K) → list_any (has_key g k) s.before ≡ false → list_any (has_key g k) rest ≡ true
      → Found k (groups_from g kind places at rest)
  found-from at [] s k none some = absurd (false≢true some)
  found-from at (place ∷ rest) s k none some =
      elim (cases_Bool (has_key g k place)) [
        | inl e ↦
            let fresh : list_any (has_key g k) (take at places) ≡ false = ap (list_any (has_key g k)) (Splits-take places at (place ∷ rest) s) ∙ none in
            subst (λ key. Found k (group_at g kind places at place key ++ groups_from g kind places (at + 1) rest)) (sym (key-from k place (g.key place) refl e))
            (found-here at place k (groups_from g kind places (at + 1) rest) fresh)
        | inr e ↦
            let next : Splits places (at + 1) rest = Splits-next places at place rest s in
            let later : Found k (groups_from g kind places (at + 1) rest) =
            found-from (at + 1) rest next k (list_any-append (has_key g k) s.before (place ∷ []) ∙ other e) (sym (ap (λ b. b || list_any (has_key g k) rest) e) ∙ some) in
            record {
              group = later.group;
              member = Contains-append_right (group_at g kind places at place (g.key place)) (groups_from g kind places (at + 1) rest) later.group later.member;
              places_are = later.places_are;
            }
      ]
    where
      other : has_key g k place ≡ false → (list_any (has_key g k) s.before || list_any (has_key g k) (place ∷ [])) ≡ false
      other e = rw none (rw e refl)

  abbrev whole : Splits places 0 places
  whole = record { before = []; is = refl; there = refl }

  all-of : (k : K) (number : ℕ) → HasKey g places k number → (group : Group) × Contains (groups_of g kind places) group × Contains group.places number
  all-of k number h =
      let some : list_any (has_key g k) places ≡ true = list_any-member (has_key g k) places h.place (Contains-at places number h.place h.there) (key-passes k h.place h.key) in
      let found : Found k (groups_of g kind places) = found-from 0 places whole k refl some in
      (found.group, found.member, subst (λ (numbers : List ℕ). Contains numbers number) (sym found.places_are) ((members k number).1 h))

  pub suspects-found : AreSuspects g kind places (groups_of g kind places)
  suspects-found = record { each = each-from 0 places whole; all = all-of; ordered = (ordered-from 0 places whole).ascends }

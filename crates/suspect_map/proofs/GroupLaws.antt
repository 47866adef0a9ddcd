-- The suspects that places lead are those of their keys.
use Rattle.std.proofs.Common.{◌≡◌, ◌≢◌, ℕ, ◌+◌, ◌<◌, ◌≤◌, Bool, true, false, List, [], ◌∷◌, ◌++◌, length, take, drop, get_or, map, Option, Some, None, if◌then◌else◌, refl, sym, ◌∙◌, ap, ap₂, subst, arith, inl, inr, append_assoc}
use Rattle.std.specs.Prelude.{unwrap_or, Decides, All, Result, Ok, Err, IfOk}
use Rattle.std.specs.Option.{option_map_or}
use Rattle.std.specs.List.{list_any}
use Rattle.std.proofs.lemmas.Bool.{cases_Bool, cond-true, cond-false, false≢true, false_from_ne_true, eqb-true, eq-eqb, ne_eqb}
use Rattle.std.proofs.lemmas.List.{take_at, length_push}
use Rattle.std.proofs.lemmas.List.Elements.{All-nil, All-cons, All-append}
use Rattle.std.specs.List.Sorted.{IsStrictlyIncreasing}
use Rattle.loc_base.proofs.ShelfLists.{drop-at}
use Rattle.suspect_map.proofs.Ascending.{numbers_at-ascend}
use Rattle.design_core.specs.declared.place.Place.{Place}
use Rattle.suspect_map.specs.declared.group.Group.{Group}
use Rattle.suspect_map.specs.declared.label.Label.{Label}
use Rattle.suspect_map.specs.Groups.{Grouping, has_key, numbers_at, group_at, groups_from, groups_of, AreAscending, AreWithin}
use Rattle.suspect_map.specs.Grouping.{first_at, is_same, first_by, firsts_by, is_number, group_of, led_at, led_from}
use Rattle.suspect_map.proofs.FirstLaws.{IsFirst, first_at-found, first_at-none, first_at-some, first_at-passes, first_at-map}

-- numbers by two tests that agree
pub numbers_at-same : {A : Type 0} (one other : A → Bool) → ((x : A) → one x ≡ other x) → (at : ℕ) (xs : List A) → numbers_at one at xs ≡ numbers_at other at xs
numbers_at-same one other agree at [] = refl
numbers_at-same one other agree at (x ∷ xs) =
    ap₂ (λ (passes : Bool) (later : List ℕ). if passes then at ∷ later else later) (agree x) (numbers_at-same one other agree (at + 1) xs)

-- the numbers of images
pub numbers_at-map : {A B : Type 0} (test : B → Bool) (f : A → B) (at : ℕ) (xs : List A) → numbers_at test at (map f xs) ≡ numbers_at (λ x. test (f x)) at xs
numbers_at-map test f at [] = refl
numbers_at-map test f at (x ∷ xs) = ap (λ (later : List ℕ). if test (f x) then at ∷ later else later) (numbers_at-map test f (at + 1) xs)

-- each number is one of the list's
pub numbers_at-within : {A : Type 0} (test : A → Bool) (at : ℕ) (xs : List A) (most : ℕ) → at + length xs ≤ most → All (λ number. number < most) (numbers_at test at xs)
numbers_at-within test at [] most fits = All-nil _
numbers_at-within test at (x ∷ xs) most fits =
    let later : All (λ number. number < most) (numbers_at test (at + 1) xs) = numbers_at-within test (at + 1) xs most (omega (arith, fits)) in
    let here : at < most = omega (arith, fits) in
    elim (cases_Bool (test x)) [
      | inl e ↦ subst (All (λ number. number < most)) (sym (cond-true _ _ _ e)) (All-cons (λ number. number < most) at (numbers_at test (at + 1) xs) here later)
      | inr e ↦ subst (All (λ number. number < most)) (sym (cond-false _ _ _ e)) later
    ]

-- a number that is the one given
is_number-some : (number : ℕ) (first : Option ℕ) → is_number number first ≡ true → first ≡ Some number
is_number-some number None counts = absurd (false≢true counts)
is_number-some number (Some first) counts = ap Some (sym (eqb-true number first counts))

module _ {K : Type 0} (g : Grouping K) (decides : (a b : K) → Decides (g.same a b) (a ≡ b)) (kind : List ℕ) where
  -- the first with a key is the first place that has it
  first-place : (k : K) (places : List Place) → first_at (is_same g.same k) 0 (map g.key places) ≡ first_at (has_key g k) 0 places
  first-place k places = first_at-map (is_same g.same k) g.key 0 places

  -- a place that has a key
  has-own : (k : K) (place : Place) → g.key place ≡ Some k → has_key g k place ≡ true
  has-own k place is = rw is ((decides k k).1 refl)

  -- the first place of a key, one of its places being given
  first-of : (before : List Place) (place : Place) (rest : List Place) (k : K) → g.key place ≡ Some k
      → first_at (is_same g.same k) 0 (map g.key (before ++ place ∷ rest)) ≡ Some (unwrap_or (first_at (has_key g k) 0 before) (0 + length before))
  first-of before place rest k is = first-place k (before ++ place ∷ rest) ∙ first_at-found (has_key g k) 0 before place rest (has-own k place is)

  -- the keys whose first is a place are those that are the same as its own
  agrees-key : (before : List Place) (place : Place) (rest : List Place) (k : K) (at : ℕ) → g.key place ≡ Some k → at ≡ length before
      → first_at (is_same g.same k) 0 (map g.key (before ++ place ∷ rest)) ≡ Some at
      → (key : Option K) → is_number at (first_by g.same (map g.key (before ++ place ∷ rest)) key) ≡ option_map_or (λ own. g.same own k) key false
  agrees-key before place rest k at is there first None = refl
  agrees-key before place rest k at is there first (Some own) =
      elim (cases_Bool (g.same own k)) [
        | inl e ↦
            let found : first_at (is_same g.same own) 0 (map g.key (before ++ place ∷ rest)) ≡ Some at =
            ap (λ x. first_at (is_same g.same x) 0 (map g.key (before ++ place ∷ rest))) ((decides own k).0 e) ∙ first in
            ap (is_number at) found ∙ eq-eqb at at refl ∙ sym e
        | inr e ↦ false_from_ne_true _ (λ counts. false≢true (sym e ∙ same-own counts)) ∙ sym e
      ]
    where
      same-own : is_number at (first_at (is_same g.same own) 0 (map g.key (before ++ place ∷ rest))) ≡ true → g.same own k ≡ true
      same-own counts =
          let found : first_at (has_key g own) 0 (before ++ place ∷ rest) ≡ Some at = sym (first-place own (before ++ place ∷ rest)) ∙ is_number-some at _ counts in
          let passes : has_key g own place ≡ true = first_at-passes (has_key g own) 0 before place rest at (omega (arith, there)) found in
          let computed : has_key g own place ≡ g.same k own = ap (λ key. option_map_or (λ o. g.same o own) key false) is in
          (decides own k).1 (sym ((decides k own).0 (sym computed ∙ passes)))

  -- the suspect that a place leads is that of its key
  led-group : (before : List Place) (place : Place) (rest : List Place) (at : ℕ) → at ≡ length before → (key : Option K) → g.key place ≡ key
      → led_at g.label kind (firsts_by g.same (map g.key (before ++ place ∷ rest))) at place (first_by g.same (map g.key (before ++ place ∷ rest)) key)
      ≡ group_at g kind (before ++ place ∷ rest) at place key
  led-group before place rest at there None is = refl
  led-group before place rest at there (Some k) is =
      let front : take at (before ++ place ∷ rest) ≡ before = take_at before (place ∷ rest) at (sym there) in
      let first : first_at (is_same g.same k) 0 (map g.key (before ++ place ∷ rest)) ≡ Some (unwrap_or (first_at (has_key g k) 0 before) (0 + length before)) =
      first-of before place rest k is in
      elim (cases_Bool (list_any (has_key g k) before)) [
        | inl some ↦
            let found : IsFirst (first_at (has_key g k) 0 before) 0 (0 + length before) = first_at-some (has_key g k) 0 before some in
            let earlier : first_at (is_same g.same k) 0 (map g.key (before ++ place ∷ rest)) ≡ Some found.number =
            first ∙ ap (λ o. Some (unwrap_or o (0 + length before))) found.is in
            let apart : at ≢ found.number = λ same. absurd (omega (arith, same, there, found.below)) in
            cond-false _ _ _ (ap (is_number at) earlier ∙ ne_eqb at found.number apart)
            ∙ sym (cond-true _ _ _ (ap (list_any (has_key g k)) front ∙ some))
        | inr none ↦
            let own : first_at (is_same g.same k) 0 (map g.key (before ++ place ∷ rest)) ≡ Some at =
            first ∙ ap (λ o. Some (unwrap_or o (0 + length before))) (first_at-none (has_key g k) 0 before none) ∙ ap Some (omega (arith, there)) in
            let members : numbers_at (is_number at) 0 (firsts_by g.same (map g.key (before ++ place ∷ rest))) ≡ numbers_at (has_key g k) 0 (before ++ place ∷ rest) =
            numbers_at-map (is_number at) (first_by g.same (map g.key (before ++ place ∷ rest))) 0 (map g.key (before ++ place ∷ rest))
            ∙ numbers_at-map (λ key. is_number at (first_by g.same (map g.key (before ++ place ∷ rest)) key)) g.key 0 (before ++ place ∷ rest)
            ∙ numbers_at-same _ (has_key g k) (λ other. agrees-key before place rest k at is there own (g.key other)) 0 (before ++ place ∷ rest) in
            cond-true _ _ _ (ap (is_number at) own ∙ eq-eqb at at refl)
            ∙ ap (λ (numbers : List ℕ). group_of g.label kind place numbers ∷ []) members
            ∙ sym (cond-false _ _ _ (ap (list_any (has_key g k)) front ∙ none))
      ]

  -- and so of all places from one on
  led-groups : (before rest : List Place) (at : ℕ) → at ≡ length before
      → led_from g.label kind (firsts_by g.same (map g.key (before ++ rest))) at rest (map (first_by g.same (map g.key (before ++ rest))) (map g.key rest))
      ≡ groups_from g kind (before ++ rest) at rest
  led-groups before [] at there = refl
  led-groups before (place ∷ rest) at there =
      let shift : (before ++ place ∷ []) ++ rest ≡ before ++ place ∷ rest = append_assoc before (place ∷ []) rest in
      let next : at + 1 ≡ length (before ++ place ∷ []) = omega (arith, there, length_push before place) in
      let later : led_from g.label kind (firsts_by g.same (map g.key (before ++ place ∷ rest))) (at + 1) rest (map (first_by g.same (map g.key (before ++ place ∷ rest))) (map g.key rest))
      ≡ groups_from g kind (before ++ place ∷ rest) (at + 1) rest =
      subst (λ places. led_from g.label kind (firsts_by g.same (map g.key places)) (at + 1) rest (map (first_by g.same (map g.key places)) (map g.key rest))
      ≡ groups_from g kind places (at + 1) rest) shift (led-groups (before ++ place ∷ []) rest (at + 1) next) in
      ap₂ (λ (now : List Group) (behind : List Group). now ++ behind) (led-group before place rest at there (g.key place) refl) later

  -- the suspects that places lead are those of their keys
  pub groups-led : (places : List Place) → led_from g.label kind (firsts_by g.same (map g.key places)) 0 places (firsts_by g.same (map g.key places)) ≡ groups_of g kind places
  groups-led places = led-groups [] places 0 refl

  -- each place of a suspect is one of the list's
  group-within : (places : List Place) (at : ℕ) (place : Place) (key : Option K) → AreWithin (length places) (group_at g kind places at place key)
  group-within places at place None = All-nil _
  group-within places at place (Some k) =
      let members : All (λ number. number < length places) (numbers_at (has_key g k) 0 places) = numbers_at-within (has_key g k) 0 places (length places) (omega arith) in
      elim (cases_Bool (list_any (has_key g k) (take at places))) [
        | inl some ↦ subst (AreWithin (length places)) (sym (cond-true _ _ _ some)) (All-nil _)
        | inr none ↦ subst (AreWithin (length places)) (sym (cond-false _ _ _ none)) (All-cons (λ group. All (λ number. number < length places) group.places) (group_of g.label kind place (numbers_at (has_key g k) 0 places)) [] members (All-nil _))
      ]

  groups-within : (places : List Place) (at : ℕ) (rest : List Place) → AreWithin (length places) (groups_from g kind places at rest)
  groups-within places at [] = All-nil _
  groups-within places at (place ∷ rest) =
      All-append (λ group. All (λ number. number < length places) group.places) (group_at g kind places at place (g.key place)) (groups_from g kind places (at + 1) rest)
      (group-within places at place (g.key place)) (groups-within places (at + 1) rest)

  pub within : (places : List Place) → AreWithin (length places) (groups_of g kind places)
  within places = groups-within places 0 places

  -- and they ascend
  group-ascends : (places : List Place) (at : ℕ) (place : Place) (key : Option K) → AreAscending (group_at g kind places at place key)
  group-ascends places at place None = All-nil _
  group-ascends places at place (Some k) =
      elim (cases_Bool (list_any (has_key g k) (take at places))) [
        | inl some ↦ subst AreAscending (sym (cond-true _ _ _ some)) (All-nil _)
        | inr none ↦ subst AreAscending (sym (cond-false _ _ _ none)) (All-cons (λ group. IsStrictlyIncreasing group.places) (group_of g.label kind place (numbers_at (has_key g k) 0 places)) [] (numbers_at-ascend (has_key g k) 0 places) (All-nil _))
      ]

  groups-ascend : (places : List Place) (at : ℕ) (rest : List Place) → AreAscending (groups_from g kind places at rest)
  groups-ascend places at [] = All-nil _
  groups-ascend places at (place ∷ rest) =
      All-append (λ group. IsStrictlyIncreasing group.places) (group_at g kind places at place (g.key place)) (groups_from g kind places (at + 1) rest)
      (group-ascends places at place (g.key place)) (groups-ascend places (at + 1) rest)

  pub ascending : (places : List Place) → AreAscending (groups_of g kind places)
  ascending places = groups-ascend places 0 places

-- the suspects that places lead, as those of their keys
pub lists-by : {K E : Type 0} (g : Grouping K) → ((a b : K) → Decides (g.same a b) (a ≡ b)) → (kind : List ℕ) (places : List Place) (firsts : List (Option ℕ)) (result : Result (List Group) E)
    → firsts ≡ firsts_by g.same (map g.key places) → IfOk result (λ groups. groups ≡ led_from g.label kind firsts 0 places firsts) → IfOk result (λ groups. groups ≡ groups_of g kind places)
lists-by g decides kind places firsts result is led =
    let total : led_from g.label kind firsts 0 places firsts ≡ groups_of g kind places =
    ap (λ numbers. led_from g.label kind numbers 0 places numbers) is ∙ groups-led g decides kind places in
    subst (λ groups. IfOk result (λ x. x ≡ groups)) total led

-- and their places
pub within-by : {K E : Type 0} (g : Grouping K) → ((a b : K) → Decides (g.same a b) (a ≡ b)) → (kind : List ℕ) (places : List Place) (result : Result (List Group) E)
    → IfOk result (λ groups. groups ≡ groups_of g kind places) → IfOk result (AreWithin (length places))
within-by g decides kind places (Ok groups) is = subst (AreWithin (length places)) (sym is) (within g decides kind places)
within-by g decides kind places (Err err) is = is

-- which ascend
pub ascending-by : {K E : Type 0} (g : Grouping K) → ((a b : K) → Decides (g.same a b) (a ≡ b)) → (kind : List ℕ) (places : List Place) (result : Result (List Group) E)
    → IfOk result (λ groups. groups ≡ groups_of g kind places) → IfOk result AreAscending
ascending-by g decides kind places (Ok groups) is = subst AreAscending (sym is) (ascending g decides kind places)
ascending-by g decides kind places (Err err) is = is

-- one place more is looked at
pub led-next : (label : Label) (kind : List ℕ) (firsts : List (Option ℕ)) (places : List Place) (groups after total : List Group) (at : ℕ) (place : Place) (first : Option ℕ)
    → at < length places → at < length firsts → place ≡ get_or places at place → first ≡ get_or firsts at first
    → after ≡ groups ++ led_at label kind firsts at place first
    → groups ++ led_from label kind firsts at (drop at places) (drop at firsts) ≡ total
    → after ++ led_from label kind firsts (at + 1) (drop (at + 1) places) (drop (at + 1) firsts) ≡ total
led-next label kind firsts places groups after total at place first in_places in_firsts place_is first_is after_is before_is =
    let behind = led_from label kind firsts (at + 1) (drop (at + 1) places) (drop (at + 1) firsts) in
    let parted : led_from label kind firsts at (drop at places) (drop at firsts) ≡ led_at label kind firsts at place first ++ behind =
    ap₂ (led_from label kind firsts at) (drop-at places at place in_places place_is) (drop-at firsts at first in_firsts first_is) in
    ap (λ (xs : List Group). xs ++ behind) after_is ∙ append_assoc groups (led_at label kind firsts at place first) behind
    ∙ ap (λ (xs : List Group). groups ++ xs) (sym parted) ∙ before_is

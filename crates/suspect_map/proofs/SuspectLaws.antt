-- There is one list of the suspects of some places.
use Rattle.std.proofs.Common.{◌≡◌, ℕ, ◌<◌, List, [], ◌∷◌, length, get_or, map, refl, sym, ◌∙◌, ap, ap₂, subst, arith, inl, inr}
use Rattle.std.specs.Prelude.{Contains, slice_get}
use Rattle.std.specs.List.Sorted.{IsStrictlyIncreasing}
use Rattle.std.proofs.lemmas.List.{get_or-map, get_or_default, length-map}
use Rattle.std.proofs.lemmas.List.Folds.{map_fixed}
use Rattle.std.proofs.lemmas.Option.{same_Some}
use Rattle.loc_base.proofs.ShelfLists.{All-member, Contains-empty, Contains-first, Contains-later, Contains-cons}
use Rattle.design_core.specs.declared.place.Place.{Place}
use Rattle.suspect_map.specs.declared.group.Group.{Group}
use Rattle.suspect_map.specs.Groups.{Grouping, label_of}
use Rattle.suspect_map.specs.Suspects.{HasKey, least, IsSuspect, AreSuspects}
use Rattle.suspect_map.proofs.Ascending.{ascending-head, ascending-tail}

module _ {A : Type 0} (f : A → ℕ) where
  -- the first has the least number
  head-least : (x : A) (xs : List A) → IsStrictlyIncreasing (map f (x ∷ xs)) → (z : A) → Contains xs z → f x < f z
  head-least x xs ascends z (k, below, at) =
      let above : f x < get_or (map f xs) k (f z) = ascending-head (f x) (map f xs) ascends k (f z) (omega (arith, below, length-map xs f)) in
      let same : get_or (map f xs) k (f z) ≡ f z = get_or-map f xs k z (f z) below ∙ ap f at in
      omega (arith, above, same)

  -- two lists with the same members have the same first
  heads-same : (x y : A) (xs ys : List A) → IsStrictlyIncreasing (map f (x ∷ xs)) → IsStrictlyIncreasing (map f (y ∷ ys))
      → Contains (y ∷ ys) x → Contains (x ∷ xs) y → x ≡ y
  heads-same x y xs ys one other there back =
      elim (Contains-cons y ys x there) [
        | inl same ↦ sym same
        | inr behind ↦ elim (Contains-cons x xs y back) [
          | inl same ↦ same
          | inr later ↦
              let above : f x < f y = head-least x xs one y later in
              let below : f y < f x = head-least y ys other x behind in
              absurd (omega (arith, above, below))
        ]
      ]

  -- and what is behind the one's first is behind the other's
  behind-first : (x y : A) (xs ys : List A) → IsStrictlyIncreasing (map f (x ∷ xs)) → x ≡ y → ((z : A) → Contains (x ∷ xs) z → Contains (y ∷ ys) z)
      → (z : A) → Contains xs z → Contains ys z
  behind-first x y xs ys one first there z member =
      elim (Contains-cons y ys z (there z (Contains-later x xs z member))) [
        | inl same ↦
            let above : f x < f z = head-least x xs one z member in
            let alike : f x ≡ f z = ap f (first ∙ same) in
            absurd (omega (arith, above, alike))
        | inr later ↦ later
      ]

  -- two lists that ascend by a number and have the same members are equal
  pub ascending-equal : (xs ys : List A) → IsStrictlyIncreasing (map f xs) → IsStrictlyIncreasing (map f ys)
      → ((z : A) → Contains xs z → Contains ys z) → ((z : A) → Contains ys z → Contains xs z) → xs ≡ ys
  ascending-equal [] [] one other there back = refl
  ascending-equal [] (y ∷ ys) one other there back = absurd (Contains-empty y (back y (Contains-first y ys)))
  ascending-equal (x ∷ xs) [] one other there back = absurd (Contains-empty x (there x (Contains-first x xs)))
  ascending-equal (x ∷ xs) (y ∷ ys) one other there back =
      let first : x ≡ y = heads-same x y xs ys one other (there x (Contains-first x xs)) (back y (Contains-first y ys)) in
      ap₂ (λ (z : A) (zs : List A). z ∷ zs) first
      (ascending-equal xs ys (ascending-tail (f x) (map f xs) one) (ascending-tail (f y) (map f ys) other)
      (behind-first x y xs ys one first there) (behind-first y x ys xs other (sym first) back))

-- two lists of ascending numbers with the same members are equal
pub numbers-equal : (xs ys : List ℕ) → IsStrictlyIncreasing xs → IsStrictlyIncreasing ys
    → ((z : ℕ) → Contains xs z → Contains ys z) → ((z : ℕ) → Contains ys z → Contains xs z) → xs ≡ ys
numbers-equal xs ys one other =
    ascending-equal (λ n. n) xs ys (subst IsStrictlyIncreasing (sym (mapped xs)) one) (subst IsStrictlyIncreasing (sym (mapped ys)) other)
  where
    mapped : (zs : List ℕ) → map (λ n. n) zs ≡ zs
    mapped zs = map_fixed (λ n. n) zs (λ k d within. refl)

-- suspects by their parts
group-same : (a b : Group) → a.kind ≡ b.kind → a.label ≡ b.label → a.places ≡ b.places → a ≡ b
group-same a b kinds labels places =
    ap (λ (kind : List ℕ). record { kind = kind; label = a.label; places = a.places }) kinds
    ∙ ap (λ (label : List ℕ). record { kind = b.kind; label = label; places = a.places }) labels
    ∙ ap (λ (numbers : List ℕ). record { kind = b.kind; label = b.label; places = numbers }) places

module _ {K : Type 0} (g : Grouping K) (kind : List ℕ) (places : List Place) where
  -- the least place of a suspect is one of its places
  least-member : (group : Group) → 0 < length group.places → Contains group.places (least group)
  least-member group some = (0, some, sym (get_or_default group.places 0 0 (least group) some))

  -- the least place has the suspect's key
  least-key : (group : Group) (s : IsSuspect g kind places group) → HasKey g places s.key (least group)
  least-key group s = (s.whole (least group)).0 (least-member group s.some)

  -- the place of a number has one key
  keys-same : (a b : K) (number : ℕ) → HasKey g places a number → HasKey g places b number → a ≡ b
  keys-same a b number one other =
      let place : one.place ≡ other.place = same_Some _ _ (sym one.there ∙ other.there) in
      same_Some _ _ (sym one.key ∙ ap g.key place ∙ other.key)

  -- a key has one suspect
  suspect-same : (a b : Group) (one : IsSuspect g kind places a) (other : IsSuspect g kind places b) → one.key ≡ other.key → a ≡ b
  suspect-same a b one other keys =
      let there : (n : ℕ) → Contains a.places n → Contains b.places n =
      λ n member. (other.whole n).1 (subst (λ k. HasKey g places k n) keys ((one.whole n).0 member)) in
      let back : (n : ℕ) → Contains b.places n → Contains a.places n =
      λ n member. (one.whole n).1 (subst (λ k. HasKey g places k n) (sym keys) ((other.whole n).0 member)) in
      let numbers : a.places ≡ b.places = numbers-equal a.places b.places one.ascending other.ascending there back in
      let first : HasKey g places one.key (least a) = least-key a one in
      let label : b.label ≡ label_of g.label first.place = other.label first.place (ap (λ (xs : List ℕ). slice_get places (get_or xs 0 0)) (sym numbers) ∙ first.there) in
      group-same a b (one.named ∙ sym other.named) (one.label first.place first.there ∙ sym label) numbers

  -- the suspects of one list are those of the other
  included : (one other : List Group) → AreSuspects g kind places one → AreSuspects g kind places other → (group : Group) → Contains one group → Contains other group
  included one other a b group member =
      let s : IsSuspect g kind places group = All-member (IsSuspect g kind places) one group a.each member in
      let keyed : HasKey g places s.key (least group) = least-key group s in
      let (twin, there, has) = b.all s.key (least group) keyed in
      let t : IsSuspect g kind places twin = All-member (IsSuspect g kind places) other twin b.each there in
      subst (Contains other) (suspect-same twin group t s (keys-same t.key s.key (least group) ((t.whole (least group)).0 has) keyed)) there

  -- there is one list
  pub suspects-same : (one other : List Group) → AreSuspects g kind places one → AreSuspects g kind places other → one ≡ other
  suspects-same one other a b = ascending-equal least one other a.ordered b.ordered (included one other a b) (included other one b a)

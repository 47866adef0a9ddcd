-- A clause of at most three literals in the lists of its literals.
use Rattle.std.proofs.Common.{◌≡◌, ◌≢◌, ℕ, zero, suc, ◌+◌, ◌<◌, ◌≤◌, Bool, true, false, ◌||◌, cond, nat_le, List, [], ◌∷◌, ◌++◌, length, get_or, set, take, refl, sym, ap, ◌∙◌, subst, arith, ◌⊎◌, inl, inr}
use Rattle.std.proofs.lemmas.Bool.{cases_lt, cases_Bool, false≢true, both_ways, or_cases, or_parts, and_parts, leb-true, le-leb, lt-ltb, le-ltb}
use Rattle.std.proofs.lemmas.List.{get_or-set_same, get_or-set_other, get_or-take, get_or_append_left, get_or_push, length-set, length_push, length-take-le, take_more, take_all}
use Rattle.clause_base.specs.declared.literal.Lit.{Lit}
use Rattle.clause_base.specs.Literal.{IsWithin, has, same_lit, has_distinct_variables}
use Rattle.clause_base.specs.Acceptance.{numbered}
use Rattle.clause_base.proofs.Sets.{has-push, same_lit-true, lit_ext}
use Rattle.trail_core.specs.declared.short_list.Short.{Short}
use Rattle.trail_core.specs.declared.shorts.Shorts.{Shorts}
use Rattle.trail_core.specs.ShortListing.{ShortListing, no_shorts, one_of, two_of}
use Rattle.trail_core.specs.Values.{IsVariable}
use Rattle.trail_core.specs.TrailState.{IsNumber}
use Rattle.trail_core.specs.Watching.{code_of, is_short, is_fixed}
use Rattle.trail_core.specs.Shorts.{no_literal, lists_of, SameLists, shorts_of, IsEntry, IsEntered, HasShorts, HasNoShorts, SameShorts, HasShortPlace, HaveShortLists, HaveShortPlaces, PushesShort, Enters, entry_at, next_place}
use Rattle.trail_core.proofs.Listing.{cases_lit, code_same, apart_lit, at_any}
use Rattle.trail_core.proofs.Looks.{has_at, other_before, variable_of}
use Rattle.trail_core.proofs.Flat.{growing_count}
use Rattle.trail_core.proofs.Changes.{numbered-push_old, numbered-push_new, number_push}

-- the listing of a literal
abbrev pub listing : Shorts → Lit → ShortListing
listing s l = get_or s.growing.items (code_of l) no_shorts

pub same_itself : (s : Shorts) → SameShorts s s
same_itself s = record { fixed = refl; flat = refl; size = refl; same = λ l. refl; rooms = λ l. omega arith }

pub same_then : (a b c : Shorts) → SameShorts a b → SameShorts b c → SameShorts a c
same_then a b c p q = record { fixed = q.fixed ∙ p.fixed; flat = q.flat ∙ p.flat; size = q.size ∙ p.size; same = λ l. q.same l ∙ p.same l; rooms = λ l. omega (arith, p.rooms l, q.rooms l) }

-- one list more without clauses
pub empty_push : (xs : List ShortListing) (x : ShortListing) → x.clauses ≡ [] → ((i : ℕ) → (get_or xs i no_shorts).clauses ≡ []) → (i : ℕ) → (get_or (xs ++ x ∷ []) i no_shorts).clauses ≡ []
empty_push xs x e h i = elim (cases_lt i (length xs)) [
  | inl b ↦ ap (λ (y : ShortListing). y.clauses) (get_or_append_left xs (x ∷ []) no_shorts i b) ∙ h i
  | inr b ↦ elim (cases_lt (length xs) i) [
    | inl c ↦ ap (λ (y : ShortListing). y.clauses) (past (xs ++ x ∷ []) i no_shorts (omega (arith, c, length_push xs x)))
    | inr c ↦ ap (λ (y : ShortListing). y.clauses) (get_or_push xs x no_shorts i (omega (arith, b, c))) ∙ e
  ]
]
  where
    past : (ys : List ShortListing) (j : ℕ) (d : ShortListing) → length ys ≤ j → get_or ys j d ≡ d
    past [] j d l = refl
    past (y ∷ ys) zero d l = absurd (omega (arith, l))
    past (y ∷ ys) (suc j) d l = past ys j d (omega (arith, l))

-- another listing for one literal
listing_set_same : (old new : Shorts) (l : Lit) (x : ShortListing) → code_of l < length old.growing.items → new.growing.items ≡ set old.growing.items (code_of l) x → listing new l ≡ x
listing_set_same old new l x h e = ap (λ ls. get_or ls (code_of l) no_shorts) e ∙ get_or-set_same old.growing.items (code_of l) x no_shorts h

listing_set_other : (old new : Shorts) (l m : Lit) (x : ShortListing) → m ≢ l → new.growing.items ≡ set old.growing.items (code_of l) x → listing new m ≡ listing old m
listing_set_other old new l m x d e = ap (λ ls. get_or ls (code_of m) no_shorts) e ∙ get_or-set_other old.growing.items (code_of l) (code_of m) x no_shorts (λ z. d (code_same m l z))

-- one list with more room
pub same_set : (old new : Shorts) (l : Lit) (x : ShortListing) → new.fixed ≡ old.fixed → new.flat ≡ old.flat → code_of l < length old.growing.items → new.growing.items ≡ set old.growing.items (code_of l) x → x.clauses ≡ shorts_of old.growing.items l → (listing old l).room ≤ x.room → SameShorts old new
same_set old new l x f g h e n r = record {
  fixed = f;
  flat = g;
  size = ap length e ∙ length-set old.growing.items (code_of l) x;
  same = λ m. elim (cases_lit m l) [
    | inl q ↦ subst (λ z. shorts_of new.growing.items z ≡ shorts_of old.growing.items z) (sym q) (ap (λ (y : ShortListing). y.clauses) (listing_set_same old new l x h e) ∙ n)
    | inr d ↦ ap (λ (y : ShortListing). y.clauses) (listing_set_other old new l m x d e)
  ];
  rooms = λ m. elim (cases_lit m l) [
    | inl q ↦ subst (λ z. (listing old z).room ≤ (listing new z).room) (sym q) (omega (arith, ap (λ (y : ShortListing). y.room) (listing_set_same old new l x h e), r))
    | inr d ↦ omega (arith, ap (λ (y : ShortListing). y.room) (listing_set_other old new l m x d e))
  ];
}

pub place_set : (old new : Shorts) (l : Lit) (x : ShortListing) → code_of l < length old.growing.items → new.growing.items ≡ set old.growing.items (code_of l) x → x.clauses ≡ shorts_of old.growing.items l → length (shorts_of old.growing.items l) < x.room → HasShortPlace new l
place_set old new l x h e n r = omega (arith, r, ap length n, ap (λ (y : ShortListing). y.room) (listing_set_same old new l x h e), ap (λ (y : ShortListing). length y.clauses) (listing_set_same old new l x h e))

pub pushes_set : (old new : Shorts) (l : Lit) (x : ShortListing) (s : Short) → new.fixed ≡ old.fixed → new.flat ≡ old.flat → code_of l < length old.growing.items → new.growing.items ≡ set old.growing.items (code_of l) x → x.clauses ≡ shorts_of old.growing.items l ++ s ∷ [] → PushesShort old new l s
pushes_set old new l x s f g h e n = record {
  fixed = f;
  flat = g;
  size = ap length e ∙ length-set old.growing.items (code_of l) x;
  own = ap (λ (y : ShortListing). y.clauses) (listing_set_same old new l x h e) ∙ n;
  others = λ m d. listing_set_other old new l m x d e;
}

-- a literal that had room has it in wider lists
pub place_wider : (a b : Shorts) (l : Lit) → SameShorts a b → HasShortPlace a l → HasShortPlace b l
place_wider a b l s h = omega (arith, h, s.rooms l, ap length (s.same l))

-- a literal in the front of a clause and the next one
in_next : (c : List Lit) (k : ℕ) (d l : Lit) → k < length c → has (take (k + 1) c) l ≡ true → (has (take k c) l ≡ true) ⊎ (get_or c k d ≡ l)
in_next c k d l b h = elim (or_cases (has (take k c) l) (same_lit (get_or c k d) l) (sym (has-push (take k c) (get_or c k d) l) ∙ (ap (λ xs. has xs l) (sym (take_more c k d b)) ∙ h))) [
  | inl t ↦ inl t
  | inr s ↦ inr (same_lit-true (get_or c k d) l s)
]

pub places_more : (a b : Shorts) (c : List Lit) (k : ℕ) (d : Lit) → k < length c → SameShorts a b → HaveShortPlaces a (take k c) → HasShortPlace b (get_or c k d) → HaveShortPlaces b (take (k + 1) c)
places_more a b c k d l s h more m t = elim (in_next c k d m l t) [
  | inl before ↦ place_wider a b m s (h m before)
  | inr now ↦ subst (HasShortPlace b) now more
]

pub places_none : (a : Shorts) (c : List Lit) → HaveShortPlaces a (take 0 c)
places_none a c m t = absurd (false≢true t)

pub places_all : (a : Shorts) (c : List Lit) (k : ℕ) → length c ≤ k → HaveShortPlaces a (take k c) → HaveShortPlaces a c
places_all a c k l h m t = h m (ap (λ xs. has xs m) (take_all k c l) ∙ t)

pub lists_same : (a b : Shorts) (c : List Lit) → SameShorts a b → HaveShortLists a c → HaveShortLists b c
lists_same a b c s h l t = omega (arith, h l t, s.size)

-- the literal at a place doesn't stand before it
fresh_at : (c : List Lit) (k : ℕ) (d : Lit) → has_distinct_variables c ≡ true → k < length c → has (take k c) (get_or c k d) ≡ false
fresh_at c k d u l = elim (cases_Bool (has (take k c) (get_or c k d))) [ inl t ↦ absurd (other_before c k d (get_or c k d) l u t refl) | inr f ↦ f ]

before_at : (c : List Lit) (i k : ℕ) (d : Lit) → i < k → k < length c → has (take k c) (get_or c i d) ≡ true
before_at c i k d l b = ap (has (take k c)) (sym (get_or-take k c i d l)) ∙ has_at (take k c) i d (omega (arith, l, length-take-le k c (omega (arith, b))))

-- the first literals of a clause have it in their lists
pub record EnteredTo (old new : Shorts) (n : ℕ) (c : List Lit) (k : ℕ) : Type 0 where
  pub fixed : new.fixed ≡ old.fixed
  pub flat : new.flat ≡ old.flat
  pub size : length new.growing.items ≡ length old.growing.items
  pub own : (i : ℕ) (d : Lit) → i < k → i < length c → shorts_of new.growing.items (get_or c i d) ≡ shorts_of old.growing.items (get_or c i d) ++ entry_at c n i ∷ []
  pub others : (l : Lit) → has (take k c) l ≡ false → listing new l ≡ listing old l

pub entered_none : (s : Shorts) (n : ℕ) (c : List Lit) → EnteredTo s s n c 0
entered_none s n c = record { fixed = refl; flat = refl; size = refl; own = λ i d l. absurd (omega (arith, l)); others = λ l h. refl }

-- the next one has room and gets the clause
pub entered_place : (old a : Shorts) (n : ℕ) (c : List Lit) (k : ℕ) (d : Lit) → has_distinct_variables c ≡ true → k < length c → HaveShortPlaces old c → EnteredTo old a n c k → HasShortPlace a (get_or c k d)
entered_place old a n c k d u l h e =
    let same : listing a (get_or c k d) ≡ listing old (get_or c k d) = e.others (get_or c k d) (fresh_at c k d u l) in
    omega (arith, h (get_or c k d) (has_at c k d l), ap (λ (y : ShortListing). y.room) same, ap (λ (y : ShortListing). length y.clauses) same)

pub entered_more : (old a b : Shorts) (n : ℕ) (c : List Lit) (k : ℕ) (d : Lit) → has_distinct_variables c ≡ true → k < length c → EnteredTo old a n c k → PushesShort a b (get_or c k d) (entry_at c n k) → EnteredTo old b n c (k + 1)
entered_more old a b n c k d u l e p = record { fixed = p.fixed ∙ e.fixed; flat = p.flat ∙ e.flat; size = p.size ∙ e.size; own = own; others = others }
  where
    here : Lit
    here = get_or c k d

    fresh : has (take k c) here ≡ false
    fresh = fresh_at c k d u l

    own : (i : ℕ) (x : Lit) → i < k + 1 → i < length c → shorts_of b.growing.items (get_or c i x) ≡ shorts_of old.growing.items (get_or c i x) ++ entry_at c n i ∷ []
    own i x low within = elim (cases_lt i k) [
      | inl less ↦ ap (λ (y : ShortListing). y.clauses) (p.others (get_or c i x) (λ q. both_ways (has (take k c) here) fresh (ap (has (take k c)) (sym q) ∙ before_at c i k x less l))) ∙ e.own i x less within
      | inr more ↦
          let same : k ≡ i = omega (arith, low, more) in
          subst (λ j. shorts_of b.growing.items (get_or c j x) ≡ shorts_of old.growing.items (get_or c j x) ++ entry_at c n j ∷ []) same
          (subst (λ z. shorts_of b.growing.items z ≡ shorts_of old.growing.items z ++ entry_at c n k ∷ []) (at_any c k d x l)
          (p.own ∙ ap (λ (y : ShortListing). y.clauses ++ entry_at c n k ∷ []) (e.others here fresh)))
    ]

    others : (m : Lit) → has (take (k + 1) c) m ≡ false → listing b m ≡ listing old m
    others m h =
        let parts = or_parts (has (take k c) m) (same_lit here m) (sym (has-push (take k c) here m) ∙ (ap (λ xs. has xs m) (sym (take_more c k d l)) ∙ h)) in
        p.others m (λ q. apart_lit here m parts.1 (sym q)) ∙ e.others m parts.0

pub entered_all : (old new : Shorts) (n : ℕ) (c : List Lit) (k : ℕ) → length c ≤ k → EnteredTo old new n c k → Enters old new n c
entered_all old new n c k l e = record {
  fixed = e.fixed;
  flat = e.flat;
  size = e.size;
  own = λ i d h. e.own i d (omega (arith, h, l)) h;
  others = λ m h. ap (λ (y : ShortListing). y.clauses) (e.others m (ap (λ xs. has xs m) (take_all k c l) ∙ h));
}

-- no clauses
pub has_shorts_none : (vars : ℕ) (s : Shorts) → HasNoShorts vars s → HasShorts vars [] s.fixed (lists_of s)
has_shorts_none vars s h = subst (HasShorts vars [] s.fixed) (sym (growing_count s h.flat)) record {
  size = h.size;
  few = omega (arith, h.fixed);
  sound = λ l i d b. absurd (omega (arith, b, ap length (h.empty l)));
  listed = λ n l k s t. absurd (omega (arith, k.above, k.within));
}

pub has_shorts_same : (vars : ℕ) (cs : List (List Lit)) (old new : Shorts) → SameLists old new → HasShorts vars cs old.fixed (lists_of old) → HasShorts vars cs new.fixed (lists_of new)
has_shorts_same vars cs old new s h = record {
  size = s.size ∙ h.size;
  few = omega (arith, s.fixed, h.few);
  sound = λ l i d b. subst (λ xs. i < length xs → IsEntry cs l (get_or xs i d)) (sym (s.same l)) (h.sound l i d) b;
  listed = λ n l k t m. subst (λ xs. IsEntered xs n) (sym (s.same l)) (h.listed n l k (subst (λ f. is_fixed f n (numbered cs n) ≡ true) s.fixed t) m);
}

-- each literal of a clause has a list
pub have_lists : (vars : ℕ) (cs : List (List Lit)) (s : Shorts) (c : List Lit) → s.flat ≡ [] → HasShorts vars cs s.fixed (lists_of s) → IsWithin vars c → HaveShortLists s c
have_lists vars cs s c e h w l t =
    let v : IsVariable vars l.var = variable_of vars c l w t in
    omega (arith, h.size, ap length (growing_count s e), v.within, cond_le l.negated)
  where
    cond_le : (b : Bool) → cond b 1 0 ≤ 1
    cond_le true = omega arith
    cond_le false = omega arith

-- an entry of an earlier clause
entry_push : (cs : List (List Lit)) (c : List Lit) (l : Lit) (s : Short) → IsEntry cs l s → IsEntry (cs ++ c ∷ []) l s
entry_push cs c l s e =
    let same : numbered (cs ++ c ∷ []) s.number ≡ numbered cs s.number = numbered-push_old cs c s.number e.number in
    record {
      number = number_push cs c s.number e.number;
      one = ap (λ x. has x (one_of s)) same ∙ e.one;
      two = ap (λ x. has x (two_of s)) same ∙ e.two;
      all = λ m h. e.all m (ap (λ x. has x m) (sym same) ∙ h);
      apart = e.apart;
    }

-- whether a clause is one of the first ones that stand in the lists
pub fixed_within : (f n : ℕ) (c : List Lit) → is_fixed f n c ≡ true → n ≤ f
fixed_within f n c h = leb-true n f (and_parts (nat_le n f) (is_short c) h).0

pub fixed_short : (f n : ℕ) (c : List Lit) → is_fixed f n c ≡ true → is_short c ≡ true
fixed_short f n c h = (and_parts (nat_le n f) (is_short c) h).1

pub fixed_by : (f n : ℕ) (c : List Lit) → n ≤ f → is_short c ≡ true → is_fixed f n c ≡ true
fixed_by f n c l s = rw (le-leb n f l, s) refl

-- a clause that doesn't stand there
pub has_shorts_long : (vars : ℕ) (cs : List (List Lit)) (c : List Lit) (f h : ℕ) (s : List ShortListing) → h ≤ length cs + 1 → (is_fixed h (length cs + 1) c ≡ true → ⊥) → ((n : ℕ) (x : List Lit) → n ≤ length cs → is_fixed h n x ≡ true → is_fixed f n x ≡ true) → HasShorts vars cs f s → HasShorts vars (cs ++ c ∷ []) h s
has_shorts_long vars cs c f h s few long class k = record {
  size = k.size;
  few = omega (arith, few, length_push cs c);
  sound = λ l i d b. entry_push cs c l (get_or (shorts_of s l) i d) (k.sound l i d b);
  listed = λ n l number t m. elim (cases_lt (length cs) n) [
    | inl last ↦
        let q : n ≡ length cs + 1 = omega (arith, last, number.within, length_push cs c) in
        absurd (long (subst (λ i. is_fixed h i c ≡ true) q (ap (is_fixed h n) (sym (numbered-push_new cs c n q)) ∙ t)))
    | inr old ↦
        let before : IsNumber cs n = record { above = number.above; within = old } in
        let same : numbered (cs ++ c ∷ []) n ≡ numbered cs n = numbered-push_old cs c n before in
        k.listed n l before (class n (numbered cs n) old (ap (is_fixed h n) (sym same) ∙ t)) (ap (λ x. has x l) (sym same) ∙ m)
  ];
}

-- a literal of a clause has a place there
place_in : (c : List Lit) (l : Lit) → has c l ≡ true → (j : ℕ) × ((j < length c) × (get_or c j no_literal ≡ l))
place_in [] l h = absurd (false≢true h)
place_in (x ∷ xs) l h = elim (or_cases (same_lit x l) (has xs l) h) [
  | inl t ↦ (0, (omega arith, same_lit-true x l t))
  | inr t ↦ let p = place_in xs l t in (suc p.0, (omega (arith, p.1.0), p.1.1))
]

-- a clause that is written at the end of a list
entered_push : (xs : List Short) (s : Short) (n : ℕ) → IsEntered xs n → IsEntered (xs ++ s ∷ []) n
entered_push xs s n e = record {
  place = e.place;
  within = omega (arith, e.within, length_push xs s);
  is = λ d. ap (λ (x : Short). x.number) (get_or_append_left xs (s ∷ []) d e.place e.within) ∙ e.is d;
}

entered_last : (xs : List Short) (s : Short) (n : ℕ) → s.number ≡ n → IsEntered (xs ++ s ∷ []) n
entered_last xs s n q = record { place = length xs; within = omega (arith, length_push xs s); is = λ d. ap (λ (x : Short). x.number) (get_or_push xs s d (length xs) refl) ∙ q }

next_less : (j n : ℕ) → j < n → next_place j n < n
next_less j n l = elim (cases_lt (j + 1) n) [ inl b ↦ rw (lt-ltb (j + 1) n b) b | inr b ↦ rw (le-ltb (j + 1) n b) (omega (arith, l)) ]

-- the literals of a clause of at most three, from one of them on
all_three : (c : List Lit) (j : ℕ) (m : Lit) → length c ≤ 3 → j < length c → has c m ≡ true
    → (m ≡ get_or c j no_literal) ⊎ ((m ≡ get_or c (next_place j (length c)) no_literal) ⊎ (m ≡ get_or c (next_place (next_place j (length c)) (length c)) no_literal))
all_three [] j m s l h = absurd (omega (arith, l))
all_three (a ∷ []) zero m s l h = elim (or_cases (same_lit a m) false h) [ inl t ↦ inl (sym (same_lit-true a m t)) | inr t ↦ absurd (false≢true t) ]
all_three (a ∷ []) (suc j) m s l h = absurd (omega (arith, l))
all_three (a ∷ b ∷ []) zero m s l h = elim (or_cases (same_lit a m) (same_lit b m || false) h) [
  | inl t ↦ inl (sym (same_lit-true a m t))
  | inr u ↦ elim (or_cases (same_lit b m) false u) [ inl t ↦ inr (inl (sym (same_lit-true b m t))) | inr t ↦ absurd (false≢true t) ]
]
all_three (a ∷ b ∷ []) (suc zero) m s l h = elim (or_cases (same_lit a m) (same_lit b m || false) h) [
  | inl t ↦ inr (inl (sym (same_lit-true a m t)))
  | inr u ↦ elim (or_cases (same_lit b m) false u) [ inl t ↦ inl (sym (same_lit-true b m t)) | inr t ↦ absurd (false≢true t) ]
]
all_three (a ∷ b ∷ []) (suc (suc j)) m s l h = absurd (omega (arith, l))
all_three (a ∷ b ∷ c ∷ []) zero m s l h = elim (or_cases (same_lit a m) (same_lit b m || (same_lit c m || false)) h) [
  | inl t ↦ inl (sym (same_lit-true a m t))
  | inr u ↦ elim (or_cases (same_lit b m) (same_lit c m || false) u) [
    | inl t ↦ inr (inl (sym (same_lit-true b m t)))
    | inr v ↦ elim (or_cases (same_lit c m) false v) [ inl t ↦ inr (inr (sym (same_lit-true c m t))) | inr t ↦ absurd (false≢true t) ]
  ]
]
all_three (a ∷ b ∷ c ∷ []) (suc zero) m s l h = elim (or_cases (same_lit a m) (same_lit b m || (same_lit c m || false)) h) [
  | inl t ↦ inr (inr (sym (same_lit-true a m t)))
  | inr u ↦ elim (or_cases (same_lit b m) (same_lit c m || false) u) [
    | inl t ↦ inl (sym (same_lit-true b m t))
    | inr v ↦ elim (or_cases (same_lit c m) false v) [ inl t ↦ inr (inl (sym (same_lit-true c m t))) | inr t ↦ absurd (false≢true t) ]
  ]
]
all_three (a ∷ b ∷ c ∷ []) (suc (suc zero)) m s l h = elim (or_cases (same_lit a m) (same_lit b m || (same_lit c m || false)) h) [
  | inl t ↦ inr (inl (sym (same_lit-true a m t)))
  | inr u ↦ elim (or_cases (same_lit b m) (same_lit c m || false) u) [
    | inl t ↦ inr (inr (sym (same_lit-true b m t)))
    | inr v ↦ elim (or_cases (same_lit c m) false v) [ inl t ↦ inl (sym (same_lit-true c m t)) | inr t ↦ absurd (false≢true t) ]
  ]
]
all_three (a ∷ b ∷ c ∷ []) (suc (suc (suc j))) m s l h = absurd (omega (arith, l))
all_three (a ∷ b ∷ c ∷ e ∷ es) j m s l h = absurd (omega (arith, s))

-- two literals of one variable stand at one place
one_place : (c : List Lit) (i j : ℕ) (d : Lit) → has_distinct_variables c ≡ true → i < length c → j < length c → (get_or c i d).var ≡ (get_or c j d).var → i ≡ j
one_place c i j d u l m e = elim (cases_lt i j) [
  | inl b ↦ absurd (other_before c j d (get_or c i d) m u (before_at c i j d b m) e)
  | inr b ↦ elim (cases_lt j i) [ inl f ↦ absurd (other_before c i d (get_or c j d) l u (before_at c j i d f l) (sym e)) | inr f ↦ omega (arith, b, f) ]
]

-- a place that is behind itself is the only one
next_same : (k n : ℕ) → k < n → k ≡ next_place k n → n ≡ 1
next_same k n l e = elim (cases_lt (k + 1) n) [
  | inl b ↦ absurd (omega (arith, e, ap (λ t. cond t (k + 1) 0) (lt-ltb (k + 1) n b)))
  | inr b ↦ omega (arith, l, b, e, ap (λ t. cond t (k + 1) 0) (le-ltb (k + 1) n b))
]

-- what a literal has of its clause
entry_own : (cs : List (List Lit)) (c : List Lit) (n j : ℕ) → n ≡ length cs + 1 → is_short c ≡ true → has_distinct_variables c ≡ true → j < length c → IsEntry (cs ++ c ∷ []) (get_or c j no_literal) (entry_at c n j)
entry_own cs c n j e s u l =
    let next : ℕ = next_place j (length c) in
    let last : ℕ = next_place next (length c) in
    let next_in : next < length c = next_less j (length c) l in
    let last_in : last < length c = next_less next (length c) next_in in
    let same : numbered (cs ++ c ∷ []) n ≡ c = numbered-push_new cs c n e in
    let one : one_of (entry_at c n j) ≡ get_or c next no_literal = lit_ext (one_of (entry_at c n j)) (get_or c next no_literal) refl refl in
    let two : two_of (entry_at c n j) ≡ get_or c last no_literal = lit_ext (two_of (entry_at c n j)) (get_or c last no_literal) refl refl in
    record {
      number = record { above = omega (arith, e); within = omega (arith, e, length_push cs c) };
      one = ap (λ x. has x (one_of (entry_at c n j))) same ∙ (ap (has c) one ∙ has_at c next no_literal next_in);
      two = ap (λ x. has x (two_of (entry_at c n j))) same ∙ (ap (has c) two ∙ has_at c last no_literal last_in);
      all = λ m h. elim (all_three c j m (leb-true (length c) 3 s) l (ap (λ x. has x m) (sym same) ∙ h)) [
        | inl q ↦ inl q
        | inr r ↦ inr (elim r [ inl q ↦ inl (q ∙ sym one) | inr q ↦ inr (q ∙ sym two) ])
      ];
      apart = λ q.
          let single : length c ≡ 1 = next_same next (length c) next_in (one_place c next last no_literal u next_in last_in q) in
          one ∙ ap (λ i. get_or c i no_literal) (omega (arith, single, next_in, l));
    }

-- a clause of at most three literals, once it stands in its lists
pub has_shorts_entered : (vars : ℕ) (cs : List (List Lit)) (c : List Lit) (n : ℕ) (old new : Shorts) → n ≡ length cs + 1 → is_short c ≡ true → has_distinct_variables c ≡ true → Enters old new n c → HasShorts vars cs (length cs) old.growing.items → HasShorts vars (cs ++ c ∷ []) n new.growing.items
has_shorts_entered vars cs c n old new e s u h k = record { size = h.size ∙ k.size; few = omega (arith, e, length_push cs c); sound = sound; listed = listed }
  where
    list : (j : ℕ) (l : Lit) → j < length c → get_or c j no_literal ≡ l → shorts_of new.growing.items l ≡ shorts_of old.growing.items l ++ entry_at c n j ∷ []
    list j l b q = subst (λ z. shorts_of new.growing.items z ≡ shorts_of old.growing.items z ++ entry_at c n j ∷ []) q (h.own j no_literal b)

    sound : (l : Lit) (i : ℕ) (d : Short) → i < length (shorts_of new.growing.items l) → IsEntry (cs ++ c ∷ []) l (get_or (shorts_of new.growing.items l) i d)
    sound l i d b = elim (cases_Bool (has c l)) [
      | inr f ↦
          let same : shorts_of new.growing.items l ≡ shorts_of old.growing.items l = h.others l f in
          subst (λ xs. IsEntry (cs ++ c ∷ []) l (get_or xs i d)) (sym same) (entry_push cs c l (get_or (shorts_of old.growing.items l) i d) (k.sound l i d (omega (arith, b, ap length same))))
      | inl t ↦
          let p = place_in c l t in
          let own = list p.0 l p.1.0 p.1.1 in
          subst (λ xs. IsEntry (cs ++ c ∷ []) l (get_or xs i d)) (sym own) (elim (cases_lt i (length (shorts_of old.growing.items l))) [
            | inl low ↦ subst (IsEntry (cs ++ c ∷ []) l) (sym (get_or_append_left (shorts_of old.growing.items l) (entry_at c n p.0 ∷ []) d i low)) (entry_push cs c l (get_or (shorts_of old.growing.items l) i d) (k.sound l i d low))
            | inr high ↦
                let last : length (shorts_of old.growing.items l) ≡ i = omega (arith, b, high, ap length own, length_push (shorts_of old.growing.items l) (entry_at c n p.0)) in
                subst (IsEntry (cs ++ c ∷ []) l) (sym (get_or_push (shorts_of old.growing.items l) (entry_at c n p.0) d i last)) (subst (λ z. IsEntry (cs ++ c ∷ []) z (entry_at c n p.0)) p.1.1 (entry_own cs c n p.0 e s u p.1.0))
          ])
    ]

    kept : (l : Lit) (m : ℕ) → IsEntered (shorts_of old.growing.items l) m → IsEntered (shorts_of new.growing.items l) m
    kept l m x = elim (cases_Bool (has c l)) [
      | inr f ↦ subst (λ xs. IsEntered xs m) (sym (h.others l f)) x
      | inl t ↦ let p = place_in c l t in subst (λ xs. IsEntered xs m) (sym (list p.0 l p.1.0 p.1.1)) (entered_push (shorts_of old.growing.items l) (entry_at c n p.0) m x)
    ]

    listed : (m : ℕ) (l : Lit) → IsNumber (cs ++ c ∷ []) m → is_fixed n m (numbered (cs ++ c ∷ []) m) ≡ true → has (numbered (cs ++ c ∷ []) m) l ≡ true → IsEntered (shorts_of new.growing.items l) m
    listed m l number t x = elim (cases_lt (length cs) m) [
      | inl last ↦
          let q : m ≡ length cs + 1 = omega (arith, last, number.within, length_push cs c) in
          let p = place_in c l (ap (λ y. has y l) (sym (numbered-push_new cs c m q)) ∙ x) in
          subst (λ xs. IsEntered xs m) (sym (list p.0 l p.1.0 p.1.1)) (entered_last (shorts_of old.growing.items l) (entry_at c n p.0) m (e ∙ sym q))
      | inr less ↦
          let before : IsNumber cs m = record { above = number.above; within = less } in
          let same : numbered (cs ++ c ∷ []) m ≡ numbered cs m = numbered-push_old cs c m before in
          kept l m (k.listed m l before (fixed_by (length cs) m (numbered cs m) less (ap is_short (sym same) ∙ fixed_short n m (numbered (cs ++ c ∷ []) m) t)) (ap (λ y. has y l) (sym same) ∙ x))
    ]

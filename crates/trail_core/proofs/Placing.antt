-- The pair of a clause that had none.
use Rattle.std.proofs.Common.{◌≡◌, ◌≢◌, ℕ, ◌+◌, ◌-◌, ◌*◌, ◌<◌, ◌≤◌, Bool, true, false, not, ◌&&◌, ◌||◌, cond, List, [], ◌∷◌, ◌++◌, length, get_or, take, refl, sym, ap, ◌∙◌, subst, arith, inl, inr}
use Rattle.std.specs.Vec.{vec_capacity}
use Rattle.std.proofs.lemmas.Bool.{cases_lt, or_left, or_right}
use Rattle.std.proofs.lemmas.List.{get_or_append_left, get_or_push, length_push}
use Rattle.clause_base.specs.declared.literal.Lit.{Lit}
use Rattle.clause_base.specs.Literal.{has, same_lit}
use Rattle.clause_base.specs.Acceptance.{numbered}
use Rattle.clause_base.proofs.Sets.{same_lit-true, same_lit_itself}
use Rattle.trail_core.specs.declared.watches.Pair.{Pair}
use Rattle.trail_core.specs.declared.watches.Watches.{Watches}
use Rattle.trail_core.specs.Listing.{Listing}
use Rattle.trail_core.specs.Values.{IsFalseIn, IsVariable}
use Rattle.trail_core.specs.TrailState.{TrailState, IsTrail, IsNumber, MayAdd, Propagates, values_of, up_to, with_clause}
use Rattle.trail_core.specs.Watching.{IsWatch, IsCovered, IsSettled, IsBlank, IsOpen, IsPaired, settled, in_lists, watched as watches_both, is_mark, Stands, IsListed, IsKept, AreNumbers, list_of, room_of, code_of, watches, is_short, is_fixed, lacks, needs, unwatched}
use Rattle.trail_core.specs.Visits.{IsListedMore, KeepsPair, IsPlaced, MayWatch, MayList, WatchesWell, IsFreeBelow, AreKept, held_in}
use Rattle.trail_core.proofs.Truth.{values-take_some}
use Rattle.trail_core.proofs.Keeping.{paired_map, watch_front, settled_front}
use Rattle.trail_core.proofs.Listing.{cases_lit, listed_push, listed_last, list_set_other, with_list-length, with_list-room, with_list-numbers, with_list-held, numbers_push}
use Rattle.trail_core.proofs.Counting.{unwatched-push, unwatched-clause, unwatched-le, some_unpaired, needs_first, needs_last, lacks-le, lacks-mark, lacks_or_watches, watches-is}
use Rattle.trail_core.proofs.Looks.{variable_of}
use Rattle.trail_core.proofs.Passing.{present_front, code_within, free_propagates}
use Rattle.trail_core.proofs.Changes.{numbered-push_old, numbered-push_new, new_open}

listed_more : (a b : Watches) (l x : Lit) (n m : ℕ) → IsListedMore a b l n → IsListed a.lists.items x m → IsListed b.lists.items x m
listed_more a b l x n m h s = subst (λ ls. IsListed ls x m) (sym h.lists) (listed_push a.lists.items l x n m h.within s)

listed_there : (a b : Watches) (l : Lit) (n : ℕ) → IsListedMore a b l n → IsListed b.lists.items l n
listed_there a b l n h = subst (λ ls. IsListed ls l n) (sym h.lists) (listed_last a.lists.items l n h.within)

-- one number more in a list
listed_numbers : (a b : Watches) (l x : Lit) (n count : ℕ) → 1 ≤ n → n ≤ count → IsListedMore a b l n → AreNumbers (list_of a.lists.items x) count → AreNumbers (list_of b.lists.items x) count
listed_numbers a b l x n count low high h s = subst (λ ls. AreNumbers (list_of ls x) count) (sym h.lists) (elim (cases_lit x l) [
  | inl e ↦ with_list-numbers a.lists.items l x (list_of a.lists.items l ++ n ∷ []) count h.within (numbers_push (list_of a.lists.items l) n count low high (subst (λ z. AreNumbers (list_of a.lists.items z) count) e s)) s
  | inr d ↦ subst (λ ys. AreNumbers ys count) (sym (list_set_other a.lists.items l x (list_of a.lists.items l ++ n ∷ []) d)) s
])

listed_held : (a b : Watches) (l x : Lit) (n : ℕ) → IsListedMore a b l n → length (list_of b.lists.items x) ≤ length (list_of a.lists.items x) + cond (same_lit l x) 1 0
listed_held a b l x n h = subst (λ ls. length (list_of ls x) ≤ length (list_of a.lists.items x) + cond (same_lit l x) 1 0) (sym h.lists)
    (with_list-held a.lists.items l x (list_of a.lists.items l ++ n ∷ []) h.within (omega (arith, length_push (list_of a.lists.items l) n)))

-- listed at both literals
pub place_gives : (old a b new : Watches) (n : ℕ) (p : Pair) → p.first ≢ p.second → IsListedMore old a p.first n → IsListedMore a b p.second n → KeepsPair b new p → IsPlaced old new n p
place_gives old a b new n p apart x y k = record {
  pairs = k.pairs ∙ ap (λ ps. ps ++ p ∷ []) (ap (λ v. v.items) y.pairs ∙ ap (λ v. v.items) x.pairs);
  capacity = omega (arith, k.capacity, ap vec_capacity y.pairs, ap vec_capacity x.pairs);
  gone_over = k.gone_over ∙ (y.gone_over ∙ x.gone_over);
  lists = ap length lists ∙ (ap length y.lists ∙ (with_list-length a.lists.items p.second second ∙ (ap length x.lists ∙ with_list-length old.lists.items p.first first)));
  rooms = λ l. ap (λ ls. room_of ls l) lists ∙ (ap (λ ls. room_of ls l) y.lists ∙ (with_list-room a.lists.items p.second l second y.within ∙ (ap (λ ls. room_of ls l) x.lists ∙ with_list-room old.lists.items p.first l first x.within)));
  numbers = λ l m low high h. subst (λ ls. AreNumbers (list_of ls l) m) (sym lists) (listed_numbers a b p.second l n m low high y (listed_numbers old a p.first l n m low high x h));
  held = λ l. omega (arith, ap (λ ls. length (list_of ls l)) lists, listed_held a b p.second l n y, listed_held old a p.first l n x, both_le (same_lit p.first l) (same_lit p.second l) (λ s t. apart (same_lit-true p.first l s ∙ sym (same_lit-true p.second l t))));
  listed = λ l m s. subst (λ ls. IsListed ls l m) (sym lists) (listed_more a b p.second l n m y (listed_more old a p.first l n m x s));
  first = subst (λ ls. IsListed ls p.first n) (sym lists) (listed_more a b p.second p.first n n y (listed_there old a p.first n x));
  second = subst (λ ls. IsListed ls p.second n) (sym lists) (listed_there a b p.second n y);
}
  where
    lists : new.lists.items ≡ b.lists.items
    lists = ap (λ v. v.items) k.lists

    first : List ℕ
    first = list_of old.lists.items p.first ++ n ∷ []

    second : List ℕ
    second = list_of a.lists.items p.second ++ n ∷ []

    both_le : (s t : Bool) → (s ≡ true → t ≡ true → ⊥) → cond s 1 0 + cond t 1 0 ≤ cond (s || t) 1 0
    both_le true true f = absurd (f refl refl)
    both_le true false f = omega arith
    both_le false true f = omega arith
    both_le false false f = omega arith

-- each of the two lists has room when its turn comes
pub second_room : (old a : Watches) (p : Pair) (n : ℕ) → MayList old p → (length (list_of old.lists.items p.first) < room_of old.lists.items p.first) × (IsListedMore old a p.first n → (code_of p.second < length a.lists.items) × (length (list_of a.lists.items p.second) < room_of a.lists.items p.second))
second_room old a p n m = (
  m.room p.first (first_there p),
  λ h. (
    omega (arith, m.second, ap length h.lists, with_list-length old.lists.items p.first (list_of old.lists.items p.first ++ n ∷ [])),
    omega (arith, m.room p.second (second_there p), ap (λ ls. room_of ls p.second) h.lists, with_list-room old.lists.items p.first p.second (list_of old.lists.items p.first ++ n ∷ []) h.within, ap (λ ls. length (list_of ls p.second)) h.lists, ap length (list_set_other old.lists.items p.first p.second (list_of old.lists.items p.first ++ n ∷ []) (λ e. m.apart (sym e)))),
  ),
)
  where
    first_there : (q : Pair) → watches q q.first ≡ true
    first_there q = or_left (same_lit q.first q.first) (same_lit q.second q.first) (same_lit_itself q.first)

    second_there : (q : Pair) → watches q q.second ≡ true
    second_there q = or_right (same_lit q.first q.second) (same_lit q.second q.second) (same_lit_itself q.second)

-- there is still room for the pair
pub place_room : (old a b : Watches) (p : Pair) (n : ℕ) → IsListedMore old a p.first n → IsListedMore a b p.second n → length old.pairs.items < vec_capacity old.pairs → length b.pairs.items < vec_capacity b.pairs
place_room old a b p n x y l = subst (λ v. length v.items < vec_capacity v) (sym (y.pairs ∙ x.pairs)) l

-- one pair more, where its clause is settled or watches it
kept_paired : (t : TrailState) (old new : Watches) (p : Pair) → AreKept t old old.gone_over → length old.pairs.items < length t.clauses → new.pairs.items ≡ old.pairs.items ++ p ∷ [] → new.gone_over ≡ old.gone_over → ((l : Lit) (m : ℕ) → IsListed old.lists.items l m → IsListed new.lists.items l m) → IsPaired t.entries (IsWatch t.entries old.gone_over new.lists.items (length old.pairs.items + 1)) (numbered t.clauses (length old.pairs.items + 1)) p → AreKept t new new.gone_over
kept_paired t old new p k l e g grows own = record {
  few = omega (arith, ap length e, length_push old.pairs.items p, l);
  entries = omega (arith, g, k.entries);
  present = λ at d low. k.present at d (omega (arith, low, g));
  paired = λ i d m. subst (λ h. IsPaired t.entries (IsWatch t.entries h new.lists.items (i + 1)) (numbered t.clauses (i + 1)) (get_or new.pairs.items i d)) (sym g)
      (subst (λ ps. IsPaired t.entries (IsWatch t.entries old.gone_over new.lists.items (i + 1)) (numbered t.clauses (i + 1)) (get_or ps i d)) (sym e)
      (elim (cases_lt i (length old.pairs.items)) [
        | inl low ↦ subst (IsPaired t.entries (IsWatch t.entries old.gone_over new.lists.items (i + 1)) (numbered t.clauses (i + 1))) (sym (get_or_append_left old.pairs.items (p ∷ []) d i low))
            (paired_map t.entries t.entries (IsWatch t.entries old.gone_over old.lists.items (i + 1)) (IsWatch t.entries old.gone_over new.lists.items (i + 1)) (numbered t.clauses (i + 1)) (get_or old.pairs.items i d) (λ z. z)
            (λ x y u. record { listed = grows x (i + 1) u.listed; covered = u.covered }) (k.paired i d low))
        | inr high ↦
            let q : length old.pairs.items ≡ i = omega (arith, high, m, ap length e, length_push old.pairs.items p) in
            subst (IsPaired t.entries (IsWatch t.entries old.gone_over new.lists.items (i + 1)) (numbered t.clauses (i + 1))) (sym (get_or_push old.pairs.items p d i q))
            (subst (λ j. IsPaired t.entries (IsWatch t.entries old.gone_over new.lists.items (j + 1)) (numbered t.clauses (j + 1)) p) q own)
      ]));
}

numbers_more : (xs : List ℕ) (m k : ℕ) → m ≤ k → AreNumbers xs m → AreNumbers xs k
numbers_more xs m k l h i b = let p = h i b in (p.0, omega (arith, p.1, l))

-- a clause that watches none takes no place
pair_blank : (t : TrailState) (f : ℕ) (old new : Watches) (p : Pair) (n : ℕ) → WatchesWell t old f old.gone_over → n ≡ length old.pairs.items + 1 → n ≤ length t.clauses → ((W : Lit → Lit → Type 0) → IsPaired t.entries W (numbered t.clauses n) p) → ((x : Lit) → cond (lacks (numbered t.clauses n) p x) 1 0 ≤ cond (needs (f - length old.pairs.items) (numbered t.clauses n) x) 1 0) → KeepsPair old new p → WatchesWell t new f new.gone_over
pair_blank t f old new p n w e l s less h = record {
  kept = kept_paired t old new p w.kept (omega (arith, e, l)) h.pairs h.gone_over (λ x m z. subst (λ ls. IsListed ls x m) (sym lists) z)
      (subst (λ m. (W : Lit → Lit → Type 0) → IsPaired t.entries W (numbered t.clauses m) p) e s (IsWatch t.entries old.gone_over new.lists.items (length old.pairs.items + 1)));
  room = record {
    lists = ap length lists ∙ w.room.lists;
    pairs = omega (arith, h.capacity, w.room.pairs);
    numbers = λ x. subst (λ ls. AreNumbers (list_of ls x) (length new.pairs.items)) (sym lists) (numbers_more (list_of old.lists.items x) (length old.pairs.items) (length new.pairs.items) (omega (arith, size)) (w.room.numbers x));
    room = λ x v. omega (arith, ap (λ ls. length (list_of ls x)) lists, ap (λ ls. room_of ls x) lists, w.room.room x v, count x, less x);
    unpaired = λ m k low. w.room.unpaired m k (omega (arith, low, size));
  };
}
  where
    lists : new.lists.items ≡ old.lists.items
    lists = ap (λ v. v.items) h.lists

    size : length new.pairs.items ≡ length old.pairs.items + 1
    size = ap length h.pairs ∙ length_push old.pairs.items p

    clause : List Lit
    clause = get_or t.clauses (length old.pairs.items) []

    clause_is : clause ≡ numbered t.clauses n
    clause_is = ap (λ i. get_or t.clauses i []) (omega (arith, e))

    waiting : ℕ
    waiting = f - length old.pairs.items

    count : (x : Lit) → unwatched f t.clauses new.pairs.items x + cond (needs waiting (numbered t.clauses n) x) 1 0 ≡ unwatched f t.clauses old.pairs.items x + cond (lacks (numbered t.clauses n) p x) 1 0
    count x = subst (λ ps. unwatched f t.clauses ps x + cond (needs waiting (numbered t.clauses n) x) 1 0 ≡ unwatched f t.clauses old.pairs.items x + cond (lacks (numbered t.clauses n) p x) 1 0) (sym h.pairs)
        (subst (λ c. unwatched f t.clauses (old.pairs.items ++ p ∷ []) x + cond (needs waiting c x) 1 0 ≡ unwatched f t.clauses old.pairs.items x + cond (lacks c p x) 1 0) clause_is
        (unwatched-push f waiting t.clauses old.pairs.items p x refl (omega (arith, e, l))))

-- a clause that is settled, and one that stands in the lists of its literals
pub pair_settled : (t : TrailState) (f : ℕ) (old new : Watches) (p : Pair) (n : ℕ) → WatchesWell t old f old.gone_over → n ≡ length old.pairs.items + 1 → n ≤ length t.clauses → IsSettled t.entries (numbered t.clauses n) → is_fixed f n (numbered t.clauses n) ≡ false → IsBlank p → KeepsPair old new p → WatchesWell t new f new.gone_over
pair_settled t f old new p n w e l s long blank h = pair_blank t f old new p n w e l (λ W. settled s blank)
    (λ x. omega (arith, lacks-le (numbered t.clauses n) p x, ap {B = ℕ} (λ (b : Bool). cond b 1 0) (needs_first f (length old.pairs.items) n (numbered t.clauses n) x e long))) h

pub pair_short : (t : TrailState) (f : ℕ) (old new : Watches) (p : Pair) (n : ℕ) → WatchesWell t old f old.gone_over → n ≡ length old.pairs.items + 1 → n ≤ length t.clauses → is_mark p ≡ true → IsBlank p → KeepsPair old new p → WatchesWell t new f new.gone_over
pair_short t f old new p n w e l s blank h = pair_blank t f old new p n w e l (λ W. in_lists s blank) (λ x. omega (arith, lacks-mark (numbered t.clauses n) p x s)) h

-- a clause that watches two literals takes its place in their lists
pub pair_watched : (t : TrailState) (f : ℕ) (old new : Watches) (p : Pair) (n : ℕ) → WatchesWell t old f old.gone_over → n ≡ length old.pairs.items + 1 → n ≤ length t.clauses → is_fixed f n (numbered t.clauses n) ≡ false → MayWatch t n p → IsPlaced old new n p → WatchesWell t new f new.gone_over
pair_watched t f old new p n w e l long s h = record {
  kept = kept_paired t old new p w.kept (omega (arith, e, l)) h.pairs h.gone_over h.listed
      (subst (λ m. IsPaired t.entries (IsWatch t.entries old.gone_over new.lists.items m) (numbered t.clauses m) p) e
      (watches_both s.first s.second s.apart
      record { listed = h.first; covered = λ f. s.covers_first (values-take_some t.entries old.gone_over p.first.var p.first.negated f) }
      record { listed = h.second; covered = λ f. s.covers_second (values-take_some t.entries old.gone_over p.second.var p.second.negated f) }));
  room = record {
    lists = h.lists ∙ w.room.lists;
    pairs = omega (arith, h.capacity, w.room.pairs);
    numbers = λ x. h.numbers x (length new.pairs.items) (omega (arith, e)) (omega (arith, e, size)) (numbers_more (list_of old.lists.items x) (length old.pairs.items) (length new.pairs.items) (omega (arith, size)) (w.room.numbers x));
    room = λ x v. omega (arith, h.held x, h.rooms x, w.room.room x v, count x, lacks_or_watches (numbered t.clauses n) p x (mine x), ap {B = ℕ} (λ (b : Bool). cond b 1 0) (needs_first f (length old.pairs.items) n (numbered t.clauses n) x e long));
    unpaired = λ m k low. w.room.unpaired m k (omega (arith, low, size));
  };
}
  where
    clause_is : get_or t.clauses (length old.pairs.items) [] ≡ numbered t.clauses n
    clause_is = ap (λ i. get_or t.clauses i []) (omega (arith, e))

    size : length new.pairs.items ≡ length old.pairs.items + 1
    size = ap length h.pairs ∙ length_push old.pairs.items p

    mine : (x : Lit) → watches p x ≡ true → has (numbered t.clauses n) x ≡ true
    mine x y = elim (watches-is p x y) [
      | inl z ↦ subst (λ u. has (numbered t.clauses n) u ≡ true) z s.first
      | inr z ↦ subst (λ u. has (numbered t.clauses n) u ≡ true) z s.second
    ]

    waiting : ℕ
    waiting = f - length old.pairs.items

    count : (x : Lit) → unwatched f t.clauses new.pairs.items x + cond (needs waiting (numbered t.clauses n) x) 1 0 ≡ unwatched f t.clauses old.pairs.items x + cond (lacks (numbered t.clauses n) p x) 1 0
    count x = subst (λ ps. unwatched f t.clauses ps x + cond (needs waiting (numbered t.clauses n) x) 1 0 ≡ unwatched f t.clauses old.pairs.items x + cond (lacks (numbered t.clauses n) p x) 1 0) (sym h.pairs)
        (subst (λ c. unwatched f t.clauses (old.pairs.items ++ p ∷ []) x + cond (needs waiting c x) 1 0 ≡ unwatched f t.clauses old.pairs.items x + cond (lacks c p x) 1 0) clause_is
        (unwatched-push f waiting t.clauses old.pairs.items p x refl (omega (arith, e, l))))

-- the two literals have lists with room
pub may_list : (t : TrailState) (f : ℕ) (w : Watches) (p : Pair) (n : ℕ) → IsTrail t → WatchesWell t w f w.gone_over → n ≡ length w.pairs.items + 1 → IsNumber t.clauses n → is_fixed f n (numbered t.clauses n) ≡ false → MayWatch t n p → MayList w p
may_list t f w p n h well e k long s = record {
  first = code_within t w f (held_in w.lists.items) p.first well.room first;
  second = code_within t w f (held_in w.lists.items) p.second well.room second;
  apart = λ z. s.apart (ap (λ (l : Lit). l.var) z);
  room = λ l y. elim (watches-is p l y) [
    | inl z ↦ subst (λ u. length (list_of w.lists.items u) < room_of w.lists.items u) z (free p.first first s.first)
    | inr z ↦ subst (λ u. length (list_of w.lists.items u) < room_of w.lists.items u) z (free p.second second s.second)
  ];
}
  where
    first : IsVariable t.vars p.first.var
    first = variable_of t.vars (numbered t.clauses n) p.first (h.within n k) s.first

    second : IsVariable t.vars p.second.var
    second = variable_of t.vars (numbered t.clauses n) p.second (h.within n k) s.second

    free : (l : Lit) → IsVariable t.vars l.var → has (numbered t.clauses n) l ≡ true → length (list_of w.lists.items l) < room_of w.lists.items l
    free l v m = omega (arith, well.room.room l v, some_unpaired f (f - length w.pairs.items) t.clauses w.pairs.items l refl (omega (arith, e, k.within)) (subst (λ i. needs (f - length w.pairs.items) (get_or t.clauses i []) l ≡ true) (omega (arith, e)) (needs_first f (length w.pairs.items) n (numbered t.clauses n) l e long ∙ m)))

-- the first literal of a pair is of a variable
pub first_above : (t : TrailState) (p : Pair) (n : ℕ) → IsTrail t → IsNumber t.clauses n → MayWatch t n p → 1 ≤ p.first.var
first_above t p n h k s = (variable_of t.vars (numbered t.clauses n) p.first (h.within n k) s.first).above

-- there is room for the pair of a clause
pub pair_room : (t : TrailState) (f : ℕ) (w : Watches) (n : ℕ) → WatchesWell t w f w.gone_over → n ≡ length w.pairs.items + 1 → IsNumber t.clauses n → length w.pairs.items < vec_capacity w.pairs
pair_room t f w n h e k = omega (arith, h.room.pairs, e, k.within)

-- the first clause without a pair is open at each level below
pub free_first : (t : TrailState) (f : ℕ) (w : Watches) (n : ℕ) → WatchesWell t w f w.gone_over → n ≡ length w.pairs.items + 1 → IsNumber t.clauses n → IsFreeBelow t n
free_first t f w n h e k i l = h.room.unpaired n i (omega (arith, e)) k.within l

-- propagation by one clause keeps the lists
pub kept_propagates : (t new : TrailState) (w : Watches) → Propagates t new → AreKept t w w.gone_over → AreKept new w w.gone_over
kept_propagates t new w p k = record {
  few = omega (arith, k.few, ap length p.clauses);
  entries = omega (arith, k.entries, p.longer);
  present = present_front t new w.gone_over p k.present;
  paired = λ i d m. subst (λ cs. IsPaired new.entries (IsWatch new.entries w.gone_over w.lists.items (i + 1)) (numbered cs (i + 1)) (get_or w.pairs.items i d)) (sym p.clauses)
      (paired_map t.entries new.entries (IsWatch t.entries w.gone_over w.lists.items (i + 1)) (IsWatch new.entries w.gone_over w.lists.items (i + 1)) (numbered t.clauses (i + 1)) (get_or w.pairs.items i d)
      (settled_front t.entries new.entries (numbered t.clauses (i + 1)) p.prefix)
      (λ x y. watch_front t.entries new.entries w.gone_over w.lists.items (i + 1) x y p.prefix k.entries) (k.paired i d m));
}

-- propagation by one clause keeps all that is kept
pub well_propagates : (t new : TrailState) (f : ℕ) (w : Watches) → Propagates t new → WatchesWell t w f w.gone_over → WatchesWell new w f w.gone_over
well_propagates t new f w p k = record {
  kept = kept_propagates t new w p k.kept;
  room = record {
    lists = k.room.lists ∙ ap (λ v. 2 * v + 2) (sym p.vars);
    pairs = omega (arith, ap length p.clauses, k.room.pairs);
    numbers = k.room.numbers;
    room = λ l v. subst (λ cs. length (list_of w.lists.items l) + unwatched f cs w.pairs.items l ≤ room_of w.lists.items l) (sym p.clauses) (k.room.room l (subst (λ m. IsVariable m l.var) p.vars v));
    unpaired = λ n i low high. free_propagates t new n p (λ j u. k.room.unpaired n j low (omega (arith, high, ap length p.clauses)) u) i;
  };
}

-- a clause more, which has no pair yet
pub kept_added : (t : TrailState) (c : List Lit) (pairs : List Pair) (lists : List Listing) (g : ℕ) → IsKept t pairs lists g → IsKept (with_clause t c) pairs lists g
kept_added t c pairs lists g h = record {
  few = omega (arith, h.few, length_push t.clauses c);
  entries = h.entries;
  present = h.present;
  paired = λ i d m. subst (λ x. IsPaired t.entries (IsWatch t.entries g lists (i + 1)) x (get_or pairs i d)) (sym (numbered-push_old t.clauses c (i + 1) record { above = omega arith; within = omega (arith, m, h.few) })) (h.paired i d m);
}

-- room for a clause more, which may stand in the lists of its literals
pub record Widens (old new : Watches) (c : List Lit) (listed : Bool) (count : ℕ) : Type 0 where
  pub pairs : new.pairs.items ≡ old.pairs.items
  pub pair : count + 1 ≤ vec_capacity new.pairs
  pub lists : length new.lists.items ≡ length old.lists.items
  pub numbers : (l : Lit) → list_of new.lists.items l ≡ list_of old.lists.items l
  pub more : (l : Lit) → room_of old.lists.items l + cond (has c l && not listed) 1 0 ≤ room_of new.lists.items l
  pub gone_over : new.gone_over ≡ old.gone_over

kept_widens : (t : TrailState) (old new : Watches) → new.pairs.items ≡ old.pairs.items → ((l : Lit) → list_of new.lists.items l ≡ list_of old.lists.items l) → new.gone_over ≡ old.gone_over → AreKept t old old.gone_over → AreKept t new new.gone_over
kept_widens t old new p q g k = record {
  few = omega (arith, ap length p, k.few);
  entries = omega (arith, g, k.entries);
  present = λ at d low. k.present at d (omega (arith, low, g));
  paired = λ i d m. subst (λ ps. IsPaired t.entries (IsWatch t.entries new.gone_over new.lists.items (i + 1)) (numbered t.clauses (i + 1)) (get_or ps i d)) (sym p)
      (paired_map t.entries t.entries (IsWatch t.entries old.gone_over old.lists.items (i + 1)) (IsWatch t.entries new.gone_over new.lists.items (i + 1)) (numbered t.clauses (i + 1)) (get_or old.pairs.items i d) (λ z. z)
      (λ x y u. record {
        listed = subst (λ xs. Stands xs 0 (length xs) (i + 1)) (sym (q x)) u.listed;
        covered = subst (λ h. IsFalseIn (values_of (take h t.entries)) x → IsCovered t.entries x y) (sym g) u.covered;
      }) (k.paired i d (omega (arith, m, ap length p))));
}

-- a clause more, in the wider lists
pub well_added : (t : TrailState) (c : List Lit) (takes : Bool) (f n : ℕ) (old new : Watches) → IsTrail t → MayAdd t c → n ≡ length t.clauses + 1 → f ≤ length t.clauses → Widens old new c (takes && is_short c) (length t.clauses) → WatchesWell t old f old.gone_over → WatchesWell (with_clause t c) new (cond takes n f) new.gone_over
well_added t c takes f n old new trail may number few w k = record {
  kept = kept_added t c new.pairs.items new.lists.items new.gone_over (kept_widens t old new w.pairs w.numbers w.gone_over k.kept);
  room = record {
    lists = w.lists ∙ k.room.lists;
    pairs = omega (arith, length_push t.clauses c, w.pair);
    numbers = λ l. subst (λ xs. AreNumbers xs (length new.pairs.items)) (sym (w.numbers l)) (subst (AreNumbers (list_of old.lists.items l)) (sym (ap length w.pairs)) (k.room.numbers l));
    room = λ l v. omega (arith, ap length (w.numbers l), w.more l, k.room.room l v, ap (λ ps. unwatched h (t.clauses ++ c ∷ []) ps l) w.pairs, unwatched-clause h (h - length t.clauses) t.clauses c old.pairs.items l refl k.kept.few, unwatched-le f h t.clauses old.pairs.items l (grows takes), ap {B = ℕ} (λ (b : Bool). cond b 1 0) (needs_last takes f n (length t.clauses) (h - length t.clauses) c l few number refl));
    unpaired = unpaired;
  };
}
  where
    h : ℕ
    h = cond takes n f

    grows : (b : Bool) → f ≤ cond b n f
    grows true = omega (arith, few, number)
    grows false = omega arith

    unpaired : (n i : ℕ) → length new.pairs.items < n → n ≤ length (t.clauses ++ c ∷ []) → i < t.level → IsOpen (values_of (up_to i t.entries)) (numbered (t.clauses ++ c ∷ []) n)
    unpaired n i low high l = elim (cases_lt (length t.clauses) n) [
      | inl b ↦ subst (IsOpen (values_of (up_to i t.entries))) (sym (numbered-push_new t.clauses c n (omega (arith, b, high, length_push t.clauses c)))) (new_open t c i trail may l)
      | inr b ↦ subst (IsOpen (values_of (up_to i t.entries))) (sym (numbered-push_old t.clauses c n record { above = omega (arith, low); within = b })) (k.room.unpaired n i (omega (arith, low, ap length w.pairs)) b l)
    ]

-- no clause more, in lists that may be wider
pub well_wider : (t : TrailState) (f : ℕ) (old new : Watches) → new.pairs.items ≡ old.pairs.items → vec_capacity old.pairs ≤ vec_capacity new.pairs → length new.lists.items ≡ length old.lists.items → ((l : Lit) → list_of new.lists.items l ≡ list_of old.lists.items l) → ((l : Lit) → room_of old.lists.items l ≤ room_of new.lists.items l) → new.gone_over ≡ old.gone_over → WatchesWell t old f old.gone_over → WatchesWell t new f new.gone_over
well_wider t f old new p cap lists q more g k = record {
  kept = kept_widens t old new p q g k.kept;
  room = record {
    lists = lists ∙ k.room.lists;
    pairs = omega (arith, cap, k.room.pairs);
    numbers = λ l. subst (λ xs. AreNumbers xs (length new.pairs.items)) (sym (q l)) (subst (AreNumbers (list_of old.lists.items l)) (sym (ap length p)) (k.room.numbers l));
    room = λ l v. omega (arith, ap length (q l), more l, k.room.room l v, ap (λ ps. unwatched f t.clauses ps l) p);
    unpaired = λ n i low. k.room.unpaired n i (omega (arith, low, ap length p));
  };
}

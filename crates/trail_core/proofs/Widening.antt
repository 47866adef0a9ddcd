-- Lists with more room.
use Rattle.std.proofs.Common.{Bool, true, false, not, ◌&&◌, cond, ◌≡◌, ℕ, zero, suc, ◌+◌, ◌<◌, ◌≤◌, List, [], ◌∷◌, ◌++◌, length, get_or, set, take, refl, sym, ap, ◌∙◌, subst, arith, inl, inr, ⊎_elim}
use Rattle.std.specs.Vec.{vec_capacity}
use Rattle.std.proofs.lemmas.Bool.{false≢true, cases_lt, or_cases}
use Rattle.std.proofs.lemmas.List.{get_or-set_same, get_or-set_other, get_or_append_left, get_or_push, length-set, length_push, take_more, take_all}
use Rattle.clause_base.specs.declared.literal.Lit.{Lit}
use Rattle.clause_base.specs.Literal.{has, same_lit}
use Rattle.clause_base.proofs.Sets.{has-push, same_lit-true}
use Rattle.trail_core.specs.declared.watches.Watches.{Watches}
use Rattle.trail_core.specs.Listing.{Listing, nothing}
use Rattle.trail_core.specs.Watching.{code_of, list_of, room_of}
use Rattle.trail_core.specs.Visits.{IsWider, HavePlaces}
use Rattle.trail_core.proofs.Listing.{cases_lit, code_same}
use Rattle.trail_core.proofs.Placing.{Widens}

pub wider_itself : (w : Watches) → IsWider w w
wider_itself w = record { pairs = refl; capacity = omega arith; size = refl; numbers = λ l. refl; rooms = λ l. omega arith; gone_over = refl }

pub wider_then : (a b c : Watches) → IsWider a b → IsWider b c → IsWider a c
wider_then a b c p q = record {
  pairs = q.pairs ∙ p.pairs;
  capacity = omega (arith, p.capacity, q.capacity);
  size = q.size ∙ p.size;
  numbers = λ l. q.numbers l ∙ p.numbers l;
  rooms = λ l. omega (arith, p.rooms l, q.rooms l);
  gone_over = q.gone_over ∙ p.gone_over;
}

-- one list with more room
pub wider_set : (old new : Watches) (l : Lit) (x : Listing) → new.pairs ≡ old.pairs → new.gone_over ≡ old.gone_over → code_of l < length old.lists.items → new.lists.items ≡ set old.lists.items (code_of l) x → x.numbers ≡ list_of old.lists.items l → room_of old.lists.items l ≤ x.room → IsWider old new
wider_set old new l x p g h e n r = record {
  pairs = ap (λ v. v.items) p;
  capacity = omega (arith, ap vec_capacity p);
  size = ap length e ∙ length-set old.lists.items (code_of l) x;
  numbers = λ m. subst (λ ls. list_of ls m ≡ list_of old.lists.items m) (sym e) (elim (cases_lit m l) [
    | inl q ↦ subst (λ z. list_of (set old.lists.items (code_of l) x) z ≡ list_of old.lists.items z) (sym q) (ap (λ (y : Listing). y.numbers) (get_or-set_same old.lists.items (code_of l) x nothing h) ∙ n)
    | inr d ↦ ap (λ (y : Listing). y.numbers) (get_or-set_other old.lists.items (code_of l) (code_of m) x nothing (λ z. d (code_same m l z)))
  ]);
  rooms = λ m. subst (λ ls. room_of old.lists.items m ≤ room_of ls m) (sym e) (elim (cases_lit m l) [
    | inl q ↦ subst (λ z. room_of old.lists.items z ≤ room_of (set old.lists.items (code_of l) x) z) (sym q) (omega (arith, ap (λ (y : Listing). y.room) (get_or-set_same old.lists.items (code_of l) x nothing h), r))
    | inr d ↦ omega (arith, ap (λ (y : Listing). y.room) (get_or-set_other old.lists.items (code_of l) (code_of m) x nothing (λ z. d (code_same m l z))))
  ]);
  gone_over = g;
}

-- a place more for a literal more
pub places_more : (a b c : Watches) (ls : List Lit) (i : ℕ) (d : Lit) → i < length ls → IsWider a b → IsWider b c → HavePlaces a b (take i ls) → room_of b.lists.items (get_or ls i d) + 1 ≤ room_of c.lists.items (get_or ls i d) → HavePlaces a c (take (i + 1) ls)
places_more a b c ls i d l p q h more m k =
    ⊎_elim
    (λ there. omega (arith, h m there, q.rooms m))
    (λ same. subst (λ z. room_of a.lists.items z + 1 ≤ room_of c.lists.items z) (same_lit-true (get_or ls i d) m same) (omega (arith, more, p.rooms (get_or ls i d))))
    (or_cases (has (take i ls) m) (same_lit (get_or ls i d) m) (sym (has-push (take i ls) (get_or ls i d) m) ∙ (ap (λ xs. has xs m) (sym (take_more ls i d l)) ∙ k)))

pub places_none : (a b : Watches) (ls : List Lit) → HavePlaces a b (take 0 ls)
places_none a b ls m k = absurd (false≢true k)

pub places_all : (a b : Watches) (ls : List Lit) (i : ℕ) → length ls ≤ i → HavePlaces a b (take i ls) → HavePlaces a b ls
places_all a b ls i l h m k = h m (ap (λ xs. has xs m) (take_all i ls l) ∙ k)

-- all that a clause more needs
pub widens : (old new : Watches) (c : List Lit) (listed : Bool) (count : ℕ) → IsWider old new → (listed ≡ false → HavePlaces old new c) → count + 1 ≤ vec_capacity new.pairs → Widens old new c listed count
widens old new c listed count h p room = record {
  pairs = h.pairs;
  pair = room;
  lists = h.size;
  numbers = h.numbers;
  more = λ l. more l listed refl (has c l) refl;
  gone_over = h.gone_over;
}
  where
    more : (l : Lit) (a : Bool) → listed ≡ a → (b : Bool) → has c l ≡ b → room_of old.lists.items l + cond (b && not a) 1 0 ≤ room_of new.lists.items l
    more l true e true q = omega (arith, h.rooms l)
    more l true e false q = omega (arith, h.rooms l)
    more l false e true q = p e l q
    more l false e false q = omega (arith, h.rooms l)

-- a list of nothing more
pub nothing_push : (xs : List Listing) → ((i : ℕ) → get_or xs i nothing ≡ nothing) → (i : ℕ) → get_or (xs ++ nothing ∷ []) i nothing ≡ nothing
nothing_push xs h i = elim (cases_lt i (length xs)) [
  | inl b ↦ get_or_append_left xs (nothing ∷ []) nothing i b ∙ h i
  | inr b ↦ elim (cases_lt (length xs) i) [
    | inl c ↦ get_or-past (xs ++ nothing ∷ []) i nothing (omega (arith, c, length_push xs nothing))
    | inr c ↦ get_or_push xs nothing nothing i (omega (arith, b, c))
  ]
]
  where
    get_or-past : (ys : List Listing) (j : ℕ) (d : Listing) → length ys ≤ j → get_or ys j d ≡ d
    get_or-past [] j d l = refl
    get_or-past (y ∷ ys) zero d l = absurd (omega (arith, l))
    get_or-past (y ∷ ys) (suc j) d l = get_or-past ys j d (omega (arith, l))

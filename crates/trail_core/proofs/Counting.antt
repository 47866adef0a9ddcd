-- How many clauses have a literal and don't watch it.
use Rattle.std.proofs.Common.{◌≡◌, ◌≢◌, ℕ, zero, suc, ◌+◌, ◌-◌, ◌<◌, ◌≤◌, Bool, true, false, not, ◌&&◌, ◌||◌, cond, List, [], ◌∷◌, ◌++◌, length, get_or, set, nat_le, refl, sym, ap, ◌∙◌, subst, arith, ◌⊎◌, inl, inr}
use Rattle.std.proofs.lemmas.Bool.{cases_Bool, cases_lt, false≢true, and_parts, or_right, leb-true, le-leb, lt-leb}
use Rattle.clause_base.specs.declared.literal.Lit.{Lit}
use Rattle.clause_base.specs.Literal.{has, same_lit}
use Rattle.clause_base.proofs.Sets.{same_lit-true, same_lit_itself}
use Rattle.trail_core.specs.declared.watches.Pair.{Pair}
use Rattle.trail_core.specs.Watching.{is_short, is_fixed, is_mark, watches, lacks, needs, unwatched}
use Rattle.trail_core.specs.Visits.{IsOriented}
use Rattle.trail_core.proofs.Listing.{cases_lit, counts_one}

-- another pair for a clause
pub unwatched-set : (f : ℕ) (cs : List (List Lit)) (ps : List Pair) (i : ℕ) (q d : Pair) (l : Lit) → i < length ps → i < length cs → unwatched f cs (set ps i q) l + cond (lacks (get_or cs i []) (get_or ps i d) l) 1 0 ≡ unwatched f cs ps l + cond (lacks (get_or cs i []) q l) 1 0
unwatched-set f [] ps i q d l h k = absurd (omega (arith, k))
unwatched-set f (c ∷ cs) [] i q d l h k = absurd (omega (arith, h))
unwatched-set f (c ∷ cs) (p ∷ ps) zero q d l h k = omega arith
unwatched-set f (c ∷ cs) (p ∷ ps) (suc i) q d l h k = omega (arith, unwatched-set (f - 1) cs ps i q d l (omega (arith, h)) (omega (arith, k)))

-- a pair for the first clause without one
pub unwatched-push : (f m : ℕ) (cs : List (List Lit)) (ps : List Pair) (q : Pair) (l : Lit) → m ≡ f - length ps → length ps < length cs → unwatched f cs (ps ++ q ∷ []) l + cond (needs m (get_or cs (length ps) []) l) 1 0 ≡ unwatched f cs ps l + cond (lacks (get_or cs (length ps) []) q l) 1 0
unwatched-push f m [] ps q l e h = absurd (omega (arith, h))
unwatched-push f m (c ∷ cs) [] q l e h = let same : m ≡ f = omega (arith, e) in omega (arith, ap {B = ℕ} (λ k. cond (needs k c l) 1 0) same)
unwatched-push f m (c ∷ cs) (p ∷ ps) q l e h = omega (arith, unwatched-push (f - 1) m cs ps q l (omega (arith, e)) (omega (arith, h)))

-- a clause more
pub unwatched-clause : (f m : ℕ) (cs : List (List Lit)) (c : List Lit) (ps : List Pair) (l : Lit) → m ≡ f - length cs → length ps ≤ length cs → unwatched f (cs ++ c ∷ []) ps l ≡ unwatched f cs ps l + cond (needs m c l) 1 0
unwatched-clause f m [] c [] l e h = let same : m ≡ f = omega (arith, e) in omega (arith, ap {B = ℕ} (λ k. cond (needs k c l) 1 0) same)
unwatched-clause f m [] c (p ∷ ps) l e h = absurd (omega (arith, h))
unwatched-clause f m (x ∷ xs) c [] l e h = omega (arith, unwatched-clause (f - 1) m xs c [] l (omega (arith, e)) (omega arith))
unwatched-clause f m (x ∷ xs) c (p ∷ ps) l e h = omega (arith, unwatched-clause (f - 1) m xs c ps l (omega (arith, e)) (omega (arith, h)))

-- a clause that lacks the literal in its pair is counted
pub some_unwatched : (f : ℕ) (cs : List (List Lit)) (ps : List Pair) (i : ℕ) (d : Pair) (l : Lit) → i < length ps → i < length cs → lacks (get_or cs i []) (get_or ps i d) l ≡ true → 1 ≤ unwatched f cs ps l
some_unwatched f [] ps i d l h k e = absurd (omega (arith, k))
some_unwatched f (c ∷ cs) [] i d l h k e = absurd (omega (arith, h))
some_unwatched f (c ∷ cs) (p ∷ ps) zero d l h k e = omega (arith, counts_one (lacks c p l) e)
some_unwatched f (c ∷ cs) (p ∷ ps) (suc i) d l h k e = omega (arith, some_unwatched (f - 1) cs ps i d l (omega (arith, h)) (omega (arith, k)) e)

-- a clause without a pair that has the literal and stands in no such list is counted
pub some_unpaired : (f m : ℕ) (cs : List (List Lit)) (ps : List Pair) (l : Lit) → m ≡ f - length ps → length ps < length cs → needs m (get_or cs (length ps) []) l ≡ true → 1 ≤ unwatched f cs ps l
some_unpaired f m [] ps l q h e = absurd (omega (arith, h))
some_unpaired f m (c ∷ cs) [] l q h e = let same : m ≡ f = omega (arith, q) in omega (arith, counts_one (needs f c l) (subst (λ k. needs k c l ≡ true) same e))
some_unpaired f m (c ∷ cs) (p ∷ ps) l q h e = omega (arith, some_unpaired (f - 1) m cs ps l (omega (arith, q)) (omega (arith, h)) e)

-- where all clauses have pairs, the count of those in lists plays no part
pub unwatched-paired : (f h : ℕ) (cs : List (List Lit)) (ps : List Pair) (l : Lit) → length cs ≤ length ps → unwatched f cs ps l ≡ unwatched h cs ps l
unwatched-paired f h [] ps l e = refl
unwatched-paired f h (c ∷ cs) [] l e = absurd (omega (arith, e))
unwatched-paired f h (c ∷ cs) (p ∷ ps) l e = omega (arith, unwatched-paired (f - 1) (h - 1) cs ps l (omega (arith, e)))

-- the more clauses stand in lists, the fewer are counted
fixed_more : (f h : ℕ) (c : List Lit) → f ≤ h → is_fixed f 1 c ≡ true → is_fixed h 1 c ≡ true
fixed_more f h c l e =
    let parts = and_parts (nat_le 1 f) (is_short c) e in
    rw (le-leb 1 h (omega (arith, l, leb-true 1 f parts.0)), parts.1) refl

needs-le : (f h : ℕ) (c : List Lit) (l : Lit) → f ≤ h → cond (needs h c l) 1 0 ≤ cond (needs f c l) 1 0
needs-le f h c l e = by (has c l) (is_fixed f 1 c) (is_fixed h 1 c) (fixed_more f h c e)
  where
    by : (a x y : Bool) → (x ≡ true → y ≡ true) → cond (a && not y) 1 0 ≤ cond (a && not x) 1 0
    by true true true g = omega arith
    by true true false g = absurd (false≢true (g refl))
    by true false true g = omega arith
    by true false false g = omega arith
    by false x y g = omega arith

pub unwatched-le : (f h : ℕ) (cs : List (List Lit)) (ps : List Pair) (l : Lit) → f ≤ h → unwatched h cs ps l ≤ unwatched f cs ps l
unwatched-le f h [] ps l e = omega arith
unwatched-le f h (c ∷ cs) [] l e = omega (arith, needs-le f h c l e, unwatched-le (f - 1) (h - 1) cs [] l (omega (arith, e)))
unwatched-le f h (c ∷ cs) (p ∷ ps) l e = omega (arith, unwatched-le (f - 1) (h - 1) cs ps l (omega (arith, e)))

-- the first clause without a pair, by its number
pub fixed_first : (f k n : ℕ) (c : List Lit) → n ≡ k + 1 → is_fixed (f - k) 1 c ≡ is_fixed f n c
fixed_first f k n c e = elim (cases_lt k f) [
  | inl b ↦ rw (le-leb 1 (f - k) (omega (arith, b)), le-leb n f (omega (arith, b, e))) refl
  | inr b ↦ rw (lt-leb 1 (f - k) (omega (arith, b)), lt-leb n f (omega (arith, b, e))) refl
]

pub needs_first : (f k n : ℕ) (c : List Lit) (l : Lit) → n ≡ k + 1 → is_fixed f n c ≡ false → needs (f - k) c l ≡ has c l
needs_first f k n c l e h = by (has c l) (is_fixed (f - k) 1 c) (fixed_first f k n c e ∙ h)
  where
    by : (a b : Bool) → b ≡ false → (a && not b) ≡ a
    by true false g = refl
    by false false g = refl
    by a true g = absurd (false≢true (sym g))

-- the clause that was added last
pub needs_last : (takes : Bool) (f n count m : ℕ) (c : List Lit) (l : Lit) → f ≤ count → n ≡ count + 1 → m ≡ cond takes n f - count → needs m c l ≡ (has c l && not (takes && is_short c))
needs_last true f n count m c l low e q = let one : m ≡ 1 = omega (arith, e, q) in ap (λ k. needs k c l) one
needs_last false f n count m c l low e q = let none : m ≡ 0 = omega (arith, low, q) in ap (λ k. needs k c l) none

pub same_lit-false : (l m : Lit) → l ≢ m → same_lit l m ≡ false
same_lit-false l m d = elim (cases_Bool (same_lit l m)) [ inl t ↦ absurd (d (same_lit-true l m t)) | inr f ↦ f ]

-- each literal of the clause that is in its pair doesn't lack there
pub lacks_or_watches : (c : List Lit) (p : Pair) (l : Lit) → (watches p l ≡ true → has c l ≡ true) → cond (lacks c p l) 1 0 + cond (watches p l) 1 0 ≤ cond (has c l) 1 0
lacks_or_watches c p l h = by (has c l) (is_mark p) (watches p l) h
  where
    by : (a m w : Bool) → (w ≡ true → a ≡ true) → cond (a && not (m || w)) 1 0 + cond w 1 0 ≤ cond a 1 0
    by true true true g = omega arith
    by true true false g = omega arith
    by true false true g = omega arith
    by true false false g = omega arith
    by false m true g = absurd (false≢true (g refl))
    by false m false g = omega arith

pub lacks-le : (c : List Lit) (p : Pair) (l : Lit) → cond (lacks c p l) 1 0 ≤ cond (has c l) 1 0
lacks-le c p l = by (has c l) (is_mark p || watches p l)
  where
    by : (a b : Bool) → cond (a && not b) 1 0 ≤ cond a 1 0
    by true true = omega arith
    by true false = omega arith
    by false b = omega arith

-- a clause that stands in the lists of its literals lacks none
pub lacks-mark : (c : List Lit) (p : Pair) (l : Lit) → is_mark p ≡ true → cond (lacks c p l) 1 0 ≤ 0
lacks-mark c p l h = by (has c l) (is_mark p) (watches p l) h
  where
    by : (a m w : Bool) → m ≡ true → cond (a && not (m || w)) 1 0 ≤ 0
    by true true w g = omega arith
    by false true w g = omega arith
    by a false w g = absurd (false≢true g)

-- a pair has no literal but its two
pub watches-neither : (p : Pair) (l : Lit) → p.first ≢ l → p.second ≢ l → watches p l ≡ false
watches-neither p l a b = rw (same_lit-false p.first l a, same_lit-false p.second l b) refl

pub watches-is : (p : Pair) (l : Lit) → watches p l ≡ true → (p.first ≡ l) ⊎ (p.second ≡ l)
watches-is p l h = elim (cases_lit p.first l) [
  | inl e ↦ inl e
  | inr d ↦ inr (same_lit-true p.second l (subst (λ (b : Bool). b || same_lit p.second l ≡ true) (same_lit-false p.first l d) h))
]

pub lacks-true : (c : List Lit) (p : Pair) (l : Lit) → is_mark p ≡ false → has c l ≡ true → p.first ≢ l → p.second ≢ l → lacks c p l ≡ true
lacks-true c p l m h a b = by (has c l) (is_mark p) (watches p l) h m (watches-neither p l a b)
  where
    by : (a m w : Bool) → a ≡ true → m ≡ false → w ≡ false → (a && not (m || w)) ≡ true
    by true false false x y z = refl
    by true false true x y z = absurd (false≢true (sym z))
    by true true w x y z = absurd (false≢true (sym y))
    by false m w x y z = absurd (false≢true x)

-- where the pair changes one literal, that one isn't lacking any more, and what lacks of others is the same
pub lacks-moved : (c : List Lit) (q p : Pair) (next l : Lit) → is_mark q ≡ false → IsOriented q p → has c next ≡ true → next ≢ p.second → next ≢ p.first → l ≢ p.first → cond (same_lit next l) 1 0 + cond (lacks c record { first = p.second; second = next } l) 1 0 ≤ cond (lacks c q l) 1 0
lacks-moved c q p next l k o h m n d = elim (cases_lit l next) [
  | inl e ↦
      let lacking : lacks c q next ≡ true = elim o [
        | inl x ↦ subst (λ r. lacks c r next ≡ true) (sym x) (lacks-true c p next (subst (λ r. is_mark r ≡ false) x k) h (λ z. n (sym z)) (λ z. m (sym z)))
        | inr x ↦ subst (λ r. lacks c r next ≡ true) (sym x) (lacks-true c record { first = p.second; second = p.first } next (subst (λ r. is_mark r ≡ false) x k) h (λ z. m (sym z)) (λ z. n (sym z)))
      ] in
      subst (λ z. cond (same_lit next z) 1 0 + cond (lacks c moved z) 1 0 ≤ cond (lacks c q z) 1 0) (sym e)
      (omega (arith, ap {B = ℕ} (λ (b : Bool). cond b 1 0) lacking, ap {B = ℕ} (λ (b : Bool). cond b 1 0) (same_lit_itself next), watched_there (has c next) (is_mark moved) (watches moved next) (or_right (same_lit p.second next) (same_lit next next) (same_lit_itself next))))
  | inr g ↦
      let same : watches q l ≡ watches moved l = elim o [
        | inl x ↦ subst (λ r. watches r l ≡ watches moved l) (sym x) (rw (same_lit-false p.first l (λ z. d (sym z)), same_lit-false next l (λ z. g (sym z))) (sym (or_false (same_lit p.second l))))
        | inr x ↦ subst (λ r. watches r l ≡ watches moved l) (sym x) (rw (same_lit-false p.first l (λ z. d (sym z)), same_lit-false next l (λ z. g (sym z))) refl)
      ] in
      omega (arith, ap {B = ℕ} (λ (b : Bool). cond b 1 0) (same_lit-false next l (λ z. g (sym z))), no_more (has c l) (is_mark q) (is_mark moved) (watches q l) (watches moved l) k same)
]
  where
    moved : Pair
    moved = record { first = p.second; second = next }

    or_false : (b : Bool) → (b || false) ≡ b
    or_false true = refl
    or_false false = refl

    watched_there : (a m w : Bool) → w ≡ true → cond (a && not (m || w)) 1 0 ≤ 0
    watched_there true true true x = omega arith
    watched_there true false true x = omega arith
    watched_there false m w x = omega arith
    watched_there true m false x = absurd (false≢true x)

    no_more : (a m n v w : Bool) → m ≡ false → v ≡ w → cond (a && not (n || w)) 1 0 ≤ cond (a && not (m || v)) 1 0
    no_more false m n v w x y = omega arith
    no_more true true n v w x y = absurd (false≢true (sym x))
    no_more true false true v w x y = omega arith
    no_more true false false v w x y = omega (arith, ap {B = ℕ} (λ (b : Bool). cond (not b) 1 0) y)

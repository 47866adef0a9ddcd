-- The lists of the clauses that watch a literal.
use Rattle.std.proofs.Common.{◌≡◌, ◌≢◌, ℕ, zero, suc, ◌+◌, ◌*◌, ◌<◌, ◌≤◌, Bool, true, false, cond, List, [], ◌∷◌, ◌++◌, length, get_or, set, take, refl, sym, ap, ◌∙◌, subst, arith, ◌⊎◌, inl, inr}
use Rattle.std.proofs.lemmas.Bool.{cases_lt, cases_eq, cases_Bool, both_ways}
use Rattle.std.proofs.lemmas.List.{get_or-set_same, get_or-set_other, get_or-take, get_or_append_left, get_or_push, length_push, length-set, length-take-le}
use Rattle.clause_base.specs.declared.literal.Lit.{Lit}
use Rattle.clause_base.specs.Literal.{same_lit}
use Rattle.clause_base.proofs.Sets.{lit_ext, same_lit-true, same_lit_itself}
use Rattle.trail_core.specs.Listing.{Listing, nothing}
use Rattle.trail_core.specs.Watching.{code_of, list_of, room_of, with_list, AreNumbers, Stands, IsListed}

sign_code : (a b : ℕ) (s t : Bool) → 2 * a + cond s 1 0 ≡ 2 * b + cond t 1 0 → (a ≡ b) × (s ≡ t)
sign_code a b true true h = (omega (arith, h), refl)
sign_code a b true false h = absurd (omega (arith, h))
sign_code a b false true h = absurd (omega (arith, h))
sign_code a b false false h = (omega (arith, h), refl)

-- two literals with one place are one
pub code_same : (l m : Lit) → code_of l ≡ code_of m → l ≡ m
code_same l m h = let p = sign_code l.var m.var l.negated m.negated h in lit_ext l m p.0 p.1

pub cases_lit : (l m : Lit) → (l ≡ m) ⊎ (l ≢ m)
cases_lit l m = elim (cases_Bool (same_lit l m)) [
  | inl t ↦ inl (same_lit-true l m t)
  | inr f ↦ inr (λ e. both_ways (same_lit l m) f (ap (same_lit l) (sym e) ∙ same_lit_itself l))
]

pub list_set_same : (lists : List Listing) (l : Lit) (xs : List ℕ) → code_of l < length lists → list_of (with_list lists l xs) l ≡ xs
list_set_same lists l xs h = ap (λ (x : Listing). x.numbers) (get_or-set_same lists (code_of l) record { numbers = xs; room = room_of lists l } nothing h)

pub list_set_other : (lists : List Listing) (l m : Lit) (xs : List ℕ) → m ≢ l → list_of (with_list lists l xs) m ≡ list_of lists m
list_set_other lists l m xs n = ap (λ (x : Listing). x.numbers) (get_or-set_other lists (code_of l) (code_of m) record { numbers = xs; room = room_of lists l } nothing (λ e. n (code_same m l e)))

pub with_list-length : (lists : List Listing) (l : Lit) (xs : List ℕ) → length (with_list lists l xs) ≡ length lists
with_list-length lists l xs = length-set lists (code_of l) record { numbers = xs; room = room_of lists l }

-- the room stays
pub with_list-room : (lists : List Listing) (l m : Lit) (xs : List ℕ) → code_of l < length lists → room_of (with_list lists l xs) m ≡ room_of lists m
with_list-room lists l m xs h = elim (cases_lit m l) [
  | inl e ↦ subst (λ z. room_of (with_list lists l xs) z ≡ room_of lists z) (sym e) (ap (λ (x : Listing). x.room) (get_or-set_same lists (code_of l) new nothing h))
  | inr d ↦ ap (λ (x : Listing). x.room) (get_or-set_other lists (code_of l) (code_of m) new nothing (λ e. d (code_same m l e)))
]
  where
    new : Listing
    new = record { numbers = xs; room = room_of lists l }

-- the numbers are those of clauses, where those that are put in are
pub with_list-numbers : (lists : List Listing) (l m : Lit) (xs : List ℕ) (count : ℕ) → code_of l < length lists → AreNumbers xs count → AreNumbers (list_of lists m) count → AreNumbers (list_of (with_list lists l xs) m) count
with_list-numbers lists l m xs count h a b = elim (cases_lit m l) [
  | inl e ↦ subst (λ z. AreNumbers (list_of (with_list lists l xs) z) count) (sym e) (subst (λ ys. AreNumbers ys count) (sym (list_set_same lists l xs h)) a)
  | inr d ↦ subst (λ ys. AreNumbers ys count) (sym (list_set_other lists l m xs d)) b
]

pub numbers_push : (xs : List ℕ) (n count : ℕ) → 1 ≤ n → n ≤ count → AreNumbers xs count → AreNumbers (xs ++ n ∷ []) count
numbers_push xs n count low high h i l = elim (cases_lt i (length xs)) [
  | inl b ↦ rw (get_or_append_left xs (n ∷ []) 0 i b) (h i b)
  | inr b ↦ rw (get_or_push xs n 0 i (omega (arith, b, l, length_push xs n))) (low, high)
]

pub numbers_set : (xs : List ℕ) (at n count : ℕ) → 1 ≤ n → n ≤ count → AreNumbers xs count → AreNumbers (set xs at n) count
numbers_set xs at n count low high h i l = elim (cases_eq i at) [
  | inl e ↦ rw (e, get_or-set_same xs at n 0 (omega (arith, e, l, length-set xs at n))) (low, high)
  | inr d ↦ rw (get_or-set_other xs at i n 0 d) (h i (omega (arith, l, length-set xs at n)))
]

pub numbers_take : (xs : List ℕ) (k count : ℕ) → k ≤ length xs → AreNumbers xs count → AreNumbers (take k xs) count
numbers_take xs k count l h i b = rw (get_or-take k xs i 0 (omega (arith, b, length-take-le k xs l))) (h i (omega (arith, b, l, length-take-le k xs l)))

-- a test that holds counts for one
pub counts_one : (b : Bool) → b ≡ true → 1 ≤ cond b 1 0
counts_one true e = omega arith
counts_one false e = absurd (both_ways false refl e)

-- how many numbers the lists have, where one more is put into one of them
pub with_list-held : (lists : List Listing) (l m : Lit) (xs : List ℕ) → code_of l < length lists → length xs ≤ length (list_of lists l) + 1 → length (list_of (with_list lists l xs) m) ≤ length (list_of lists m) + cond (same_lit l m) 1 0
with_list-held lists l m xs h n = elim (cases_lit m l) [
  | inl e ↦ subst (λ z. length (list_of (with_list lists l xs) z) ≤ length (list_of lists z) + cond (same_lit l z) 1 0) (sym e)
      (omega (arith, n, counts_one (same_lit l l) (same_lit_itself l), ap length (list_set_same lists l xs h)))
  | inr d ↦ omega (arith, ap length (list_set_other lists l m xs d))
]

-- a number in a list stands in the same list under another name
pub stands_in : (xs ys : List ℕ) (from n : ℕ) → xs ≡ ys → Stands xs from (length xs) n → Stands ys from (length ys) n
stands_in xs ys from n e s = subst (λ zs. Stands zs from (length zs) n) e s

-- a number more at the end
pub stands_push : (xs : List ℕ) (m n : ℕ) → Stands xs 0 (length xs) n → Stands (xs ++ m ∷ []) 0 (length (xs ++ m ∷ [])) n
stands_push xs m n s = record {
  place = s.place;
  low = omega arith;
  high = omega (arith, s.within, length_push xs m);
  within = omega (arith, s.within, length_push xs m);
  is = get_or_append_left xs (m ∷ []) 0 s.place s.within ∙ s.is;
}

pub stands_last : (xs : List ℕ) (n : ℕ) → Stands (xs ++ n ∷ []) 0 (length (xs ++ n ∷ [])) n
stands_last xs n = record {
  place = length xs;
  low = omega arith;
  high = omega (arith, length_push xs n);
  within = omega (arith, length_push xs n);
  is = get_or_push xs n 0 (length xs) refl;
}

-- a number put at the end of one list stays listed in all, and is listed there
pub listed_push : (lists : List Listing) (l x : Lit) (m n : ℕ) → code_of l < length lists → IsListed lists x n → IsListed (with_list lists l (list_of lists l ++ m ∷ [])) x n
listed_push lists l x m n h s = elim (cases_lit x l) [
  | inl e ↦ subst (λ z. IsListed (with_list lists l (list_of lists l ++ m ∷ [])) z n) (sym e)
      (stands_in (list_of lists l ++ m ∷ []) (list_of (with_list lists l (list_of lists l ++ m ∷ [])) l) 0 n (sym (list_set_same lists l (list_of lists l ++ m ∷ []) h))
      (stands_push (list_of lists l) m n (subst (λ z. IsListed lists z n) e s)))
  | inr d ↦ stands_in (list_of lists x) (list_of (with_list lists l (list_of lists l ++ m ∷ [])) x) 0 n (sym (list_set_other lists l x (list_of lists l ++ m ∷ []) d)) s
]

pub listed_last : (lists : List Listing) (l : Lit) (n : ℕ) → code_of l < length lists → IsListed (with_list lists l (list_of lists l ++ n ∷ [])) l n
listed_last lists l n h =
    stands_in (list_of lists l ++ n ∷ []) (list_of (with_list lists l (list_of lists l ++ n ∷ [])) l) 0 n (sym (list_set_same lists l (list_of lists l ++ n ∷ []) h)) (stands_last (list_of lists l) n)

-- the numbers kept so far, with one more written behind them
pub kept_front : (xs : List ℕ) (kept m n : ℕ) → Stands xs 0 kept n → Stands (set xs kept m) 0 (kept + 1) n
kept_front xs kept m n s = record {
  place = s.place;
  low = omega arith;
  high = omega (arith, s.high);
  within = omega (arith, s.within, length-set xs kept m);
  is = get_or-set_other xs kept s.place m 0 (λ e. absurd (omega (arith, e, s.high))) ∙ s.is;
}

pub kept_last : (xs : List ℕ) (kept n : ℕ) → kept < length xs → Stands (set xs kept n) 0 (kept + 1) n
kept_last xs kept n l = record {
  place = kept;
  low = omega arith;
  high = omega arith;
  within = omega (arith, l, length-set xs kept n);
  is = get_or-set_same xs kept n 0 l;
}

-- what is yet to be visited, but for the number at the place
pub rest_after : (xs : List ℕ) (place n : ℕ) → get_or xs place 0 ≢ n → Stands xs place (length xs) n → Stands xs (place + 1) (length xs) n
rest_after xs place n d s = record {
  place = s.place;
  low = elim (cases_eq s.place place) [ inl e ↦ absurd (d (ap (λ i. get_or xs i 0) (sym e) ∙ s.is)) | inr o ↦ omega (arith, s.low, o) ];
  high = s.high;
  within = s.within;
  is = s.is;
}

pub rest_set : (xs : List ℕ) (kept place m n : ℕ) → kept ≤ place → Stands xs (place + 1) (length xs) n → Stands (set xs kept m) (place + 1) (length (set xs kept m)) n
rest_set xs kept place m n k s = record {
  place = s.place;
  low = s.low;
  high = omega (arith, s.within, length-set xs kept m);
  within = omega (arith, s.within, length-set xs kept m);
  is = get_or-set_other xs kept s.place m 0 (λ e. absurd (omega (arith, e, s.low, k))) ∙ s.is;
}

-- what was kept stands in what is left
pub kept_left : (xs : List ℕ) (kept n : ℕ) → kept ≤ length xs → Stands xs 0 kept n → Stands (take kept xs) 0 (length (take kept xs)) n
kept_left xs kept n l s = record {
  place = s.place;
  low = omega arith;
  high = omega (arith, s.high, length-take-le kept xs l);
  within = omega (arith, s.high, length-take-le kept xs l);
  is = get_or-take kept xs s.place 0 s.high ∙ s.is;
}

-- what stands at a place of a list is the same by any default
pub at_any : {X : Type 0} (xs : List X) (i : ℕ) (d e : X) → i < length xs → get_or xs i d ≡ get_or xs i e
at_any [] i d e l = absurd (omega (arith, l))
at_any (x ∷ xs) zero d e l = refl
at_any (x ∷ xs) (suc i) d e l = at_any xs i d e (omega (arith, l))

pub apart_lit : (l m : Lit) → same_lit l m ≡ false → l ≢ m
apart_lit l m f e = both_ways (same_lit l m) f (ap (same_lit l) (sym e) ∙ same_lit_itself l)

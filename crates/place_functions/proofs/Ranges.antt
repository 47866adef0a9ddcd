-- The notes of one place among notes in the order of their places.
use Rattle.std.proofs.Common.{ℕ, zero, suc, ◌≡◌, ◌<◌, ◌≤◌, ◌+◌, Bool, true, false, ◌&&◌, ◌||◌, List, [], ◌∷◌, length, get_or, take, drop, refl, sym, ◌∙◌, ap, ap₂, subst, arith, leb, ltb}
use Rattle.std.specs.Prelude.{◌==◌}
use Rattle.std.specs.List.{list_any, AllWithin}
use Rattle.std.specs.List.Sorted.{IsNonDecreasingBy}
use Rattle.std.proofs.lemmas.Bool.{leb-true, leb-false, ltb-true, ltb-false, eq-eqb}
use Rattle.std.proofs.lemmas.Bool.Decides.{nat_tests}
use Rattle.design_core.specs.Drives.{is_among}
use Rattle.place_functions.specs.declared.note.Note.{Note}
use Rattle.place_functions.specs.Notes.{note_has, notes_have, note_reads, some_reads, place_of}

-- those that don't pass may be passed over
none-pass : (h : Note → Bool) (xs : List Note) → AllWithin (λ y. h y ≡ false) xs 0 (length xs) → list_any h xs ≡ false
none-pass h [] none = refl
none-pass h (x ∷ xs) none =
    ap₂ (λ a b. a || b) (none 0 x (omega arith) (omega arith))
    (none-pass h xs (λ k d least below. none (suc k) d (omega arith) (omega (arith, below))))

skipped : (h : Note → Bool) (xs : List Note) (n : ℕ) → AllWithin (λ y. h y ≡ false) xs 0 n → n ≤ length xs → list_any h xs ≡ list_any h (drop n xs)
skipped h [] zero none within = refl
skipped h [] (suc n) none within = absurd (omega (arith, within))
skipped h (x ∷ xs) zero none within = refl
skipped h (x ∷ xs) (suc n) none within =
    ap (λ a. a || list_any h xs) (none 0 x (omega arith) (omega arith))
    ∙ skipped h xs n (λ k d least below. none (suc k) d (omega arith) (omega (arith, below))) (omega (arith, within))

until : (h r : Note → Bool) (xs : List Note) (n : ℕ) → AllWithin (λ y. h y ≡ r y) xs 0 n → AllWithin (λ y. h y ≡ false) xs n (length xs) → n ≤ length xs
    → list_any h xs ≡ list_any r (take n xs)
until h r [] zero same none within = refl
until h r [] (suc n) same none within = absurd (omega (arith, within))
until h r (x ∷ xs) zero same none within = none-pass h (x ∷ xs) none
until h r (x ∷ xs) (suc n) same none within =
    ap₂ (λ a b. a || b) (same 0 x (omega arith) (omega arith))
    (until h r xs n (λ k d least below. same (suc k) d (omega arith) (omega (arith, below)))
    (λ k d least below. none (suc k) d (omega (arith, least)) (omega (arith, below))) (omega (arith, within)))

-- a note of another place has no bit of the place
other : (p s b q : ℕ) (note : Note) → note.place ≡ q → (q == p) ≡ false → note_has p s b note ≡ false
other p s b q note is apart = ap (λ t. (t && is_among note.first note.count s) && is_among note.from note.width b) (ap (λ n. n == p) is ∙ apart)

lower : (p s b : ℕ) (note : Note) → ltb (place_of note) p ≡ true → note_has p s b note ≡ false
lower p s b note below = other p s b note.place note refl (apart note.place p (ltb-true note.place p below))
  where
    apart : (m n : ℕ) → m < n → (m == n) ≡ false
    apart m n less = grind (arith, nat_tests)

higher : (p s b : ℕ) (note : Note) → leb (place_of note) p ≡ false → note_has p s b note ≡ false
higher p s b note above = other p s b note.place note refl (apart note.place p (leb-false note.place p above))
  where
    apart : (m n : ℕ) → n < m → (m == n) ≡ false
    apart m n less = grind (arith, nat_tests)

own : (p s b : ℕ) (note : Note) → ltb (place_of note) p ≡ false → leb (place_of note) p ≡ true → note_has p s b note ≡ note_reads s b note
own p s b note least most =
    ap (λ t. (t && is_among note.first note.count s) && is_among note.from note.width b)
    (eq-eqb note.place p (same note.place p (ltb-false note.place p least) (leb-true note.place p most)))
  where
    same : (m n : ℕ) → n ≤ m → m ≤ n → m ≡ n
    same m n one other = omega (arith, one, other)

-- where notes in order are split by the place
at-place : (notes : List Note) (p from end : ℕ) → from ≤ length notes → end ≤ length (drop from notes)
    → AllWithin (λ y. ltb (place_of y) p ≡ true) notes 0 from
    → AllWithin (λ y. ltb (place_of y) p ≡ false) (drop from notes) 0 end
    → AllWithin (λ y. leb (place_of y) p ≡ true) (drop from notes) 0 end
    → AllWithin (λ y. leb (place_of y) p ≡ false) (drop from notes) end (length (drop from notes))
    → (s b : ℕ) → some_reads (take end (drop from notes)) s b ≡ notes_have notes p s b
at-place notes p from end within within' low least most high s b =
    let rest = drop from notes in
    sym (skipped (note_has p s b) notes from (λ k d l m. lower p s b (get_or notes k d) (low k d l m)) within
    ∙ until (note_has p s b) (note_reads s b) rest end (λ k d l m. own p s b (get_or rest k d) (least k d l m) (most k d l m))
    (λ k d l m. higher p s b (get_or rest k d) (high k d l m)) within')

-- those behind a number
behind : (notes : List Note) (p from : ℕ) (end : ℕ) → end ≤ length (drop from notes) → AllWithin (λ y. ltb (place_of y) p ≡ false) notes from (length notes)
    → AllWithin (λ y. ltb (place_of y) p ≡ false) (drop from notes) 0 end
behind notes zero' from end within above = of notes from end within above
  where
    of : (notes : List Note) (from end : ℕ) → end ≤ length (drop from notes) → AllWithin (λ y. ltb (place_of y) zero' ≡ false) notes from (length notes)
        → AllWithin (λ y. ltb (place_of y) zero' ≡ false) (drop from notes) 0 end
    of [] zero end within above = λ k d l m. absurd (omega (arith, within, m))
    of [] (suc from) end within above = λ k d l m. absurd (omega (arith, within, m))
    of (x ∷ xs) zero end within above = λ k d l m. above k d l (omega (arith, m, within))
    of (x ∷ xs) (suc from) end within above = of xs from end within (λ k d l m. above (suc k) d (omega (arith, l)) (omega (arith, m)))

-- the same, where the parts are known by equations
pub own-part : (notes rest part : List Note) (p from end : ℕ) → rest ≡ drop from notes → part ≡ take end rest → from ≤ length notes → end ≤ length rest
    → AllWithin (λ y. ltb (place_of y) p ≡ true) notes 0 from
    → AllWithin (λ y. ltb (place_of y) p ≡ false) notes from (length notes)
    → AllWithin (λ y. leb (place_of y) p ≡ true) rest 0 end
    → AllWithin (λ y. leb (place_of y) p ≡ false) rest end (length rest)
    → (s b : ℕ) → some_reads part s b ≡ notes_have notes p s b
own-part notes rest part p from end is_rest is_part within within' low least most high s b =
    let there : end ≤ length (drop from notes) = subst (λ r. end ≤ length r) is_rest within' in
    ap (list_any (note_reads s b)) (is_part ∙ ap (take end) is_rest)
    ∙ at-place notes p from end within there low (behind notes p from end there least)
    (subst (λ r. AllWithin (λ y. leb (place_of y) p ≡ true) r 0 end) is_rest most)
    (subst (λ r. AllWithin (λ y. leb (place_of y) p ≡ false) r end (length r)) is_rest high) s b

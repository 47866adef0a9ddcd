-- Rows cut out of one list by their ends.
use Rattle.std.proofs.Common.{◌≡◌, ℕ, ◌+◌, ◌-◌, ◌<◌, ◌≤◌, zero, suc, List, [], ◌∷◌, ◌++◌, length, get_or, take, drop, refl, ap, sym, ◌∙◌, arith, length-append, rules}
use Rattle.std.specs.Prelude.{slice_range}
use Rattle.std.proofs.lemmas.List.{take-append-le, drop-append-le, drop_at, take_all, length-drop, take-take, nil_from_length, length-take-le}
use Rattle.std.proofs.lemmas.Slice.{between_is}
use Rattle.loc_base.specs.Rows.{cut, EndsAscend}

pub length-cut : {T : Type 0} (items : List T) (from : ℕ) (ends : List ℕ) → length (cut items from ends) ≡ length ends
length-cut items from [] = refl
length-cut items from (end ∷ ends) = ap suc (length-cut items end ends)

pub EndsAscend-le : (from : ℕ) (ends : List ℕ) (total : ℕ) → EndsAscend from ends total → from ≤ total
EndsAscend-le from [] total h = omega (arith, h)
EndsAscend-le from (end ∷ ends) total h = omega (arith, h.0, EndsAscend-le end ends total h.1)

-- the place where a row starts is not above the place where it ends
pub start-le : (from : ℕ) (ends : List ℕ) (total : ℕ) (i : ℕ) → EndsAscend from ends total → i < length ends → get_or (from ∷ ends) i 0 ≤ get_or ends i 0
start-le from [] total i h lt = omega arith
start-le from (end ∷ ends) total zero h lt = h.0
start-le from (end ∷ ends) total (suc i) h lt = start-le end ends total i h.1 (omega arith)

-- no row ends past the total
pub end-le : (from : ℕ) (ends : List ℕ) (total : ℕ) (i : ℕ) → EndsAscend from ends total → i < length ends → get_or ends i 0 ≤ total
end-le from [] total i h lt = omega arith
end-le from (end ∷ ends) total zero h lt = EndsAscend-le end ends total h.1
end-le from (end ∷ ends) total (suc i) h lt = end-le end ends total i h.1 (omega arith)

pub get_or-cut : {T : Type 0} (items : List T) (from : ℕ) (ends : List ℕ) (i : ℕ) (d : List T) → i < length ends → get_or (cut items from ends) i d ≡ slice_range items (get_or (from ∷ ends) i 0) (get_or ends i 0)
get_or-cut items from [] i d lt = absurd (omega arith)
get_or-cut items from (end ∷ ends) zero d lt = refl
get_or-cut items from (end ∷ ends) (suc i) d lt = get_or-cut items end ends i d (omega arith)

slice_range-append : {T : Type 0} (items more : List T) (a b : ℕ) → a ≤ b → b ≤ length items → slice_range (items ++ more) a b ≡ slice_range items a b
slice_range-append items more a b le within =
    let below : a ≤ length items = omega arith in
    let inner : b - a ≤ length (drop a items) = omega (arith, length-drop a items) in
    ap (take (b - a)) (drop-append-le a items more below) ∙ take-append-le (b - a) (drop a items) more inner

cut-append : {T : Type 0} (items more : List T) (from : ℕ) (ends : List ℕ) → EndsAscend from ends (length items) → cut (items ++ more) from ends ≡ cut items from ends
cut-append items more from [] h = refl
cut-append items more from (end ∷ ends) h =
    let first : slice_range (items ++ more) from end ≡ slice_range items from end = slice_range-append items more from end h.0 (EndsAscend-le end ends (length items) h.1) in
    let rest : cut (items ++ more) end ends ≡ cut items end ends = cut-append items more end ends h.1 in
    cc

cut-one_more : {T : Type 0} (items : List T) (from : ℕ) (ends : List ℕ) (total end : ℕ) → EndsAscend from ends total → cut items from (ends ++ end ∷ []) ≡ cut items from ends ++ slice_range items total end ∷ []
cut-one_more items from [] total end h = ap (λ n. slice_range items n end ∷ []) h
cut-one_more items from (e ∷ ends) total end h = ap (λ rows. slice_range items from e ∷ rows) (cut-one_more items e ends total end h.1)

pub EndsAscend-push : (from : ℕ) (ends : List ℕ) (total end : ℕ) → EndsAscend from ends total → total ≤ end → EndsAscend from (ends ++ end ∷ []) end
EndsAscend-push from [] total end h le = (omega (arith, h), refl)
EndsAscend-push from (e ∷ ends) total end h le = (h.0, EndsAscend-push e ends total end h.1 le)

last_row : {T : Type 0} (items row : List T) → slice_range (items ++ row) (length items) (length items + length row) ≡ row
last_row items row =
    ap (take (length items + length row - length items)) (drop_at items row (length items) refl)
    ∙ take_all (length items + length row - length items) row (omega arith)

-- what one more row leaves
pub cut-push : {T : Type 0} (items row : List T) (ends : List ℕ) → EndsAscend 0 ends (length items) → cut (items ++ row) 0 (ends ++ (length items + length row) ∷ []) ≡ cut items 0 ends ++ row ∷ []
cut-push items row ends h =
    cut-one_more (items ++ row) 0 ends (length items) (length items + length row) h
    ∙ ap (λ last. cut (items ++ row) 0 ends ++ last ∷ []) (last_row items row)
    ∙ ap (λ rows. rows ++ row ∷ []) (cut-append items row 0 ends h)

-- what one more row without elements leaves
pub cut-empty : {T : Type 0} (items : List T) (ends : List ℕ) → EndsAscend 0 ends (length items) → cut items 0 (ends ++ length items ∷ []) ≡ cut items 0 ends ++ [] ∷ []
cut-empty items ends h =
    let none : length items - length items ≡ 0 = omega arith in
    cut-one_more items 0 ends (length items) (length items) h
    ∙ ap (λ n. cut items 0 ends ++ take n (drop (length items) items) ∷ []) none

slice_range-take : {T : Type 0} (items : List T) (n a b : ℕ) → b ≤ n → slice_range (take n items) a b ≡ slice_range items a b
slice_range-take items n a b le =
    between_is (take n items) a b ∙ ap (drop a) (take-take b n items le) ∙ sym (between_is items a b)

cut-take_items : {T : Type 0} (items : List T) (n : ℕ) (from : ℕ) (ends : List ℕ) → EndsAscend from ends n → cut (take n items) from ends ≡ cut items from ends
cut-take_items items n from [] h = refl
cut-take_items items n from (end ∷ ends) h =
    let first : slice_range (take n items) from end ≡ slice_range items from end = slice_range-take items n from end (EndsAscend-le end ends n h.1) in
    let rest : cut (take n items) end ends ≡ cut items end ends = cut-take_items items n end ends h.1 in
    cc

cut-take_ends : {T : Type 0} (items : List T) (from : ℕ) (ends : List ℕ) (n : ℕ) → cut items from (take n ends) ≡ take n (cut items from ends)
cut-take_ends items from ends zero = refl
cut-take_ends items from [] (suc n) = refl
cut-take_ends items from (end ∷ ends) (suc n) = ap (λ rows. slice_range items from end ∷ rows) (cut-take_ends items end ends n)

pub EndsAscend-take : (from : ℕ) (ends : List ℕ) (total n : ℕ) → EndsAscend from ends total → n < length ends → EndsAscend from (take n ends) (get_or (from ∷ ends) n 0)
EndsAscend-take from [] total n h lt = absurd (omega arith)
EndsAscend-take from (end ∷ ends) total zero h lt = refl
EndsAscend-take from (end ∷ ends) total (suc n) h lt = (h.0, EndsAscend-take end ends total n h.1 (omega arith))

-- what the rows are where the last one is taken off
pub cut-pop : {T : Type 0} (items : List T) (ends : List ℕ) (total n : ℕ) → EndsAscend 0 ends total → n < length ends → cut (take (get_or (0 ∷ ends) n 0) items) 0 (take n ends) ≡ take n (cut items 0 ends)
cut-pop items ends total n h lt =
    cut-take_items items _ 0 (take n ends) (EndsAscend-take 0 ends total n h lt) ∙ cut-take_ends items 0 ends n

pub ruleset cuts = (length-cut, start-le, end-le, get_or-cut, cut-push, cut-empty, EndsAscend-push, cut-pop, EndsAscend-take, nil_from_length, length-take-le)

-- Steps of the loops that append a counter's clauses.
use Rattle.std.proofs.Common.{◌≡◌, ℕ, zero, suc, ◌+◌, ◌<◌, ◌≤◌, List, [], ◌∷◌, ◌++◌, length, get_or, drop, refl, sym, ◌∙◌, ap, ap₂, arith, append_assoc, add-one}
use Rattle.std.proofs.lemmas.List.{append-nil, drop_all}
use Rattle.loc_base.proofs.ShelfLists.{drop-at}
use Rattle.clause_base.specs.declared.literal.Lit.{Lit}
use Rattle.card_counter.specs.Places.{width}
use Rattle.card_counter.specs.Counter.{pair, pairs, counter_from}

-- the clauses of one counter more
pub pairs-push : (first k i : ℕ) (x : Lit) (m count : ℕ) → pairs first k i x m (suc count) ≡ pairs first k i x m count ++ pair first k i x (m + count)
pairs-push first k i x m zero =
    let same : m ≡ m + 0 = omega arith in
    append-nil (pair first k i x m) ∙ ap (pair first k i x) same
pairs-push first k i x m (suc count) =
    let number : m + 1 + count ≡ m + suc count = omega arith in
    ap (λ (rest : List (List Lit)). pair first k i x m ++ rest) (pairs-push first k i x (m + 1) count ∙ ap (λ n. pairs first k i x (m + 1) count ++ pair first k i x n) number)
    ∙ sym (append_assoc (pair first k i x m) (pairs first k i x (m + 1) count) (pair first k i x (m + suc count)))

-- one more counter is appended to some clauses
pub row-next : (first k i : ℕ) (x : Lit) (done : ℕ) (start now after : List (List Lit)) → now ≡ start ++ pairs first k i x 1 done
    → after ≡ now ++ pair first k i x (done + 1) → after ≡ start ++ pairs first k i x 1 (done + 1)
row-next first k i x done start now after begun appended =
    let number : done + 1 ≡ 1 + done = omega arith in
    appended ∙ ap₂ (λ (cs : List (List Lit)) n. cs ++ pair first k i x n) begun number
    ∙ append_assoc start (pairs first k i x 1 done) (pair first k i x (1 + done))
    ∙ ap (λ (cs : List (List Lit)). start ++ cs) (sym (pairs-push first k i x 1 done) ∙ ap (pairs first k i x 1) (sym (add-one done)))

-- one more row is appended
pub rows-next : (first k : ℕ) (selectors : List Lit) (i : ℕ) (x : Lit) (now after total : List (List Lit)) → i < length selectors → x ≡ get_or selectors i x
    → now ++ counter_from first k i (drop i selectors) ≡ total → after ≡ now ++ pairs first k i x 1 (width k (i + 1))
    → after ++ counter_from first k (i + 1) (drop (i + 1) selectors) ≡ total
rows-next first k selectors i x now after total within is begun appended =
    let rest = counter_from first k (i + 1) (drop (i + 1) selectors) in
    ap (λ (cs : List (List Lit)). cs ++ rest) appended ∙ append_assoc now (pairs first k i x 1 (width k (i + 1))) rest
    ∙ ap (λ (xs : List Lit). now ++ counter_from first k i xs) (sym (drop-at selectors i x within is)) ∙ begun

-- all rows are there
pub rows-end : (first k : ℕ) (selectors : List Lit) (i : ℕ) (now total : List (List Lit)) → length selectors ≤ i
    → now ++ counter_from first k i (drop i selectors) ≡ total → now ≡ total
rows-end first k selectors i now total all begun =
    sym (append-nil now) ∙ ap (λ (xs : List Lit). now ++ counter_from first k i xs) (sym (drop_all i selectors all)) ∙ begun

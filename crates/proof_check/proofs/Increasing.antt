-- Ascending variables, literal by literal.
use Rattle.std.proofs.Common.{◌≡◌, ℕ, suc, ◌+◌, ◌-◌, ◌<◌, ◌≤◌, List, [], ◌∷◌, ◌++◌, length, get_or, map, refl, ap, sym, ◌∙◌, subst, ⊎_elim, arith}
use Rattle.std.specs.List.Sorted.{IsStrictlyIncreasing}
use Rattle.std.proofs.lemmas.Bool.{cases_lt}
use Rattle.std.proofs.lemmas.List.{get_or_append_left, get_or_push, get_or_at, length_push, length-map, map-append, map_push, length-append}
use Rattle.clause_base.specs.declared.literal.Lit.{Lit}
use Rattle.proof_check.specs.LineWords.{last_variable}

abbrev pub variables : List Lit → List ℕ
variables ls = map (λ (l : Lit). l.var) ls

last_suc : (x y : ℕ) (more : List ℕ) → get_or (x ∷ y ∷ more) (length (x ∷ y ∷ more) - 1) 0 ≡ get_or (y ∷ more) (length (y ∷ more) - 1) 0
last_suc x y more =
    let size : length (x ∷ y ∷ more) - 1 ≡ suc (length more) = omega arith in
    let inner : length (y ∷ more) - 1 ≡ length more = omega arith in
    ap (λ n. get_or (x ∷ y ∷ more) n 0) size ∙ ap (λ n. get_or (y ∷ more) n 0) (sym inner)

-- the last literal's variable is the last of the variables
pub last_variable-is : (ls : List Lit) → last_variable ls ≡ get_or (variables ls) (length (variables ls) - 1) 0
last_variable-is [] = refl
last_variable-is (l ∷ []) = refl
last_variable-is (l ∷ m ∷ more) = last_variable-is (m ∷ more) ∙ sym (last_suc l.var m.var (variables more))

increasing_push : (xs : List ℕ) (y : ℕ) → IsStrictlyIncreasing xs → (0 < length xs → get_or xs (length xs - 1) 0 < y) → IsStrictlyIncreasing (xs ++ y ∷ [])
increasing_push xs y up last k within = ⊎_elim
    (λ inside. rw (get_or_append_left xs (y ∷ []) 0 k (omega arith), get_or_append_left xs (y ∷ []) 0 (k + 1) inside) (up k inside))
    (λ outside.
    let size : length xs ≡ k + 1 = omega (arith, length_push xs y) in
    let at : get_or xs (length xs - 1) 0 ≡ get_or xs k 0 = ap (λ n. get_or xs n 0) (omega arith) in
    let below : get_or xs k 0 < y = omega (arith, last (omega arith), at) in
    rw (get_or_append_left xs (y ∷ []) 0 k (omega arith), get_or_push xs y 0 (k + 1) size) below)
    (cases_lt (k + 1) (length xs))

-- a literal after the last keeps the variables ascending
pub increasing_more : (ls : List Lit) (l : Lit) → IsStrictlyIncreasing (variables ls) → last_variable ls < l.var → IsStrictlyIncreasing (variables (ls ++ l ∷ []))
increasing_more ls l up below =
    rw (map_push (λ (m : Lit). m.var) ls l) (increasing_push (variables ls) l.var up (λ some. omega (arith, last_variable-is ls, below)))

-- and in ascending variables each literal comes after the last before it
pub increasing_at : (before : List Lit) (l : Lit) (after : List Lit) → 1 ≤ l.var → IsStrictlyIncreasing (variables (before ++ l ∷ after)) → last_variable before < l.var
increasing_at [] l after positive up = positive
increasing_at (m ∷ before) l after positive up =
    let n = length before in
    let whole : variables ((m ∷ before) ++ l ∷ after) ≡ variables (m ∷ before) ++ l.var ∷ variables after = map-append (λ (k : Lit). k.var) (m ∷ before) (l ∷ after) in
    let size : length (variables (m ∷ before)) ≡ n + 1 = omega (arith, length-map (m ∷ before) (λ (k : Lit). k.var)) in
    let total : length (variables (m ∷ before) ++ l.var ∷ variables after) ≡ length (variables (m ∷ before)) + length (l.var ∷ variables after) = length-append (variables (m ∷ before)) (l.var ∷ variables after) in
    let up' : IsStrictlyIncreasing (variables (m ∷ before) ++ l.var ∷ variables after) = subst IsStrictlyIncreasing whole up in
    let step : get_or (variables (m ∷ before) ++ l.var ∷ variables after) n 0 < get_or (variables (m ∷ before) ++ l.var ∷ variables after) (n + 1) 0 = up' n (omega (arith, size, total)) in
    let left : get_or (variables (m ∷ before) ++ l.var ∷ variables after) n 0 ≡ get_or (variables (m ∷ before)) n 0 = get_or_append_left (variables (m ∷ before)) (l.var ∷ variables after) 0 n (omega arith) in
    let right : get_or (variables (m ∷ before) ++ l.var ∷ variables after) (n + 1) 0 ≡ l.var = get_or_at (variables (m ∷ before)) l.var (variables after) 0 (n + 1) size in
    let last : last_variable (m ∷ before) ≡ get_or (variables (m ∷ before)) n 0 = last_variable-is (m ∷ before) ∙ ap (λ k. get_or (variables (m ∷ before)) k 0) (omega (arith, size)) in
    omega (arith, step, left, right, last)

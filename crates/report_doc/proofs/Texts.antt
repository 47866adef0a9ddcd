-- The texts of cycles, cut out of one list.
use Rattle.std.proofs.Common.{◌≡◌, ℕ, ◌+◌, ◌-◌, ◌<◌, ◌≤◌, List, [], ◌∷◌, ◌++◌, length, get_or, drop, ap, ap₂, subst, sym, ◌∙◌, arith, length-append}
use Rattle.std.specs.Prelude.{slice_range}
use Rattle.std.proofs.lemmas.List.{get_or-take, get_or-drop, length-drop, length-take-le}
use Rattle.loc_base.specs.Rows.{cut, EndsAscend}
use Rattle.loc_base.proofs.Cut.{length-cut, start-le, end-le, get_or-cut, cut-push, EndsAscend-push}

length-slice_range : {T : Type 0} (items : List T) (a b : ℕ) → a ≤ b → b ≤ length items → length (slice_range items a b) ≡ b - a
length-slice_range items a b le within = length-take-le (b - a) (drop a items) (omega (arith, length-drop a items))

get_or-slice_range : {T : Type 0} (items : List T) (a b j : ℕ) (d : T) → j < b - a → get_or (slice_range items a b) j d ≡ get_or items (a + j) d
get_or-slice_range items a b j d lt = get_or-take (b - a) (drop a items) j d lt ∙ get_or-drop a items j d

-- how many texts a cycle has
pub length-row : {T : Type 0} (items : List T) (ends : List ℕ) (i : ℕ) → EndsAscend 0 ends (length items) → i < length ends → length (get_or (cut items 0 ends) i []) ≡ get_or ends i 0 - get_or (0 ∷ ends) i 0
length-row items ends i h lt =
    ap length (get_or-cut items 0 ends i [] lt) ∙ length-slice_range items (get_or (0 ∷ ends) i 0) (get_or ends i 0) (start-le 0 ends (length items) i h lt) (end-le 0 ends (length items) i h lt)

-- where a text of a cycle stands
pub get_or-row : {T : Type 0} (items : List T) (ends : List ℕ) (i j : ℕ) (d : T) → EndsAscend 0 ends (length items) → i < length ends → j < length (get_or (cut items 0 ends) i []) → get_or (get_or (cut items 0 ends) i []) j d ≡ get_or items (get_or (0 ∷ ends) i 0 + j) d
get_or-row items ends i j d h lt in_row =
    let row = get_or-cut items 0 ends i [] lt in
    let within : j < get_or ends i 0 - get_or (0 ∷ ends) i 0 = omega (arith, in_row, length-row items ends i h lt) in
    ap (λ r. get_or r j d) row ∙ get_or-slice_range items (get_or (0 ∷ ends) i 0) (get_or ends i 0) j d within

-- what one more cycle leaves
pub one_more : {T : Type 0} (items row all : List T) (ends last : List ℕ) → EndsAscend 0 ends (length items) → all ≡ items ++ row → last ≡ ends ++ length all ∷ [] → EndsAscend 0 last (length all) × (cut all 0 last ≡ cut items 0 ends ++ row ∷ [])
one_more items row all ends last h is e =
    let size : length all ≡ length items + length row = ap length is ∙ length-append items row in
    let ascend = EndsAscend-push 0 ends (length items) (length all) h (omega (arith, size)) in
    (subst (λ l. EndsAscend 0 l (length all)) (sym e) ascend, ap₂ (λ a l. cut a 0 l) is (e ∙ ap (λ n. ends ++ n ∷ []) size) ∙ cut-push items row ends h)

pub ruleset texts = (length-cut, start-le, end-le, get_or-cut, cut-push, EndsAscend-push)

-- The lines of the places of a cycle.
use Rattle.std.proofs.Common.{◌≡◌, ◌≢◌, ◌<◌, ◌+◌, ◌^◌, ℕ, Bool, true, false, List, [], ◌∷◌, ◌++◌, length, get_or, take, map, ap, sym, ◌∙◌, refl, Some, None, Option, option_map, append_assoc, arith}
use Rattle.std.specs.Prelude.{◌==◌, if◌then◌else◌, filter_map, option_and_then, option_to_list}
use Rattle.std.specs.List.{cons_option}
use Rattle.std.proofs.lemmas.Bool.{cond-true, cond-false, eq-eqb, ne_eqb}
use Rattle.std.proofs.lemmas.List.{append-nil, map-append}
use Rattle.std.proofs.lemmas.List.Elements.{filter_map-append}
use Rattle.std.proofs.lemmas.Option.{get_or_from_slice_get, slice_get-get_or}
use Rattle.loc_base.proofs.ShelfLists.{take-at}
use Rattle.design_core.specs.After.{Choice}
use Rattle.design_core.specs.Valuation.{Valuation}
use Rattle.changes.specs.Execution.{Execution, computes_at, executed}
use Rattle.change_lines.specs.Lines.{ChangeLine, Site, change_at, change_line, change_text, differing_line}

-- ---- one place
texts_of : List (List ℕ) → Option ChangeLine → List (List ℕ)
texts_of old o = old ++ map change_text (option_to_list o)

pub lines-none : (s : Site) (A : Choice) (V : Valuation) (p : ℕ) (old : List (List ℕ)) → None ≡ executed s.design A V p
    → old ≡ old ++ map change_text (option_to_list (change_at s A V p))
lines-none s A V p old is =
    sym (append-nil old) ∙ ap (λ o. old ++ map change_text (option_to_list (option_and_then (differing_line s p (A.chosen p)) o))) is

pub lines-same : (s : Site) (A : Choice) (V : Valuation) (p : ℕ) (e : Execution) (old : List (List ℕ)) → Some e ≡ executed s.design A V p
    → computes_at s.design p e ≡ A.chosen p → old ≡ old ++ map change_text (option_to_list (change_at s A V p))
lines-same s A V p e old is same =
    sym (append-nil old)
    ∙ ap (λ o. old ++ map change_text (option_to_list o))
    (sym (cond-true (computes_at s.design p e == A.chosen p) None (Some (change_line s p e (A.chosen p))) (eq-eqb (computes_at s.design p e) (A.chosen p) same))
    ∙ ap (option_and_then (differing_line s p (A.chosen p))) is)

pub lines-other : (s : Site) (A : Choice) (V : Valuation) (p : ℕ) (e : Execution) (old new : List (List ℕ)) (line : List ℕ)
    → Some e ≡ executed s.design A V p → computes_at s.design p e ≢ A.chosen p
    → line ≡ change_text (change_line s p e (A.chosen p)) → new ≡ old ++ line ∷ []
    → new ≡ old ++ map change_text (option_to_list (change_at s A V p))
lines-other s A V p e old new line is other text more =
    more ∙ ap (λ l. old ++ l ∷ []) text
    ∙ ap (λ o. old ++ map change_text (option_to_list o))
    (sym (cond-false (computes_at s.design p e == A.chosen p) None (Some (change_line s p e (A.chosen p))) (ne_eqb (computes_at s.design p e) (A.chosen p) other))
    ∙ ap (option_and_then (differing_line s p (A.chosen p))) is)

-- ---- one place after another
single : {X Y : Type 0} (f : X → Option Y) (x : X) → filter_map f (x ∷ []) ≡ option_to_list (f x)
single {Y = Y} f x = at (f x)
  where
    at : (o : Option Y) → cons_option o [] ≡ option_to_list o
    at None = refl
    at (Some y) = refl

pub lines-more : {X Y : Type 0} (f : X → Option Y) (g : Y → List ℕ) (xs : List X) (i : ℕ) (x : X) (old now new : List (List ℕ))
    → i < length xs → x ≡ get_or xs i x
    → now ≡ old ++ map g (filter_map f (take i xs)) → new ≡ now ++ map g (option_to_list (f x))
    → new ≡ old ++ map g (filter_map f (take (i + 1) xs))
lines-more f g xs i x old now new low is so_far more =
    more ∙ ap (λ ls. ls ++ map g (option_to_list (f x))) so_far
    ∙ append_assoc old (map g (filter_map f (take i xs))) (map g (option_to_list (f x)))
    ∙ ap (λ ls. old ++ ls)
    (sym (map-append g (filter_map f (take i xs)) (option_to_list (f x)))
    ∙ ap (map g) (ap (λ ls. filter_map f (take i xs) ++ ls) (sym (single f x)) ∙ sym (filter_map-append f (take i xs) (x ∷ []))
    ∙ ap (filter_map f) (sym (take-at xs i x low is))))

pub places-more : (s : Site) (A : Choice) (V : Valuation) (places : List ℕ) (i : ℕ) (old now new : List (List ℕ)) → i < length places
    → now ≡ old ++ map change_text (filter_map (change_at s A V) (take i places))
    → new ≡ now ++ map change_text (option_to_list (change_at s A V (get_or places i 0)))
    → new ≡ old ++ map change_text (filter_map (change_at s A V) (take (i + 1) places))
places-more s A V places i old now new low so_far more =
    let p : ℕ = get_or places i 0 in
    lines-more (change_at s A V) change_text places i p old now new low
    (sym (get_or_from_slice_get places i p p (slice_get-get_or places i 0 low))) so_far more

-- A name is found among the first entries of each name as among all.
use Rattle.std.proofs.Common.{◌≡◌, ℕ, Bool, true, false, List, [], ◌∷◌, ◌++◌, Option, Some, None, is_some, refl, sym, ap, ◌∙◌}
use Rattle.std.specs.Prelude.{if◌then◌else◌}
use Rattle.std.specs.Option.{option_or}
use Rattle.std.proofs.lemmas.Slice.Eq.{bytes_eq-Decides}
use Rattle.v_hierarchy.specs.Names.{Entry, Standing, same_name, find}
use Rattle.bind_signals.specs.Firsts.{firsts, firsts_behind}

find-push : (q : List ℕ) (es : List Entry) (e : Entry) → find q (es ++ e ∷ []) ≡ option_or (find q es) (if same_name e.name.name q then Some e.standing else None)
find-push q [] e = refl
find-push q (x ∷ xs) e = step (same_name x.name.name q) (find-push q xs e)
  where
    step : (same : Bool) → find q (xs ++ e ∷ []) ≡ option_or (find q xs) (if same_name e.name.name q then Some e.standing else None)
        → (if same then Some x.standing else find q (xs ++ e ∷ [])) ≡ option_or (if same then Some x.standing else find q xs) (if same_name e.name.name q then Some e.standing else None)
    step true is = refl
    step false is = is

-- one more, if its name is new
find-maybe : (q : List ℕ) (before : List Entry) (e : Entry)
    → find q (if is_some (find e.name.name before) then before else before ++ e ∷ []) ≡ option_or (find q before) (if same_name e.name.name q then Some e.standing else None)
find-maybe q before e = step (find e.name.name before) refl
  where
    kept : (o : Option Standing) (same : Bool) → same_name e.name.name q ≡ same → (own : Option Standing) → own ≡ find e.name.name before → is_some own ≡ true
        → find q before ≡ o → o ≡ option_or o (if same then Some e.standing else None)
    kept (Some s) same at own is some found = refl
    kept None false at own is some found = refl
    kept None true at None is some found = cc
    kept None true at (Some s) is some found =
        let here : find q before ≡ Some s = sym (ap (λ n. find n before) ((bytes_eq-Decides e.name.name q).0 at)) ∙ sym is in
        let e : Some s ≡ None = sym here ∙ found in cc

    step : (own : Option Standing) → find e.name.name before ≡ own
        → find q (if is_some own then before else before ++ e ∷ []) ≡ option_or (find q before) (if same_name e.name.name q then Some e.standing else None)
    step (Some s) is = kept (find q before) (same_name e.name.name q) refl (Some s) (sym is) refl refl
    step None is = find-push q before e

find-behind : (q : List ℕ) (before es : List Entry) → find q (firsts_behind before es) ≡ option_or (find q before) (find q es)
find-behind q before [] = step (find q before)
  where
    step : (o : Option Standing) → o ≡ option_or o None
    step None = refl
    step (Some s) = refl
find-behind q before (e ∷ es) =
    find-behind q (if is_some (find e.name.name before) then before else before ++ e ∷ []) es
    ∙ ap (λ o. option_or o (find q es)) (find-maybe q before e)
    ∙ step (find q before) (same_name e.name.name q)
  where
    step : (o : Option Standing) (same : Bool)
        → option_or (option_or o (if same then Some e.standing else None)) (find q es) ≡ option_or o (if same then Some e.standing else find q es)
    step None true = refl
    step None false = refl
    step (Some s) same = refl

pub find-firsts : (q : List ℕ) (es : List Entry) → find q (firsts es) ≡ find q es
find-firsts q es = find-behind q [] es

-- Names of a scope by their places: found, declared, and declared once more.
use Rattle.std.proofs.Common.{◌≡◌, ℕ, zero, suc, ◌<◌, Bool, true, false, List, [], ◌∷◌, ◌++◌, length, Option, Some, None, refl, sym, ap, ◌∙◌, arith, subst}
use Rattle.std.specs.Prelude.{if◌then◌else◌, option_map, slice_get, slice_set, Result, Ok, Err}
use Rattle.std.proofs.lemmas.Option.{none-some}
use Rattle.std.proofs.lemmas.Slice.Eq.{bytes_eq-Decides}
use Rattle.loc_base.proofs.ShelfOptions.{option_map-none}
use Rattle.v_hierarchy.specs.declared.error.ElabErr.{ElabErr}
use Rattle.v_hierarchy.specs.declared.error.ElabErr.TheVariants as fault
use Rattle.v_hierarchy.specs.Names.{Entry, Standing, same_name, find, again, declared}
use Rattle.v_hierarchy.specs.Places.{place_of}

-- ---- options
record Below (o : Option ℕ) (k : ℕ) : Type 0 where
  place : ℕ
  is : o ≡ Some place
  next : suc place ≡ k

suc-some : (o : Option ℕ) (k : ℕ) → option_map suc o ≡ Some k → Below o k
suc-some None k e = absurd (none-some k e)
suc-some (Some j) k e = let same : suc j ≡ k = cc in record { place = j; is = refl; next = same }

-- ---- declared, as these
abbrev pub behind : Entry → Result (List Entry) ElabErr → Result (List Entry) ElabErr
behind old (Ok more) = Ok (old ∷ more)
behind old (Err e) = Err e

abbrev pub both_of : Entry → Entry → List Entry → Option Standing → Result (List Entry) ElabErr
both_of old new rest (Some both) = Ok (record { name = old.name; standing = both } ∷ rest)
both_of old new rest None = Err (fault.DoubleName new.name.site.span)

pub declared-is : (new old : Entry) (rest : List Entry)
    → declared new (old ∷ rest) ≡ (if same_name old.name.name new.name.name then both_of old new rest (again old.standing new.standing) else behind old (declared new rest))
declared-is new old rest = cases (same_name old.name.name new.name.name) (again old.standing new.standing) (declared new rest)
  where
    cases : (same : Bool) (both : Option Standing) (more : Result (List Entry) ElabErr)
        → (if same then elim both [
          | Some both ↦ Ok (record { name = old.name; standing = both } ∷ rest)
          | None ↦ Err (fault.DoubleName new.name.site.span)
        ] else elim more [
          | Ok more ↦ Ok (old ∷ more)
          | Err e ↦ Err e
        ]) ≡ (if same then both_of old new rest both else behind old more)
    cases true None more = refl
    cases true (Some both) more = refl
    cases false both (Ok more) = refl
    cases false both (Err e) = refl

-- ---- a name that isn't there
pub declared-new : (new : Entry) (es : List Entry) → place_of new.name.name es ≡ None → declared new es ≡ Ok (es ++ new ∷ [])
declared-new new [] none = refl
declared-new new (old ∷ rest) none = declared-is new old rest ∙ step (same_name old.name.name new.name.name) none (declared-new new rest)
  where
    step : (same : Bool) → (if same then Some 0 else option_map suc (place_of new.name.name rest)) ≡ None
        → (place_of new.name.name rest ≡ None → declared new rest ≡ Ok (rest ++ new ∷ []))
        → (if same then both_of old new rest (again old.standing new.standing) else behind old (declared new rest)) ≡ Ok (old ∷ rest ++ new ∷ [])
    step true e more = absurd (none-some 0 (sym e))
    step false e more = ap (behind old) (more (option_map-none suc (place_of new.name.name rest) e))

-- ---- one that is
abbrev pub put : List Entry → ℕ → Entry → Entry → Option Standing → Result (List Entry) ElabErr
put es k old new (Some both) = Ok (slice_set es k (record { name = old.name; standing = both }))
put es k old new None = Err (fault.DoubleName new.name.site.span)

put-first : (old new : Entry) (rest : List Entry) (both : Option Standing) → both_of old new rest both ≡ put (old ∷ rest) 0 old new both
put-first old new rest None = refl
put-first old new rest (Some both) = refl

put-behind : (first old new : Entry) (rest : List Entry) (j : ℕ) (both : Option Standing) → behind first (put rest j old new both) ≡ put (first ∷ rest) (suc j) old new both
put-behind first old new rest j None = refl
put-behind first old new rest j (Some both) = refl

pub declared-met : (new old : Entry) (es : List Entry) (k : ℕ) → place_of new.name.name es ≡ Some k → slice_get es k ≡ Some old
    → declared new es ≡ put es k old new (again old.standing new.standing)
declared-met new old [] k e at = absurd (none-some k e)
declared-met new old (first ∷ rest) k e at = declared-is new first rest ∙ step (same_name first.name.name new.name.name) k e at (declared-met new old rest)
  where
    head : (first ≡ old) → both_of first new rest (again first.standing new.standing) ≡ put (first ∷ rest) 0 old new (again old.standing new.standing)
    head same = subst (λ (x : Entry). both_of first new rest (again first.standing new.standing) ≡ put (first ∷ rest) 0 x new (again x.standing new.standing)) same (put-first first new rest (again first.standing new.standing))

    tail : (j k : ℕ) → suc j ≡ k → declared new rest ≡ put rest j old new (again old.standing new.standing)
        → behind first (declared new rest) ≡ put (first ∷ rest) k old new (again old.standing new.standing)
    tail j k same is =
        ap (behind first) is ∙ put-behind first old new rest j (again old.standing new.standing)
        ∙ ap (λ i. put (first ∷ rest) i old new (again old.standing new.standing)) same

    step : (same : Bool) (k : ℕ) → (if same then Some 0 else option_map suc (place_of new.name.name rest)) ≡ Some k → slice_get (first ∷ rest) k ≡ Some old
        → ((j : ℕ) → place_of new.name.name rest ≡ Some j → slice_get rest j ≡ Some old → declared new rest ≡ put rest j old new (again old.standing new.standing))
        → (if same then both_of first new rest (again first.standing new.standing) else behind first (declared new rest)) ≡ put (first ∷ rest) k old new (again old.standing new.standing)
    step true zero e at more = let same : first ≡ old = cc in head same
    step true (suc k) e at more = let same : 0 ≡ suc k = cc in absurd (omega (arith, same))
    step false k e at more =
        let b = suc-some (place_of new.name.name rest) k e in
        tail b.place k b.next (more b.place b.is (subst (λ i. slice_get (first ∷ rest) i ≡ Some old) (sym b.next) at))

-- ---- places after a declaration
pub place-push : (name : List ℕ) (new : Entry) (es : List Entry) → place_of new.name.name es ≡ None
    → place_of name (es ++ new ∷ []) ≡ (if same_name new.name.name name then Some (length es) else place_of name es)
place-push name new [] none = refl
place-push name new (e ∷ es) none =
    step (same_name e.name.name name) (same_name new.name.name name) (same_name e.name.name new.name.name) apart none (place-push name new es)
  where
    apart : same_name e.name.name name ≡ true → same_name new.name.name name ≡ true → same_name e.name.name new.name.name ≡ true
    apart p q = (bytes_eq-Decides e.name.name new.name.name).1 ((bytes_eq-Decides e.name.name name).0 p ∙ sym ((bytes_eq-Decides new.name.name name).0 q))

    step : (p q r : Bool) → (p ≡ true → q ≡ true → r ≡ true) → (if r then Some 0 else option_map suc (place_of new.name.name es)) ≡ None
        → (place_of new.name.name es ≡ None → place_of name (es ++ new ∷ []) ≡ (if q then Some (length es) else place_of name es))
        → (if p then Some 0 else option_map suc (place_of name (es ++ new ∷ []))) ≡ (if q then Some (suc (length es)) else if p then Some 0 else option_map suc (place_of name es))
    step true true true apart none more = absurd (none-some 0 (sym none))
    step true true false apart none more = let e : false ≡ true = apart refl refl in cc
    step true false r apart none more = refl
    step false q true apart none more = absurd (none-some 0 (sym none))
    step false true false apart none more = ap (option_map suc) (more (option_map-none suc (place_of new.name.name es) none))
    step false false false apart none more = ap (option_map suc) (more (option_map-none suc (place_of new.name.name es) none))

pub place-set : (name : List ℕ) (old : Entry) (both : Standing) (es : List Entry) (k : ℕ) → slice_get es k ≡ Some old
    → place_of name (slice_set es k (record { name = old.name; standing = both })) ≡ place_of name es
place-set name old both [] k at = absurd (none-some old at)
place-set name old both (e ∷ es) zero at =
    let same : old ≡ e = cc in
    ap (λ (x : Entry). if same_name x.name.name name then Some 0 else option_map suc (place_of name es)) same
place-set name old both (e ∷ es) (suc k) at = ap (λ o. if same_name e.name.name name then Some 0 else option_map suc o) (place-set name old both es k at)

pub place-within : (name : List ℕ) (es : List Entry) (k : ℕ) → place_of name es ≡ Some k → k < length es
place-within name [] k e = absurd (none-some k e)
place-within name (x ∷ es) k e = step (same_name x.name.name name) k e (place-within name es)
  where
    step : (same : Bool) (k : ℕ) → (if same then Some 0 else option_map suc (place_of name es)) ≡ Some k → ((j : ℕ) → place_of name es ≡ Some j → j < length es) → k < suc (length es)
    step true k e more = let same : 0 ≡ k = cc in omega (arith, same)
    step false k e more = let b = suc-some (place_of name es) k e in omega (arith, more b.place b.is, b.next)

-- ---- what is found
pub find-none : (name : List ℕ) (es : List Entry) → place_of name es ≡ None → find name es ≡ None
find-none name [] e = refl
find-none name (x ∷ es) e = step (same_name x.name.name name) e (find-none name es)
  where
    step : (same : Bool) → (if same then Some 0 else option_map suc (place_of name es)) ≡ None → (place_of name es ≡ None → find name es ≡ None)
        → (if same then Some x.standing else find name es) ≡ None
    step true e more = absurd (none-some 0 (sym e))
    step false e more = more (option_map-none suc (place_of name es) e)

pub find-some : (name : List ℕ) (es : List Entry) (k : ℕ) (found : Entry) → place_of name es ≡ Some k → slice_get es k ≡ Some found → find name es ≡ Some found.standing
find-some name [] k found e at = absurd (none-some k e)
find-some name (x ∷ es) k found e at = step (same_name x.name.name name) k e at (λ j. find-some name es j found)
  where
    step : (same : Bool) (k : ℕ) → (if same then Some 0 else option_map suc (place_of name es)) ≡ Some k → slice_get (x ∷ es) k ≡ Some found
        → ((j : ℕ) → place_of name es ≡ Some j → slice_get es j ≡ Some found → find name es ≡ Some found.standing)
        → (if same then Some x.standing else find name es) ≡ Some found.standing
    step true zero e at more = let same : x ≡ found = cc in ap (λ (y : Entry). Some y.standing) same
    step true (suc k) e at more = let same : 0 ≡ suc k = cc in absurd (omega (arith, same))
    step false k e at more =
        let b = suc-some (place_of name es) k e in
        more b.place b.is (subst (λ i. slice_get (x ∷ es) i ≡ Some found) (sym b.next) at)

-- a name that isn't found has no place
pub place-none : (name : List ℕ) (es : List Entry) → find name es ≡ None → place_of name es ≡ None
place-none name [] e = refl
place-none name (x ∷ es) e = step (same_name x.name.name name) e (place-none name es)
  where
    step : (same : Bool) → (if same then Some x.standing else find name es) ≡ None → (find name es ≡ None → place_of name es ≡ None)
        → (if same then Some 0 else option_map suc (place_of name es)) ≡ None
    step true e more = absurd (none-some x.standing (sym e))
    step false e more = ap (option_map suc) (more e)

pub declared-fresh : (new : Entry) (es : List Entry) → find new.name.name es ≡ None → declared new es ≡ Ok (es ++ new ∷ [])
declared-fresh new es none = declared-new new es (place-none new.name.name es none)

-- A scope's names in code: their table after a declaration, and the steps of a declaration by what the table tells.
use Rattle.std.proofs.Common.{◌≡◌, ℕ, zero, suc, ◌<◌, List, [], ◌∷◌, ◌++◌, map, length, get_or, Option, Some, None, refl, sym, ap, ◌∙◌, arith, nat_eq}
use Rattle.std.specs.Prelude.{if◌then◌else◌, slice_get, slice_set, Ok, Err}
use Rattle.std.specs.Cmp.Lexicographic.{pointwise}
use Rattle.std.proofs.lemmas.List.{map-append, length-map}
use Rattle.std.proofs.lemmas.Option.{none-some}
use Rattle.loc_base.proofs.ShelfLists.{slice_get-at}
use Rattle.v_hierarchy.specs.declared.error.ElabErr.TheVariants as fault
use Rattle.v_hierarchy.specs.declared.standing.Standing.{Standing}
use Rattle.v_hierarchy.specs.declared.standing.Entry.{Entry}
use Rattle.v_sizes.specs.Context.{IsMeaning}
use Rattle.v_hierarchy.specs.Names.{again, declared, find, meaning_of}
use Rattle.v_hierarchy.specs.Stands.{Stands}
use Rattle.v_hierarchy.specs.Places.{place_of, with_place}
use Rattle.v_hierarchy.specs.Views.{entry_of, standing_of}
use Rattle.v_hierarchy.proofs.FrameLaws.{declared-met, declared-fresh, find-some, place-push, place-set, place-within, put}
use Rattle.v_hierarchy.proofs.DeclaredLaws.{stands-declared}

get-map : {X Y : Type 0} (f : X → Y) (xs : List X) (k : ℕ) (x : X) → slice_get xs k ≡ Some x → slice_get (map f xs) k ≡ Some (f x)
get-map f [] k x e = absurd (none-some x e)
get-map f (y ∷ ys) zero x e = let same : y ≡ x = cc in ap (λ z. Some (f z)) same
get-map f (y ∷ ys) (suc k) x e = get-map f ys k x e

set-map : {X Y : Type 0} (f : X → Y) (xs : List X) (k : ℕ) (x : X) → map f (slice_set xs k x) ≡ slice_set (map f xs) k (f x)
set-map f [] k x = refl
set-map f (y ∷ ys) zero x = refl
set-map f (y ∷ ys) (suc k) x = ap (λ l. f y ∷ l) (set-map f ys k x)

-- what a look into the table tells
pub found : (places : List ℕ → Option ℕ) (es : List Entry) (bytes name : List ℕ) (r : Option ℕ) → bytes ≡ name → r ≡ places bytes
    → ((q : List ℕ) → places q ≡ place_of q (map entry_of es)) → place_of name (map entry_of es) ≡ r
found places es bytes name r same is tells = sym (tells name) ∙ ap places (sym same) ∙ sym is

pub found-within : (es : List Entry) (name : List ℕ) (k : ℕ) → place_of name (map entry_of es) ≡ Some k → k < length es
found-within es name k at = omega (arith, place-within name (map entry_of es) k at, length-map es entry_of)

-- the table after a new name
pub pushed : (old new : List ℕ → Option ℕ) (es after : List Entry) (e : Entry) (n : ℕ) (bytes : List ℕ) → bytes ≡ e.name.now.name → n ≡ length es
    → after ≡ es ++ e ∷ [] → place_of e.name.now.name (map entry_of es) ≡ None → ((q : List ℕ) → old q ≡ place_of q (map entry_of es))
    → ((q : List ℕ) → new q ≡ with_place bytes n old q) → (q : List ℕ) → new q ≡ place_of q (map entry_of after)
pushed old new es after e n bytes same long is none tells put q =
    put q ∙ ap (λ b. with_place b n old q) same ∙ ap (λ i. with_place e.name.now.name i old q) (long ∙ sym (length-map es entry_of))
    ∙ ap (λ o. if pointwise nat_eq e.name.now.name q then Some (length (map entry_of es)) else o) (tells q)
    ∙ sym (place-push q (entry_of e) (map entry_of es) none)
    ∙ ap (place_of q) (sym (map-append entry_of es (e ∷ []))) ∙ ap (λ l. place_of q (map entry_of l)) (sym is)

-- the steps of a declaration of a name that is there
module _ (es : List Entry) (k : ℕ) (old : Entry) (within : k < length es) (is : old ≡ get_or es k old) where
  at : slice_get (map entry_of es) k ≡ Some (entry_of old)
  at = get-map entry_of es k old (slice_get-at es k old within is)

  pub here : (name : List ℕ) → place_of name (map entry_of es) ≡ Some k → find name (map entry_of es) ≡ Some (standing_of old.standing)
  here name place = find-some name (map entry_of es) k (entry_of old) place at

  pub refused : (new : Entry) → place_of new.name.now.name (map entry_of es) ≡ Some k → again (standing_of old.standing) (standing_of new.standing) ≡ None
      → declared (entry_of new) (map entry_of es) ≡ Err (fault.DoubleName new.name.now.site.span)
  refused new place none =
      declared-met (entry_of new) (entry_of old) (map entry_of es) k place at ∙ ap (put (map entry_of es) k (entry_of old) (entry_of new)) none

  pub replaced : (new : Entry) (both : Standing) → place_of new.name.now.name (map entry_of es) ≡ Some k
      → again (standing_of old.standing) (standing_of new.standing) ≡ Some (standing_of both)
      → declared (entry_of new) (map entry_of es) ≡ Ok (map entry_of (slice_set es k (record { name = old.name; standing = both })))
  replaced new both place some =
      declared-met (entry_of new) (entry_of old) (map entry_of es) k place at ∙ ap (put (map entry_of es) k (entry_of old) (entry_of new)) some
      ∙ ap Ok (sym (set-map entry_of es k (record { name = old.name; standing = both })))

  pub still-tells : (both : Standing) (places : List ℕ → Option ℕ) → ((q : List ℕ) → places q ≡ place_of q (map entry_of es)) → (q : List ℕ)
      → places q ≡ place_of q (map entry_of (slice_set es k (record { name = old.name; standing = both })))
  still-tells both places tells q =
      tells q ∙ sym (place-set q (entry_of old) (standing_of both) (map entry_of es) k at)
      ∙ ap (place_of q) (sym (set-map entry_of es k (record { name = old.name; standing = both })))

-- every name stands for something after a new name
pub pushed-stands : (es after : List Entry) (e : Entry) → after ≡ es ++ e ∷ [] → find e.name.now.name (map entry_of es) ≡ None
    → IsMeaning (meaning_of (standing_of e.standing)) → Stands (map entry_of es) → Stands (map entry_of after)
pushed-stands es after e is none one all =
    stands-declared (entry_of e) (map entry_of es) (map entry_of after) one all
    (declared-fresh (entry_of e) (map entry_of es) none ∙ ap Ok (sym (map-append entry_of es (e ∷ []))) ∙ ap (λ l. Ok (map entry_of l)) (sym is))

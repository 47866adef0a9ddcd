-- The lists of the clauses of at most three literals, growing or in one piece.
use Rattle.std.proofs.Common.{◌≡◌, ℕ, zero, suc, ◌+◌, ◌<◌, ◌≤◌, List, [], ◌∷◌, ◌++◌, length, map, get_or, take, refl, sym, ap, ◌∙◌, arith}
use Rattle.std.specs.Prelude.{slice_index_or}
use Rattle.std.proofs.lemmas.List.{length-map, get_or-map, take_more, take_all}
use Rattle.clause_base.specs.declared.literal.Lit.{Lit}
use Rattle.trail_core.specs.declared.short_list.Short.{Short}
use Rattle.trail_core.specs.declared.shorts.Shorts.{Shorts}
use Rattle.trail_core.specs.ShortListing.{ShortListing, no_shorts, full_list, lists_in}
use Rattle.trail_core.specs.Watching.{code_of}
use Rattle.trail_core.specs.Shorts.{lists_of, shorts_of, SameShorts, SameLists}

-- the clauses of a list
abbrev pub listed_in : ShortListing → List Short
listed_in s = s.clauses

-- where none are in one piece
pub growing_count : (s : Shorts) → s.flat ≡ [] → lists_of s ≡ s.growing.items
growing_count s e = ap (λ r. lists_in r s.growing.items) e

-- where some are
pub flat_within : (rows : List (List Short)) (growing : List ShortListing) (i : ℕ) → (rows ≡ [] → ⊥) → i < length (lists_in rows growing) → i < length rows
flat_within [] growing i n l = absurd (n refl)
flat_within (r ∷ rows) growing i n l = omega (arith, l, length-map (r ∷ rows) full_list)

pub flat_row : (rows : List (List Short)) (growing : List ShortListing) (i : ℕ) → (rows ≡ [] → ⊥) → i < length (lists_in rows growing) → slice_index_or rows i [] ≡ (get_or (lists_in rows growing) i no_shorts).clauses
flat_row [] growing i n l = absurd (n refl)
flat_row (r ∷ rows) growing i n l = sym (ap listed_in (get_or-map full_list (r ∷ rows) i [] no_shorts (flat_within (r ∷ rows) growing i n l)))

-- growing lists with the same clauses
in_size : (rows : List (List Short)) (a b : List ShortListing) → length b ≡ length a → length (lists_in rows b) ≡ length (lists_in rows a)
in_size [] a b e = e
in_size (r ∷ rows) a b e = refl

in_same : (rows : List (List Short)) (a b : List ShortListing) (l : Lit) → shorts_of b l ≡ shorts_of a l → shorts_of (lists_in rows b) l ≡ shorts_of (lists_in rows a) l
in_same [] a b l e = e
in_same (r ∷ rows) a b l e = refl

pub same_lists : (old new : Shorts) → SameShorts old new → SameLists old new
same_lists old new s = record {
  fixed = s.fixed;
  size = ap (λ r. length (lists_in r new.growing.items)) s.flat ∙ in_size old.flat old.growing.items new.growing.items s.size;
  same = λ l. ap (λ r. shorts_of (lists_in r new.growing.items) l) s.flat ∙ in_same old.flat old.growing.items new.growing.items l (s.same l);
}

pub unchanged : (s : Shorts) → SameLists s s
unchanged s = record { fixed = refl; size = refl; same = λ l. refl }

-- the growing lists were copied
copied_size : (ls : List ShortListing) → length (lists_in (map listed_in ls) []) ≡ length ls
copied_size [] = refl
copied_size (x ∷ xs) = length-map (map listed_in (x ∷ xs)) full_list ∙ length-map (x ∷ xs) listed_in

copied_at : (ls : List ShortListing) (i : ℕ) → (get_or (map full_list (map listed_in ls)) i no_shorts).clauses ≡ (get_or ls i no_shorts).clauses
copied_at [] i = refl
copied_at (x ∷ xs) zero = refl
copied_at (x ∷ xs) (suc i) = copied_at xs i

copied_list : (ls : List ShortListing) (i : ℕ) → (get_or (lists_in (map listed_in ls) []) i no_shorts).clauses ≡ (get_or ls i no_shorts).clauses
copied_list [] i = refl
copied_list (x ∷ xs) i = copied_at (x ∷ xs) i

pub flattened : (old new : Shorts) → new.fixed ≡ old.fixed → old.flat ≡ [] → new.flat ≡ map listed_in old.growing.items → new.growing.items ≡ [] → SameLists old new
flattened old new f e r g = record {
  fixed = f;
  size = ap length is ∙ (copied_size old.growing.items ∙ sym (ap length (growing_count old e)));
  same = λ l. ap (λ ls. shorts_of ls l) is ∙ (copied_list old.growing.items (code_of l) ∙ sym (ap (λ ls. shorts_of ls l) (growing_count old e)));
}
  where
    is : lists_of new ≡ lists_in (map listed_in old.growing.items) []
    is = ap (λ x. lists_in x new.growing.items) r ∙ ap (lists_in (map listed_in old.growing.items)) g

-- one list more was copied
map_push : (xs : List ShortListing) (x : ShortListing) → map listed_in (xs ++ x ∷ []) ≡ map listed_in xs ++ x.clauses ∷ []
map_push [] x = refl
map_push (y ∷ ys) x = ap (λ zs. y.clauses ∷ zs) (map_push ys x)

pub rows_more : (ls : List ShortListing) (k : ℕ) (d : ShortListing) → k < length ls → map listed_in (take (k + 1) ls) ≡ map listed_in (take k ls) ++ (get_or ls k d).clauses ∷ []
rows_more ls k d l = ap (map listed_in) (take_more ls k d l) ∙ map_push (take k ls) (get_or ls k d)

pub rows_all : (ls : List ShortListing) (k : ℕ) → length ls ≤ k → map listed_in (take k ls) ≡ map listed_in ls
rows_all ls k l = ap (map listed_in) (take_all k ls l)

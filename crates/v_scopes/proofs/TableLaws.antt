-- Names by their first places: a name more, and what stands at a name's place.
use Rattle.std.proofs.Common.{◌≡◌, ℕ, zero, suc, ◌+◌, ◌<◌, Bool, true, false, ◌||◌, List, [], ◌∷◌, ◌++◌, map, length, Option, Some, None, is_some, refl, sym, ap, ◌∙◌, arith}
use Rattle.std.specs.Prelude.{if◌then◌else◌, option_map, slice_get}
use Rattle.std.specs.Option.{option_or}
use Rattle.std.proofs.lemmas.List.{map-append, length-map}
use Rattle.std.proofs.lemmas.Option.{none-some}
use Rattle.std.proofs.lemmas.Slice.Eq.{bytes_eq-Decides}
use Rattle.loc_base.proofs.ShelfOptions.{option_map-none}
use Rattle.v_syntax.specs.declared.module.Module.{Module}
use Rattle.v_syntax.specs.declared.declaration.Identifier.{Identifier}
use Rattle.v_syntax.specs.ModuleTree.{PlainModule, module_of, name_ports}
use Rattle.v_sizes.specs.declared.meaning.Const.{Const}
use Rattle.v_hierarchy.specs.declared.instance.Given.{Given}
use Rattle.v_hierarchy.specs.Headers.{port_names}
use Rattle.v_hierarchy.specs.Items.{module_named}
use Rattle.v_hierarchy.specs.Names.{same_name}
use Rattle.v_hierarchy.specs.Parameters.{given, is_among}
use Rattle.v_hierarchy.specs.Places.{with_place}
use Rattle.v_hierarchy.specs.Views.{given_of}
use Rattle.v_scopes.specs.PlaceAmong.{place_among}

-- ---- names
same-back : (a b : List ℕ) (same : Bool) → same_name a b ≡ same → same_name b a ≡ same
same-back a b true same = (bytes_eq-Decides b a).1 (sym ((bytes_eq-Decides a b).0 same))
same-back a b false other = step (same_name b a) refl
  where
    step : (same : Bool) → same_name b a ≡ same → same_name b a ≡ false
    step true same = let e : true ≡ false = sym ((bytes_eq-Decides a b).1 (sym ((bytes_eq-Decides b a).0 same))) ∙ other in cc
    step false same = same

pub place_is_among : (name : List ℕ) (names : List (List ℕ)) → is_some (place_among name names) ≡ is_among name names
place_is_among name [] = refl
place_is_among name (x ∷ xs) =
    step (same_name x name) (place_among name xs) (is_among name xs) (place_is_among name xs)
    ∙ sym (ap (λ b. b || is_among name xs) (same-back x name (same_name x name) refl))
  where
    step : (same : Bool) (place : Option ℕ) (rest : Bool) → is_some place ≡ rest → is_some (if same then Some 0 else option_map suc place) ≡ (same || rest)
    step true place rest is = refl
    step false None rest is = is
    step false (Some k) rest is = is

-- a name more
place-push : (q name : List ℕ) (names : List (List ℕ))
    → place_among q (names ++ name ∷ []) ≡ option_or (place_among q names) (if same_name name q then Some (length names) else None)
place-push q name [] = refl
place-push q name (x ∷ xs) =
    ap (λ o. if same_name x q then Some 0 else option_map suc o) (place-push q name xs) ∙ step (same_name x q) (same_name name q) (place_among q xs)
  where
    step : (here last : Bool) (place : Option ℕ) → (if here then Some 0 else option_map suc (option_or place (if last then Some (length xs) else None)))
        ≡ option_or (if here then Some 0 else option_map suc place) (if last then Some (suc (length xs)) else None)
    step true last place = refl
    step false last (Some k) = refl
    step false true None = refl
    step false false None = refl

place-of-same : (q name : List ℕ) (names : List (List ℕ)) → same_name name q ≡ true → place_among q names ≡ place_among name names
place-of-same q name names same = sym (ap (λ n. place_among n names) ((bytes_eq-Decides name q).0 same))

pub place-pushed : (places after : List ℕ → Option ℕ) (name : List ℕ) (n : ℕ) (names more : List (List ℕ)) → more ≡ names ++ name ∷ [] → n ≡ length names
    → place_among name names ≡ None → ((q : List ℕ) → places q ≡ place_among q names) → ((q : List ℕ) → after q ≡ with_place name n places q)
    → (q : List ℕ) → after q ≡ place_among q more
place-pushed places after name n names more is long none tells put q =
    put q ∙ ap (λ k. if same_name name q then Some k else places q) long ∙ step (same_name name q) refl ∙ sym (place-push q name names) ∙ ap (place_among q) (sym is)
  where
    step : (same : Bool) → same_name name q ≡ same
        → (if same then Some (length names) else places q) ≡ option_or (place_among q names) (if same then Some (length names) else None)
    step true same = sym (ap (λ o. option_or o (Some (length names))) (place-of-same q name names same ∙ none))
    step false other = tells q ∙ none_more (place_among q names)
      where
        none_more : (o : Option ℕ) → o ≡ option_or o None
        none_more None = refl
        none_more (Some k) = refl

pub place-again : (places : List ℕ → Option ℕ) (name : List ℕ) (k : ℕ) (names more : List (List ℕ)) → more ≡ names ++ name ∷ []
    → place_among name names ≡ Some k → ((q : List ℕ) → places q ≡ place_among q names) → (q : List ℕ) → places q ≡ place_among q more
place-again places name k names more is there tells q =
    tells q ∙ step (same_name name q) refl ∙ sym (place-push q name names) ∙ ap (place_among q) (sym is)
  where
    step : (same : Bool) → same_name name q ≡ same → place_among q names ≡ option_or (place_among q names) (if same then Some (length names) else None)
    step true same =
        let is : place_among q names ≡ Some k = place-of-same q name names same ∙ there in
        is ∙ sym (ap (λ o. option_or o (Some (length names))) is)
    step false other = none_more (place_among q names)
      where
        none_more : (o : Option ℕ) → o ≡ option_or o None
        none_more None = refl
        none_more (Some k) = refl

pub names-push : {X : Type 0} (f : X → List ℕ) (xs after : List X) (x : X) → after ≡ xs ++ x ∷ [] → map f after ≡ map f xs ++ f x ∷ []
names-push f xs after x is = ap (map f) is ∙ map-append f xs (x ∷ [])

pub pushed-new : {X : Type 0} (f : X → List ℕ) (old new : List ℕ → Option ℕ) (xs after : List X) (x : X) (n : ℕ) (bytes : List ℕ) → bytes ≡ f x → n ≡ length xs
    → after ≡ xs ++ x ∷ [] → place_among (f x) (map f xs) ≡ None → ((q : List ℕ) → old q ≡ place_among q (map f xs))
    → ((q : List ℕ) → new q ≡ with_place bytes n old q) → (q : List ℕ) → new q ≡ place_among q (map f after)
pushed-new f old new xs after x n bytes same long is none tells put =
    place-pushed old new bytes n (map f xs) (map f after) (names-push f xs after x is ∙ ap (λ b. map f xs ++ b ∷ []) (sym same)) (long ∙ sym (length-map xs f))
    (ap (λ b. place_among b (map f xs)) same ∙ none) tells put

pub pushed-again : {X : Type 0} (f : X → List ℕ) (places : List ℕ → Option ℕ) (xs after : List X) (x : X) (k : ℕ) → after ≡ xs ++ x ∷ []
    → place_among (f x) (map f xs) ≡ Some k → ((q : List ℕ) → places q ≡ place_among q (map f xs)) → (q : List ℕ) → places q ≡ place_among q (map f after)
pushed-again f places xs after x k is there tells = place-again places (f x) k (map f xs) (map f after) (names-push f xs after x is) there tells

pub pushed-maybe : {X : Type 0} (f : X → List ℕ) (places : List ℕ → Option ℕ) (xs after : List X) (x : X) (k : ℕ) (pushed : Bool) → after ≡ (if pushed then xs ++ x ∷ [] else xs)
    → place_among (f x) (map f xs) ≡ Some k → ((q : List ℕ) → places q ≡ place_among q (map f xs)) → (q : List ℕ) → places q ≡ place_among q (map f after)
pushed-maybe f places xs after x k true is there tells q = pushed-again f places xs after x k is there tells q
pushed-maybe f places xs after x k false is there tells q = tells q ∙ ap (λ l. place_among q (map f l)) (sym is)

-- ---- what stands at a place
record Behind (o : Option ℕ) (k : ℕ) : Type 0 where
  place : ℕ
  is : o ≡ Some place
  next : suc place ≡ k

behind : (o : Option ℕ) (k : ℕ) → option_map suc o ≡ Some k → Behind o k
behind None k e = absurd (none-some k e)
behind (Some j) k e = let same : suc j ≡ k = cc in record { place = j; is = refl; next = same }

pub place-within : (name : List ℕ) (names : List (List ℕ)) (k : ℕ) → place_among name names ≡ Some k → k < length names
place-within name [] k e = absurd (none-some k e)
place-within name (x ∷ xs) k e = step (same_name x name) k e (place-within name xs)
  where
    step : (same : Bool) (k : ℕ) → (if same then Some 0 else option_map suc (place_among name xs)) ≡ Some k → ((j : ℕ) → place_among name xs ≡ Some j → j < length xs) → k < suc (length xs)
    step true k e more = let same : 0 ≡ k = cc in omega (arith, same)
    step false k e more = let b = behind (place_among name xs) k e in omega (arith, more b.place b.is, b.next)

-- what a look into a list of names tells of the list that it names
pub told : {X : Type 0} (f : X → List ℕ) (xs : List X) (names : List (List ℕ)) (name : List ℕ) (r o : Option ℕ) → names ≡ map f xs → r ≡ place_among name names → r ≡ o
    → place_among name (map f xs) ≡ o
told f xs names name r o same is found = ap (place_among name) (sym same) ∙ sym is ∙ found

pub told-within : {X : Type 0} (f : X → List ℕ) (xs : List X) (name : List ℕ) (k : ℕ) → place_among name (map f xs) ≡ Some k → k < length xs
told-within f xs name k place = omega (arith, place-within name (map f xs) k place, length-map xs f)

-- the first of a name, by what a list is looked through for
module _ {X Y : Type 0} (name_of : X → List ℕ) (value_of : X → Y) where
  abbrev pub first : List ℕ → List X → Option Y
  first name [] = None
  first name (x ∷ xs) = if same_name (name_of x) name then Some (value_of x) else first name xs

  pub first-none : (name : List ℕ) (xs : List X) → place_among name (map name_of xs) ≡ None → first name xs ≡ None
  first-none name [] e = refl
  first-none name (x ∷ xs) e = step (same_name (name_of x) name) e (first-none name xs)
    where
      step : (same : Bool) → (if same then Some 0 else option_map suc (place_among name (map name_of xs))) ≡ None
          → (place_among name (map name_of xs) ≡ None → first name xs ≡ None) → (if same then Some (value_of x) else first name xs) ≡ None
      step true e more = absurd (none-some 0 (sym e))
      step false e more = more (option_map-none suc (place_among name (map name_of xs)) e)

  pub first-some : (name : List ℕ) (xs : List X) (k : ℕ) (x : X) → place_among name (map name_of xs) ≡ Some k → slice_get xs k ≡ Some x → first name xs ≡ Some (value_of x)
  first-some name [] k x e at = absurd (none-some k e)
  first-some name (y ∷ xs) k x e at = step (same_name (name_of y) name) k e at (first-some name xs)
    where
      step : (same : Bool) (k : ℕ) → (if same then Some 0 else option_map suc (place_among name (map name_of xs))) ≡ Some k → slice_get (y ∷ xs) k ≡ Some x
          → ((j : ℕ) (z : X) → place_among name (map name_of xs) ≡ Some j → slice_get xs j ≡ Some z → first name xs ≡ Some (value_of z))
          → (if same then Some (value_of y) else first name xs) ≡ Some (value_of x)
      step true zero e at more = let same : y ≡ x = cc in ap (λ z. Some (value_of z)) same
      step true (suc k) e at more = let same : 0 ≡ suc k = cc in absurd (omega (arith, same))
      step false zero e at more = let b = behind (place_among name (map name_of xs)) zero e in absurd (omega (arith, b.next))
      step false (suc k) e at more =
          let b = behind (place_among name (map name_of xs)) (suc k) e in
          let same : k ≡ b.place = omega (arith, b.next) in
          more k x (b.is ∙ ap Some (sym same)) at

given-first : (name : List ℕ) (gs : List Given) → given (map given_of gs) name ≡ first (λ (g : Given). g.name.now) (λ (g : Given). g.value) name gs
given-first name [] = refl
given-first name (g ∷ gs) = ap (λ o. if same_name g.name.now name then Some g.value else o) (given-first name gs)

pub given-none : (name : List ℕ) (gs : List Given) → place_among name (map (λ g. g.name.now) gs) ≡ None → given (map given_of gs) name ≡ None
given-none name gs none = given-first name gs ∙ first-none (λ (g : Given). g.name.now) (λ (g : Given). g.value) name gs none

pub given-some : (name : List ℕ) (gs : List Given) (k : ℕ) (g : Given) → place_among name (map (λ g. g.name.now) gs) ≡ Some k → slice_get gs k ≡ Some g
    → given (map given_of gs) name ≡ Some g.value
given-some name gs k g place at = given-first name gs ∙ first-some (λ (g : Given). g.name.now) (λ (g : Given). g.value) name gs k g place at

unit-first : (name : List ℕ) (ms : List Module) → module_named name (map module_of ms) ≡ first (λ (m : Module). m.name.name) module_of name ms
unit-first name [] = refl
unit-first name (m ∷ ms) = ap (λ o. if same_name m.name.name name then Some (module_of m) else o) (unit-first name ms)

pub unit-none : (name : List ℕ) (ms : List Module) → place_among name (map (λ m. m.name.name) ms) ≡ None → module_named name (map module_of ms) ≡ None
unit-none name ms none = unit-first name ms ∙ first-none (λ (m : Module). m.name.name) module_of name ms none

pub unit-some : (name : List ℕ) (ms : List Module) (k : ℕ) (m : Module) → place_among name (map (λ m. m.name.name) ms) ≡ Some k → slice_get ms k ≡ Some m
    → module_named name (map module_of ms) ≡ Some (module_of m)
unit-some name ms k m place at = unit-first name ms ∙ first-some (λ (m : Module). m.name.name) module_of name ms k m place at

-- ---- names of a header
pub names_ports : (names : List Identifier) → port_names (name_ports names) ≡ map (λ name. name.name) names
names_ports [] = refl
names_ports (n ∷ ns) = ap (λ l. n.name ∷ l) (names_ports ns)

-- Connections by name: where each name stands first, and what it is connected to.
use Rattle.std.proofs.Common.{◌≡◌, ℕ, suc, ◌+◌, ◌<◌, Bool, true, false, List, [], ◌∷◌, ◌++◌, length, map, take, Option, Some, None, refl, sym, ap, ◌∙◌, arith, subst}
use Rattle.std.specs.Prelude.{if◌then◌else◌, option_map, get_or}
use Rattle.std.proofs.lemmas.List.{length-map, length-take-le, map_more, get_or-map}
use Rattle.std.specs.Option.{option_or}
use Rattle.std.specs.Cmp.Lexicographic.{same_text}
use Rattle.std.proofs.lemmas.Option.{none-some}
use Rattle.loc_base.proofs.ShelfOptions.{option_map-none}
use Rattle.v_syntax.specs.declared.item.NamedConnection.{NamedConnection}
use Rattle.v_syntax.specs.ItemTree.{PlainConnection, connection_of}
use Rattle.v_hierarchy.specs.Names.{same_name}
use Rattle.v_hierarchy.specs.Places.{with_place}
use Rattle.v_binding.specs.Connections.{Wire, wire_of, wire_named}
use Rattle.bind_items.specs.Wires.{first_named}

-- ---- a name that is put where it stands at no place yet
or-none : (o : Option ℕ) → o ≡ option_or o None
or-none None = refl
or-none (Some k) = refl

pub put-new : (o : List ℕ → Option ℕ) (name other : List ℕ) (n : ℕ) → o name ≡ None
    → with_place name n o other ≡ option_or (o other) (if same_name name other then Some n else None)
put-new o name other n none = step (same_name name other) refl
  where
    step : (same : Bool) → same ≡ same_name name other → (if same then Some n else o other) ≡ option_or (o other) (if same then Some n else None)
    step true is = sym (ap (λ p. option_or p (Some n)) (ap o (sym (same_text name other is)) ∙ none))
    step false is = or-none (o other)

pub put-again : (o : List ℕ → Option ℕ) (name other : List ℕ) (n k : ℕ) → o name ≡ Some k
    → o other ≡ option_or (o other) (if same_name name other then Some n else None)
put-again o name other n k there = step (same_name name other) refl
  where
    stays : (p : Option ℕ) → p ≡ Some k → p ≡ option_or p (Some n)
    stays None is = absurd (none-some k is)
    stays (Some j) is = refl

    step : (same : Bool) → same ≡ same_name name other → o other ≡ option_or (o other) (if same then Some n else None)
    step true is = stays (o other) (ap o (sym (same_text name other is)) ∙ there)
    step false is = or-none (o other)

pub ruleset put_laws = (put-new, put-again)

-- ---- one connection more, at the end
later : (first : Option ℕ) (same : Bool) (n : ℕ)
    → option_map suc (option_or first (if same then Some n else None)) ≡ option_or (option_map suc first) (if same then Some (suc n) else None)
later (Some k) same n = refl
later None true n = refl
later None false n = refl

pushed-behind : (before same : Bool) (n : ℕ) (first more : Option ℕ) → more ≡ option_or first (if same then Some n else None)
    → (if before then Some 0 else option_map suc more) ≡ option_or (if before then Some 0 else option_map suc first) (if same then Some (suc n) else None)
pushed-behind true same n first more is = refl
pushed-behind false same n first more is = ap (option_map suc) is ∙ later first same n

pub first-pushed : (name : List ℕ) (cs : List PlainConnection) (c : PlainConnection)
    → first_named name (cs ++ c ∷ []) ≡ option_or (first_named name cs) (if same_name c.name.name name then Some (length cs) else None)
first-pushed name [] c = refl
first-pushed name (d ∷ ds) c =
    pushed-behind (same_name d.name.name name) (same_name c.name.name name) (length ds) (first_named name ds) (first_named name (ds ++ c ∷ [])) (first-pushed name ds c)

pub ruleset pushed_laws = (first-pushed)

-- ---- what a name is connected to
none-behind : (same : Bool) (first : Option ℕ) (own rest : Option Wire) → (if same then Some 0 else option_map suc first) ≡ None → (first ≡ None → rest ≡ None)
    → (if same then own else rest) ≡ None
none-behind true first own rest none more = absurd (none-some 0 (sym none))
none-behind false first own rest none more = more (option_map-none suc first none)

pub named-none : (name : List ℕ) (cs : List PlainConnection) → first_named name cs ≡ None → wire_named name cs ≡ None
named-none name [] none = refl
named-none name (c ∷ cs) none =
    none-behind (same_name c.name.name name) (first_named name cs) (wire_of c) (wire_named name cs) none (named-none name cs)

pub record Found (cs : List PlainConnection) (k : ℕ) (wire : Option Wire) : Type 0 where
  pub within : k < length cs
  pub is : (d : PlainConnection) → wire ≡ wire_of (get_or cs k d)

found-behind : (c : PlainConnection) (cs : List PlainConnection) (same : Bool) (first : Option ℕ) (k : ℕ) (rest : Option Wire)
    → (if same then Some 0 else option_map suc first) ≡ Some k → ((j : ℕ) → first ≡ Some j → Found cs j rest) → Found (c ∷ cs) k (if same then wire_of c else rest)
found-behind c cs true first k rest at more =
    let same : 0 ≡ k = cc in subst (λ i. Found (c ∷ cs) i (wire_of c)) same (record { within = omega arith; is = λ d. refl })
found-behind c cs false None k rest at more = absurd (none-some k at)
found-behind c cs false (Some j) k rest at more =
    let same : suc j ≡ k = cc in
    let found = more j refl in
    subst (λ i. Found (c ∷ cs) i rest) same (record { within = omega (arith, found.within); is = found.is })

pub named-at : (name : List ℕ) (cs : List PlainConnection) (k : ℕ) → first_named name cs ≡ Some k → Found cs k (wire_named name cs)
named-at name [] k at = absurd (none-some k at)
named-at name (c ∷ cs) k at =
    found-behind c cs (same_name c.name.name name) (first_named name cs) k (wire_named name cs) at (λ j first. named-at name cs j first)

-- ---- the same of connections as the code holds them
pub find-none : (xs : List NamedConnection) (name : List ℕ) → first_named name (map connection_of xs) ≡ None → wire_named name (map connection_of xs) ≡ None
find-none xs name none = named-none name (map connection_of xs) none

pub find-within : (xs : List NamedConnection) (name : List ℕ) (k : ℕ) → first_named name (map connection_of xs) ≡ Some k → k < length xs
find-within xs name k at = let found = named-at name (map connection_of xs) k at in omega (arith, found.within, length-map xs connection_of)

pub find-some : (xs : List NamedConnection) (name : List ℕ) (k : ℕ) (x : NamedConnection) → first_named name (map connection_of xs) ≡ Some k → x ≡ get_or xs k x
    → wire_of (connection_of x) ≡ wire_named name (map connection_of xs)
find-some xs name k x at is =
    let found = named-at name (map connection_of xs) k at in
    let within : k < length xs = find-within xs name k at in
    sym (found.is (connection_of x) ∙ ap wire_of (get_or-map connection_of xs k x (connection_of x) within) ∙ ap (λ y. wire_of (connection_of y)) (sym is))

pub first-taken : (xs : List NamedConnection) (i : ℕ) (d : NamedConnection) (name : List ℕ) → i < length xs
    → option_or (first_named name (map connection_of (take i xs))) (if same_name (get_or xs i d).name.name name then Some i else None)
    ≡ first_named name (map connection_of (take (i + 1) xs))
first-taken xs i d name within =
    let before : List PlainConnection = map connection_of (take i xs) in
    let all : map connection_of (take (i + 1) xs) ≡ before ++ connection_of (get_or xs i d) ∷ [] = map_more connection_of xs i d within in
    let many : length before ≡ i = length-map (take i xs) connection_of ∙ length-take-le i xs (omega (arith, within)) in
    ap (λ k. option_or (first_named name before) (if same_name (get_or xs i d).name.name name then Some k else None)) (sym many)
    ∙ sym (first-pushed name before (connection_of (get_or xs i d))) ∙ sym (ap (first_named name) all)

-- what a table finds is where the name stands first
pub found-first : (table : List ℕ → Option ℕ) (xs : List NamedConnection) (bytes name : List ℕ) (found known : Option ℕ) → bytes ≡ name → found ≡ table bytes
    → ((q : List ℕ) → table q ≡ first_named q (map connection_of xs)) → found ≡ known → first_named name (map connection_of xs) ≡ known
found-first table xs bytes name found known same finds tells is = sym (tells name) ∙ ap table (sym same) ∙ sym finds ∙ is

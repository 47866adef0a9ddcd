-- Steps of the walk: an instance, then each of its children.
use Rattle.std.proofs.Common.{◌≡◌, ◌≢◌, ℕ, zero, suc, ◌-◌, Option, Some, List, ◌∷◌, ◌+◌, ◌<◌, ◌≤◌, map, drop, get_or, length, refl, sym, ap, ◌∙◌, arith, ◌⊎◌, inl, inr}
use Rattle.std.specs.Prelude.{⊤, [], None, Result, Ok, Err}
use Rattle.std.proofs.lemmas.List.{drop_all}
use Rattle.loc_base.proofs.ShelfLists.{drop-at}
use Rattle.v_syntax.specs.ModuleTree.{PlainModule}
use Rattle.v_hierarchy.specs.declared.instance.Child.{Child as MadeChild}
use Rattle.v_hierarchy.specs.Views.{child_of}
use Rattle.v_hierarchy.specs.declared.error.ElabErr.{ElabErr}
use Rattle.v_hierarchy.specs.declared.error.ElabErr.TheVariants as fault
use Rattle.v_hierarchy.specs.Frames.{Refuses}
use Rattle.v_hierarchy.specs.Steps.{◌>>=◌, each}
use Rattle.v_hierarchy.specs.Items.{Child, Met, module_named}
use Rattle.v_hierarchy.specs.Instances.{Instance, Found, contents, children, with_instance, walked, most_left, unit_name, top_of, top_child, instances}
use Rattle.v_elaborate.specs.Walking.{names_differ, listed_from}

module _ (units : List PlainModule) (parent : Option ℕ) (c : Child) (found : Found) where
  pub walked-refuses : (levels : ℕ) (e : ElabErr) → Refuses (contents units levels c found.left) e → Refuses (walked units levels parent c found) e
  walked-refuses levels e (inl none) = inl none
  walked-refuses zero e (inr is) = inr (ap (λ (r : Result Met ElabErr). r >>= λ met. Ok (with_instance c parent met found)) is)
  walked-refuses (suc n) e (inr is) =
      inr (ap (λ (r : Result Met ElabErr). r >>= λ met. each (walked units n (Some (length found.list))) (children met.copies) (with_instance c parent met found)) is)

  pub walked-deepest : (levels : ℕ) (met : Met) → levels ≡ 0 → contents units levels c found.left ≡ Ok met
      → walked units levels parent c found ≡ Ok (with_instance c parent met found)
  walked-deepest zero met last is = ap (λ (r : Result Met ElabErr). r >>= λ met. Ok (with_instance c parent met found)) is
  walked-deepest (suc n) met last is = absurd cc

  pub walked-below : (levels : ℕ) (met : Met) → levels ≢ 0 → contents units levels c found.left ≡ Ok met
      → walked units levels parent c found ≡ each (walked units (levels - 1) (Some (length found.list))) (children met.copies) (with_instance c parent met found)
  walked-below zero met more is = absurd (more refl)
  walked-below (suc n) met more is =
      let one : n ≡ suc n - 1 = omega arith in
      ap (λ (r : Result Met ElabErr). r >>= λ met. each (walked units n (Some (length found.list))) (children met.copies) (with_instance c parent met found)) is
      ∙ ap (λ l. each (walked units l (Some (length found.list))) (children met.copies) (with_instance c parent met found)) one

-- ---- an instance's children, one after another
pub length-mapped : {A B : Type 0} (f : A → B) (xs : List A) → length (map f xs) ≡ length xs
length-mapped f [] = refl
length-mapped f (x ∷ xs) = ap suc (length-mapped f xs)

pub walked-begins : (units : List PlainModule) (parent : Option ℕ) (c : Child) (found after : Found) (levels : ℕ) (met : Met) (number : ℕ) (cs : List Child) → levels ≢ 0
    → contents units levels c found.left ≡ Ok met → number ≡ length found.list → cs ≡ children met.copies → after ≡ with_instance c parent met found
    → walked units levels parent c found ≡ each (walked units (levels - 1) (Some number)) cs after
walked-begins units parent c found after levels met number cs more is is_number is_cs is_after =
    walked-below units parent c found levels met more is
    ∙ ap (λ n. each (walked units (levels - 1) (Some n)) (children met.copies) (with_instance c parent met found)) (sym is_number)
    ∙ ap (λ ds. each (walked units (levels - 1) (Some number)) ds (with_instance c parent met found)) (sym is_cs)
    ∙ ap (each (walked units (levels - 1) (Some number)) cs) (sym is_after)

module _ (f : Child → Found → Result Found ElabErr) (xs : List MadeChild) (i : ℕ) where
  pub each-ended : length xs ≤ i → (found : Found) → each f (map child_of (drop i xs)) found ≡ Ok found
  each-ended all found = ap (λ ys. each f (map child_of ys) found) (drop_all i xs all)

  pub each-refuses : (x : MadeChild) → i < length xs → x ≡ get_or xs i x → (found : Found) (whole : Result Found ElabErr) → each f (map child_of (drop i xs)) found ≡ whole
      → (e : ElabErr) → Refuses (f (child_of x) found) e → Refuses whole e
  each-refuses x within at found whole rest e (inl none) = inl none
  each-refuses x within at found whole rest e (inr is) =
      inr (sym rest ∙ ap (λ ys. each f (map child_of ys) found) (drop-at xs i x within at)
      ∙ ap (λ (r : Result Found ElabErr). r >>= each f (map child_of (drop (i + 1) xs))) is)

-- ---- from the top
distinct : (source : List PlainModule) (u : ⊤) (r : Result (List Instance) ElabErr) → names_differ source ≡ Ok u → each unit_name source [] >>= (λ _. r) ≡ r
distinct source u r is = go (each unit_name source []) is
  where
    go : (seen : Result (List (List ℕ)) ElabErr) → seen >>= (λ _. Ok tt) ≡ Ok u → seen >>= (λ _. r) ≡ r
    go (Ok names) is = refl
    go (Err e) is = cc

pub instances-through : (source units : List PlainModule) → units ≡ source → (name : List ℕ) (m : PlainModule) → module_named name units ≡ Some m
    → (u : ⊤) → names_differ source ≡ Ok u → (c : Child) → c ≡ top_child m → instances source name ≡ listed_from units c
instances-through source units same name m found u differ c is =
    let top : top_of source name ≡ Ok m =
    ap (λ us. top_of us name) (sym same) ∙ ap (λ (o : Option PlainModule). elim o [ Some x ↦ Ok x | None ↦ Err fault.NoTop ]) found in
    ap (λ (r : Result PlainModule ElabErr). r >>= λ x. each unit_name source [] >>= λ _. listed_from source (top_child x)) top
    ∙ distinct source u (listed_from source (top_child m)) differ
    ∙ ap (λ us. listed_from us (top_child m)) (sym same) ∙ ap (listed_from units) (sym is)

pub listed-ok : (units : List PlainModule) (c : Child) (found last : Found) → found ≡ record { list = []; left = most_left } → walked units 64 None c found ≡ Ok last
    → listed_from units c ≡ Ok last.list
listed-ok units c found last begins ran =
    ap (λ (x : Found). walked units 64 None c x >>= λ found. Ok found.list) (sym begins) ∙ ap (λ (r : Result Found ElabErr). r >>= λ found. Ok found.list) ran

pub listed-refuses : (units : List PlainModule) (c : Child) (found : Found) (e : ElabErr) → found ≡ record { list = []; left = most_left }
    → Refuses (walked units 64 None c found) e → Refuses (listed_from units c) e
listed-refuses units c found e begins (inl none) = inl none
listed-refuses units c found e begins (inr is) =
    inr (ap (λ (x : Found). walked units 64 None c x >>= λ found. Ok found.list) (sym begins) ∙ ap (λ (r : Result Found ElabErr). r >>= λ found. Ok found.list) is)

pub refuses-through : {A : Type 0} (x y : Result A ElabErr) (e : ElabErr) → y ≡ x → Refuses x e → Refuses y e
refuses-through x y e same (inl none) = inl none
refuses-through x y e same (inr is) = inr (same ∙ is)

pub ruleset walk_rules = (walked-refuses, walked-deepest, walked-below)

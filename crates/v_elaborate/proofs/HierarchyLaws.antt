-- The list of the walk is the hierarchy: what stands at any path is in it, each entry stands at some path, and none is too deep.
use Rattle.std.proofs.Common.{◌≡◌, ℕ, zero, suc, ◌+◌, ◌<◌, ◌≤◌, List, [], ◌∷◌, ◌++◌, length, Option, Some, None, refl, sym, ap, ◌∙◌, subst, arith, ◌⊎◌, inl, inr, length-append, append_assoc, append-nil}
use Rattle.std.specs.Prelude.{⊤, slice_get, Result, Ok, Err}
use Rattle.std.proofs.lemmas.Option.{none-some}
use Rattle.v_syntax.specs.ModuleTree.{PlainModule}
use Rattle.v_hierarchy.specs.declared.error.ElabErr.{ElabErr}
use Rattle.v_hierarchy.specs.Steps.{◌>>=◌, each}
use Rattle.v_hierarchy.specs.Items.{Child, Met}
use Rattle.v_hierarchy.specs.Instances.{Instance, instance, contents, children, Found, with_instance, walked, unit_name, top_of, most_left, top_child, instances}
use Rattle.v_hierarchy.specs.Hierarchy.{Makes, IsAt}
use Rattle.v_elaborate.specs.Laws.{design_turns, IsInstance, Stands, Comes, IsHierarchy}
use Rattle.v_elaborate.proofs.Runs.{Ok-same, Err-Ok, both, apart}
use Rattle.v_elaborate.proofs.ContentLaws.{makes-same, contents-counted}

-- ---- some entry of a list, and each
abbrev Some-in : (Instance → Type 0) → List Instance → Type 0
Some-in P [] = ⊥
Some-in P (x ∷ xs) = P x ⊎ Some-in P xs

abbrev Each-in : (Instance → Type 0) → List Instance → Type 0
Each-in P [] = ⊤
Each-in P (x ∷ xs) = P x × Each-in P xs

some-left : (P : Instance → Type 0) (xs ys : List Instance) → Some-in P xs → Some-in P (xs ++ ys)
some-left P [] ys some = absurd some
some-left P (x ∷ xs) ys (inl is) = inl is
some-left P (x ∷ xs) ys (inr some) = inr (some-left P xs ys some)

some-right : (P : Instance → Type 0) (xs ys : List Instance) → Some-in P ys → Some-in P (xs ++ ys)
some-right P [] ys some = some
some-right P (x ∷ xs) ys some = inr (some-right P xs ys some)

each-append : (P : Instance → Type 0) (xs ys : List Instance) → Each-in P xs → Each-in P ys → Each-in P (xs ++ ys)
each-append P [] ys all more = more
each-append P (x ∷ xs) ys all more = (all.0, each-append P xs ys all.1 more)

each-map : (P Q : Instance → Type 0) → ((i : Instance) → P i → Q i) → (xs : List Instance) → Each-in P xs → Each-in Q xs
each-map P Q f [] all = tt
each-map P Q f (x ∷ xs) all = (f x all.0, each-map P Q f xs all.1)

each-at : (P : Instance → Type 0) (xs : List Instance) (k : ℕ) (i : Instance) → Each-in P xs → slice_get xs k ≡ Some i → P i
each-at P [] k i all at = absurd (none-some i at)
each-at P (x ∷ xs) zero i all at = let same : x ≡ i = cc in subst P same all.0
each-at P (x ∷ xs) (suc k) i all at = each-at P xs k i all.1 at

some-at : (units : List PlainModule) (c : Child) (xs : List Instance) → Some-in (IsInstance units c) xs → Stands units xs c
some-at units c [] some = absurd some
some-at units c (x ∷ xs) (inl is) = record { number = 0; instance = x; at = refl; is = is }
some-at units c (x ∷ xs) (inr some) =
    let r = some-at units c xs some in record { number = suc r.number; instance = r.instance; at = r.at; is = r.is }

turns-append : (xs ys : List Instance) → design_turns (xs ++ ys) ≡ design_turns xs + design_turns ys
turns-append [] ys = omega arith
turns-append (x ∷ xs) ys = omega (arith, turns-append xs ys)

-- ---- below one instance
-- an instance of the hierarchy below another
record ComesBelow (units : List PlainModule) (c : Child) (i : Instance) : Type 0 where
  path : List ℕ
  child : Child
  at : IsAt units c path child
  is : IsInstance units child i

record Walked (units : List PlainModule) (levels : ℕ) (c : Child) (found last : Found) : Type 0 where
  new : List Instance
  list : last.list ≡ found.list ++ new
  whole : (path : List ℕ) (d : Child) → IsAt units c path d → Some-in (IsInstance units d) new
  only : Each-in (ComesBelow units c) new
  within : (path : List ℕ) (d : Child) → IsAt units c path d → length path ≤ levels
  count : length new + last.left.instances ≡ suc found.left.instances
  turns : design_turns new + last.left.turns ≡ found.left.turns

-- ---- below each of several
record ComesBelowSome (units : List PlainModule) (cs : List Child) (i : Instance) : Type 0 where
  number : ℕ
  parent : Child
  stands : slice_get cs number ≡ Some parent
  comes : ComesBelow units parent i

record WalkedAll (units : List PlainModule) (levels : ℕ) (cs : List Child) (found last : Found) : Type 0 where
  new : List Instance
  list : last.list ≡ found.list ++ new
  whole : (k : ℕ) (c : Child) → slice_get cs k ≡ Some c → (path : List ℕ) (d : Child) → IsAt units c path d → Some-in (IsInstance units d) new
  only : Each-in (ComesBelowSome units cs) new
  within : (k : ℕ) (c : Child) → slice_get cs k ≡ Some c → (path : List ℕ) (d : Child) → IsAt units c path d → length path < levels
  count : length new + last.left.instances ≡ length cs + found.left.instances
  turns : design_turns new + last.left.turns ≡ found.left.turns

none-walked : (units : List PlainModule) (levels : ℕ) (found : Found) → WalkedAll units levels [] found found
none-walked units levels found = record {
  new = [];
  list = sym (append-nil found.list);
  whole = λ k c at path d is. absurd (none-some c at);
  only = tt;
  within = λ k c at path d is. absurd (none-some c at);
  count = omega arith;
  turns = omega arith;
}

first-walked : (units : List PlainModule) (levels : ℕ) (c : Child) (cs : List Child) (found met last : Found)
    → Walked units levels c found met → WalkedAll units (suc levels) cs met last → WalkedAll units (suc levels) (c ∷ cs) found last
first-walked units levels c cs found met last one rest = record {
  new = one.new ++ rest.new;
  list = rest.list ∙ ap (λ xs. xs ++ rest.new) one.list ∙ append_assoc found.list one.new rest.new;
  whole = whole;
  only = each-append (ComesBelowSome units (c ∷ cs)) one.new rest.new
      (each-map (ComesBelow units c) (ComesBelowSome units (c ∷ cs)) (λ i is. record { number = 0; parent = c; stands = refl; comes = is }) one.new one.only)
      (each-map (ComesBelowSome units cs) (ComesBelowSome units (c ∷ cs))
      (λ i is. record { number = suc is.number; parent = is.parent; stands = is.stands; comes = is.comes }) rest.new rest.only);
  within = within;
  count = omega (arith, length-append one.new rest.new, one.count, rest.count);
  turns = omega (arith, turns-append one.new rest.new, one.turns, rest.turns);
}
  where
    whole : (k : ℕ) (b : Child) → slice_get (c ∷ cs) k ≡ Some b → (path : List ℕ) (d : Child) → IsAt units b path d → Some-in (IsInstance units d) (one.new ++ rest.new)
    whole zero b at path d is =
        let same : c ≡ b = cc in
        some-left (IsInstance units d) one.new rest.new (one.whole path d (subst (λ (x : Child). IsAt units x path d) (sym same) is))
    whole (suc k) b at path d is = some-right (IsInstance units d) one.new rest.new (rest.whole k b at path d is)

    within : (k : ℕ) (b : Child) → slice_get (c ∷ cs) k ≡ Some b → (path : List ℕ) (d : Child) → IsAt units b path d → length path < suc levels
    within zero b at path d is =
        let same : c ≡ b = cc in
        let low = one.within path d (subst (λ (x : Child). IsAt units x path d) (sym same) is) in omega (arith, low)
    within (suc k) b at path d is = rest.within k b at path d is

each-walked : (units : List PlainModule) (levels : ℕ) (step : Child → Found → Result Found ElabErr)
    → ((c : Child) (found last : Found) → step c found ≡ Ok last → Walked units levels c found last)
    → (cs : List Child) (found last : Found) → each step cs found ≡ Ok last → WalkedAll units (suc levels) cs found last
each-walked units levels step law [] found last is =
    subst (λ (x : Found). WalkedAll units (suc levels) [] found x) (Ok-same is) (none-walked units (suc levels) found)
each-walked units levels step law (c ∷ cs) found last is =
    apart (step c found) (step c found) _ _ last last (WalkedAll units (suc levels) (c ∷ cs) found last) is is λ met _ first _ rest _.
    first-walked units levels c cs found met last (law c found met first) (each-walked units levels step law cs met last rest)

-- ---- an instance with all below it
one-walked : (units : List PlainModule) (levels l : ℕ) (parent : Option ℕ) (c : Child) (found last : Found) (met : Met)
    → contents units l c found.left ≡ Ok met → WalkedAll units levels (children met.copies) (with_instance c parent met found) last
    → Walked units levels c found last
one-walked units levels l parent c found last met makes rest = record {
  new = instance c parent met ∷ rest.new;
  list = rest.list ∙ append_assoc found.list (instance c parent met ∷ []) rest.new;
  whole = whole;
  only = (
    record { path = []; child = c; at = refl; is = here },
    each-map (ComesBelowSome units (children met.copies)) (ComesBelow units c)
        (λ i is. record { path = is.number ∷ is.comes.path; child = is.comes.child; at = (met, made, (is.parent, is.stands, is.comes.at)); is = is.comes.is })
        rest.new rest.only,
  );
  within = within;
  count = omega (arith, rest.count, (contents-counted units l c found.left met makes).total);
  turns = omega (arith, rest.turns, (contents-counted units l c found.left met makes).turns);
}
  where
    made : Makes units c met
    made = record { levels = l; left = found.left; makes = makes }

    here : IsInstance units c (instance c parent met)
    here = record { met = met; parent = parent; makes = made; is = refl }

    whole : (path : List ℕ) (d : Child) → IsAt units c path d → Some-in (IsInstance units d) (instance c parent met ∷ rest.new)
    whole [] d is = inl (subst (λ (x : Child). IsInstance units x (instance c parent met)) (sym is) here)
    whole (k ∷ path) d is =
        let same = makes-same units c is.0 met is.1 made in
        inr (rest.whole k is.2.0 (subst (λ cs. slice_get (children cs) k ≡ Some is.2.0) same.copies is.2.1) path d is.2.2)

    within : (path : List ℕ) (d : Child) → IsAt units c path d → length path ≤ levels
    within [] d is = omega arith
    within (k ∷ path) d is =
        let same = makes-same units c is.0 met is.1 made in
        let low = rest.within k is.2.0 (subst (λ cs. slice_get (children cs) k ≡ Some is.2.0) same.copies is.2.1) path d is.2.2 in
        omega (arith, low)

walked-law : (units : List PlainModule) (levels : ℕ) (parent : Option ℕ) (c : Child) (found last : Found)
    → walked units levels parent c found ≡ Ok last → Walked units levels c found last
walked-law units zero parent c found last is =
    apart (contents units 0 c found.left) (contents units 0 c found.left) _ _ last last (Walked units 0 c found last) is is λ met _ makes _ first _.
    let none = (contents-counted units 0 c found.left met makes).last refl in
    one-walked units 0 0 parent c found last met makes
    (subst (λ (x : Found). WalkedAll units 0 (children met.copies) (with_instance c parent met found) x) (Ok-same first)
    (subst (λ cs. WalkedAll units 0 cs (with_instance c parent met found) (with_instance c parent met found)) (sym none)
    (none-walked units 0 (with_instance c parent met found))))
walked-law units (suc levels) parent c found last is =
    apart (contents units (suc levels) c found.left) (contents units (suc levels) c found.left) _ _ last last (Walked units (suc levels) c found last) is is
    λ met _ makes _ first _.
    one-walked units (suc levels) (suc levels) parent c found last met makes
    (each-walked units levels (walked units levels (Some (length found.list)))
    (λ d before after ran. walked-law units levels (Some (length found.list)) d before after ran)
    (children met.copies) (with_instance c parent met found) last first)

-- ---- the whole
record Top (units : List PlainModule) (top : PlainModule) (list : List Instance) : Type 0 where
  last : Found
  walks : Walked units 64 (top_child top) (record { list = []; left = most_left }) last
  is : last.list ≡ list

top-walked : (units : List PlainModule) (name : List ℕ) (top : PlainModule) (list : List Instance) → top_of units name ≡ Ok top → instances units name ≡ Ok list → Top units top list
top-walked units name top list named is =
    apart (top_of units name) (top_of units name) _ _ list list (Top units top list) is is λ m _ found _ first _.
    let same = Ok-same (sym found ∙ named) in
    both (each unit_name units []) _ _ list list (Top units top list) first first λ _ second _.
    apart (walked units 64 None (top_child m) (record { list = []; left = most_left })) (walked units 64 None (top_child m) (record { list = []; left = most_left }))
    _ _ list list (Top units top list) second second λ last _ ran _ third _.
    record {
      last = last;
      walks = subst (λ (x : PlainModule). Walked units 64 (top_child x) (record { list = []; left = most_left }) last) same
          (walked-law units 64 None (top_child m) (record { list = []; left = most_left }) last ran);
      is = Ok-same third;
    }

pub list-hierarchy : (units : List PlainModule) (name : List ℕ) (top : PlainModule) (list : List Instance) → top_of units name ≡ Ok top → instances units name ≡ Ok list
    → IsHierarchy units top list
list-hierarchy units name top list named is =
    let t = top-walked units name top list named is in
    let same : list ≡ t.walks.new = sym t.is ∙ t.walks.list in
    record {
      whole = λ path c at. subst (λ xs. Stands units xs c) (sym same) (some-at units c t.walks.new (t.walks.whole path c at));
      only = λ number i at.
          let r = each-at (ComesBelow units (top_child top)) t.walks.new number i t.walks.only (subst (λ xs. slice_get xs number ≡ Some i) same at) in
          record { path = r.path; child = r.child; at = r.at; is = r.is };
    }

pub list-depth : (units : List PlainModule) (name : List ℕ) (top : PlainModule) (list : List Instance) → top_of units name ≡ Ok top → instances units name ≡ Ok list
    → (path : List ℕ) (c : Child) → IsAt units (top_child top) path c → length path ≤ 64
list-depth units name top list named is = (top-walked units name top list named is).walks.within

pub list-few : (units : List PlainModule) (name : List ℕ) (top : PlainModule) (list : List Instance) → top_of units name ≡ Ok top → instances units name ≡ Ok list
    → length list ≤ 65536
list-few units name top list named is =
    let t = top-walked units name top list named is in omega (arith, ap length (sym t.is ∙ t.walks.list), t.walks.count)

pub list-turns : (units : List PlainModule) (name : List ℕ) (top : PlainModule) (list : List Instance) → top_of units name ≡ Ok top → instances units name ≡ Ok list
    → design_turns list ≤ 65536
list-turns units name top list named is =
    let t = top-walked units name top list named is in omega (arith, ap design_turns (sym t.is ∙ t.walks.list), t.walks.turns)

-- Steps of the loops that chain places and that follow a chain.
use Rattle.std.proofs.Common.{◌≡◌, ◌≢◌, ℕ, zero, suc, ◌+◌, ◌<◌, ◌≤◌, Bool, List, [], ◌∷◌, ◌++◌, length, get_or, set, drop, replicate, Option, Some, None, refl, sym, ◌∙◌, ap, subst, arith, inl, inr, append_assoc, nat_eq}
use Rattle.std.specs.Prelude.{◌-◌, All}
use Rattle.std.specs.Option.{option_map_or}
use Rattle.std.proofs.lemmas.Bool.{cases_Bool, cases_lt, cond-true, cond-false, false≢true, eqb-true, eq-eqb}
use Rattle.std.proofs.Math.Seq.{drop-length}
use Rattle.std.proofs.lemmas.List.{append-nil, length-replicate, get_or-set_same, get_or-set_other, get_or-map, get_or_past, get_or_default, length-map, length-set}
use Rattle.std.proofs.lemmas.Option.{same_Some, none-some}
use Rattle.loc_base.proofs.ShelfLists.{drop-at}
use Rattle.suspect_map.specs.Groups.{numbers_at}
use Rattle.suspect_map.specs.Grouping.{first_at, first_by, firsts_by, is_number, is_same, RunsThrough, GoesForward, IsChained, PointsWithin}
use Rattle.suspect_map.proofs.Ascending.{numbers_at-from}

-- a chain behind a number stays where that number's next is changed
runs-frame : (next : List (Option ℕ)) (i : ℕ) (x at : Option ℕ) (list : List ℕ) → All (λ n. i + 1 ≤ n) list → RunsThrough next at list → RunsThrough (set next i x) at list
runs-frame next i x at [] above runs = runs
runs-frame next i x at (n ∷ rest) above (here, later) =
    let other : n ≢ i = λ same. let h : i + 1 ≤ n = above 0 0 (omega arith) in absurd (omega (arith, same, h)) in
    let same : get_or (set next i x) n None ≡ get_or next n None = get_or-set_other next i n x None other in
    let behind : All (λ m. i + 1 ≤ m) rest = λ k d within. above (suc k) d (omega (arith, within)) in
    (here, subst (λ a. RunsThrough (set next i x) a rest) (sym same) (runs-frame next i x (get_or next n None) rest behind later))

-- of nothing but `None` each is `None`
nothing : (n p : ℕ) → get_or (replicate {A = Option ℕ} n None) p None ≡ None
nothing zero p = refl
nothing (suc n) zero = refl
nothing (suc n) (suc p) = nothing n p

-- no place is chained
pub chained-none : (firsts : List (Option ℕ)) (n : ℕ) → n ≡ length firsts → IsChained firsts n (replicate n None) (replicate n None)
chained-none firsts n long = record {
  heads_long = length-replicate n None ∙ long;
  next_long = length-replicate n None ∙ long;
  heads_from = λ p q is. absurd (none-some q (sym (nothing n p) ∙ is));
  forward = λ p q is. absurd (none-some q (sym (nothing n p) ∙ is));
  runs = λ p within. subst (λ rest. RunsThrough (replicate n None) (get_or (replicate n None) p None) (numbers_at (is_number p) n rest))
      (sym (ap (λ k. drop k firsts) long ∙ drop-length firsts)) (nothing n p);
}

module _ (firsts : List (Option ℕ)) (i : ℕ) (heads next : List (Option ℕ)) (chained : IsChained firsts (i + 1) heads next) (within : i < length firsts) where
  -- a place without a suspect
  pub chained-skip : get_or firsts i None ≡ None → IsChained firsts i heads next
  chained-skip none = record {
    heads_long = chained.heads_long;
    next_long = chained.next_long;
    heads_from = λ p q is. let (from, below) = chained.heads_from p q is in (omega (arith, from), below);
    forward = chained.forward;
    runs = λ p below. subst (λ rest. RunsThrough next (get_or heads p None) (numbers_at (is_number p) i rest))
        (sym (drop-at firsts i None within (sym none ∙ get_or_default firsts i None None within))) (chained.runs p below);
  }

  module _ (f : ℕ) (first : get_or firsts i None ≡ Some f) (f_within : f < length firsts) where
    i_next : i < length next
    i_next = omega (arith, within, chained.next_long)

    f_heads : f < length heads
    f_heads = omega (arith, f_within, chained.heads_long)

    heads_from-add : (p q : ℕ) → get_or (set heads f (Some i)) p None ≡ Some q → (i ≤ q) × (q < length (set next i (get_or heads f None)))
    heads_from-add p q is =
        let long : length (set next i (get_or heads f None)) ≡ length next = length-set next i (get_or heads f None) in
        elim (cases_Bool (nat_eq p f)) [
          | inl e ↦
              let here : get_or (set heads f (Some i)) p None ≡ Some i = ap (λ n. get_or (set heads f (Some i)) n None) (eqb-true p f e) ∙ get_or-set_same heads f (Some i) None f_heads in
              let same : i ≡ q = same_Some i q (sym here ∙ is) in
              (omega (arith, same), omega (arith, same, long, within, chained.next_long))
          | inr e ↦
              let old : get_or heads p None ≡ Some q = sym (get_or-set_other heads f p (Some i) None (λ same. false≢true (sym e ∙ eq-eqb p f same))) ∙ is in
              let (from, below) = chained.heads_from p q old in
              (omega (arith, from), omega (arith, below, long))
        ]

    forward-add : GoesForward (set next i (get_or heads f None))
    forward-add p q is =
        let long : length (set next i (get_or heads f None)) ≡ length next = length-set next i (get_or heads f None) in
        elim (cases_Bool (nat_eq p i)) [
          | inl e ↦
              let same : p ≡ i = eqb-true p i e in
              let here : get_or (set next i (get_or heads f None)) p None ≡ get_or heads f None =
              ap (λ n. get_or (set next i (get_or heads f None)) n None) same ∙ get_or-set_same next i (get_or heads f None) None i_next in
              let (from, below) = chained.heads_from f q (sym here ∙ is) in
              (omega (arith, from, same), omega (arith, below, long))
          | inr e ↦
              let old : get_or next p None ≡ Some q = sym (get_or-set_other next i p (get_or heads f None) None (λ same. false≢true (sym e ∙ eq-eqb p i same))) ∙ is in
              let (up, below) = chained.forward p q old in
              (up, omega (arith, below, long))
        ]

    above : (p : ℕ) → All (λ n. i + 1 ≤ n) (numbers_at (is_number p) (i + 1) (drop (i + 1) firsts))
    above p = numbers_at-from (is_number p) (i + 1) (drop (i + 1) firsts) (i + 1) (omega arith)

    runs-old : (p : ℕ) → p < length firsts
        → RunsThrough (set next i (get_or heads f None)) (get_or heads p None) (numbers_at (is_number p) (i + 1) (drop (i + 1) firsts))
    runs-old p below = runs-frame next i (get_or heads f None) (get_or heads p None) _ (above p) (chained.runs p below)

    runs-add : (p : ℕ) → p < length firsts
        → RunsThrough (set next i (get_or heads f None)) (get_or (set heads f (Some i)) p None) (numbers_at (is_number p) i (Some f ∷ drop (i + 1) firsts))
    runs-add p below =
        elim (cases_Bool (nat_eq p f)) [
          | inl e ↦
              let same : p ≡ f = eqb-true p f e in
              let here : get_or (set heads f (Some i)) p None ≡ Some i = ap (λ n. get_or (set heads f (Some i)) n None) same ∙ get_or-set_same heads f (Some i) None f_heads in
              let behind : get_or heads p None ≡ get_or (set next i (get_or heads f None)) i None =
              ap (λ n. get_or heads n None) same ∙ sym (get_or-set_same next i (get_or heads f None) None i_next) in
              subst (RunsThrough (set next i (get_or heads f None)) (get_or (set heads f (Some i)) p None)) (sym (cond-true _ _ _ e))
              (here, subst (λ a. RunsThrough (set next i (get_or heads f None)) a (numbers_at (is_number p) (i + 1) (drop (i + 1) firsts))) behind (runs-old p below))
          | inr e ↦
              let other : get_or heads p None ≡ get_or (set heads f (Some i)) p None =
              sym (get_or-set_other heads f p (Some i) None (λ same. false≢true (sym e ∙ eq-eqb p f same))) in
              subst (RunsThrough (set next i (get_or heads f None)) (get_or (set heads f (Some i)) p None)) (sym (cond-false _ _ _ e))
              (subst (λ a. RunsThrough (set next i (get_or heads f None)) a (numbers_at (is_number p) (i + 1) (drop (i + 1) firsts))) other (runs-old p below))
        ]

    -- a place of a suspect comes before the others of it
    pub chained-add : IsChained firsts i (set heads f (Some i)) (set next i (get_or heads f None))
    chained-add = record {
      heads_long = length-set heads f (Some i) ∙ chained.heads_long;
      next_long = length-set next i (get_or heads f None) ∙ chained.next_long;
      heads_from = heads_from-add;
      forward = forward-add;
      runs = λ p below. subst (λ rest. RunsThrough (set next i (get_or heads f None)) (get_or (set heads f (Some i)) p None) (numbers_at (is_number p) i rest))
          (sym (drop-at firsts i (Some f) within (sym first ∙ get_or_default firsts i None (Some f) within))) (runs-add p below);
    }

-- what was followed of a chain, and where it goes on
pub record Follows (next : List (Option ℕ)) (start : Option ℕ) (places : List ℕ) (at : Option ℕ) (list : List ℕ) : Type 0 where
  pub rest : List ℕ
  pub joined : places ++ rest ≡ list
  pub runs : RunsThrough next at rest

-- nothing was followed
pub follows-none : (next : List (Option ℕ)) (start : Option ℕ) (list : List ℕ) → RunsThrough next start list → Follows next start [] start list
follows-none next start list runs = record { rest = list; joined = refl; runs = runs }

-- one number more
pub follows-next : (next : List (Option ℕ)) (start : Option ℕ) (places : List ℕ) (at : Option ℕ) (place : ℕ) (list : List ℕ) → at ≡ Some place
    → Follows next start places at list → Follows next start (places ++ place ∷ []) (get_or next place None) list
follows-next next start places at place list is f = step f.rest f.joined f.runs
  where
    step : (rest : List ℕ) → places ++ rest ≡ list → RunsThrough next at rest → Follows next start (places ++ place ∷ []) (get_or next place None) list
    step [] joined runs = absurd (none-some place (sym runs ∙ is))
    step (n ∷ more) joined runs =
        let same : n ≡ place = same_Some n place (sym runs.0 ∙ is) in
        record {
          rest = more;
          joined = append_assoc places (place ∷ []) more ∙ ap (λ m. places ++ m ∷ more) (sym same) ∙ joined;
          runs = subst (λ m. RunsThrough next (get_or next m None) more) same runs.1;
        }

-- the end of a chain
pub follows-end : (next : List (Option ℕ)) (start : Option ℕ) (places : List ℕ) (at : Option ℕ) (list : List ℕ) → at ≡ None
    → Follows next start places at list → places ≡ list
follows-end next start places at list is f = step f.rest f.joined f.runs
  where
    step : (rest : List ℕ) → places ++ rest ≡ list → RunsThrough next at rest → places ≡ list
    step [] joined runs = sym (append-nil places) ∙ joined
    step (n ∷ more) joined runs = absurd (none-some n (sym is ∙ runs.0))

-- a first is below the end of the list
first_at-below : {A : Type 0} (test : A → Bool) (at : ℕ) (xs : List A) (number : ℕ) → first_at test at xs ≡ Some number → number < at + length xs
first_at-below test at [] number is = absurd (none-some number is)
first_at-below test at (x ∷ xs) number is =
    elim (cases_Bool (test x)) [
      | inl e ↦
          let same : at ≡ number = same_Some at number (sym (cond-true _ _ _ e) ∙ is) in
          omega (arith, same)
      | inr e ↦
          let later : number < at + 1 + length xs = first_at-below test (at + 1) xs number (sym (cond-false _ _ _ e) ∙ is) in
          omega (arith, later)
    ]

first_by-below : {K : Type 0} (same : K → K → Bool) (keys : List (Option K)) (key : Option K) (number : ℕ) → first_by same keys key ≡ Some number → number < length keys
first_by-below same keys None number is = absurd (none-some number is)
first_by-below same keys (Some k) number is =
    let below : number < 0 + length keys = first_at-below (is_same same k) 0 keys number is in
    omega (arith, below)

-- each place is given a place
pub firsts-within : {K : Type 0} (same : K → K → Bool) (keys : List (Option K)) (firsts : List (Option ℕ)) → firsts ≡ firsts_by same keys → PointsWithin (length firsts) firsts
firsts-within same keys firsts is = subst (λ xs. PointsWithin (length xs) xs) (sym is) within
  where
    long : length (firsts_by same keys) ≡ length keys
    long = length-map keys (first_by same keys)

    within : PointsWithin (length (firsts_by same keys)) (firsts_by same keys)
    within p q there =
        elim (cases_lt p (length keys)) [
          | inl below ↦
              let at : get_or (firsts_by same keys) p None ≡ first_by same keys (get_or keys p None) = get_or-map (first_by same keys) keys p None None below in
              let h : q < length keys = first_by-below same keys (get_or keys p None) q (sym at ∙ there) in
              omega (arith, h, long)
          | inr past ↦ absurd (none-some q (sym (get_or_past (firsts_by same keys) p None (omega (arith, past, long))) ∙ there))
        ]

-- one number more, by what the code read
pub follows-on : (next : List (Option ℕ)) (start : Option ℕ) (places after : List ℕ) (at to : Option ℕ) (place : ℕ) (list : List ℕ) → at ≡ Some place
    → after ≡ places ++ place ∷ [] → to ≡ get_or next place None → Follows next start places at list → Follows next start after to list
follows-on next start places after at to place list is appended goes f =
    subst (λ (numbers : List ℕ). Follows next start numbers to list) (sym appended)
    (subst (λ a. Follows next start (places ++ place ∷ []) a list) (sym goes) (follows-next next start places at place list is f))

-- how far a number is from the end
abbrev pub far : ℕ → Option ℕ → ℕ
far count at = option_map_or (λ p. count - p) at 0

-- the next is nearer
pub far-next : (count : ℕ) (at to : Option ℕ) (place : ℕ) → at ≡ Some place → place < count → ((q : ℕ) → to ≡ Some q → place < q) → far count to < far count at
far-next count at None place is within up = rw is (omega (arith, within))
far-next count at (Some q) place is within up = let h : place < q = up q refl in rw is (omega (arith, within, h))

-- what is read, with `None` where nothing is
pub read-none : {A : Type 0} (xs : List (Option A)) (i : ℕ) (x : Option A) → i < length xs → x ≡ get_or xs i x → x ≡ get_or xs i None
read-none xs i x within is = is ∙ get_or_default xs i x None within

-- nothing was followed yet
pub follows-begun : (next : List (Option ℕ)) (start at : Option ℕ) (places list : List ℕ) → places ≡ [] → at ≡ start → RunsThrough next start list → Follows next start places at list
follows-begun next start at places list empty here runs =
    subst (λ (numbers : List ℕ). Follows next start numbers at list) (sym empty) (subst (λ a. Follows next start [] a list) (sym here) (follows-none next start list runs))

-- what is no number is none
pub none-from : {A : Type 0} (x : Option A) → ((y : A) → x ≡ Some y → ⊥) → x ≡ None
none-from None other = refl
none-from (Some y) other = absurd (other y refl)

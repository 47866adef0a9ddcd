-- Walks along numbers that each need the next one, and the circle that closes one.
use Rattle.std.proofs.Common.{ℕ, zero, suc, ◌≡◌, ◌<◌, ◌≤◌, ◌-◌, List, [], ◌∷◌, ◌++◌, length, get_or, take, drop, length-drop, Bool, true, false, sym, ◌∙◌, ap, subst, arith, eq-eqb, ◌⊎◌, inl, inr}
use Rattle.std.proofs.Math.ListN.{set}
use Rattle.std.specs.Prelude.{◌==◌, ◌||◌, Contains}
use Rattle.std.proofs.lemmas.Bool.{cases_eq, or_cases}
use Rattle.std.proofs.lemmas.List.{get_or-set_same, get_or-set_other, length-set, take_all}
use Rattle.loc_base.proofs.ShelfLists.{All-member}
use Rattle.loc_base.proofs.ShelfBools.{equal-true, equal-false, or-false, or-true}
use Rattle.design_core.specs.Order.{Leads}
use Rattle.design_order.specs.Circle.{IsCircleOf}
use Rattle.design_order.specs.Rows.{AreWithin, Listed, row, has}
use Rattle.design_order.specs.Running.{LeadsTo, IsWalk}
use Rattle.design_order.proofs.Counting.{has-push, has-member}

-- who stands in a row is the number of one
pub row-within : (needs : List (List ℕ)) (i k : ℕ) → AreWithin needs → has (row needs i) k ≡ true → k < length needs
row-within needs i k within some = All-member (λ x. x < length needs) (row needs i) k (within.within i) (has-member (row needs i) k some)

leads-push : (D : ℕ → ℕ → Type 0) (path : List ℕ) (i last next : ℕ) → Leads D i path last → D last next → Leads D i (path ++ last ∷ []) next
leads-push D [] i last next leads on = (leads, on)
leads-push D (j ∷ path) i last next (first, rest) on = (first, leads-push D path j last next rest on)

leads_to-push : (D : ℕ → ℕ → Type 0) (path : List ℕ) (last next : ℕ) → LeadsTo D path last → D last next → LeadsTo D (path ++ last ∷ []) next
leads_to-push D [] last next leads on = on
leads_to-push D (i ∷ path) last next leads on = leads-push D path i last next leads on

-- from a place on where the number stands to which it leads
pub circle-suffix : (D : ℕ → ℕ → Type 0) (n : ℕ) (path : List ℕ) (place number : ℕ) → place < length path → get_or path place 0 ≡ number → LeadsTo D path number → number < n
    → IsCircleOf D n (drop place path)
circle-suffix D n [] place number below at leads within = absurd (omega (arith, below))
circle-suffix D n (i ∷ path) zero number below at leads within =
    subst (λ k. IsCircleOf D n (k ∷ path)) (sym at) (within, subst (λ k. Leads D k path number) at leads)
circle-suffix D n (i ∷ []) (suc place) number below at leads within = absurd (omega (arith, below))
circle-suffix D n (i ∷ j ∷ path) (suc place) number below at (first, rest) within =
    circle-suffix D n (j ∷ path) place number (omega (arith, below)) at rest within

-- what a slice's end copies
pub suffix-items : (slice path copy : List ℕ) (place : ℕ) → slice ≡ path → copy ≡ take (length slice - place) (drop place slice) → copy ≡ drop place path
suffix-items slice path copy place same is =
    let short : length (drop place slice) ≤ length slice - place = omega (arith, length-drop place slice) in
    is ∙ take_all (length slice - place) (drop place slice) short ∙ ap (drop place) same

-- one step of a walk
pub walk-step : (needs : List (List ℕ)) (taken met : List Bool) (path next_path : List ℕ) (number next : ℕ) → AreWithin needs → IsWalk needs taken met path number
    → next_path ≡ path ++ number ∷ [] → Contains (row needs number) next → get_or taken next false ≡ false
    → IsWalk needs taken (set met number true) next_path next
walk-step needs taken met path next_path number next within w is listed left =
    let step : IsWalk needs taken (set met number true) (path ++ number ∷ []) next =
    record {
      within = All-member (λ x. x < length needs) (row needs number) next (within.within number) listed;
      left = left;
      long = length-set met number true ∙ w.long;
      on_path = λ k. on_path k (cases_eq k number);
      path_within = λ k some. path_within k (or_cases (has path k) (number == k) (sym (has-push path number k) ∙ some));
      leads = leads_to-push (Listed needs) path number next w.leads listed;
    } in
    subst (λ p. IsWalk needs taken (set met number true) p next) (sym is) step
  where
    path_within : (k : ℕ) → (has path k ≡ true) ⊎ ((number == k) ≡ true) → k < length needs
    path_within k (inl before) = w.path_within k before
    path_within k (inr here) = subst (λ n. n < length needs) (equal-true number k here) w.within

    on_path : (k : ℕ) → (k ≡ number) ⊎ (k ≡ number → ⊥) → get_or (set met number true) k false ≡ has (path ++ number ∷ []) k
    on_path k (inl same) =
        ap (λ q. get_or (set met number true) q false) same
        ∙ get_or-set_same met number true false (subst (λ n. number < n) (sym w.long) w.within)
        ∙ sym (has-push path number k ∙ ap (λ b. has path k || b) (eq-eqb number k (sym same)) ∙ or-true (has path k))
    on_path k (inr apart) =
        get_or-set_other met number k true false apart ∙ w.on_path k
        ∙ sym (has-push path number k ∙ ap (λ b. has path k || b) (equal-false number k (λ e. apart (sym e))) ∙ or-false (has path k))

-- Steps of the loops over suspects and their places.
use Rattle.std.proofs.Common.{◌≡◌, ℕ, zero, suc, ◌+◌, ◌<◌, ◌≤◌, ◌≢◌, ◌⊎◌, inl, inr, ◌==◌, ◌||◌, Bool, true, false, List, [], ◌∷◌, ◌++◌, length, get_or, take, refl, sym, ◌∙◌, ap}
use Rattle.std.proofs.Math.ListN.{set}
use Rattle.std.specs.List.{list_any}
use Rattle.std.proofs.lemmas.List.{take_all, get_or-set_other}
use Rattle.std.proofs.lemmas.Bool.Decides.{eqb_tells}
use Rattle.std.proofs.lemmas.Grind.{get_or-set_at}
use Rattle.std.proofs.lemmas.List.Folds.{list_any_more}
use Rattle.suspect_map.specs.declared.group.Group.{Group}
use Rattle.unroller.specs.Unrolls.{is_grouped}

-- a list reads the same with one more entry that is what is read behind its last
pub get_or-push_default : {X : Type 0} (xs : List X) (d : X) (p : ℕ) → get_or (xs ++ d ∷ []) p d ≡ get_or xs p d
get_or-push_default [] d zero = refl
get_or-push_default [] d (suc p) = refl
get_or-push_default (x ∷ xs) d zero = refl
get_or-push_default (x ∷ xs) d (suc p) = get_or-push_default xs d p

-- an entry that is set to true
pub get_or-set_true : (xs : List Bool) (i p : ℕ) → i < length xs → get_or (set xs i true) p false ≡ ((i == p) || get_or xs p false)
get_or-set_true xs i p within = at (eqb_tells i p)
  where
    at : ((i == p ≡ true) × (i ≡ p)) ⊎ ((i == p ≡ false) × (i ≢ p)) → get_or (set xs i true) p false ≡ ((i == p) || get_or xs p false)
    at (inl (is, same)) = get_or-set_at xs i p true false (sym same) within ∙ sym (ap (λ b. b || get_or xs p false) is)
    at (inr (is, apart)) = get_or-set_other xs i p true false (λ e. apart (sym e)) ∙ sym (ap (λ b. b || get_or xs p false) is)

pub ruleset longer = (get_or-push_default)

pub ruleset marks = (get_or-set_true)

or-later : (a b c : Bool) → (b || (a || c)) ≡ ((a || b) || c)
or-later true true c = refl
or-later true false c = refl
or-later false true c = refl
or-later false false c = refl

-- one more place of a group
pub places-more : (places : List ℕ) (i p : ℕ) (before : Bool) → i < length places
    → ((get_or places i 0 == p) || (list_any (λ q. q == p) (take i places) || before))
    ≡ (list_any (λ q. q == p) (take (i + 1) places) || before)
places-more places i p before within =
    or-later (list_any (λ q. q == p) (take i places)) (get_or places i 0 == p) before
    ∙ ap (λ b. b || before) (sym (list_any_more (λ q. q == p) places i 0 within))

pub places-end : (places : List ℕ) (i p : ℕ) (before : Bool) → length places ≤ i
    → (list_any (λ q. q == p) (take i places) || before) ≡ (list_any (λ q. q == p) places || before)
places-end places i p before end = ap (λ qs. list_any (λ q. q == p) qs || before) (take_all i places end)

or-swap : (a b : Bool) → (b || a) ≡ (a || b)
or-swap true true = refl
or-swap true false = refl
or-swap false true = refl
or-swap false false = refl

-- one more group
pub groups-more : (groups : List Group) (i p : ℕ) (group : Group) → i < length groups → group ≡ get_or groups i group
    → (list_any (λ q. q == p) group.places || is_grouped (take i groups) p) ≡ is_grouped (take (i + 1) groups) p
groups-more groups i p group within is =
    or-swap (is_grouped (take i groups) p) (list_any (λ q. q == p) group.places)
    ∙ ap (λ g. is_grouped (take i groups) p || list_any (λ q. q == p) g.places) is
    ∙ sym (list_any_more (λ g. list_any (λ q. q == p) g.places) groups i group within)

pub groups-end : (groups : List Group) (i p : ℕ) → length groups ≤ i → is_grouped (take i groups) p ≡ is_grouped groups p
groups-end groups i p end = ap (λ gs. is_grouped gs p) (take_all i groups end)

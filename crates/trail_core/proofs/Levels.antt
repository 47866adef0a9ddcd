-- The decision levels of the entries, and the entries up to a level.
use Rattle.std.proofs.Common.{◌≡◌, ℕ, ◌+◌, ◌<◌, ◌≤◌, leb, List, length, get_or, take, refl, arith}
use Rattle.std.proofs.lemmas.Bool.{leb-true, le-leb}
use Rattle.std.proofs.lemmas.List.{take_all}
use Rattle.std.proofs.lemmas.List.Sums.{length-filter, count_by-le-length}
use Rattle.trail_core.specs.declared.entry.Entry.{Entry}
use Rattle.trail_core.specs.TrailState.{is_decision, decisions, up_to}
use Rattle.trail_core.proofs.Lists.{filter_front, filter_all, filter-filter, count_by-take-le}

-- an entry's level is the number of decisions up to and including it
abbrev pub IsLeveled : List Entry → Type 0
IsLeveled es = (place : ℕ) (d : Entry) → place < length es → (get_or es place d).decision_level ≡ decisions (take (place + 1) es)

-- levels never fall
pub level_le : (es : List Entry) → IsLeveled es → (i j : ℕ) (d : Entry) → i ≤ j → j < length es → (get_or es i d).decision_level ≤ (get_or es j d).decision_level
level_le es h i j d l m = omega (arith, h i d (omega arith), h j d m, count_by-take-le is_decision es (i + 1) (j + 1) (omega arith))

-- each level is at most the number of all decisions
pub level_le_all : (es : List Entry) → IsLeveled es → (i : ℕ) (d : Entry) → i < length es → (get_or es i d).decision_level ≤ decisions es
level_le_all es h i d l =
    let e : decisions (take (length es) es) ≡ decisions es = rw (take_all (length es) es (omega arith)) refl in
    omega (arith, h i d l, e, count_by-take-le is_decision es (i + 1) (length es) (omega arith))

-- the entries up to a level are a front
pub up_to_front : (es : List Entry) (k : ℕ) → IsLeveled es → up_to k es ≡ take (length (up_to k es)) es
up_to_front es k h =
    filter_front (λ e. leb e.decision_level k) es
    (λ i j d l m t. le-leb _ _ (omega (arith, level_le es h i j d l m, leb-true (get_or es j d).decision_level k t)))

pub up_to-length : (es : List Entry) (k : ℕ) → length (up_to k es) ≤ length es
up_to-length es k = rw (length-filter (λ e. leb e.decision_level k) es) (count_by-le-length (λ e. leb e.decision_level k) es)

-- all entries are up to the number of all decisions
pub up_to_all : (es : List Entry) (k : ℕ) → IsLeveled es → decisions es ≤ k → up_to k es ≡ es
up_to_all es k h l = filter_all (λ e. leb e.decision_level k) es (λ i d m. le-leb _ _ (omega (arith, level_le_all es h i d m)))

-- going back twice
pub up_to-up_to : (es : List Entry) (j k : ℕ) → j ≤ k → up_to j (up_to k es) ≡ up_to j es
up_to-up_to es j k l = filter-filter (λ e. leb e.decision_level j) (λ e. leb e.decision_level k) es (λ e t. le-leb _ _ (omega (arith, leb-true e.decision_level j t)))

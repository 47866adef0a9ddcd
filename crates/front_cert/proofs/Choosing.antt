-- Assignments that select a set: how many selectors are true, and which blocks they meet.
use Rattle.std.proofs.Common.{◌≡◌, ◌⊎◌, inl, inr, ℕ, zero, suc, ◌+◌, ◌<◌, ◌≤◌, Bool, true, false, cond, not, List, [], ◌∷◌, length, map, get_or}
use Rattle.std.proofs.Common.{refl, ap, ◌∙◌, subst, arith}
use Rattle.std.specs.Prelude.{◌↔◌, All, Contains}
use Rattle.std.proofs.lemmas.Bool.{cases_lt, false_from_ne_true, or_left, or_right}
use Rattle.std.proofs.lemmas.List.Elements.{All-cons, All-head, All-nil, All-tail}
use Rattle.std.proofs.lemmas.List.Sums.{sum_by-cons}
use Rattle.loc_base.proofs.ShelfLists.{All-member, Contains-cons, Contains-empty, Contains-first, Contains-later}
use Rattle.clause_base.specs.declared.literal.Lit.{Lit}
use Rattle.clause_base.specs.Literal.{negative, positive}
use Rattle.clause_base.specs.Satisfaction.{Satisfies, SatisfiesClause, is_satisfied, value_of}
use Rattle.card_counter.specs.InForm.{literals_from}
use Rattle.card_counter.specs.Means.{true_count}
use Rattle.design_core.specs.Works.{IsWithin}
use Rattle.front_cert.specs.Fronts.{Selects, block}
use Rattle.front_cert.proofs.Ascending.{Rises, rises-above}

-- of so many variables from one on the assignment makes true those of the set, which are among them
record Chooses (a : ℕ → Bool) (first count : ℕ) (set : List ℕ) : Type 0 where
  each : (v : ℕ) → first ≤ v → v < first + count → (a v ≡ true) ↔ Contains set v
  range : (v : ℕ) → Contains set v → (first ≤ v) × (v < first + count)

counted : (a : ℕ → Bool) (first count : ℕ) (b : Bool) (rest : ℕ) → a first ≡ b → true_count a (literals_from (first + 1) count) ≡ rest → true_count a (literals_from first (suc count)) ≡ cond b 1 0 + rest
counted a first count b rest is more =
    let split : true_count a (literals_from first (suc count)) ≡ cond (a first) 1 0 + true_count a (literals_from (first + 1) count) =
    sum_by-cons (λ (l : Lit). cond (value_of a l) 1 0) (positive first) (literals_from (first + 1) count) in
    split ∙ (ap (λ (c : Bool). cond c 1 0 + true_count a (literals_from (first + 1) count)) is ∙ ap (λ (m : ℕ). cond b 1 0 + m) more)

chooses-later : (a : ℕ → Bool) (first count : ℕ) (set : List ℕ) → Chooses a first (suc count) set → (Contains set first → ⊥) → Chooses a (first + 1) count set
chooses-later a first count set of lacks = record {
  each = λ v low high. of.each v (omega (arith, low)) (omega (arith, high));
  range = λ v member.
      let within = of.range v member in
      ((elim (cases_lt first v) [ inl less ↦ omega (arith, less) | inr most ↦ absurd (let same : v ≡ first = omega (arith, within.0, most) in lacks (subst (Contains set) same member)) ]), omega (arith, within.1));
}

chooses-rest : (a : ℕ → Bool) (first count m : ℕ) (set : List ℕ) → Rises m set → m ≡ first → Chooses a first (suc count) (m ∷ set) → Chooses a (first + 1) count set
chooses-rest a first count m set rise same of = record {
  each = λ v low high. let tells = of.each v (omega (arith, low)) (omega (arith, high)) in
      (λ is_so. (elim (Contains-cons m set v (tells.0 is_so)) [ inl equal ↦ absurd (omega (arith, low, same, equal)) | inr later ↦ later ]), λ member. tells.1 (Contains-later m set v member));
  range = λ v member. let above = rises-above m set rise v member in let within = of.range v (Contains-later m set v member) in (omega (arith, above, same), omega (arith, within.1));
}

count-chosen : (a : ℕ → Bool) (first count low : ℕ) (set : List ℕ) → Rises low set → Chooses a first count set → true_count a (literals_from first count) ≡ length set
count-chosen a first zero low [] rise of = refl
count-chosen a first zero low (m ∷ set) rise of = absurd (let within = of.range m (Contains-first m set) in omega (arith, within.0, within.1))
count-chosen a first (suc count) low [] rise of =
    counted a first count false 0 (false_from_ne_true (a first) (λ is_so. Contains-empty first ((of.each first (omega arith) (omega arith)).0 is_so)))
    (count-chosen a (first + 1) count low [] rise (chooses-later a first count [] of (λ member. Contains-empty first member)))
count-chosen a first (suc count) low (m ∷ set) rise of =
    at (cases_lt first m) (λ same. count-chosen a (first + 1) count m set rise.1 (chooses-rest a first count m set rise.1 same of))
    (λ lacks. count-chosen a (first + 1) count low (m ∷ set) rise (chooses-later a first count (m ∷ set) of lacks))
  where
    lacks-first : first < m → Contains (m ∷ set) first → ⊥
    lacks-first small member =
        (elim (Contains-cons m set first member) [ inl same ↦ omega (arith, small, same) | inr later ↦ let above = rises-above m set rise.1 first later in omega (arith, small, above) ])

    at : (first < m) ⊎ (m ≤ first) → (m ≡ first → true_count a (literals_from (first + 1) count) ≡ length set)
        → ((Contains (m ∷ set) first → ⊥) → true_count a (literals_from (first + 1) count) ≡ length (m ∷ set)) → true_count a (literals_from first (suc count)) ≡ length (m ∷ set)
    at (inl small) here later =
        counted a first count false (length (m ∷ set)) (false_from_ne_true (a first) (λ is_so. lacks-first small ((of.each first (omega arith) (omega arith)).0 is_so))) (later (lacks-first small)) ∙ omega arith
    at (inr most) here later =
        let within = of.range m (Contains-first m set) in
        let same : m ≡ first = omega (arith, most, within.0) in
        let is_so : a first ≡ true = (of.each first (omega arith) (omega arith)).1 (subst (Contains (m ∷ set)) same (Contains-first m set)) in
        counted a first count true (length set) is_so (here same) ∙ omega arith

-- an assignment that selects a set makes as many selectors true
pub selected-count : (a : ℕ → Bool) (n : ℕ) (set : List ℕ) → Rises 0 set → All (λ m. (1 ≤ m) × (m ≤ n)) set → Selects a n set → true_count a (literals_from 1 n) ≡ length set
selected-count a n set rise members selects = count-chosen a 1 n 0 set rise (record {
  each = λ v low high. selects v low (omega (arith, high));
  range = λ v member. let within : (1 ≤ v) × (v ≤ n) = All-member (λ (m : ℕ). (1 ≤ m) × (m ≤ n)) set v members member in (within.0, omega (arith, within.1));
})

-- all members are true, or the block is met
block-cases : (a : ℕ → Bool) (set : List ℕ) → All (λ m. a m ≡ true) set ⊎ SatisfiesClause a (block set)
block-cases a [] = inl (All-nil (λ m. a m ≡ true))
block-cases a (m ∷ set) = at (a m) refl (block-cases a set)
  where
    at : (b : Bool) → a m ≡ b → All (λ x. a x ≡ true) set ⊎ SatisfiesClause a (block set) → All (λ x. a x ≡ true) (m ∷ set) ⊎ SatisfiesClause a (block (m ∷ set))
    at true is (inl rest) = inl (All-cons (λ x. a x ≡ true) m set is rest)
    at true is (inr met) = inr (or_right (not (a m)) (is_satisfied a (block set)) met)
    at false is rest = inr (or_left (not (a m)) (is_satisfied a (block set)) (ap not is))

-- a listed set all of whose members are true
pub record AllTrue (a : ℕ → Bool) (listed : List (List ℕ)) : Type 0 where
  pub set : List ℕ
  pub there : Contains listed set
  pub true_there : All (λ m. a m ≡ true) set

-- there is one, or all blocks are met
pub met-or-true : (a : ℕ → Bool) (listed : List (List ℕ)) → Satisfies a (map block listed) ⊎ AllTrue a listed
met-or-true a [] = inl (All-nil (SatisfiesClause a))
met-or-true a (set ∷ listed) = at (block-cases a set) (met-or-true a listed)
  where
    at : All (λ m. a m ≡ true) set ⊎ SatisfiesClause a (block set) → Satisfies a (map block listed) ⊎ AllTrue a listed → Satisfies a (map block (set ∷ listed)) ⊎ AllTrue a (set ∷ listed)
    at (inl all) rest = inr (record { set = set; there = Contains-first set listed; true_there = all })
    at (inr met) (inl rest) = inl (All-cons (SatisfiesClause a) (block set) (map block listed) met rest)
    at (inr met) (inr found) = inr (record { set = found.set; there = Contains-later set listed found.set found.there; true_there = found.true_there })

-- its members are among those that are selected
pub true-within : (a : ℕ → Bool) (n : ℕ) (set inner : List ℕ) → Selects a n set → All (λ m. (1 ≤ m) × (m ≤ n)) inner → All (λ m. a m ≡ true) inner → IsWithin inner set
true-within a n set inner selects members all place default inside =
    let within = members place default inside in
    (selects (get_or inner place default) within.0 within.1).0 (all place default inside)

-- a block names selectors alone
pub block-selectors : (n : ℕ) (set : List ℕ) → All (λ m. (1 ≤ m) × (m ≤ n)) set → All (λ (l : Lit). l.var < n + 1) (block set)
block-selectors n [] members = All-nil (λ (l : Lit). l.var < n + 1)
block-selectors n (m ∷ set) members =
    let first = All-head (λ (v : ℕ). (1 ≤ v) × (v ≤ n)) m set members in
    All-cons (λ (l : Lit). l.var < n + 1) (negative m) (block set) (omega (arith, first.1)) (block-selectors n set (All-tail (λ (v : ℕ). (1 ≤ v) × (v ≤ n)) m set members))

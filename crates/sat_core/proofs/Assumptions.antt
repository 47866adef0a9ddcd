-- Literals of distinct variables are at most as many as there are variables.
use Rattle.std.proofs.Common.{◌≡◌, ℕ, ◌+◌, ◌<◌, ◌≤◌, true, false, not, eqb, List, [], ◌∷◌, map, length, sym, arith, ⊎_elim}
use Rattle.std.specs.List.{AllByRecursion, IsDistinct, list_any}
use Rattle.std.proofs.lemmas.Bool.{false≢true, and_parts, or_cases, or_parts, not-true, eqb-true, eqb-false, ne_eqb}
use Rattle.std.proofs.lemmas.List.{length-map}
use Rattle.std.proofs.lemmas.List.Elements.{All-head, All-tail}
use Rattle.std.proofs.lemmas.Map.Steps.{length-le_from_distinct_below}
use Rattle.clause_base.specs.declared.literal.Lit.{Lit}
use Rattle.clause_base.specs.Literal.{has_variable, has_distinct_variables, IsWithin}

other_variable : (v : ℕ) (ls : List Lit) → has_variable ls v ≡ false → AllByRecursion (λ y. eqb v y ≡ false) (map (λ (l : Lit). l.var) ls)
other_variable v [] h = tt
other_variable v (x ∷ ls) h =
    let parts = or_parts (eqb x.var v) (has_variable ls v) h in
    (ne_eqb v x.var (λ e. eqb-false x.var v parts.0 (sym e)), other_variable v ls parts.1)

variables_distinct : (ls : List Lit) → has_distinct_variables ls ≡ true → IsDistinct eqb (map (λ (l : Lit). l.var) ls)
unfolding IsDistinct
variables_distinct [] h = tt
variables_distinct (x ∷ ls) h =
    let parts = and_parts (not (has_variable ls x.var)) (has_distinct_variables ls) h in
    (other_variable x.var ls (not-true (has_variable ls x.var) parts.0), variables_distinct ls parts.1)

variables_below : (vars : ℕ) (ls : List Lit) → IsWithin vars ls → (q : ℕ) → list_any (eqb q) (map (λ (l : Lit). l.var) ls) ≡ true → q < vars + 1
variables_below vars [] w q h = absurd (false≢true h)
variables_below vars (x ∷ ls) w q h = ⊎_elim
    (λ y. let e : q ≡ x.var = eqb-true q x.var y in omega (arith, e, (All-head (λ (l : Lit). (1 ≤ l.var) × (l.var ≤ vars)) x ls w).1))
    (λ y. variables_below vars ls (All-tail (λ (l : Lit). (1 ≤ l.var) × (l.var ≤ vars)) x ls w) q y)
    (or_cases (eqb q x.var) (list_any (eqb q) (map (λ (l : Lit). l.var) ls)) h)

pub few_literals : (vars : ℕ) (ls : List Lit) → IsWithin vars ls → has_distinct_variables ls ≡ true → length ls ≤ vars + 1
few_literals vars ls w d =
    omega (arith, length-map ls (λ (l : Lit). l.var), length-le_from_distinct_below (map (λ (l : Lit). l.var) ls) (vars + 1) (variables_distinct ls d) (variables_below vars ls w))

-- The clauses of an AND whose literals are no constants.
use Rattle.std.proofs.Common.{◌≡◌, ℕ, ◌+◌, ◌<◌, ◌^◌, Bool, true, false, List, [], ◌∷◌, ◌++◌, length, Some, refl, sym, subst, ◌∙◌, ap, arith}
use Rattle.std.specs.Prelude.{IsTrue}
use Rattle.std.proofs.lemmas.List.Elements.{All-append}
use Rattle.loc_base.proofs.ShelfOptions.{Some-same}
use Rattle.clause_base.specs.declared.literal.Lit.{Lit}
use Rattle.clause_base.specs.Literal.{AllDistinct, has_distinct_variables}
use Rattle.clause_base.specs.Literal.{opposite as negated_of}
use Rattle.gate_base.specs.declared.literal.Literal.{Literal}
use Rattle.gate_base.specs.declared.literal.Literal.TheVariants.{Known, Of}
use Rattle.gate_base.specs.declared.node.Node.TheVariants.{And}
use Rattle.gate_base.specs.Literals.{opposite, IsBelow}
use Rattle.gate_base.specs.Nodes.{NodeFits}
use Rattle.clause_form.specs.Clauses.{simplified, clause_of, and_clauses, defined, literals_in}
use Rattle.clause_form.specs.Named.{named_from, skips_three}
use Rattle.clause_form.specs.Variables.{HaveVariables, gate_clauses, literal_of}
use Rattle.clause_form.proofs.NamedSteps.{then-named, skipped-three}
use Rattle.clause_form.proofs.SinkSteps.{after-all}
use Rattle.clause_form.proofs.WalkSteps.{have-below}
use Rattle.clause_form.proofs.Distinct.{pair-distinct, triple-distinct}

-- ---- the clauses are those of an AND

pub gate-is : (base i : ℕ) (x y : Literal) (l r : Lit) → literal_of base x ≡ Some l → literal_of base y ≡ Some r
    → gate_clauses (defined base i false) l r ≡ and_clauses base i x y
unfolding gate_clauses and_clauses simplified opposite
gate-is base i (Known a) y l r is_l is_r = cc
gate-is base i (Of n s) (Known b) l r is_l is_r = cc
gate-is base i (Of n s) (Of m t) l r is_l is_r =
    subst (λ (p : Lit). gate_clauses (defined base i false) p r ≡ and_clauses base i (Of n s) (Of m t)) (Some-same is_l)
    (subst (λ (q : Lit). gate_clauses (defined base i false) (defined base n s) q ≡ and_clauses base i (Of n s) (Of m t)) (Some-same is_r) refl)

-- ---- of distinct variables

all-three : (a b c : List (List Lit)) → AllDistinct a → AllDistinct b → AllDistinct c → AllDistinct (a ++ (b ++ c))
all-three a b c one two three =
    All-append (λ clause. IsTrue (has_distinct_variables clause)) a (b ++ c) one (All-append (λ clause. IsTrue (has_distinct_variables clause)) b c two three)

pub gate-distinct : (base i : ℕ) (x y : Literal) (l r : Lit) → NodeFits i (And x y) → literal_of base x ≡ Some l → literal_of base y ≡ Some r
    → AllDistinct (gate_clauses (defined base i false) l r)
unfolding and_clauses
gate-distinct base i x y l r fits is_l is_r =
    subst AllDistinct (sym (gate-is base i x y l r is_l is_r))
    (all-three (clause_of base (Of i true ∷ x ∷ []) []) (clause_of base (Of i true ∷ y ∷ []) []) (clause_of base (Of i false ∷ opposite x ∷ opposite y ∷ []) [])
    (pair-distinct base i [] tt refl true x fits.0)
    (pair-distinct base i [] tt refl true y fits.1)
    (triple-distinct base i false x y fits.0 fits.1 fits.2))

-- each clause of a gate
pub gate-parts : (v x y : Lit) → AllDistinct (gate_clauses v x y)
    → (has_distinct_variables (negated_of v ∷ x ∷ []) ≡ true) × (has_distinct_variables (negated_of v ∷ y ∷ []) ≡ true) × (has_distinct_variables (v ∷ negated_of x ∷ negated_of y ∷ []) ≡ true)
unfolding gate_clauses
gate-parts v x y all = (all 0 [] (omega arith), all 1 [] (omega arith), all 2 [] (omega arith))

pub gate-kept : (named : List Bool) (v x y : Lit) (clauses one two three : List (List Lit))
    → one ≡ clauses ++ named_from named (length clauses) ((negated_of v ∷ x ∷ []) ∷ [])
    → two ≡ one ++ named_from named (length one) ((negated_of v ∷ y ∷ []) ∷ [])
    → three ≡ two ++ named_from named (length two) ((v ∷ negated_of x ∷ negated_of y ∷ []) ∷ [])
    → three ≡ clauses ++ named_from named (length clauses) (gate_clauses v x y)
unfolding gate_clauses
gate-kept named v x y clauses one two three is_one is_two is_three =
    then-named named clauses two three ((negated_of v ∷ x ∷ []) ∷ (negated_of v ∷ y ∷ []) ∷ []) ((v ∷ negated_of x ∷ negated_of y ∷ []) ∷ [])
    (then-named named clauses one two ((negated_of v ∷ x ∷ []) ∷ []) ((negated_of v ∷ y ∷ []) ∷ []) is_one is_two) is_three

pub gate-skipped : (named : List Bool) (v x y : Lit) (clauses next : List (List Lit)) → skips_three named (length clauses) ≡ true
    → next ≡ clauses ++ [] ∷ [] ∷ [] ∷ [] → next ≡ clauses ++ named_from named (length clauses) (gate_clauses v x y)
unfolding gate_clauses
gate-skipped named v x y clauses next skips is =
    is ∙ ap (λ cs. clauses ++ cs) (sym (skipped-three named (length clauses) (negated_of v ∷ x ∷ []) (negated_of v ∷ y ∷ []) (v ∷ negated_of x ∷ negated_of y ∷ []) skips))

pub ruleset kept = (gate-parts, gate-kept, gate-skipped)

-- ---- so many literals

pub gate-count : (v x y : Lit) → literals_in (gate_clauses v x y) ≡ 7
unfolding gate_clauses literals_in
gate-count v x y = refl

pub ruleset taken = (gate-count, after-all)

pub have-one : (base i : ℕ) (x : Literal) → IsBelow i x → base + i < 2 ^ 32 → HaveVariables base (x ∷ [])
have-one base i x below few = have-below base i x [] below (omega (arith, few)) tt

pub ruleset ands = (gate-is, gate-distinct, have-one)

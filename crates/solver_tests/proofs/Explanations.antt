-- What a test knows before it asks why a variable is false.
use Rattle.std.proofs.Common.{◌≡◌, ℕ, ◌<◌, false, eqb, List, [], ◌∷◌, length, get_or, Bool, Some, refl, sym, ap, ◌∙◌, subst}
use Rattle.std.specs.Prelude.{IsSome, Contains}
use Rattle.std.proofs.lemmas.Bool.{ne_eqb}
use Rattle.std.proofs.lemmas.List.{get_or_default}
use Rattle.loc_base.proofs.ShelfBools.{or-false}
use Rattle.clause_base.specs.Literal.{positive, has_variable}
use Rattle.sat_core.specs.SolverState.{SolverState, assignment_of}
use Rattle.sat_core.specs.Explaining.{assumptions, MayExplain}

-- under the assumption 5 a false variable at a place of the preferred ones may be explained
pub may_explain : (s : SolverState) (preferred : List ℕ) (model : List Bool) (place : ℕ) → s.told ≡ Some (positive 5 ∷ []) → s.preferred ≡ preferred → place < length preferred → model ≡ s.model → assignment_of model (get_or preferred place 0) ≡ false → (get_or preferred place 0 ≡ 5 → ⊥) → MayExplain s (get_or preferred place 0)
may_explain s preferred model place t p l m f n = record {
  told = subst IsSome (sym t) refl;
  preferred = subst (λ vs. Contains vs (get_or preferred place 0)) (sym p) (place, l, get_or_default preferred place (get_or preferred place 0) 0 l);
  is_false = ap (λ bs. assignment_of bs (get_or preferred place 0)) (sym m) ∙ f;
  free = ap (λ o. has_variable (assumptions o) (get_or preferred place 0)) t ∙ (or-false (eqb 5 (get_or preferred place 0)) ∙ ne_eqb 5 (get_or preferred place 0) (λ q. n (sym q)));
}

pub ruleset explaining = (may_explain)

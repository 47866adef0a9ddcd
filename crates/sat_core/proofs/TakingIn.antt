-- Taking the literals of a clause in, one by one.
use Rattle.std.proofs.Common.{◌≡◌, ℕ, ◌+◌, ◌-◌, ◌<◌, true, List, [], length, get_or, set, take, refl, sym, ◌∙◌, subst, ◌⊎◌}
use Rattle.clause_base.specs.declared.literal.Lit.{Lit}
use Rattle.trail_core.specs.Values.{IsVariable}
use Rattle.trail_core.specs.TrailState.{TrailState}
use Rattle.sat_core.specs.declared.analysis.Analysis.{Analysis}
use Rattle.sat_core.specs.Derivation.{marked, MarksOthers, Tracks}
use Rattle.sat_core.proofs.Marks.{MarksOthers-none, MarksOthers-kept_at, MarksOthers-more_at}

-- the analysis after the literals gone over were taken in
pub record TakesIn (t : TrailState) (old new : Analysis) (part : List Lit) (skip : ℕ) : Type 0 where
  pub chain : new.chain ≡ old.chain
  pub tracks : Tracks t new.marked.items new.literals.items new.present
  pub marks : MarksOthers old.marked.items new.marked.items part skip

pub TakesIn-none : (t : TrailState) (a : Analysis) (skip : ℕ) → Tracks t a.marked.items a.literals.items a.present → TakesIn t a a [] skip
TakesIn-none t a skip h = record { chain = refl; tracks = h; marks = MarksOthers-none a.marked.items skip }

pub TakesIn-kept : (t : TrailState) (old new after : Analysis) (literals : List Lit) (i : ℕ) (d : Lit) (skip : ℕ) → i < length literals → TakesIn t old new (take i literals) skip → (((get_or literals i d).var ≡ skip) ⊎ (marked new.marked.items (get_or literals i d).var ≡ true)) → after ≡ new → TakesIn t old after (take (i + 1) literals) skip
TakesIn-kept t old new after literals i d skip l h c e = subst (λ a. TakesIn t old a (take (i + 1) literals) skip) (sym e)
    record { chain = h.chain; tracks = h.tracks; marks = MarksOthers-kept_at old.marked.items new.marked.items new.marked.items literals i d skip l h.marks c refl }

pub TakesIn-more : (t : TrailState) (old new marking after : Analysis) (literals : List Lit) (i : ℕ) (d : Lit) (skip : ℕ) → i < length literals → TakesIn t old new (take i literals) skip → ((get_or literals i d).var ≡ skip → ⊥) → IsVariable (length old.marked.items) (get_or literals i d).var → marking.chain ≡ new.chain → Tracks t marking.marked.items marking.literals.items marking.present → marking.marked.items ≡ set new.marked.items ((get_or literals i d).var - 1) true → after ≡ marking → TakesIn t old after (take (i + 1) literals) skip
TakesIn-more t old new marking after literals i d skip l h n v c r m e = subst (λ a. TakesIn t old a (take (i + 1) literals) skip) (sym e)
    record { chain = c ∙ h.chain; tracks = r; marks = MarksOthers-more_at old.marked.items new.marked.items marking.marked.items literals i d skip l h.marks n v m }

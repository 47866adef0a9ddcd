-- One more variable in a table by scope and name.
use Rattle.std.proofs.Common.{◌≡◌, ℕ, ◌==◌, ◌&&◌, if◌then◌else◌, List, refl, sym, ◌∙◌, ap, inl, inr, Option, Some, None}
use Rattle.std.specs.Option.{option_or}
use Rattle.std.proofs.lemmas.Bool.{cases_Bool, cond-true, cond-false, and_parts}
use Rattle.loc_base.proofs.ShelfBools.{equal-true}
use Rattle.vcd_reading.specs.Commands.{same_bytes}
use Rattle.vcd_reading.specs.NameView.{with_first}
use Rattle.vcd_reading.proofs.ByteLaws.{same_means}

or_none : (o : Option ℕ) → o ≡ option_or o None
or_none None = refl
or_none (Some n) = refl

pub first_set : (numbers : ℕ → List ℕ → Option ℕ) (new : Option ℕ) (key_scope : ℕ) (key_name : List ℕ) (number scope : ℕ) (name : List ℕ)
    → numbers key_scope key_name ≡ None
    → new ≡ (if key_scope == scope && same_bytes key_name name then Some number else numbers scope name)
    → new ≡ with_first key_scope key_name number numbers scope name
first_set numbers new key_scope key_name number scope name none set =
    elim (cases_Bool (key_scope == scope && same_bytes key_name name)) [
      | inl here ↦
          let parts = and_parts (key_scope == scope) (same_bytes key_name name) here in
          let scopes = equal-true key_scope scope parts.0 in
          let names = same_means key_name name parts.1 in
          let old : numbers scope name ≡ None = sym (ap (λ s. numbers s key_name) scopes ∙ ap (numbers scope) names) ∙ none in
          set ∙ cond-true _ _ _ here ∙ sym (cond-true _ _ _ here) ∙ ap (λ o. option_or o (if key_scope == scope && same_bytes key_name name then Some number else None)) (sym old)
      | inr away ↦
          set ∙ cond-false _ _ _ away ∙ or_none (numbers scope name) ∙ ap (option_or (numbers scope name)) (sym (cond-false _ _ _ away))
    ]

-- A name that is refused as unknown, by what it is found to stand for.
use Rattle.std.proofs.Common.{◌≡◌, ℕ, Bool, false, ◌&&◌, not, List, Option, Some, None, sym, ap, ◌∙◌}
use Rattle.std.specs.Prelude.{if◌then◌else◌}
use Rattle.v_syntax.specs.Tree.{Selections}
use Rattle.v_sizes.specs.declared.meaning.Meaning.{Meaning}
use Rattle.v_sizes.specs.Look.{Look}
use Rattle.v_binding.specs.Names.{Names, find, look_in}
use Rattle.v_binding.specs.Unknown.{has_two, is_misused, is_outside, unknown_name}

abbrev judged : Names → List ℕ → Selections → Option Meaning → Option Bool
judged names text selects o = elim o [
  | None ↦ Some (is_outside (find names text) && not (has_two selects))
  | Some m ↦ if is_misused m selects then Some false else None
]

found : (names : Names) (text : List ℕ) (look : Look) (o p : Option Meaning) → look ≡ look_in names → o ≡ look text → o ≡ p → p ≡ look_in names text
found names text look o p same is at = sym at ∙ is ∙ ap (λ (l : Look). l text) same

pub unknown-nothing : (names : Names) (text : List ℕ) (selects : Selections) (look : Look) (o : Option Meaning) (loop : Bool) → look ≡ look_in names → o ≡ look text → o ≡ None
    → loop ≡ (is_outside (find names text) && not (has_two selects)) → Some loop ≡ unknown_name names text selects
unknown-nothing names text selects look o loop same is at made = ap Some made ∙ ap (judged names text selects) (found names text look o None same is at)

pub unknown-meant : (names : Names) (text : List ℕ) (selects : Selections) (look : Look) (o : Option Meaning) (m : Meaning) (r : Option Bool) → look ≡ look_in names → o ≡ look text → o ≡ Some m
    → r ≡ (if is_misused m selects then Some false else None) → r ≡ unknown_name names text selects
unknown-meant names text selects look o m r same is at made = made ∙ ap (judged names text selects) (found names text look o (Some m) same is at)

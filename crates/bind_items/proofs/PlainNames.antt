-- A name with selects is no plain name.
use Rattle.std.proofs.Common.{◌≡◌, ℕ, false, List, [], ◌∷◌, None, map, length, refl, sym, ap, ◌∙◌}
use Rattle.std.specs.Prelude.{◌==◌}
use Rattle.std.proofs.lemmas.Bool.{true≢false}
use Rattle.v_syntax.specs.declared.site.Site.{Site}
use Rattle.v_syntax.specs.declared.expression.Select.{Select}
use Rattle.v_syntax.specs.Tree.{name, selection_of, selections_of}
use Rattle.v_binding.specs.Connections.{plain_name}

pub no-plain-name : (s : Site) (text : List ℕ) (selects : List Select) (count : ℕ) → count ≡ length selects → (count == 0) ≡ false
    → plain_name (name s text (selections_of (map selection_of selects))) ≡ None
no-plain-name s text [] count is some = absurd (true≢false (sym (ap (λ n. n == 0) is) ∙ some))
no-plain-name s text (x ∷ xs) count is some = refl

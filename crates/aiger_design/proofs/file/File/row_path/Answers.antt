use Rattle.std.proofs.Common.{◌≡◌, ℕ, List, [], ◌∷◌, ◌++◌, ◌∙◌, decimal, ap, ap₂, sym, subst, arith}
use Rattle.loc_base.specs.Name.{IsName}
use Rattle.aiger_rules.proofs.NameLaws.{letter_name}
use Rattle.aiger_design.proofs.file.File.row_path.Goals as goal

pub name_of-requires : goal.name_of-requires
name_of-requires c =
    let letter = c.args.letter in
    let is : c.as_slice.result.now ≡ letter ∷ decimal c.literal_at.result =
    c.as_slice.ensures ∙ c.in_ok-append.ensures.ok
    ∙ ap₂ (λ (xs ys : List ℕ). xs ++ ys) (c.in_ok-push.ensures.ok ∙ ap (λ (xs : List ℕ). xs ++ letter ∷ []) c.new-text.ensures)
    (c.as_bytes.ensures.value ∙ c.format.ensures.text) in
    let P : List ℕ → Type 0 = λ text. IsName text in
    subst P (sym is) (letter_name letter c.literal_at.result c.requires.low c.requires.high (omega arith))

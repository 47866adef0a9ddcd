use Rattle.std.proofs.Common.{◌≡◌, ◌∷◌, List, ℕ, ap, ◌∙◌, true, false}
use Rattle.std.specs.Prelude.{decimal}
use Rattle.proof_check.proofs.Lexed.{literal_is}
use Rattle.proof_check.proofs.text.words.literal_of.Goals as goal

pub returns-then-first-eq45 : goal.returns-then-first-eq45
returns-then-first-eq45 c =
    let first : c.in_ok-first.first.now ≡ 45 = c.if-first-eq45.true in
    let whole : c.args.word.now ≡ 45 ∷ decimal c.in_ok-var.var =
    c.in_ok-first.ensures.cases.0 ∙ ap (λ (d : ℕ). d ∷ c.in_ok-first.rest.now) first ∙ ap (λ (ds : List ℕ). 45 ∷ ds) c.in_ok-var.ensures.1 in
    literal_is c.args.word.now (record { var = c.in_ok-var.var; negated = true }) c.in_ok-var.ensures.0 whole

pub returns : goal.returns
returns c = literal_is c.args.word.now (record { var = c.in_ok-var-2.var; negated = false }) c.in_ok-var-2.ensures.0 c.in_ok-var-2.ensures.1

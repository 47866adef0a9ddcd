-- A word that was taken, or was not.
use Rattle.std.specs.Prelude.{◌≡◌, Bool, true, false, Option, MatchOption}
use Rattle.proof_check.specs.LineWords.{LineWords}

-- the answer is false where the word has no meaning there, and else what the words give then stands in the reader
abbrev pub Took : Option LineWords → LineWords → Bool → Type 0
Took meaning new taken = MatchOption meaning (taken ≡ false) (λ next. (taken ≡ true) × (new ≡ next))

-- Which answers about words are right.
use Rattle.std.specs.Prelude.{◌≡◌, Result, Ok, Err}
use Rattle.word_values.specs.declared.usage.Usage.{Usage}
use Rattle.word_values.specs.declared.usage.WordsErr.{WordsErr}
use Rattle.word_values.specs.declared.usage.WordsErr.TheVariants as words_err

-- what the values of arguments are, or what is wrong with them
abbrev pub Says : {A B : Type 0} → (A → B) → Result B Usage → Result A Usage → Type 0
Says view asked (Ok values) = asked ≡ Ok (view values)
Says view asked (Err usage) = asked ≡ Err usage

-- an answer is what is asked for, or what is wrong; where memory was wanted nothing is said
abbrev pub Gives : {A B : Type 0} → (A → B) → Result B Usage → Result A WordsErr → Type 0
Gives view asked (Ok request) = asked ≡ Ok (view request)
Gives view asked (Err (words_err.Usage usage)) = asked ≡ Err usage
Gives view asked (Err words_err.NoMemory) = Unit {0}

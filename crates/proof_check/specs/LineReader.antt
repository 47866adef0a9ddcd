-- What reads the words of a line, one by one.
use Rattle.std.specs.Prelude.{◌≡◌, ℕ, false, get_or, IsTrue}
use Rattle.clause_base.specs.Literal.{has_variable, has_distinct_variables}
use Rattle.proof_check.specs.LineWords.{LineWords}
use Rattle.proof_check.specs.declared.text.line_reader.LineReader.TheInside.{Inside}

-- what contracts see
abbrev pub words_in : Inside → LineWords
words_in reader = record { literals = reader.literals.items; chain = reader.chain.items; in_chain = reader.in_chain }

-- the table has the literals' variables, which are distinct
pub record IsLineReader (reader : Inside) : Type 0 where
  pub seen : (v : ℕ) → get_or reader.seen.items v false ≡ has_variable reader.literals.items v
  pub distinct : IsTrue (has_distinct_variables reader.literals.items)

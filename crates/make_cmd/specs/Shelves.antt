-- Private, for the functions inside this crate: what the shelf of the made texts holds.
use Rattle.std.specs.Prelude.{ℕ, ◌≡◌, if◌then◌else◌, List, [], ◌∷◌, ◌++◌, Some, None}
use Rattle.std.specs.Str.{bytes_eq}
use Rattle.command_contract.specs.Contract.{Texts}
use Rattle.write_order.specs.Writes.{Write, begin_text, put_piece}
use Rattle.made_input.specs.Made.{design_text, trace_text}
use Rattle.requests.specs.Asked.{MakeAsked}
use Rattle.make_cmd.specs.declared.made_shelf.MadeShelf.{MadeShelf}

-- the text under a name
abbrev pub texts_of : MadeShelf → Texts
texts_of shelf name =
    if bytes_eq name shelf.design_name.now then Some shelf.design
    else (if bytes_eq name shelf.trace_name.now then Some shelf.trace else None)

-- it holds the texts that are asked for
pub record IsMadeBy (asked : MakeAsked) (shelf : MadeShelf) : Type 0 where
  pub design_name : shelf.design_name.now ≡ asked.design
  pub design : shelf.design ≡ design_text asked.number
  pub trace_name : shelf.trace_name.now ≡ asked.trace
  pub trace : shelf.trace ≡ trace_text asked.number

-- the writes of a text, and of both
abbrev pub text_writes : List ℕ → List ℕ → List Write
text_writes name text = begin_text name ∷ put_piece name text ∷ []

abbrev pub texts_writes : MadeShelf → List Write
texts_writes shelf =
    text_writes shelf.design_name.now shelf.design ++ text_writes shelf.trace_name.now shelf.trace

-- A text has one content at most.
use Rattle.std.proofs.Common.{◌≡◌, ℕ, ◌≤◌, List, length, drop, sym, ◌∙◌, ap, subst, arith, inl, inr}
use Rattle.std.proofs.lemmas.Bool.{cases_lt}
use Rattle.std.proofs.lemmas.Option.{none-some}
use Rattle.loc_base.proofs.ShelfOptions.{Some-same}
use Rattle.loc_base.proofs.ShelfLists.{slice_get-some}
use Rattle.aiger_text.specs.declared.row.Counts.{Counts}
use Rattle.aiger_text.specs.declared.row.Row.{Row}
use Rattle.aiger_text.specs.Symbols.{PlainSymbol}
use Rattle.aiger_text.specs.Content.{Content, HasRows, HasSymbols, IsBehind}
use Rattle.aiger_text.specs.Laws.{OneContent}
use Rattle.aiger_text.proofs.Same.{slice_get-same, first_symbol-end}

rows-same : (front : List (List ℕ)) (c : Counts) (xs ys : List Row) → HasRows front c xs → HasRows front c ys → xs ≡ ys
rows-same front c xs ys one other =
    slice_get-same xs ys (one.long ∙ sym other.long) (λ k below. sym (one.each k (omega (arith, one.long))) ∙ other.each k (omega (arith, one.long)))

length-le : (front : List (List ℕ)) (xs ys : List PlainSymbol) → HasSymbols front xs → HasSymbols front ys → length xs ≤ length ys
length-le front xs ys one other =
    elim (cases_lt (length ys) (length xs)) [
      | inl more ↦
          let (x, is) = slice_get-some xs (length ys) more in
          absurd (none-some x (sym (first_symbol-end (drop (length ys) front) other.end) ∙ one.each (length ys) more ∙ is))
      | inr fits ↦ fits
    ]

symbols-same : (front : List (List ℕ)) (xs ys : List PlainSymbol) → HasSymbols front xs → HasSymbols front ys → xs ≡ ys
symbols-same front xs ys one other =
    let fewer : length xs ≤ length ys = length-le front xs ys one other in
    let more : length ys ≤ length xs = length-le front ys xs other one in
    slice_get-same xs ys (omega arith) (λ k below. sym (one.each k below) ∙ other.each k (omega (arith, below, fewer)))

abbrev made : Counts → List Row → List PlainSymbol → Content
made counts rows symbols = record { counts = counts; rows = rows; symbols = symbols }

behind-same : (front : List (List ℕ)) (c d : Counts) (xs ys : List Row) (ss ts : List PlainSymbol) → c ≡ d
    → IsBehind front (made c xs ss) → IsBehind front (made d ys ts) → made c xs ss ≡ made d ys ts
behind-same front c d xs ys ss ts same one other =
    let P : Counts → Type 0 = λ c. IsBehind front (made c xs ss) in
    let moved : IsBehind front (made d xs ss) = subst P same one in
    let rows : xs ≡ ys = rows-same front d xs ys moved.rows other.rows in
    let symbols : ss ≡ ts = symbols-same _ ss ts moved.symbols other.symbols in
    ap (λ c. made c xs ss) same ∙ ap (λ rows. made d rows ss) rows ∙ ap (λ symbols. made d ys symbols) symbols

pub contents-same : OneContent
contents-same text w v one other =
    behind-same _ w.counts v.counts w.rows v.rows w.symbols v.symbols (Some-same (sym one.header ∙ other.header)) one.behind other.behind

pub ruleset one_content = (contents-same)

-- The symbols of a text, symbol by symbol.
use Rattle.std.proofs.Common.{◌≡◌, ℕ, ◌+◌, ◌<◌, true, false, List, [], ◌∷◌, ◌++◌, length, map, drop, Some, None, refl, sym, ◌∙◌, ap, subst, arith}
use Rattle.std.specs.Prelude.{slice_get}
use Rattle.std.proofs.lemmas.List.{length_push, map_push, length-map}
use Rattle.aiger_text.specs.declared.fault.AigerErr.TheVariants.{Shape}
use Rattle.aiger_text.specs.declared.symbol.Symbol.{Symbol}
use Rattle.aiger_text.specs.Lines.{lines}
use Rattle.aiger_text.specs.Symbols.{PlainSymbol, plain, first_symbol, is_end}
use Rattle.aiger_text.specs.Content.{HasSymbols}
use Rattle.aiger_text.specs.Outcomes.{SymbolsEnd}
use Rattle.aiger_text.proofs.LineSteps.{drop-next}
use Rattle.aiger_text.proofs.Same.{each-push, each-some}

-- the symbols that were read, as far as the lines were passed
pub record SymbolsSoFar (front : List (List ℕ)) (symbols : List PlainSymbol) (rest : List ℕ) : Type 0 where
  pub each : (p : ℕ) → p < length symbols → first_symbol (drop p front) ≡ slice_get symbols p
  pub here : drop (length symbols) front ≡ lines rest

-- none at first
pub symbols-begin : (text : List ℕ) → SymbolsSoFar (lines text) [] text
symbols-begin text = record { each = λ p below. absurd (omega (arith, below)); here = refl }

-- one more
pub symbols-next : (front : List (List ℕ)) (symbols more : List Symbol) (symbol : Symbol) (rest behind : List ℕ) → SymbolsSoFar front (map plain symbols) rest
    → first_symbol (lines rest) ≡ Some (plain symbol) → drop 1 (lines rest) ≡ lines behind → more ≡ symbols ++ symbol ∷ [] → SymbolsSoFar front (map plain more) behind
symbols-next front symbols more symbol rest behind far is next pushed =
    let xs : List PlainSymbol = map plain symbols in
    let made : map plain more ≡ xs ++ plain symbol ∷ [] = ap (map plain) pushed ∙ map_push plain symbols symbol in
    let P : List PlainSymbol → Type 0 = λ ys. SymbolsSoFar front ys behind in
    let at : first_symbol (drop (length xs) front) ≡ Some (plain symbol) = ap first_symbol far.here ∙ is in
    let long : length (xs ++ plain symbol ∷ []) ≡ length xs + 1 = length_push xs (plain symbol) in
    subst P (sym made) (record {
      each = λ p below. each-push (λ p. first_symbol (drop p front)) xs (plain symbol) far.each at p (omega (arith, below, long));
      here = ap (λ n. drop n front) long ∙ drop-next front (length xs) rest behind far.here next;
    })

-- all of them
pub symbols-all : (front : List (List ℕ)) (symbols : List PlainSymbol) (rest : List ℕ) → SymbolsSoFar front symbols rest → is_end (lines rest) ≡ true → HasSymbols front symbols
symbols-all front symbols rest far end = record { each = far.each; end = ap is_end far.here ∙ end }

-- neither a symbol nor an end
pub symbols-end : (front : List (List ℕ)) (symbols : List Symbol) (rest : List ℕ) (first : ℕ) → SymbolsSoFar front (map plain symbols) rest
    → (first_symbol (lines rest) ≡ None) × (is_end (lines rest) ≡ false) → SymbolsEnd front first (Shape (first + length symbols))
symbols-end front symbols rest first far (none, unended) =
    let xs : List PlainSymbol = map plain symbols in
    let long : length xs ≡ length symbols = length-map symbols plain in (
      length xs,
      record {
        before = λ p below. each-some (λ p. first_symbol (drop p front)) xs p (far.each p below) below;
        lacking = ap first_symbol far.here ∙ none;
        unended = ap is_end far.here ∙ unended;
      },
      ap (λ n. first + n) (sym long),
    )

pub ruleset symbols_steps = (symbols-begin, symbols-next, symbols-all, symbols-end)

-- Texts, line by line.
use Rattle.std.proofs.Common.{◌≡◌, ℕ, ◌+◌, ◌==◌, List, ◌∷◌, length, drop, Some, None, sym, ◌∙◌, ap}
use Rattle.std.specs.Prelude.{codes}
use Rattle.std.specs.Str.{bytes_eq}
use Rattle.std.specs.Option.{option_and_then}
use Rattle.std.proofs.lemmas.List.{drop-drop}
use Rattle.aiger_text.specs.declared.row.Section.{Section}
use Rattle.aiger_text.specs.Lines.{Parts, cut_at, lines, first_line}
use Rattle.aiger_text.specs.Numbers.{numbers_in}
use Rattle.aiger_text.specs.Rows.{first_row, row_of, header, header_in}
use Rattle.aiger_text.specs.Symbols.{first_symbol, symbol_in, is_end}
use Rattle.aiger_text.proofs.Splits.{slice_split-some, split-cut, split-uncut}

-- the first line of a text that a newline ends, the lines behind it being there
pub first_line-cut : (text : List ℕ) (p : Parts) → cut_at 10 text ≡ Some p → first_line (lines text) ≡ Some p.front
first_line-cut text p cut =
    let (next, rest, is) = slice_split-some (λ byte. byte == 10) p.back in
    ap first_line (split-cut 10 text p cut ∙ ap (λ ls. p.front ∷ ls) is)

-- a text without a newline
pub first_line-uncut : (text : List ℕ) → cut_at 10 text ≡ None → first_line (lines text) ≡ None
first_line-uncut text cut = ap first_line (split-uncut 10 text cut)

pub drop-cut : (text : List ℕ) (p : Parts) → cut_at 10 text ≡ Some p → drop 1 (lines text) ≡ lines p.back
drop-cut text p cut = ap (drop 1) (split-cut 10 text p cut)

pub first_row-cut : (section : Section) (text : List ℕ) (p : Parts) → cut_at 10 text ≡ Some p
    → first_row section (lines text) ≡ option_and_then (row_of section) (numbers_in p.front)
first_row-cut section text p cut = ap (λ o. option_and_then (λ line. option_and_then (row_of section) (numbers_in line)) o) (first_line-cut text p cut)

pub first_row-uncut : (section : Section) (text : List ℕ) → cut_at 10 text ≡ None → first_row section (lines text) ≡ None
first_row-uncut section text cut = ap (λ o. option_and_then (λ line. option_and_then (row_of section) (numbers_in line)) o) (first_line-uncut text cut)

pub header-cut : (text : List ℕ) (p : Parts) → cut_at 10 text ≡ Some p → header (lines text) ≡ header_in p.front
header-cut text p cut = ap (option_and_then header_in) (first_line-cut text p cut)

pub header-uncut : (text : List ℕ) → cut_at 10 text ≡ None → header (lines text) ≡ None
header-uncut text cut = ap (option_and_then header_in) (first_line-uncut text cut)

pub first_symbol-cut : (text : List ℕ) (p : Parts) → cut_at 10 text ≡ Some p → first_symbol (lines text) ≡ symbol_in p.front
first_symbol-cut text p cut = ap (option_and_then symbol_in) (first_line-cut text p cut)

pub first_symbol-uncut : (text : List ℕ) → cut_at 10 text ≡ None → first_symbol (lines text) ≡ None
first_symbol-uncut text cut = ap (option_and_then symbol_in) (first_line-uncut text cut)

pub is_end-cut : (text : List ℕ) (p : Parts) → cut_at 10 text ≡ Some p → is_end (lines text) ≡ bytes_eq p.front (codes "c")
is_end-cut text p cut =
    let (next, rest, is) = slice_split-some (λ byte. byte == 10) p.back in
    ap is_end (split-cut 10 text p cut ∙ ap (λ ls. p.front ∷ ls) is)

pub is_end-uncut : (text : List ℕ) → cut_at 10 text ≡ None → is_end (lines text) ≡ (length text == 0)
is_end-uncut text cut = ap is_end (split-uncut 10 text cut)

pub ruleset line_steps = (first_row-cut, first_row-uncut, drop-cut)

pub ruleset header_steps = (header-cut, header-uncut, drop-cut)

pub ruleset symbol_line_steps = (first_symbol-cut, first_symbol-uncut, is_end-cut, is_end-uncut, drop-cut)

-- one line more was passed
pub drop-next : (front : List (List ℕ)) (k : ℕ) (text rest : List ℕ) → drop k front ≡ lines text → drop 1 (lines text) ≡ lines rest → drop (k + 1) front ≡ lines rest
drop-next front k text rest here behind = sym (drop-drop 1 k front) ∙ ap (drop 1) here ∙ behind

-- What a text has, of its parts.
use Rattle.std.proofs.Common.{◌≡◌, ℕ, ◌+◌, List, drop, Some, Result, Ok, Err, sym, ◌∙◌, ap, subst, inl, inr}
use Rattle.std.specs.Result.{IfErr, IsErrAnd}
use Rattle.aiger_text.specs.declared.row.Counts.{Counts}
use Rattle.aiger_text.specs.declared.row.Row.{Row}
use Rattle.aiger_text.specs.declared.fault.AigerErr.{AigerErr}
use Rattle.aiger_text.specs.declared.fault.AigerErr.TheVariants.{TooLong, Header, Shape, Literal, Naming, Places, NoMemory}
use Rattle.aiger_text.specs.Lines.{Parts, cut_at, lines}
use Rattle.aiger_text.specs.Rows.{header, header_in, row_count}
use Rattle.aiger_text.specs.Symbols.{PlainSymbol}
use Rattle.aiger_text.specs.Content.{Content, HasRows, HasSymbols, IsBehind, IsWritten}
use Rattle.aiger_text.specs.Refusals.{IsShort, LacksEnd, IsFirst, TextCause}
use Rattle.aiger_text.specs.Outcomes.{RowsEnd, SymbolsEnd, LacksLine}
use Rattle.aiger_text.proofs.LineSteps.{drop-cut, header-cut, header-uncut}

-- rows and symbols are what stands behind the header
pub behind-is : (front : List (List ℕ)) (c : Counts) (rows : List Row) (symbols : List PlainSymbol) (rest : List ℕ) → HasRows front c rows
    → drop (row_count c) front ≡ lines rest → HasSymbols (lines rest) symbols → IsBehind front (record { counts = c; rows = rows; symbols = symbols })
behind-is front c rows symbols rest has here ends =
    let P : List (List ℕ) → Type 0 = λ ls. HasSymbols ls symbols in
    record { rows = has; symbols = subst P (sym here) ends }

-- a row is lacking
pub rows-lack : (front : List (List ℕ)) (c : Counts) (fault : AigerErr) → RowsEnd front c fault → LacksLine front c fault
rows-lack front c TooLong end = end
rows-lack front c Header end = end
rows-lack front c (Shape line) end = inl end
rows-lack front c (Literal line) end = end
rows-lack front c (Naming line) end = end
rows-lack front c Places end = end
rows-lack front c NoMemory end = end

-- a symbol is
pub symbols-lack : (front : List (List ℕ)) (c : Counts) (rows : List Row) (rest : List ℕ) (first : ℕ) (fault : AigerErr) → HasRows front c rows
    → drop (row_count c) front ≡ lines rest → first ≡ row_count c + 2 → SymbolsEnd (lines rest) first fault → LacksLine front c fault
symbols-lack front c rows rest first TooLong has here at end = end
symbols-lack front c rows rest first Header has here at end = end
symbols-lack front c rows rest first (Shape line) has here at (p, lacks, is) =
    let P : List (List ℕ) → Type 0 = λ ls. LacksEnd ls p in
    inr (p, record { rows = rows; has_rows = has; lacks = subst P (sym here) lacks }, is ∙ ap (λ n. n + p) at)
symbols-lack front c rows rest first (Literal line) has here at end = end
symbols-lack front c rows rest first (Naming line) has here at end = end
symbols-lack front c rows rest first Places has here at end = end
symbols-lack front c rows rest first NoMemory has here at end = end

pub ruleset behind_steps = (behind-is, rows-lack, symbols-lack)

-- a fault that is handed on
pub IfErr-handed_on : {X E : Type 0} (P : E → Type 0) (r : Result X E) (fault : E) → IsErrAnd r (λ e. e ≡ fault) → P fault → IfErr r P
IfErr-handed_on P (Ok x) fault same fact = tt
IfErr-handed_on P (Err e) fault same fact = subst P (sym same) fact

-- a header, and what stands behind it
pub written-is : (text : List ℕ) (p : Parts) (c : Counts) (w : Content) → cut_at 10 text ≡ Some p → Some c ≡ header_in p.front → w.counts ≡ c
    → IsBehind (lines p.back) w → IsWritten text w
written-is text p c w cut is counts behind =
    let P : List (List ℕ) → Type 0 = λ ls. IsBehind ls w in
    record { header = header-cut text p cut ∙ sym is ∙ ap Some (sym counts); behind = subst P (sym (drop-cut text p cut)) behind }

-- a header, and a line behind it that is lacking
pub lacking-is : (text : List ℕ) (p : Parts) (c : Counts) (fault : AigerErr) → IsShort text → cut_at 10 text ≡ Some p → Some c ≡ header_in p.front
    → LacksLine (lines p.back) c fault → TextCause text fault
lacking-is text p c TooLong short cut is end = absurd end
lacking-is text p c Header short cut is end = absurd end
lacking-is text p c (Shape line) short cut is end =
    let P : List (List ℕ) → Type 0 = λ ls. IsFirst ls c line in
    (short, record { counts = c; header = header-cut text p cut ∙ sym is; first = subst P (sym (drop-cut text p cut)) end })
lacking-is text p c (Literal line) short cut is end = end
lacking-is text p c (Naming line) short cut is end = end
lacking-is text p c Places short cut is end = end
lacking-is text p c NoMemory short cut is end = tt

pub ruleset content_steps = (written-is, lacking-is, header-cut, header-uncut)

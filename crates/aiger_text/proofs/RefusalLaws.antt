-- A text that has a content is refused for want of memory alone.
use Rattle.std.proofs.Common.{◌≡◌, ℕ, List, length, drop, refl, sym, ◌∙◌, subst, arith, inl, inr}
use Rattle.std.proofs.lemmas.Bool.{cases_lt, false≢true}
use Rattle.std.proofs.lemmas.Option.{none-some}
use Rattle.loc_base.proofs.ShelfOptions.{Some-same}
use Rattle.loc_base.proofs.ShelfLists.{slice_get-some}
use Rattle.aiger_text.specs.declared.row.Counts.{Counts}
use Rattle.aiger_text.specs.declared.row.Row.{Row}
use Rattle.aiger_text.specs.declared.fault.AigerErr.TheVariants.{TooLong, Header, Shape, Literal, Naming, Places, NoMemory}
use Rattle.aiger_text.specs.Symbols.{PlainSymbol}
use Rattle.aiger_text.specs.Content.{Content, HasRows, HasSymbols, IsBehind}
use Rattle.aiger_text.specs.Refusals.{LacksRow, LacksEnd, IsFirst, IsMisshapen}
use Rattle.aiger_text.specs.Laws.{NoRefusal}
use Rattle.aiger_text.proofs.Same.{first_symbol-end}

no_row : (front : List (List ℕ)) (c : Counts) (rows : List Row) (k : ℕ) → HasRows front c rows → LacksRow front c k → ⊥
no_row front c rows k has lacks =
    let (row, is) = slice_get-some rows k (omega (arith, has.long, lacks.due)) in
    none-some row (sym lacks.lacking ∙ has.each k lacks.due ∙ is)

no_end : (front : List (List ℕ)) (symbols : List PlainSymbol) (p : ℕ) → HasSymbols front symbols → LacksEnd front p → ⊥
no_end front symbols p has lacks =
    elim (cases_lt p (length symbols)) [
      | inl within ↦
          let (symbol, is) = slice_get-some symbols p within in
          none-some symbol (sym lacks.lacking ∙ has.each p within ∙ is)
      | inr past ↦
          elim (cases_lt (length symbols) p) [
            | inl behind ↦ lacks.before (length symbols) behind (first_symbol-end (drop (length symbols) front) has.end)
            | inr least ↦
                let here : p ≡ length symbols = omega arith in
                let P : ℕ → Type 0 = λ q. LacksEnd front q in
                let at : LacksEnd front (length symbols) = subst P here lacks in
                false≢true (sym at.unended ∙ has.end)
          ]
    ]

no_line : (front : List (List ℕ)) (w : Content) (line : ℕ) → IsBehind front w → IsFirst front w.counts line → ⊥
no_line front w line has (inl (k, lacks, at)) = no_row front w.counts w.rows k has.rows lacks
no_line front w line has (inr (p, lacks, at)) = no_end _ w.symbols p has.symbols lacks.lacks

pub refusals : NoRefusal
refusals text w TooLong short has cause = absurd (omega (arith, short, cause))
refusals text w Header short has cause = absurd (none-some w.counts (sym cause.1 ∙ has.header))
refusals text w (Shape line) short has cause =
    let shape : IsMisshapen text line = cause.1 in
    let same : shape.counts ≡ w.counts = Some-same (sym shape.header ∙ has.header) in
    let P : Counts → Type 0 = λ c. IsFirst _ c line in
    absurd (no_line _ w line has.behind (subst P same shape.first))
refusals text w (Literal line) short has cause = absurd cause
refusals text w (Naming line) short has cause = absurd cause
refusals text w Places short has cause = absurd cause
refusals text w NoMemory short has cause = refl

pub ruleset no_refusal = (refusals)

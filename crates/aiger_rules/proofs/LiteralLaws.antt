-- What is refused of literals.
use Rattle.std.proofs.Common.{ℕ, ◌≤◌, refl, sym, ◌∙◌, arith, inl, inr}
use Rattle.std.proofs.lemmas.Bool.{cases_lt, false≢true}
use Rattle.aiger_text.specs.declared.row.Row.{Row}
use Rattle.std.specs.Prelude.{List}
use Rattle.aiger_text.specs.declared.fault.AigerErr.TheVariants.{TooLong, Header, Shape, Literal, Naming, Places, NoMemory}
use Rattle.aiger_rules.specs.Literals.{IsFirstMisuse}
use Rattle.aiger_rules.specs.Laws.{NoRefusal, OneLine}

pub refusals : NoRefusal
refusals w TooLong well cause = absurd cause
refusals w Header well cause = absurd cause
refusals w (Shape line) well cause = absurd cause
refusals w (Literal line) well (number, first, at) = absurd (false≢true (sym (well number) ∙ first.wrong))
refusals w (Naming line) well cause = absurd cause
refusals w Places well cause = absurd cause
refusals w NoMemory well cause = refl

first-le : (most : ℕ) (rows : List Row) (m n : ℕ) → IsFirstMisuse most rows m → IsFirstMisuse most rows n → m ≤ n
first-le most rows m n one other =
    elim (cases_lt n m) [
      | inl less ↦ absurd (false≢true (sym (one.before n less) ∙ other.wrong))
      | inr le ↦ le
    ]

pub lines : OneLine
lines w one other (m, first, at) (n, second, here) =
    let le : m ≤ n = first-le w.counts.most w.rows m n first second in
    let ge : n ≤ m = first-le w.counts.most w.rows n m second first in
    omega arith

pub ruleset no_refusal = (refusals)

pub ruleset one_line = (lines)

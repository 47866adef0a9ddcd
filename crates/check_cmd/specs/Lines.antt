-- What is printed of a judgement, and the status. Suspects, sets and steps are counted from 1, traces too, and cycles from 0; an output
-- is given by its name.
use Rattle.std.specs.Prelude.{ℕ, List, ◌++◌, codes}
use Rattle.printed_text.specs.Numerals.{newline}
use Rattle.design_core.specs.declared.design.Design.{Design}
use Rattle.list_verdict.specs.declared.verdict.Verdict.{Verdict}
use Rattle.list_verdict.specs.declared.verdict.Verdict.TheVariants as verdict
use Rattle.list_session.specs.Words.{miss_words, number_word, pair_words}
use Rattle.check_cmd.specs.declared.verdicts.Judgement.{Judgement}
use Rattle.check_cmd.specs.declared.verdicts.Judgement.TheVariants.{OfList, OfTable}
use Rattle.check_cmd.specs.declared.table.TableFault.{TableFault}
use Rattle.check_cmd.specs.declared.table.TableFault.TheVariants.{Suspect, Top}

-- the line of a verdict on so many sets of a design
abbrev pub verdict_line : Design → ℕ → Verdict → List ℕ
verdict_line d sets verdict.Whole = codes "yes" ++ number_word sets ++ newline
verdict_line d sets (verdict.Order set) = codes "no order" ++ number_word set ++ newline
verdict_line d sets (verdict.Contains set other) = codes "no contains" ++ pair_words set other ++ newline
verdict_line d sets (verdict.Replay set miss) = codes "no replay" ++ number_word set ++ miss_words d miss ++ newline
verdict_line d sets (verdict.Step number) = codes "no step" ++ number_word number ++ newline
verdict_line d sets verdict.Front = codes "front" ++ number_word sets ++ newline
verdict_line d sets verdict.Open = codes "no closing" ++ newline

-- and its status: 0 of a yes, 1 of a front, 8 of a no
abbrev pub verdict_status : Verdict → ℕ
verdict_status verdict.Whole = 0
verdict_status verdict.Front = 1
verdict_status (verdict.Order set) = 8
verdict_status (verdict.Contains set other) = 8
verdict_status (verdict.Replay set miss) = 8
verdict_status (verdict.Step number) = 8
verdict_status verdict.Open = 8

-- the line of a report whose top or suspects are others
abbrev pub table_line : TableFault → List ℕ
table_line Top = codes "no top" ++ newline
table_line (Suspect number) = codes "no suspect" ++ number_word number ++ newline

abbrev pub judgement_line : Design → ℕ → Judgement → List ℕ
judgement_line d sets (OfTable fault) = table_line fault
judgement_line d sets (OfList v) = verdict_line d sets v

abbrev pub judgement_status : Judgement → ℕ
judgement_status (OfTable fault) = 8
judgement_status (OfList v) = verdict_status v

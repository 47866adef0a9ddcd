-- Why a run can't go on with the sets of a report and their log: the first condition that fails, in the order in which they are looked at;
-- and what is printed then.
use Rattle.std.specs.Prelude.{ℕ, List, ◌++◌, Some, codes}
use Rattle.printed_text.specs.Numerals.{newline}
use Rattle.design_core.specs.declared.design.Design.{Design}
use Rattle.list_verdict.specs.Claims.{Claim}
use Rattle.list_verdict.specs.Conditions.{AreInOrder, AreRight, IsAcceptedLog, IsFirstOutOfOrder, IsFirstRefusedStep, IsFirstToHold, IsFirstToMiss, NoneHolds, SaysMissingOf}
use Rattle.list_session.specs.declared.unfit.Unfit.{Unfit}
use Rattle.list_session.specs.declared.unfit.Unfit.TheVariants as unfit
use Rattle.list_session.specs.Words.{miss_words, number_word, pair_words}

-- the first condition that fails, with the first set or step by which it does; of a log that doesn't show that no set is missing before the last
-- one, what it doesn't show first: 0 where not that no set has fewer members, else the least suspect that isn't shown absent
abbrev pub IsUnfit : Claim → Unfit → Type 0
IsUnfit c (unfit.Order set) = IsFirstOutOfOrder c set
IsUnfit c (unfit.Contains set other) = AreInOrder c × IsFirstToHold c.sets set other
IsUnfit c (unfit.Replay set miss) = AreInOrder c × NoneHolds c.sets × IsFirstToMiss c set miss
IsUnfit c (unfit.Step number) = AreInOrder c × NoneHolds c.sets × AreRight c × IsFirstRefusedStep c number
IsUnfit c (unfit.Shown suspect) = AreInOrder c × NoneHolds c.sets × AreRight c × IsAcceptedLog c × SaysMissingOf c (Some suspect)

-- the line
abbrev pub unfit_line : Design → Unfit → List ℕ
unfit_line d (unfit.Order set) = codes "input F2" ++ number_word set ++ newline
unfit_line d (unfit.Contains set other) = codes "input F3" ++ pair_words set other ++ newline
unfit_line d (unfit.Replay set miss) = codes "input F1" ++ number_word set ++ miss_words d miss ++ newline
unfit_line d (unfit.Step number) = codes "input F4" ++ number_word number ++ newline
unfit_line d (unfit.Shown suspect) = codes "input F5" ++ number_word suspect ++ newline

-- a refusal of a list, with its status and its line
pub data UnfitRefused (c : Claim) : ℕ → List ℕ → Type 0 where
  is_unfit : (what : Unfit) → IsUnfit c what → UnfitRefused c 3 (unfit_line c.problem.design what)

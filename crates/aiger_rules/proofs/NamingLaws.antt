-- What is refused of names.
use Rattle.std.proofs.Common.{◌≤◌, refl, arith}
use Rattle.aiger_text.specs.declared.fault.AigerErr.TheVariants.{TooLong, Header, Shape, Literal, Naming, Places, NoMemory}
use Rattle.aiger_rules.specs.Laws.{NoMisnaming, OneName}

pub refusals : NoMisnaming
refusals w clock TooLong well cause = absurd cause
refusals w clock Header well cause = absurd cause
refusals w clock (Shape line) well cause = absurd cause
refusals w clock (Literal line) well cause = absurd cause
refusals w clock (Naming line) well (wrong, least) = absurd (well line wrong)
refusals w clock Places well cause = absurd cause
refusals w clock NoMemory well cause = refl

pub lines : OneName
lines w clock one other (wrong, least) (there, lowest) =
    let le : one ≤ other = least other there in
    let ge : other ≤ one = lowest one wrong in
    omega arith

pub ruleset no_misnaming = (refusals)

pub ruleset one_name = (lines)

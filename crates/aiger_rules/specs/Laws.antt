-- What the laws of literals and names say.
use Rattle.std.specs.Prelude.{ℕ, ◌≡◌, List, Option}
use Rattle.aiger_text.specs.declared.fault.AigerErr.{AigerErr}
use Rattle.aiger_text.specs.declared.fault.AigerErr.TheVariants.{NoMemory}
use Rattle.aiger_text.specs.Content.{Content}
use Rattle.aiger_rules.specs.Literals.{IsUsedWell, IsMisused}
use Rattle.aiger_rules.specs.Refusals.{LiteralCause, NamingCause}
use Rattle.aiger_rules.specs.Naming.{IsNamedWell, IsMisnamed}

-- where literals are used well, they are refused for want of memory alone
abbrev pub NoRefusal : Type 0
NoRefusal = (w : Content) (fault : AigerErr) → IsUsedWell w → LiteralCause w fault → fault ≡ NoMemory

-- one line is refused at most
abbrev pub OneLine : Type 0
OneLine = (w : Content) (one other : ℕ) → IsMisused w one → IsMisused w other → one ≡ other

-- where all lines name something rightly, names are refused for want of memory alone
abbrev pub NoMisnaming : Type 0
NoMisnaming =
    (w : Content) (clock : Option (List ℕ)) (fault : AigerErr) → IsNamedWell w clock → NamingCause w clock fault → fault ≡ NoMemory

-- one line is refused at most
abbrev pub OneName : Type 0
OneName =
    (w : Content) (clock : Option (List ℕ)) (one other : ℕ) → IsMisnamed w clock one → IsMisnamed w clock other → one ≡ other

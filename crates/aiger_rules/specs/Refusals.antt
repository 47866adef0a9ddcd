-- Why what a text has is not used well: a row is the first that has a wrong literal, or a line the first that names something wrongly.
use Rattle.std.specs.Prelude.{ℕ, List, Option}
use Rattle.aiger_text.specs.declared.fault.AigerErr.{AigerErr}
use Rattle.aiger_text.specs.declared.fault.AigerErr.TheVariants.{TooLong, Header, Shape, Literal, Naming, Places, NoMemory}
use Rattle.aiger_text.specs.Content.{Content}
use Rattle.aiger_rules.specs.Literals.{IsMisused}
use Rattle.aiger_rules.specs.Naming.{IsMisnamed}

-- why literals are refused; want of memory is none of the text's
abbrev pub LiteralCause : Content → AigerErr → Type 0
LiteralCause w TooLong = ⊥
LiteralCause w Header = ⊥
LiteralCause w (Shape line) = ⊥
LiteralCause w (Literal line) = IsMisused w line
LiteralCause w (Naming line) = ⊥
LiteralCause w Places = ⊥
LiteralCause w NoMemory = Unit {0}

-- why names are refused
abbrev pub NamingCause : Content → Option (List ℕ) → AigerErr → Type 0
NamingCause w clock TooLong = ⊥
NamingCause w clock Header = ⊥
NamingCause w clock (Shape line) = ⊥
NamingCause w clock (Literal line) = ⊥
NamingCause w clock (Naming line) = IsMisnamed w clock line
NamingCause w clock Places = ⊥
NamingCause w clock NoMemory = Unit {0}

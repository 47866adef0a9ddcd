-- Which design a text means, and why it means none: each step has a value or refuses, in this order.
use Rattle.std.specs.Prelude.{ℕ, ◌≡◌, true, false, List, Option}
use Rattle.design_core.specs.declared.design.Design.{Design}
use Rattle.aiger_text.specs.declared.fault.AigerErr.{AigerErr}
use Rattle.aiger_text.specs.declared.fault.AigerErr.TheVariants.{TooLong, Header, Shape, Literal, Naming, Places, NoMemory}
use Rattle.aiger_text.specs.Content.{Content, IsWritten}
use Rattle.aiger_text.specs.Refusals.{IsShort, TextCause}
use Rattle.aiger_rules.specs.Literals.{IsUsedWell, IsMisused}
use Rattle.aiger_rules.specs.Naming.{IsNamedWell, IsMisnamed}
use Rattle.aiger_design.specs.Numbering.{is_too_large, numbering_of}
use Rattle.aiger_design.specs.File.{IsDesignOf}

-- it has a content
pub record Has (text : List ℕ) (w : Content) : Type 0 where
  pub short : IsShort text
  pub written : IsWritten text w

-- its literals are used well
pub record HasRows (text : List ℕ) (w : Content) : Type 0 where
  pub has : Has text w
  pub used : IsUsedWell w

-- its ports are named well
pub record HasPorts (text : List ℕ) (clock : Option (List ℕ)) (w : Content) : Type 0 where
  pub has : HasRows text w
  pub named : IsNamedWell w clock

-- the design that it means
pub record IsFile (text top : List ℕ) (clock : Option (List ℕ)) (d : Design) : Type 0 where
  pub content : Content
  pub has : HasPorts text clock content
  pub fits : is_too_large (numbering_of content clock) ≡ false
  pub is : IsDesignOf content top clock d

-- what it has up to a step, and what that step refuses
pub record Refused (H : Content → Type 0) (R : Content → Type 0) : Type 0 where
  pub content : Content
  pub has : H content
  pub refused : R content

-- why it means none; want of memory is none of the text's
abbrev pub AigerCause : List ℕ → Option (List ℕ) → AigerErr → Type 0
AigerCause text clock TooLong = TextCause text TooLong
AigerCause text clock Header = TextCause text Header
AigerCause text clock (Shape line) = TextCause text (Shape line)
AigerCause text clock (Literal line) = Refused (Has text) (λ w. IsMisused w line)
AigerCause text clock (Naming line) = Refused (HasRows text) (λ w. IsMisnamed w clock line)
AigerCause text clock Places = Refused (HasPorts text clock) (λ w. is_too_large (numbering_of w clock) ≡ true)
AigerCause text clock NoMemory = Unit {0}

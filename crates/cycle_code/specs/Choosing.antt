-- What is chosen for the places of a design, as contracts see it.
use Rattle.design_core.specs.declared.design.Design.{Design}
use Rattle.design_core.specs.After.{Choice}
use Rattle.design_core.specs.Words.{choice_of}
use Rattle.design_core.specs.Given.{AreChosen}
use Rattle.cycle_code.specs.declared.choices.Choices.{Choices}

-- the choice that they are
abbrev pub as_choice : Choices → Choice
as_choice choices = choice_of choices.freed.now choices.chosen.now

-- they have one entry of each kind for each place of a design
abbrev pub AreChoices : Design → Choices → Type 0
AreChoices d choices = AreChosen d choices.freed.now choices.chosen.now

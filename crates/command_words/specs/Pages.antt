-- The pages of help. Their texts are those of the code.
use Rattle.std.specs.Prelude.{ℕ, List}
use Rattle.requests.specs.declared.help.HelpPage.{HelpPage}
use Rattle.requests.specs.declared.help.HelpPage.TheVariants.{Overview, Find, Sim, Check, Make, Version}
use Rattle.command_words.specs.declared.pages.TheConstants.{OVERVIEW, FIND, SIM, CHECK, MAKE, VERSION}

abbrev pub page_text : HelpPage → List ℕ
page_text Overview = OVERVIEW.now
page_text Find = FIND.now
page_text Sim = SIM.now
page_text Check = CHECK.now
page_text Make = MAKE.now
page_text Version = VERSION.now

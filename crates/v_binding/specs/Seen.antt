-- The names that the code holds, as definitions have them.
use Rattle.v_binding.specs.declared.names.Names.{Names}
use Rattle.v_binding.specs.Names as plain
use Rattle.v_binding.specs.Held.{names_of}

abbrev pub names_in : Names → plain.Names
names_in names = names_of names.held

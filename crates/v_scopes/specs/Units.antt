-- The modules of a text as contracts see them.
use Rattle.std.specs.Prelude.{List, map}
use Rattle.v_syntax.specs.ModuleTree.{PlainModule, module_of}
use Rattle.v_scopes.specs.declared.units.Units.{Units}

abbrev pub units_of : Units → List PlainModule
units_of units = map module_of units.list.now

-- What contracts see of the modules that a reader found.
use Rattle.std.specs.Prelude.{ℕ, List, map}
use Rattle.std.specs.declared.vec.Vec.{Vec}
use Rattle.std.specs.declared.alloc.Global.{Global}
use Rattle.v_syntax.specs.declared.module.Module.{Module}
use Rattle.v_syntax.specs.ModuleTree.{PlainModule, module_of}

abbrev pub seen_module : Module × ℕ → PlainModule × ℕ
seen_module x = (module_of x.0, x.1)

abbrev pub seen_modules : Vec Module Global × ℕ → List PlainModule × ℕ
seen_modules x = (map module_of x.0.items, x.1)

-- What the law is said of: the modules of a text, the name of its top, and its instances.
use Rattle.std.specs.Prelude.{ℕ, List}
use Rattle.v_syntax.specs.ModuleTree.{PlainModule}
use Rattle.v_hierarchy.specs.Instances.{Instance}

pub record Listed : Type 0 where
  pub units : List PlainModule
  pub name : List ℕ
  pub list : List Instance

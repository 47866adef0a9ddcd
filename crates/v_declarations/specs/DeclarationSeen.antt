-- What contracts see of the names of a net item that a reader found.
use Rattle.std.specs.Prelude.{ℕ}
use Rattle.v_syntax.specs.declared.item.Declarator.{Declarator}
use Rattle.v_syntax.specs.ItemTree.{PlainDeclarator, declarator_of}

abbrev pub seen_declarator : Declarator × ℕ → PlainDeclarator × ℕ
seen_declarator x = (declarator_of x.0, x.1)

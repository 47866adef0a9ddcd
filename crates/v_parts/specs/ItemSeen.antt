-- What contracts see of the items and the parts of a header that a reader found.
use Rattle.std.specs.Prelude.{ℕ, List, map}
use Rattle.std.specs.declared.vec.Vec.{Vec}
use Rattle.std.specs.declared.alloc.Global.{Global}
use Rattle.v_syntax.specs.declared.item.Item.{Item}
use Rattle.v_syntax.specs.declared.module.HeaderParameter.{HeaderParameter}
use Rattle.v_syntax.specs.declared.module.Ports.{Ports}
use Rattle.v_syntax.specs.ItemTree.{PlainItem, item_of}
use Rattle.v_syntax.specs.ModuleTree.{PlainHeaderParameter, header_parameter_of, PlainPorts, ports_of}

abbrev pub seen_item : Item × ℕ → PlainItem × ℕ
seen_item x = (item_of x.0, x.1)

abbrev pub seen_items : Vec Item Global × ℕ → List PlainItem × ℕ
seen_items x = (map item_of x.0.items, x.1)

abbrev pub seen_header_parameters : Vec HeaderParameter Global × ℕ → List PlainHeaderParameter × ℕ
seen_header_parameters x = (map header_parameter_of x.0.items, x.1)

abbrev pub seen_ports : Ports × ℕ → PlainPorts × ℕ
seen_ports x = (ports_of x.0, x.1)

-- What contracts see of the parameters and the ports of a header that a reader found.
use Rattle.std.specs.Prelude.{ℕ, List, map}
use Rattle.std.specs.declared.vec.Vec.{Vec}
use Rattle.std.specs.declared.alloc.Global.{Global}
use Rattle.v_syntax.specs.declared.module.HeaderParameter.{HeaderParameter}
use Rattle.v_syntax.specs.declared.module.Port.{Port}
use Rattle.v_syntax.specs.ModuleTree.{PlainHeaderParameter, header_parameter_of, PlainPort, port_of}

abbrev pub seen_header_parameter : HeaderParameter × ℕ → PlainHeaderParameter × ℕ
seen_header_parameter x = (header_parameter_of x.0, x.1)

abbrev pub seen_port : Port × ℕ → PlainPort × ℕ
seen_port x = (port_of x.0, x.1)

abbrev pub seen_port_list : Vec Port Global × ℕ → List PlainPort × ℕ
seen_port_list x = (map port_of x.0.items, x.1)

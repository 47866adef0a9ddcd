-- What contracts see of the events that a reader found.
use Rattle.std.specs.Prelude.{ℕ, List, map, Option, option_map}
use Rattle.std.specs.declared.vec.Vec.{Vec}
use Rattle.std.specs.declared.alloc.Global.{Global}
use Rattle.v_syntax.specs.declared.expression.Select.{Select}
use Rattle.v_syntax.specs.declared.statement.Event.{Event}
use Rattle.v_syntax.specs.declared.statement.Sensitivity.{Sensitivity}
use Rattle.v_syntax.specs.Tree.{Selection, selection_of}
use Rattle.v_syntax.specs.ItemTree.{PlainEvent, event_of, PlainSensitivity, sensitivity_of}

abbrev pub seen_event : Event × ℕ → PlainEvent × ℕ
seen_event x = (event_of x.0, x.1)

abbrev pub seen_events : Vec Event Global × ℕ → List PlainEvent × ℕ
seen_events x = (map event_of x.0.items, x.1)

abbrev pub seen_index_if : Option Select × ℕ → Option Selection × ℕ
seen_index_if x = (option_map selection_of x.0, x.1)

abbrev pub seen_sensitivity : Sensitivity × ℕ → PlainSensitivity × ℕ
seen_sensitivity x = (sensitivity_of x.0, x.1)

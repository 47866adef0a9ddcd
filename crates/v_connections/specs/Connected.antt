-- The parts of the connections of an instance, as private contracts cite them.
use Rattle.std.specs.Prelude.{⊤, ℕ, List, [], Option, Some, None, Result, Ok, Err}
use Rattle.loc_base.specs.declared.span.Span.{Span}
use Rattle.v_syntax.specs.Tree.{Tree}
use Rattle.v_syntax.specs.ItemTree.{PlainConnection}
use Rattle.v_hierarchy.specs.declared.error.ElabErr.{ElabErr}
use Rattle.v_hierarchy.specs.declared.error.ElabErr.TheVariants as fault
use Rattle.v_hierarchy.specs.Constants.{site_of}
use Rattle.v_hierarchy.specs.Items.{connected}
use Rattle.v_hierarchy.specs.Steps.{◌>>=◌, each}

-- the refusal of the connection behind the last port, where there is one
abbrev pub past_ports : Span → Option (Option Tree) → Result ⊤ ElabErr
past_ports span None = Ok tt
past_ports span (Some (Some e)) = Err (fault.PortName (site_of e).span)
past_ports span (Some None) = Err (fault.PortName span)

-- each to a port, once
abbrev pub all_connected : List (List ℕ) → List PlainConnection → Result ⊤ ElabErr
all_connected ports list = each (connected ports) list [] >>= λ _. Ok tt

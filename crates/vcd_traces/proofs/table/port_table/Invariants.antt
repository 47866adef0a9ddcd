use Rattle.std.proofs.Common.{◌≡◌, List, map, take}
use Rattle.std.specs.List.{All}
use Rattle.vcd_reading.specs.Header.{Header}
use Rattle.vcd_reading.specs.HeaderView.{variable_of}
use Rattle.vcd_reading.specs.Scopes.{Sought}
use Rattle.vcd_traces.specs.Table.{IsTableOf}
use Rattle.vcd_traces.specs.Sites.{site_port, IsSite}
use Rattle.vcd_traces.proofs.table.port_table.Given as goal

abbrev pub invariant-loop-site : goal.invariant-loop-site
invariant-loop-site l =
    (h : Header) (sought : Sought) → h.variables ≡ map variable_of l.variables → All (IsSite h sought) l.sites
    → IsTableOf h sought (map site_port (take l.site-index l.sites)) l.table

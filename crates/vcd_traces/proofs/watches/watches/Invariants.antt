use Rattle.std.proofs.Common.{◌≡◌, List, map, take, IsTrue}
use Rattle.std.specs.List.{All, list_all}
use Rattle.vcd_reading.specs.Header.{Header}
use Rattle.vcd_reading.specs.Scopes.{Sought}
use Rattle.vcd_traces.specs.Samples.{watch_of}
use Rattle.vcd_traces.specs.Moment.{has_width}
use Rattle.vcd_traces.specs.Table.{IsTable, cell_codes}
use Rattle.vcd_traces.specs.Plan.{watch_in, has_cell}
use Rattle.vcd_traces.specs.Sites.{site_port, IsSite}
use Rattle.vcd_traces.proofs.watches.watches.Given as goal

abbrev pub invariant-loop-site : goal.invariant-loop-site
invariant-loop-site l = record {
  same :
      (h : Header) (sought : Sought) → IsTable h sought l.table → All (IsSite h sought) l.sites
      → map (watch_in (cell_codes l.table)) l.watches.items ≡ map (watch_of h sought) (map site_port (take l.site-index l.sites));
  cells :
      (h : Header) (sought : Sought) → IsTable h sought l.table → All (IsSite h sought) l.sites
      → IsTrue (list_all (has_cell (cell_codes l.table)) l.watches.items);
  widths : IsTrue (list_all has_width l.watches.items);
}

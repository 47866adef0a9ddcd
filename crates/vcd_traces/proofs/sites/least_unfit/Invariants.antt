use Rattle.std.proofs.Common.{◌≡◌, List, map, take}
use Rattle.std.specs.List.{All}
use Rattle.vcd_reading.specs.Header.{Header}
use Rattle.vcd_reading.specs.Scopes.{Sought, is_unfit}
use Rattle.vcd_traces.specs.Samples.{least_port}
use Rattle.vcd_traces.specs.Sites.{site_port, IsSite}
use Rattle.vcd_traces.proofs.sites.least_unfit.Given as goal

abbrev pub invariant-loop-site : goal.invariant-loop-site
invariant-loop-site l =
    (h : Header) (sought : Sought) → All (IsSite h sought) l.sites → l.least ≡ least_port (is_unfit h sought) (map site_port (take l.site-index l.sites))

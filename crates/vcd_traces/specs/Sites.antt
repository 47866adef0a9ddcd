-- Where a design's ports stand, as it is found.
use Rattle.std.specs.Prelude.{ℕ, ◌≡◌, Bool, true, List, map, take, drop, Some, All, slice_get}
use Rattle.std.specs.Option.{option_map}
use Rattle.vcd_reading.specs.declared.place.Scope.{Scope}
use Rattle.vcd_reading.specs.Header.{Header}
use Rattle.vcd_reading.specs.PlaceView.{place_of, IsScope}
use Rattle.vcd_reading.specs.PortView.{port_of}
use Rattle.vcd_reading.specs.Scopes.{Port, Sought, scope_of, port_place, is_of_port, is_declared, code_of}
use Rattle.vcd_traces.specs.declared.sites.Site.{Site}
use Rattle.vcd_traces.specs.Ports.{fits}
use Rattle.vcd_traces.specs.Samples.{Watches, watch_of}

-- the scope of the ports
pub record IsFirst (h : Header) (sought : Sought) (scope : Scope) : Type 0 where
  pub of_header : IsScope h scope
  pub first : scope_of h sought ≡ Some scope.number

abbrev pub site_port : Site → Port
site_port site = port_of site.port

-- a port where it stands
pub record IsSite (h : Header) (sought : Sought) (site : Site) : Type 0 where
  pub place : port_place h (scope_of h sought) (site_port site) ≡ Some (place_of site.place)
  pub of_port : is_of_port h sought site.place.variable.code.now ≡ true
  pub declared : is_declared h site.place.variable.code.now ≡ true

-- some ports where they stand
pub record AreSites (h : Header) (sought : Sought) (seen : List Port) (sites : List Site) : Type 0 where
  pub same : map site_port sites ≡ seen
  pub each : All (IsSite h sought) sites

-- a port of 1 to 128 bits
abbrev pub site_fits : Site → Bool
site_fits site = fits (site_port site)

-- what is sampled of ports of which so many are inputs, the next are outputs, and the last may be a clock
abbrev pub watches_from : Header → Sought → Bool → ℕ → ℕ → List Port → Watches
watches_from h sought zero inputs outputs ports = record {
  clock = option_map (code_of h sought) (slice_get (drop outputs (drop inputs ports)) 0);
  inputs = map (watch_of h sought) (take inputs ports);
  outputs = map (watch_of h sought) (take outputs (drop inputs ports));
  zero_inputs = zero;
}

use Rattle.std.proofs.Common.{Bor, List, ℕ}
use Rattle.std.specs.Option.{option_map}
use Rattle.vcd_reading.specs.PortView.{ports_in}
use Rattle.vcd_traces.specs.Dump.{dump_header}
use Rattle.vcd_traces.specs.Manner.{manner_of, path_bytes}
use Rattle.vcd_traces.proofs.DumpLaws.{is_scope, found_are, given_fit, given_is}
use Rattle.vcd_traces.proofs.dump.Dump.trace.Goals as goal

pub sampled-requires-clause-widths : goal.sampled-requires-clause-widths
sampled-requires-clause-widths c =
    let dump = c.args.self.now in
    given_fit dump _ c.args.ports.now c.in_ok-sites-in-Some.sites.items c.as_slice.result.now
    (c.in_ok-sites-in-Some.ensures (dump_header dump)
    (is_scope dump _ _ c.in_ok-found.found c.as_slice-variables.ensures.value c.in_ok-table.ensures c.in_ok-found.ensures c.in-Some.is))
    c.as_slice.ensures.value c.requires.widths

pub returns : goal.returns
returns c same front =
    let dump = c.args.self.now in
    let by = manner_of c.args.by.now in
    let scope = is_scope dump _ _ c.in_ok-found.found c.as_slice-variables.ensures.value c.in_ok-table.ensures c.in_ok-found.ensures c.in-Some.is in
    c.sampled.ensures
    (found_are c.args.by.now.design.now by dump _ c.in-Some.number c.in_ok-sites-in-Some.sites.items c.as_slice.result.now
    (given_is c.args.by.now.design.now by (path_bytes c.path-scope.result) (ports_in c.args.ports.now) c.path-scope.ensures same) front scope.first
    (c.in_ok-sites-in-Some.ensures (dump_header dump) scope) c.as_slice.ensures.value)

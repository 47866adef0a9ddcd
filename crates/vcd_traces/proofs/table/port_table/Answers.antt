use Rattle.std.proofs.Common.{ap, ◌∙◌, sym, if◌then◌else◌, Some, None, rules}
use Rattle.std.specs.List.{list_any}
use Rattle.vcd_reading.specs.Commands.{same_bytes}
use Rattle.vcd_reading.specs.Header.{Variable}
use Rattle.vcd_traces.specs.declared.codes.Role.TheVariants.{Other}
use Rattle.vcd_traces.proofs.TableLaws.{table_first}
use Rattle.vcd_traces.proofs.SiteLaws.{table_site, table_whole}
use Rattle.vcd_traces.proofs.table.port_table.Goals as goal

pub loop-site-init : goal.loop-site-init
loop-site-init c h ports same all =
    table_first h ports (record { codes = c.in_ok-declared_codes.field-0; cells = c.new.result }) (search rules)
    (λ code.
    c.in_ok-declared_codes.ensures code
    ∙ ap (λ variables. if list_any (λ (v : Variable). same_bytes v.code code) variables then Some Other else None) (sym same))

pub loop-site-preserved : goal.loop-site-preserved
loop-site-preserved c h ports same all =
    table_site h ports c.args.sites.now c.loop-site.site-index _ c.most_digits.result c.loop-site.table c.give.new.self c.loop-site-test.true all
    (c.loop-site.invariant h ports same all) c.most_digits.ensures c.in_ok-give.ensures.roles c.in_ok-give.ensures.cells

pub returns : goal.returns
returns c h ports same all =
    table_whole h ports c.args.sites.now c.loop-site.site-index c.loop-site.table c.loop-site-test.false (c.loop-site.invariant h ports same all)

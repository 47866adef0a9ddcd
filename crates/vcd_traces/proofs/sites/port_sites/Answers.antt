use Rattle.std.proofs.Common.{sym, ◌∙◌, ◌+◌, ap, subst, List, take, Vec, Global}
use Rattle.vcd_reading.specs.PortView.{ports_in, sought_of}
use Rattle.vcd_traces.specs.declared.sites.Site.{Site}
use Rattle.vcd_traces.specs.Sites.{AreSites}
use Rattle.vcd_traces.proofs.SiteLaws.{sites_more, sites_lack}
use Rattle.vcd_traces.proofs.sites.port_sites.Goals as goal
use Rattle.vcd_traces.proofs.sites.port_sites.Goals.{in-Some+in_ok-push, in_default}

pub loop-port-preserved : goal.loop-port-preserved
loop-port-preserved c h is =
    let sought = sought_of c.args.sought.now in
    let ports = c.args.sought.now.ports.now in
    let i = c.loop-port.port-index in
    elim c.match-place.branch [
      | in-Some+in_ok-push w ↦
          let P : List Site → Type 0 = λ l. AreSites h sought (ports_in (take (i + 1) ports)) l in
          subst P (sym (ap (λ (v : Vec Site Global). v.items) w.sites-is ∙ w.in_ok-push.ensures.items))
          (sites_more h sought.scope ports c.args.scope.now i _ c.loop-port.sites.items w.in-Some.place c.place.result is c.loop-port-test.true w.in-Some.is
          (c.place.ensures h is.of_header) (c.loop-port.invariant h is))
      | in_default w ↦
          absurd
          (sites_lack h sought.scope ports c.args.scope.now i _ c.place.result is c.loop-port-test.true w.in_default.is (c.place.ensures h is.of_header))
    ]

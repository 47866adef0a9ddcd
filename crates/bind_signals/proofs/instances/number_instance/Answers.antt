use Rattle.std.proofs.Common.{[], map, sym, ap, ◌∙◌}
use Rattle.v_hierarchy.specs.Views.{entry_of, port_of, copied_of, copies_of}
use Rattle.v_binding.specs.Names.{within}
use Rattle.v_binding.specs.Steps.{through}
use Rattle.v_binding.specs.Signals.{unnumbered, begun, with_port, numbered}
use Rattle.v_binding.specs.Seen.{names_in}
use Rattle.bind_scopes.specs.Views.{numbered_of}
use Rattle.bind_signals.specs.Scopings.{scoping_of}
use Rattle.bind_signals.specs.Grounds.{ground_in, prefix_of}
use Rattle.bind_signals.specs.Ported.{port_names}
use Rattle.bind_signals.proofs.ScopingLaws.{names_fit, taken_off}
use Rattle.bind_signals.proofs.GroundLaws.{made, instance_numbered, instance_is}
use Rattle.bind_signals.proofs.instances.number_instance.Goals as goal

pub leave-requires : goal.leave-requires
leave-requires c =
    names_fit c.len.result c.args.instance.now.body.names (names_in c.args.met.now.seen) (names_in c.number_copies.new.met.seen) c.len.ensures
    (c.in_ok-number_copies.ensures.same ∙ c.in_ok-add_ports.ensures.same ∙ c.in_ok-_before.ensures.seen
    ∙ ap (λ xs. within (map unnumbered (map entry_of xs)) (names_in c.args.met.now.seen)) c.as_slice.ensures)

pub returns-clause-none : goal.returns-clause-none
returns-clause-none c =
    taken_off c.len.result c.args.instance.now.body.names (names_in c.args.met.now.seen) (names_in c.number_copies.new.met.seen) (names_in c.leave.new.self.seen) c.len.ensures
    (c.in_ok-number_copies.ensures.same ∙ c.in_ok-add_ports.ensures.same ∙ c.in_ok-_before.ensures.seen
    ∙ ap (λ xs. within (map unnumbered (map entry_of xs)) (names_in c.args.met.now.seen)) c.as_slice.ensures)
    c.leave.ensures.ok
    ∙ c.requires.none

pub returns-clause-ok : goal.returns-clause-ok
returns-clause-ok c =
    let i = c.args.instance.now in
    let ground = c.in_ok-ground.ground in
    let seen = names_in c.begin.new.self.seen in
    let top = c.is_top-top.result in
    let entries = map entry_of i.body.names in
    let copies = copies_of (map copied_of i.body.copies) in
    let first = begun entries (map numbered_of c.args.met.now.signals) in
    let is_seen = c.in_ok-_before.ensures.seen ∙ ap (λ xs. within (map unnumbered (map entry_of xs)) (names_in c.args.met.now.seen)) c.as_slice.ensures
    ∙ ap (within (map unnumbered entries)) c.requires.none in
    let begins = c.in_ok-_before.ensures.begun ∙ ap (λ xs. begun (map entry_of xs) (map numbered_of c.args.met.now.signals)) c.as_slice.ensures in
    let ported = c.in_ok-add_ports.ensures.ok
    ∙ ap (λ ps. through (with_port top (ground_in ground seen)) (map port_of ps) (scoping_of c.begin.new.self)) c.as_slice-ports.ensures
    ∙ ap (through (with_port top (ground_in ground seen)) (map port_of i.ports)) begins in
    let done = c.in_ok-number_copies.ensures.ok
    ∙ ap (λ n. numbered (ground_in ground n) (copies_of (map copied_of c.as_slice-2.result.now)) (scoping_of c.add_ports.new.met)) c.in_ok-add_ports.ensures.same
    ∙ ap (λ cs. numbered (ground_in ground seen) (copies_of (map copied_of cs)) (scoping_of c.add_ports.new.met)) c.as_slice-2.ensures
    ∙ ap (numbered (ground_in ground seen) copies) ported in
    c.leave.ensures.same
    ∙ instance_numbered ground (prefix_of i) (map port_of i.ports) top entries copies seen first (scoping_of c.number_copies.new.met)
    (c.in_ok-ground.ensures.prefix ∙ c.prefix_of.ensures) (ap port_names (c.in_ok-ground.ensures.ports ∙ c.as_slice-ports.ensures))
    (ap (λ cs. copies_of (map copied_of cs)) c.in_ok-ground.ensures.copies) c.in_ok-ground.ensures.entries done
    ∙ ap (λ n. numbered (made (prefix_of i) (port_names i.ports) copies n entries) copies
    (through (with_port top (made (prefix_of i) (port_names i.ports) copies n entries)) (map port_of i.ports) first)) is_seen
    ∙ ap (λ b. numbered (made (prefix_of i) (port_names i.ports) copies (within (map unnumbered entries) []) entries) copies
    (through (with_port b (made (prefix_of i) (port_names i.ports) copies (within (map unnumbered entries) []) entries)) (map port_of i.ports) first)) c.is_top-top.ensures
    ∙ sym (instance_is i (map numbered_of c.args.met.now.signals))

use Rattle.std.proofs.Common.{map, sym, ap, ◌∙◌}
use Rattle.v_hierarchy.specs.Items.{inner}
use Rattle.v_hierarchy.specs.Views.{entry_of, copied_of, copies_of}
use Rattle.v_binding.specs.Names.{within}
use Rattle.v_binding.specs.Signals.{unnumbered, begun, ended, numbered, numbered_copy}
use Rattle.v_binding.specs.Seen.{names_in}
use Rattle.bind_scopes.specs.Views.{numbered_of}
use Rattle.bind_scopes.proofs.CopiedViews.{block_of_block}
use Rattle.bind_signals.specs.Scopings.{scoping, scoping_of}
use Rattle.bind_signals.specs.Grounds.{ground_in, around}
use Rattle.bind_signals.specs.Ported.{port_names}
use Rattle.bind_signals.proofs.ScopingLaws.{names_fit, taken_off}
use Rattle.bind_signals.proofs.GroundLaws.{block_numbered}
use Rattle.bind_signals.proofs.numbering.+numbering.Goals as goal

pub number_block-leave-requires : goal.number_block-leave-requires
number_block-leave-requires t c =
    names_fit c.len.result c.args.block.now.names (names_in c.args.met.now.seen) (names_in c.number_copies.new.met.seen) c.len.ensures
    (c.in_ok-number_copies.ensures.same ∙ c.in_ok-around.ensures.seen ∙ ap (λ xs. within (map unnumbered (map entry_of xs)) (names_in c.args.met.now.seen)) c.as_slice.ensures)

pub number_block-returns-clause-same : goal.number_block-returns-clause-same
number_block-returns-clause-same t c =
    c.in_ok-end.ensures.same
    ∙ taken_off c.len.result c.args.block.now.names (names_in c.args.met.now.seen) (names_in c.number_copies.new.met.seen) (names_in c.leave.new.self.seen) c.len.ensures
    (c.in_ok-number_copies.ensures.same ∙ c.in_ok-around.ensures.seen ∙ ap (λ xs. within (map unnumbered (map entry_of xs)) (names_in c.args.met.now.seen)) c.as_slice.ensures)
    c.leave.ensures.ok

pub number_block-returns-clause-ok : goal.number_block-returns-clause-ok
number_block-returns-clause-ok t c =
    let block = c.args.block.now in
    let ground = c.in_ok-ground.ground in
    let seen = names_in c.begin.new.self.seen in
    let copies = copies_of (map copied_of block.copies) in
    let begins = c.in_ok-around.ensures.begun ∙ ap (λ xs. begun (map entry_of xs) (map numbered_of c.args.met.now.signals)) c.as_slice.ensures in
    let done = c.in_ok-number_copies.ensures.ok
    ∙ ap (λ cs. numbered (ground_in ground seen) (copies_of (map copied_of cs)) (scoping_of c.begin.new.self)) c.as_slice-2.ensures
    ∙ ap (numbered (ground_in ground seen) copies) begins in
    c.in_ok-end.ensures.ok
    ∙ ap (λ own. ended own (scoping c.leave.new.self.signals c.in_ok-around.around)) c.leave.ensures.same
    ∙ ap (λ own. ended (scoping_of c.number_copies.new.met) (scoping c.leave.new.self.signals own)) c.in_ok-around.ensures.around
    ∙ block_numbered ground block.path (map entry_of block.names) copies (names_in c.args.met.now.seen) seen (scoping_of c.args.met.now) (scoping_of c.number_copies.new.met)
    c.in_ok-ground.ensures.prefix (ap port_names c.in_ok-ground.ensures.ports) (ap (λ cs. copies_of (map copied_of cs)) c.in_ok-ground.ensures.copies) c.in_ok-ground.ensures.entries
    (c.in_ok-around.ensures.seen ∙ ap (λ xs. within (map unnumbered (map entry_of xs)) (names_in c.args.met.now.seen)) c.as_slice.ensures) done
    ∙ sym (ap (λ b. numbered_copy (around (names_in c.args.met.now.seen)) (inner b) (scoping_of c.args.met.now)) (block_of_block block))

use Rattle.std.proofs.Common.{option_map}
use Rattle.v_syntax.specs.ModuleTree.{source_of}
use Rattle.v_hierarchy.specs.Views.{instances_of}
use Rattle.verilog_front_end.specs.Errors.{Refuses}
use Rattle.verilog_front_end.specs.Refusals.{IsRefusal}
use Rattle.verilog_front_end.proofs.Answers.{handed-on, stand, of-text, made}
use Rattle.verilog_front_end.proofs.design.design_of.Goals as goal

pub returns-in_err-tree-clause-err : goal.returns-in_err-tree-clause-err
returns-in_err-tree-clause-err c =
    let clock = option_map (λ n. n.now) c.args.clock in
    handed-on (Refuses (IsRefusal c.args.text.now c.args.top.now clock)) c.from_residual.result
    c.in_err-tree.field-0.0 c.from_residual.ensures.1
    (c.in_err-tree.ensures.err c.args.top.now clock)

pub returns-in_err-list-clause-err : goal.returns-in_err-list-clause-err
returns-in_err-list-clause-err c =
    let clock = option_map (λ n. n.now) c.args.clock in
    handed-on (Refuses (IsRefusal c.args.text.now c.args.top.now clock)) c.from_residual-in_err-list.result
    c.in_err-list.field-0.0 c.from_residual-in_err-list.ensures.1
    (c.in_err-list.ensures.err c.args.text.now clock c.in_ok-tree.ensures.ok)

pub meant_by-requires-clause-stands : goal.meant_by-requires-clause-stands
meant_by-requires-clause-stands c =
    stand c.args.text.now c.args.top.now (instances_of c.in_ok-list.list)
    (made c.args.text.now c.args.top.now (source_of c.in_ok-tree.tree) (instances_of c.in_ok-list.list)
    c.in_ok-tree.ensures.ok c.in_ok-list.ensures.ok)

pub meant_by-requires-clause-text : goal.meant_by-requires-clause-text
meant_by-requires-clause-text c =
    of-text c.args.text.now c.args.top.now (instances_of c.in_ok-list.list)
    (made c.args.text.now c.args.top.now (source_of c.in_ok-tree.tree) (instances_of c.in_ok-list.list)
    c.in_ok-tree.ensures.ok c.in_ok-list.ensures.ok)

pub returns-clause-err : goal.returns-clause-err
returns-clause-err c =
    c.meant_by.ensures.err c.args.text.now c.args.top.now
    (made c.args.text.now c.args.top.now (source_of c.in_ok-tree.tree) (instances_of c.in_ok-list.list)
    c.in_ok-tree.ensures.ok c.in_ok-list.ensures.ok)

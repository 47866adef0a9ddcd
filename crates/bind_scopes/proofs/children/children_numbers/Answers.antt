use Rattle.std.proofs.Common.{map, ap, ◌∙◌, arith}
use Rattle.std.specs.Prelude.{slice_get}
use Rattle.std.proofs.lemmas.List.{length-map}
use Rattle.v_hierarchy.specs.Views.{instance_of}
use Rattle.bind_scopes.specs.Children.{rows_of}
use Rattle.bind_scopes.proofs.ChildLaws.{each_row}
use Rattle.bind_scopes.proofs.children.children_numbers.Goals as goal

pub returns : goal.returns
returns c = λ n within.
    ap (λ rows. slice_get rows n) (c.from_vec.ensures ∙ c.in_ok-rows.ensures ∙ ap (λ list. rows_of (map instance_of list)) c.as_slice.ensures)
    ∙ each_row (map instance_of c.args.instances.now.list) n (omega (arith, within, length-map c.args.instances.now.list instance_of))

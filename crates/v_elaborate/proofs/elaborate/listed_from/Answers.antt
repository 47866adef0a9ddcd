use Rattle.std.proofs.Common.{List, map, ap}
use Rattle.v_scopes.specs.Units.{units_of}
use Rattle.v_scopes.proofs.GivenLaws.{passed_on}
use Rattle.v_hierarchy.specs.declared.instance.Instance.{Instance}
use Rattle.v_hierarchy.specs.Frames.{Refuses}
use Rattle.v_hierarchy.specs.Instances.{Found, most_left}
use Rattle.v_hierarchy.specs.Views.{child_of, instance_of}
use Rattle.v_elaborate.specs.Walking.{found_of, listed_from}
use Rattle.v_elaborate.proofs.WalkSteps.{listed-ok, listed-refuses}
use Rattle.v_elaborate.proofs.elaborate.listed_from.Goals as goal

abbrev begun : List Instance → Found
begun list = record { list = map instance_of list; left = most_left }

pub returns-in_err-walked-clause-err : goal.returns-in_err-walked-clause-err
returns-in_err-walked-clause-err c =
    let units = units_of c.args.units.now in
    let child = child_of c.args.top.now in
    passed_on (Refuses (listed_from units child)) _ _ c.from_residual.ensures.1
    (listed-refuses units child (begun c.new.result) c.in_err-walked.field-0.0 (ap begun c.new.ensures) c.in_err-walked.ensures.err)

pub returns-clause-ok : goal.returns-clause-ok
returns-clause-ok c =
    listed-ok (units_of c.args.units.now) (child_of c.args.top.now) (begun c.new.result) (found_of c.walked.new.self) (ap begun c.new.ensures) c.in_ok-walked.ensures.ok

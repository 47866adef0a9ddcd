use Rattle.std.proofs.Common.{map}
use Rattle.v_sizes.specs.Scopes.{look_of}
use Rattle.v_hierarchy.specs.Views.{entry_of}
use Rattle.v_scopes.specs.Outer.{around}
use Rattle.v_scopes.proofs.OutwardLaws.{restored-all, all-entered}
use Rattle.v_scopes.proofs.outward.put_back.Goals as goal

pub loop-entry-init : goal.loop-entry-init
loop-entry-init c = record {
  left = λ name. restored-all (map entry_of c.args.names.now) (around c.args.frames.now) name (look_of c.args.meanings.now name) (c.requires name);
  entered = all-entered c.args.meanings.now c.args.names.now (around c.args.frames.now) c.requires;
}

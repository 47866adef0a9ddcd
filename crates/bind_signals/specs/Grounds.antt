-- The scope where names get their numbers, as definitions have it.
use Rattle.std.specs.Prelude.{ℕ, if◌then◌else◌, List, [], map, Option, Some, None, option_map}
use Rattle.v_binding.specs.Names as plain
use Rattle.v_binding.specs.Signals as signals
use Rattle.v_syntax.specs.ItemTree.{PlainItem}
use Rattle.v_hierarchy.specs.Items.{written, inner, Block, no_copy}
use Rattle.v_hierarchy.specs.Frames as frame
use Rattle.v_hierarchy.specs.declared.instance.Instance.{Instance}
use Rattle.v_hierarchy.specs.Views.{instance_of, copied_of, copies_of}
use Rattle.bind_signals.specs.declared.ground.Ground.{Ground}
use Rattle.bind_signals.specs.Ported.{port_names}

-- where these names are seen from it
abbrev pub ground_in : Ground → plain.Names → signals.Ground
ground_in g names = record {
  prefix = option_map (λ p. p.now) g.prefix;
  ports = port_names g.ported.ports.now;
  entries = frame.names_of g.frame;
  copies = copies_of (map copied_of g.looped.copies.now);
  names = names;
}

-- ---- items as they are written, and the scopes inside
abbrev pub numbered_written : signals.Ground → PlainItem → signals.Scoping → signals.Scoping
numbered_written g item met = signals.numbered_copy g (written item) met

-- a scope of which these names are seen, and no more is said
abbrev pub around : plain.Names → signals.Ground
around names = record { prefix = None; ports = []; entries = []; copies = no_copy; names = names }

abbrev pub numbered_block : plain.Names → Block → signals.Scoping → signals.Scoping
numbered_block names block met = signals.numbered_copy (around names) (inner block) met

-- the path of the signals of an instance; those of the top are names alone
abbrev pub prefix_of : Instance → Option (List ℕ)
prefix_of i = if signals.is_top (instance_of i) then None else Some i.body.path

use Rattle.std.proofs.Common.{◌≡◌, ℕ, List, drop, map, true}
use Rattle.std.specs.Prelude.{All}
use Rattle.v_sizes.specs.Scopes.{look_of, has_entry}
use Rattle.v_hierarchy.specs.declared.standing.Entry.{Entry}
use Rattle.v_scopes.specs.Outer.{around}
use Rattle.v_hierarchy.specs.Names.{look_in}
use Rattle.v_hierarchy.specs.Views.{entry_of}
use Rattle.v_scopes.proofs.OutwardLaws.{restored}
use Rattle.v_scopes.proofs.outward.put_back.Given as goal

abbrev pub invariant-loop-entry : goal.invariant-loop-entry
invariant-loop-entry l = record {
  left : (name : List ℕ) → restored (map entry_of (drop l.entry-index l.names)) (look_in (around l.frames)) name (look_of l.meanings name) ≡ look_in (around l.frames) name;
  entered : All (λ (e : Entry). has_entry l.meanings e.name.now.name ≡ true) l.names;
}

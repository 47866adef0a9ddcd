use Rattle.std.proofs.Common.{◌∙◌, ap, sym, ◌++◌, ◌∷◌, [], ◌+◌, length, arith, subst, ◌≡◌}
use Rattle.std.specs.Prelude.{if◌then◌else◌, is_ok}
use Rattle.set_enum.proofs.Selecting.{selected-yes, selected-no, selected-room}
use Rattle.set_enum.proofs.selections.members_of.Goals as goal
use Rattle.set_enum.proofs.selections.members_of.Goals.{then-model-before, else-model-before}

pub unwrap-requires : goal.unwrap-requires
unwrap-requires c =
    c.push.ensures.succeeds
    (omega (
      arith,
      c.loop-before.room.ok.0,
      ap length c.loop-before.invariant.so_far,
      c.loop-before.invariant.enough,
      selected-room c.args.model.now c.args.n c.loop-before.before c.if-model-before.true c.loop-before-test.true,
    ))

pub loop-before-preserved : goal.loop-before-preserved
loop-before-preserved c = elim c.if-model-before.branch [
  | then-model-before w ↦ record {
    so_far = ap (λ room. room.items) w.room-is
        ∙ (subst (λ r. w.push.new.self.items ≡ (if is_ok r then c.loop-before.room.items ++ (c.loop-before.before + 1) ∷ [] else
        c.loop-before.room.items)) w.unwrap.ensures w.push.ensures.items
        ∙ (ap (λ xs. xs ++ (c.loop-before.before + 1) ∷ []) c.loop-before.invariant.so_far ∙ sym
        (selected-yes c.args.model.now c.loop-before.before w.if-model-before.true)));
    enough = rw w.room-is (omega (arith, w.push.ensures.capacity, c.loop-before.invariant.enough));
  }
  | else-model-before w ↦ record {
    so_far = ap (λ room. room.items) w.room-is ∙ (c.loop-before.invariant.so_far ∙ sym
        (selected-no c.args.model.now c.loop-before.before w.if-model-before.false));
    enough = rw w.room-is c.loop-before.invariant.enough;
  }
]

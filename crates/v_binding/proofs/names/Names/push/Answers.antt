use Rattle.std.proofs.Common.{reverse, sym, ap, ◌∙◌, subst}
use Rattle.v_sizes.specs.Scopes.{look_of}
use Rattle.v_sizes.specs.Table.{with_meaning, with_standing}
use Rattle.v_binding.specs.Names.{look_in}
use Rattle.v_binding.specs.declared.names.Held.{Held}
use Rattle.v_binding.specs.Held.{known_of, names_of, AreHeld}
use Rattle.v_binding.proofs.HeldLaws.{names_of-push, look-pushed, look-undone, entry-put, entries-put, held-grows, held-to-push}
use Rattle.v_binding.proofs.names.Names.push.Goals as goal

pub invariant_of-self-in-Ok : goal.invariant_of-self-in-Ok
invariant_of-self-in-Ok c =
    let h : Held = record { known = c.args.known; was = c.in_ok-was.was' } in
    record {
      looks = λ q.
          look-pushed (look_of c.args.self.now.scope) (look_of c.put.new.self) (look_of c.set.new.self) (known_of c.args.known) (names_of c.args.self.now.held)
          c.args.self.now.looks
          (λ r. c.in_ok-was.ensures.ok r ∙ ap (λ m. with_meaning c.args.known.name.now m (look_of c.args.self.now.scope) r) c.bare_meaning.ensures)
          (λ r. c.set.ensures.look r ∙ ap (λ m. with_standing c.args.known.name.now m (look_of c.put.new.self) r) c.meaning.ensures) q
          ∙ ap (λ ns. look_in ns q) (sym (ap names_of c.in-Ok.ensures.ok ∙ names_of-push c.args.self.now.held h));
      were = subst (λ xs. AreHeld c.set.new.self (reverse xs)) (sym c.in-Ok.ensures.ok)
          (held-to-push c.set.new.self c.args.self.now.held h (
            c.in_ok-was.ensures.was ∙ c.args.self.now.looks c.args.known.name.now,
            entry-put c.args.self.now.scope c.put.new.self c.set.new.self c.args.known.name.now c.in_ok-was.ensures.entries c.set.ensures.entries,
            held-grows c.args.self.now.scope c.set.new.self (reverse c.args.self.now.held)
                (entries-put c.args.self.now.scope c.put.new.self c.set.new.self c.args.known.name.now c.in_ok-was.ensures.entries c.set.ensures.entries)
                c.args.self.now.were,
          ));
    }

pub invariant_of-self-in-Err : goal.invariant_of-self-in-Err
invariant_of-self-in-Err c = record {
  looks = λ q.
      look-undone (look_of c.args.self.now.scope) (look_of c.put.new.self) (look_of c.set-in-Err.new.self) c.args.known.name.now c.bare_meaning.result c.in_ok-was.was'
      c.in_ok-was.ensures.was c.in_ok-was.ensures.ok c.set-in-Err.ensures.look q
      ∙ c.args.self.now.looks q ∙ ap (λ hs. look_in (names_of hs) q) (sym c.in-Err.ensures.err);
  were = subst (λ xs. AreHeld c.set-in-Err.new.self (reverse xs)) (sym c.in-Err.ensures.err)
      (held-grows c.args.self.now.scope c.set-in-Err.new.self (reverse c.args.self.now.held)
      (entries-put c.args.self.now.scope c.put.new.self c.set-in-Err.new.self c.args.known.name.now c.in_ok-was.ensures.entries c.set-in-Err.ensures.entries)
      c.args.self.now.were);
}

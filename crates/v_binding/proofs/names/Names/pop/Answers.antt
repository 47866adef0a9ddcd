use Rattle.std.proofs.Common.{reverse, sym, ap, ◌∙◌, subst}
use Rattle.v_sizes.specs.Scopes.{look_of}
use Rattle.v_binding.specs.Names.{look_in}
use Rattle.v_binding.specs.Held.{known_of, names_of, AreHeld}
use Rattle.v_binding.proofs.HeldLaws.{names_of-push, look-popped, found-stands, held-grows, held-of-push}
use Rattle.v_binding.proofs.names.Names.pop.Goals as goal

pub set-requires-clause-stands : goal.set-requires-clause-stands
set-requires-clause-stands c = λ m is.
    let held = held-of-push c.args.self.now.scope c.pop.new.self c.in-Some.field-0
    (subst (λ xs. AreHeld c.args.self.now.scope (reverse xs)) c.in-Some.ensures c.args.self.now.were) in
    found-stands (reverse c.pop.new.self) c.in-Some.field-0.known.name.now m (sym held.0 ∙ is)

pub invariant_of-self : goal.invariant_of-self
invariant_of-self c =
    let held = held-of-push c.args.self.now.scope c.pop.new.self c.in-Some.field-0
    (subst (λ xs. AreHeld c.args.self.now.scope (reverse xs)) c.in-Some.ensures c.args.self.now.were) in
    record {
      looks = look-popped (look_of c.args.self.now.scope) (look_of c.set.new.self) (known_of c.in-Some.field-0.known) (names_of c.pop.new.self) c.in-Some.field-0.was
          (λ q. c.args.self.now.looks q ∙ ap (λ ns. look_in ns q) (ap names_of c.in-Some.ensures ∙ names_of-push c.pop.new.self c.in-Some.field-0))
          held.0 c.set.ensures.look;
      were = held-grows c.args.self.now.scope c.set.new.self (reverse c.pop.new.self) (λ q there. c.set.ensures.entries q ∙ there) held.2;
    }

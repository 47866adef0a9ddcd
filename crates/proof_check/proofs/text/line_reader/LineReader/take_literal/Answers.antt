use Rattle.std.proofs.Common.{◌≡◌, ◌∷◌, ◌++◌, [], ℕ, Bool, List, true, false, get_or, set, sym, ap, ◌∙◌}
use Rattle.clause_base.specs.Literal.{has_variable}
use Rattle.proof_check.proofs.Seen.{see_more, distinct_more}
use Rattle.proof_check.proofs.text.line_reader.LineReader.take_literal.Goals as goal

pub invariant_of-self-2 : goal.invariant_of-self-2
invariant_of-self-2 c =
    let old = c.self.inside.literals.items in
    let x = c.in-Some.literal in
    let unseen : get_or c.self.inside.seen.items x.var false ≡ false =
    sym (c.is_seen.ensures ∙ ap (λ (s : List Bool). get_or s x.var false) c.deref.ensures.value) ∙ c.if-is_seen.false in
    let new : has_variable old x.var ≡ false = sym (c.self.invariant.seen x.var) ∙ unseen in
    let seen : (v : ℕ) → get_or (set c.make_place.new.seen.items x.var true) v false ≡ has_variable (old ++ x ∷ []) v =
    see_more c.self.inside.seen.items c.make_place.new.seen.items old x c.make_place.ensures.same c.self.invariant.seen c.in_ok-make_place.ensures.place in
    record {
      seen = rw c.in_ok-push.ensures.items seen;
      distinct = rw c.in_ok-push.ensures.items (distinct_more old x c.self.invariant.distinct new);
    }

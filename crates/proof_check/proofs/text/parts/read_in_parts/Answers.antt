use Rattle.std.proofs.Common.{◌≡◌, [], List, length, get_or, sym, subst, arith, Option, Result}
use Rattle.loc_base.specs.declared.memory.NoMemory.{NoMemory}
use Rattle.clause_base.specs.declared.log.Step.{Step}
use Rattle.proof_check.specs.declared.text.parts.Part.{Part}
use Rattle.proof_check.specs.Parts.{Joined}
use Rattle.proof_check.proofs.Parts.{AreAnswers, part-found, parts-joined, text-none}
use Rattle.proof_check.proofs.text.parts.read_in_parts.Goals as goal

pub returns-then-branch : goal.returns-then-branch
returns-then-branch g c =
    let text = c.args.text.now in
    let parts : List Part = c.in_ok-parts.parts.items in
    let answers : List (Result (Option (List Step)) NoMemory) = c.in_ok-read.read.items in
    let lent : c.deref.result.now ≡ parts = c.deref.ensures.value in
    let read : c.deref-2.result.now ≡ answers = c.deref-2.ensures.value in
    let same : length answers ≡ length parts = omega (arith, c.in_ok-read.ensures.len) in
    let joined : Joined answers [] c.join.new.log =
    subst (λ (list : List (Result (Option (List Step)) NoMemory)). Joined list [] c.join.new.log) read (subst (λ (old : List Step). Joined c.deref-2.result.now old c.join.new.log) c.new-log.ensures (c.in_ok-join.ensures c.if-branch.true)) in
    let found : AreAnswers text c.deref.result.now answers = λ k part answer within.
    let given = (c.in_ok-read.ensures.each k answer (omega (arith, same, within))).1 in
    part-found text c.deref.result.now k given.argument.now given.argument_is part (get_or answers k answer) given.call in
    parts-joined text 0 parts answers [] c.join.new.log same (subst (λ (list : List Part). AreAnswers text list answers) lent found)
    c.in_ok-parts.ensures.parts c.in_ok-parts.ensures.cover (text-none text) joined

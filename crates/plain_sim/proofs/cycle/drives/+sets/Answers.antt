use Rattle.std.proofs.Common.{◌∙◌, ap, sym, List}
use Rattle.std.specs.Prelude.{Bool, ◌||◌}
use Rattle.std.specs.List.{list_any}
use Rattle.design_core.specs.declared.statement.Part.{Part}
use Rattle.design_core.specs.Drives.{some_set}
use Rattle.design_core.proofs.StatementSteps.{sets_if}
use Rattle.plain_sim.specs.EvaluateCycle.{asked_of, item_passes}
use Rattle.plain_sim.proofs.EvaluateDrives.{block-sets, case-sets}
use Rattle.plain_sim.proofs.cycle.drives.+sets.Goals as goal

pub some_set-returns-in-Block : goal.some_set-returns-in-Block
some_set-returns-in-Block t c =
    let test : List Part → Bool → Bool = asked_of c.args.signals.now c.args.asked in
    rw c.in-Block.is (c.some_set_of.ensures ∙ ap (list_any (some_set test)) c.deref.ensures ∙ sym (block-sets test c.in-Block.statements))

pub some_set-returns-then-some_set_in : goal.some_set-returns-then-some_set_in
some_set-returns-then-some_set_in t c =
    let test : List Part → Bool → Bool = asked_of c.args.signals.now c.args.asked in
    rw c.in-Case.is
    (c.if-some_set_in.true
    ∙ ap (λ b. b || some_set test c.in-Case.other) (c.if-some_set_in.ensures ∙ ap (list_any (item_passes test)) c.deref-in-Case.ensures)
    ∙ sym (case-sets test c.in-Case.subject c.in-Case.items c.in-Case.other c.in-Case.wild))

pub some_set-returns-else-some_set_in : goal.some_set-returns-else-some_set_in
some_set-returns-else-some_set_in t c =
    let test : List Part → Bool → Bool = asked_of c.args.signals.now c.args.asked in
    rw c.in-Case.is
    (c.some_set-else-some_set_in.ensures
    ∙ ap (some_set test) c.deref-else-some_set_in.ensures
    ∙ ap (λ b. b || some_set test c.in-Case.other) (c.if-some_set_in.ensures ∙ ap (list_any (item_passes test)) c.deref-in-Case.ensures)
    ∙ sym (case-sets test c.in-Case.subject c.in-Case.items c.in-Case.other c.in-Case.wild))

pub some_set-returns-in-If : goal.some_set-returns-in-If
some_set-returns-in-If t c =
    let test : List Part → Bool → Bool = asked_of c.args.signals.now c.args.asked in
    rw c.in-If.is
    (ap (λ b. b || c.some_set-in-If.result) (c.some_set.ensures ∙ ap (some_set test) c.deref-in-If.ensures)
    ∙ ap (λ b. some_set test c.in-If.yes || b) (c.some_set-in-If.ensures ∙ ap (some_set test) c.deref-in-If-2.ensures)
    ∙ sym (sets_if test c.in-If.cond c.in-If.yes c.in-If.no))

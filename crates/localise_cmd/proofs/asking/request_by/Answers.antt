use Rattle.localise_cmd.proofs.asking.request_by.Goals as goal

pub returns-clause-gives : goal.returns-clause-gives
returns-clause-gives g c =
    let gives = rw c.deref.ensures.value at c.request.ensures.gives in rw c.in_ok-known.ensures at gives

use Rattle.std.proofs.Common.{◌∙◌, List, ℕ, Err, subst}
use Rattle.std.specs.Prelude.{string_bytes}
use Rattle.std.proofs.lemmas.Result.{err_from_is_err_and}
use Rattle.set_waves.specs.Writes.{text_writes}
use Rattle.write_order.specs.Writes.{AreDone, Leaves, on_shelf}
use Rattle.write_order.proofs.Carried.{leaves-then}
use Rattle.list_writer.proofs.Pairs.{leaves-within}
use Rattle.list_writer.proofs.listing.saving.Texts.put.Goals as goal

pub returns-in_err-put_text-clause-left : goal.returns-in_err-put_text-clause-left
returns-in_err-put_text-clause-left g c =
    let p = err_from_is_err_and c.from_residual.result c.from_residual.ensures.1 in
    rw (p.1, p.2) (λ told printed.
    let log : List ℕ = c.args.self.now.log.items in
    let o = on_shelf (g.S.Shelf.written c.args.shelf.now) (g.S.Shelf.written c.put_text.new.shelf) printed in
    leaves-within (text_writes (string_bytes c.args.names.now.log) log) (text_writes (string_bytes c.args.names.now.report) c.args.self.now.report) o
    c.in_err-put_text.field-0.0
    (subst (λ (n : List ℕ). Leaves {X = Unit {0}} (text_writes n log) o (Err c.in_err-put_text.field-0.0)) c.as_str.ensures.value
    (subst (λ (t : List ℕ). Leaves {X = Unit {0}} (text_writes c.as_str.result.now t) o (Err c.in_err-put_text.field-0.0)) c.deref.ensures.value
    (c.in_err-put_text.ensures.left told printed))))

pub returns-clause-left : goal.returns-clause-left
returns-clause-left g c = λ told printed.
    let log : List ℕ = c.args.self.now.log.items in
    let report : List ℕ = c.args.self.now.report in
    let w0 = g.S.Shelf.written c.args.shelf.now in
    let w1 = g.S.Shelf.written c.put_text.new.shelf in
    let w2 = g.S.Shelf.written c.put_text-2.new.shelf in
    leaves-then {X = Unit {0}} (text_writes (string_bytes c.args.names.now.log) log) (text_writes (string_bytes c.args.names.now.report) report)
    w0 w1 w2 printed printed printed c.put_text-2.result
    (subst (λ (n : List ℕ). AreDone (text_writes n log) (on_shelf w0 w1 printed)) c.as_str.ensures.value
    (subst (λ (t : List ℕ). AreDone (text_writes c.as_str.result.now t) (on_shelf w0 w1 printed)) c.deref.ensures.value
    (c.in_ok-put_text.ensures.left told printed)))
    (subst (λ (n : List ℕ). Leaves (text_writes n report) (on_shelf w1 w2 printed) c.put_text-2.result) c.as_str-2.ensures.value
    (subst (λ (t : List ℕ). Leaves (text_writes c.as_str-2.result.now t) (on_shelf w1 w2 printed) c.put_text-2.result) c.as_slice.ensures
    (c.put_text-2.ensures.left (c.in_ok-put_text.ensures.tells ∙ told) printed)))

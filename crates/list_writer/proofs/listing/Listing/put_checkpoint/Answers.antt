use Rattle.std.proofs.Common.{[], Err, List}
use Rattle.std.specs.Prelude.{string_bytes}
use Rattle.std.proofs.lemmas.Result.{err_from_is_err_and}
use Rattle.report_doc.specs.declared.types.Ending.TheVariants.{Budget}
use Rattle.write_order.specs.Writes.{AreDone, Leaves, Write, on_shelf}
use Rattle.list_writer.specs.CheckpointNames.{log_name, report_name}
use Rattle.list_writer.specs.Jobs.{asked_of}
use Rattle.list_writer.specs.Saving.{now_log}
use Rattle.list_writer.specs.Texts.{report_of}
use Rattle.list_writer.proofs.Saved.{same-texts, write-fails}
use Rattle.list_writer.proofs.listing.Listing.put_checkpoint.Goals as goal

pub returns-in_err-put-clause-left : goal.returns-in_err-put-clause-left
returns-in_err-put-clause-left g c =
    let p = err_from_is_err_and c.from_residual.result c.from_residual.ensures.1 in
    rw (p.1, p.2) (λ told.
    let asked = asked_of c.args.self.now.job in
    let s = g.D.Search.state c.args.self.now.search in
    let found = c.args.self.now.found.items in
    let pair = c.args.saves.now.next in
    let prefix = c.args.prefix.now in
    let was = g.S.Shelf.written c.args.shelf.now in
    let is = g.S.Shelf.written c.put.new.shelf in
    write-fails asked s found pair pair was is prefix c.requires.asks c.in-Ok.ensures.savable c.in_err-put.field-0.0
    (same-texts (λ (ws : List Write). Leaves {X = Unit {0}} ws (on_shelf was is []) (Err c.in_err-put.field-0.0))
    (string_bytes c.in-Ok-names_of.names.log) (log_name prefix pair) c.in-Ok.texts.log.items (now_log asked s)
    (string_bytes c.in-Ok-names_of.names.report) (report_name prefix pair) c.in-Ok.texts.report (report_of asked found Budget)
    c.in-Ok-names_of.ensures.log c.in-Ok.ensures.log c.in-Ok-names_of.ensures.report c.in-Ok.ensures.report
    (c.in_err-put.ensures.left told [])))

pub returns-clause-left : goal.returns-clause-left
returns-clause-left g c = λ told.
    let asked = asked_of c.args.self.now.job in
    let s = g.D.Search.state c.args.self.now.search in
    let found = c.args.self.now.found.items in
    let pair = c.args.saves.now.next in
    let prefix = c.args.prefix.now in
    let was = g.S.Shelf.written c.args.shelf.now in
    let is = g.S.Shelf.written c.put.new.shelf in (
      record {
        prefix = prefix;
        asks = c.requires.asks;
        savable = c.in-Ok.ensures.savable;
        left = same-texts (λ (ws : List Write). AreDone ws (on_shelf was is []))
            (string_bytes c.in-Ok-names_of.names.log) (log_name prefix pair) c.in-Ok.texts.log.items (now_log asked s)
            (string_bytes c.in-Ok-names_of.names.report) (report_name prefix pair) c.in-Ok.texts.report (report_of asked found Budget)
            c.in-Ok-names_of.ensures.log c.in-Ok.ensures.log c.in-Ok-names_of.ensures.report c.in-Ok.ensures.report
            (c.in_ok-put.ensures.left told []);
      },
      c.behind.ensures,
    )
